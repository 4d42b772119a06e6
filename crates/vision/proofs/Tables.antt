-- The table of a smooth cost.
use Rattle.std.proofs.Common.{◌≡◌, ℕ, List, ℤ, sym, subst}
use Rattle.cost_store.specs.Promises.{IsTable}
use Rattle.run_options.specs.Shapes.{shape_cost, shape_table}
use Rattle.run_options.specs.declared.shape.Shape.{Shape}
use Rattle.run_options.proofs.Tables.{table_long, table_entry}

pub shape_table_is : (shape : Shape) (k most : ℕ) (table : List ℤ) → table ≡ shape_table shape k most → IsTable k k (shape_cost shape most) table
shape_table_is shape k most table is =
    let P : List ℤ → Type 0 = λ t. IsTable k k (shape_cost shape most) t in
    subst P (sym is) (record { size = table_long shape k most; each = λ a b la lb. table_entry shape k most a b la lb })
