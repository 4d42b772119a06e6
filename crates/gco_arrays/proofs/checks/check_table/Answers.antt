use Rattle.std.proofs.Common.{◌≡◌, ◌≤◌, ℕ, ℤ, Bool, false, IsTrue, All, map, take, get_or, pos, refl, rules, sym, subst, w64, FitsSigned, to_z, of_z}
use Rattle.std.proofs.lemmas.Int.{to_z-of_z}
use Rattle.std.proofs.lemmas.Option.{slice_get-get_or}
use Rattle.std.proofs.lemmas.List.{length-map, take_all}
use Rattle.std.proofs.lemmas.List.Elements.{All-more}
use Rattle.cost_store.specs.Promises.{IsCost}
use Rattle.gco_arrays.proofs.Numbers.{inside_numbers, number_at}
use Rattle.gco_arrays.proofs.checks.check_table.Goals as goal

-- a number that is no cost, told so by a test, is none as an entry
no_cost : (most z entry : ℤ) (answer : Bool) → z ≡ entry → (IsCost most z → IsTrue answer) → answer ≡ false → ¬ IsCost most entry
no_cost most z entry answer is told failed cost =
    let P : ℤ → Type 0 = λ y. IsCost most y in
    let truly = told (subst P (sym is) cost) in cc

pub loop-index-preserved : goal.loop-index-preserved
loop-index-preserved g c =
    let value = g.N.Number.value in
    let most = to_z w64 (of_z w64 c.args.most) in
    let fits : FitsSigned w64 c.wide.result = record { sfits = search rules } in
    let told = rw (to_z-of_z w64 c.wide.result fits) at (c.is_cost.ensures.0 c.if-not-is_cost.false) in
    let P : ℤ → Type 0 = λ z. IsCost most z in
    All-more (IsCost most) (map value c.args.table.now) c.loop-index.index (pos 0)
    (inside_numbers value c.args.table.now c.loop-index.index c.loop-index-test.true) c.loop-index.invariant
    (subst P
    (number_at value c.args.table.now c.loop-index.index c.index-table-index.result c.wide.result c.loop-index-test.true c.index-table-index.is c.wide.ensures)
    told)

pub returns-clause-fits : goal.returns-clause-fits
returns-clause-fits g c =
    let value = g.N.Number.value in
    let L : ℕ → Type 0 = λ n. n ≤ c.loop-index.index in
    let ended = subst L (sym (length-map c.args.table.now value)) c.loop-index-test.false in
    let Q : ℤ → Type 0 = λ m. All (IsCost m) (map value c.args.table.now) in (
      (λ ok. (let all = rw (take_all c.loop-index.index (map value c.args.table.now) ended) at c.loop-index.invariant in
          subst Q (to_z-of_z w64 c.args.most c.ranges.most) all)),
      λ all. refl,
    )

pub returns-then-not-is_cost-clause-first : goal.returns-then-not-is_cost-clause-first
returns-then-not-is_cost-clause-first g c =
    let value = g.N.Number.value in
    let fits : FitsSigned w64 c.wide.result = record { sfits = search rules } in
    let Q : ℤ → Type 0 = λ m. All (IsCost m) (take c.loop-index.index (map value c.args.table.now)) in record {
      place = c.loop-index.index;
      is = refl;
      failing = get_or (map value c.args.table.now) c.loop-index.index (pos 0);
      here =
          slice_get-get_or (map value c.args.table.now) c.loop-index.index (pos 0)
          (inside_numbers value c.args.table.now c.loop-index.index c.loop-index-test.true);
      fails =
          no_cost c.args.most c.wide.result (get_or (map value c.args.table.now) c.loop-index.index (pos 0)) c.is_cost.result
          (number_at value c.args.table.now c.loop-index.index c.index-table-index.result c.wide.result c.loop-index-test.true c.index-table-index.is c.wide.ensures)
          (rw (to_z-of_z w64 c.wide.result fits, to_z-of_z w64 c.args.most c.ranges.most) at c.is_cost.ensures.1) c.if-not-is_cost.true;
      before = subst Q (to_z-of_z w64 c.args.most c.ranges.most) c.loop-index.invariant;
    }

pub returns-then-not-is_cost-clause-fits : goal.returns-then-not-is_cost-clause-fits
returns-then-not-is_cost-clause-fits g c =
    let value = g.N.Number.value in
    let fits : FitsSigned w64 c.wide.result = record { sfits = search rules } in
    let fails = no_cost c.args.most c.wide.result (get_or (map value c.args.table.now) c.loop-index.index (pos 0)) c.is_cost.result
    (number_at value c.args.table.now c.loop-index.index c.index-table-index.result c.wide.result c.loop-index-test.true c.index-table-index.is c.wide.ensures)
    (rw (to_z-of_z w64 c.wide.result fits, to_z-of_z w64 c.args.most c.ranges.most) at c.is_cost.ensures.1) c.if-not-is_cost.true in (
      λ ok. absurd (let no = ok in cc),
      λ all. absurd (fails (all c.loop-index.index (pos 0) (inside_numbers value c.args.table.now c.loop-index.index c.loop-index-test.true))),
    )
