use Rattle.std.proofs.Common.{arith}
use Rattle.toml.specs.View.{table_view, view}
use Rattle.problem_files.proofs.LabelItemLemmas.{pairs_found, too_many_pairs}
use Rattle.problem_files.proofs.pairs.pairs_in.Goals as goal

pub returns-then-len-gt-PAIR_LIMIT-clause-refused : goal.returns-then-len-gt-PAIR_LIMIT-clause-refused
returns-then-len-gt-PAIR_LIMIT-clause-refused c =
    λ memory. too_many_pairs c.args.sites (table_view c.args.table.now) (view c.in-Some.value.now)
    c.in-Some-as_array.items.now.items c.in-Some.ensures c.in-Some-as_array.ensures (omega arith)

pub returns-in-Err-clause-refused : goal.returns-in-Err-clause-refused
returns-in-Err-clause-refused c =
    let found = pairs_found c.args.sites (table_view c.args.table.now) (view c.in-Some.value.now)
    c.in-Some-as_array.items.now.items c.in-Some.ensures c.in-Some-as_array.ensures (omega arith) in
    rw found (rw c.new-pairs.ensures at c.in-Err.ensures.refused)

pub returns-in-Ok-clause-ok : goal.returns-in-Ok-clause-ok
returns-in-Ok-clause-ok c =
    let found = pairs_found c.args.sites (table_view c.args.table.now) (view c.in-Some.value.now)
    c.in-Some-as_array.items.now.items c.in-Some.ensures c.in-Some-as_array.ensures (omega arith) in
    rw found (rw c.new-pairs.ensures at c.in-Ok.ensures.ok)
