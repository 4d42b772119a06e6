use Rattle.std.proofs.lemmas.Grind.{common_steps}
use Rattle.std.proofs.Common.{arith, ◌≤◌, ◌∙◌, ap, map, sum, length, pos, ◌-ℤ◌, unsigned_abs}
use Rattle.compile_cut.specs.Weights.{sink_part}
use Rattle.sums.proofs.IntegerSumLemmas.{abs-sub}
use Rattle.compile_cut.proofs.PartLemmas.{passed_is}
use Rattle.compile_cut.proofs.CapacityLemmas.{capacities_size, compiled_value, is_net, one_sided}
use Rattle.compile_cut.proofs.capacities.net_of.Goals as goal

pub less_all-constant-requires-clause-numbers : goal.less_all-constant-requires-clause-numbers
less_all-constant-requires-clause-numbers c =
    let ws = c.args.form.weights.items in
    rw (c.as_slice-3.ensures.value, c.in_ok-sinks.ensures, c.as_slice-2.ensures.value)
    (omega (arith, capacities_size ws, c.requires.bounded.size))

pub new-requires : goal.new-requires
new-requires c =
    let ws = c.args.form.weights.items in
    let len : length ws ≤ 10485760 = omega (arith, c.args.form.weights.ok.0, c.requires.len) in
    rw (c.in_ok-sources.ensures, c.as_slice.ensures.value, c.in_ok-sinks.ensures, c.as_slice-2.ensures.value)
    (is_net ws c.args.form.arcs.items len (rw c.args.form.weights.ok.0 at c.requires.bounded.arcs) (omega (arith, c.requires.bounded.size)))

pub returns-clause-value : goal.returns-clause-value
returns-clause-value c x =
    let ws = c.args.form.weights.items in
    let k = c.args.form.constant in
    let sinks = c.as_slice-3.ensures.value ∙ c.in_ok-sinks.ensures ∙ ap (map sink_part) c.as_slice-2.ensures.value in
    let small : unsigned_abs k ≤ 1000000000000000000 = omega (arith, c.requires.bounded.constant) in
    let constant = rw (sinks, passed_is k small) at c.less_all-constant.ensures.value in
    let size : unsigned_abs (k -ℤ pos (sum (map sink_part ws))) ≤ 1000000000000000000 =
    omega (arith, abs-sub k (pos (sum (map sink_part ws))), capacities_size ws, c.requires.bounded.size, c.requires.bounded.constant) in
    rw (constant, passed_is (k -ℤ pos (sum (map sink_part ws))) size, c.new.ensures, c.in_ok-sources.ensures, c.as_slice.ensures.value, c.in_ok-sinks.ensures, c.as_slice-2.ensures.value)
    (compiled_value ws c.args.form.arcs.items k x)

pub returns-clause-limits : goal.returns-clause-limits
returns-clause-limits c =
    let ws = c.args.form.weights.items in
    let len : length ws ≤ 10485760 = omega (arith, c.args.form.weights.ok.0, c.requires.len) in
    rw (c.new.ensures, c.in_ok-sources.ensures, c.as_slice.ensures.value, c.in_ok-sinks.ensures, c.as_slice-2.ensures.value)
    (is_net ws c.args.form.arcs.items len (rw c.args.form.weights.ok.0 at c.requires.bounded.arcs) (omega (arith, c.requires.bounded.size)))

pub returns-clause-total : goal.returns-clause-total
returns-clause-total c =
    rw (c.new.ensures, c.in_ok-sources.ensures, c.as_slice.ensures.value, c.in_ok-sinks.ensures, c.as_slice-2.ensures.value)
    (omega (arith, capacities_size c.args.form.weights.items))

pub returns-clause-one_sided : goal.returns-clause-one_sided
returns-clause-one_sided c v =
    rw (c.new.ensures, c.in_ok-sources.ensures, c.as_slice.ensures.value, c.in_ok-sinks.ensures, c.as_slice-2.ensures.value)
    (one_sided c.args.form.weights.items v)

pub returns-clause-nodes : goal.returns-clause-nodes
returns-clause-nodes c = grind (arith, common_steps)
