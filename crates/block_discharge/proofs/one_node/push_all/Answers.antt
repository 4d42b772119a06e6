use Rattle.std.proofs.Common.{◌≡◌, ℕ, ◌+◌, inl, inr, List, slice_index, sym, ◌∙◌, ap, subst, arith}
use Rattle.std.proofs.lemmas.Bool.{cases_lt, false≢true}
use Rattle.block_net.specs.Views.{CellsView}
use Rattle.block_net.specs.Views.{MayPush}
use Rattle.block_discharge.specs.Active.{IsActiveInBlock}
use Rattle.block_discharge.proofs.Runs.{no_seen, does_more}
use Rattle.block_discharge.proofs.one_node.push_all.Goals as goal

pub is_active-requires : goal.is_active-requires
is_active-requires c = omega (arith, c.requires.node, (c.lanes.invariant.does no_seen).alike.count)

pub returns-then-not-is_active-clause-idle : goal.returns-then-not-is_active-clause-idle
returns-then-not-is_active-clause-idle c = λ none some j on.
    let same = ((c.lanes.invariant.does no_seen).still none).0 in
    let active : IsActiveInBlock c.lanes.cells.block c.args.v = subst (λ (b : CellsView). IsActiveInBlock b c.args.v) (sym same) on.0 in
    false≢true (sym c.if-not-is_active.true ∙ c.is_active.ensures.1 active)

pub try_push-count-requires-clause-lane : goal.try_push-count-requires-clause-lane
try_push-count-requires-clause-lane c =
    let alike = (c.lanes.invariant.does no_seen).alike in
    let here = ap (λ (xs : List ℕ). slice_index xs c.args.v) alike.starts in
    let next = ap (λ (xs : List ℕ). slice_index xs (c.args.v + 1)) alike.starts in
    record {
      low = omega (arith, here, c.range-first.ensures.first, c.lanes.auto.j);
      high = omega (arith, next, c.range-first.ensures.end, c.lanes-test.true);
    }

pub try_push-count-requires-clause-place : goal.try_push-count-requires-clause-place
try_push-count-requires-clause-place c = omega (arith, c.range-first.ensures.limit, c.lanes-test.true, (c.lanes.invariant.does no_seen).alike.lanes)

pub lanes-preserved : goal.lanes-preserved
lanes-preserved c =
    let old = c.args.cells.now.block in
    let inv = c.lanes.invariant in
    let told = c.try_push-count.ensures in
    record {
      few = omega arith;
      does = λ s. does_more old c.lanes.cells.block c.try_push-count.new.cells.block s s s c.lanes.count c.try_push-count.result (inv.does s) (told.does s);
      same = λ none. told.still (omega arith) ∙ inv.same (omega arith);
      idle = λ none i low high. elim (cases_lt i c.lanes.j) [
        | inl before ↦ inv.idle (omega arith) i low before
        | inr last ↦
            let zero' : c.lanes.count ≡ 0 = omega arith in
            let same = ((inv.does no_seen).still zero').0 in
            let here : i ≡ c.lanes.j = omega arith in
            let off = told.idle (omega arith) in
            λ may. off (subst (λ (b : CellsView). MayPush b c.args.v c.lanes.j) (sym same) (subst (λ (k : ℕ). MayPush old c.args.v k) here may))
      ];
    }
