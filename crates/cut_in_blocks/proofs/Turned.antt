-- A turn over the core's ways is a run of the core.
use Rattle.std.proofs.Common.{◌≡◌, ℕ, List, [], length, refl, sym, ap, subst, arith}
use Rattle.std.proofs.lemmas.List.{append-nil}
use Rattle.block_events.specs.declared.message.Message.{Message}
use Rattle.block_net.specs.Views.{CellsView}
use Rattle.block_state.specs.AllWays.{AllWaysView}
use Rattle.block_discharge.specs.Steps.{turn_view, DoesMany}
use Rattle.cut_in_blocks.specs.TurnEvents.{IsTurned}
use Rattle.cut_in_blocks.proofs.Runs.{turn_is_run, turned_ways}
use Rattle.cut_in_blocks.specs.WayEnds.{WayEndsView, first_to, first_from, now_from, seen_by, IsEnds}
use Rattle.cut_in_blocks.specs.Turns.{IsTurnFrom, ReachesFrom}
use Rattle.cut_in_blocks.proofs.Ending.{with_now, beyond, before}

-- ends that were just made
abbrev pub fresh : WayEndsView → WayEndsView
fresh e = with_now e e.first

none_yet : (e : WayEndsView) (c : ℕ) → ((seen_by (fresh e)).sent c ≡ []) × ((seen_by (fresh e)).taken c ≡ [])
none_yet e c = (beyond (first_to e c) [] (first_to e c) (sym (append-nil (first_to e c))), before (first_from e c) [] (first_from e c) refl)

reached : (e : WayEndsView) (now : AllWaysView) (n : ℕ) (old new : CellsView) → IsEnds (with_now e now)
    → DoesMany (turn_view old (seen_by (fresh e))) n (turn_view new (seen_by (with_now e now)))
    → ReachesFrom e.blocks e.block n old new e.first.messages now.messages
reached e now n old new kept many w got size seat sound =
    let e' = with_now e now in
    let runs = turn_is_run w e.block got n (turn_view old (seen_by (fresh e))) (turn_view new (seen_by e')) (now_from e') e.first.messages seat sound (none_yet e) many
    (λ c lc off. kept.takes c (omega (arith, lc, size)) off) in
    let turned : IsTurned (length w.blocks) e.block (seen_by e').sent (now_from e') e.first.messages now.messages =
    subst (λ k. IsTurned k e.block (seen_by e').sent (now_from e') e.first.messages now.messages) (sym size) kept.turned in
    let same : runs.ways' ≡ now.messages = turned_ways (length w.blocks) e.block (seen_by e').sent (now_from e') e.first.messages runs.ways' now.messages runs.turned turned in
    subst (λ (q : List (List (List Message))). IsTurnFrom w e.block got n old new e.first.messages q) same (record {
      events = runs.events;
      number = runs.number;
      got' = runs.got';
      run = runs.run;
      seated = runs.seated;
      sound = runs.sound;
      lower = runs.lower;
    })

-- the other ends are the same but for the ways
pub same_ends : (e e' : WayEndsView) → fresh e' ≡ fresh e → e' ≡ with_now e e'.now
same_ends e e' same = ap (λ (q : WayEndsView). with_now q e'.now) same

pub turned_over : (e e' : WayEndsView) (n : ℕ) (old new : CellsView) → e.now ≡ e.first → fresh e' ≡ fresh e → IsEnds e'
    → DoesMany (turn_view old (seen_by e)) n (turn_view new (seen_by e'))
    → ReachesFrom e.blocks e.block n old new e.now.messages e'.now.messages
turned_over e e' n old new just same kept many =
    let is = same_ends e e' same in
    let is' : e ≡ fresh e = ap (with_now e) just in
    let kept' = subst IsEnds is kept in
    let many' = subst (λ (q : WayEndsView). DoesMany (turn_view old (seen_by q)) n (turn_view new (seen_by (with_now e e'.now)))) is'
    (subst (λ (q : WayEndsView). DoesMany (turn_view old (seen_by e)) n (turn_view new (seen_by q))) is many) in
    subst (λ (q : AllWaysView). ReachesFrom e.blocks e.block n old new q.messages e'.now.messages) (sym just) (reached e e'.now n old new kept' many')
