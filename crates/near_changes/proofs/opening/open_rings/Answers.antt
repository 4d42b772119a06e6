use Rattle.std.proofs.Common.{◌<◌, ℕ, List, All, ap, sym, subst}
use Rattle.move_energy.specs.declared.choice.Choice.{Choice}
use Rattle.near_changes.specs.Working.{OpensWithin}
use Rattle.near_changes.proofs.Opens.{opens_then}
use Rattle.near_changes.proofs.opening.open_rings.Goals as goal
use Rattle.near_changes.proofs.opening.open_rings.Goals.{then-to-rings+in_ok-open_ring, else-to-rings}

pub loop-preserved : goal.loop-preserved
loop-preserved c =
    let a = c.args in
    let first = a.choices.now.items in
    let invariant = c.loop.invariant in
    let O : List Choice → Type 0 = λ xs. OpensWithin a.window first xs in
    let A : List ℕ → Type 0 = λ xs. All (λ p. p < a.pairs.now.sites) xs in
    elim c.if-to-rings.branch [
      | then-to-rings+in_ok-open_ring w ↦ record {
        opened = subst O (sym (ap (λ (v : _). v.items) w.choices-is)) (opens_then a.window first c.loop.choices.items _ invariant.opened w.in_ok-open_ring.ensures.opened);
        inside = subst A (sym (ap (λ (v : _). v.items) w.ring-is)) w.in_ok-open_ring.ensures.inside;
      }
      | else-to-rings w ↦ record {
        opened = subst O (sym (ap (λ (v : _). v.items) w.choices-is)) invariant.opened;
        inside = subst A (sym (ap (λ (v : _). v.items) w.ring-is)) invariant.inside;
      }
    ]
