use Rattle.std.proofs.Common.{◌≡◌, ◌≤◌, ◌<◌, ◌+◌, ◌++◌, ◌∙◌, ℕ, List, cond, ◌∷◌, [], length, take, sym, ap, subst, arith}
use Rattle.std.proofs.lemmas.List.{append_assoc}
use Rattle.move_energy.specs.Choices.{AreOpenSites}
use Rattle.strip_nets.specs.Views.{strip_view}
use Rattle.strips.proofs.Listing.{next_kept}
use Rattle.strips.proofs.opening.list_block.Goals as goal

pub loop-place-preserved : goal.loop-place-preserved
loop-place-preserved c =
    let a = c.args in
    let known = a.known.now in
    let place = c.loop-place.place in
    let site = a.from + place in
    let list = a.opened.now.items in
    let i = c.loop-place.invariant in
    let kept = c.keep-count.ensures in
    let found = take c.loop-place.count c.loop-place.found in
    let new = take c.keep-count.result c.keep-count.new.kept in
    let l : site < length known = omega (arith, c.requires.block.1, c.loop-place-test.true) in
    let after : a.first ≤ site = omega (arith, c.requires.block.0) in
    let next : site + 1 ≡ a.from + (place + 1) = omega arith in
    let more = ap (λ (xs : List ℕ). list ++ xs) kept.kept ∙ sym (append_assoc list found (cond c.is_open.result (site ∷ []) [])) in
    record {
      long = kept.room ∙ i.long;
      few = omega (arith, i.few, kept.few);
      listed = (let L : ℕ → Type 0 = λ p. AreOpenSites (strip_view known a.first p) (list ++ new) in
          subst L next (next_kept known a.first site c.is_open.result (list ++ found) (list ++ new) after l c.is_open.ensures more i.listed));
    }
