use Rattle.std.proofs.Common.{◌≡◌, ◌∙◌, ◌<◌, ◌++◌, ◌∷◌, [], ℕ, List, All, ap, sym, subst, length, arith}
use Rattle.std.proofs.lemmas.List.{length_push}
use Rattle.std.proofs.lemmas.List.Elements.{All-push}
use Rattle.near_changes.proofs.Around.{other_inside}
use Rattle.near_changes.proofs.Opens.{opens_then}
use Rattle.near_changes.proofs.opening.open_beside.Goals as goal
use Rattle.near_changes.proofs.opening.open_beside.Goals.{then-open_site+in_ok-push, else-open_site}

pub loop-index-preserved : goal.loop-index-preserved
loop-index-preserved c =
    let a = c.args in
    let n = a.pairs.now.sites in
    let other = c.other_end-other.result in
    let ring = c.loop-index.ring.items in
    let invariant = c.loop-index.invariant in
    let inside = other_inside n c.pair_at.result a.site other c.pair_at.ensures.pair c.other_end-other.ensures in
    let opened = opens_then a.window a.choices.now.items c.loop-index.choices.items c.open_site.new.choices.items invariant.opened c.open_site.ensures.opened in
    let P : List ℕ → Type 0 = λ xs. All (λ p. p < n) xs in
    elim c.if-open_site.branch [
      | then-open_site+in_ok-push w ↦
          let is : c.if-open_site.ring.items ≡ ring ++ other ∷ [] = ap (λ (v : _). v.items) w.ring-is ∙ w.in_ok-push.ensures.items in
          record {
            opened = opened;
            inside = subst P (sym is) (All-push (λ p. p < n) ring other invariant.inside inside);
            more = (let e = ap (λ (xs : List ℕ). length xs) is in omega (arith, e, length_push ring other, invariant.more));
          }
      | else-open_site w ↦
          let is : c.if-open_site.ring.items ≡ ring = ap (λ (v : _). v.items) w.ring-is in
          record {
            opened = opened;
            inside = subst P (sym is) invariant.inside;
            more = (let e = ap (λ (xs : List ℕ). length xs) is in omega (arith, e, invariant.more));
          }
    ]
