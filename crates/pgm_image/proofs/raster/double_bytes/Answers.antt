use Rattle.std.proofs.Common.{◌≡◌, ℕ, ◌<◌, ◌≤◌, List, [], ◌∷◌, ◌++◌, length, refl, sym, ap, ◌∙◌, subst, arith, All}
use Rattle.std.proofs.lemmas.List.{append-nil}
use Rattle.std.proofs.lemmas.List.Elements.{All-nil}
use Rattle.pgm_image.specs.Raster.{doubles}
use Rattle.pgm_image.proofs.raster.double_bytes.Goals as goal

-- fewer than two bytes tell no sample
none_left : (rest : List ℕ) → length rest < 2 → doubles rest ≡ []
unfolding doubles
none_left [] few = refl
none_left (a ∷ []) few = refl
none_left (a ∷ b ∷ bs) few = absurd (omega arith)

pub loop-rest-init : goal.loop-rest-init
loop-rest-init c =
    let items = c.in-Ok.ensures.items in
    let A : List ℕ → Type 0 = λ ys. All (λ y. y ≤ c.args.maxval) ys in
    (ap (λ ys. ys ++ doubles c.args.raster.now) (sym items), subst A (sym items) (All-nil (λ y. y ≤ c.args.maxval)), omega (arith, ap length items, c.in-Ok.ensures.capacity))

pub push_reserved-requires : goal.push_reserved-requires
push_reserved-requires c = omega (arith, c.loop-rest.samples.ok.0, c.loop-rest.invariant.2, c.in-len2-up.len_at_least)

pub returns : goal.returns
returns c =
    let A : List ℕ → Type 0 = λ ys. All (λ y. y ≤ c.args.maxval) ys in
    let all = c.loop-rest.invariant.0 ∙ ap (λ ys. c.loop-rest.samples.items ++ ys) (none_left c.loop-rest.rest.now c.in_default-rest.len_below) ∙ append-nil c.loop-rest.samples.items in
    (sym all, subst A (sym all) c.loop-rest.invariant.1)
