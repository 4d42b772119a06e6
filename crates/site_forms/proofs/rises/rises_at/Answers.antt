use Rattle.std.proofs.Common.{◌∙◌, ◌<◌, ◌≤◌, ℕ, ℤ, Bool, true, false, cond, unsigned_abs, length, get_or, sym, ap, subst, arith}
use Rattle.std.proofs.lemmas.List.{get_or_default}
use Rattle.move_energy.specs.declared.choice.Choice.{Choice}
use Rattle.move_energy.specs.declared.choice.Choice.TheVariants.{Open, Zero}
use Rattle.move_energy.specs.Choices.{bit_of, choice_at}
use Rattle.site_forms.proofs.rises.rises_at.Goals as goal

either_small : (b : Bool) (x y : ℤ) (n : ℕ) → unsigned_abs x ≤ n → unsigned_abs y ≤ n → unsigned_abs (cond b x y) ≤ n
either_small true x y n h k = h
either_small false x y n h k = k

pub returns-clause-least : goal.returns-clause-least
returns-clause-least g c =
    let a = c.args in
    let e = c.rises_here-rises.ensures in
    let inside = a.form.now.form.places.inside a.site a.place c.requires.place.inside c.requires.place.from c.requires.place.to in
    let here : a.head < length a.known.now = omega (arith, inside, c.requires.head, c.requires.known) in
    c.rises_beside.ensures.least
    ∙ ap (λ (ch : Choice). cond (bit_of ch true) c.rises_here-rises.result.high c.rises_here-rises.result.low) (get_or_default a.known.now a.head Open Zero here)
    ∙ (λ i. cond (bit_of (choice_at a.known.now (c.requires.head i)) true) (e.high i) (e.low i))

pub returns-clause-greatest : goal.returns-clause-greatest
returns-clause-greatest g c =
    let a = c.args in
    let e = c.rises_here-rises.ensures in
    let inside = a.form.now.form.places.inside a.site a.place c.requires.place.inside c.requires.place.from c.requires.place.to in
    let here : a.head < length a.known.now = omega (arith, inside, c.requires.head, c.requires.known) in
    c.rises_beside.ensures.greatest
    ∙ ap (λ (ch : Choice). cond (bit_of ch false) c.rises_here-rises.result.high c.rises_here-rises.result.low) (get_or_default a.known.now a.head Open Zero here)
    ∙ (λ i. cond (bit_of (choice_at a.known.now (c.requires.head i)) false) (e.high i) (e.low i))

pub returns-clause-small : goal.returns-clause-small
returns-clause-small g c =
    let e = c.rises_here-rises.ensures in
    let rises = c.rises_here-rises.result in
    let known = get_or c.args.known.now c.args.head Open in (
      subst (λ (z : ℤ). unsigned_abs z ≤ 10000000) (sym c.rises_beside.ensures.least) (either_small (bit_of known true) rises.high rises.low 10000000 e.high_small e.low_small),
      subst (λ (z : ℤ). unsigned_abs z ≤ 10000000) (sym c.rises_beside.ensures.greatest) (either_small (bit_of known false) rises.high rises.low 10000000 e.high_small e.low_small),
    )
