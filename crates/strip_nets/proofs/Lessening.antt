-- The form less its borders: there is one.
use Rattle.std.proofs.Common.{◌≡◌, ℕ, List, length, slice_index, vec_len, ℤ, pos, ◌+ℤ◌, ◌-ℤ◌, refl, sym, ◌∙◌, ap, arith}
use Rattle.std.proofs.lemmas.Int.{ints}
use Rattle.std.specs.Simd.Lanes.{zip2}
use Rattle.std.proofs.lemmas.Simd.{length-zip2, get_or-zip2}
use Rattle.pseudo_bool.specs.Energies.{entry}
use Rattle.compile_cut.specs.declared.quadratic.Quadratic.{Quadratic}
use Rattle.strip_nets.specs.Sides.{IsLessBorder}

less_weight : ℤ → ℕ → ℤ
less_weight weight border = weight -ℤ pos border

less_weights : List ℤ → List ℕ → List ℤ
less_weights weights borders = zip2 less_weight weights borders

less_at : (w : ℤ) (b : ℕ) → less_weight w b +ℤ pos b ≡ w
unfolding less_weight
less_at w b = omega (arith, ints)

-- for each form and borders of its nodes there is the form less the borders
pub less_exists : (borders : List ℕ) (form : Quadratic) → length borders ≡ vec_len form.weights → (less : Quadratic) × IsLessBorder borders form less
unfolding less_weights
less_exists borders form len =
    let same = form.weights.ok.0 in
    let long = length-zip2 less_weight form.weights.items borders (sym (len ∙ same)) in (
      record form { weights = record form.weights { items = less_weights form.weights.items borders; ok = (same ∙ sym long, form.weights.ok.1) } },
      record {
        again = record { constant = refl; arcs = refl; nodes = refl };
        weights = λ k l.
            ap (λ (z : ℤ). z +ℤ pos (slice_index borders k)) (get_or-zip2 less_weight form.weights.items borders k (pos 0) 0 (pos 0) (omega (arith, same, l)) (omega (arith, len, l)))
            ∙ less_at (entry form.weights.items k) (slice_index borders k);
      },
    )
