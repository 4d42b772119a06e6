-- A history for each block makes a list of histories.
use Rattle.std.proofs.Common.{◌≡◌, ℕ, zero, suc, ◌<◌, List, [], ◌∷◌, ◌++◌, length, get_or, refl, inl, inr, arith}
use Rattle.std.proofs.lemmas.Bool.{cases_lt}
use Rattle.std.proofs.lemmas.List.{length_push, get_or_append_left, get_or_push}
use Rattle.block_events.specs.declared.event.Event.{Event}

pub gathered : (n : ℕ) (P : ℕ → List Event → Type 0) → ((b : ℕ) → b < n → (h : List Event) × P b h)
    → (histories : List (List Event)) × (length histories ≡ n) × ((b : ℕ) → b < n → P b (get_or histories b []))
gathered zero P each = ([], refl, λ b l. absurd (omega arith))
gathered (suc n) P each =
    let before = gathered n P (λ b l. each b (omega arith)) in
    let mine = each n (omega arith) in
    let all = before.0 ++ mine.0 ∷ [] in (
      all,
      omega (arith, length_push before.0 mine.0, before.1),
      λ b l. elim (cases_lt b n) [
        | inl old ↦ rw (get_or_append_left before.0 (mine.0 ∷ []) [] b (omega (arith, old, before.1))) (before.2 b old)
        | inr past ↦
            let here : b ≡ n = omega (arith, past, l) in
            rw (get_or_push before.0 mine.0 [] b (omega (arith, here, before.1)), here) mine.1
      ],
    )
