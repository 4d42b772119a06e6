use Rattle.std.proofs.Common.{◌≡◌, ◌≢◌, ℕ, ◌⊎◌, Bool, true, false, cond, eqb, refl, sym, ◌∙◌, inl, inr, arith}
use Rattle.std.proofs.lemmas.Bool.{cases_eq}
use Rattle.std.proofs.lemmas.Bool.Decides.{nat_tests}
use Rattle.label_energies.specs.declared.change.Move.{Move}
use Rattle.label_energies.specs.declared.change.Move.TheVariants.{Expand, Swap}
use Rattle.label_energies.specs.Moves.{IsOneOf, MayBecome, label_after, favoured_label}

swap_first : (a b old : ℕ) (bit : Bool) → old ≡ a → label_after (Swap a b) old bit ≡ cond bit b a
swap_first a b old bit h = grind (arith, nat_tests)

swap_second : (a b old : ℕ) (bit : Bool) → old ≡ b → label_after (Swap a b) old bit ≡ cond bit b a
swap_second a b old bit h = grind (arith, nat_tests)

pub swap_one : (a b old : ℕ) (bit : Bool) → IsOneOf a b old → label_after (Swap a b) old bit ≡ cond bit b a
swap_one a b old bit (inl h) = swap_first a b old bit h
swap_one a b old bit (inr h) = swap_second a b old bit h

pub swap_other : (a b old : ℕ) (bit : Bool) → old ≢ a → old ≢ b → label_after (Swap a b) old bit ≡ old
swap_other a b old bit na nb = grind (arith, nat_tests)

either : (a b : ℕ) (bit : Bool) → IsOneOf a b (cond bit b a)
either a b true = inr refl
either a b false = inl refl

-- is a label one of the two, or neither?
pub cases_one : (a b old : ℕ) → IsOneOf a b old ⊎ ((old ≢ a) × (old ≢ b))
cases_one a b old = elim (cases_eq old a) [
  | inl is_a ↦ inl (inl is_a)
  | inr not_a ↦ elim (cases_eq old b) [
    | inl is_b ↦ inl (inr is_b)
    | inr not_b ↦ inr (not_a, not_b)
  ]
]

pub neither : (a b old : ℕ) → old ≢ a → old ≢ b → ¬ IsOneOf a b old
neither a b old na nb (inl h) = na h
neither a b old na nb (inr h) = nb h

-- a label stays, or becomes what the move gives it: whatever the value of its variable
pub becomes_label_in : (move : Move) (old : ℕ) (bit : Bool) → MayBecome move old (label_after move old bit)
becomes_label_in (Expand a) old true = inr refl
becomes_label_in (Expand a) old false = inl refl
becomes_label_in (Swap a b) old bit = elim (cases_one a b old) [
  | inl one ↦ (λ is. rw (swap_one a b old bit one) (either a b bit), λ no. absurd (no one))
  | inr other ↦ (λ is. absurd (neither a b old other.0 other.1 is), λ no. swap_other a b old bit other.0 other.1)
]

-- a label may stay
pub may_stay : (move : Move) (old : ℕ) → MayBecome move old old
may_stay (Expand a) old = inl refl
may_stay (Swap a b) old = (λ is. is, λ no. refl)

expand_stays : (a old new : ℕ) → new ≡ old → cond (eqb new a) a old ≡ new
expand_stays a old new h = grind (arith, nat_tests)

expand_turns : (a old new : ℕ) → new ≡ a → cond (eqb new a) a old ≡ new
expand_turns a old new h = grind (arith, nat_tests)

pick_first : (a b new : ℕ) → new ≡ a → cond (eqb new b) b a ≡ new
pick_first a b new h = grind (arith, nat_tests)

pick_second : (a b new : ℕ) → new ≡ b → cond (eqb new b) b a ≡ new
pick_second a b new h = grind (arith, nat_tests)

pick : (a b new : ℕ) → IsOneOf a b new → cond (eqb new b) b a ≡ new
pick a b new (inl h) = pick_first a b new h
pick a b new (inr h) = pick_second a b new h

-- the value that stands for what a label becomes
pub label_in-favoured : (move : Move) (old new : ℕ) → MayBecome move old new → label_after move old (eqb new (favoured_label move)) ≡ new
label_in-favoured (Expand a) old new (inl stays) = expand_stays a old new stays
label_in-favoured (Expand a) old new (inr turns) = expand_turns a old new turns
label_in-favoured (Swap a b) old new may = elim (cases_one a b old) [
  | inl one ↦ swap_one a b old (eqb new b) one ∙ pick a b new (may.0 one)
  | inr other ↦ swap_other a b old (eqb new b) other.0 other.1 ∙ sym (may.1 (neither a b old other.0 other.1))
]

-- where the move can change a label, the value 1 gives it the move's label
pub label_in-one : (move : Move) (old : ℕ) → label_after move old true ≢ label_after move old false → label_after move old true ≡ favoured_label move
label_in-one (Expand a) old changes = refl
label_in-one (Swap a b) old changes = elim (cases_one a b old) [
  | inl one ↦ swap_one a b old true one
  | inr other ↦ absurd (changes (swap_other a b old true other.0 other.1 ∙ sym (swap_other a b old false other.0 other.1)))
]

-- can the move change a label?
pub cases_label_in : (move : Move) (old : ℕ) → (label_after move old true ≡ label_after move old false) ⊎ (label_after move old true ≢ label_after move old false)
cases_label_in move old = cases_eq (label_after move old true) (label_after move old false)

-- the same label at either value: at every value
pub label_in-fixed : (move : Move) (old : ℕ) (x y : Bool) → label_after move old true ≡ label_after move old false → label_after move old x ≡ label_after move old y
label_in-fixed move old true true h = refl
label_in-fixed move old true false h = h
label_in-fixed move old false true h = sym h
label_in-fixed move old false false h = refl
