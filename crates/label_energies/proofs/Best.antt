use Rattle.std.proofs.Common.{◌≡◌, ℕ, ◌<◌, ◌≤◌, Bool, true, eqb, List, length, sym, ◌∙◌, inl, inr, subst, arith}
use Rattle.std.proofs.lemmas.Bool.{cases_lt}
use Rattle.std.proofs.lemmas.Bool.Decides.{nat_tests}
use Rattle.std.proofs.lemmas.List.{ext_get_or}
use Rattle.label_energies.specs.declared.change.Move.{Move}
use Rattle.label_energies.specs.declared.change.Move.TheVariants.{Expand, Swap}
use Rattle.label_energies.specs.Energies.{Instance, energy, labelling, Agrees}
use Rattle.label_energies.specs.Moves.{IsOneOf, MayBecome, IsReached, favoured_label, LabelsWithin, IsBest, labelling_made}
use Rattle.label_energies.proofs.Reaching.{becomes_label_in, may_stay, cases_one, neither}

-- the value of each site's variable that makes h
pub values_of : Move → (ℕ → ℕ) → ℕ → Bool
values_of move h p = eqb (h p) (favoured_label move)

eqb_is : (a b : ℕ) → a ≡ b → eqb a b ≡ true
eqb_is a b h = grind (arith, nat_tests)

is_eqb : (a b : ℕ) → eqb a b ≡ true → a ≡ b
is_eqb a b h = grind (arith, nat_tests)

pub made-reached : (move : Move) (n : ℕ) (f : ℕ → ℕ) (x : ℕ → Bool) → IsReached move n f (labelling_made move f x)
made-reached move n f x p l = becomes_label_in move (f p) (x p)

pub stays-reached : (move : Move) (n : ℕ) (f : ℕ → ℕ) → IsReached move n f f
stays-reached move n f p l = may_stay move (f p)

-- an expansion that lowers nothing changes nothing
pub expand-kept : (a n : ℕ) (f g : ℕ → ℕ) → IsReached (Expand a) n f g → LabelsWithin n a g f → Agrees n g f
expand-kept a n f g reached within p l = elim (reached p l) [
  | inl stays ↦ stays
  | inr turns ↦ turns ∙ sym (within p l turns)
]

-- lists of labels that agree are equal
pub lists_agree : (f g : List ℕ) → length g ≡ length f → Agrees (length f) (labelling g) (labelling f) → g ≡ f
lists_agree f g len same = ext_get_or 0 g f len (λ i l. same i (omega (arith, len)))

pub reached-same : (move : Move) (n : ℕ) (f g h : ℕ → ℕ) → Agrees n g h → IsReached move n f h → IsReached move n f g
reached-same move n f g h same reached p l = let P : ℕ → Type 0 = λ label. MayBecome move (f p) label in subst P (sym (same p l)) (reached p l)

-- a best labelling is never higher
pub best-le : (m : Instance) (move : Move) (f g : List ℕ) → IsBest m move f g → energy m (labelling g) ≤ energy m (labelling f)
best-le m move f g best = best.lowest (labelling f) (stays-reached move m.sites (labelling f))

both_one : (a b g h : ℕ) → IsOneOf a b g → IsOneOf a b h → (g ≡ b → h ≡ b) → (h ≡ b → g ≡ b) → g ≡ h
both_one a b g h (inl gs) (inl hs) gh hg = gs ∙ sym hs
both_one a b g h (inl gs) (inr ht) gh hg = hg ht ∙ sym ht
both_one a b g h (inr gt) may gh hg = gt ∙ sym (gh gt)

both_within : (move : Move) (old g h : ℕ) → MayBecome move old g → MayBecome move old h
    → (g ≡ favoured_label move → h ≡ favoured_label move) → (h ≡ favoured_label move → g ≡ favoured_label move) → g ≡ h
both_within (Expand a) old g h (inl gs) (inl hs) gh hg = gs ∙ sym hs
both_within (Expand a) old g h (inl gs) (inr ht) gh hg = hg ht ∙ sym ht
both_within (Expand a) old g h (inr gt) may gh hg = gt ∙ sym (gh gt)
both_within (Swap a b) old g h mg mh gh hg = elim (cases_one a b old) [
  | inl one ↦ both_one a b g h (mg.0 one) (mh.0 one) gh hg
  | inr other ↦ mg.1 (neither a b old other.0 other.1) ∙ sym (mh.1 (neither a b old other.0 other.1))
]

-- there is one best labelling
pub best_is_one : (m : Instance) (move : Move) (f g h : List ℕ) → length f ≡ m.sites → IsBest m move f g → IsBest m move f h → g ≡ h
best_is_one m move f g h len bg bh =
    let le = bg.lowest (labelling h) bh.reached in
    let ge = bh.lowest (labelling g) bg.reached in
    elim (cases_lt (energy m (labelling g)) (energy m (labelling f))) [
      | inl lower ↦
          let gh = bg.smallest lower (labelling h) bh.reached ge in
          let hg = bh.smallest (omega (arith, lower, le, ge)) (labelling g) bg.reached le in
          lists_agree h g (omega (arith, bg.sites, bh.sites)) (λ p l.
          let q : p < m.sites = omega (arith, len, bh.sites) in
          both_within move (labelling f p) (labelling g p) (labelling h p) (bg.reached p q) (bh.reached p q) (gh p q) (hg p q))
      | inr not_lower ↦ bg.kept not_lower ∙ sym (bh.kept (omega (arith, not_lower, le)))
    ]
