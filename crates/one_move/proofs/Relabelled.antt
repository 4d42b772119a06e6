-- Labels written one after another.
use Rattle.std.proofs.Common.{◌≡◌, ◌≢◌, ℕ, ◌+◌, ◌<◌, ◌≤◌, Bool, true, false, List, length, IsTrue, refl, sym, ap, ◌∙◌, inl, inr, subst, arith}
use Rattle.std.specs.Prelude.{slice_index, slice_set, IsFalse}
use Rattle.std.proofs.lemmas.Bool.{cases_lt, cases_eq, cases_Bool}
use Rattle.std.proofs.lemmas.List.{length-set, get_or-set_same, get_or-set_other}
use Rattle.label_energies.specs.declared.change.Move.{Move}
use Rattle.label_energies.specs.Energies.{labelling}
use Rattle.label_energies.specs.Moves.{MayBecome, IsReached, label_after}
use Rattle.label_energies.proofs.Best.{lists_agree}
use Rattle.label_energies.proofs.Reaching.{becomes_label_in}

-- the labels below n are as they are to be, the others as they were, and whether one is another
-- than it was
pub record AreWritten (old new : List ℕ) (label : ℕ → ℕ) (n : ℕ) (changed : Bool) : Type 0 where
  pub len : length new ≡ length old
  pub done : (p : ℕ) → p < n → slice_index new p ≡ label p
  pub left : (p : ℕ) → n ≤ p → slice_index new p ≡ slice_index old p
  pub other : changed ≡ true → (p : ℕ) × (p < n) × (label p ≢ slice_index old p)
  pub same : changed ≡ false → (p : ℕ) → p < n → label p ≡ slice_index old p

pub written_none : (old : List ℕ) (label : ℕ → ℕ) → AreWritten old old label 0 false
written_none old label = record {
  len = refl;
  done = λ p l. absurd (omega (arith, l));
  left = λ p l. refl;
  other = λ is. absurd (cc (is));
  same = λ is p l. absurd (omega (arith, l));
}

pub unchanged_at : (y x : ℕ) (told : Bool) → told ≡ false → (y ≢ x → told ≡ true) → y ≡ x
unchanged_at y x told untold told_so = elim (cases_eq y x) [ inl same ↦ same | inr other ↦ (let so = told_so other in absurd (cc (so, untold))) ]

-- one more label
pub written_more : (old now new : List ℕ) (label : ℕ → ℕ) (n y : ℕ) (was next told : Bool) → AreWritten old now label n was → n < length old → y ≡ label n
    → new ≡ slice_set now n y → (told ≡ true → y ≢ slice_index now n) → (y ≢ slice_index now n → told ≡ true)
    → (told ≡ true → next ≡ true) → (told ≡ false → next ≡ was) → AreWritten old new label (n + 1) next
written_more old now new label n y was next told so_far within own is moved told_so turned not_so = record {
  len = ap (λ (xs : List ℕ). length xs) is ∙ length-set now n y ∙ so_far.len;
  done = λ p l. elim (cases_lt p n) [
    | inl before ↦
        let apart : p ≢ n = λ e. omega (arith, e, before) in
        ap (λ (xs : List ℕ). slice_index xs p) is ∙ get_or-set_other now n p y 0 apart ∙ so_far.done p before
    | inr not_before ↦
        let here : n ≡ p = omega (arith, not_before, l) in
        ap (λ (xs : List ℕ). slice_index xs p) is ∙ ap (λ q. slice_index (slice_set now n y) q) (sym here)
        ∙ get_or-set_same now n y 0 (omega (arith, within, so_far.len)) ∙ own ∙ ap label here
  ];
  left = λ p l.
      let apart : p ≢ n = λ e. omega (arith, e, l) in
      ap (λ (xs : List ℕ). slice_index xs p) is ∙ get_or-set_other now n p y 0 apart ∙ so_far.left p (omega (arith, l));
  other = λ changed. elim (cases_Bool told) [
    | inl so ↦ (n, omega arith, λ equal. moved so (own ∙ equal ∙ sym (so_far.left n (omega arith))))
    | inr untold ↦ (let o = so_far.other (sym (not_so untold) ∙ changed) in (o.0, omega (arith, o.1), o.2))
  ];
  same = λ unchanged p l. elim (cases_Bool told) [
    | inl so ↦ (let t = turned so in absurd (cc (t, unchanged)))
    | inr untold ↦ elim (cases_lt p n) [
      | inl before ↦ so_far.same (sym (not_so untold) ∙ unchanged) p before
      | inr not_before ↦ (let here : n ≡ p = omega (arith, not_before, l) in
          ap label (sym here) ∙ sym own ∙ unchanged_at y (slice_index now n) told untold told_so ∙ so_far.left n (omega arith) ∙ ap (slice_index old) here)
    ]
  ];
}

pub written_all : (old new : List ℕ) (label : ℕ → ℕ) (n : ℕ) (changed : Bool) → AreWritten old new label n changed → n ≡ length old
    → (IsTrue changed → new ≢ old) × (IsFalse changed → new ≡ old)
written_all old new label n changed written all = (
  (λ yes equal. (let o = written.other yes in o.2 (sym (written.done o.0 o.1) ∙ ap (λ (xs : List ℕ). slice_index xs o.0) equal))),
  (λ no. lists_agree old new written.len (λ p l.
      let within : p < n = omega (arith, l, all) in
      written.done p within ∙ written.same no p within)),
)

-- labels that values make are reached, whatever the values are
pub values_reach : (move : Move) (f g : List ℕ) (x : ℕ → Bool) → ((p : ℕ) → p < length f → slice_index g p ≡ label_after move (slice_index f p) (x p))
    → IsReached move (length f) (labelling f) (labelling g)
values_reach move f g x each p l =
    let P : ℕ → Type 0 = λ label. MayBecome move (labelling f p) label in
    subst P (sym (each p l)) (becomes_label_in move (labelling f p) (x p))
