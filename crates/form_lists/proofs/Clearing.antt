-- Own rises that are cleared one after another.
use Rattle.std.proofs.Common.{◌≡◌, ◌≢◌, ◌⊎◌, ◌∷◌, [], ℕ, zero, suc, ◌+◌, ◌<◌, ◌≤◌, ℤ, pos, Bool, true, false, List, All, ◌++◌, length, get_or, refl, sym, ap, ◌∙◌, inl, inr, subst, arith}
use Rattle.std.specs.Prelude.{slice_set}
use Rattle.std.specs.Bool.{if◌then◌else◌}
use Rattle.std.proofs.lemmas.Bool.{cases_eq}
use Rattle.std.proofs.lemmas.List.{get_or-set_same, get_or-set_other, length-set, length-append, get_or-append-add}
use Rattle.std.proofs.Math.ListN.{take}
use Rattle.std.proofs.Math.Seq.{take-append_seam}
use Rattle.site_forms.specs.Fields.{own_at}
use Rattle.form_lists.specs.OwnRises.{IsOff, AreZeroBut}

-- off all from a place on
abbrev pub IsOffFrom : ℕ → List ℕ → ℕ → Type 0
IsOffFrom place sites u = (k : ℕ) → place ≤ k → k < length sites → get_or sites k 0 ≢ u

-- one more is cleared
pub cleared_more : (own : List ℤ) (sites : List ℕ) (place : ℕ) → place < length sites → get_or sites place 0 < length own
    → ((u : ℕ) → IsOffFrom place sites u → own_at own u ≡ pos 0) → (u : ℕ) → IsOffFrom (place + 1) sites u → own_at (slice_set own (get_or sites place 0) (pos 0)) u ≡ pos 0
cleared_more own sites place l inside zeros u off =
    let site = get_or sites place 0 in
    elim (cases_eq u site) [
      | inl same ↦ ap (own_at (slice_set own site (pos 0))) same ∙ get_or-set_same own site (pos 0) (pos 0) inside
      | inr other ↦ get_or-set_other own site u (pos 0) (pos 0) other ∙ zeros u (λ k from within same. elim (cases_eq k place) [
        | inl here ↦ other (sym same ∙ ap (λ j. get_or sites j 0) here)
        | inr later ↦ off k (omega (arith, from, later)) within same
      ])
    ]

pub if_true : (b : Bool) (all more less : List ℕ) → b ≡ true → all ≡ (if b then more else less) → all ≡ more
if_true b all more less is said = said ∙ ap (λ t. if t then more else less) is

-- off a list, so off its last part
pub off_last : (xs ys all : List ℕ) (u : ℕ) → all ≡ xs ++ ys → IsOff all u → IsOff ys u
off_last xs ys all u is off k l same =
    let long : length xs + k < length all = omega (arith, l, ap (λ (zs : List ℕ). length zs) is, length-append xs ys) in
    off (length xs + k) long (ap (λ (zs : List ℕ). get_or zs (length xs + k) 0) is ∙ get_or-append-add xs ys k 0 ∙ same)

-- some are written, all of them noted
pub zeros_after : (old new : List ℤ) (noted sites : List ℕ) → length new ≡ length old → AreZeroBut old noted → ((u : ℕ) → IsOff noted u → IsOff sites u) → ((u : ℕ) → IsOff sites u → own_at new u ≡ own_at old u) → AreZeroBut new noted
zeros_after old new noted sites count blank among others = record {
  inside = subst (λ n. All (λ p. p < n) noted) (sym count) blank.inside;
  zeros = λ u off. others u (among u off) ∙ blank.zeros u off;
}

-- a list that was written from its beginning to its end
pub written_whole : {X : Type 0} (n : ℕ) (new rest : List X) → n ≡ length new → take n (new ++ rest) ≡ new
written_whole n new rest is = ap (λ k. take k (new ++ rest)) is ∙ take-append_seam new rest
