-- The sites of each label as links: of each label its first site, and of each site the next one of
-- its label.
use Rattle.std.specs.Prelude.{◌≡◌, ◌==◌, ◌||◌, ◌+◌, ◌<◌, ◌≤◌, ℕ, Bool, true, false, List, length}
use Rattle.std.specs.Prelude.{slice_index}
use Rattle.label_energies.specs.Energies.{labelling}
use Rattle.move_energy.specs.BySite.{IsListing}
use Rattle.site_bounds.specs.Swapped.{has_either}

-- is a site labelled so?
abbrev pub is_labelled : ℕ → (ℕ → ℕ) → ℕ → Bool
is_labelled label f p = f p == label

-- is a label one of two?
abbrev pub is_either_label : ℕ → ℕ → ℕ → Bool
is_either_label one other label = (label == one) || (label == other)

-- the first chosen one of the n sites from one on, or n where none is
pub record IsNext (chosen : ℕ → Bool) (n from next : ℕ) : Type 0 where
  pub behind : from ≤ next
  pub within : next ≤ n
  pub found : next < n → chosen next ≡ true
  pub none : (p : ℕ) → from ≤ p → p < next → chosen p ≡ false

-- the sites of all labels but some are linked
pub record AreOthersLinked (some : ℕ → Bool) (n : ℕ) (f : ℕ → ℕ)
    (firsts nexts : List ℕ) : Type 0 where
  pub first : (label : ℕ) → label < 256 → some label ≡ false
      → IsNext (is_labelled label f) n 0 (slice_index firsts label)
  pub next : (p : ℕ) → p < n → some (f p) ≡ false
      → IsNext (is_labelled (f p) f) n (p + 1) (slice_index nexts p)

-- those of some labels are linked from one site on, and those of all others from the first on
pub record AreLinkedFrom (some : ℕ → Bool) (from n : ℕ) (f : ℕ → ℕ)
    (firsts nexts : List ℕ) : Type 0 where
  pub first : (label : ℕ) → label < 256 → some label ≡ true
      → IsNext (is_labelled label f) n from (slice_index firsts label)
  pub next : (p : ℕ) → from ≤ p → p < n → some (f p) ≡ true
      → IsNext (is_labelled (f p) f) n (p + 1) (slice_index nexts p)
  pub others : AreOthersLinked some n f firsts nexts

-- the sites of all labels are linked
pub record AreLinked (at firsts nexts : List ℕ) : Type 0 where
  pub firsts_len : length firsts ≡ 256
  pub nexts_len : length nexts ≡ length at
  pub links : AreLinkedFrom (λ _. true) 0 (length at) (labelling at) firsts nexts

-- and those of two labels are listed
pub record AreLinkedAndListed (at firsts nexts own : List ℕ) (alpha beta : ℕ) : Type 0 where
  pub linked : AreLinked at firsts nexts
  pub listed : IsListing (has_either alpha beta (labelling at)) (length at) own
