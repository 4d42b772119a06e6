use Rattle.std.proofs.Common.{◌<◌, ◌⊎◌, ℕ, All, length}
use Rattle.std.specs.Prelude.{slice_index}
use Rattle.std.specs.List.{Contains}
use Rattle.near_changes.specs.Working.{WasLookedAt}
use Rattle.near_changes.proofs.opening.list_new.Given as goal

abbrev pub invariant-loop-index : goal.invariant-loop-index
invariant-loop-index l = record {
  inside : All (λ p. p < length l.choices) l.list.items;
  listed : (k : ℕ) → k < l.index → WasLookedAt l.choices (slice_index l.sites k) ⊎ Contains l.list.items (slice_index l.sites k);
}
