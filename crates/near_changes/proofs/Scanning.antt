-- The sites are looked over, one after another, for those that changed.
use Rattle.std.proofs.Common.{◌≡◌, ◌≢◌, ◌⊎◌, ℕ, ◌+◌, ◌<◌, ◌≤◌, Bool, true, false, List, sym, ◌∙◌, below_more}
use Rattle.std.specs.Prelude.{slice_index}
use Rattle.std.proofs.lemmas.Bool.{lt-ltb, le-ltb}
use Rattle.move_energy.specs.declared.by_site.Neighbours.{Neighbours}
use Rattle.label_field.specs.PairLists.{PairList}
use Rattle.near_changes.specs.declared.stage.Stage.{Stage}
use Rattle.near_changes.specs.Looking.{is_marked, changed_since, AreBeside, IsNearChange}
use Rattle.near_changes.specs.Working.{AreSiteMarks, StaysMarked, IsMarkedAround}
use Rattle.near_changes.proofs.Around.{around_stays, only_near}

-- the fresh sites are those of the changes below a site
pub record AreScanned (pairs : PairList) (ends : Neighbours) (a : ℕ) (f : ℕ → ℕ) (stamps : List ℕ) (since n i : ℕ) (stage : Stage) : Type 0 where
  pub marks : AreSiteMarks n stage.fresh.items stage.fresh_sites.items
  pub only : (p : ℕ) → is_marked stage.fresh.items p ≡ true → (f p ≢ a) × IsNearChange pairs (changed_since stamps since) p
  pub around : (p : ℕ) → p < i → changed_since stamps since p ≡ true → IsMarkedAround pairs ends a f p (is_marked stage.fresh.items)

pub scanned_changed : (pairs : PairList) (ends : Neighbours) (a : ℕ) (f : ℕ → ℕ) (stamps : List ℕ) (since n i : ℕ) (now new : Stage) → since < slice_index stamps i
    → AreSiteMarks n new.fresh.items new.fresh_sites.items → StaysMarked now.fresh.items new.fresh.items
    → ((p : ℕ) → is_marked new.fresh.items p ≡ true → (is_marked now.fresh.items p ≡ true) ⊎ ((f p ≢ a) × ((p ≡ i) ⊎ AreBeside pairs i p)))
    → IsMarkedAround pairs ends a f i (is_marked new.fresh.items) → AreScanned pairs ends a f stamps since n i now → AreScanned pairs ends a f stamps since n (i + 1) new
scanned_changed pairs ends a f stamps since n i now new later marks stays only around scanned = record {
  marks = marks;
  only = only_near pairs (λ p. f p ≢ a) (changed_since stamps since) (is_marked now.fresh.items) (is_marked new.fresh.items) i (lt-ltb since (slice_index stamps i) later) scanned.only only;
  around = below_more (λ p. changed_since stamps since p ≡ true → IsMarkedAround pairs ends a f p (is_marked new.fresh.items)) i
      (λ p l yet. around_stays pairs ends a f p (is_marked now.fresh.items) (is_marked new.fresh.items) stays (scanned.around p l yet))
      (λ yet. around);
}

clash : (b : Bool) → b ≡ true → b ≡ false → ⊥
clash b h k = (let e = sym h ∙ k in cc (e))

pub scanned_same : (pairs : PairList) (ends : Neighbours) (a : ℕ) (f : ℕ → ℕ) (stamps : List ℕ) (since n i : ℕ) (now : Stage) → slice_index stamps i ≤ since
    → AreScanned pairs ends a f stamps since n i now → AreScanned pairs ends a f stamps since n (i + 1) now
scanned_same pairs ends a f stamps since n i now earlier scanned = record {
  marks = scanned.marks;
  only = scanned.only;
  around = below_more (λ p. changed_since stamps since p ≡ true → IsMarkedAround pairs ends a f p (is_marked now.fresh.items)) i scanned.around
      (λ yet. absurd (clash (changed_since stamps since i) yet (le-ltb since (slice_index stamps i) earlier)));
}
