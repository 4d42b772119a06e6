-- The two steps of a search by rising labels, from a node of the queue or from an offer.
use Rattle.std.proofs.Common.{◌≡◌, ℕ, ◌+◌, ◌<◌, ◌≤◌, List, length, slice_index, slice_index_or, inl, inr, ◌∙◌, ap, arith}
use Rattle.std.proofs.lemmas.Bool.{cases_lt}
use Rattle.sink_distances.specs.Search.{Search, search_label, node_at}
use Rattle.global_relabel.specs.declared.block_labels.Offer.{Offer}
use Rattle.global_relabel.specs.Lowering.{FallsTo, IsReadyFor}
use Rattle.global_relabel.proofs.Falling.{falls_keep}

-- the labels in the queue are at most one above that at the next place
abbrev pub AreNear : ℕ → Search → Type 0
AreNear next s = next < s.count → (i : ℕ) → i < s.count → search_label s (node_at s i) ≤ search_label s (node_at s next) + 1

-- and at most those of the offers that are left
abbrev pub AreWaiting : List Offer → ℕ → Search → Type 0
AreWaiting offers taken s = (k : ℕ) (d : Offer) → taken ≤ k → k < length offers → (i : ℕ) → i < s.count
    → search_label s (node_at s i) ≤ (slice_index_or offers k d).label

module _ (label : ℕ) (R : ℕ → Type 0) (s t : Search) (ready : IsReadyFor label s) (falls : FallsTo label R s t) where
  -- a node of the queue keeps its label
  pub label_kept : (i : ℕ) → i < s.count → search_label t (node_at t i) ≡ search_label s (node_at s i)
  label_kept i l = ap (slice_index t.labels) (falls.kept i l) ∙ falls_keep label R s t falls (slice_index s.order i) (ready.below i l)

  pub waiting_more : (offers : List Offer) (taken : ℕ) → ((k : ℕ) (d : Offer) → taken ≤ k → k < length offers → label ≤ (slice_index_or offers k d).label)
      → AreWaiting offers taken t
  waiting_more offers taken low k d from l i li = omega (arith, falls.ready.below i li, low k d from l)

  -- an offer was taken
  pub near_offer : (next : ℕ) → next ≤ s.count → t.count ≤ s.count + 1 → (next < s.count → label ≤ search_label s (node_at s next) + 1) → AreNear next t
  near_offer next from few low l i li = elim (cases_lt next s.count) [
    | inl less ↦ omega (arith, falls.ready.below i li, low less, label_kept next less)
    | inr last ↦ omega (arith, falls.ready.queue.rising i next (omega (arith, li, few, from, last)) l)
  ]

  -- the nodes behind the one at the next place got their labels
  pub near_node : (next : ℕ) → next < s.count → label ≡ search_label s (node_at s next) + 1 → AreNear (next + 1) t
  near_node next less is l i li =
      omega (arith, falls.ready.below i li, is, label_kept next less, falls.ready.queue.rising next (next + 1) (omega arith) l)
