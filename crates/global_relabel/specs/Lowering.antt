-- Labels of a block that come down, the nodes whose labels fell, and what other blocks offer.
use Rattle.std.specs.Prelude.{◌≡◌, ℕ, ◌+◌, ◌<◌, ◌≤◌, ◌⊎◌, false, List, All, length}
use Rattle.std.specs.Prelude.{slice_index, slice_index_or}
use Rattle.block_events.specs.declared.direction.Direction.{Direction}
use Rattle.block_events.specs.Directions.{IsDirection, near, far}
use Rattle.block_events.specs.States.{lane_at}
use Rattle.block_net.specs.declared.lanes.Border.{Border}
use Rattle.block_net.specs.Views.{border_in, count, room_in}
use Rattle.block_net.specs.Whole.{Whole, block_at, place, near_node_block, is_outer}
use Rattle.block_net.specs.Whole.{state_shown}
use Rattle.block_split.specs.Split.{whole_of}
use Rattle.sink_distances.specs.Search.{Search, IsAtMost, node_at, search_label}
use Rattle.global_relabel.specs.declared.block_labels.Offer.{Offer}
use Rattle.global_relabel.specs.declared.exactness.NetBlocks.{NetBlocks}

-- the net in its blocks
abbrev pub whole_in : NetBlocks → Whole
whole_in split = whole_of split.net.now split.parts.now

-- a residual direction leads from a node of block b to a node of block b
pub record LeadsWithin (w : Whole) (b : ℕ) (x : Direction) : Type 0 where
  pub direction : IsDirection w.net x
  pub inner : is_outer w x ≡ false
  pub node_block : near_node_block w x ≡ b
  pub residual : 0 < (lane_at (state_shown w).lanes x).residual

-- the labels of block b, by the places of its nodes, are tight: no residual direction within the
-- block leads from a node to one whose label is lower by more than one
abbrev pub AreTight : Whole → ℕ → List ℕ → Type 0
AreTight w b labels = (x : Direction) → LeadsWithin w b x
    → slice_index labels (place w (near w.net x)) ≤ slice_index labels (place w (far w.net x)) + 1

-- the number of the node that a direction to another block leads to
abbrev pub far_number : Whole → Border → ℕ
far_number w border = slice_index w.firsts border.to
    + (border_in (block_at w border.to) border.opposite).near

-- nor does a residual direction from the block to another, by the labels that were told
abbrev pub AreTightBeyond : Whole → ℕ → List ℕ → List ℕ → Type 0
AreTightBeyond w b told labels = (j : ℕ) → j < length (block_at w b).borders
    → 0 < (border_in (block_at w b) j).residual
    → slice_index labels (border_in (block_at w b) j).near
    ≤ slice_index told (far_number w (border_in (block_at w b) j)) + 1

-- ---- how labels come down: a search has the labels of a block, and the nodes whose labels fell

-- the queue has a place for each node; first stand the nodes, each once, by rising labels
pub record IsQueue (found : Search) : Type 0 where
  pub len : length found.order ≡ length found.labels
  pub fits : found.count ≤ length found.order
  pub nodes : (i : ℕ) → i < found.count → node_at found i < length found.labels
  pub once : (i j : ℕ) → i < found.count → j < found.count → node_at found i ≡ node_at found j
      → i ≡ j
  pub rising : (i j : ℕ) → i ≤ j → j < found.count
      → search_label found (node_at found i) ≤ search_label found (node_at found j)

-- the label may be given next: no node of the queue has a higher one
pub record IsReadyFor (label : ℕ) (found : Search) : Type 0 where
  pub queue : IsQueue found
  pub below : IsAtMost label found

-- a node got this label, which is below its own, for a reason, and stands in the queue
pub record IsLowerBy (label : ℕ) (IsNext : ℕ → Type 0) (s t : Search) (v : ℕ) : Type 0 where
  pub above : label < slice_index s.labels v
  pub given : slice_index t.labels v ≡ label
  pub reason : IsNext v
  pub place : (i : ℕ) × (s.count ≤ i) × (i < t.count) × (slice_index t.order i ≡ v)

-- so did some nodes, which stand behind those that stood in the queue; no other label changed
pub record FallsTo (label : ℕ) (IsNext : ℕ → Type 0) (s t : Search) : Type 0 where
  pub ready : IsReadyFor label t
  pub len : length t.labels ≡ length s.labels
  pub more : s.count ≤ t.count
  pub kept : (i : ℕ) → i < s.count → slice_index t.order i ≡ slice_index s.order i
  pub each : (v : ℕ) → (slice_index t.labels v ≡ slice_index s.labels v)
      ⊎ IsLowerBy label IsNext s t v

-- no residual direction within the block leads to the node at place q from one whose label is
-- higher by more than one
abbrev pub IsTightBehind : Whole → ℕ → List ℕ → ℕ → Type 0
IsTightBehind w b labels q = (x : Direction) → LeadsWithin w b x → place w (far w.net x) ≡ q
    → slice_index labels (place w (near w.net x)) ≤ slice_index labels q + 1

-- so it is at each node that does not stand in the queue from `next` on
abbrev pub IsTightUpTo : Whole → ℕ → ℕ → Search → Type 0
IsTightUpTo w b next s = (q : ℕ) → q < length s.labels
    → IsTightBehind w b s.labels q
    ⊎ ((i : ℕ) × (next ≤ i) × (i < s.count) × (slice_index s.order i ≡ q))

-- ---- why labels come down

-- a residual direction within block b leads from the node at place p to that at place q
abbrev pub StepsWithin : Whole → ℕ → ℕ → ℕ → Type 0
StepsWithin w b p q = (x : Direction) × LeadsWithin w b x × (place w (near w.net x) ≡ p)
    × (place w (far w.net x) ≡ q)

-- the label of the node at place p is more than that of a node that such a direction leads to
abbrev pub IsAboveNext : Whole → ℕ → List ℕ → ℕ → Type 0
IsAboveNext w b labels p =
    (q : ℕ) × StepsWithin w b p q × (slice_index labels q < slice_index labels p)

-- a label for the node at place p is more than one that was told of a node of another block, to
-- which a residual direction leads
abbrev pub IsAboveTold : Whole → ℕ → List ℕ → ℕ → ℕ → Type 0
IsAboveTold w b told p label = (j : ℕ) × (j < length (block_at w b).borders)
    × (0 < (border_in (block_at w b) j).residual) × ((border_in (block_at w b) j).near ≡ p)
    × (slice_index told (far_number w (border_in (block_at w b) j)) < label)

-- no label of block b rose, and each that fell has a reason: it is more than that of a node that a
-- residual direction within the block leads to, or is allowed in another way
pub record ComeDown (w : Whole) (b : ℕ) (Allows : ℕ → ℕ → Type 0) (old new : List ℕ)
    : Type 0 where
  pub len : length new ≡ length old
  pub falls : (p : ℕ) → slice_index new p ≤ slice_index old p
  pub reasons : (p : ℕ) → (slice_index new p ≡ slice_index old p)
      ⊎ (IsAboveNext w b new p ⊎ Allows p (slice_index new p))

-- the label of a node fell
abbrev pub IsLowerSomewhere : List ℕ → List ℕ → Type 0
IsLowerSomewhere old new = (p : ℕ) × (slice_index new p < slice_index old p)

-- no label of block b is above the top one, and one below it has a reason: it is 1 at a node that
-- can give the sink, or more than that of a node that a residual direction within it leads to
pub record AreLengthsWithin (w : Whole) (b : ℕ) (labels : List ℕ) : Type 0 where
  pub range : (p : ℕ) → slice_index labels p ≤ (block_at w b).top
  pub reasons : (p : ℕ) → p < count (block_at w b) → slice_index labels p < (block_at w b).top
      → ((0 < room_in (block_at w b) p) × (slice_index labels p ≡ 1)) ⊎ IsAboveNext w b labels p

-- ---- offers

-- labels above 0 are offered to nodes of a block that has so many
abbrev pub AreOffersTo : ℕ → List Offer → Type 0
AreOffersTo nodes offers = All (λ offer. (offer.place < nodes) × (0 < offer.label)) offers

-- each is below the label that the node has
abbrev pub AreOffersBelow : List ℕ → List Offer → Type 0
AreOffersBelow labels offers = All (λ offer. offer.label < slice_index labels offer.place) offers

-- the offer is what the far end of the direction at place j to another block allows
pub record IsOfferAt (w : Whole) (b : ℕ) (told : List ℕ) (j : ℕ) (offer : Offer) : Type 0 where
  pub residual : 0 < (border_in (block_at w b) j).residual
  pub place : (border_in (block_at w b) j).near ≡ offer.place
  pub label : offer.label ≡ slice_index told (far_number w (border_in (block_at w b) j)) + 1

-- each offer is more than what was told of a node that a residual direction leads to
abbrev pub AreOffersTold : Whole → ℕ → List ℕ → List Offer → Type 0
AreOffersTold w b told offers = All (λ offer. IsAboveTold w b told offer.place offer.label) offers

-- no node has a higher label than one that it was offered
abbrev pub AreOffersMet : List Offer → List ℕ → Type 0
AreOffersMet offers labels = All (λ offer. slice_index labels offer.place ≤ offer.label) offers

-- a label that is at most this one is offered to the node
abbrev pub IsAllowedBy : List Offer → ℕ → ℕ → Type 0
IsAllowedBy offers v label = (k : ℕ) × (k < length offers)
    × ((d : Offer) → (slice_index_or offers k d).place ≡ v)
    × ((d : Offer) → (slice_index_or offers k d).label ≤ label)

-- a node has at most this label, or is offered one that is
abbrev pub IsOffered : List Offer → List ℕ → ℕ → ℕ → Type 0
IsOffered offers labels v label = (slice_index labels v ≤ label) ⊎ IsAllowedBy offers v label

-- so it is of the node that the direction at place j to another block leaves, and the label one
-- above that of its far end, where the direction is residual
abbrev pub IsBorderOffered : Whole → ℕ → List ℕ → List ℕ → List Offer → ℕ → Type 0
IsBorderOffered w b labels told offers j = 0 < (border_in (block_at w b) j).residual
    → IsOffered offers labels (border_in (block_at w b) j).near
    (slice_index told (far_number w (border_in (block_at w b) j)) + 1)
