-- Labels of a block that come down, and where they are tight.
use Rattle.std.proofs.Common.{◌≡◌, ◌≢◌, ℕ, ◌+◌, ◌<◌, ◌≤◌, false, List, [], ◌∷◌, ◌++◌, take, length, replicate, slice_index, slice_set, get_or-set_other, inl, inr, refl, sym, ◌∙◌, ap, subst, arith}
use Rattle.std.proofs.lemmas.Bool.{cases_lt, cases_eq}
use Rattle.std.proofs.lemmas.List.{length-append, length-set, length-replicate, get_or-replicate, get_or-set_same}
use Rattle.std.proofs.Math.ListN.{get_or-append, get_or-eq_default}
use Rattle.std.proofs.Math.Seq.{take-append_seam}
use Rattle.block_events.specs.declared.direction.Direction.{Direction}
use Rattle.block_events.specs.Directions.{IsDirection, near, far, opposite}
use Rattle.block_events.specs.States.{lane_at}
use Rattle.block_events.proofs.Lanes.{near_opposite, far_opposite, opposite_twice, border_opposite}
use Rattle.block_net.specs.Views.{CellsView, count, lane_in, room_in}
use Rattle.block_net.specs.Whole.{Whole, block_at, node_block, place, slot, is_outer, state_shown, StandsAt, IsPlaced}
use Rattle.net_in_blocks.specs.Views.{IsLaid, IsSpot, blocks_in}
use Rattle.net_in_blocks.proofs.Steps.{IsAt, far_spot, node_below}
use Rattle.sink_distances.specs.Search.{Search, found_of, search_label, node_at}
use Rattle.global_relabel.specs.Lowering.{LeadsWithin, AreTight, IsReadyFor, FallsTo, IsTightBehind, IsTightUpTo, StepsWithin, ComeDown, AreLengthsWithin}
use Rattle.global_relabel.proofs.Apart.{few_apart}

-- what was written back to a list of as many
pub take_whole : (xs ys : List ℕ) (n : ℕ) → n ≡ length xs → xs ≡ take n (xs ++ ys)
take_whole xs ys n e = rw e (sym (take-append_seam xs ys))

-- ---- how labels come down

replicate_most : (n a i : ℕ) → slice_index (replicate n a) i ≤ a
replicate_most n a i = elim (cases_lt i n) [
  | inl l ↦ omega (arith, get_or-replicate n i a 0 l)
  | inr h ↦ omega (arith, get_or-eq_default (replicate n a) 0 {n = i} (omega (arith, h, length-replicate n a)))
]

-- a queue of no nodes
pub ready_none : (label : ℕ) (labels queue : List ℕ) → length queue ≡ length labels → IsReadyFor label (found_of labels queue 0)
ready_none label labels queue len = record {
  queue = record {
    len = len;
    fits = omega arith;
    nodes = λ i l. absurd (omega (arith, l));
    once = λ i j l. absurd (omega (arith, l));
    rising = λ i j le l. absurd (omega (arith, l));
  };
  below = λ i l. absurd (omega (arith, l));
}

pub ready_more : (label more : ℕ) (s : Search) → label ≤ more → IsReadyFor label s → IsReadyFor more s
ready_more label more s l ready = record { queue = ready.queue; below = λ i li. omega (arith, l, ready.below i li) }

pub falls_none : (label : ℕ) (R : ℕ → Type 0) (s : Search) → IsReadyFor label s → FallsTo label R s s
falls_none label R s ready = record {
  ready = ready;
  len = refl;
  more = omega arith;
  kept = λ i l. refl;
  each = λ v. inl refl;
}

-- no label rises
pub falls_low : (label : ℕ) (R : ℕ → Type 0) (s t : Search) → FallsTo label R s t → (v : ℕ) → slice_index t.labels v ≤ slice_index s.labels v
falls_low label R s t p v = elim (p.each v) [
  | inl same ↦ omega (arith, same)
  | inr lower ↦ omega (arith, lower.given, lower.above)
]

-- a label that is at most the one that is given stays
pub falls_keep : (label : ℕ) (R : ℕ → Type 0) (s t : Search) → FallsTo label R s t → (v : ℕ) → slice_index s.labels v ≤ label
    → slice_index t.labels v ≡ slice_index s.labels v
falls_keep label R s t p v l = elim (p.each v) [
  | inl same ↦ same
  | inr lower ↦ absurd (omega (arith, l, lower.above))
]

pub falls_more : (label : ℕ) (R : ℕ → Type 0) (r s t : Search) → FallsTo label R r s → FallsTo label R s t → FallsTo label R r t
falls_more label R r s t p q = record {
  ready = q.ready;
  len = q.len ∙ p.len;
  more = omega (arith, p.more, q.more);
  kept = λ i l. q.kept i (omega (arith, l, p.more)) ∙ p.kept i l;
  each = λ v. elim (q.each v) [
    | inr lower ↦ inr (record {
      above = omega (arith, lower.above, falls_low label R r s p v);
      given = lower.given;
      reason = lower.reason;
      place = (lower.place.0, omega (arith, lower.place.1, p.more), lower.place.2, lower.place.3);
    })
    | inl same ↦ elim (p.each v) [
      | inl also ↦ inl (same ∙ also)
      | inr lower ↦ inr (record {
        above = lower.above;
        given = same ∙ lower.given;
        reason = lower.reason;
        place = (
          lower.place.0,
          lower.place.1,
          omega (arith, lower.place.2, q.more),
          q.kept lower.place.0 lower.place.2 ∙ lower.place.3,
        );
      })
    ]
  ];
}

-- the reason and the label may be said in other words
pub falls_for : (label more : ℕ) (R S : ℕ → Type 0) (s t : Search) → label ≤ more → ((v : ℕ) → label < slice_index s.labels v → label ≡ more)
    → ((v : ℕ) → R v → S v) → FallsTo label R s t → FallsTo more S s t
falls_for label more R S s t l same for p = record {
  ready = ready_more label more t l p.ready;
  len = p.len;
  more = p.more;
  kept = p.kept;
  each = λ v. elim (p.each v) [
    | inl stays ↦ inl stays
    | inr lower ↦
        let is : label ≡ more = same v lower.above in
        inr (record {
          above = omega (arith, is, lower.above);
          given = lower.given ∙ is;
          reason = for v lower.reason;
          place = lower.place;
        })
  ];
}

-- one label came down, and its node stands last in the queue
module _ (labels queue : List ℕ) (end p label : ℕ) (lp : p < length labels) (high : label < slice_index labels p) (ready : IsReadyFor label (found_of labels queue end)) where
  off : (i : ℕ) → i < end → slice_index queue i ≢ p
  off i l here = absurd (omega (arith, ready.below i l, high, ap (slice_index labels) here))

  abbrev longer : List ℕ
  longer = slice_set (queue ++ (0 ∷ [])) end p

  longer_len : length (queue ++ (0 ∷ [])) ≡ length queue + 1
  longer_len = length-append queue (0 ∷ [])

  longer_old : (i : ℕ) → i < end → slice_index longer i ≡ slice_index queue i
  longer_old i l = get_or-set_other (queue ++ (0 ∷ [])) end i p 0 (omega (arith, l))
      ∙ get_or-append queue (0 ∷ []) 0 i (omega (arith, l, ready.queue.fits))

  longer_end : slice_index longer end ≡ p
  longer_end = get_or-set_same (queue ++ (0 ∷ [])) end p 0 (omega (arith, longer_len, ready.queue.fits))

  longer_small : (i : ℕ) → i < end + 1 → slice_index longer i < length labels
  longer_small i l = elim (cases_lt i end) [
    | inl less ↦ omega (arith, longer_old i less, ready.queue.nodes i less)
    | inr last ↦
        let here : i ≡ end = omega (arith, l, last) in
        omega (arith, ap (slice_index longer) here, longer_end, lp)
  ]

  longer_once : (i j : ℕ) → i < end + 1 → j < end + 1 → slice_index longer i ≡ slice_index longer j → i ≡ j
  longer_once i j li lj same = elim (cases_lt i end) [
    | inl a ↦ elim (cases_lt j end) [
      | inl b ↦ ready.queue.once i j a b (sym (longer_old i a) ∙ (same ∙ longer_old j b))
      | inr b ↦
          let here : j ≡ end = omega (arith, lj, b) in
          absurd (off i a (sym (longer_old i a) ∙ (same ∙ (ap (slice_index longer) here ∙ longer_end))))
    ]
    | inr a ↦
        let here : i ≡ end = omega (arith, li, a) in
        elim (cases_lt j end) [
          | inl b ↦ absurd (off j b (sym (longer_old j b) ∙ (sym same ∙ (ap (slice_index longer) here ∙ longer_end))))
          | inr b ↦ omega (arith, here, lj, b)
        ]
  ]

  -- there is room for it: the nodes that stand in the queue differ
  pub queue_room : end < length queue
  queue_room =
      omega (arith, few_apart (end + 1) (length labels) (slice_index longer) longer_small longer_once, ready.queue.len)

  module _ (new : List ℕ) (is : new ≡ slice_set queue end p) where
    new_old : (i : ℕ) → i < end → slice_index new i ≡ slice_index queue i
    new_old i l = ap (λ (xs : List ℕ). slice_index xs i) is ∙ get_or-set_other queue end i p 0 (omega (arith, l))

    new_end : slice_index new end ≡ p
    new_end = ap (λ (xs : List ℕ). slice_index xs end) is ∙ get_or-set_same queue end p 0 queue_room

    new_len : length new ≡ length queue
    new_len = ap (λ (xs : List ℕ). length xs) is ∙ length-set queue end p

    abbrev next : Search
    next = found_of (slice_set labels p label) new (end + 1)

    label_old : (i : ℕ) → i < end → search_label next (node_at next i) ≡ search_label (found_of labels queue end) (node_at (found_of labels queue end) i)
    label_old i l = ap (slice_index (slice_set labels p label)) (new_old i l) ∙ get_or-set_other labels p (slice_index queue i) label 0 (off i l)

    label_end : (i : ℕ) → i ≡ end → search_label next (node_at next i) ≡ label
    label_end i here = ap (λ k. slice_index (slice_set labels p label) (slice_index new k)) here
        ∙ (ap (slice_index (slice_set labels p label)) new_end ∙ get_or-set_same labels p label 0 lp)

    next_below : (i : ℕ) → i < end + 1 → search_label next (node_at next i) ≤ label
    next_below i l = elim (cases_lt i end) [
      | inl less ↦ omega (arith, label_old i less, ready.below i less)
      | inr last ↦ omega (arith, label_end i (omega (arith, l, last)))
    ]

    same_longer : (i : ℕ) → i < end + 1 → slice_index new i ≡ slice_index longer i
    same_longer i l = elim (cases_lt i end) [
      | inl less ↦ new_old i less ∙ sym (longer_old i less)
      | inr last ↦
          let here : i ≡ end = omega (arith, l, last) in
          rw here (new_end ∙ sym longer_end)
    ]

    pub falls_one : FallsTo label (λ v. v ≡ p) (found_of labels queue end) (found_of (slice_set labels p label) new (end + 1))
    falls_one = record {
      ready = record {
        queue = record {
          len = new_len ∙ (ready.queue.len ∙ sym (length-set labels p label));
          fits = omega (arith, queue_room, new_len);
          nodes = λ i l. omega (arith, same_longer i l, longer_small i l, length-set labels p label);
          once = λ i j li lj same. longer_once i j li lj (sym (same_longer i li) ∙ (same ∙ same_longer j lj));
          rising = λ i j le lj. elim (cases_lt j end) [
            | inl less ↦ omega (arith, label_old i (omega (arith, le, less)), label_old j less, ready.queue.rising i j le less)
            | inr last ↦ omega (arith, next_below i (omega (arith, le, lj)), label_end j (omega (arith, lj, last)))
          ];
        };
        below = next_below;
      };
      len = length-set labels p label;
      more = omega arith;
      kept = new_old;
      each = λ v. elim (cases_eq v p) [
        | inl here ↦ inr (record {
          above = omega (arith, high, ap (slice_index labels) here);
          given = ap (slice_index (slice_set labels p label)) here ∙ get_or-set_same labels p label 0 lp;
          reason = here;
          place = (end, omega arith, omega arith, new_end ∙ sym here);
        })
        | inr away ↦ inl (get_or-set_other labels p v label 0 away)
      ];
    }

-- ---- where labels are tight

-- labels that came down stay tight behind a node whose own label stayed
tight_kept : (w : Whole) (b q : ℕ) (labels new : List ℕ) → ((v : ℕ) → slice_index new v ≤ slice_index labels v)
    → slice_index new q ≡ slice_index labels q → IsTightBehind w b labels q → IsTightBehind w b new q
tight_kept w b q labels new falls same tight x leads at =
    omega (arith, tight x leads at, falls (place w (near w.net x)), same)

-- nodes whose labels fell stand behind the next place of the queue
pub tight_more : (w : Whole) (b next label : ℕ) (R : ℕ → Type 0) (s t : Search) → FallsTo label R s t → next ≤ s.count
    → IsTightUpTo w b next s → IsTightUpTo w b next t
tight_more w b next label R s t falls from was v lv = elim (falls.each v) [
  | inr lower ↦ inr (lower.place.0, omega (arith, lower.place.1, from), lower.place.2, lower.place.3)
  | inl same ↦ elim (was v (omega (arith, lv, falls.len))) [
    | inl before ↦ inl (tight_kept w b v s.labels t.labels (falls_low label R s t falls) same before)
    | inr waits ↦ inr (waits.0, waits.1, omega (arith, waits.2, falls.more), falls.kept waits.0 waits.2 ∙ waits.3)
  ]
]

-- the node at the next place of the queue is done
pub tight_next : (w : Whole) (b next q label : ℕ) (R : ℕ → Type 0) (s t : Search) → FallsTo label R s t → next < s.count → q ≡ slice_index s.order next
    → IsTightBehind w b t.labels q → IsTightUpTo w b next s → IsTightUpTo w b (next + 1) t
tight_next w b next q label R s t falls l at tight was v lv =
    elim (tight_more w b next label R s t falls (omega (arith, l)) was v lv) [
      | inl before ↦ inl before
      | inr waits ↦ elim (cases_eq waits.0 next) [
        | inl here ↦ inl (subst (λ u. IsTightBehind w b t.labels u)
            (at ∙ (sym (falls.kept next l) ∙ (sym (ap (slice_index t.order) here) ∙ waits.3))) tight)
        | inr away ↦ inr (waits.0, omega (arith, waits.1, away), waits.2, waits.3)
      ]
    ]

-- all labels were the top one before they came down
pub tight_first : (w : Whole) (b n most label : ℕ) (R : ℕ → Type 0) (queue : List ℕ) (t : Search)
    → FallsTo label R (found_of (replicate n most) queue 0) t → IsTightUpTo w b 0 t
tight_first w b n most label R queue t falls q lq =
    let long : length t.labels ≡ n = falls.len ∙ length-replicate n most in
    elim (falls.each q) [
      | inr lower ↦ inr (lower.place.0, omega arith, lower.place.2, lower.place.3)
      | inl same ↦ inl (λ x leads at.
          let high : slice_index t.labels q ≡ most = same ∙ get_or-replicate n q most 0 (omega (arith, lq, long)) in
          let u = place w (near w.net x) in
          omega (arith, high, falls_low label R (found_of (replicate n most) queue 0) t falls u, replicate_most n most u))
    ]

-- no label came down yet
pub tight_start : (w : Whole) (b : ℕ) (labels queue : List ℕ) → AreTight w b labels → IsTightUpTo w b 0 (found_of labels queue 0)
tight_start w b labels queue tight q l =
    inl (λ x leads at. subst (λ v. slice_index labels (place w (near w.net x)) ≤ slice_index labels v + 1) at (tight x leads))

-- ---- why labels came down

pub down_none : (w : Whole) (b : ℕ) (A : ℕ → ℕ → Type 0) (labels : List ℕ) → ComeDown w b A labels labels
down_none w b A labels = record { len = refl; falls = λ v. omega arith; reasons = λ v. inl refl }

-- labels that came down twice
pub down_more : (w : Whole) (b : ℕ) (A : ℕ → ℕ → Type 0) (r s t : List ℕ) → ComeDown w b A r s → ComeDown w b A s t → ComeDown w b A r t
down_more w b A r s t p q = record {
  len = q.len ∙ p.len;
  falls = λ v. omega (arith, p.falls v, q.falls v);
  reasons = λ v. elim (q.reasons v) [
    | inr reason ↦ inr reason
    | inl same ↦ elim (p.reasons v) [
      | inl also ↦ inl (same ∙ also)
      | inr (inl next) ↦ inr (inl (next.0, next.1, omega (arith, next.2, q.falls next.0, same)))
      | inr (inr allowed) ↦ inr (inr (subst (A v) (sym same) allowed))
    ]
  ];
}

-- the other reason may be said in other words
pub down_for : (w : Whole) (b : ℕ) (A B : ℕ → ℕ → Type 0) (s t : List ℕ) → ((v label : ℕ) → A v label → B v label) → ComeDown w b A s t → ComeDown w b B s t
down_for w b A B s t for p = record {
  len = p.len;
  falls = p.falls;
  reasons = λ v. elim (p.reasons v) [
    | inl same ↦ inl same
    | inr (inl next) ↦ inr (inl next)
    | inr (inr allowed) ↦ inr (inr (for v (slice_index t v) allowed))
  ];
}

-- the label of one node came down for another reason
pub down_allowed : (w : Whole) (b : ℕ) (A : ℕ → ℕ → Type 0) (p label : ℕ) (s t : Search) → FallsTo label (λ v. v ≡ p) s t → A p label
    → ComeDown w b A s.labels t.labels
down_allowed w b A p label s t falls allowed = record {
  len = falls.len;
  falls = falls_low label (λ v. v ≡ p) s t falls;
  reasons = λ v. elim (falls.each v) [
    | inl same ↦ inl same
    | inr lower ↦ inr (inr (subst (λ u. A u (slice_index t.labels v)) (sym lower.reason) (subst (A p) (sym lower.given) allowed)))
  ];
}

-- the labels behind a node came down to one more than its own
pub down_behind : (w : Whole) (b : ℕ) (A : ℕ → ℕ → Type 0) (q label : ℕ) (s t : Search) → FallsTo label (λ v. StepsWithin w b v q) s t
    → label ≡ slice_index s.labels q + 1 → ComeDown w b A s.labels t.labels
down_behind w b A q label s t falls is = record {
  len = falls.len;
  falls = falls_low label (λ v. StepsWithin w b v q) s t falls;
  reasons = λ v. elim (falls.each v) [
    | inl same ↦ inl same
    | inr lower ↦ inr (inl (q, lower.reason, omega (arith, lower.given, is, falls_low label (λ u. StepsWithin w b u q) s t falls q)))
  ];
}

-- all labels were the top one before the nodes that give the sink got theirs
pub lengths_first : (w : Whole) (b : ℕ) (A : ℕ → ℕ → Type 0) (queue : List ℕ) (t : Search) (new : List ℕ)
    → FallsTo 1 (λ p. 0 < room_in (block_at w b) p) (found_of (replicate (count (block_at w b)) (block_at w b).top) queue 0) t
    → ((v label : ℕ) → A v label → ⊥) → ComeDown w b A t.labels new → AreLengthsWithin w b new
lengths_first w b A queue t new falls none down =
    let n = count (block_at w b) in
    let most = (block_at w b).top in
    let R : ℕ → Type 0 = λ p. 0 < room_in (block_at w b) p in
    record {
      range = λ p. omega (arith, down.falls p, falls_low 1 R (found_of (replicate n most) queue 0) t falls p, replicate_most n most p);
      reasons = λ p lp less. elim (down.reasons p) [
        | inr (inl next) ↦ inr next
        | inr (inr allowed) ↦ absurd (none p (slice_index new p) allowed)
        | inl same ↦ elim (falls.each p) [
          | inl also ↦ absurd (omega (arith, less, same, also, get_or-replicate n p most 0 lp))
          | inr lower ↦ inl (lower.reason, same ∙ lower.given)
        ]
      ];
    }

-- ---- the ends of a direction within a block

module _ (w : Whole) (laid : IsLaid w) (b : ℕ) (lb : b < length w.blocks) where
  at_block : IsAt w (blocks_in w) b (block_at w b)
  at_block = record { laid = laid; view = refl; block = lb; is = refl }

  far_at : (x : Direction) → LeadsWithin w b x → IsSpot w (far w.net x) b (place w (far w.net x))
  far_at x leads =
      let away = far_spot w (blocks_in w) b (block_at w b) x (slot w x) at_block
      (record { direction = leads.direction; outer = leads.inner; node_block = leads.node_block; slot = refl; block = lb }) in
      record { node = away.node; node_block = away.node_block; place = refl; block = lb }

  far_place : (x : Direction) → LeadsWithin w b x → place w (far w.net x) < count (block_at w b)
  far_place x leads =
      let spot = far_at x leads in
      omega (arith, laid.placed.places (far w.net x) spot.node, ap (λ c. count (block_at w c)) spot.node_block)

  -- labels are tight where the queue is done
  pub tight_all : (next : ℕ) (s : Search) → length s.labels ≡ count (block_at w b) → s.count ≤ next → IsTightUpTo w b next s → AreTight w b s.labels
  tight_all next s long done up x leads =
      let q = place w (far w.net x) in
      elim (up q (omega (arith, long, far_place x leads))) [
        | inl tight ↦ tight x leads refl
        | inr waits ↦ absurd (omega (arith, waits.1, waits.2, done))
      ]

-- ---- a loop over the places of a node

-- the nodes behind node u have at most this label, as far as its directions' places are below j
abbrev pub AreLabelledTo : Whole → ℕ → ℕ → ℕ → List ℕ → Type 0
AreLabelledTo w u j label labels =
    (x : Direction) → IsDirection w.net x → near w.net x ≡ u → is_outer w x ≡ false → slot w x < j
    → 0 < (lane_at (state_shown w).lanes (opposite x)).residual → slice_index labels (place w (far w.net x)) ≤ label

-- the far node of a direction at a place of a node
pub far_of_lane : (w : Whole) (b : ℕ) (B : CellsView) (u p j : ℕ) (x : Direction) → IsAt w (blocks_in w) b B → IsSpot w u b p → StandsAt w false u j x
    → IsSpot w (far w.net x) b (lane_in B j).far
far_of_lane w b B u p j x at spot stands = far_spot w (blocks_in w) b B x j at (record {
  direction = stands.direction;
  outer = stands.outer;
  node_block = ap (node_block w) stands.near ∙ spot.node_block;
  slot = stands.slot;
  block = spot.block;
})

pub far_below : (w : Whole) (b : ℕ) (B : CellsView) (u p j : ℕ) (x : Direction) → IsAt w (blocks_in w) b B → IsSpot w u b p → StandsAt w false u j x
    → (lane_in B j).far < count B
far_below w b B u p j x at spot stands =
    node_below w (blocks_in w) b B (far w.net x) (lane_in B j).far at (far_of_lane w b B u p j x at spot stands)

-- its opposite direction leads back
pub steps_back : (w : Whole) (b : ℕ) (B : CellsView) (u p j : ℕ) (x : Direction) → IsAt w (blocks_in w) b B → IsSpot w u b p → StandsAt w false u j x
    → 0 < (lane_at (state_shown w).lanes (opposite x)).residual → StepsWithin w b (lane_in B j).far p
steps_back w b B u p j x at spot stands some =
    let there = far_of_lane w b B u p j x at spot stands in
    let leads : LeadsWithin w b (opposite x) = record {
      direction = stands.direction;
      inner = border_opposite w.net (length w.blocks) x ∙ stands.outer;
      node_block = ap (node_block w) (near_opposite w.net x) ∙ there.node_block;
      residual = some;
    } in
    (opposite x, leads, ap (place w) (near_opposite w.net x) ∙ there.place, ap (place w) (far_opposite w.net x ∙ stands.near) ∙ spot.place)

pub labelled_none : (w : Whole) (u j label : ℕ) (labels : List ℕ)
    → ((x : Direction) → IsDirection w.net x → near w.net x ≡ u → is_outer w x ≡ false → j ≤ slot w x) → AreLabelledTo w u j label labels
labelled_none w u j label labels floor x l at out low some = absurd (omega (arith, low, floor x l at out))

-- one more place is seen, of a direction whose far node stands at place f and whose opposite
-- direction can carry r
pub labelled_more : (w : Whole) (u j label f r : ℕ) (labels new : List ℕ) (x : Direction) → IsPlaced w → AreLabelledTo w u j label labels
    → ((v : ℕ) → slice_index new v ≤ slice_index labels v) → StandsAt w false u j x → place w (far w.net x) ≡ f
    → r ≡ (lane_at (state_shown w).lanes (opposite x)).residual → (0 < r → slice_index new f ≤ label) → AreLabelledTo w u (j + 1) label new
labelled_more w u j label f r labels new x placed before falls stands end can marked y l at out low some = elim (cases_lt (slot w y) j) [
  | inl less ↦ omega (arith, before y l at out less some, falls (place w (far w.net y)))
  | inr last ↦
      let same : y ≡ x = placed.apart y x l stands.direction (out ∙ sym stands.outer) (ap (node_block w) (at ∙ sym stands.near)) (omega (arith, last, low, stands.slot)) in
      let some' : 0 < r = omega (arith, some, can, ap (λ (z : Direction). (lane_at (state_shown w).lanes (opposite z)).residual) same) in
      let here : place w (far w.net y) ≡ f = ap (λ (z : Direction). place w (far w.net z)) same ∙ end in
      omega (arith, marked some', ap (slice_index new) here)
]

-- all places are seen
pub labelled_all : (w : Whole) (laid : IsLaid w) (b : ℕ) (lb : b < length w.blocks) (q j label : ℕ) (labels : List ℕ)
    → AreLabelledTo w (slice_index w.firsts b + q) j label labels → label ≤ slice_index labels q + 1
    → ((x : Direction) → IsDirection w.net x → near w.net x ≡ slice_index w.firsts b + q → is_outer w x ≡ false → slot w x < j)
    → IsTightBehind w b labels q
labelled_all w laid b lb q j label labels seen low high x leads at =
    let y = opposite x in
    let spot = far_at w laid b lb x leads in
    let number : far w.net x ≡ slice_index w.firsts b + q =
    omega (arith, ap (slice_index w.firsts) spot.node_block, at, laid.placed.firsts (far w.net x) spot.node) in
    let leaves : near w.net y ≡ slice_index w.firsts b + q = near_opposite w.net x ∙ number in
    let out : is_outer w y ≡ false = border_opposite w.net (length w.blocks) x ∙ leads.inner in
    let can : 0 < (lane_at (state_shown w).lanes (opposite y)).residual =
    omega (arith, leads.residual, ap (λ (z : Direction). (lane_at (state_shown w).lanes z).residual) (opposite_twice x)) in
    omega (arith, seen y leads.direction leaves out (high y leads.direction leaves out) can, low, ap (λ v. slice_index labels (place w v)) (far_opposite w.net x))
