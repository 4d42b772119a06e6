-- A node's label by what lies next to it: the least of what its directions allow.
use Rattle.std.proofs.Common.{◌≡◌, ℕ, ◌+◌, ◌-◌, ◌<◌, ◌≤◌, ◌⊎◌, Bool, true, false, List, length, slice_index, inl, inr, refl, sym, ◌∙◌, ap, subst, arith}
use Rattle.std.proofs.lemmas.Bool.{cases_lt, cases_Bool}
use Rattle.flow_network.specs.Progress.{top}
use Rattle.block_events.specs.declared.direction.Direction.{Direction}
use Rattle.block_events.specs.Directions.{IsDirection, near, far}
use Rattle.block_events.specs.States.{State, lane_at, is_border}
use Rattle.block_events.specs.Effects.{BlocksView, state_of}
use Rattle.block_net.specs.Whole.{Whole, node_block, slot, is_outer, block_at, state_shown, StandsAt, IsPlaced}
use Rattle.block_net.specs.Views.{count}
use Rattle.block_split.specs.declared.parts.Parts.{Parts}
use Rattle.block_split.specs.Split.{whole_of}
use Rattle.net_in_blocks.specs.Views.{blocks_in}
use Rattle.block_state.specs.Parts.{IsIn}
use Rattle.global_relabel.specs.Local.{GivesSink, StepsTo, IsLocallyExact, AreLocallyExactIn, LeadsOnFrom, IsLeastStep}
use Rattle.global_relabel.proofs.Homing.{number, is_inside}

-- ---- a loop over the places of a node

-- the places of node v before j were seen
pub record IsLeastUpTo (w : Whole) (leaves : Bool) (labels : List ℕ) (v before least j : ℕ) : Type 0 where
  pub below : least ≤ before
  pub steps : (x : Direction) → LeadsOnFrom (state_shown w) leaves v x → slot w x < j → least ≤ slice_index labels (far w.net x) + 1
  pub reason : (least ≡ before) ⊎ ((x : Direction) × LeadsOnFrom (state_shown w) leaves v x × (least ≡ slice_index labels (far w.net x) + 1))

pub least_none : (w : Whole) (leaves : Bool) (labels : List ℕ) (v before j : ℕ)
    → ((x : Direction) → IsDirection w.net x → near w.net x ≡ v → is_outer w x ≡ leaves → j ≤ slot w x) → IsLeastUpTo w leaves labels v before before j
least_none w leaves labels v before j floor = record {
  below = omega arith;
  steps = λ x step low. absurd (omega (arith, low, floor x step.direction step.near step.border));
  reason = inl refl;
}

-- one more place is seen, of a direction that can carry r and leads to a node with a label
pub least_more : (w : Whole) (leaves : Bool) (labels : List ℕ) (v before least new j label r : ℕ) (x : Direction) → IsPlaced w
    → IsLeastUpTo w leaves labels v before least j → StandsAt w leaves v j x → label ≡ slice_index labels (far w.net x)
    → r ≡ (lane_at (state_shown w).lanes x).residual
    → new ≤ least → (0 < r → new ≤ label + 1) → (new ≡ least) ⊎ ((0 < r) × (new ≡ label + 1)) → IsLeastUpTo w leaves labels v before new (j + 1)
least_more w leaves labels v before least new j label r x placed seen stands at can low step reason = record {
  below = omega (arith, low, seen.below);
  steps = λ y steps under. elim (cases_lt (slot w y) j) [
    | inl less ↦ omega (arith, seen.steps y steps less, low)
    | inr last ↦
        let same : y ≡ x = placed.apart y x steps.direction stands.direction (steps.border ∙ sym stands.outer) (ap (node_block w) (steps.near ∙ sym stands.near)) (omega (arith, last, under, stands.slot)) in
        let some : 0 < r = omega (arith, steps.residual, can, ap (λ (z : Direction). (lane_at (state_shown w).lanes z).residual) same) in
        omega (arith, step some, at, ap (λ (z : Direction). slice_index labels (far w.net z)) same)
  ];
  reason = elim reason [
    | inl kept ↦ elim seen.reason [
      | inl first ↦ inl (kept ∙ first)
      | inr why ↦ inr (why.0, why.1, kept ∙ why.2)
    ]
    | inr now ↦ inr (
      x,
      record { direction = stands.direction; near = stands.near; border = stands.outer; residual = omega (arith, now.0, can) },
      omega (arith, now.1, at),
    )
  ];
}

pub least_all : (w : Whole) (leaves : Bool) (labels : List ℕ) (v before least j : ℕ) → IsLeastUpTo w leaves labels v before least j
    → ((x : Direction) → IsDirection w.net x → near w.net x ≡ v → is_outer w x ≡ leaves → slot w x < j) → IsLeastStep (state_shown w) leaves labels v before least
least_all w leaves labels v before least j seen high = record {
  below = seen.below;
  steps = λ x step. seen.steps x step (high x step.direction step.near step.border);
  reason = seen.reason;
}

-- ---- the least of all is the label that is exact by what lies next to the node

module _ (s : State) (labels : List ℕ) (v start within least : ℕ) (low : start ≤ top s.net) (sink : GivesSink s v → start ≤ 1)
    (begins : (start ≡ top s.net) ⊎ ((start ≡ 1) × GivesSink s v))
    (inner : IsLeastStep s false labels v start within) (outer : IsLeastStep s true labels v within least) where
  abbrev label : ℕ
  label = slice_index labels v

  least_below : least ≤ top s.net
  least_below = omega (arith, low, inner.below, outer.below)

  least_sink : GivesSink s v → least ≤ 1
  least_sink gives = omega (arith, sink gives, inner.below, outer.below)

  least_steps : (d : ℕ) → StepsTo s labels v d → least ≤ d + 1
  least_steps d (x, is, at, some, there) = elim (cases_Bool (is_border s.net s.blocks x)) [
    | inl out ↦ omega (arith, outer.steps x (record { direction = is; near = at; border = out; residual = some }), there)
    | inr kept ↦ omega (arith, inner.steps x (record { direction = is; near = at; border = kept; residual = some }), outer.below, there)
  ]

  least_reason : least < top s.net → ((least ≡ 1) × GivesSink s v) ⊎ ((d : ℕ) × StepsTo s labels v d × (least ≡ d + 1))
  least_reason less = elim outer.reason [
    | inr why ↦ inr (slice_index labels (far s.net why.0), (why.0, why.1.direction, why.1.near, why.1.residual, refl), why.2)
    | inl same ↦ elim inner.reason [
      | inr why ↦ inr (slice_index labels (far s.net why.0), (why.0, why.1.direction, why.1.near, why.1.residual, refl), same ∙ why.2)
      | inl also ↦ elim begins [
        | inl high ↦ absurd (omega (arith, less, same, also, high))
        | inr one ↦ inl (same ∙ (also ∙ one.0), one.1)
      ]
    ]
  ]

  pub exact_of_least : label ≡ least → (least + 1 ≡ top s.net → ⊥) → IsLocallyExact s labels v
  exact_of_least is off = record {
    range = elim (cases_lt least (top s.net)) [
      | inl less ↦ elim (cases_lt (least + 1) (top s.net)) [
        | inl more ↦ inl (omega (arith, is, more))
        | inr end ↦ absurd (off (omega (arith, less, end)))
      ]
      | inr high ↦ inr (omega (arith, is, high, least_below))
    ];
    sink = λ gives. omega (arith, is, least_sink gives);
    steps = λ d step. omega (arith, is, least_steps d step);
    reason = λ less. elim (least_reason (omega (arith, is, less))) [
      | inl one ↦ inl (is ∙ one.0, one.1)
      | inr more ↦ inr (more.0, more.1, is ∙ more.2)
    ];
  }

  above : IsLocallyExact s labels v → least ≤ label
  above exact = elim exact.range [
    | inr high ↦ omega (arith, high, least_below)
    | inl under ↦ elim (exact.reason (omega (arith, under))) [
      | inl one ↦ omega (arith, one.0, least_sink one.1)
      | inr more ↦ omega (arith, more.2, least_steps more.0 more.1)
    ]
  ]

  under : IsLocallyExact s labels v → label ≤ least
  under exact = elim (cases_lt least (top s.net)) [
    | inr high ↦ elim exact.range [
      | inl few ↦ omega (arith, few, high)
      | inr same ↦ omega (arith, same, high)
    ]
    | inl less ↦ elim (least_reason less) [
      | inl one ↦ omega (arith, one.0, exact.sink one.1)
      | inr more ↦ omega (arith, more.2, exact.steps more.0 more.1)
    ]
  ]

  pub least_of_exact : IsLocallyExact s labels v → label ≡ least
  least_of_exact exact = omega (arith, above exact, under exact)

  pub not_between : IsLocallyExact s labels v → least + 1 ≡ top s.net → ⊥
  not_between exact end = elim exact.range [
    | inl few ↦ omega (arith, few, end, least_of_exact exact)
    | inr same ↦ omega (arith, same, end, least_of_exact exact)
  ]

-- ---- what is on the way does not matter

other_ways : (b : BlocksView) (s t : State) (labels : List ℕ) (v : ℕ) → s ≡ state_of b s.ways s.got → t ≡ state_of b t.ways t.got
    → IsLocallyExact s labels v → IsLocallyExact t labels v
other_ways b s t labels v is also exact =
    let here : IsLocallyExact (state_of b s.ways s.got) labels v = subst (λ (r : State). IsLocallyExact r labels v) is exact in
    let there : IsLocallyExact (state_of b t.ways t.got) labels v = record { range = here.range; sink = here.sink; steps = here.steps; reason = here.reason } in
    subst (λ (r : State). IsLocallyExact r labels v) (sym also) there

module _ (s : State) (p : Parts) (is : IsIn s p) (labels : List ℕ) where
  abbrev w : Whole
  w = whole_of s.net p

  pub to_shown : (v : ℕ) → IsLocallyExact s labels v → IsLocallyExact (state_shown w) labels v
  to_shown v = other_ways (blocks_in w) s (state_shown w) labels v (sym is.shown) refl

  pub of_shown : (v : ℕ) → IsLocallyExact (state_shown w) labels v → IsLocallyExact s labels v
  of_shown v = other_ways (blocks_in w) (state_shown w) s labels v refl (sym is.shown)

  pub number_blocks : length p.blocks.items ≡ s.blocks
  number_blocks = ap (λ (t : State). t.blocks) is.shown

  -- a block's nodes are those at its places
  pub block_of_places : (b : ℕ) → b < length p.blocks.items
      → ((q : ℕ) → q < count (block_at w b) → IsLocallyExact (state_shown w) labels (slice_index p.firsts.items b + q)) → AreLocallyExactIn s labels b
  block_of_places b lb each v l here =
      let at_node_block : node_block w v ≡ b = rw number_blocks here in
      let inside = is_inside w is.laid b lb v l at_node_block in
      let f = slice_index p.firsts.items b in
      let exact = each (v - f) (omega (arith, inside.0, inside.1)) in
      of_shown v (subst (λ u. IsLocallyExact (state_shown w) labels u) (omega (arith, inside.0)) exact)

  pub place_of_block : (b q : ℕ) → b < length p.blocks.items → q < count (block_at w b) → AreLocallyExactIn s labels b
      → IsLocallyExact (state_shown w) labels (slice_index p.firsts.items b + q)
  place_of_block b q lb lq all =
      let found = number w is.laid b lb q lq in
      let exact = all found.0 found.1 (rw (sym number_blocks) found.3) in
      subst (λ u. IsLocallyExact (state_shown w) labels u) (sym found.2) (to_shown found.0 exact)
