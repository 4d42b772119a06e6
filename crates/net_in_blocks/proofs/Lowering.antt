-- Passes that lower labels end at the exact ones.
use Rattle.std.proofs.Common.{eqb, add-one, ◌≡◌, ℕ, zero, suc, ◌+◌, ◌-◌, ◌<◌, ◌≤◌, ◌⊎◌, inl, inr, Bool, true, false, List, length, set, slice_index, sum, refl, sym, ◌∙◌, ap, subst, arith, get_or-set_same, get_or-set_other}
use Rattle.std.proofs.lemmas.List.{length-set}
use Rattle.std.proofs.lemmas.Bool.{cases_eq, cases_lt, cases_Bool}
use Rattle.std.proofs.lemmas.List.Sums.{sum_by-set}
use Rattle.sums.specs.Sums.{sum_below, count_if}
use Rattle.sums.proofs.SumLemmas.{sum_below-le, sum_below-swap, sum_below-pick, sum_below-none, term-le-sum_below, counted-other, counted-same}
use Rattle.flow_network.specs.Cut.{nodes, IsNet}
use Rattle.flow_network.specs.Progress.{top}
use Rattle.block_events.specs.declared.direction.Direction.{Direction}
use Rattle.block_events.specs.Directions.{IsDirection, near, far}
use Rattle.block_events.specs.Reach.{ReachesSinkIn, IsExact, AreExact}
use Rattle.block_events.specs.States as core
use Rattle.block_events.proofs.Ends.{near_in, far_in}
use Rattle.block_events.specs.Effects.{BlocksView, blocks_after_relabel}
use Rattle.net_in_blocks.specs.Raising.{bare, AreLengths, IsLowered, IsStableAlong, IsStable}

-- ---- as many levels as nodes

sum_ones : (n : ℕ) → sum_below n (λ i. 1) ≡ n
sum_ones zero = refl
sum_ones (suc n) = omega (arith, sum_ones n)

one_at_most : (m u : ℕ) → sum_below m (λ i. count_if (eqb u i) 1) ≤ 1
one_at_most m u = elim (cases_lt u m) [
  | inl l ↦ omega (arith, sum_below-pick m u (λ i. 1) l)
  | inr out ↦ omega (arith, sum_below-none m (λ i. count_if (eqb u i) 1) (λ i li. counted-other u i 1 (λ e. omega (arith, e, li, out))))
]

-- numbers that n nodes take, each below m, are at most n
pub levels : (n m : ℕ) (f : ℕ → ℕ) → ((i : ℕ) → i < m → (v : ℕ) × (v < n) × (f v ≡ i)) → m ≤ n
levels n m f at =
    let hit = λ (i v : ℕ). count_if (eqb (f v) i) 1 in
    let some = sum_below-le m (λ i. 1) (λ i. sum_below n (hit i)) (λ i li.
    let (v, lv, is) = at i li in
    let here : hit i v ≡ 1 = rw is (counted-same i 1) in
    omega (arith, here, term-le-sum_below n (hit i) v lv)) in
    let few = sum_below-le n (λ v. sum_below m (λ i. hit i v)) (λ v. 1) (λ v lv. one_at_most m (f v)) in
    omega (arith, some, few, sum_below-swap m n hit, sum_ones m, sum_ones n)

-- ---- labels that are stable and reached are exact

module _ (s : core.State) (labels : List ℕ) (net : IsNet s.net)
    (rooms : (v : ℕ) → v < nodes s.net → 0 < core.room_of s v → slice_index labels v ≤ 1)
    (steps : (x : Direction) → IsDirection s.net x → 0 < core.residual_of s x → slice_index labels (near s.net x) ≤ slice_index labels (far s.net x) + 1)
    (reached : (v : ℕ) → v < nodes s.net → (slice_index labels v ≡ top s.net) ⊎ ((slice_index labels v < top s.net) × ReachesSinkIn s (slice_index labels v) v)) where
  starts_in : (d v : ℕ) → ReachesSinkIn s d v → v < nodes s.net
  starts_in zero v path = absurd path
  starts_in (suc zero) v path = path.0
  starts_in (suc (suc d)) v path = rw (sym path.2) (near_in s.net path.0 net path.1)

  le_path : (d v : ℕ) → ReachesSinkIn s d v → slice_index labels v ≤ d
  le_path zero v path = absurd path
  le_path (suc zero) v path = rooms v path.0 path.1
  le_path (suc (suc d)) v path =
      let step = rw path.2 at (steps path.0 path.1 path.3) in
      omega (arith, step, le_path (suc d) (far s.net path.0) path.4)

  -- below a node that is as high as a path is long there is a node of each label
  each_level : (d v : ℕ) → slice_index labels v ≡ d → ReachesSinkIn s d v → (i : ℕ) → i < d → (u : ℕ) × (u < nodes s.net) × (slice_index labels u - 1 ≡ i)
  each_level zero v is path i l = absurd path
  each_level (suc zero) v is path i l = (v, path.0, omega (arith, is, l))
  each_level (suc (suc d)) v is path i l = elim (cases_lt i (suc d)) [
    | inl below ↦
        let step = rw path.2 at (steps path.0 path.1 path.3) in
        let next = far s.net path.0 in
        each_level (suc d) next (omega (arith, is, step, le_path (suc d) next path.4)) path.4 i below
    | inr not_below ↦ (v, starts_in (suc (suc d)) v path, omega (arith, is, l, not_below))
  ]

  low : (v : ℕ) → ReachesSinkIn s (slice_index labels v) v → slice_index labels v ≤ nodes s.net
  low v path = levels (nodes s.net) (slice_index labels v) (λ u. slice_index labels u - 1) (each_level (slice_index labels v) v refl path)

  below_top : (v : ℕ) → v < nodes s.net → slice_index labels v < top s.net → slice_index labels v ≤ nodes s.net
  below_top v l less = elim (reached v l) [
    | inl at_top ↦ absurd (omega (arith, at_top, less))
    | inr found ↦ low v found.1
  ]

  le_nodes : (d v : ℕ) → ReachesSinkIn s d v → slice_index labels v ≤ nodes s.net
  le_nodes zero v path = absurd path
  le_nodes (suc zero) v path = below_top v path.0 (omega (arith, rooms v path.0 path.1))
  le_nodes (suc (suc d)) v path =
      let step = rw path.2 at (steps path.0 path.1 path.3) in
      below_top v (starts_in (suc (suc d)) v path) (omega (arith, step, le_nodes (suc d) (far s.net path.0) path.4))

  exact_at : (v : ℕ) → v < nodes s.net → IsExact s v (slice_index labels v)
  exact_at v l = elim (reached v l) [
    | inl at_top ↦ inr (at_top, λ leads. omega (arith, at_top, le_nodes leads.0 v leads.1))
    | inr found ↦ inl (low v found.1, found.1, λ d path. le_path d v path)
  ]

  pub are_exact : length labels ≡ nodes s.net → AreExact s labels
  are_exact len = record { len = len; exact = exact_at }

-- ---- one label comes down

one_more : (s : core.State) (x : Direction) (d : ℕ) → IsDirection s.net x → 0 < core.residual_of s x → ReachesSinkIn s d (far s.net x) → ReachesSinkIn s (d + 1) (near s.net x)
one_more s x zero l residual path = absurd path
one_more s x (suc d) l residual path = rw add-one (x, l, refl, residual, path)

true_false : {P : Type 0} → false ≡ true → P
true_false e = cc

pub not_lowered : (b : BlocksView) → IsLowered b b false
not_lowered b = record { rest = refl; len = refl; reached = λ r. r; less = λ e. true_false e; still = λ e. refl }

pub lowered_label : (b : BlocksView) (v d : ℕ) → v < nodes b.net → length b.labels ≡ nodes b.net → d < slice_index b.labels v
    → (AreLengths b → (d < top b.net) × ReachesSinkIn (bare b) d v) → IsLowered b (blocks_after_relabel b v d) true
lowered_label b v d l long below reached = record {
  rest = refl;
  len = length-set b.labels v d;
  reached = λ r. record {
    each = λ u lu. elim (cases_eq u v) [
      | inl e ↦
          let is : slice_index (set b.labels v d) u ≡ d = rw e (get_or-set_same b.labels v d 0 (omega (arith, l, long))) in
          let found = reached r in
          inr (omega (arith, is, found.0), rw (is, e) found.1)
      | inr off ↦
          let is : slice_index (set b.labels v d) u ≡ slice_index b.labels u = get_or-set_other b.labels v u d 0 off in
          rw is (r.each u lu)
    ];
  };
  less = λ e. omega (arith, sum_by-set (λ (n : ℕ). n) b.labels v d 0 (omega (arith, l, long)), below);
  still = λ e. cc;
}

pub lowered_then : (a b c : BlocksView) (p : Bool) → IsLowered a b p → IsLowered b c true → IsLowered a c true
lowered_then a b c p first second = record {
  rest = second.rest ∙ ap (λ (v : BlocksView). record v { labels = c.labels }) first.rest;
  len = second.len ∙ first.len;
  reached = λ r. second.reached (first.reached r);
  less = λ e. elim (cases_Bool p) [
    | inl yes' ↦ omega (arith, first.less yes', second.less refl)
    | inr no' ↦ omega (arith, ap (λ (v : BlocksView). sum v.labels) (first.still no'), second.less refl)
  ];
  still = λ e. cc;
}

pub lowered_else : (a b c : BlocksView) (p : Bool) → IsLowered a b p → IsLowered b c false → IsLowered a c p
lowered_else a b c p first second = rw (second.still refl) first

-- ---- a pass

pub record IsPass (old now : BlocksView) (changed : Bool) (Stable : Type 0) : Type 0 where
  pub lowered : IsLowered old now changed
  pub stable : changed ≡ false → Stable

-- the labels of the nodes below a number are those of f
pub record IsFilled (old now : BlocksView) (f : ℕ → ℕ) (count : ℕ) : Type 0 where
  pub rest : now ≡ record old { labels = now.labels }
  pub len : length now.labels ≡ nodes old.net
  pub filled : (v : ℕ) → v < count → slice_index now.labels v ≡ f v

-- the labels are on their way down
pub record IsSearch (old now : BlocksView) : Type 0 where
  pub rest : now ≡ record old { labels = now.labels }
  pub len : length now.labels ≡ nodes old.net
  pub reached : AreLengths now

-- ---- the steps of a pass

pub step_down : (b : BlocksView) (x : Direction) → IsNet b.net → IsDirection b.net x → 0 < (core.lane_at b.lanes x).residual
    → slice_index b.labels (far b.net x) + 1 < slice_index b.labels (near b.net x) → AreLengths b
    → (slice_index b.labels (far b.net x) + 1 < top b.net) × ReachesSinkIn (bare b) (slice_index b.labels (far b.net x) + 1) (near b.net x)
step_down b x net l residual above r =
    let at_near : slice_index b.labels (near b.net x) ≤ top b.net = elim (r.each (near b.net x) (near_in b.net x net l)) [
      | inl at_top ↦ omega (arith, at_top)
      | inr found ↦ omega (arith, found.0)
    ] in
    let less : slice_index b.labels (far b.net x) + 1 < top b.net = omega (arith, at_near, above) in
    elim (r.each (far b.net x) (far_in b.net x net l)) [
      | inl at_top ↦ absurd (omega (arith, at_top, less))
      | inr found ↦ (less, one_more (bare b) x (slice_index b.labels (far b.net x)) l residual found.1)
    ]

pub filled_more : (a b c : BlocksView) (f : ℕ → ℕ) (v d : ℕ) → IsFilled a b f v → c ≡ blocks_after_relabel b v d → v < nodes a.net → d ≡ f v → IsFilled a c f (v + 1)
filled_more a b c f v d made is l at_v = rw is record {
  rest = ap (λ (w : BlocksView). record w { labels = set b.labels v d }) made.rest;
  len = length-set b.labels v d ∙ made.len;
  filled = λ u lu. elim (cases_eq u v) [
    | inl e ↦ rw e (get_or-set_same b.labels v d 0 (omega (arith, l, made.len)) ∙ at_v)
    | inr off ↦ get_or-set_other b.labels v u d 0 off ∙ made.filled u (omega (arith, lu, off))
  ];
}

pub search_starts : (a b : BlocksView) → b ≡ record a { labels = b.labels } → length b.labels ≡ nodes a.net → ((v : ℕ) → v < nodes a.net → slice_index b.labels v ≡ top a.net) → IsSearch a b
search_starts a b rest len tops =
    let a' : BlocksView = record a { labels = b.labels } in
    let at_top : AreLengths a' = record { each = λ v l. inl (tops v l) } in
    record { rest = rest; len = len; reached = subst AreLengths (sym rest) at_top }

along : (b : BlocksView) → IsStable b → (k : ℕ) (back : Bool) → k < length b.net.arcs → IsStableAlong b (record { arc = k; back = back })
along b stable k true l = stable.back k l
along b stable k false l = stable.forth k l

pub search_exact : (a b : BlocksView) → IsNet a.net → b ≡ record a { labels = b.labels } → length b.labels ≡ nodes a.net → AreLengths b → IsStable b → AreExact (bare a) b.labels
search_exact a b net rest len reached stable =
    let b' : BlocksView = record a { labels = b.labels } in
    let reached' = subst AreLengths rest reached in
    let stable' = subst IsStable rest stable in
    are_exact (bare a) b.labels net (λ v l room. stable'.rooms v l room) (λ x l residual. along b' stable' x.arc x.back l residual) (λ v l. reached'.each v l) len
