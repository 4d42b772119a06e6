-- Nodes stay in their buckets where labels and excesses change.
use Rattle.std.proofs.Common.{◌≡◌, ◌≢◌, ◌⊎◌, ℕ, ◌+◌, ◌<◌, ◌≤◌, inl, inr, length, Option, Some, None, MatchOption, IfSome, min, cond, nat_lt, sum_by, get_or-set_same, get_or-set_other, refl, sym, ◌∙◌, ap, subst, arith}
use Rattle.std.proofs.lemmas.Bool.{cases_eq, cases_lt}
use Rattle.std.proofs.lemmas.List.{length-set}
use Rattle.std.proofs.lemmas.List.Sums.{sum_by-set}
use Rattle.std.proofs.lemmas.Bool.Decides.{nat_tests}
use Rattle.node_buckets.specs.Standing.{BucketsView, row_count, row_in, aside, nowhere, bucket_of, with_node_in_row, AreBucketsEmpty, IsHighest}
use Rattle.block_net.specs.Views.{CellsView, count, excess_in, label_in}
use Rattle.block_discharge.specs.Active.{IsActiveInBlock}
use Rattle.block_discharge.specs.Standing.{bucket_in, MayStand, Nowhere, Aside, InBucket, IsRight, IsFit, IsStanding, IsRenewed}

-- the rows are right, but for the activity of some nodes and the labels of some
pub record RightBut (b : CellsView) (s : BucketsView) (P Q : ℕ → Type 0) : Type 0 where
  pub fit : IsFit b s
  pub places : (u : ℕ) → u < count b → ¬ Q u → MayStand b s u
  pub right : (u : ℕ) → u < count b → ¬ P u → IsRight b s u

may_as : (b b' : CellsView) (s : BucketsView) (u : ℕ) → label_in b' u ≡ label_in b u → MayStand b s u → MayStand b' s u
may_as b b' s u same (Nowhere e) = Nowhere e
may_as b b' s u same (Aside e) = Aside e
may_as b b' s u same (InBucket e) = InBucket (e ∙ ap (bucket_of s) (sym same))

may_rows : (b : CellsView) (s s' : BucketsView) (u : ℕ) → s'.buckets ≡ s.buckets → row_in s' u ≡ row_in s u → MayStand b s u → MayStand b s' u
may_rows b s s' u same row (Nowhere e) = Nowhere (row ∙ (e ∙ ap (λ (n : ℕ). n + 1) (sym same)))
may_rows b s s' u same row (Aside e) = Aside (row ∙ (e ∙ sym same))
may_rows b s s' u same row (InBucket e) =
    InBucket (row ∙ (e ∙ ap (λ (n : ℕ). bucket_of (record s { buckets = n }) (label_in b u)) (sym same)))

active_as : (b b' : CellsView) (u : ℕ) → count b' ≡ count b → b'.top ≡ b.top → label_in b' u ≡ label_in b u → excess_in b' u ≡ excess_in b u → IsActiveInBlock b u → IsActiveInBlock b' u
active_as b b' u len top label excess active = record {
  node = omega (arith, active.node, len);
  excess = omega (arith, active.excess, excess);
  below = omega (arith, active.below, label, top);
}

right_as : (b b' : CellsView) (s : BucketsView) (u : ℕ) → count b' ≡ count b → b'.top ≡ b.top → label_in b' u ≡ label_in b u → excess_in b' u ≡ excess_in b u
    → IsRight b s u → IsRight b' s u
right_as b b' s u len top label excess h = record {
  active = λ on. h.active (active_as b' b u (sym len) (sym top) (sym label) (sym excess) on);
  others = λ off. h.others (λ on. off (active_as b b' u len top label excess on));
}

right_rows : (b : CellsView) (s s' : BucketsView) (u : ℕ) → s'.buckets ≡ s.buckets → row_in s' u ≡ row_in s u → IsRight b s u → IsRight b s' u
right_rows b s s' u same row h = record {
  active = λ on out. h.active on (sym row ∙ (out ∙ ap (λ (n : ℕ). n + 1) same));
  others = λ off. row ∙ (h.others off ∙ ap (λ (n : ℕ). n + 1) (sym same));
}

-- the excess of some nodes and the labels of some of these change
pub changed : (b b' : CellsView) (s : BucketsView) (P Q : ℕ → Type 0) → IsStanding b s → count b' ≡ count b → b'.top ≡ b.top
    → ((u : ℕ) → ¬ Q u → label_in b' u ≡ label_in b u) → ((u : ℕ) → ¬ P u → excess_in b' u ≡ excess_in b u) → ((u : ℕ) → Q u → P u)
    → RightBut b' s P Q
changed b b' s P Q h len top labels excess both = record {
  fit = record { nodes_same = h.fit.nodes_same ∙ sym len; buckets = h.fit.buckets ∙ ap (λ (n : ℕ). n + 2) (sym len) };
  places = λ u l off. may_as b b' s u (labels u off) (h.places u (omega (arith, l, len)));
  right = λ u l off. right_as b b' s u len top (labels u (λ q. off (both u q))) (excess u off) (h.right u (omega (arith, l, len)));
}

-- one of them is made right
pub renewed : (b : CellsView) (s s' : BucketsView) (P Q : ℕ → Type 0) (v : ℕ) → RightBut b s P Q → IsRenewed b v s s'
    → RightBut b s' (λ (u : ℕ). P u × (u ≢ v)) (λ (u : ℕ). Q u × (u ≢ v))
renewed b s s' P Q v h new = record {
  fit = record { nodes_same = new.same_nodes ∙ h.fit.nodes_same; buckets = new.same_buckets ∙ h.fit.buckets };
  places = λ u l off. elim (cases_eq u v) [
    | inl e ↦ subst (λ (x : ℕ). MayStand b s' x) (sym e) new.may
    | inr other ↦ may_rows b s s' u new.same_buckets (new.rows u other) (h.places u l (λ q. off (q, other)))
  ];
  right = λ u l off. elim (cases_eq u v) [
    | inl e ↦ subst (λ (x : ℕ). IsRight b s' x) (sym e) new.right
    | inr other ↦ right_rows b s s' u new.same_buckets (new.rows u other) (h.right u l (λ p. off (p, other)))
  ];
}

pub but_fewer : (b : CellsView) (s : BucketsView) (P Q P' Q' : ℕ → Type 0) → ((u : ℕ) → P u → P' u) → ((u : ℕ) → Q u → Q' u) → RightBut b s P Q → RightBut b s P' Q'
but_fewer b s P Q P' Q' p q h = record {
  fit = h.fit;
  places = λ u l off. h.places u l (λ x. off (q u x));
  right = λ u l off. h.right u l (λ x. off (p u x));
}

pub all_right : (b : CellsView) (s : BucketsView) (P Q : ℕ → Type 0) → ((u : ℕ) → u < count b → ¬ P u) → ((u : ℕ) → u < count b → ¬ Q u) → RightBut b s P Q → IsStanding b s
all_right b s P Q p q h = record {
  fit = h.fit;
  places = λ u l. h.places u l (q u l);
  right = λ u l. h.right u l (p u l);
}

pub still_aside : (b : CellsView) (v : ℕ) (s s' : BucketsView) → IsRenewed b v s s' → (u : ℕ) → row_in s' u ≡ aside s' → row_in s u ≡ aside s
still_aside b v s s' new u out = elim (cases_eq u v) [
  | inl e ↦
      let here : row_in s' v ≡ aside s' = ap (row_in s') (sym e) ∙ out in
      ap (row_in s) e ∙ new.still here
  | inr other ↦ sym (new.rows u other) ∙ (out ∙ new.same_buckets)
]

pub stays_aside : (b : CellsView) (v : ℕ) (s s' : BucketsView) → IsRenewed b v s s' → (u : ℕ) → row_in s u ≡ aside s → IsActiveInBlock b u → row_in s' u ≡ aside s'
stays_aside b v s s' new u out on = elim (cases_eq u v) [
  | inl e ↦
      let was : row_in s v ≡ aside s = ap (row_in s) (sym e) ∙ out in
      ap (row_in s') e ∙ new.stays was (subst (IsActiveInBlock b) e on)
  | inr other ↦ new.rows u other ∙ (out ∙ sym new.same_buckets)
]

-- one node's excess changed
pub one_stands : (b b' : CellsView) (s s' : BucketsView) (v : ℕ) → IsStanding b s → count b' ≡ count b → b'.top ≡ b.top → ((u : ℕ) → label_in b' u ≡ label_in b u)
    → ((u : ℕ) → u ≢ v → excess_in b' u ≡ excess_in b u) → IsRenewed b' v s s' → IsStanding b' s'
one_stands b b' s s' v h len top labels excess new =
    let P : ℕ → Type 0 = λ (u : ℕ). u ≡ v in
    let Q : ℕ → Type 0 = λ (u : ℕ). ⊥ in
    let off = changed b b' s P Q h len top (λ u no. labels u) excess (λ u no. absurd no) in
    all_right b' s' _ _ (λ u l p. p.1 p.0) (λ u l q. q.0) (renewed b' s s' P Q v off new)

-- two nodes' excess changed
pub two_stand : (b b' : CellsView) (s s' s'' : BucketsView) (v w : ℕ) → IsStanding b s → count b' ≡ count b → b'.top ≡ b.top → ((u : ℕ) → label_in b' u ≡ label_in b u)
    → ((u : ℕ) → u ≢ v → u ≢ w → excess_in b' u ≡ excess_in b u) → IsRenewed b' v s s' → IsRenewed b' w s' s'' → IsStanding b' s''
two_stand b b' s s' s'' v w h len top labels excess new newer =
    let P : ℕ → Type 0 = λ (u : ℕ). (u ≡ v) ⊎ (u ≡ w) in
    let Q : ℕ → Type 0 = λ (u : ℕ). ⊥ in
    let off = changed b b' s P Q h len top (λ u no. labels u) (λ u no. excess u (λ e. no (inl e)) (λ e. no (inr e))) (λ u no. absurd no) in
    all_right b' s'' _ _ (λ u l p. elim p.0.0 [ inl e ↦ p.0.1 e | inr e ↦ p.1 e ]) (λ u l q. q.0.0) (renewed b' s' s'' _ _ w (renewed b' s s' P Q v off new) newer)

-- one node's label changed
pub risen_stands : (b b' : CellsView) (s s' : BucketsView) (v : ℕ) → IsStanding b s → count b' ≡ count b → b'.top ≡ b.top → ((u : ℕ) → u ≢ v → label_in b' u ≡ label_in b u)
    → ((u : ℕ) → excess_in b' u ≡ excess_in b u) → IsRenewed b' v s s' → IsStanding b' s'
risen_stands b b' s s' v h len top labels excess new =
    let P : ℕ → Type 0 = λ (u : ℕ). u ≡ v in
    let off = changed b b' s P P h len top labels (λ u no. excess u) (λ u e. e) in
    all_right b' s' _ _ (λ u l p. p.1 p.0) (λ u l q. q.1 q.0) (renewed b' s s' P P v off new)

-- what has to be asked of a node before it is made right
pub may_after : (b b' : CellsView) (s : BucketsView) (v : ℕ) → IsStanding b s → v < count b → label_in b' v ≡ label_in b v → MayStand b' s v
may_after b b' s v h l same = may_as b b' s v same (h.places v l)

pub fit_after : (b b' : CellsView) (s : BucketsView) → IsFit b s → count b' ≡ count b → IsFit b' s
fit_after b b' s h len = record { nodes_same = h.nodes_same ∙ sym len; buckets = h.buckets ∙ ap (λ (n : ℕ). n + 2) (sym len) }

pub may_next : (b : CellsView) (s s' : BucketsView) (v w : ℕ) → IsRenewed b v s s' → MayStand b s w → MayStand b s' w
may_next b s s' v w new h = elim (cases_eq w v) [
  | inl e ↦ subst (λ (x : ℕ). MayStand b s' x) (sym e) new.may
  | inr other ↦ may_rows b s s' w new.same_buckets (new.rows w other) h
]

-- nodes stand anywhere
pub none_right : (b : CellsView) (s : BucketsView) → row_count s ≡ count b → s.buckets ≡ count b + 2 → RightBut b s (λ (u : ℕ). 0 ≤ u) (λ (u : ℕ). 0 ≤ u)
none_right b s len size = record {
  fit = record { nodes_same = len; buckets = size };
  places = λ u l off. absurd (off (omega arith));
  right = λ u l off. absurd (off (omega arith));
}

-- neither labels nor excesses changed
pub same_stands : (b b' : CellsView) (s : BucketsView) → IsStanding b s → count b' ≡ count b → b'.top ≡ b.top → ((u : ℕ) → label_in b' u ≡ label_in b u)
    → ((u : ℕ) → excess_in b' u ≡ excess_in b u) → IsStanding b' s
same_stands b b' s h len top labels excess =
    let Q : ℕ → Type 0 = λ (u : ℕ). ⊥ in
    all_right b' s Q Q (λ u l no. no) (λ u l no. no) (changed b b' s Q Q h len top (λ u no. labels u) (λ u no. excess u) (λ u no. no))

-- ---- nodes aside

in_bucket : (b : CellsView) (s : BucketsView) (v : ℕ) → IsFit b s → MayStand b s v → ¬ (row_in s v ≡ nowhere s) → ¬ (row_in s v ≡ aside s) → row_in s v < s.buckets
in_bucket b s v fit (Nowhere e) out off = absurd (out e)
in_bucket b s v fit (Aside e) out off = absurd (off e)
in_bucket b s v fit (InBucket e) out off = (let some = fit.buckets in omega arith)

-- an active node that is not aside stands in a bucket
pub row_waits : (b : CellsView) (s : BucketsView) (v : ℕ) → IsStanding b s → IsActiveInBlock b v → ¬ (row_in s v ≡ aside s) → row_in s v < s.buckets
row_waits b s v h on off = in_bucket b s v h.fit (h.places v on.node) ((h.right v on.node).active on) off

aside_or_bucket : (b : CellsView) (s : BucketsView) (v : ℕ) → IsFit b s → MayStand b s v → ¬ (row_in s v ≡ nowhere s) → s.buckets ≤ row_in s v → row_in s v ≡ aside s
aside_or_bucket b s v fit (Nowhere e) out high = absurd (out e)
aside_or_bucket b s v fit (Aside e) out high = e
aside_or_bucket b s v fit (InBucket e) out high = absurd (let some = fit.buckets in omega arith)

cases_active : (b : CellsView) (v : ℕ) → IsActiveInBlock b v ⊎ (¬ IsActiveInBlock b v)
cases_active b v = elim (cases_lt v (count b)) [
  | inr out ↦ inr (λ active. omega (arith, active.node, out))
  | inl node ↦ elim (cases_lt 0 (excess_in b v)) [
    | inr none ↦ inr (λ active. omega (arith, active.excess, none))
    | inl some ↦ elim (cases_lt (label_in b v) b.top) [
      | inr high ↦ inr (λ active. omega (arith, active.below, high))
      | inl below ↦ inl (record { node = node; excess = some; below = below })
    ]
  ]
]

pub highest_gives : (b : CellsView) (s : BucketsView) (r : Option ℕ) → IsStanding b s → MatchOption r (AreBucketsEmpty s) (IsHighest s)
    → MatchOption r ((v : ℕ) → IsActiveInBlock b v → row_in s v ≡ aside s) (λ (v : ℕ). IsActiveInBlock b v × (¬ (row_in s v ≡ aside s)))
highest_gives b s None h none = λ v on. aside_or_bucket b s v h.fit (h.places v on.node) ((h.right v on.node).active on) (none v (omega (arith, on.node, h.fit.nodes_same)))
highest_gives b s (Some v) h is =
    let l : v < count b = omega (arith, is.node, h.fit.nodes_same) in (
      elim (cases_active b v) [
        | inl on ↦ on
        | inr off ↦ absurd (omega (arith, (h.right v l).others off, is.bucket))
      ],
      λ e. omega (arith, e, is.bucket),
    )

-- an active node that is not aside stands in the bucket of its label
row_known : (b : CellsView) (s : BucketsView) (v : ℕ) → IsFit b s → MayStand b s v → row_in s v < s.buckets → row_in s v ≡ bucket_in b v
row_known b s v fit (Nowhere e) low = absurd (omega arith)
row_known b s v fit (Aside e) low = absurd (omega arith)
row_known b s v fit (InBucket e) low = e ∙ ap (λ (n : ℕ). min (label_in b v) n) (let two = fit.buckets in omega arith)

highest_in : (b : CellsView) (s : BucketsView) (v : ℕ) → IsStanding b s → IsHighest s v → (u : ℕ) → IsActiveInBlock b u → ¬ (row_in s u ≡ aside s) → bucket_in b u ≤ bucket_in b v
highest_in b s v h is u on off =
    let waits = row_waits b s u h on off in
    let below : row_in s u ≤ row_in s v = is.highest u (omega (arith, on.node, h.fit.nodes_same)) waits in
    let here : row_in s v ≡ bucket_in b v = row_known b s v h.fit (h.places v (omega (arith, is.node, h.fit.nodes_same))) is.bucket in
    let there : row_in s u ≡ bucket_in b u = row_known b s u h.fit (h.places u on.node) waits in
    subst (λ (n : ℕ). bucket_in b u ≤ n) here (subst (λ (n : ℕ). n ≤ row_in s v) there below)

pub bucket_gives : (b : CellsView) (s : BucketsView) (r : Option ℕ) → IsStanding b s → MatchOption r (AreBucketsEmpty s) (IsHighest s)
    → IfSome r (λ (v : ℕ). (u : ℕ) → IsActiveInBlock b u → ¬ (row_in s u ≡ aside s) → bucket_in b u ≤ bucket_in b v)
bucket_gives b s None h none = tt
bucket_gives b s (Some v) h is = highest_in b s v h is

pub aside_stands : (b : CellsView) (s s' : BucketsView) (v : ℕ) → IsStanding b s → IsActiveInBlock b v → s' ≡ with_node_in_row s v (aside s) → IsStanding b s'
aside_stands b s s' v h on is =
    let m = with_node_in_row s v (aside s) in
    let lv : v < length s.rows = omega (arith, on.node, h.fit.nodes_same) in
    let here : row_in m v ≡ aside m = get_or-set_same s.rows v (aside s) 0 lv in
    let there : (u : ℕ) → u ≢ v → row_in m u ≡ row_in s u = λ u off. get_or-set_other s.rows v u (aside s) 0 off in
    subst (IsStanding b) (sym is) (record {
      fit = record { nodes_same = length-set s.rows v (aside s) ∙ h.fit.nodes_same; buckets = h.fit.buckets };
      places = λ u l. elim (cases_eq u v) [
        | inl e ↦ subst (λ (x : ℕ). MayStand b m x) (sym e) (Aside here)
        | inr off ↦ may_rows b s m u refl (there u off) (h.places u l)
      ];
      right = λ u l. elim (cases_eq u v) [
        | inl e ↦ subst (λ (x : ℕ). IsRight b m x) (sym e) (record {
          active = λ on' out. omega (arith, here, out);
          others = λ off. absurd (off on);
        })
        | inr off ↦ right_rows b s m u refl (there u off) (h.right u l)
      ];
    })

pub fewer_wait : (s s' : BucketsView) (v : ℕ) → v < row_count s → row_in s v < s.buckets → s' ≡ with_node_in_row s v (aside s)
    → sum_by (λ (row : ℕ). cond (nat_lt row s'.buckets) 1 0) s'.rows < sum_by (λ (row : ℕ). cond (nat_lt row s.buckets) 1 0) s.rows
fewer_wait s s' v l waits is =
    let f : ℕ → ℕ = λ (row : ℕ). cond (nat_lt row s.buckets) 1 0 in
    let change = sum_by-set f s.rows v (aside s) 0 l in
    let was : f (row_in s v) ≡ 1 = grind (arith, nat_tests, waits) in
    let now : f (aside s) ≡ 0 = grind (arith, nat_tests) in
    subst (λ (x : BucketsView). sum_by (λ (row : ℕ). cond (nat_lt row x.buckets) 1 0) x.rows < sum_by f s.rows) (sym is) (omega (arith, change, was, now))

pub put_stands : (b : CellsView) (s s' : BucketsView) (v : ℕ) → IsStanding b s → v < row_count s → row_in s v ≡ aside s → s' ≡ with_node_in_row s v (bucket_of s (label_in b v)) → IsStanding b s'
put_stands b s s' v h lv was is =
    let m = with_node_in_row s v (bucket_of s (label_in b v)) in
    let here : row_in m v ≡ bucket_of s (label_in b v) = get_or-set_same s.rows v (bucket_of s (label_in b v)) 0 lv in
    let there : (u : ℕ) → u ≢ v → row_in m u ≡ row_in s u = λ u off. get_or-set_other s.rows v u (bucket_of s (label_in b v)) 0 off in
    let some = h.fit.buckets in
    let l : v < count b = omega (arith, lv, h.fit.nodes_same) in
    subst (IsStanding b) (sym is) (record {
      fit = record { nodes_same = length-set s.rows v (bucket_of s (label_in b v)) ∙ h.fit.nodes_same; buckets = h.fit.buckets };
      places = λ u l. elim (cases_eq u v) [
        | inl e ↦ subst (λ (x : ℕ). MayStand b m x) (sym e) (InBucket here)
        | inr off ↦ may_rows b s m u refl (there u off) (h.places u l)
      ];
      right = λ u l'. elim (cases_eq u v) [
        | inl e ↦ subst (λ (x : ℕ). IsRight b m x) (sym e) (record {
          active = λ on out. omega (arith, here, out);
          others = λ off. absurd (let out = (h.right v l).others off in omega (arith, out, was));
        })
        | inr off ↦ right_rows b s m u refl (there u off) (h.right u l')
      ];
    })
