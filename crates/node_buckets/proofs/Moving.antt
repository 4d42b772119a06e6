-- Nodes stay in their rows where one leaves its row, and where one that stands nowhere joins one.
use Rattle.std.proofs.Common.{◌≡◌, ◌≢◌, ◌⊎◌, ℕ, zero, suc, ◌+◌, ◌-◌, ◌*◌, ◌++◌, ◌^◌, ◌<◌, ◌≤◌, take, drop, inl, inr, cond, eqb, List, length, slice_index, slice_set, get_or, replicate, refl, sym, ◌∙◌, ap, arith, get_or-set_same, get_or-set_other, set-set, take_all, []}
use Rattle.std.proofs.Math.ListN.{drop_of_length-le}
use Rattle.std.proofs.lemmas.Bool.{cases_eq, cases_lt, eq-eqb, ne_eqb}
use Rattle.std.proofs.lemmas.List.{append-nil, length-set, length-replicate, get_or_default, get_or_past, get_or-replicate}
use Rattle.node_buckets.specs.Circles.{AreCircles, AreAlone, without_link, with_link, after_left}
use Rattle.node_buckets.specs.Standing.{AreRows, row_at}
use Rattle.node_buckets.proofs.Linking.{at_last, at_first, at_others, two_length, unlinked_circles, linked_circles, alone_circles}

-- ---- rows of places

at_node : (rows : List ℕ) (v : ℕ) → v < length rows → row_at rows v ≡ slice_index rows v
at_node rows v l = get_or_default rows v (v - length rows) 0 l

at_place : (rows : List ℕ) (p x : ℕ) → x ≡ length rows + p → row_at rows x ≡ p
at_place rows p x e =
    let past : length rows ≤ x = omega arith in
    let is : x - length rows ≡ p = omega arith in
    get_or_past rows x (x - length rows) past ∙ is

at_other : (rows : List ℕ) (v r x : ℕ) → x ≢ v → row_at (slice_set rows v r) x ≡ row_at rows x
at_other rows v r x off =
    get_or-set_other rows v x r (x - length (slice_set rows v r)) off ∙ ap (λ (n : ℕ). get_or rows x (x - n)) (length-set rows v r)

at_moved : (rows : List ℕ) (v r x : ℕ) → v < length rows → x ≡ v → row_at (slice_set rows v r) x ≡ r
at_moved rows v r x l e = rw e (get_or-set_same rows v r (v - length (slice_set rows v r)) l)

node_moved : (rows : List ℕ) (v r x : ℕ) → v < length rows → x ≡ v → slice_index (slice_set rows v r) x ≡ r
node_moved rows v r x l e = rw e (get_or-set_same rows v r 0 l)

node_other : (rows : List ℕ) (v r x : ℕ) → x ≢ v → slice_index (slice_set rows v r) x ≡ slice_index rows x
node_other rows v r x off = get_or-set_other rows v x r 0 off

-- ---- a node leaves its row

-- what stands before a place after that
pub data Before (next prev : List ℕ) (v x : ℕ) (is : ℕ) : Type 0 where
  Itself : x ≡ v → is ≡ v → Before next prev v x is
  Follower : x ≢ v → x ≡ slice_index next v → is ≡ slice_index prev v → slice_index prev v ≢ v → slice_index prev x ≡ v → Before next prev v x is
  Other : x ≢ v → is ≡ slice_index prev x → slice_index prev x ≢ v → Before next prev v x is

before_left : (next prev : List ℕ) (v x : ℕ) → AreCircles next prev → v < length next → x < length next → Before next prev v x (slice_index (without_link prev next v) x)
before_left next prev v x c lv lx =
    let u = slice_index prev v in
    let w = slice_index next v in
    let lv' : v < length prev = omega (arith, lv, c.size) in
    let lx' : x < length prev = omega (arith, lx, c.size) in
    let lw' : w < length prev = omega (arith, (c.forth v lv).0, c.size) in
    let uv : slice_index next u ≡ v = (c.back v lv').1 in
    let wv : slice_index prev w ≡ v = (c.forth v lv).1 in
    elim (cases_eq x v) [
      | inl e ↦ Itself e (at_last prev w u v v x lv' e)
      | inr off ↦ elim (cases_eq x w) [
        | inl e ↦ Follower off e (at_first prev w u v v x lw' e off) (λ h. off (e ∙ (ap (slice_index next) (sym h) ∙ uv))) (ap (slice_index prev) e ∙ wv)
        | inr far ↦ Other off (at_others prev w u v v x far off) (λ h. far (sym (c.back x lx').1 ∙ ap (slice_index next) h))
      ]
    ]

left_same : (b : ℕ) (rows next prev : List ℕ) (v x is : ℕ) → v < length rows → x < length next → v < length next
    → ((y : ℕ) → y < length next → row_at rows (slice_index prev y) ≡ row_at rows y) → Before next prev v x is
    → row_at (slice_set rows v b) is ≡ row_at (slice_set rows v b) x
left_same b rows next prev v x is lv lx lv' same (Itself e at) = ap (row_at (slice_set rows v b)) (at ∙ sym e)
left_same b rows next prev v x is lv lx lv' same (Follower off e at far follows) =
    ap (row_at (slice_set rows v b)) at ∙ (at_other rows v b (slice_index prev v) far ∙ (same v lv' ∙ (ap (row_at rows) (sym follows) ∙ (same x lx ∙ sym (at_other rows v b x off)))))
left_same b rows next prev v x is lv lx lv' same (Other off at far) =
    ap (row_at (slice_set rows v b)) at ∙ (at_other rows v b (slice_index prev x) far ∙ (same x lx ∙ sym (at_other rows v b x off)))

left_ranks : (b : ℕ) (rows next prev : List ℕ) (rank : ℕ → ℕ) (v x is : ℕ) → v < length rows → x < length rows → length rows ≤ length next
    → ((y : ℕ) → y < length next → row_at rows (slice_index prev y) ≡ row_at rows y)
    → ((y : ℕ) → y < length rows → slice_index rows y ≤ b → rank (slice_index prev y) < rank y) → Before next prev v x is
    → slice_index (slice_set rows v (b + 1)) x ≤ b → rank is < rank x
left_ranks b rows next prev rank v x is lv lx more same falls (Itself e at) stands = absurd (omega (arith, node_moved rows v (b + 1) x lv e, stands))
left_ranks b rows next prev rank v x is lv lx more same falls (Follower off e at far follows) stands =
    let here : slice_index rows x ≤ b = omega (arith, node_other rows v (b + 1) x off, stands) in
    let row : row_at rows (slice_index prev x) ≡ row_at rows x = same x (omega (arith, lx, more)) in
    let rows_same : slice_index rows v ≡ slice_index rows x = sym (at_node rows v lv) ∙ (ap (row_at rows) (sym follows) ∙ (row ∙ at_node rows x lx)) in
    let before : rank (slice_index prev v) < rank v = falls v lv (omega (arith, rows_same, here)) in
    let after : rank (slice_index prev x) < rank x = falls x lx here in
    omega (arith, before, after, ap rank at, ap rank follows)
left_ranks b rows next prev rank v x is lv lx more same falls (Other off at far) stands =
    let here : slice_index rows x ≤ b = omega (arith, node_other rows v (b + 1) x off, stands) in
    omega (arith, ap rank at, falls x lx here)

left_alone : (b : ℕ) (rows next prev : List ℕ) (v x is : ℕ) → slice_index rows x ≡ b + 1 ⊎ (x ≡ v) → (slice_index rows x ≡ b + 1 → slice_index prev x ≡ x)
    → Before next prev v x is → is ≡ x
left_alone b rows next prev v x is which alone (Itself e at) = at ∙ sym e
left_alone b rows next prev v x is (inl out) alone (Follower off e at far follows) = absurd (off (sym (alone out) ∙ follows))
left_alone b rows next prev v x is (inr here) alone (Follower off e at far follows) = absurd (off here)
left_alone b rows next prev v x is (inl out) alone (Other off at far) = at ∙ alone out
left_alone b rows next prev v x is (inr here) alone (Other off at far) = absurd (off here)

pub left_rows : (top b : ℕ) (rows next prev : List ℕ) (v : ℕ) → v < length rows → AreRows top b rows next prev
    → AreRows top b (slice_set rows v (b + 1)) (without_link next prev v) (without_link prev next v)
left_rows top b rows next prev v lv h =
    let len : length (slice_set rows v (b + 1)) ≡ length rows = length-set rows v (b + 1) in
    let nlen : length (without_link next prev v) ≡ length next = two_length next (slice_index prev v) (slice_index next v) v v in
    let size = h.size in
    let small = h.small in
    let lx : v < length next = omega arith in
    let is : (x : ℕ) → x < length next → Before next prev v x (slice_index (without_link prev next v) x) = λ x l. before_left next prev v x h.circles lx l in
    record {
      small = omega arith;
      top_in = h.top_in;
      size = omega arith;
      circles = unlinked_circles next prev v lx h.circles;
      limit = λ x l. elim (cases_eq x v) [
        | inl e ↦ omega (arith, node_moved rows v (b + 1) x lv e)
        | inr off ↦ omega (arith, node_other rows v (b + 1) x off, h.limit x (omega arith))
      ];
      same = λ x l. left_same (b + 1) rows next prev v x _ lv (omega arith) lx h.same (is x (omega arith));
      alone = λ x l out. left_alone b rows next prev v x _ (elim (cases_eq x v) [
        | inl e ↦ inr e
        | inr off ↦ inl (sym (node_other rows v (b + 1) x off) ∙ out)
      ]) (h.alone x (omega arith)) (is x (omega arith));
      ranks = (h.ranks.0, λ x l stands. left_ranks b rows next prev h.ranks.0 v x _ lv (omega arith) (omega arith) h.same h.ranks.1 (is x (omega arith)) stands);
      below = λ x l bucket. elim (cases_eq x v) [
        | inl e ↦ absurd (omega (arith, node_moved rows v (b + 1) x lv e, bucket))
        | inr off ↦ omega (arith, node_other rows v (b + 1) x off, h.below x (omega arith) (omega (arith, node_other rows v (b + 1) x off, bucket)))
      ];
    }

-- ---- a node that stands nowhere joins a row

-- what stands before a place after that: v comes between the place s and the one that was after it
pub data Between (next prev : List ℕ) (s v x : ℕ) (is : ℕ) : Type 0 where
  Itself : x ≡ v → is ≡ s → Between next prev s v x is
  Follower : x ≢ v → slice_index prev x ≡ s → is ≡ v → Between next prev s v x is
  Other : x ≢ v → is ≡ slice_index prev x → slice_index prev x ≢ v → Between next prev s v x is

between : (next prev : List ℕ) (s v x : ℕ) → AreCircles next prev → s < length next → v < length next → x < length next → s ≢ v → slice_index prev v ≡ v
    → Between next prev s v x (slice_index (with_link prev (slice_index next s) v s) x)
between next prev s v x c ls lv lx sv alone =
    let w = slice_index next s in
    let lv' : v < length prev = omega (arith, lv, c.size) in
    let lx' : x < length prev = omega (arith, lx, c.size) in
    let lw' : w < length prev = omega (arith, (c.forth s ls).0, c.size) in
    let ws : slice_index prev w ≡ s = (c.forth s ls).1 in
    let vv : slice_index next v ≡ v = ap (slice_index next) (sym alone) ∙ (c.back v lv').1 in
    elim (cases_eq x v) [
      | inl e ↦ Itself e (at_last prev w v v s x lv' e)
      | inr off ↦ elim (cases_eq x w) [
        | inl e ↦ Follower off (ap (slice_index prev) e ∙ ws) (at_first prev w v v s x lw' e off)
        | inr far ↦ Other off (at_others prev w v v s x far off) (λ h. off (sym (c.back x lx').1 ∙ (ap (slice_index next) h ∙ vv)))
      ]
    ]

joined_same : (row : ℕ) (rows next prev : List ℕ) (s v x is : ℕ) → v < length rows → x < length next → s ≡ length rows + row
    → ((y : ℕ) → y < length next → row_at rows (slice_index prev y) ≡ row_at rows y) → Between next prev s v x is
    → row_at (slice_set rows v row) is ≡ row_at (slice_set rows v row) x
joined_same row rows next prev s v x is lv lx at same (Itself e before) =
    let off : s ≢ v = λ h. omega (arith, h, at, lv) in
    ap (row_at (slice_set rows v row)) before ∙ (at_other rows v row s off ∙ (at_place rows row s at ∙ sym (at_moved rows v row x lv e)))
joined_same row rows next prev s v x is lv lx at same (Follower off follows before) =
    ap (row_at (slice_set rows v row)) before
    ∙ (at_moved rows v row v lv refl ∙ (sym (at_place rows row s at) ∙ (ap (row_at rows) (sym follows) ∙ (same x lx ∙ sym (at_other rows v row x off)))))
joined_same row rows next prev s v x is lv lx at same (Other off before far) =
    ap (row_at (slice_set rows v row)) before ∙ (at_other rows v row (slice_index prev x) far ∙ (same x lx ∙ sym (at_other rows v row x off)))

-- room between the ranks for one more
spread : (ℕ → ℕ) → ℕ → ℕ → ℕ → ℕ
spread rank s v x = cond (eqb x v) (2 * rank s + 1) (2 * rank x)

spread_same : (rank : ℕ → ℕ) (s v x : ℕ) → x ≡ v → spread rank s v x ≡ 2 * rank s + 1
unfolding spread
spread_same rank s v x e = rw (eq-eqb x v e)

spread_other : (rank : ℕ → ℕ) (s v x : ℕ) → x ≢ v → spread rank s v x ≡ 2 * rank x
unfolding spread
spread_other rank s v x off = rw (ne_eqb x v off)

joined_ranks : (b row : ℕ) (rows next prev : List ℕ) (rank : ℕ → ℕ) (s v x is : ℕ) → x < length rows → s ≢ v
    → ((y : ℕ) → y < length rows → slice_index rows y ≤ b → rank (slice_index prev y) < rank y) → Between next prev s v x is
    → slice_index (slice_set rows v row) x ≤ b → spread rank s v is < spread rank s v x
joined_ranks b row rows next prev rank s v x is lx sv falls (Itself e before) stands =
    omega (arith, ap (spread rank s v) before, spread_other rank s v s sv, spread_same rank s v x e)
joined_ranks b row rows next prev rank s v x is lx sv falls (Follower off follows before) stands =
    let here : slice_index rows x ≤ b = omega (arith, node_other rows v row x off, stands) in
    omega (arith, ap (spread rank s v) before, spread_same rank s v v refl, spread_other rank s v x off, falls x lx here, ap rank follows)
joined_ranks b row rows next prev rank s v x is lx sv falls (Other off before far) stands =
    let here : slice_index rows x ≤ b = omega (arith, node_other rows v row x off, stands) in
    omega (arith, ap (spread rank s v) before, spread_other rank s v (slice_index prev x) far, spread_other rank s v x off, falls x lx here)

joined_alone : (b row : ℕ) (rows next prev : List ℕ) (s v x is : ℕ) → v < length rows → x < length rows → length rows ≤ s → row ≤ b
    → (slice_index rows x ≡ b + 1 → slice_index prev x ≡ x) → Between next prev s v x is → slice_index (slice_set rows v row) x ≡ b + 1 → is ≡ x
joined_alone b row rows next prev s v x is lv lx past lr alone (Itself e before) out =
    absurd (omega (arith, node_moved rows v row x lv e, out, lr))
joined_alone b row rows next prev s v x is lv lx past lr alone (Follower off follows before) out =
    let still : slice_index prev x ≡ x = alone (sym (node_other rows v row x off) ∙ out) in
    absurd (omega (arith, still, follows, lx, past))
joined_alone b row rows next prev s v x is lv lx past lr alone (Other off before far) out =
    before ∙ alone (sym (node_other rows v row x off) ∙ out)

pub joined_rows : (top more b row : ℕ) (rows next prev : List ℕ) (v : ℕ) → v < length rows → slice_index rows v ≡ b + 1 → row ≤ b
    → top ≤ more → more < b → (row < b → row ≤ more) → AreRows top b rows next prev
    → AreRows more b (slice_set rows v row) (with_link next (length rows + row) v (slice_index next (length rows + row)))
    (with_link prev (slice_index next (length rows + row)) v (length rows + row))
joined_rows top more b row rows next prev v lv out lr low high covers h =
    let s = length rows + row in
    let len : length (slice_set rows v row) ≡ length rows = length-set rows v row in
    let nlen : length (with_link next s v (slice_index next s)) ≡ length next = two_length next s v v (slice_index next s) in
    let size = h.size in
    let small = h.small in
    let lx : v < length next = omega arith in
    let ls : s < length next = omega arith in
    let sv : s ≢ v = λ e. omega (arith, e, lv) in
    let alone : slice_index prev v ≡ v = h.alone v lv out in
    let is : (x : ℕ) → x < length next → Between next prev s v x (slice_index (with_link prev (slice_index next s) v s) x) = λ x l. between next prev s v x h.circles ls lx l sv alone in
    record {
      small = omega arith;
      top_in = high;
      size = omega arith;
      circles = linked_circles next prev s v ls lx sv alone h.circles;
      limit = λ x l. elim (cases_eq x v) [
        | inl e ↦ omega (arith, node_moved rows v row x lv e)
        | inr off ↦ omega (arith, node_other rows v row x off, h.limit x (omega arith))
      ];
      same = λ x l. joined_same row rows next prev s v x _ lv (omega arith) refl h.same (is x (omega arith));
      alone = λ x l gone. joined_alone b row rows next prev s v x _ lv (omega arith) (omega arith) lr (h.alone x (omega arith)) (is x (omega arith)) gone;
      ranks = (spread h.ranks.0 s v, λ x l stands. joined_ranks b row rows next prev h.ranks.0 s v x _ (omega arith) sv h.ranks.1 (is x (omega arith)) stands);
      below = λ x l bucket. elim (cases_eq x v) [
        | inl e ↦ omega (arith, node_moved rows v row x lv e, covers, bucket)
        | inr off ↦ omega (arith, node_other rows v row x off, h.below x (omega arith) (omega (arith, node_other rows v row x off, bucket)))
      ];
    }

-- ---- a node goes from wherever it stands to a row

pub stood_rows : (top more b row : ℕ) (rows next prev : List ℕ) (v : ℕ) → v < length rows → row ≤ b
    → top ≤ more → more < b → (row < b → row ≤ more) → AreRows top b rows next prev
    → AreRows more b (slice_set rows v row) (with_link (without_link next prev v) (length rows + row) v (after_left next prev (length rows + row) v))
    (with_link (without_link prev next v) (after_left next prev (length rows + row) v) v (length rows + row))
stood_rows top more b row rows next prev v lv lr low high covers h =
    let len : length (slice_set rows v (b + 1)) ≡ length rows = length-set rows v (b + 1) in
    let done = joined_rows top more b row (slice_set rows v (b + 1)) (without_link next prev v) (without_link prev next v) v (omega arith) (node_moved rows v (b + 1) v lv refl) lr low high covers (left_rows top b rows next prev v lv h) in
    rw (length-set, set-set) at done

-- ---- the first of a row

climb : (top b : ℕ) (rows next prev : List ℕ) (p : ℕ) (h : AreRows top b rows next prev) → p ≤ b → slice_index next (length rows + p) ≡ length rows + p
    → (k v : ℕ) → h.ranks.0 v < k → v < length rows → ¬ (slice_index rows v ≡ p)
climb top b rows next prev p h lp none zero v low lv is = absurd (omega arith)
climb top b rows next prev p h lp none (suc k) v low lv is =
    let y = slice_index prev v in
    let size = h.size in
    let lx : v < length next = omega arith in
    let back = h.circles.back v (omega (arith, lx, h.circles.size)) in
    let row : row_at rows y ≡ p = h.same v lx ∙ (at_node rows v lv ∙ is) in
    elim (cases_lt y (length rows)) [
      | inl node ↦ climb top b rows next prev p h lp none k y (omega (arith, low, h.ranks.1 v lv (omega (arith, is, lp)))) node (sym (at_node rows y node) ∙ row)
      | inr past ↦
          let there : row_at rows y ≡ y - length rows = at_place rows (y - length rows) y (omega (arith, past)) in
          let at : y ≡ length rows + p = omega (arith, past, there, row) in
          let itself : slice_index next y ≡ y = ap (slice_index next) at ∙ (none ∙ sym at) in
          omega (arith, back.1, itself, past, lv)
    ]

-- a row whose place is followed by itself has no node
pub none_stands : (top b : ℕ) (rows next prev : List ℕ) (p : ℕ) → AreRows top b rows next prev → p ≤ b → length rows ≤ slice_index next (length rows + p)
    → (v : ℕ) → v < length rows → ¬ (slice_index rows v ≡ p)
none_stands top b rows next prev p h lp past v lv is =
    let size = h.size in
    let ls : length rows + p < length next = omega arith in
    let y = slice_index next (length rows + p) in
    let forth = h.circles.forth (length rows + p) ls in
    let row = h.same y forth.0 in
    let row_y : row_at rows y ≡ y - length rows = at_place rows (y - length rows) y (omega (arith, past)) in
    let row_s : row_at rows (slice_index prev y) ≡ p = ap (row_at rows) forth.1 ∙ at_place rows p (length rows + p) refl in
    let same : y ≡ length rows + p = omega (arith, row, row_y, row_s, past) in
    climb top b rows next prev p h lp same (suc (h.ranks.0 v)) v (omega arith) lv is

-- a node that follows the place of a row stands in it
pub first_stands : (top b : ℕ) (rows next prev : List ℕ) (p : ℕ) → AreRows top b rows next prev → p ≤ b → slice_index next (length rows + p) < length rows
    → slice_index rows (slice_index next (length rows + p)) ≡ p
first_stands top b rows next prev p h lp node =
    let size = h.size in
    let ls : length rows + p < length next = omega arith in
    let y = slice_index next (length rows + p) in
    let forth = h.circles.forth (length rows + p) ls in
    sym (at_node rows y node) ∙ (sym (h.same y forth.0) ∙ (ap (row_at rows) forth.1 ∙ at_place rows p (length rows + p) refl))

-- ---- where each node stands nowhere

nowhere_at : (n b v : ℕ) → v < n → slice_index (replicate n (b + 1)) v ≡ b + 1
nowhere_at n b v l = get_or-replicate n v (b + 1) 0 l

pub fresh_rows : (b n : ℕ) (rows next prev : List ℕ) → rows ≡ replicate n (b + 1) → 0 < b → n + b + 1 < 2 ^ 32 → length next ≡ n + b + 1 → length prev ≡ n + b + 1
    → AreAlone next → AreAlone prev → AreRows 0 b rows next prev
fresh_rows b n rows next prev is some small next_size prev_size forth back =
    let len : length rows ≡ n = ap length is ∙ length-replicate n (b + 1) in
    let at : (v : ℕ) → v < length rows → slice_index rows v ≡ b + 1 = λ v l. ap (λ (xs : List ℕ). slice_index xs v) is ∙ nowhere_at n b v (omega (arith, l, len)) in
    record {
      small = omega (arith, small, len);
      top_in = some;
      size = omega (arith, next_size, len);
      circles = alone_circles next prev (prev_size ∙ sym next_size) forth back;
      limit = λ v l. omega (arith, at v l);
      same = λ x l. ap (row_at rows) (back x (omega (arith, l, prev_size, next_size)));
      alone = λ v l e. back v (omega (arith, l, len, prev_size));
      ranks = (λ (x : ℕ). x, λ v l e. absurd (omega (arith, at v l, e)));
      below = λ v l e. absurd (omega (arith, at v l, e));
    }

-- ---- what a lent list leaves

pub whole : (old new : List ℕ) (n : ℕ) → n ≡ length old → length new ≡ length old → take n (new ++ drop (length new) old) ≡ new
whole old new n e same =
    let none : drop (length new) old ≡ [] = drop_of_length-le old (omega arith) in
    rw (none, append-nil) (take_all n new (omega arith))

pub held_rows : (top b : ℕ) (rows next prev next' prev' : List ℕ) → next' ≡ next → prev' ≡ prev → AreRows top b rows next prev → AreRows top b rows next' prev'
held_rows top b rows next prev next' prev' en ep h = rw (en, ep) h

pub lower_top : (top less b : ℕ) (rows next prev : List ℕ) → less ≤ top → ((v : ℕ) → v < length rows → slice_index rows v < b → slice_index rows v ≤ less)
    → AreRows top b rows next prev → AreRows less b rows next prev
lower_top top less b rows next prev low below h =
    let top_in = h.top_in in
    record {
      small = h.small;
      top_in = omega arith;
      size = h.size;
      circles = h.circles;
      limit = h.limit;
      same = h.same;
      alone = h.alone;
      ranks = h.ranks;
      below = below;
    }
