-- Circles stay circles where a place leaves one, and where one that is alone joins one.
use Rattle.std.proofs.Common.{◌≡◌, ◌≢◌, ℕ, ◌<◌, inl, inr, List, length, slice_index, slice_set, refl, sym, ◌∙◌, ap, arith, get_or-set_same, get_or-set_other}
use Rattle.std.proofs.lemmas.Bool.{cases_eq}
use Rattle.std.proofs.lemmas.List.{length-set, set-get_or}
use Rattle.node_buckets.specs.Circles.{Undoes, AreCircles, AreAlone, without_link, with_link}

-- what two writes leave at each place
pub at_last : (xs : List ℕ) (a p b q x : ℕ) → b < length xs → x ≡ b → slice_index (slice_set (slice_set xs a p) b q) x ≡ q
at_last xs a p b q x l e =
    rw e (get_or-set_same (slice_set xs a p) b q 0 (omega (arith, l, length-set xs a p)))

pub at_first : (xs : List ℕ) (a p b q x : ℕ) → a < length xs → x ≡ a → x ≢ b → slice_index (slice_set (slice_set xs a p) b q) x ≡ p
at_first xs a p b q x l e off =
    get_or-set_other (slice_set xs a p) b x q 0 off ∙ rw e (get_or-set_same xs a p 0 l)

pub at_others : (xs : List ℕ) (a p b q x : ℕ) → x ≢ a → x ≢ b → slice_index (slice_set (slice_set xs a p) b q) x ≡ slice_index xs x
at_others xs a p b q x off off' = get_or-set_other (slice_set xs a p) b x q 0 off' ∙ get_or-set_other xs a x p 0 off

pub two_length : (xs : List ℕ) (a p b q : ℕ) → length (slice_set (slice_set xs a p) b q) ≡ length xs
two_length xs a p b q = length-set (slice_set xs a p) b q ∙ length-set xs a p

-- the fact at one place, where what is written there is known
undone : (next prev : List ℕ) (x y : ℕ) → slice_index next x ≡ y → y < length next → slice_index prev y ≡ x
    → (slice_index next x < length next) × (slice_index prev (slice_index next x) ≡ x)
undone next prev x y e l back = (omega (arith, e, l), ap (slice_index prev) e ∙ back)

unlinked_undoes : (next prev : List ℕ) (v : ℕ) → v < length next → length prev ≡ length next → Undoes next prev → Undoes prev next
    → Undoes (without_link next prev v) (without_link prev next v)
unlinked_undoes next prev v lv same forth back x lx =
    let n = length next in
    let u = slice_index prev v in
    let w = slice_index next v in
    let len : length (without_link next prev v) ≡ n = two_length next u w v v in
    let l : x < n = omega (arith, lx, len) in
    let lu : u < n = omega (arith, (back v (omega (arith, lv, same))).0, same) in
    let lw : w < n = (forth v lv).0 in
    let uv : slice_index next u ≡ v = (back v (omega (arith, lv, same))).1 in
    let wv : slice_index prev w ≡ v = (forth v lv).1 in
    let lv' : v < length prev = omega (arith, lv, same) in
    let lw' : w < length prev = omega (arith, lw, same) in
    elim (cases_eq x v) [
      | inl e ↦ undone _ _ x v (at_last next u w v v x lv e) (omega (arith, lv, len)) (at_last prev w u v v v lv' refl ∙ sym e)
      | inr off ↦ elim (cases_eq x u) [
        | inl e ↦
            let apart : w ≢ v = λ h. off (e ∙ (ap (slice_index prev) (sym h) ∙ wv)) in
            undone _ _ x w (at_first next u w v v x lu e off) (omega (arith, lw, len)) (at_first prev w u v v w lw' refl apart ∙ sym e)
        | inr far ↦
            let y = slice_index next x in
            let yx : slice_index prev y ≡ x = (forth x l).1 in
            let not_v : y ≢ v = λ h. far (sym yx ∙ ap (slice_index prev) h) in
            let not_w : y ≢ w = λ h. off (sym yx ∙ (ap (slice_index prev) h ∙ wv)) in
            undone _ _ x y (at_others next u w v v x far off) (omega (arith, (forth x l).0, len)) (at_others prev w u v v y not_w not_v ∙ yx)
      ]
    ]

pub unlinked_circles : (next prev : List ℕ) (v : ℕ) → v < length next → AreCircles next prev → AreCircles (without_link next prev v) (without_link prev next v)
unlinked_circles next prev v lv c = record {
  size = two_length prev _ _ v v ∙ (c.size ∙ sym (two_length next _ _ v v));
  forth = unlinked_undoes next prev v lv c.size c.forth c.back;
  back = unlinked_undoes prev next v (omega (arith, lv, c.size)) (sym c.size) c.back c.forth;
}

linked_undoes : (next prev : List ℕ) (s v w : ℕ) → s < length next → v < length next → w < length next → length prev ≡ length next
    → Undoes next prev → slice_index next v ≡ v → slice_index prev w ≡ s → s ≢ v → w ≢ v
    → Undoes (with_link next s v w) (with_link prev w v s)
linked_undoes next prev s v w ls lv lw same forth alone ws sv wv x lx =
    let n = length next in
    let len : length (with_link next s v w) ≡ n = two_length next s v v w in
    let l : x < n = omega (arith, lx, len) in
    let lv' : v < length prev = omega (arith, lv, same) in
    let lw' : w < length prev = omega (arith, lw, same) in
    elim (cases_eq x v) [
      | inl e ↦ undone _ _ x w (at_last next s v v w x lv e) (omega (arith, lw, len)) (at_first prev w v v s w lw' refl wv ∙ sym e)
      | inr off ↦ elim (cases_eq x s) [
        | inl e ↦ undone _ _ x v (at_first next s v v w x ls e off) (omega (arith, lv, len)) (at_last prev w v v s v lv' refl ∙ sym e)
        | inr far ↦
            let y = slice_index next x in
            let yx : slice_index prev y ≡ x = (forth x l).1 in
            let vv : slice_index prev v ≡ v = ap (slice_index prev) (sym alone) ∙ (forth v lv).1 in
            let not_v : y ≢ v = λ h. off (sym yx ∙ (ap (slice_index prev) h ∙ vv)) in
            let not_w : y ≢ w = λ h. far (sym yx ∙ (ap (slice_index prev) h ∙ ws)) in
            undone _ _ x y (at_others next s v v w x far off) (omega (arith, (forth x l).0, len)) (at_others prev w v v s y not_w not_v ∙ yx)
      ]
    ]

same_set : (xs : List ℕ) (v : ℕ) → slice_index xs v ≡ v → slice_set xs v v ≡ xs
same_set xs v at = ap (slice_set xs v) (sym at) ∙ set-get_or xs v 0

-- a place that is alone after one other place
pub linked_circles : (next prev : List ℕ) (s v : ℕ) → s < length next → v < length next → s ≢ v → slice_index prev v ≡ v → AreCircles next prev
    → AreCircles (with_link next s v (slice_index next s)) (with_link prev (slice_index next s) v s)
linked_circles next prev s v ls lv sv alone c =
    let w = slice_index next s in
    let lv' : v < length prev = omega (arith, lv, c.size) in
    let lw : w < length next = (c.forth s ls).0 in
    let ws : slice_index prev w ≡ s = (c.forth s ls).1 in
    let alone' : slice_index next v ≡ v = ap (slice_index next) (sym alone) ∙ (c.back v lv').1 in
    let wv : w ≢ v = λ h. sv (sym ws ∙ (ap (slice_index prev) h ∙ alone)) in
    record {
      size = two_length prev w v v s ∙ (c.size ∙ sym (two_length next s v v w));
      forth = linked_undoes next prev s v w ls lv lw c.size c.forth alone' ws sv wv;
      back = linked_undoes prev next w v s (omega (arith, lw, c.size)) lv' (omega (arith, ls, c.size)) (sym c.size) c.back alone refl wv sv;
    }

-- places that are all alone
pub alone_circles : (next prev : List ℕ) → length prev ≡ length next → AreAlone next → AreAlone prev → AreCircles next prev
alone_circles next prev same a b = record {
  size = same;
  forth = λ x l. undone next prev x x (a x l) l (b x (omega (arith, l, same)));
  back = λ x l. undone prev next x x (b x l) l (a x (omega (arith, l, same)));
}

-- a place that is alone leaves nothing
pub alone_unlinked : (next prev : List ℕ) (v : ℕ) → slice_index next v ≡ v → slice_index prev v ≡ v → without_link next prev v ≡ next
alone_unlinked next prev v forth back =
    rw (back, forth) (ap (λ (xs : List ℕ). slice_set xs v v) (same_set next v forth) ∙ same_set next v forth)
