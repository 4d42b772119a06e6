-- An expansion that keeps its labels, with what they cost by themselves and without.
use Rattle.std.proofs.Common.{◌≡◌, ◌≢◌, ◌==◌, ℕ, zero, suc, ◌+◌, ◌<◌, ◌≤◌, Bool, true, false, not, cond, ◌&&◌, refl, sym, ap, ◌∙◌, inl, inr, arith, ℤ, pos, ◌+ℤ◌, ◌≤ℤ◌}
use Rattle.std.proofs.lemmas.Int.{ints}
use Rattle.std.proofs.lemmas.Bool.{cases_eq, cases_lt, cases_Bool}
use Rattle.sums.specs.Sums.{sum_below, count_if}
use Rattle.sums.proofs.SumLemmas.{sum_below-same, sum_below-le, sum_below-change}
use Rattle.label_energies.specs.declared.change.Move.TheVariants.{Expand}
use Rattle.label_energies.specs.Energies.{Instance, IsInstance, is_used, plain_energy, label_energy, Agrees}
use Rattle.label_energies.specs.Moves.{IsAllowed, labelling_made}
use Rattle.label_energies.proofs.Energy.{plain-same, used-same, used_somewhere, somewhere_used, equal_is}
use Rattle.move_energy.specs.MoveValues.{move_value}
use Rattle.site_bounds.specs.Decisions.{IsSmallestLeast}
use Rattle.persistency.proofs.Lattice.{both_first}
use Rattle.kept_labels.specs.Kept.{AreLabelsKept, IsWorthIt, expanded_value, own_price}
use Rattle.kept_labels.proofs.Giving.{kept_back, equal_false}

-- the labels that the values make
abbrev pub made : ℕ → (ℕ → ℕ) → (ℕ → Bool) → ℕ → ℕ
made a f x = labelling_made (Expand a) f x

-- ---- what the labels cost by themselves, but for that of the expansion

abbrev pub cost_but : Instance → ℕ → ℕ → ℕ
cost_but m a label = cond (label == a) 0 (m.label_cost label)

abbrev pub others_below : Instance → ℕ → (ℕ → ℕ) → ℕ → ℕ
others_below m a g k = sum_below k (λ label. count_if (is_used m.sites g label) (cost_but m a label))

but_other : (m : Instance) (a label : ℕ) → 0 < cost_but m a label → (label ≢ a) × (cost_but m a label ≡ m.label_cost label)
but_other m a label some = elim (cases_eq label a) [
  | inl same ↦ (let none : cost_but m a label ≡ 0 = ap (λ b. cond b 0 (m.label_cost label)) (equal_is label a same) in absurd (omega (arith, some, none)))
  | inr other ↦ (other, ap (λ b. cond b 0 (m.label_cost label)) (equal_false label a other))
]

counted_none : (b : Bool) → count_if b 0 ≡ 0
counted_none true = refl
counted_none false = refl

counted_here : (b : Bool) (z : ℕ) → b ≡ true → count_if b z ≡ z
counted_here b z is = ap (λ c. count_if c z) is

counted_not : (b : Bool) (z : ℕ) → b ≡ false → count_if b z ≡ 0
counted_not b z is = ap (λ c. count_if c z) is

counted_most : (b : Bool) (z : ℕ) → count_if b z ≤ z
counted_most true z = omega arith
counted_most false z = omega arith

-- with that of the expansion they are all
all_labels : (m : Instance) (a : ℕ) (g : ℕ → ℕ) → a < m.labels → label_energy m g ≡ others_below m a g m.labels + count_if (is_used m.sites g a) (m.label_cost a)
all_labels m a g l =
    let change = sum_below-change m.labels a (λ label. count_if (is_used m.sites g label) (m.label_cost label)) (λ label. count_if (is_used m.sites g label) (cost_but m a label)) l
    (λ label inside off. ap (λ b. count_if (is_used m.sites g label) (cond b 0 (m.label_cost label))) (sym (equal_false label a off))) in
    let own : count_if (is_used m.sites g a) (cost_but m a a) ≡ 0 = ap (λ b. count_if (is_used m.sites g a) (cond b 0 (m.label_cost a))) (equal_is a a refl) ∙ counted_none (is_used m.sites g a) in
    omega (arith, change, own)

-- ---- which labels the values give up

-- another label in use that the values leave at no site: each of its sites is 1
all_ones : (m : Instance) (a label : ℕ) (f : ℕ → ℕ) (y : ℕ → Bool) (p : ℕ) → is_used m.sites (made a f y) label ≡ false → p < m.sites → f p ≡ label → y p ≡ true
all_ones m a label f y p none l is = elim (cases_Bool (y p)) [
  | inl one ↦ one
  | inr off ↦
      let stays : made a f y p ≡ label = ap (λ b. cond b a (f p)) off ∙ is in
      absurd (cc (none, somewhere_used m.sites (made a f y) label p l stays))
]

bit_other : (b : Bool) (a old label : ℕ) → label ≢ a → cond b a old ≡ label → old ≡ label
bit_other true a old label off is = absurd (off (sym is))
bit_other false a old label off is = is

-- none but a is in use then that was not before
used_before : (m : Instance) (a label : ℕ) (f : ℕ → ℕ) (x : ℕ → Bool) → label ≢ a → is_used m.sites (made a f x) label ≡ true → is_used m.sites f label ≡ true
used_before m a label f x off used =
    let there = used_somewhere m.sites (made a f x) label used in
    somewhere_used m.sites f label there.0 there.1 (bit_other (x there.0) a (f there.0) label off there.2)

counted_le : (b c : Bool) (z : ℕ) → (0 < z → b ≡ true → c ≡ true) → count_if b z ≤ count_if c z
counted_le b c zero h = (let e = counted_none b in omega (arith, e))
counted_le true c (suc z) h = (let e = counted_here c (suc z) (h (omega arith) refl) in omega (arith, e))
counted_le false c (suc z) h = omega arith

others_fall : (m : Instance) (a : ℕ) (f : ℕ → ℕ) (x : ℕ → Bool) → others_below m a (made a f x) m.labels ≤ others_below m a f m.labels
others_fall m a f x =
    sum_below-le m.labels (λ label. count_if (is_used m.sites (made a f x) label) (cost_but m a label)) (λ label. count_if (is_used m.sites f label) (cost_but m a label))
    (λ label l. counted_le (is_used m.sites (made a f x) label) (is_used m.sites f label) (cost_but m a label)
    (λ some used. used_before m a label f x ((but_other m a label some).0) used))

-- ---- each label that is given up is put back, one after another

record PutBack (m : Instance) (a : ℕ) (f : ℕ → ℕ) (y : ℕ → Bool) (k : ℕ) : Type 0 where
  pub z : ℕ → Bool
  pub within : (p : ℕ) → z p ≡ true → y p ≡ true
  pub same : (p : ℕ) → k ≤ f p → z p ≡ y p
  pub lower : (move_value m (Expand a) f z +ℤ pos (others_below m a f k)) ≤ℤ (move_value m (Expand a) f y +ℤ pos (others_below m a (made a f y) k))

stays_lower : (e g : ℤ) (s t u v : ℕ) → (e +ℤ pos s) ≤ℤ (g +ℤ pos t) → u ≤ v → (e +ℤ pos (s + u)) ≤ℤ (g +ℤ pos (t + v))
stays_lower e g s t u v h k = omega (arith, ints, h, k)

back_lower : (e d g : ℤ) (s t u v c : ℕ) → (e +ℤ pos s) ≤ℤ (g +ℤ pos t) → (d +ℤ pos c) ≤ℤ e → u ≤ c → (d +ℤ pos (s + u)) ≤ℤ (g +ℤ pos (t + v))
back_lower e d g s t u v c h k l = omega (arith, ints, h, k, l)

given_up : (before after : Bool) (c : ℕ) → count_if after c < count_if before c → (before ≡ true) × (after ≡ false) × (0 < c)
given_up true true c h = absurd (omega (arith, h))
given_up true false c h = (refl, refl, h)
given_up false after c h = absurd (omega (arith, h))

and_other : (y : Bool) (p k : ℕ) → p ≢ k → (y && not (p == k)) ≡ y
and_other true p k off = ap not (equal_false p k off)
and_other false p k off = refl

put_back : (m : Instance) (a : ℕ) (f : ℕ → ℕ) (y : ℕ → Bool) → IsInstance m → IsAllowed m (Expand a) f → AreLabelsKept m a f → (k : ℕ) → k ≤ m.labels → PutBack m a f y k
put_back m a f y pairs allowed kept zero l = record { z = y; within = λ p one. one; same = λ p from. refl; lower = omega (arith, ints) }
put_back m a f y pairs allowed kept (suc k) l =
    let so_far = put_back m a f y pairs allowed kept k (omega (arith, l)) in
    let before = is_used m.sites f k in
    let after = is_used m.sites (made a f y) k in
    elim (cases_lt (count_if after (cost_but m a k)) (count_if before (cost_but m a k))) [
      | inl up ↦
          let given = given_up before after (cost_but m a k) up in
          let other = but_other m a k given.2 in
          let some : 0 < m.label_cost k = omega (arith, given.2, other.1) in
          let back = kept_back m a k f so_far.z pairs allowed (kept k (omega (arith, l)) other.0 given.0 some)
          (λ p inside is. so_far.same p (omega (arith, is)) ∙ all_ones m a k f y p given.1 inside is) in
          let most : count_if before (cost_but m a k) ≤ m.label_cost k = (let e = counted_most before (cost_but m a k) in omega (arith, e, other.1)) in
          record {
            z = λ p. so_far.z p && not (f p == k);
            within = λ p one. so_far.within p (both_first (so_far.z p) (not (f p == k)) one);
            same = λ p from. and_other (so_far.z p) (f p) k (λ is. omega (arith, is, from)) ∙ so_far.same p (omega (arith, from));
            lower = back_lower (move_value m (Expand a) f so_far.z) (move_value m (Expand a) f (λ p. so_far.z p && not (f p == k))) (move_value m (Expand a) f y) (others_below m a f k) (others_below m a (made a f y) k) (count_if before (cost_but m a k)) (count_if after (cost_but m a k)) (m.label_cost k) so_far.lower back most;
          }
      | inr stays ↦ record {
        z = so_far.z;
        within = so_far.within;
        same = λ p from. so_far.same p (omega (arith, from));
        lower = stays_lower (move_value m (Expand a) f so_far.z) (move_value m (Expand a) f y) (others_below m a f k) (others_below m a (made a f y) k) (count_if before (cost_but m a k)) (count_if after (cost_but m a k)) so_far.lower stays;
      }
    ]

-- ---- where no site takes a that had it not

bit_own : (b : Bool) (a old : ℕ) → old ≡ a → cond b a old ≡ a
bit_own true a old is = refl
bit_own false a old is = is

used_still : (m : Instance) (a : ℕ) (f : ℕ → ℕ) (x : ℕ → Bool) → is_used m.sites f a ≡ true → is_used m.sites (made a f x) a ≡ true
used_still m a f x used =
    let there = used_somewhere m.sites f a used in
    somewhere_used m.sites (made a f x) a there.0 there.1 (bit_own (x there.0) a (f there.0) there.2)

stays_as : (m : Instance) (a : ℕ) (f : ℕ → ℕ) (y : ℕ → Bool) → is_used m.sites (made a f y) a ≡ false → Agrees m.sites (made a f y) f
stays_as m a f y none p l = elim (cases_Bool (y p)) [
  | inl one ↦ absurd (cc (none, somewhere_used m.sites (made a f y) a p l (ap (λ b. cond b a (f p)) one)))
  | inr off ↦ ap (λ b. cond b a (f p)) off
]

others_same : (m : Instance) (a : ℕ) (f g : ℕ → ℕ) → Agrees m.sites g f → others_below m a g m.labels ≡ others_below m a f m.labels
others_same m a f g same =
    sum_below-same m.labels (λ label. count_if (is_used m.sites g label) (cost_but m a label)) (λ label. count_if (is_used m.sites f label) (cost_but m a label))
    (λ label l. ap (λ b. count_if b (cost_but m a label)) (used-same m.sites g f label same))

-- ---- an energy by its parts

energy_parts : (plain labels others own : ℕ) → labels ≡ others + own → pos (plain + labels) ≡ pos plain +ℤ pos (others + own)
energy_parts plain labels others own is = omega (arith, ints, is)

parts : (m : Instance) (a : ℕ) (f : ℕ → ℕ) (y : ℕ → Bool) → a < m.labels
    → expanded_value m a f y ≡ move_value m (Expand a) f y +ℤ pos (others_below m a (made a f y) m.labels + count_if (is_used m.sites (made a f y) a) (m.label_cost a))
parts m a f y l = energy_parts (plain_energy m (made a f y)) (label_energy m (made a f y)) _ _ (all_labels m a (made a f y) l)

-- with the label of the expansion in use
in_use : (m : Instance) (a : ℕ) (f : ℕ → ℕ) (y : ℕ → Bool) → a < m.labels → is_used m.sites (made a f y) a ≡ true
    → expanded_value m a f y ≡ move_value m (Expand a) f y +ℤ pos (others_below m a (made a f y) m.labels + m.label_cost a)
in_use m a f y l used =
    parts m a f y l ∙ ap (λ c. move_value m (Expand a) f y +ℤ pos (others_below m a (made a f y) m.labels + c)) (counted_here (is_used m.sites (made a f y) a) (m.label_cost a) used)

counted_free : (b : Bool) (z : ℕ) → z ≡ 0 → count_if b z ≡ z
counted_free true z none = refl
counted_free false z none = sym none

-- or where it costs nothing
price_unused : (m : Instance) (a : ℕ) (f : ℕ → ℕ) → is_used m.sites f a ≡ false → own_price m a f ≡ m.label_cost a
price_unused m a f none = ap (λ b. count_if (not b) (m.label_cost a)) none

price_used : (m : Instance) (a : ℕ) (f : ℕ → ℕ) → is_used m.sites f a ≡ true → own_price m a f ≡ 0
price_used m a f used = ap (λ b. count_if (not b) (m.label_cost a)) used

paid : (m : Instance) (a : ℕ) (f : ℕ → ℕ) (y : ℕ → Bool) → a < m.labels → own_price m a f ≡ 0
    → expanded_value m a f y ≡ move_value m (Expand a) f y +ℤ pos (others_below m a (made a f y) m.labels + m.label_cost a)
paid m a f y l free = elim (cases_Bool (is_used m.sites f a)) [
  | inl used ↦ in_use m a f y l (used_still m a f y used)
  | inr none ↦
      parts m a f y l ∙ ap (λ c. move_value m (Expand a) f y +ℤ pos (others_below m a (made a f y) m.labels + c))
      (counted_free (is_used m.sites (made a f y) a) (m.label_cost a) (sym (price_unused m a f none) ∙ free))
]

at_most : (e v : ℤ) (o c k : ℕ) → e ≡ v +ℤ pos (o + c) → c ≤ k → e ≤ℤ (v +ℤ pos (o + k))
at_most e v o c k is h = omega (arith, ints, is, h)

-- and anyway at most that
most : (m : Instance) (a : ℕ) (f : ℕ → ℕ) (y : ℕ → Bool) → a < m.labels
    → expanded_value m a f y ≤ℤ (move_value m (Expand a) f y +ℤ pos (others_below m a (made a f y) m.labels + m.label_cost a))
most m a f y l = at_most _ (move_value m (Expand a) f y) (others_below m a (made a f y) m.labels) _ (m.label_cost a) (parts m a f y l) (counted_most (is_used m.sites (made a f y) a) (m.label_cost a))

unused_value : (e v : ℤ) (o c d plain : ℕ) → e ≡ v +ℤ pos (o + c) → c ≡ 0 → o ≡ d → v ≡ pos plain → e ≡ pos (plain + d)
unused_value e v o c d plain is none same as_before = omega (arith, ints, is, none, same, as_before)

-- where it is not in use the labels are as they were
not_in_use : (m : Instance) (a : ℕ) (f : ℕ → ℕ) (y : ℕ → Bool) → IsInstance m → a < m.labels → is_used m.sites (made a f y) a ≡ false
    → expanded_value m a f y ≡ pos (plain_energy m f + others_below m a f m.labels)
not_in_use m a f y pairs l none =
    let same = stays_as m a f y none in
    unused_value _ (move_value m (Expand a) f y) (others_below m a (made a f y) m.labels) (count_if (is_used m.sites (made a f y) a) (m.label_cost a)) (others_below m a f m.labels) (plain_energy m f) (parts m a f y l)
    (counted_not (is_used m.sites (made a f y) a) (m.label_cost a) none) (others_same m a f (made a f y) same) (ap pos (plain-same m (made a f y) f pairs same))

-- ---- the law

-- x costs at most this, and y, with the given-up labels put back, at least
used_least : (ex ey x y z : ℤ) (ox oy before cost : ℕ) → ex ≤ℤ (x +ℤ pos (ox + cost)) → ox ≤ before → ey ≡ y +ℤ pos (oy + cost)
    → (z +ℤ pos before) ≤ℤ (y +ℤ pos oy) → x ≤ℤ z → ex ≤ℤ ey
used_least ex ey x y z ox oy before cost one fall two back low = omega (arith, ints, one, fall, two, back, low)

used_level : (ex ey x y z : ℤ) (ox oy before cost : ℕ) → ex ≤ℤ (x +ℤ pos (ox + cost)) → ox ≤ before → ey ≡ y +ℤ pos (oy + cost)
    → (z +ℤ pos before) ≤ℤ (y +ℤ pos oy) → x ≤ℤ z → ey ≡ ex → z ≡ x
used_level ex ey x y z ox oy before cost one fall two back low level = omega (arith, ints, one, fall, two, back, low, level)

least_used : (m : Instance) (a : ℕ) (f : ℕ → ℕ) (x y : ℕ → Bool) → IsInstance m → a < m.labels → IsAllowed m (Expand a) f → AreLabelsKept m a f
    → IsSmallestLeast m.sites (move_value m (Expand a) f) x
    → expanded_value m a f y ≡ move_value m (Expand a) f y +ℤ pos (others_below m a (made a f y) m.labels + m.label_cost a)
    → (expanded_value m a f x ≤ℤ expanded_value m a f y) × (expanded_value m a f y ≡ expanded_value m a f x → (k : ℕ) → k < m.sites → x k ≡ true → y k ≡ true)
least_used m a f x y pairs l allowed kept least value =
    let back = put_back m a f y pairs allowed kept m.labels (omega arith) in
    let low = least.least back.z in
    let fall = others_fall m a f x in (
      used_least _ _ (move_value m (Expand a) f x) (move_value m (Expand a) f y) (move_value m (Expand a) f back.z) (others_below m a (made a f x) m.labels) (others_below m a (made a f y) m.labels) (others_below m a f m.labels) (m.label_cost a) (most m a f x l) fall value back.lower low,
      λ level k inside one. back.within k (least.smallest back.z
          (used_level _ _ (move_value m (Expand a) f x) (move_value m (Expand a) f y) (move_value m (Expand a) f back.z) (others_below m a (made a f x) m.labels) (others_below m a (made a f y) m.labels) (others_below m a f m.labels) (m.label_cost a) (most m a f x l) fall value back.lower low level) k inside one),
    )

saves : (ex ey x : ℤ) (ox before cost made_plain plain : ℕ) → ex ≤ℤ (x +ℤ pos (ox + cost)) → ox ≤ before → x ≡ pos made_plain → made_plain + cost < plain → ey ≡ pos (plain + before)
    → (ex ≤ℤ ey) × (ey ≢ ex)
saves ex ey x ox before cost made_plain plain one fall is worth two = (omega (arith, ints, one, fall, is, worth, two), λ level. omega (arith, ints, one, fall, is, worth, two, level))

-- the labels as they were cost more than those of x, if it is worth it
least_unused : (m : Instance) (a : ℕ) (f : ℕ → ℕ) (x y : ℕ → Bool) → IsInstance m → a < m.labels
    → plain_energy m (made a f x) + m.label_cost a < plain_energy m f → is_used m.sites (made a f y) a ≡ false
    → (expanded_value m a f x ≤ℤ expanded_value m a f y) × (expanded_value m a f y ≢ expanded_value m a f x)
least_unused m a f x y pairs l worth none =
    saves _ _ (move_value m (Expand a) f x) (others_below m a (made a f x) m.labels) (others_below m a f m.labels) (m.label_cost a) (plain_energy m (made a f x)) (plain_energy m f) (most m a f x l) (others_fall m a f x) refl worth (not_in_use m a f y pairs l none)

worth_least : (m : Instance) (a : ℕ) (f : ℕ → ℕ) (x y : ℕ → Bool) → IsInstance m → a < m.labels → IsAllowed m (Expand a) f → AreLabelsKept m a f
    → IsSmallestLeast m.sites (move_value m (Expand a) f) x → IsWorthIt m a f x
    → (expanded_value m a f x ≤ℤ expanded_value m a f y) × (expanded_value m a f y ≡ expanded_value m a f x → (k : ℕ) → k < m.sites → x k ≡ true → y k ≡ true)
worth_least m a f x y pairs l allowed kept least worth = elim worth [
  | inl free ↦ least_used m a f x y pairs l allowed kept least (paid m a f y l free)
  | inr saving ↦ elim (cases_Bool (is_used m.sites f a)) [
    | inl before ↦ least_used m a f x y pairs l allowed kept least (paid m a f y l (price_used m a f before))
    | inr unused ↦ elim (cases_Bool (is_used m.sites (made a f y) a)) [
      | inl used ↦ least_used m a f x y pairs l allowed kept least (in_use m a f y l used)
      | inr none ↦
          let price = price_unused m a f unused in
          let more = least_unused m a f x y pairs l (omega (arith, saving, price)) none in
          (more.0, λ level. absurd (more.1 level))
    ]
  ]
]

none_least : (e v z : ℤ) (oy before cost made_plain plain : ℕ) (x : ℤ) → e ≡ v +ℤ pos (oy + cost) → (z +ℤ pos before) ≤ℤ (v +ℤ pos oy) → x ≤ℤ z → x ≡ pos made_plain → plain ≤ made_plain + cost
    → pos (plain + before) ≤ℤ e
none_least e v z oy before cost made_plain plain x is back low made_is worth = omega (arith, ints, is, back, low, made_is, worth)

same_least : (e d : ℤ) (k : ℕ) → e ≡ pos k → d ≡ pos k → e ≤ℤ d
same_least e d k one two = omega (arith, ints, one, two)

along : (a b c : ℤ) → a ≡ b → b ≤ℤ c → a ≤ℤ c
along a b c h k = omega (arith, ints, h, k)

-- and if it is not, none cost less than the labels as they are
unworth_least : (m : Instance) (a : ℕ) (f : ℕ → ℕ) (x y : ℕ → Bool) → IsInstance m → a < m.labels → IsAllowed m (Expand a) f → AreLabelsKept m a f
    → IsSmallestLeast m.sites (move_value m (Expand a) f) x → ¬ IsWorthIt m a f x → expanded_value m a f (λ p. false) ≤ℤ expanded_value m a f y
unworth_least m a f x y pairs l allowed kept least unworth =
    let unused : is_used m.sites f a ≡ false =
    elim (cases_Bool (is_used m.sites f a)) [ inl used ↦ absurd (unworth (inl (price_used m a f used))) | inr none ↦ none ] in
    let price = price_unused m a f unused in
    let low : plain_energy m f ≤ plain_energy m (made a f x) + m.label_cost a =
    elim (cases_lt (plain_energy m (made a f x) + own_price m a f) (plain_energy m f)) [ inl saving ↦ absurd (unworth (inr saving)) | inr high ↦ omega (arith, high, price) ] in
    let now = not_in_use m a f (λ p. false) pairs l unused in
    elim (cases_Bool (is_used m.sites (made a f y) a)) [
      | inl used ↦
          let back = put_back m a f y pairs allowed kept m.labels (omega arith) in
          along _ _ _ now (none_least (expanded_value m a f y) (move_value m (Expand a) f y) (move_value m (Expand a) f back.z) (others_below m a (made a f y) m.labels) (others_below m a f m.labels) (m.label_cost a) (plain_energy m (made a f x)) (plain_energy m f) (move_value m (Expand a) f x)
          (in_use m a f y l used) back.lower (least.least back.z) refl low)
      | inr none ↦ same_least _ _ _ now (not_in_use m a f y pairs l none)
    ]

pub kept_plain : (m : Instance) (a : ℕ) (f : ℕ → ℕ) (x : ℕ → Bool) → IsInstance m → a < m.labels → IsAllowed m (Expand a) f → AreLabelsKept m a f
    → IsSmallestLeast m.sites (move_value m (Expand a) f) x
    → (IsWorthIt m a f x → IsSmallestLeast m.sites (expanded_value m a f) x) × (¬ IsWorthIt m a f x → IsSmallestLeast m.sites (expanded_value m a f) (λ p. false))
kept_plain m a f x pairs l allowed kept least = (
  (λ worth. record {
    least = λ y. (worth_least m a f x y pairs l allowed kept least worth).0;
    smallest = λ y. (worth_least m a f x y pairs l allowed kept least worth).1;
  }),
  (λ unworth. record {
    least = λ y. unworth_least m a f x y pairs l allowed kept least unworth;
    smallest = λ y level k inside one. absurd (cc (one));
  }),
)
