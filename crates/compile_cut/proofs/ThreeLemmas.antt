-- The parts of a table of three variables have its values as their least over the hidden node.
use Rattle.std.proofs.Common.{◌≡◌, ℕ, zero, suc, ◌+◌, ◌<◌, Bool, true, false, not, ◌&&◌, List, ℤ, pos, ◌+ℤ◌, ◌-ℤ◌, neg_ℤ, ◌≤ℤ◌, ◌<ℤ◌, unsigned_abs, refl, ap, subst, ◌∙◌, arith}
use Rattle.std.proofs.lemmas.Int.{ints}
use Rattle.sums.specs.Sums.{count_if}
use Rattle.pseudo_bool.specs.Energies.{entry}
use Rattle.compile_cut.specs.declared.three.ThreePart.{ThreePart}
use Rattle.regular.specs.declared.fixed.Fixed.{Fixed}
use Rattle.regular.specs.Regularity.{IsRegularTable, projection}
use Rattle.compile_cut.specs.Three.{cubic_weight, turned_table, hidden_value, part_sum, part_value, entry_of_three, IsLeastOverHidden}

pub record AtZeros (table : List ℤ) (p : ThreePart) (n : ℕ) : Type 0 where
  pub constant : p.constant ≡ entry table 0
  pub first : p.first ≡ entry table 4 -ℤ entry table 0
  pub second : p.second ≡ entry table 6 -ℤ entry table 4
  pub third : p.third ≡ (entry table 0 +ℤ entry table 3 -ℤ entry table 1 -ℤ entry table 2) +ℤ (entry table 5 -ℤ entry table 4)
  pub first_second : pos p.arcs.first_second ≡ entry table 2 +ℤ entry table 4 -ℤ entry table 0 -ℤ entry table 6
  pub first_third : pos p.arcs.first_third ≡ entry table 1 +ℤ entry table 4 -ℤ entry table 0 -ℤ entry table 5
  pub second_third : pos p.arcs.second_third ≡ entry table 1 +ℤ entry table 2 -ℤ entry table 0 -ℤ entry table 3
  pub hidden : p.hidden ≡ neg_ℤ (pos n)
  pub cubic : p.hidden ≡ cubic_weight table

-- what arcs into the hidden node carry, and arcs out of it
abbrev pub into : ℕ → Bool → Bool → Bool → Bool → ℕ
into n w x y z = count_if (w && not x) n + count_if (w && not y) n + count_if (w && not z) n

abbrev pub out_of : ℕ → Bool → Bool → Bool → Bool → ℕ
out_of n w x y z = count_if (x && not w) n + count_if (y && not w) n + count_if (z && not w) n

lower_zeros : (table : List ℤ) (p : ThreePart) (n carried : ℕ) (w x y z : Bool) → AtZeros table p n → carried ≡ into n w x y z
    → entry_of_three table x y z ≤ℤ part_sum p w x y z carried
lower_zeros table p n carried true true true true h e = omega (arith, ints)
lower_zeros table p n carried true true true false h e = omega (arith, ints)
lower_zeros table p n carried true true false true h e = omega (arith, ints)
lower_zeros table p n carried true true false false h e = omega (arith, ints)
lower_zeros table p n carried true false true true h e = omega (arith, ints)
lower_zeros table p n carried true false true false h e = omega (arith, ints)
lower_zeros table p n carried true false false true h e = omega (arith, ints)
lower_zeros table p n carried true false false false h e = omega (arith, ints)
lower_zeros table p n carried false true true true h e = omega (arith, ints)
lower_zeros table p n carried false true true false h e = omega (arith, ints)
lower_zeros table p n carried false true false true h e = omega (arith, ints)
lower_zeros table p n carried false true false false h e = omega (arith, ints)
lower_zeros table p n carried false false true true h e = omega (arith, ints)
lower_zeros table p n carried false false true false h e = omega (arith, ints)
lower_zeros table p n carried false false false true h e = omega (arith, ints)
lower_zeros table p n carried false false false false h e = omega (arith, ints)

reached_zeros : (table : List ℤ) (p : ThreePart) (n carried : ℕ) (x y z : Bool) → AtZeros table p n → carried ≡ into n (x && y && z) x y z
    → part_sum p (x && y && z) x y z carried ≡ entry_of_three table x y z
reached_zeros table p n carried true true true h e = omega (arith, ints)
reached_zeros table p n carried true true false h e = omega (arith, ints)
reached_zeros table p n carried true false true h e = omega (arith, ints)
reached_zeros table p n carried true false false h e = omega (arith, ints)
reached_zeros table p n carried false true true h e = omega (arith, ints)
reached_zeros table p n carried false true false h e = omega (arith, ints)
reached_zeros table p n carried false false true h e = omega (arith, ints)
reached_zeros table p n carried false false false h e = omega (arith, ints)

counted-nothing : (b : Bool) → count_if b 0 ≡ 0
counted-nothing true = refl
counted-nothing false = refl

carried_into : (n : ℕ) (w x y z : Bool) → hidden_value (neg_ℤ (pos n)) w x y z ≡ into n w x y z
carried_into zero w x y z =
    omega (
      arith,
      counted-nothing (x && not w),
      counted-nothing (y && not w),
      counted-nothing (z && not w),
      counted-nothing (w && not x),
      counted-nothing (w && not y),
      counted-nothing (w && not z),
    )
carried_into (suc n) w x y z = refl

pub least_at_zeros : (table : List ℤ) (p : ThreePart) (n : ℕ) → AtZeros table p n → IsLeastOverHidden table p
least_at_zeros table p n h =
    let carried = λ (w x y z : Bool). ap (λ (q : ℤ). hidden_value q w x y z) h.hidden ∙ carried_into n w x y z in
    record {
      lower = λ w x y z. lower_zeros table p n (hidden_value p.hidden w x y z) w x y z h (carried w x y z);
      reached = λ x y z. (x && y && z, reached_zeros table p n (hidden_value p.hidden (x && y && z) x y z) x y z h (carried (x && y && z) x y z));
    }

-- a number that is not above 0, or that is, as a size and a sign
pub below_is : (z : ℤ) → z ≤ℤ pos 0 → z ≡ neg_ℤ (pos (unsigned_abs z))
below_is z h = omega (arith, ints)

pub above_is : (z : ℤ) → pos 0 <ℤ z → neg_ℤ z ≡ neg_ℤ (pos (unsigned_abs z))
above_is z h = omega (arith, ints)

-- ---- the turned table

pub cubic-turned : (table : List ℤ) → cubic_weight (turned_table table) ≡ neg_ℤ (cubic_weight table)
cubic-turned table = omega (arith, ints)

turned_at : (table : List ℤ) (p : ℕ) (v : Bool) → p < 3 → ((fixed : Fixed) → fixed.position < 3 → IsRegularTable (projection table fixed))
    → IsRegularTable (projection (turned_table table) (record { position = p; value = v }))
turned_at table zero true l h = omega (arith, ints, h (record { position = 2; value = false }) (omega arith))
turned_at table zero false l h = omega (arith, ints, h (record { position = 2; value = true }) (omega arith))
turned_at table (suc zero) true l h = omega (arith, ints, h (record { position = 1; value = false }) (omega arith))
turned_at table (suc zero) false l h = omega (arith, ints, h (record { position = 1; value = true }) (omega arith))
turned_at table (suc (suc zero)) true l h = omega (arith, ints, h (record { position = 0; value = false }) (omega arith))
turned_at table (suc (suc zero)) false l h = omega (arith, ints, h (record { position = 0; value = true }) (omega arith))
turned_at table (suc (suc (suc p))) v l h = absurd (omega arith)

pub regular-turned : (table : List ℤ) → ((fixed : Fixed) → fixed.position < 3 → IsRegularTable (projection table fixed))
    → (fixed : Fixed) → fixed.position < 3 → IsRegularTable (projection (turned_table table) fixed)
regular-turned table h fixed l = turned_at table fixed.position fixed.value l h

entry-turned : (table : List ℤ) (x y z : Bool) → entry_of_three (turned_table table) (not z) (not y) (not x) ≡ entry_of_three table x y z
entry-turned table true true true = refl
entry-turned table true true false = refl
entry-turned table true false true = refl
entry-turned table true false false = refl
entry-turned table false true true = refl
entry-turned table false true false = refl
entry-turned table false false true = refl
entry-turned table false false false = refl

not-not : (b : Bool) → not (not b) ≡ b
not-not true = refl
not-not false = refl

-- parts that have the value of the turned ones
pub least_turned : (table turned : List ℤ) (p q : ThreePart) → turned ≡ turned_table table → IsLeastOverHidden turned q
    → ((w x y z : Bool) → part_value p w x y z ≡ part_value q (not w) (not z) (not y) (not x)) → IsLeastOverHidden table p
least_turned table turned p q e found is =
    let P : List ℤ → Type 0 = λ ts. IsLeastOverHidden ts q in
    let least : IsLeastOverHidden (turned_table table) q = subst P e found in
    record {
      lower = λ w x y z. omega (arith, ints, is w x y z, entry-turned table x y z, least.lower (not w) (not z) (not y) (not x));
      reached = λ x y z.
          let best = least.reached (not z) (not y) (not x) in
          let w : part_value q (not (not best.0)) (not z) (not y) (not x) ≡ part_value q best.0 (not z) (not y) (not x)
          = ap (λ u. part_value q u (not z) (not y) (not x)) (not-not best.0) in
          (not best.0, is (not best.0) x y z ∙ w ∙ best.1 ∙ entry-turned table x y z);
    }

-- parts that are turned: the hidden node's weight is -n, and then n
pub record AreTurned (p q : ThreePart) (n : ℕ) : Type 0 where
  pub constant : p.constant ≡ q.constant +ℤ q.first +ℤ q.second +ℤ q.third +ℤ q.hidden
  pub first : p.first ≡ neg_ℤ q.third
  pub second : p.second ≡ neg_ℤ q.second
  pub third : p.third ≡ neg_ℤ q.first
  pub first_second : p.arcs.first_second ≡ q.arcs.second_third
  pub first_third : p.arcs.first_third ≡ q.arcs.first_third
  pub second_third : p.arcs.second_third ≡ q.arcs.first_second
  pub old_hidden : q.hidden ≡ neg_ℤ (pos n)
  pub new_hidden : p.hidden ≡ pos n

value_turned : (p q : ThreePart) (n c d : ℕ) (w x y z : Bool) → AreTurned p q n → c ≡ out_of n w x y z → d ≡ into n (not w) (not z) (not y) (not x)
    → part_sum p w x y z c ≡ part_sum q (not w) (not z) (not y) (not x) d
value_turned p q n c d true true true true h e f = omega (arith, ints)
value_turned p q n c d true true true false h e f = omega (arith, ints)
value_turned p q n c d true true false true h e f = omega (arith, ints)
value_turned p q n c d true true false false h e f = omega (arith, ints)
value_turned p q n c d true false true true h e f = omega (arith, ints)
value_turned p q n c d true false true false h e f = omega (arith, ints)
value_turned p q n c d true false false true h e f = omega (arith, ints)
value_turned p q n c d true false false false h e f = omega (arith, ints)
value_turned p q n c d false true true true h e f = omega (arith, ints)
value_turned p q n c d false true true false h e f = omega (arith, ints)
value_turned p q n c d false true false true h e f = omega (arith, ints)
value_turned p q n c d false true false false h e f = omega (arith, ints)
value_turned p q n c d false false true true h e f = omega (arith, ints)
value_turned p q n c d false false true false h e f = omega (arith, ints)
value_turned p q n c d false false false true h e f = omega (arith, ints)
value_turned p q n c d false false false false h e f = omega (arith, ints)

pub parts_turned : (p q : ThreePart) (n : ℕ) → AreTurned p q n
    → (w x y z : Bool) → part_value p w x y z ≡ part_value q (not w) (not z) (not y) (not x)
parts_turned p q n h w x y z =
    value_turned p q n (hidden_value p.hidden w x y z) (hidden_value q.hidden (not w) (not z) (not y) (not x)) w x y z h
    (ap (λ (k : ℤ). hidden_value k w x y z) h.new_hidden)
    (ap (λ (k : ℤ). hidden_value k (not w) (not z) (not y) (not x)) h.old_hidden ∙ carried_into n (not w) (not z) (not y) (not x))

-- what the parts have where all four are 1
pub constant_turned : (table turned : List ℤ) (q : ThreePart) (n : ℕ) → turned ≡ turned_table table → AtZeros turned q n
    → entry table 0 ≡ q.constant +ℤ q.first +ℤ q.second +ℤ q.third +ℤ q.hidden
constant_turned table turned q n e parts =
    let P : List ℤ → Type 0 = λ ts. AtZeros ts q n in
    let h : AtZeros (turned_table table) q n = subst P e parts in
    omega (arith, ints, h.constant, h.first, h.second, h.third, h.cubic)
