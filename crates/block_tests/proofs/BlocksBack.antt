-- Two blocks of one node each, before a round and after it.
use Rattle.std.proofs.Common.{◌≡◌, ◌≢◌, ℕ, zero, suc, ◌+◌, ◌<◌, ◌≤◌, Bool, true, false, cond, eqb, List, [], ◌∷◌, ◌++◌, length, get_or, slice_index, refl, sym, arith}
use Rattle.std.proofs.lemmas.Bool.{false≢true}
use Rattle.flow_network.specs.Cut.{IsNet, IsArc}
use Rattle.parcel.specs.Types.{Direction, Message, Parcel}
use Rattle.parcel.specs.Directions.{forward, backward, near}
use Rattle.parcel.specs.States.{way_at}
use Rattle.block_tests.specs.Runs.{two_source_net}
use Rattle.block_events.proofs.Opening.{opened_sound}
use Rattle.discharge.specs.Views.{count, first_lane, first_border}
use Rattle.parcel.specs.Whole.{block_at, block_with, node_block, place, near_node_block, slot, is_outer, IsInnerAt, IsBorderAt, StandsAt, LiesAt, IsPlaced, IsFilled, with_blocks}
use Rattle.parcel.specs.Views.{IsLaid}
use Rattle.discharge.specs.Steps.{TurnView, Relabel, Send, DoesMany}
use Rattle.cut_in_blocks.specs.Rounds.{fresh}
use Rattle.block_tests.specs.Seats.{whole_before, blocks_after, left_on_the_way, BlocksComeBack}

by_node : (P : ℕ → Type 0) → P 0 → P 1 → (v : ℕ) → v < 2 → P v
by_node P p q zero l = p
by_node P p q (suc zero) l = q
by_node P p q (suc (suc v)) l = absurd (omega (arith, l))

by_one : (P : ℕ → Type 0) → P 0 → (v : ℕ) → v < 1 → P v
by_one P p zero l = p
by_one P p (suc v) l = absurd (omega (arith, l))

by_way : (P : Direction → Type 0) → P (forward 0) → P (backward 0) → (k : ℕ) (b : Bool) → k < 1 → P (record { arc = k; back = b })
by_way P p q zero true l = q
by_way P p q zero false l = p
by_way P p q (suc k) b l = absurd (omega (arith, l))

net : IsNet two_source_net
net = record {
  same = refl;
  count = omega arith;
  arcs = λ k d l. by_one (λ k. IsArc 2 (get_or two_source_net.arcs k d)) (record { from = omega arith; to = omega arith }) k l;
  total = omega arith;
}

border0 : IsBorderAt whole_before (forward 0)
border0 = record { from = omega arith; below = omega arith; within = omega arith; direction = refl; near = refl; to = refl; opposite = refl; capacity = refl }

border1 : IsBorderAt whole_before (backward 0)
border1 = record { from = omega arith; below = omega arith; within = omega arith; direction = refl; near = refl; to = refl; opposite = refl; capacity = refl }

stands0 : (j : ℕ) → 0 ≤ j → j < 1 → (x : Direction) × StandsAt whole_before true 0 j x
stands0 j from below = (forward 0, record { direction = omega arith; near = refl; outer = refl; slot = omega (arith, from, below) })

stands1 : (j : ℕ) → 0 ≤ j → j < 1 → (x : Direction) × StandsAt whole_before true 1 j x
stands1 j from below = (backward 0, record { direction = omega arith; near = refl; outer = refl; slot = omega (arith, from, below) })

abbrev Apart : Direction → Direction → Type 0
Apart x y = is_outer whole_before x ≡ is_outer whole_before y → near_node_block whole_before x ≡ near_node_block whole_before y → slot whole_before x ≡ slot whole_before y → x ≡ y

placed : IsPlaced whole_before
placed = record {
  firsts_len = refl;
  slots_len = refl;
  node_blocks = λ v lv. by_node (λ v. node_block whole_before v < 2) (omega arith) (omega arith) v lv;
  firsts = λ v lv. by_node (λ v. slice_index whole_before.firsts (node_block whole_before v) ≤ v) (omega arith) (omega arith) v lv;
  places = λ v lv. by_node (λ v. place whole_before v < count (block_with whole_before v)) (omega arith) (omega arith) v lv;
  tops = λ b lb. by_node (λ b. (block_at whole_before b).top ≡ 4) refl refl b lb;
  inner = λ x d e. by_way (λ x. is_outer whole_before x ≡ false → IsInnerAt whole_before x) (λ e. absurd (false≢true (sym e))) (λ e. absurd (false≢true (sym e))) x.arc x.back d e;
  borders = λ x d e. by_way (λ x. IsBorderAt whole_before x) border0 border1 x.arc x.back d;
  apart = λ x y dx dy. by_way (λ x. Apart x y)
      (by_way (λ y. Apart (forward 0) y) (λ o h s. refl) (λ o h s. absurd (omega (arith, h))) y.arc y.back dy)
      (by_way (λ y. Apart (backward 0) y) (λ o h s. absurd (omega (arith, h))) (λ o h s. refl) y.arc y.back dy) x.arc x.back dx;
  lanes = λ v j lv. by_node
      (λ v. first_lane (block_with whole_before v) (place whole_before v) ≤ j → j < first_lane (block_with whole_before v) (place whole_before v + 1) → (x : Direction) × StandsAt whole_before false v j x)
      (λ from below. absurd (omega (arith, below))) (λ from below. absurd (omega (arith, below))) v lv;
  outers = λ v j lv. by_node
      (λ v. first_border (block_with whole_before v) (place whole_before v) ≤ j → j < first_border (block_with whole_before v) (place whole_before v + 1) → (x : Direction) × StandsAt whole_before true v j x)
      (stands0 j) (stands1 j) v lv;
}

-- what lies in block b, and what leaves it
abbrev Lies : ℕ → ℕ → Type 0
Lies b p = (v : ℕ) × LiesAt whole_before b p v

abbrev Leaves : ℕ → ℕ → Type 0
Leaves b j = (x : Direction) × (near_node_block whole_before x ≡ b) × StandsAt whole_before true (near two_source_net x) j x

leaves0 : Leaves 0 0
leaves0 = (forward 0, refl, record { direction = omega arith; near = refl; outer = refl; slot = refl })

leaves1 : Leaves 1 0
leaves1 = (backward 0, refl, record { direction = omega arith; near = refl; outer = refl; slot = refl })

filled : IsFilled whole_before
filled = record {
  labels = λ b lb. by_node (λ b. length (block_at whole_before b).labels ≡ count (block_at whole_before b)) refl refl b lb;
  nodes = λ b p lb. by_node (λ b. p < count (block_at whole_before b) → Lies b p)
      (by_one (Lies 0) (0, record { node = omega arith; node_block = refl; place = refl }) p)
      (by_one (Lies 1) (1, record { node = omega arith; node_block = refl; place = refl }) p) b lb;
  borders = λ b j lb. by_node (λ b. j < length (block_at whole_before b).borders → Leaves b j)
      (by_one (Leaves 0) leaves0 j) (by_one (Leaves 1) leaves1 j) b lb;
}

laid : IsLaid whole_before
laid = record { net = net; arcs = omega arith; some = omega arith; few = omega arith; placed = placed; filled = filled }

-- ---- what each did

abbrev sent : ℕ → ℕ → List Message
sent b c = cond (eqb b 0) (cond (eqb c 1) (Parcel (forward 0) 4 1 ∷ []) []) []

abbrev taken : ℕ → ℕ → List Message
taken b c = []

abbrev steps : ℕ → ℕ
steps b = cond (eqb b 0) 2 1

-- what block b came to
abbrev came : ℕ → TurnView
came b = record { block = block_at (with_blocks whole_before blocks_after) b; sent = sent b; taken = taken b }

does0 : DoesMany (fresh (block_at whole_before 0)) 2 (came 0)
does0 = (
  Relabel 0 ∷ Send 0 0 ∷ [],
  (
    (record { node = omega arith; excess = omega arith; below = omega arith }, omega arith),
    (
      (
        record { node = omega arith; excess = omega arith; below = omega arith },
        record { low = omega arith; high = omega arith },
        record { residual = omega arith; level = refl; idle = refl },
      ),
      refl,
    ),
  ),
  refl,
)

does1 : DoesMany (fresh (block_at whole_before 1)) 1 (came 1)
does1 = (
  Relabel 0 ∷ [],
  ((record { node = omega arith; excess = omega arith; below = omega arith }, omega arith), refl),
  refl,
)

abbrev Joins : ℕ → ℕ → Type 0
Joins b c = b ≢ c → sent b c ≡ taken c b ++ way_at left_on_the_way b c

pub come_back : BlocksComeBack
come_back = record {
  laid = laid;
  sound = opened_sound two_source_net 2 net (omega arith);
  back = record {
    sent = sent;
    taken = taken;
    steps = steps;
    many = refl;
    does = by_node (λ b. DoesMany (fresh (block_at whole_before b)) (steps b) (came b)) does0 does1;
    rest = record {
      square = record { rows = refl; columns = by_node (λ b. length (get_or left_on_the_way b []) ≡ 2) refl refl };
      none = by_node (λ b. way_at left_on_the_way b b ≡ []) refl refl;
      ways = λ b c lb lc.
          by_node (λ b. (c : ℕ) → c < 2 → Joins b c)
          (by_node (λ c. Joins 0 c) (λ off. absurd (off refl)) (λ off. refl))
          (by_node (λ c. Joins 1 c) (λ off. refl) (λ off. absurd (off refl))) b lb c lc;
    };
    busy = λ b e lb may. by_node (λ b. 0 < steps b) (omega arith) (omega arith) b lb;
  };
}
