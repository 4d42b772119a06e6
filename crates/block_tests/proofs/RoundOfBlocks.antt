-- A round that leaves a parcel on the way.
use Rattle.std.proofs.Common.{◌≡◌, ◌≢◌, ℕ, zero, suc, ◌<◌, Bool, true, false, cond, eqb, [], ◌∷◌, ◌++◌, length, get_or, refl, arith}
use Rattle.parcel.specs.Types.{Relabel, Send}
use Rattle.parcel.specs.Directions.{forward}
use Rattle.parcel.specs.States.{State, lane_at, way_at, near_block, block_of, excess_of, label_of, room_of}
use Rattle.parcel.specs.Events.{effect}
use Rattle.parcel.specs.Workers.{IsHistory}
use Rattle.parcel.specs.Rounds.{RoundOf}
use Rattle.block_tests.specs.Rounds.{opened_blocks, parcel_on_the_way, histories_of_blocks}

abbrev mid0 : State
mid0 = effect opened_blocks (Relabel 0)

abbrev end0 : State
end0 = effect mid0 (Send (forward 0))

abbrev end1 : State
end1 = effect opened_blocks (Relabel 1)

abbrev ends : ℕ → State
ends b = cond (eqb b 0) end0 end1

by_node : (P : ℕ → Type 0) → P 0 → P 1 → (v : ℕ) → v < 2 → P v
by_node P p q zero l = p
by_node P p q (suc zero) l = q
by_node P p q (suc (suc v)) l = absurd (omega (arith, l))

lanes_of : (k : ℕ) (b : Bool) → k < 1 → lane_at parcel_on_the_way.lanes (record { arc = k; back = b }) ≡ lane_at (ends (near_block opened_blocks.net opened_blocks.blocks (record { arc = k; back = b }))).lanes (record { arc = k; back = b })
lanes_of zero true l = refl
lanes_of zero false l = refl
lanes_of (suc k) b l = absurd (omega (arith, l))

led0 : IsHistory 0 opened_blocks (Relabel 0 ∷ Send (forward 0) ∷ []) end0
led0 = (
  mid0,
  (refl, (record { node = omega arith; excess = omega arith; below = omega arith }, omega arith), refl),
  (end0, (refl, (omega arith, refl, record { node = omega arith; excess = omega arith; below = omega arith }, omega arith, refl, refl), refl), refl),
)

led1 : IsHistory 1 opened_blocks (Relabel 1 ∷ []) end1
led1 = (end1, (refl, (record { node = omega arith; excess = omega arith; below = omega arith }, omega arith), refl), refl)

pub round : RoundOf opened_blocks parcel_on_the_way
round = record {
  histories = histories_of_blocks;
  ends = ends;
  count = refl;
  led = by_node (λ b. IsHistory b opened_blocks (get_or histories_of_blocks b []) (ends b)) led0 led1;
  joined = record {
    net = refl;
    blocks = refl;
    excess_len = refl;
    labels_len = refl;
    rooms_len = refl;
    forth_len = refl;
    back_len = refl;
    excess = by_node (λ v. excess_of parcel_on_the_way v ≡ excess_of (ends (block_of opened_blocks.net opened_blocks.blocks v)) v) refl refl;
    labels = by_node (λ v. label_of parcel_on_the_way v ≡ label_of (ends (block_of opened_blocks.net opened_blocks.blocks v)) v) refl refl;
    rooms = by_node (λ v. room_of parcel_on_the_way v ≡ room_of (ends (block_of opened_blocks.net opened_blocks.blocks v)) v) refl refl;
    lanes = λ x lx. lanes_of x.arc x.back lx;
    got = refl;
  };
  square = record { rows = refl; columns = by_node (λ b. length (get_or parcel_on_the_way.ways b []) ≡ 2) refl refl };
  ways = λ b c lb lc.
      by_node (λ b. (c : ℕ) → c < 2 → way_at (ends b).ways b c ≡ way_at (ends c).ways b c ++ way_at parcel_on_the_way.ways b c)
      (by_node (λ c. way_at (ends 0).ways 0 c ≡ way_at (ends c).ways 0 c ++ way_at parcel_on_the_way.ways 0 c) refl refl)
      (by_node (λ c. way_at (ends 1).ways 1 c ≡ way_at (ends c).ways 1 c ++ way_at parcel_on_the_way.ways 1 c) refl refl) b lb c lc;
  busy = λ b e lb may. by_node (λ b. get_or histories_of_blocks b [] ≢ []) (λ h. cc) (λ h. cc) b lb;
}
