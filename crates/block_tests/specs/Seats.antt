-- Two nodes in two blocks, joined by an arc of capacity 4: in one round the first block sends a
-- parcel, which the other leaves on the way.
use Rattle.std.specs.Prelude.{ℕ, List, [], ◌∷◌, Option, Some, None}
use Rattle.parcel.specs.Types.{Flight, Parcel}
use Rattle.parcel.specs.Directions.{forward, backward}
use Rattle.parcel.specs.Soundness.{IsSound}
use Rattle.block_tests.specs.Runs.{two_source_net}
use Rattle.block_net.specs.declared.lanes.Border.{Border}
use Rattle.discharge.specs.Views.{CellsView}
use Rattle.parcel.specs.Whole.{Whole}
use Rattle.parcel.specs.Views.{IsLaid}
use Rattle.cut_in_blocks.specs.Rounds.{Ways, AreBack, quiet_state}

-- a block of one node with one direction to the other block
abbrev pub part : ℕ → ℕ → ℕ → Border → CellsView
part excess label room border = record {
  top = 4;
  excess = excess ∷ [];
  labels = label ∷ [];
  rooms = room ∷ [];
  starts = 0 ∷ 0 ∷ [];
  lanes = [];
  border_starts = 0 ∷ 1 ∷ [];
  borders = border ∷ [];
}

abbrev pub border_there : ℕ → Option Flight → Border
border_there residual flight = record {
  direction = forward 0;
  near = 0;
  to = 1;
  opposite = 0;
  capacity = 4;
  residual = residual;
  known = 0;
  flight = flight;
}

abbrev pub border_back : Border
border_back = record {
  direction = backward 0;
  near = 0;
  to = 0;
  opposite = 0;
  capacity = 4;
  residual = 0;
  known = 0;
  flight = None;
}

abbrev pub whole_before : Whole
whole_before =
    record {
      net = two_source_net;
      firsts = 0 ∷ 1 ∷ [];
      slots = 0 ∷ 0 ∷ [];
      blocks = part 4 0 0 (border_there 4 None) ∷ part 1 0 3 border_back ∷ [];
      ways = [];
      got = 0;
    }

-- the first node is relabelled and sends all it has, the other is relabelled
abbrev pub blocks_after : List CellsView
blocks_after =
    part 0 1 0 (border_there 0 (Some (record { amount = 4; label = 1 })))
    ∷ part 1 1 3 border_back ∷ []

abbrev pub left_on_the_way : Ways
left_on_the_way = ([] ∷ (Parcel (forward 0) 4 1 ∷ []) ∷ []) ∷ ([] ∷ [] ∷ []) ∷ []

-- they have their places, show a sound state, and are back
pub record BlocksComeBack : Type 0 where
  pub laid : IsLaid whole_before
  pub sound : IsSound (quiet_state whole_before 0)
  pub back : AreBack whole_before 0 blocks_after left_on_the_way
