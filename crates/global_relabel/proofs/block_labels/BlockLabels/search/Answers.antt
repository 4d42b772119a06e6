use Rattle.std.proofs.Common.{rules, ℕ, ◌<◌, List, [], drop, length, replicate, subst, refl, sym, arith}
use Rattle.block_net.specs.Views.{CellsView, count, room_in}
use Rattle.block_net.specs.Whole.{Whole, block_at}
use Rattle.block_split.specs.Split.{whole_of}
use Rattle.net_in_blocks.specs.Views.{blocks_in}
use Rattle.net_in_blocks.proofs.Steps.{at_read}
use Rattle.sink_distances.specs.Search.{found_of}
use Rattle.global_relabel.specs.declared.block_labels.Offer.{Offer}
use Rattle.global_relabel.specs.Lowering.{AreLengthsWithin, AreTight, FallsTo, IsAllowedBy}
use Rattle.global_relabel.proofs.Falling.{take_whole, tight_first, lengths_first}
use Rattle.global_relabel.proofs.block_labels.BlockLabels.search.Goals as goal

pub returns-clause-tight : goal.returns-clause-tight
returns-clause-tight c =
    let w : Whole = whole_of c.args.net.now c.args.parts.now in
    let cells = c.index.result.now in
    let first = tight_first w c.args.block (count cells) cells.top 1 (λ p. 0 < room_in cells p) c.as_mut_slice-queue.result.now
    (found_of c.lower_rooms-end.new.labels c.lower_rooms-end.new.queue c.lower_rooms-end.result) c.lower_rooms-end.ensures.falls in
    subst (λ (labels : List ℕ). AreTight w c.args.block labels)
    (take_whole c.spread.new.labels (drop (length c.spread.new.labels) c.self.inside.labels.items) c.self.inside.labels.len (search rules)) (c.spread.ensures.tight first)

pub returns-clause-lengths : goal.returns-clause-lengths
returns-clause-lengths c =
    let w : Whole = whole_of c.args.net.now c.args.parts.now in
    let b = c.args.block in
    let at = at_read w (blocks_in w) b c.index.result.now c.requires.laid refl c.requires.block c.index.ensures in
    let queue = c.as_mut_slice-queue.result.now in
    let t = found_of c.lower_rooms-end.new.labels c.lower_rooms-end.new.queue c.lower_rooms-end.result in
    let falls : FallsTo 1 (λ p. 0 < room_in (block_at w b) p) (found_of (replicate (count (block_at w b)) (block_at w b).top) queue 0) t =
    subst (λ (cells : CellsView). FallsTo 1 (λ p. 0 < room_in cells p) (found_of (replicate (count cells) cells.top) queue 0) t) (sym at.is)
    c.lower_rooms-end.ensures.falls in
    let none : List Offer = [] in
    subst (λ (labels : List ℕ). AreLengthsWithin w b labels)
    (take_whole c.spread.new.labels (drop (length c.spread.new.labels) c.self.inside.labels.items) c.self.inside.labels.len (search rules))
    (lengths_first w b (IsAllowedBy none) queue t c.spread.new.labels falls (λ v label allowed. omega (arith, allowed.1)) c.spread.ensures.down)
