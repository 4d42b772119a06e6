use Rattle.cut_in_blocks.proofs.Opened.{opening_from}
use Rattle.cut_in_blocks.proofs.opening.open.Goals as goal

pub open_blocks-requires : goal.open_blocks-requires
open_blocks-requires c =
    let ensures = c.into_pieces-pieces.ensures in
    rw (c.of-old.ensures) (opening_from c.into_pieces-pieces.result c.args.state ensures.state ensures.laid ensures.held c.requires)
