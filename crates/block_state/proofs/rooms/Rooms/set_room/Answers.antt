use Rattle.std.proofs.Common.{◌<◌, List, ℕ, length, refl, sym, ◌∙◌, ap, arith}
use Rattle.std.specs.Vec.{with_item}
use Rattle.std.proofs.lemmas.List.{length-map}
use Rattle.block_state.specs.Counting.{put_room}
use Rattle.block_state.proofs.Counts.{put_rows}
use Rattle.block_state.proofs.rooms.Rooms.set_room.Goals as goal

pub returns : goal.returns
returns c =
    let rows = c.self.inside.rows.items in
    let row = c.index_mut.result.now in
    let l : c.args.from < length rows = (let len = sym (length-map rows _) ∙ ap length c.self.view_is in omega (arith, len, c.requires.from)) in
    put_rows (λ r. r.items) rows c.args.from c.args.to c.args.room row (with_item row c.args.to c.args.room) l c.index_mut.ensures.value refl
    ∙ ap (λ (q : List (List ℕ)). put_room q c.args.from c.args.to c.args.room) c.self.view_is
