use Rattle.std.proofs.Common.{◌≡◌, Bool, length, map, sym, ◌∙◌, subst, arith, Vec, Global}
use Rattle.std.proofs.lemmas.List.{length-map}
use Rattle.block_rings.specs.Joined.{AreJoined}
use Rattle.block_rings.proofs.Joining.{all_joined}
use Rattle.block_rings.proofs.join.join_by.Goals as goal

pub returns : goal.returns
returns c =
    let items = λ (r : Vec Bool Global). r.items in
    let n = length c.in_ok-rows.rows.items in
    let is : length c.args.cells.now ≡ n = sym c.in_ok-rows.ensures.square.len ∙ length-map c.in_ok-rows.rows.items items in
    subst (AreJoined c.args.ring c.args.cells.now) (sym c.in_ok-ends.ensures)
    (all_joined c.args.ring n 0 n c.args.cells.now (map items c.in_ok-rows.rows.items) _ is (omega arith) c.in_ok-rows.ensures c.in_ok-lists.ensures)
