use Rattle.std.proofs.Common.{◌≡◌, Bool, true, false, ◌<◌, ◌≤◌, length, map, sym, ◌∙◌, arith, Vec, Global}
use Rattle.std.proofs.lemmas.Grind.{common_steps}
use Rattle.block_rings.proofs.Joining.{begun_more, begun_pass, begun_next}
use Rattle.block_rings.proofs.join.join_row.Goals as goal
use Rattle.block_rings.proofs.join.join_row.Goals.{then-are_linked+in_ok-join_two, else-are_linked}

pub loop-b-preserved : goal.loop-b-preserved
loop-b-preserved c =
    let n = length c.args.rows.now.items in
    let rows = map (λ (r : Vec Bool Global). r.items) c.args.rows.now.items in
    let order : c.loop-b.b < c.args.c = grind (arith, common_steps) in
    let below : c.args.c < n = grind (arith, common_steps) in
    elim c.if-are_linked.branch [
      | then-are_linked+in_ok-join_two w ↦
          let yes : c.are_linked.result ≡ true = (let t = w.if-are_linked.true in grind (arith, common_steps)) in
          rw w.lists-is (begun_more c.args.ring n c.loop-b.b c.args.c rows _ _ order below (sym c.are_linked.ensures ∙ yes) c.loop-b.invariant w.in_ok-join_two.ensures)
      | else-are_linked w ↦
          let no : c.are_linked.result ≡ false = (let f = w.if-are_linked.false in grind (arith, common_steps)) in
          rw w.lists-is (begun_pass c.args.ring n c.loop-b.b c.args.c rows _ (sym c.are_linked.ensures ∙ no) c.loop-b.invariant)
    ]

pub returns : goal.returns
returns c =
    let n = length c.args.rows.now.items in
    let high : c.args.c ≤ c.loop-b.b = grind (arith, common_steps) in
    begun_next c.args.ring n c.loop-b.b c.args.c _ _ high c.loop-b.invariant
