use Rattle.std.proofs.Common.{◌≡◌, ℕ, ◌+◌, ◌<◌, Bool, List, [], length, map, get_or, sym, ◌∙◌, ap, subst, arith, Vec, Global}
use Rattle.std.proofs.lemmas.Grind.{common_steps}
use Rattle.std.proofs.lemmas.List.{length-map, map_push}
use Rattle.block_net.specs.Views.{CellsView}
use Rattle.block_rings.specs.Joining.{IsScanned}
use Rattle.block_rings.proofs.Scanning.{scans_more, all_scans}
use Rattle.block_rings.proofs.linked_blocks.all_scanned.Goals as goal

pub loop-b-preserved : goal.loop-b-preserved
loop-b-preserved c =
    let was = c.loop-b.invariant in
    let items = λ (r : Vec Bool Global). r.items in
    let cells = c.args.cells.now in
    let rows = c.loop-b.rows.items in
    let row = c.in_ok-scan_cells.field-0 in
    let block = c.index-cells-b.result in
    let here : block ≡ get_or cells c.loop-b.b block = grind (arith, common_steps) in
    record {
      len = grind (arith, common_steps);
      each = subst (λ (r : List (List Bool)). (i : ℕ) (d : CellsView) → i < c.loop-b.b + 1 → IsScanned (length cells) (get_or cells i d) (get_or r i []))
          (sym (ap (map items) c.in_ok-push.ensures.items ∙ map_push items rows row))
          (scans_more cells (map items rows) row.items block c.loop-b.b (length-map rows items ∙ was.len) (grind (arith, common_steps)) here c.in_ok-scan_cells.ensures was.each);
    }

pub returns : goal.returns
returns c =
    let items = λ (r : Vec Bool Global). r.items in
    let rows = c.loop-b.rows.items in
    all_scans c.args.cells.now (map items rows) c.loop-b.b (length-map rows items ∙ c.loop-b.invariant.len) (grind (arith, common_steps)) c.loop-b.invariant.each
