use Rattle.std.proofs.Common.{◌∙◌, ℕ, ap}
use Rattle.near_changes.specs.SideBySide.{seen_start}
use Rattle.near_changes.proofs.Codes.{part_found}
use Rattle.near_changes.proofs.side_by_side.fn.look_each.do_parts.Goals as goal

pub returns : goal.returns
returns c =
    let a = c.captures in
    part_found a.form a.known.now a.sizes c.seen_window-seen.result.from c.args.part c.look_apart.result
    (c.seen_window-seen.ensures.from ∙ ap (λ (n : ℕ). seen_start n a.sizes c.args.part) c.sites-sites.ensures.value) c.look_apart.ensures.zeros
