use Rattle.std.proofs.Common.{◌≡◌, ◌∙◌, List, length, sym, ap}
use Rattle.std.proofs.lemmas.List.{length-replicate}
use Rattle.move_energy.specs.declared.choice.Choice.{Choice}
use Rattle.move_energy.specs.declared.choice.Choice.TheVariants.{Zero}
use Rattle.move_energy.specs.Choices.{choice_at}
use Rattle.move_energy.proofs.Opened.{opened_within}
use Rattle.near_swaps.proofs.Bounds.{lowered, all_zero}
use Rattle.site_bounds.proofs.Opening.{begins_closed}
use Rattle.near_swaps.proofs.looking.lower_all.Goals as goal

pub set_listed-requires : goal.set_listed-requires
set_listed-requires c =
    let closed = begins_closed (length c.args.choices.now) _ _ _ (ap (λ (xs : List Choice). length xs) c.new-list.ensures.items) c.new-list.result.ok.0 c.in_ok-resize.ensures.items in
    let count : length c.resize.new.self.items ≡ length c.args.choices.now = ap (λ (xs : List Choice). length xs) closed ∙ length-replicate (length c.args.choices.now) Zero in
    opened_within c.args.choices.now c.args.opened.now (length c.resize.new.self.items) c.requires (sym count)

pub returns-clause-each : goal.returns-clause-each
returns-clause-each c = λ p l.
    let n = length c.args.choices.now in
    let closed = begins_closed n _ _ _ (ap (λ (xs : List Choice). length xs) c.new-list.ensures.items) c.new-list.result.ok.0 c.in_ok-resize.ensures.items in
    lowered c.args.choices.now c.set_listed.new.choices.items c.args.opened.now p c.requires l (c.set_listed.ensures.listed p)
    (λ none. c.set_listed.ensures.others p none ∙ ap (λ (xs : List Choice). choice_at xs p) closed ∙ all_zero n p)
