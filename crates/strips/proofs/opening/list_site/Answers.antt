use Rattle.std.proofs.Common.{◌≡◌, ◌≢◌, ◌∙◌, sym}
use Rattle.std.proofs.lemmas.List.{get_or_default}
use Rattle.move_energy.specs.declared.choice.Choice.TheVariants.{Open, Zero}
use Rattle.move_energy.specs.Choices.{choice_at}
use Rattle.strips.proofs.Listing.{next_open, next_shut}
use Rattle.strips.proofs.opening.list_site.Goals as goal

pub returns-then-is_open-clause-opened : goal.returns-then-is_open-clause-opened
returns-then-is_open-clause-opened c =
    let known = c.args.known.now in
    let site = c.args.site in
    let read = get_or_default known site Open Zero c.requires.site.1 in
    let is : choice_at known site ≡ Open = sym read ∙ c.is_open.ensures.0 c.if-is_open.true in
    next_open known c.args.first site c.args.opened.now.items c.push.new.self.items c.requires.site.0 c.requires.site.1 is c.in_ok-push.ensures.items c.requires.opened

pub returns-clause-opened : goal.returns-clause-opened
returns-clause-opened c =
    let known = c.args.known.now in
    let site = c.args.site in
    let read = get_or_default known site Open Zero c.requires.site.1 in
    let shuts : choice_at known site ≢ Open = λ is. (let e = sym c.if-is_open.false ∙ c.is_open.ensures.1 (read ∙ is) in cc (e)) in
    next_shut known c.args.first site c.args.opened.now.items shuts c.requires.opened
