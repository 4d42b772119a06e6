use Rattle.std.proofs.Common.{◌≡◌, ◌<◌, ◌∙◌, length, All, [], List, ℕ, Bool, true, false, sym, subst, arith}
use Rattle.label_energies.specs.declared.change.Move.TheVariants.{Expand}
use Rattle.label_energies.specs.Energies.{labelling}
use Rattle.move_energy.specs.declared.choice.Choice.{Choice}
use Rattle.move_energy.specs.Choices.{choice_at, value_of}
use Rattle.move_energy.proofs.Opened.{opened_within}
use Rattle.strip_nets.specs.Looking.{IsStageLeast}
use Rattle.move_energy.specs.MoveValues.{move_value}
use Rattle.persistency.specs.Fixing.{AreLeastZeros}
use Rattle.near_changes.specs.Looking.{is_marked, IsClosedIn}
use Rattle.form_lists.specs.Lists.{with_costs_at}
use Rattle.later_expansions.proofs.Asked.{stage_of_asked, opened_asked, read_at_none}
use Rattle.site_bounds.specs.declared.sites.Deciding.{Deciding}
use Rattle.later_expansions.specs.Stages.{HasNumbersNear}
use Rattle.later_expansions.proofs.Stages.{closed_ends, next_zeros}
use Rattle.later_expansions.proofs.stage_cut.make_stage.Goals.{After-read_sites}
use Rattle.later_expansions.proofs.stage_cut.make_stage.Goals as goal

pub read_sites-requires-clause-inside : goal.read_sites-requires-clause-inside
read_sites-requires-clause-inside g c = λ lives outlive.
    let space = c.args.space.now in
    subst (λ (xs : List ℕ). All (λ p. p < length c.args.at.now) xs) (sym c.deref.ensures.value)
    (opened_within space.built.variables.choices.items space.stage.opened.items (length c.args.at.now) c.requires.stage.opened
    (c.requires.stage.sites ∙ sym c.requires.numbers.sites_are))

pub returns-in-Ok-clause-closed : goal.returns-in-Ok-clause-closed
returns-in-Ok-clause-closed g c = λ m meant is changed was fresh zeros.
    let a = c.args.alpha in
    let at = c.args.at.now in
    let pairs = c.args.problem.now.pairs in
    let choices = c.cut_stage.new.built.variables.choices.items in
    let numbers = c.requires.numbers in
    let near = c.read_sites.ensures.read m meant c.args.space.now.deciding.ends (numbers.read m meant) in
    let asked = with_costs_at near.asked m in
    let form = c.form-form.ensures.of asked (Expand a) meant.sites_are meant.pairs_are (numbers.allowed m meant) near.read in
    let L : List ℕ → Type 0 = λ f. IsStageLeast asked (Expand a) (labelling f) choices c.in_ok-bits.bits.items in
    let least = stage_of_asked m (Expand a) (labelling at) choices c.in_ok-bits.bits.items near.asked
    (λ p l is_open. opened_asked near.asked c.args.space.now.built.variables.choices.items choices c.args.space.now.stage.opened.items p
    (omega (arith, l, meant.sites_are, c.requires.stage.sites)) c.in_ok-bits.ensures.kept c.requires.stage.opened (subst (λ (xs : List ℕ). All (λ q. near.asked q ≡ true) xs) c.deref.ensures.value near.covers) is_open)
    (subst L c.form-form.ensures.at (c.in_ok-bits.ensures.least asked (Expand a) form)) in
    let taken = is_marked c.end_stage.new.space.stage.taken.items in
    let marks = is_marked c.args.space.now.stage.fresh.items in
    let C : List Bool → Type 0 = λ bits. IsClosedIn pairs (value_of choices bits) (choice_at choices) taken marks in
    let Z : List Choice → Type 0 = λ cs. AreLeastZeros m.sites (move_value m (Expand a) (labelling at)) (choice_at cs) in
    closed_ends m a at pairs choices c.in_ok-bits.bits.items taken marks changed form.instance meant.sites_are meant.pairs_are
    (c.requires.numbers.allowed m meant) least (subst C c.deref-3.ensures.value (c.in-Ok.ensures.closed is)) was fresh
    (subst Z (sym c.in_ok-bits.ensures.kept) zeros)

pub returns-in-Ok-clause-zeros : goal.returns-in-Ok-clause-zeros
returns-in-Ok-clause-zeros g c = λ m meant is zeros.
    let a = c.args.alpha in
    let at = c.args.at.now in
    let choices = c.cut_stage.new.built.variables.choices.items in
    let numbers = c.requires.numbers in
    let near = c.read_sites.ensures.read m meant c.args.space.now.deciding.ends (numbers.read m meant) in
    let asked = with_costs_at near.asked m in
    let form = c.form-form.ensures.of asked (Expand a) meant.sites_are meant.pairs_are (numbers.allowed m meant) near.read in
    let L : List ℕ → Type 0 = λ f. IsStageLeast asked (Expand a) (labelling f) choices c.in_ok-bits.bits.items in
    let least = stage_of_asked m (Expand a) (labelling at) choices c.in_ok-bits.bits.items near.asked
    (λ p l is_open. opened_asked near.asked c.args.space.now.built.variables.choices.items choices c.args.space.now.stage.opened.items p
    (omega (arith, l, meant.sites_are, c.requires.stage.sites)) c.in_ok-bits.ensures.kept c.requires.stage.opened (subst (λ (xs : List ℕ). All (λ q. near.asked q ≡ true) xs) c.deref.ensures.value near.covers) is_open)
    (subst L c.form-form.ensures.at (c.in_ok-bits.ensures.least asked (Expand a) form)) in
    let Z : List Choice → Type 0 = λ cs. AreLeastZeros m.sites (move_value m (Expand a) (labelling at)) (choice_at cs) in
    next_zeros m a at choices c.end_stage.new.space.built.variables.choices.items c.in_ok-bits.bits.items form.instance
    (c.requires.numbers.allowed m meant) least
    (λ p l zero. subst (λ (bits : List Bool). value_of choices bits p ≡ false) c.deref-3.ensures.value (c.in-Ok.ensures.zeros is p (omega (arith, l, meant.sites_are)) zero))
    (subst Z (sym c.in_ok-bits.ensures.kept) zeros)

pub form-form-requires-clause-lists : goal.form-form-requires-clause-lists
form-form-requires-clause-lists g c = c.read_sites.ensures.lists c.args.problem.now.pairs c.args.space.now.deciding.ends c.requires.numbers.lists

-- what was known of the numbers is known once those of some sites were read
numbers_still : (g : _) (c : After-read_sites g)
    → HasNumbersNear g.F.Fn g.V.Fn c.args.problem.now c.args.at.now (Expand c.args.alpha) [] c.args.space.now.deciding.ends c.read_sites.new.self
numbers_still g c =
    let numbers = c.requires.numbers in
    let ends = c.args.space.now.deciding.ends in
    record {
      sites_are = numbers.sites_are;
      allowed = numbers.allowed;
      lists = c.read_sites.ensures.lists c.args.problem.now.pairs ends numbers.lists;
      read = λ m meant. read_at_none m (Expand c.args.alpha) ends c.args.at.now _ _ (c.read_sites.ensures.read m meant ends (numbers.read m meant));
    }

pub returns-in_err-bits-clause-numbers : goal.returns-in_err-bits-clause-numbers
returns-in_err-bits-clause-numbers g c = numbers_still g (goal.at.returns-in_err-bits-clause-numbers g c).After-read_sites

pub returns-in-Ok-clause-numbers : goal.returns-in-Ok-clause-numbers
returns-in-Ok-clause-numbers g c =
    let D : Deciding → Type 0 = λ d. HasNumbersNear g.F.Fn g.V.Fn c.args.problem.now c.args.at.now (Expand c.args.alpha) [] d.ends d.numbers in
    subst D (sym c.in-Ok.ensures.same) (numbers_still g (goal.at.returns-in-Ok-clause-numbers g c).After-read_sites)

pub returns-clause-numbers : goal.returns-clause-numbers
returns-clause-numbers g c =
    let D : Deciding → Type 0 = λ d. HasNumbersNear g.F.Fn g.V.Fn c.args.problem.now c.args.at.now (Expand c.args.alpha) [] d.ends d.numbers in
    subst D (sym c.in-Err.ensures.same) (numbers_still g (goal.at.returns-clause-numbers g c).After-read_sites)
