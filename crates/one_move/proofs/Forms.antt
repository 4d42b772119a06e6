-- What is said of a form that is lent of the workspace's numbers, and of a move that is built of
-- it.
use Rattle.std.proofs.Common.{◌≡◌, ◌∙◌, ℕ, Bool, List, Ok, length, ap, sym, subst}
use Rattle.pseudo_bool.specs.Energies.{assignment}
use Rattle.label_energies.specs.declared.change.Move.{Move}
use Rattle.label_energies.specs.Energies.{Instance, IsInstance, labelling}
use Rattle.label_energies.specs.Moves.{IsAllowed}
use Rattle.cost_store.specs.declared.problem.Problem.{Problem}
use Rattle.cost_store.specs.Posed.{Closure, IsPosed, IsMeant, WhereMeant}
use Rattle.cost_store.proofs.Meaning.{pairs_meant}
use Rattle.move_energy.specs.declared.choice.Choice.{Choice}
use Rattle.move_energy.specs.declared.building.MoveEnergy.{MoveEnergy}
use Rattle.move_energy.specs.declared.by_site.Neighbours.{Neighbours}
use Rattle.move_energy.specs.BySite.{AreBySite}
use Rattle.move_energy.specs.Choices.{choice_at, open_rank, value_of}
use Rattle.move_energy.specs.MoveValues.{move_value}
use Rattle.move_energy.proofs.Rising.{move_falls, move_over}
use Rattle.form_lists.specs.declared.lists.FormLists.{FormLists}
use Rattle.site_forms.specs.declared.numbers.SiteForm.{SiteForm}
use Rattle.form_lists.specs.Lists.{AreFormLists, IsReadOf}
use Rattle.site_forms.specs.Numbers.{IsFormOf}
use Rattle.site_bounds.specs.declared.sites.Deciding.{Deciding}
use Rattle.site_bounds.specs.Decisions.{IsSmallestLeast}
use Rattle.site_bounds.specs.Listed.{AreListed}
use Rattle.persistency.specs.Fixing.{with_choices}
use Rattle.persistency.proofs.Agreeing.{rest_agrees}
use Rattle.persistency.specs.Agreeing.{Agree}
use Rattle.one_move.specs.declared.left.Left.{Left}
use Rattle.one_move.specs.declared.left.Left.TheVariants.{Form, Values}
use Rattle.one_move.specs.declared.workspace.Workspace.{Workspace}
use Rattle.one_move.specs.Building.{HasNumbersOf, HasFormOf, IsReadMove, IsLeftOf, KeepsDecided, KeepsChoices, IsBuiltPlain, MakesPlain, TellsLeft}
use Rattle.one_move.specs.PlainBuilding.{IsPlainBuilding}
use Rattle.one_move.proofs.Least.{agreed_least}
use Rattle.one_move.proofs.Changes.{near_rest}
use Rattle.one_move.proofs.OfProblem.{still_of_problem}

-- what holds of the form holds of the move that the problem means, from its labels
pub read_meant : {F V : Type 0} (f : Closure F) (v : Closure V) (problem : Problem F V) (ends : Neighbours) (at : List ℕ) (move : Move) (lists : FormLists) (form : SiteForm)
    (P : Instance → List ℕ → Type 0) → WhereMeant f v problem (λ m. IsAllowed m move (labelling at)) → WhereMeant f v problem (λ m. IsReadOf m move ends at lists)
    → form.at.now ≡ at → ((m : Instance) (other : Move) → m.sites ≡ problem.pairs.sites → m.pairs ≡ problem.pairs.list → IsAllowed m other (labelling at)
    → IsReadOf m other ends at lists → IsFormOf m other form)
    → ((m : Instance) → IsMeant f v problem m → IsFormOf m move form → P m form.at.now) → WhereMeant f v problem (λ m. P m at)
read_meant {F} {V} f v problem ends at move lists form P allowed read from forms told m meant =
    subst (P m) from (told m meant (forms m move meant.sites_are meant.pairs_are (allowed m meant) (read m meant)))

-- the numbers stay where nothing is decided since
pub still_numbers : {F V : Type 0} (f : Closure F) (v : Closure V) (problem : Problem F V) (at : List ℕ) (move : Move) (old new : Workspace) → KeepsDecided old new
    → HasNumbersOf f v problem at move old → HasNumbersOf f v problem at move new
still_numbers {F} {V} f v problem at move old new same numbers =
    let L : Deciding → Type 0 = λ d. AreFormLists problem.pairs d.ends at d.numbers in
    record {
      sites = numbers.sites;
      allowed = numbers.allowed;
      lists = subst L (sym same) numbers.lists;
      read = λ m meant. (let R : Deciding → Type 0 = λ d. IsReadOf m move d.ends at d.numbers in subst R (sym same) (numbers.read m meant));
    }

-- so does the form
pub still_form : {F V : Type 0} (f : Closure F) (v : Closure V) (problem : Problem F V) (at : List ℕ) (move : Move) (old new : Workspace) → KeepsDecided old new
    → HasFormOf f v problem at move old → HasFormOf f v problem at move new
still_form {F} {V} f v problem at move old new same form =
    let E : Deciding → Type 0 = λ d. AreBySite problem.pairs d.ends in
    record { numbers = still_numbers f v problem at move old new same form.numbers; by_site = subst E (sym same) form.by_site }

-- the form stays where the neighbours and the numbers do
pub form_kept : {F V : Type 0} (f : Closure F) (v : Closure V) (problem : Problem F V) (at : List ℕ) (move : Move) (old new : Workspace) → new.deciding.ends ≡ old.deciding.ends
    → new.deciding.numbers ≡ old.deciding.numbers → IsReadMove f v problem at move old → HasFormOf f v problem at move new
form_kept {F} {V} f v problem at move old new ends lists read =
    let E : Neighbours → Type 0 = λ e. AreBySite problem.pairs e in
    record {
      numbers = record {
        sites = read.numbers.sites;
        allowed = read.numbers.allowed;
        lists = subst (λ (X : Type 0). X) (λ i. AreFormLists problem.pairs (sym ends i) at (sym lists i)) read.numbers.lists;
        read = λ m meant. subst (λ (X : Type 0). X) (λ i. IsReadOf m move (sym ends i) at (sym lists i)) (read.numbers.read m meant);
      };
      by_site = subst E (sym ends) read.near.by_site;
    }

-- where choices agree, what is left makes the least values of all sites
left_makes : (m : Instance) (move : Move) (f : List ℕ) (made : MoveEnergy) (left : Left) → IsInstance m → IsAllowed m move (labelling f)
    → Agree m.sites (move_value m move (labelling f)) (choice_at made.variables.choices.items)
    → TellsLeft m move (labelling f) made.variables.choices.items made.form left → MakesPlain m move f made left
left_makes m move f made Form pairs allowed agree stands bits least =
    agreed_least m move (labelling f) (choice_at made.variables.choices.items) made.form (open_rank made.variables.choices.items) (assignment bits.items) pairs allowed agree stands least
left_makes m move f made (Values told) pairs allowed agree stage bits same =
    let E = move_value m move (labelling f) in
    let choices = made.variables.choices.items in
    let shown : with_choices (choice_at choices) stage.values ≡ value_of choices told.items = λ j p. stage.shown p j in
    subst (λ (bs : List Bool). IsSmallestLeast m.sites E (value_of choices bs)) (sym same)
    (subst (λ (x : ℕ → Bool). IsSmallestLeast m.sites E x) shown
    (rest_agrees m.sites E (choice_at choices) stage.values (move_falls m move (labelling f) pairs allowed) (move_over m move (labelling f) pairs) agree stage.least))

-- so what is left of a move whose choices agree is that of its least values
pub agreed_built : {F V : Type 0} (f : Closure F) (v : Closure V) (problem : Problem F V) (at : List ℕ) (move : Move) (space : Workspace) (left : Left) → IsPosed f v problem
    → WhereMeant f v problem (λ m. IsAllowed m move (labelling at)) → IsLeftOf f v problem at move space left
    → WhereMeant f v problem (λ m. Agree m.sites (move_value m move (labelling at)) (choice_at space.built.variables.choices.items))
    → WhereMeant f v problem (λ m. IsBuiltPlain m move at space.built (Ok left))
agreed_built {F} {V} f v problem at move space left posed allowed is agree m meant =
    (allowed m meant, left_makes m move at space.built left (pairs_meant f v problem m posed meant) (allowed m meant) (agree m meant) (is.tells m meant))

-- a move whose numbers were read, and of which this is then left
pub plain_built : {F V : Type 0} (f : Closure F) (v : Closure V) (problem : Problem F V) (at : List ℕ) (move : Move) (old new : Workspace) (left : Left) → IsPosed f v problem
    → IsReadMove f v problem at move old → KeepsDecided old new → KeepsChoices old new → IsLeftOf f v problem at move new left
    → WhereMeant f v problem (λ m. Agree m.sites (move_value m move (labelling at)) (choice_at old.built.variables.choices.items))
    → IsPlainBuilding f v problem at move new (Ok left)
plain_built {F} {V} f v problem at move old new left posed read same kept is agree =
    let count = ap (λ (xs : List Choice). length xs) kept ∙ read.count in
    let E : Deciding → Type 0 = λ d. AreBySite problem.pairs d.ends in
    let L : Deciding → Type 0 = λ d. AreListed move (labelling at) new.built.variables.choices.items d.lists in
    let C : List Choice → Type 0 = λ choices. AreListed move (labelling at) choices old.deciding.lists in
    record {
      of_problem = still_of_problem f v problem old new same read.of_problem;
      form = still_form f v problem at move old new same (record { numbers = read.numbers; by_site = read.near.by_site });
      left = record {
        near = near_rest problem.pairs move at new count
            (record { by_site = subst E (sym same) read.near.by_site; lists = subst L (sym same) (subst C (sym kept) read.near.lists) });
        choices = count;
        sized = is.sized;
      };
      built = agreed_built f v problem at move new left posed read.numbers.allowed is (λ m meant.
          let A : List Choice → Type 0 = λ choices. Agree m.sites (move_value m move (labelling at)) (choice_at choices) in
          subst A (sym kept) (agree m meant));
    }
