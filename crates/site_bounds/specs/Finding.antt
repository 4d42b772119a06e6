-- What is kept while the sites of a move are decided, and what is known of the move afterwards.
use Rattle.std.specs.Prelude.{◌≡◌, ℕ, ◌+◌, ◌*◌, ◌<◌, ◌≤◌, List, [], length}
use Rattle.label_energies.specs.declared.change.Move.{Move}
use Rattle.label_energies.specs.Energies.{labelling}
use Rattle.cost_store.specs.declared.problem.Problem.{Problem}
use Rattle.cost_store.specs.Posed.{Closure, IsPosed, IsAsked, WhereMeant}
use Rattle.compile_cut.specs.Weights.{weights_size}
use Rattle.move_energy.specs.declared.by_site.Neighbours.{Neighbours}
use Rattle.move_energy.specs.BySite.{AreBySite}
use Rattle.move_energy.specs.Choices.{choice_at}
use Rattle.move_energy.specs.declared.choice.Choice.TheVariants.{Open}
use Rattle.move_energy.specs.Limits.{surplus_limit, weights_limit}
use Rattle.move_energy.specs.Weights.{AreWeights, open_weights}
use Rattle.move_energy.specs.Ends.{rise_limit}
use Rattle.site_forms.specs.declared.numbers.SiteForm.{SiteForm}
use Rattle.form_lists.specs.Lists.{AreFormLists, IsReadOf}
use Rattle.site_forms.specs.Numbers.{WhereRead}
use Rattle.site_bounds.specs.declared.bounds.Bounds.{Bounds}
use Rattle.site_bounds.specs.declared.sites.Deciding.{Deciding}
use Rattle.site_bounds.specs.Decided.{KnowsSites}
use Rattle.site_bounds.specs.Working.{IsSummed, IsWithinRange, open_ends, budget_of, greatest_total}
use Rattle.site_bounds.specs.Working.{summed_count, AreWaiting, ArePartlyDecided, StayDecided}
use Rattle.site_bounds.specs.Working.{AreOfSites, CanDecide}

-- how many ends lie at open sites: those that may still be looked at
abbrev pub ends_left : SiteForm → Bounds → ℕ
ends_left form b = open_ends form.ends.now (length form.at.now) b.choices.items

-- what all greatest rises together can still become
abbrev pub total_left : SiteForm → Bounds → ℕ
total_left form b = greatest_total b + surplus_limit * ends_left form b

-- the bounds of the summed sites have room for the ends that are left
pub record IsInBudget (form : SiteForm) (b : Bounds) : Type 0 where
  pub sized : IsSummed (length form.at.now) b
  pub left : ends_left form b ≤ 2 * length form.pairs.now.list
  pub range : IsWithinRange (budget_of (ends_left form b)) b

-- the next site is summed, its bounds in their range, and the sites before it are decided or wait
-- where their bounds tell their values
pub record SumsSite (form : SiteForm) (site : ℕ) (old new : Bounds) : Type 0 where
  pub left : ends_left form new ≤ ends_left form old
  pub summed : summed_count new ≡ site + 1
  pub sized : IsSummed (length form.at.now) new
  pub range : IsWithinRange (budget_of (ends_left form old)) new
  pub total : greatest_total new ≤ greatest_total old + rise_limit form.ends.now site
  pub waiting : AreWaiting (site + 1) new
  pub closed : StayDecided old new
  pub decided : WhereRead form (λ m move f.
      ArePartlyDecided m move f site old → ArePartlyDecided m move f (site + 1) new)

-- the next open site is summed, and no site waits then
pub record SumsNext (form : SiteForm) (site : ℕ) (old new : Bounds) : Type 0 where
  pub summed : summed_count new ≡ site + 1
  pub budget : IsInBudget form new
  pub waiting : AreWaiting (site + 1) new
  pub none : new.waiting.items ≡ []
  pub closed : StayDecided old new
  pub total : total_left form new ≤ total_left form old + rise_limit form.ends.now site
  pub decided : WhereRead form (λ m move f.
      ArePartlyDecided m move f (summed_count old) old → ArePartlyDecided m move f (site + 1) new)

-- all sites are passed, of which those behind the last summed one are closed
pub record EndsSites (form : SiteForm) (old new : Bounds) : Type 0 where
  pub sized : AreOfSites (length form.at.now) new
  pub summed : new.summed ≡ length form.at.now
  pub waiting : AreWaiting (length form.at.now) new
  pub same : (new.waiting ≡ old.waiting) × (new.choices ≡ old.choices)
  pub total : greatest_total new ≡ greatest_total old
  pub decided : WhereRead form (λ m move f. ArePartlyDecided m move f (summed_count old) old
      → ArePartlyDecided m move f (length form.at.now) new)

-- all sites are summed or closed, and none that is left can be told
pub record DecidesSites (form : SiteForm) (old new : Bounds) : Type 0 where
  pub sized : AreOfSites (length form.at.now) new
  pub total : weights_size (open_weights new.choices.items new.greatest.items
      (length form.at.now)) ≤ weights_limit
  pub none : (u : ℕ) → u < length form.at.now → choice_at new.choices.items u ≡ Open
      → ¬ CanDecide new u
  pub closed : StayDecided old new
  pub decided : WhereRead form (λ m move f. ArePartlyDecided m move f 0 old
      → ArePartlyDecided m move f (length form.at.now) new)

-- the move is asked of a posed problem, and these are the neighbours of its sites
pub record IsAskedBySite {F V : Type 0} (f : Closure F) (v : Closure V) (problem : Problem F V)
    (at : List ℕ) (move : Move) (ends : Neighbours) : Type 0 where
  pub posed : IsPosed f v problem
  pub asked : IsAsked problem at move
  pub by_site : AreBySite problem.pairs ends

-- what is known of the sites of the move, the weights of the open ones are right, and the lists
-- have the move's costs
pub record KnowsMove {F V : Type 0} (f : Closure F) (v : Closure V) (problem : Problem F V)
    (at : List ℕ) (move : Move) (room : Deciding) : Type 0 where
  pub sites : KnowsSites move at room
  pub weights : WhereMeant f v problem (λ m. AreWeights m move (labelling at)
      (choice_at room.bounds.choices.items) room.bounds.greatest.items)
  pub lists : AreFormLists problem.pairs room.ends at room.numbers
  pub read : WhereMeant f v problem (λ m. IsReadOf m move room.ends at room.numbers)
