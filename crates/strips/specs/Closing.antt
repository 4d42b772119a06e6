-- What is asked of a move that is closed in strip by strip.
use Rattle.std.specs.Prelude.{◌≡◌, ◌≤◌, List, length}
use Rattle.compile_cut.specs.Weights.{weights_size}
use Rattle.move_energy.specs.declared.choice.Choice.{Choice}
use Rattle.move_energy.specs.Limits.{weights_limit}
use Rattle.move_energy.specs.Weights.{open_weights}
use Rattle.site_forms.specs.declared.numbers.SiteForm.{SiteForm}
use Rattle.site_forms.specs.Numbers.{IsOverPairs}
use Rattle.strips.specs.declared.basis.Basis.{Basis}
use Rattle.strip_nets.specs.Views.{KeepsChosen}

-- the form is of its pairs, something is known of each of its sites at the start, and each has a
-- number: those of the open ones, which are their weights, are in their limit together
pub record IsBasisOf (form : SiteForm) (basis : Basis) : Type 0 where
  pub over : IsOverPairs form
  pub starts : length basis.start.now ≡ length form.at.now
  pub weighed : length basis.weights.now ≡ length form.at.now
  pub size : weights_size (open_weights basis.start.now basis.weights.now (length form.at.now))
      ≤ weights_limit

-- and this is known of its sites by now: what was chosen at the start stays
pub record CanClose (form : SiteForm) (basis : Basis) (known : List Choice) : Type 0 where
  pub begins : IsBasisOf form basis
  pub count : length known ≡ length form.at.now
  pub goes_on : KeepsChosen basis.start.now known
