-- What a cut of all open sites shows, where all other sites are fixed.
use Rattle.std.proofs.Common.{◌≤◌, ℕ, List, Bool, length, vec_len, sym, ap, ◌∙◌}
use Rattle.label_energies.specs.declared.change.Move.{Move}
use Rattle.label_energies.specs.Energies.{Instance, IsInstance}
use Rattle.pseudo_bool.specs.Energies.{assignment}
use Rattle.compile_cut.specs.declared.quadratic.Quadratic.{Quadratic}
use Rattle.compile_cut.specs.Quadratics.{quadratic_value}
use Rattle.move_energy.specs.declared.choice.Choice.{Choice}
use Rattle.move_energy.specs.BySite.{rising_sites}
use Rattle.move_energy.specs.Choices.{choice_at, is_open, open_at, open_rank, AreOpenSites, StandsFor}
use Rattle.site_bounds.specs.Decisions.{IsSmallestLeast}
use Rattle.persistency.specs.Forms.{bits_by_site}
use Rattle.persistency.proofs.Forms.{form_smallest, open_bit}
use Rattle.strip_nets.specs.Looking.{IsStageLeast}
use Rattle.strip_nets.specs.Views.{strip_view}
use Rattle.strip_nets.proofs.Views.{view_length, whole_is}

-- a strip of all sites sees what is known
pub whole_listed : (known : List Choice) (opened : List ℕ) (to : ℕ) → length known ≤ to → AreOpenSites known opened → AreOpenSites (strip_view known 0 to) opened
whole_listed known opened to all listed =
    listed ∙ ap (λ (choice : ℕ → Choice). rising_sites (λ p. is_open (choice p)) (length known)) (sym (whole_is known to all))
    ∙ ap (rising_sites (open_at (strip_view known 0 to))) (sym (view_length known 0 to))

-- where a form stands for what is open, its least assignment with the fewest ones is the least
-- values of that
pub stage_least : (m : Instance) (move : Move) (f : ℕ → ℕ) (known : List Choice) (q : Quadratic) (bits : List Bool) → IsInstance m
    → StandsFor m move f (choice_at known) q (open_rank known) → IsSmallestLeast (vec_len q.weights) (quadratic_value q) (assignment bits)
    → IsStageLeast m move f known bits
stage_least m move f known q bits pairs stands least = record {
  values = bits_by_site (choice_at known) (open_rank known) (assignment bits);
  least = form_smallest m move f (choice_at known) q (open_rank known) (assignment bits) pairs stands least;
  shown = λ p. open_bit (choice_at known p) (assignment bits (open_rank known p));
}
