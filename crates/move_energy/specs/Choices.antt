-- What is known of a move's variables before its energy is built, how the open ones are numbered,
-- and what is known of them once the energy is least.
use Rattle.std.specs.Prelude.{◌≡◌, ◌≢◌, ◌↔◌, ℕ, ◌<◌, Bool, true, false, List, length}
use Rattle.std.specs.Prelude.{slice_index_or, ℤ, pos, ◌+ℤ◌, vec_len}
use Rattle.sums.specs.Sums.{sum_below}
use Rattle.move_energy.specs.BySite.{IsListing}
use Rattle.label_energies.specs.declared.change.Move.{Move}
use Rattle.label_energies.specs.Energies.{Instance, labelling, plain_energy}
use Rattle.label_energies.specs.Moves.{label_after, labelling_made}
use Rattle.pseudo_bool.specs.Energies.{assignment}
use Rattle.compile_cut.specs.declared.quadratic.Quadratic.{Quadratic}
use Rattle.compile_cut.specs.Quadratics.{quadratic_value}
use Rattle.move_energy.specs.declared.choice.Choice.{Choice}
use Rattle.move_energy.specs.declared.choice.Choice.TheVariants.{Open, Zero, One}

-- the value of a variable: that of an assignment where it is open, else what was decided
abbrev pub bit_of : Choice → Bool → Bool
bit_of Open bit = bit
bit_of Zero bit = false
bit_of One bit = true

-- what is known of the variable of each site
abbrev pub choice_at : List Choice → ℕ → Choice
choice_at choices p = slice_index_or choices p Zero

-- can the move change this label?
abbrev pub Changes : Move → ℕ → Type 0
Changes move old = label_after move old true ≢ label_after move old false

-- nothing is decided: exactly the sites that the move can change are open, and no other is at 1
pub record AreAllOpen (move : Move) (f : List ℕ) (choices : List Choice) : Type 0 where
  pub count : length choices ≡ length f
  pub opened : (p : ℕ) → p < length f → choice_at choices p ≡ Open ↔ Changes move (labelling f p)
  pub none : (p : ℕ) → p < length f → choice_at choices p ≢ One

-- 1 for an open choice, else 0
abbrev pub openness : Choice → ℕ
openness Open = 1
openness Zero = 0
openness One = 0

-- how many of the first n choices are open
abbrev pub open_rank : List Choice → ℕ → ℕ
open_rank choices n = sum_below n (λ p. openness (choice_at choices p))

-- how many choices are open
abbrev pub open_count : List Choice → ℕ
open_count choices = open_rank choices (length choices)

-- the variable of an open site is the number of the open sites before it; what stands at the others
-- means nothing
pub record IsNumbering (choices : List Choice) (variables : List ℕ) : Type 0 where
  pub count : length variables ≡ length choices
  pub each : (p : ℕ) → p < length choices → choice_at choices p ≡ Open → labelling variables p
      ≡ open_rank choices p

-- is nothing known of the variable?
abbrev pub is_open : Choice → Bool
is_open Open = true
is_open Zero = false
is_open One = false

-- is the site open?
abbrev pub open_at : List Choice → ℕ → Bool
open_at choices p = is_open (choice_at choices p)

-- the list is that of the open sites, in rising order
abbrev pub AreOpenSites : List Choice → List ℕ → Type 0
AreOpenSites choices opened = IsListing (open_at choices) (length choices) opened

-- the choice that has a value
abbrev pub choice_of : Bool → Choice
choice_of true = One
choice_of false = Zero

-- the value of each site's variable: what was decided, else the bit of its rank
abbrev pub value_of : List Choice → List Bool → ℕ → Bool
value_of choices bits p = bit_of (choice_at choices p) (assignment bits (open_rank choices p))

-- each choice has its value, and none is open
pub record AreAssigned (old : List Choice) (bits : List Bool) (new : List Choice) : Type 0 where
  pub count : length new ≡ length old
  pub each : (p : ℕ) → p < length old → choice_at new p ≡ choice_of (value_of old bits p)

-- the labelling that an assignment and what was decided make
abbrev pub made_by : Move → (ℕ → ℕ) → (ℕ → Choice) → (ℕ → ℕ) → (ℕ → Bool) → ℕ → ℕ
made_by move f choice variable x = labelling_made move f (λ p. bit_of (choice p) (x (variable p)))

-- the form stands for the partly decided move from f: but for a fixed number, its value at each
-- assignment is what the labels that the assignment and what was decided make cost the sites and
-- the pairs. `variable` is each site's variable, and `site` each variable's site (Boykov, Veksler,
-- Zabih 2001, section 4)
pub record StandsFor (m : Instance) (move : Move) (f : ℕ → ℕ) (choice : ℕ → Choice) (q : Quadratic)
    (variable : ℕ → ℕ) : Type 0 where
  pub rest : ℤ
  pub site : ℕ → ℕ
  pub value : (x : ℕ → Bool)
      → quadratic_value q x +ℤ rest ≡ pos (plain_energy m (made_by move f choice variable x))
  pub covers : (p : ℕ) → p < m.sites → choice p ≡ Open → (variable p < vec_len q.weights)
      × (site (variable p) ≡ p)
