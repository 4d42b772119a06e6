use Rattle.std.specs.Prelude.{◌≡◌, ℕ, ◌+◌, ◌*◌, ◌<◌, ◌≤◌, Bool, [], All, replicate, ℤ, pos, ◌+ℤ◌}
use Rattle.std.specs.Prelude.{◌≤ℤ◌}
use Rattle.std.specs.Prelude.{unsigned_abs, vec_len}
use Rattle.pseudo_bool.specs.declared.term.Term.{Term}
use Rattle.pseudo_bool.specs.Energies.{Energy, term_value, value_at}
use Rattle.pseudo_bool.specs.Limits.{term_limit, value_limit, constant_limit}
use Rattle.flow_network.specs.Cut.{IsArc}
use Rattle.compile_cut.specs.declared.quadratic.Quadratic.{Quadratic}
use Rattle.compile_cut.specs.Limits.{term_size, form_nodes}
use Rattle.compile_cut.specs.Shown.{Shows, three_digit}
use Rattle.compile_cut.specs.Weights.{weights_value, weights_size, arcs_value, arcs_size, IsAbove}

-- the value at a set of nodes
abbrev pub quadratic_value : Quadratic → (ℕ → Bool) → ℤ
quadratic_value q x = q.constant +ℤ weights_value q.weights.items x
    +ℤ pos (arcs_value q.arcs.items x)

-- what is true after this many terms
pub record IsQuadraticBounded (terms : ℕ) (q : Quadratic) : Type 0 where
  pub constant : unsigned_abs q.constant ≤ constant_limit + value_limit * terms
  pub size : weights_size q.weights.items + arcs_size q.arcs.items ≤ term_size * terms
  pub arcs : All (IsArc (vec_len q.weights)) q.arcs.items
  pub above : All IsAbove q.arcs.items

-- a term fits it: it is within the bounds of as many terms as an energy has at most, and a hidden
-- node has room
pub record HasRoomForTerm (q : Quadratic) : Type 0 where
  pub bounded : IsQuadraticBounded term_limit q
  pub room : vec_len q.weights < form_nodes

-- with one term more it stays within the bounds of one term more
abbrev pub StaysBounded : Quadratic → Quadratic → Type 0
StaysBounded old new = (k : ℕ) → IsQuadraticBounded k old → IsQuadraticBounded (k + 1) new

-- a constant over so many nodes: no weight but 0, and no arc
pub record IsConstant (constant : ℤ) (nodes : ℕ) (q : Quadratic) : Type 0 where
  pub constant_is : q.constant ≡ constant
  pub weights : q.weights.items ≡ replicate nodes (pos 0)
  pub arcs : q.arcs.items ≡ []

-- of the sets that are the same on the old nodes, the least new value is the old one and the
-- term's: a term of three variables brings a node
pub record AddsTerm (old new : Quadratic) (term : Term) : Type 0 where
  pub nodes : vec_len new.weights ≡ vec_len old.weights + three_digit term
  pub bounded : StaysBounded old new
  pub lower : (x : ℕ → Bool) → (quadratic_value old x +ℤ term_value x term) ≤ℤ quadratic_value new x
  pub reached : (x : ℕ → Bool)
      → (y : ℕ → Bool) × Shows (vec_len old.weights) x y
      × (quadratic_value new y ≡ quadratic_value old x +ℤ term_value x term)

-- of the sets that are the same on the old nodes, the least new value is the old one and a cost
pub record AddsLeast (old new : Quadratic) (cost : (ℕ → Bool) → ℕ) : Type 0 where
  pub lower : (x : ℕ → Bool) → (quadratic_value old x +ℤ pos (cost x)) ≤ℤ quadratic_value new x
  pub reached : (x : ℕ → Bool)
      → (y : ℕ → Bool) × Shows (vec_len old.weights) x y
      × (quadratic_value new y ≡ quadratic_value old x +ℤ pos (cost x))

-- one node more, and at most as many terms more as come to that many times the cost
pub record IsTied (times cost : ℕ) (old new : Quadratic) : Type 0 where
  pub nodes : vec_len new.weights ≡ vec_len old.weights + 1
  pub bounded : (k terms : ℕ) → cost * times ≤ value_limit * terms → IsQuadraticBounded k old
      → IsQuadraticBounded (k + terms) new

-- of the sets that show an assignment, the least value is the energy's
pub record SaysValues (e : Energy) (q : Quadratic) : Type 0 where
  pub lower : (x : ℕ → Bool) → value_at e x ≤ℤ quadratic_value q x
  pub reached : (x : ℕ → Bool)
      → (y : ℕ → Bool) × Shows e.variables x y × (quadratic_value q y ≡ value_at e x)
