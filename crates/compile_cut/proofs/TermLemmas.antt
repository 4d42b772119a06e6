-- The terms so far, added up.
use Rattle.std.proofs.Common.{◌≡◌, ℕ, ◌+◌, ◌*◌, ◌<◌, ◌≤◌, Bool, true, false, List, [], ◌∷◌, length, take, replicate, pos, ◌+ℤ◌, unsigned_abs, sum_by, ℤ, All, slice_get, Some, vec_len, refl, ◌∙◌, ap, subst, arith, Result, Ok, Err, OnOk}
use Rattle.std.proofs.lemmas.Int.{ints}
use Rattle.std.proofs.lemmas.List.{take_all, get_or-replicate, length-replicate, length-take}
use Rattle.std.proofs.lemmas.List.Elements.{All-head, All-tail, All-get_or, All-nil}
use Rattle.std.proofs.lemmas.List.Sums.{sum_by_more, sum_by-le}
use Rattle.std.proofs.lemmas.List.Folds.{sum_by-replicate}
use Rattle.std.proofs.lemmas.Option.{get_or_from_slice_get}
use Rattle.sums.specs.IntegerSums.{int_sum_by, int_counted}
use Rattle.sums.proofs.IntegerSumLemmas.{int_sum_by_more, int_sum_below-same, int_sum_below-zero}
use Rattle.pseudo_bool.specs.declared.term.Term.{Term}
use Rattle.pseudo_bool.specs.declared.term.Term.TheVariants.{One, Two, Three}
use Rattle.pseudo_bool.specs.Energies.{Energy, IsTerm, IsEnergy, digit, entry, term_value}
use Rattle.flow_network.specs.declared.arc.Arc.{Arc}
use Rattle.flow_network.specs.Cut.{IsArc}
use Rattle.compile_cut.specs.declared.quadratic.Quadratic.{Quadratic}
use Rattle.compile_cut.specs.Shown.{Shows, three_digit, three_count}
use Rattle.compile_cut.specs.Weights.{weights_value, weights_size, arcs_value, IsAbove}
use Rattle.compile_cut.specs.Quadratics.{quadratic_value, IsQuadraticBounded, IsConstant, AddsTerm, SaysValues}

-- ---- assignments that agree on the variables have one value

pub term_value-same : (n : ℕ) (t : Term) (x y : ℕ → Bool) → IsTerm n t → Shows n x y → term_value y t ≡ term_value x t
term_value-same n (One first table) x y h s = ap (λ b. entry table (digit b)) (s first h.0)
term_value-same n (Two first second table) x y h s =
    ap (λ b. entry table (2 * digit b + digit (y second))) (s first h.0)
    ∙ ap (λ b. entry table (2 * digit (x first) + digit b)) (s second h.1)
term_value-same n (Three first second third table) x y h s =
    ap (λ b. entry table (4 * digit b + 2 * digit (y second) + digit (y third))) (s first h.0)
    ∙ ap (λ b. entry table (4 * digit (x first) + 2 * digit b + digit (y third))) (s second h.1)
    ∙ ap (λ b. entry table (4 * digit (x first) + 2 * digit (x second) + digit b)) (s third h.2)

pub terms_value-same : (n : ℕ) (ts : List Term) (x y : ℕ → Bool) → All (IsTerm n) ts → Shows n x y → int_sum_by (term_value y) ts ≡ int_sum_by (term_value x) ts
terms_value-same n [] x y h s = refl
terms_value-same n (t ∷ ts) x y h s =
    omega (arith, ints, term_value-same n t x y (All-head (IsTerm n) t ts h) s, terms_value-same n ts x y (All-tail (IsTerm n) t ts h) s)

-- ---- weaker facts

pub term-weaker : (n m : ℕ) (t : Term) → n ≤ m → IsTerm n t → IsTerm m t
term-weaker n m (One first table) l h = (omega (arith, h.0), h.1)
term-weaker n m (Two first second table) l h = (omega (arith, h.0), omega (arith, h.1), h.2, h.3)
term-weaker n m (Three first second third table) l h = (omega (arith, h.0), omega (arith, h.1), omega (arith, h.2), h.3, h.4, h.5, h.6)

pub bounded-weaker : (i k : ℕ) (q : Quadratic) → i ≤ k → IsQuadraticBounded i q → IsQuadraticBounded k q
bounded-weaker i k q l h =
    record { constant = omega (arith, h.constant); size = omega (arith, h.size); arcs = h.arcs; above = h.above }

-- a term at its place
pub term_at : (P : Term → Type 0) (ts : List Term) (i : ℕ) (t : Term) → i < length ts → slice_get ts i ≡ Some t → All P ts → P t
term_at P ts i t l is h = rw (get_or_from_slice_get ts i t t is) at (All-get_or P ts i t l h)

-- a form that grows by just what the term says
pub adds_exactly : (old new : Quadratic) (t : Term) → vec_len new.weights ≡ vec_len old.weights + three_digit t
    → ((k : ℕ) → IsQuadraticBounded k old → IsQuadraticBounded (k + 1) new)
    → ((x : ℕ → Bool) → quadratic_value new x ≡ quadratic_value old x +ℤ term_value x t) → AddsTerm old new t
adds_exactly old new t nodes bounded is =
    record { nodes = nodes; bounded = bounded; lower = λ x. omega (arith, ints, is x); reached = λ x. (x, (λ i l. refl), is x) }

pub adds_exactly_if : {T E : Type 0} (r : Result T E) (old new : Quadratic) (t : Term) → vec_len new.weights ≡ vec_len old.weights + three_digit t
    → OnOk r ((k : ℕ) → IsQuadraticBounded k old → IsQuadraticBounded (k + 1) new)
    → OnOk r ((x : ℕ → Bool) → quadratic_value new x ≡ quadratic_value old x +ℤ term_value x t) → OnOk r (AddsTerm old new t)
adds_exactly_if (Ok v) old new t nodes bounded is = adds_exactly old new t nodes bounded is
adds_exactly_if (Err e) old new t nodes bounded is = tt

-- ---- the loop over the terms

pub record HasAdded (e : Energy) (i : ℕ) (q : Quadratic) : Type 0 where
  pub values : SaysValues (record e { terms = take i e.terms }) q
  pub bounded : IsQuadraticBounded i q
  pub variables : e.variables ≤ vec_len q.weights
  pub hidden : vec_len q.weights ≤ e.variables + sum_by three_digit (take i e.terms)

pub more_terms : (e : Energy) (i : ℕ) (t : Term) (x : ℕ → Bool) → i < length e.terms → slice_get e.terms i ≡ Some t
    → int_sum_by (term_value x) (take (i + 1) e.terms) ≡ int_sum_by (term_value x) (take i e.terms) +ℤ term_value x t
more_terms e i t x l is =
    int_sum_by_more (term_value x) e.terms i t l ∙ ap (λ u. int_sum_by (term_value x) (take i e.terms) +ℤ term_value x u) (get_or_from_slice_get e.terms i t t is)

step_values : (e : Energy) (i : ℕ) (t : Term) (old new : Quadratic) → i < length e.terms → slice_get e.terms i ≡ Some t → IsTerm e.variables t
    → e.variables ≤ vec_len old.weights → SaysValues (record e { terms = take i e.terms }) old → AddsTerm old new t
    → SaysValues (record e { terms = take (i + 1) e.terms }) new
step_values e i t old new l is term within values adds =
    record {
      lower = λ x. omega (arith, ints, values.lower x, adds.lower x, more_terms e i t x l is);
      reached = λ x.
          let before = values.reached x in
          let after = adds.reached before.0 in
          let same = term_value-same e.variables t x before.0 term before.1 in
          (after.0, (λ v below. after.1 v (omega arith) ∙ before.1 v below), omega (arith, ints, after.2, before.2, same, more_terms e i t x l is));
    }

pub step : (e : Energy) (i : ℕ) (t : Term) (old new : Quadratic) → i < length e.terms → slice_get e.terms i ≡ Some t → IsTerm e.variables t
    → HasAdded e i old → AddsTerm old new t → HasAdded e (i + 1) new
step e i t old new l is term had adds =
    let len = adds.nodes in
    let more = sum_by_more three_digit e.terms i t l in
    let here = ap three_digit (get_or_from_slice_get e.terms i t t is) in
    record {
      values = step_values e i t old new l is term had.variables had.values adds;
      bounded = adds.bounded i had.bounded;
      variables = omega (arith, had.variables, len);
      hidden = omega (arith, had.hidden, len, more, here);
    }

-- ---- before the first term

int_counted-zero : (b : Bool) → int_counted b (pos 0) ≡ pos 0
int_counted-zero true = refl
int_counted-zero false = refl

no_weights : (n : ℕ) (x : ℕ → Bool) → weights_value (replicate n (pos 0)) x ≡ pos 0
no_weights n x =
    int_sum_below-same (length (replicate n (pos 0))) (λ i. int_counted (x i) (entry (replicate n (pos 0)) i)) (λ i. pos 0)
    (λ i l. ap (int_counted (x i)) (get_or-replicate n i (pos 0) (pos 0) (rw (length-replicate n (pos 0)) at l)) ∙ int_counted-zero (x i))
    ∙ int_sum_below-zero (length (replicate n (pos 0)))

no_size : (n : ℕ) → weights_size (replicate n (pos 0)) ≡ 0
no_size n = omega (arith, sum_by-replicate unsigned_abs n (pos 0))

-- a constant has its value at each set
pub constant_value : (k : ℤ) (n : ℕ) (q : Quadratic) → IsConstant k n q → (x : ℕ → Bool) → quadratic_value q x ≡ k
constant_value k n q is x =
    let weights = ap (λ ws. weights_value ws x) is.weights ∙ no_weights n x in
    let arcs = ap (λ (arcs : List Arc). arcs_value arcs x) is.arcs in
    omega (arith, ints, is.constant_is, weights, arcs)

-- and so many nodes
pub constant_nodes : (k : ℤ) (n : ℕ) (q : Quadratic) → IsConstant k n q → vec_len q.weights ≡ n
constant_nodes k n q is = q.weights.ok.0 ∙ ap length is.weights ∙ length-replicate n (pos 0)

pub constant_bounded : (k : ℤ) (n : ℕ) (q : Quadratic) → unsigned_abs k ≤ 1000000000000000 → IsConstant k n q → IsQuadraticBounded 0 q
constant_bounded k n q small is =
    record {
      constant = omega (arith, small, ap unsigned_abs is.constant_is);
      size = rw (is.weights, is.arcs) (omega (arith, no_size n));
      arcs = rw is.arcs (All-nil (IsArc (vec_len q.weights)));
      above = rw is.arcs (All-nil IsAbove);
    }

pub start : (e : Energy) (q : Quadratic) → IsEnergy e → IsConstant e.constant e.variables q → HasAdded e 0 q
start e q limits is =
    let value = constant_value e.constant e.variables q is in
    let len = constant_nodes e.constant e.variables q is in
    record {
      values = record {
        lower = λ x. omega (arith, ints, value x);
        reached = λ x. (x, (λ i l. refl), value x ∙ (omega (arith, ints)));
      };
      bounded = constant_bounded e.constant e.variables q limits.constant is;
      variables = omega (arith, len);
      hidden = omega (arith, len);
    }

-- after the last term
pub whole_values : (e : Energy) (i : ℕ) (q : Quadratic) → length e.terms ≤ i → SaysValues (record e { terms = take i e.terms }) q → SaysValues e q
whole_values e i q l says =
    let P : List Term → Type 0 = λ ts. SaysValues (record e { terms = ts }) q in
    subst P (take_all i e.terms l) says

three_digit-le : (t : Term) → three_digit t ≤ 1
three_digit-le (One first table) = omega arith
three_digit-le (Two first second table) = omega arith
three_digit-le (Three first second third table) = omega arith

pub three_count-le : (e : Energy) → three_count e ≤ length e.terms
three_count-le e = omega (arith, sum_by-le three_digit 1 e.terms (λ k d l. three_digit-le _))

pub three_taken-le : (i : ℕ) (ts : List Term) → sum_by three_digit (take i ts) ≤ i
three_taken-le i ts =
    omega (arith, sum_by-le three_digit 1 (take i ts) (λ k d l. three_digit-le _), length-take i ts)
