-- What the open sites and their pairs add to a form.
use Rattle.std.proofs.Common.{◌≡◌, ℕ, ◌+◌, ◌<◌, ◌≤◌, Bool, true, false, Result, Ok, Err, OnOk, List, length, take, get_or, sum_by, ◌+ℤ◌, sym, ap, ◌∙◌, add-one, arith}
use Rattle.std.proofs.lemmas.Int.{ints}
use Rattle.std.proofs.lemmas.List.Sums.{sum_by_more}
use Rattle.std.proofs.lemmas.List.{take_all}
use Rattle.sums.specs.Sums.{count_if}
use Rattle.move_energy.specs.declared.by_site.Neighbours.{Neighbours}
use Rattle.label_field.specs.declared.pair.Pair.{Pair}
use Rattle.move_energy.specs.BySite.{pair_of, is_counted, met_below}
use Rattle.compile_cut.specs.declared.quadratic.Quadratic.{Quadratic}
use Rattle.move_energy.specs.Built.{AddsCost}
use Rattle.move_energy.proofs.Values.{adds_same, adds_nothing}

-- ---- costs that are added one after another

pub cost_none : (q : Quadratic) (cost : (ℕ → Bool) → ℕ) → ((x : ℕ → Bool) → cost x ≡ 0) → AddsCost q q cost
cost_none q cost none = adds_nothing q cost 0 none

pub cost_more : (a b c : Quadratic) (first second both : (ℕ → Bool) → ℕ) → AddsCost a b first → AddsCost b c second
    → ((x : ℕ → Bool) → both x ≡ first x + second x) → AddsCost a c both
cost_more a b c first second both one two sum = record {
  rest = one.rest +ℤ two.rest;
  value = λ x. omega (arith, ints, one.value x, two.value x, sum x);
}

pub counted_adds : (old new : Quadratic) (cost : (ℕ → Bool) → ℕ) (b : Bool) → b ≡ true → AddsCost old new cost → AddsCost old new (λ x. count_if b (cost x))
counted_adds old new cost true is adds = adds
counted_adds old new cost false is adds = absurd (cc is)

-- ---- the listed sites

pub site_more : (old now new : Quadratic) (value : (ℕ → Bool) → ℕ → ℕ) (opened : List ℕ) (i : ℕ) → i < length opened
    → AddsCost old now (λ x. sum_by (value x) (take i opened)) → AddsCost now new (λ x. value x (get_or opened i 0))
    → AddsCost old new (λ x. sum_by (value x) (take (i + 1) opened))
site_more old now new value opened i l so_far adds =
    cost_more old now new (λ x. sum_by (value x) (take i opened)) (λ x. value x (get_or opened i 0)) (λ x. sum_by (value x) (take (i + 1) opened)) so_far adds
    (λ x. sum_by_more (value x) opened i 0 l)

pub site_all : (old new : Quadratic) (value : (ℕ → Bool) → ℕ → ℕ) (opened : List ℕ) (i : ℕ) → length opened ≤ i
    → AddsCost old new (λ x. sum_by (value x) (take i opened)) → AddsCost old new (λ x. sum_by (value x) opened)
site_all old new value opened i l adds =
    adds_same old new (λ x. sum_by (value x) (take i opened)) (λ x. sum_by (value x) opened) (λ x. ap (λ (xs : List ℕ). sum_by (value x) xs) (take_all i opened l)) adds

-- ---- the pairs of a site

met_next : (ends : Neighbours) (chosen : ℕ → Bool) (value : Pair → ℕ) (site k : ℕ)
    → met_below ends chosen value site (k + 1)
    ≡ met_below ends chosen value site k + count_if (is_counted chosen site (pair_of ends site k)) (value (pair_of ends site k))
met_next ends chosen value site k =
    ap (λ n. met_below ends chosen value site n) (add-one k)

pub met_adds : (ends : Neighbours) (chosen : ℕ → Bool) (value : (ℕ → Bool) → Pair → ℕ) (site k : ℕ) (pair : Pair) (old now new : Quadratic) → pair ≡ pair_of ends site k
    → AddsCost old now (λ x. met_below ends chosen (value x) site k) → AddsCost now new (λ x. count_if (is_counted chosen site pair) (value x pair))
    → AddsCost old new (λ x. met_below ends chosen (value x) site (k + 1))
met_adds ends chosen value site k pair old now new is so_far adds =
    cost_more old now new (λ x. met_below ends chosen (value x) site k) (λ x. count_if (is_counted chosen site pair) (value x pair))
    (λ x. met_below ends chosen (value x) site (k + 1)) so_far adds
    (λ x. met_next ends chosen (value x) site k
    ∙ ap (λ p. met_below ends chosen (value x) site k + count_if (is_counted chosen site p) (value x p)) (sym is))

-- ---- results

pub on_ok_both : {T E : Type 0} (r : Result T E) (P Q R : Type 0) → (P → Q → R) → OnOk r P → OnOk r Q → OnOk r R
on_ok_both (Ok v) P Q R f p q = f p q
on_ok_both (Err e) P Q R f p q = tt
