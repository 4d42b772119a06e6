-- What the pair of a site and a neighbour adds to the form of a strip.
use Rattle.std.proofs.Common.{◌≡◌, ◌≢◌, ℕ, ◌+◌, ◌-◌, ◌≤◌, Bool, true, false, refl, sym, ap, subst, ◌∙◌, arith}
use Rattle.std.specs.Prelude.{◌&&◌, ◌||◌, ◌==◌, not}
use Rattle.std.proofs.lemmas.Bool.Decides.{nat_tests}
use Rattle.sums.specs.Sums.{count_if}
use Rattle.label_field.specs.declared.pair.Pair.{Pair}
use Rattle.compile_cut.specs.declared.quadratic.Quadratic.{Quadratic}
use Rattle.move_energy.specs.declared.by_site.Neighbours.{Neighbours}
use Rattle.move_energy.specs.declared.choice.Choice.{Choice}
use Rattle.move_energy.specs.BySite.{neighbours_start, degree, neighbour_at, is_first, weight_at, pair_from, pair_beside, is_counted, met_below, met_at}
use Rattle.move_energy.specs.Built.{AddsCost}
use Rattle.move_energy.specs.Choices.{is_open}
use Rattle.move_energy.specs.Weights.{are_open}
use Rattle.move_energy.proofs.Adding.{cost_none, met_adds}

-- ---- where the pair is met

same_site : (a b : ℕ) → a ≡ b → (a == b) ≡ true
same_site a b h = grind (arith, nat_tests, h)

other_site : (a b : ℕ) → a ≢ b → (a == b) ≡ false
other_site a b h = grind (arith, nat_tests, h)

met_first : (x y s z inside : Bool) → x ≡ true → s ≡ true → y ≡ inside → (inside && true) ≡ ((x && y) && (s || z))
met_first true y true z inside h k is = ap (λ (b : Bool). b && true) (sym is)
met_first false y s z inside h k is = absurd (cc (h))
met_first true y false z inside h k is = absurd (cc (k))

met_second : (x y s inside : Bool) → s ≡ false → (inside && false) ≡ ((y && x) && (s || not y))
met_second true true false true h = refl
met_second true true false false h = refl
met_second false true false true h = refl
met_second false true false false h = refl
met_second x false s true h = refl
met_second x false s false h = refl
met_second x true true inside h = absurd (cc (h))

met_from : (choice : ℕ → Choice) (first : Bool) (site head weight : ℕ) (inside : Bool) → is_open (choice site) ≡ true → is_open (choice head) ≡ inside
    → (pair_from first site head weight).first ≢ (pair_from first site head weight).second
    → (inside && first) ≡ (are_open choice (pair_from first site head weight) && is_counted (λ p. is_open (choice p)) site (pair_from first site head weight))
met_from choice true site head weight inside a b apart =
    met_first (is_open (choice site)) (is_open (choice head)) (site == site) (not (is_open (choice site))) inside a (same_site site site refl) b
met_from choice false site head weight inside a b apart =
    met_second (is_open (choice site)) (is_open (choice head)) (head == site) inside (other_site head site apart)

-- it is where the neighbour is inside and the site is its first end
pub met_by : (choice : ℕ → Choice) (ends : Neighbours) (site place head : ℕ) (inside : Bool) → head ≡ neighbour_at ends place → is_open (choice site) ≡ true → is_open (choice head) ≡ inside
    → (pair_beside ends site place).first ≢ (pair_beside ends site place).second
    → (inside && is_first ends site place) ≡ (are_open choice (pair_beside ends site place) && is_counted (λ p. is_open (choice p)) site (pair_beside ends site place))
met_by choice ends site place head inside at a b apart =
    met_from choice (is_first ends site place) site (neighbour_at ends place) (weight_at ends place) inside a (ap (λ (p : ℕ). is_open (choice p)) (sym at) ∙ b) apart

and_second : (x y w : Bool) → ((x && y) && w) ≡ true → y ≡ true
and_second true true w h = refl
and_second true false w h = absurd (cc (h))
and_second false y w h = absurd (cc (h))

never : (b : Bool) → (b && false) ≡ true → false ≡ true
never true h = h
never false h = h

ends_from : (choice : ℕ → Choice) (first : Bool) (site head weight : ℕ) → is_open (choice site) ≡ true
    → (pair_from first site head weight).first ≢ (pair_from first site head weight).second
    → (are_open choice (pair_from first site head weight) && is_counted (λ p. is_open (choice p)) site (pair_from first site head weight)) ≡ true
    → ((pair_from first site head weight).first ≡ site) × ((pair_from first site head weight).second ≡ head) × (is_open (choice head) ≡ true)
ends_from choice true site head weight a apart is =
    (refl, refl, and_second (is_open (choice site)) (is_open (choice head)) ((site == site) || not (is_open (choice site))) is)
ends_from choice false site head weight a apart is =
    absurd (let e = never (is_open (choice head)) (met_from choice false site head weight (is_open (choice head)) a refl apart ∙ is) in cc (e))

-- and then its ends are these, and the neighbour is open
pub met_ends : (choice : ℕ → Choice) (ends : Neighbours) (site place : ℕ) → is_open (choice site) ≡ true
    → (pair_beside ends site place).first ≢ (pair_beside ends site place).second
    → (are_open choice (pair_beside ends site place) && is_counted (λ p. is_open (choice p)) site (pair_beside ends site place)) ≡ true
    → ((pair_beside ends site place).first ≡ site) × ((pair_beside ends site place).second ≡ neighbour_at ends place) × (is_open (choice (neighbour_at ends place)) ≡ true)
met_ends choice ends site place a apart is = ends_from choice (is_first ends site place) site (neighbour_at ends place) (weight_at ends place) a apart is

both_first : (a b : Bool) → (a && b) ≡ true → a ≡ true
both_first true b h = refl
both_first false b h = absurd (cc (h))

both_second : (a b : Bool) → (a && b) ≡ true → b ≡ true
both_second true b h = h
both_second false b h = absurd (cc (h))

-- what is met is open at both ends, and counts
pub met_open : (a b : Bool) → (a && b) ≡ true → (a ≡ true) × (b ≡ true)
met_open a b h = (both_first a b h, both_second a b h)

-- ---- the row of a site, neighbour by neighbour

pub nothing_adds_yet : (ends : Neighbours) (chosen : ℕ → Bool) (value : (ℕ → Bool) → Pair → ℕ) (site place : ℕ) (q : Quadratic) → place ≡ neighbours_start ends site
    → AddsCost q q (λ x. met_below ends chosen (value x) site (place - neighbours_start ends site))
nothing_adds_yet ends chosen value site place q at =
    let P : ℕ → Type 0 = λ k. AddsCost q q (λ x. met_below ends chosen (value x) site k) in
    subst P (let e : 0 ≡ place - neighbours_start ends site = omega (arith, at) in e) (cost_none q (λ x. 0) (λ x. refl))

pub row_adds : (ends : Neighbours) (chosen : ℕ → Bool) (value : (ℕ → Bool) → Pair → ℕ) (site place : ℕ) (old now new : Quadratic) → neighbours_start ends site ≤ place
    → AddsCost old now (λ x. met_below ends chosen (value x) site (place - neighbours_start ends site))
    → AddsCost now new (λ x. count_if (is_counted chosen site (pair_beside ends site place)) (value x (pair_beside ends site place)))
    → AddsCost old new (λ x. met_below ends chosen (value x) site (place + 1 - neighbours_start ends site))
row_adds ends chosen value site place old now new from so_far adds =
    let k : ℕ = place - neighbours_start ends site in
    let here : neighbours_start ends site + k ≡ place = omega (arith, from) in
    let P : ℕ → Type 0 = λ n. AddsCost old new (λ x. met_below ends chosen (value x) site n) in
    subst P (let e : k + 1 ≡ place + 1 - neighbours_start ends site = omega (arith, from) in e)
    (met_adds ends chosen value site k (pair_beside ends site place) old now new (ap (λ j. pair_beside ends site j) (sym here)) so_far adds)

pub row_adds_all : (ends : Neighbours) (chosen : ℕ → Bool) (value : (ℕ → Bool) → Pair → ℕ) (site k : ℕ) (old new : Quadratic) → k ≡ degree ends site
    → AddsCost old new (λ x. met_below ends chosen (value x) site k) → AddsCost old new (λ x. met_at ends chosen (value x) site)
row_adds_all ends chosen value site k old new all adds =
    let P : ℕ → Type 0 = λ n. AddsCost old new (λ x. met_below ends chosen (value x) site n) in
    subst P all adds
