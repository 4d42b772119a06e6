-- Variables that an energy is least over: their rows and their values.
use Rattle.std.proofs.Common.{◌≡◌, ℕ, ◌+◌, ◌*◌, ◌<◌, Bool, true, false, not, ◌||◌, ◌&&◌, ◌⊎◌, subst, List, length, map, ℤ, pos, ◌+ℤ◌, ◌≤ℤ◌, arith, ap, ◌∙◌, sym, [], ◌∷◌, ◌++◌, refl, append-nil, append_assoc, inl, inr}
use Rattle.std.specs.List.{All, list_all, list_any}
use Rattle.std.proofs.lemmas.Int.{ints}
use Rattle.std.proofs.lemmas.Bool.Decides.{nat_tests}
use Rattle.std.proofs.lemmas.List.{length-map, length-append, map-append}
use Rattle.std.proofs.lemmas.List.Elements.{All-head, All-tail, All-nil, All-cons, All-push, All-weaker, All-append}
use Rattle.sums.specs.IntegerSums.{int_sum_by, int_counted}
use Rattle.sums.proofs.IntegerSumLemmas.{int_sum_by-append}
use Rattle.pseudo_bool.specs.declared.term.Term.{Term}
use Rattle.pseudo_bool.specs.declared.term.Term.TheVariants.{One, Two, Three}
use Rattle.pseudo_bool.specs.declared.row.Row.{Row}
use Rattle.pseudo_bool.specs.declared.row.Triple.{Triple}
use Rattle.pseudo_bool.specs.Energies.{Energy, IsTerm, IsValue, IsEnergy, term_value, value_at, entry, digit}
use Rattle.pseudo_bool.specs.Rows.{term_of, terms_of, IsKept, AreKept, AddsRows}
use Rattle.pseudo_bool.specs.Hidden.{with_bit, IsLeastOver, tied_terms, unless_all_terms, if_any_terms, with_terms, IsTieable}
use Rattle.pseudo_bool.proofs.RowLemmas.{plain_row, kept_more}

-- ---- rows that are added

pub adds_none : (rows : List Row) → AddsRows rows rows []
adds_none rows = record { more = []; rows = sym (append-nil rows); are = refl; kept = All-nil (IsKept 0) }

pub adds_row : (old new : List Row) (terms : List Term) (row : Row) (t : Term) → AddsRows old new terms → term_of [] row ≡ t → IsKept 0 row
    → AddsRows old (new ++ row ∷ []) (terms ++ t ∷ [])
adds_row old new terms row t so_far is kept = record {
  more = so_far.more ++ row ∷ [];
  rows = ap (λ rows. rows ++ row ∷ []) so_far.rows ∙ append_assoc old so_far.more (row ∷ []);
  are = map-append (term_of []) so_far.more (row ∷ []) ∙ ap (λ ts. ts ++ term_of [] row ∷ []) so_far.are ∙ ap (λ u. terms ++ u ∷ []) is;
  kept = All-push (IsKept 0) so_far.more row so_far.kept kept;
}

pub adds_both : (old mid new : List Row) (first second : List Term) → AddsRows old mid first → AddsRows mid new second → AddsRows old new (first ++ second)
adds_both old mid new first second one two = record {
  more = one.more ++ two.more;
  rows = two.rows ∙ ap (λ rows. rows ++ two.more) one.rows ∙ append_assoc old one.more two.more;
  are = map-append (term_of []) one.more two.more ∙ ap (λ ts. ts ++ terms_of [] two.more) one.are ∙ ap (λ ts. first ++ ts) two.are;
  kept = All-append (IsKept 0) one.more two.more one.kept two.kept;
}

plain_rows : (ts : List Triple) (rows : List Row) → All (IsKept 0) rows → terms_of ts rows ≡ terms_of [] rows
plain_rows ts [] h = refl
plain_rows ts (row ∷ rows) h =
    ap (λ u. u ∷ terms_of ts rows) (plain_row ts row (All-head (IsKept 0) row rows h)) ∙ ap (λ us. term_of [] row ∷ us) (plain_rows ts rows (All-tail (IsKept 0) row rows h))

pub terms_added : (ts : List Triple) (old new : List Row) (terms : List Term) → AddsRows old new terms → terms_of ts new ≡ terms_of ts old ++ terms
terms_added ts old new terms adds =
    ap (terms_of ts) adds.rows ∙ map-append (term_of ts) old adds.more ∙ ap (λ us. terms_of ts old ++ us) (plain_rows ts adds.more adds.kept ∙ adds.are)

pub rows_kept : (ts : List Triple) (old new : List Row) (terms : List Term) → AddsRows old new terms → AreKept ts old → AreKept ts new
rows_kept ts old new terms adds h = rw adds.rows (record {
  each = All-append (IsKept (length ts)) old adds.more h.each
      (All-weaker (IsKept 0) (IsKept (length ts)) (λ row k. kept_more 0 (length ts) row (omega arith) k) adds.more adds.kept);
  count = omega (arith, length-append old adds.more, h.count);
})

-- ---- an energy with a variable more, and terms of it

more_variables : (n : ℕ) (t : Term) → IsTerm n t → IsTerm (n + 1) t
more_variables n (One first table) h = (omega (arith, h.0), h.1)
more_variables n (Two first second table) h = (omega (arith, h.0), omega (arith, h.1), h.2, h.3)
more_variables n (Three first second third table) h = (omega (arith, h.0), omega (arith, h.1), omega (arith, h.2), h.3, h.4, h.5, h.6)

beside_terms : (n : ℕ) (names : List ℕ) (beside : List ℤ) → All (λ name. name < n) names → All IsValue beside → All (IsTerm (n + 1)) (map (λ name. Two name n beside) names)
beside_terms n [] beside below values = All-nil (IsTerm (n + 1))
beside_terms n (name ∷ names) beside below values =
    let here : name < n = All-head (λ v. v < n) name names below in
    All-cons (IsTerm (n + 1)) (Two name n beside) (map (λ v. Two v n beside) names)
    (omega (arith, here), omega arith, (λ same. absurd (omega (arith, here, same))), values)
    (beside_terms n names beside (All-tail (λ v. v < n) name names below) values)

tied_count : (names : List ℕ) (y : ℕ) (alone beside : List ℤ) → length (tied_terms names y alone beside) ≡ 1 + length names
tied_count names y alone beside = omega (arith, length-map names (λ name. Two name y beside))

pub tied_energy : (e : Energy) (names : List ℕ) (cost : ℤ) (alone beside : List ℤ) → IsEnergy e → IsTieable e names cost → All IsValue alone → All IsValue beside
    → IsEnergy (with_terms e (tied_terms names e.variables alone beside))
tied_energy e names cost alone beside is tie one two = record {
  constant = is.constant;
  variables = omega (arith, tie.variables.0);
  count = omega (arith, length-append e.terms (tied_terms names e.variables alone beside), tied_count names e.variables alone beside, tie.room);
  terms = All-append (IsTerm (e.variables + 1)) e.terms (tied_terms names e.variables alone beside)
      (All-weaker (IsTerm e.variables) (IsTerm (e.variables + 1)) (more_variables e.variables) e.terms is.terms)
      (All-cons (IsTerm (e.variables + 1)) (One e.variables alone) (map (λ name. Two name e.variables beside) names) (omega arith, one)
      (beside_terms e.variables names beside tie.variables.1 two));
}

-- ---- its values

pub bit_same : (x : ℕ → Bool) (y : ℕ) (b : Bool) → with_bit x y b y ≡ b
bit_same x y b = grind (arith, nat_tests)

pub bit_other : (x : ℕ → Bool) (y i : ℕ) (b : Bool) → i < y → with_bit x y b i ≡ x i
bit_other x y i b l = grind (arith, nat_tests)

-- a term depends on its variables alone
term_same : (n : ℕ) (x z : ℕ → Bool) (t : Term) → IsTerm n t → ((i : ℕ) → i < n → x i ≡ z i) → term_value x t ≡ term_value z t
term_same n x z (One first table) is same = ap (λ b. entry table (digit b)) (same first is.0)
term_same n x z (Two first second table) is same =
    ap (λ b. entry table (2 * digit b + digit (x second))) (same first is.0) ∙ ap (λ b. entry table (2 * digit (z first) + digit b)) (same second is.1)
term_same n x z (Three first second third table) is same =
    ap (λ b. entry table (4 * digit b + 2 * digit (x second) + digit (x third))) (same first is.0)
    ∙ ap (λ b. entry table (4 * digit (z first) + 2 * digit b + digit (x third))) (same second is.1)
    ∙ ap (λ b. entry table (4 * digit (z first) + 2 * digit (z second) + digit b)) (same third is.2)

terms_same : (n : ℕ) (x z : ℕ → Bool) (ts : List Term) → All (IsTerm n) ts → ((i : ℕ) → i < n → x i ≡ z i) → int_sum_by (term_value x) ts ≡ int_sum_by (term_value z) ts
terms_same n x z [] all same = refl
terms_same n x z (t ∷ ts) all same =
    ap (λ v. v +ℤ int_sum_by (term_value x) ts) (term_same n x z t (All-head (IsTerm n) t ts all) same)
    ∙ ap (λ v. term_value z t +ℤ v) (terms_same n x z ts (All-tail (IsTerm n) t ts all) same)

-- the terms of two variables, the second being at this value
beside_value : (x z : ℕ → Bool) (y : ℕ) (b : Bool) (beside : List ℤ) (names : List ℕ) → All (λ name. name < y) names → ((i : ℕ) → i < y → z i ≡ x i) → z y ≡ b
    → int_sum_by (term_value z) (map (λ name. Two name y beside) names) ≡ int_sum_by (λ name. entry beside (2 * digit (x name) + digit b)) names
beside_value x z y b beside [] below same is = refl
beside_value x z y b beside (name ∷ names) below same is =
    ap (λ v. entry beside (2 * digit v + digit (z y)) +ℤ int_sum_by (term_value z) (map (λ n. Two n y beside) names)) (same name (All-head (λ v. v < y) name names below))
    ∙ ap (λ v. entry beside (2 * digit (x name) + digit v) +ℤ int_sum_by (term_value z) (map (λ n. Two n y beside) names)) is
    ∙ ap (λ v. entry beside (2 * digit (x name) + digit b) +ℤ v) (beside_value x z y b beside names (All-tail (λ v. v < y) name names below) same is)

adds_up : (c a b o p q s : ℤ) → a ≡ o → s ≡ a +ℤ (p +ℤ q) → (c +ℤ s) ≡ (c +ℤ o) +ℤ (p +ℤ q)
adds_up c a b o p q s h k = omega (arith, ints, h, k)

pub tied_value : (e : Energy) (names : List ℕ) (alone beside : List ℤ) (x : ℕ → Bool) (b : Bool) → IsEnergy e → All (λ name. name < e.variables) names
    → value_at (with_terms e (tied_terms names e.variables alone beside)) (with_bit x e.variables b)
    ≡ value_at e x +ℤ (entry alone (digit b) +ℤ int_sum_by (λ name. entry beside (2 * digit (x name) + digit b)) names)
tied_value e names alone beside x b is below =
    let y = e.variables in
    let z = with_bit x y b in
    let old = terms_same y z x e.terms is.terms (λ i l. bit_other x y i b l) in
    let own : z y ≡ b = bit_same x y b in
    let one : entry alone (digit (z y)) ≡ entry alone (digit b) = ap (λ (v : Bool). entry alone (digit v)) own in
    let two = beside_value x z y b beside names below (λ i l. bit_other x y i b l) own in
    adds_up e.constant (int_sum_by (term_value z) e.terms) (pos 0) (int_sum_by (term_value x) e.terms) (entry alone (digit b)) (int_sum_by (λ name. entry beside (2 * digit (x name) + digit b)) names)
    (int_sum_by (term_value z) (e.terms ++ tied_terms names y alone beside)) old
    (int_sum_by-append (term_value z) e.terms (tied_terms names y alone beside)
    ∙ ap (λ v. int_sum_by (term_value z) e.terms +ℤ (v +ℤ int_sum_by (term_value z) (map (λ name. Two name y beside) names))) one
    ∙ ap (λ v. int_sum_by (term_value z) e.terms +ℤ (entry alone (digit b) +ℤ v)) two)

-- ---- the cost is paid once

not_negative : (cost : ℤ) (b : Bool) → pos 0 ≤ℤ cost → pos 0 ≤ℤ int_counted b cost
not_negative cost true h = h
not_negative cost false h = omega (arith, ints)

sum_as : (f g : ℕ → ℤ) (names : List ℕ) → ((v : ℕ) → f v ≡ g v) → int_sum_by f names ≡ int_sum_by g names
sum_as f g names same = λ j. int_sum_by (λ v. same v j) names

sum_zero : (names : List ℕ) → int_sum_by (λ (v : ℕ). pos 0) names ≡ pos 0
sum_zero [] = refl
sum_zero (v ∷ vs) = omega (arith, ints, sum_zero vs)

-- a cost for each name that passes a test: at least the cost where one does, and nothing where none
-- does
abbrev paid : (ℕ → Bool) → List ℕ → ℤ → ℤ
paid t names cost = int_sum_by (λ name. int_counted (t name) cost) names

paid_by : (b a : Bool) (cost s : ℤ) → pos 0 ≤ℤ cost → int_counted a cost ≤ℤ s → int_counted (b || a) cost ≤ℤ (int_counted b cost +ℤ s)
paid_by true a cost s h k = omega (arith, ints, k, not_negative cost a h)
paid_by false a cost s h k = omega (arith, ints, k)

paid_once : (t : ℕ → Bool) (names : List ℕ) (cost : ℤ) → pos 0 ≤ℤ cost → int_counted (list_any t names) cost ≤ℤ paid t names cost
paid_once t [] cost h = omega (arith, ints)
paid_once t (v ∷ vs) cost h = paid_by (t v) (list_any t vs) cost (paid t vs cost) h (paid_once t vs cost h)

none_of : (a b : Bool) → (a || b) ≡ false → (a ≡ false) × (b ≡ false)
none_of true b h = absurd (cc (h))
none_of false b h = (refl, h)

paid_never : (t : ℕ → Bool) (names : List ℕ) (cost : ℤ) → list_any t names ≡ false → paid t names cost ≡ pos 0
paid_never t [] cost h = refl
paid_never t (v ∷ vs) cost h =
    let parts = none_of (t v) (list_any t vs) h in
    let one : int_counted (t v) cost ≡ pos 0 = ap (λ (b : Bool). int_counted b cost) parts.0 in
    omega (arith, ints, one, paid_never t vs cost parts.1)

not_both : (a b : Bool) → (not a || not b) ≡ not (a && b)
not_both true b = refl
not_both false b = refl

any_not : (x : ℕ → Bool) (names : List ℕ) → list_any (λ v. not (x v)) names ≡ not (list_all x names)
any_not x [] = refl
any_not x (v ∷ vs) = ap (λ b. not (x v) || b) (any_not x vs) ∙ not_both (x v) (list_all x vs)

-- at one value of the variable the cost is paid, at the other nothing or at least the cost
pick : (e : Energy) (y : ℕ) (x : ℕ → Bool) (old cost s : ℤ) (some : Bool) (pays saves : Bool) → ((b : Bool) → (b ≡ pays) ⊎ (b ≡ saves))
    → value_at e (with_bit x y pays) ≡ old +ℤ cost → value_at e (with_bit x y saves) ≡ old +ℤ s
    → pos 0 ≤ℤ cost → int_counted some cost ≤ℤ s → (some ≡ false → s ≡ pos 0) → IsLeastOver e y x (old +ℤ int_counted some cost)
pick e y x old cost s true pays saves either at_pays at_saves cost_is once never = record {
  bit = pays;
  reached = at_pays;
  lowest = λ other. elim (either other) [
    | inl is ↦ (let here = ap (λ (b : Bool). value_at e (with_bit x y b)) is in omega (arith, ints, here, at_pays))
    | inr is ↦ (let here = ap (λ (b : Bool). value_at e (with_bit x y b)) is in omega (arith, ints, here, at_saves, once))
  ];
}
pick e y x old cost s false pays saves either at_pays at_saves cost_is once never =
    let none = never refl in
    record {
      bit = saves;
      reached = omega (arith, ints, at_saves, none);
      lowest = λ other. elim (either other) [
        | inl is ↦ (let here = ap (λ (b : Bool). value_at e (with_bit x y b)) is in omega (arith, ints, here, at_pays, cost_is))
        | inr is ↦ (let here = ap (λ (b : Bool). value_at e (with_bit x y b)) is in omega (arith, ints, here, at_saves, none))
      ];
    }

false_or_true : (b : Bool) → (b ≡ false) ⊎ (b ≡ true)
false_or_true true = inr refl
false_or_true false = inl refl

true_or_false : (b : Bool) → (b ≡ true) ⊎ (b ≡ false)
true_or_false true = inl refl
true_or_false false = inr refl

pays_alone : (v old cost s : ℤ) → v ≡ old +ℤ (cost +ℤ s) → s ≡ pos 0 → v ≡ old +ℤ cost
pays_alone v old cost s h k = omega (arith, ints, h, k)

pays_beside : (v old s t : ℤ) → v ≡ old +ℤ (pos 0 +ℤ s) → s ≡ t → v ≡ old +ℤ t
pays_beside v old s t h k = omega (arith, ints, h, k)

unless_false : (cost : ℤ) (b : Bool) → entry (pos 0 ∷ cost ∷ pos 0 ∷ pos 0 ∷ []) (2 * digit b + digit false) ≡ pos 0
unless_false cost true = refl
unless_false cost false = refl

unless_true : (cost : ℤ) (b : Bool) → entry (pos 0 ∷ cost ∷ pos 0 ∷ pos 0 ∷ []) (2 * digit b + digit true) ≡ int_counted (not b) cost
unless_true cost true = refl
unless_true cost false = refl

any_false : (cost : ℤ) (b : Bool) → entry (pos 0 ∷ pos 0 ∷ cost ∷ pos 0 ∷ []) (2 * digit b + digit false) ≡ int_counted b cost
any_false cost true = refl
any_false cost false = refl

any_true : (cost : ℤ) (b : Bool) → entry (pos 0 ∷ pos 0 ∷ cost ∷ pos 0 ∷ []) (2 * digit b + digit true) ≡ pos 0
any_true cost true = refl
any_true cost false = refl

pub unless_least : (e : Energy) (names : List ℕ) (cost : ℤ) (x : ℕ → Bool) → IsEnergy e → IsTieable e names cost
    → IsLeastOver (with_terms e (unless_all_terms names e.variables cost)) e.variables x (value_at e x +ℤ int_counted (not (list_all x names)) cost)
unless_least e names cost x is tie =
    let alone = cost ∷ pos 0 ∷ [] in
    let beside = pos 0 ∷ cost ∷ pos 0 ∷ pos 0 ∷ [] in
    let off = tied_value e names alone beside x false is tie.variables.1 in
    let on = tied_value e names alone beside x true is tie.variables.1 in
    let none = sum_as (λ v. entry beside (2 * digit (x v) + digit false)) (λ v. pos 0) names (λ v. unless_false cost (x v)) ∙ sum_zero names in
    let some = sum_as (λ v. entry beside (2 * digit (x v) + digit true)) (λ v. int_counted (not (x v)) cost) names (λ v. unless_true cost (x v)) in
    let s = paid (λ v. not (x v)) names cost in
    let F = λ (b : Bool). int_counted b cost ≤ℤ s in
    let new = with_terms e (unless_all_terms names e.variables cost) in
    pick new e.variables x (value_at e x) cost s (not (list_all x names)) false true false_or_true
    (pays_alone (value_at new (with_bit x e.variables false)) (value_at e x) cost (int_sum_by (λ v. entry beside (2 * digit (x v) + digit false)) names) off none)
    (pays_beside (value_at new (with_bit x e.variables true)) (value_at e x) (int_sum_by (λ v. entry beside (2 * digit (x v) + digit true)) names) s on some) tie.cost_is.0
    (subst F (any_not x names) (paid_once (λ v. not (x v)) names cost tie.cost_is.0))
    (λ all. paid_never (λ v. not (x v)) names cost (any_not x names ∙ all))

pub any_least : (e : Energy) (names : List ℕ) (cost : ℤ) (x : ℕ → Bool) → IsEnergy e → IsTieable e names cost
    → IsLeastOver (with_terms e (if_any_terms names e.variables cost)) e.variables x (value_at e x +ℤ int_counted (list_any x names) cost)
any_least e names cost x is tie =
    let alone = pos 0 ∷ cost ∷ [] in
    let beside = pos 0 ∷ pos 0 ∷ cost ∷ pos 0 ∷ [] in
    let off = tied_value e names alone beside x false is tie.variables.1 in
    let on = tied_value e names alone beside x true is tie.variables.1 in
    let some = sum_as (λ v. entry beside (2 * digit (x v) + digit false)) (λ v. int_counted (x v) cost) names (λ v. any_false cost (x v)) in
    let none = sum_as (λ v. entry beside (2 * digit (x v) + digit true)) (λ v. pos 0) names (λ v. any_true cost (x v)) ∙ sum_zero names in
    let new = with_terms e (if_any_terms names e.variables cost) in
    pick new e.variables x (value_at e x) cost (paid x names cost) (list_any x names) true false true_or_false
    (pays_alone (value_at new (with_bit x e.variables true)) (value_at e x) cost (int_sum_by (λ v. entry beside (2 * digit (x v) + digit true)) names) on none)
    (pays_beside (value_at new (with_bit x e.variables false)) (value_at e x) (int_sum_by (λ v. entry beside (2 * digit (x v) + digit false)) names) (paid x names cost) off some) tie.cost_is.0
    (paid_once x names cost tie.cost_is.0) (paid_never x names cost)
