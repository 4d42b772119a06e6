-- Forms that stand for a partly decided move.
use Rattle.std.proofs.Common.{◌≡◌, ◌≢◌, ◌+◌, zero, suc, eqb, List, inl, inr, ◌<◌, ◌&&◌, ℕ, Bool, true, false, cond, ℤ, pos, ◌+ℤ◌, ◌≤ℤ◌, vec_len, refl, sym, ap, ◌∙◌, arith, subst}
use Rattle.std.proofs.lemmas.Int.{ints}
use Rattle.std.proofs.lemmas.Bool.{cases_eq, cases_Bool}
use Rattle.sums.specs.Sums.{sum_below, count_if}
use Rattle.sums.specs.IntegerSums.{int_sum_below, int_counted}
use Rattle.sums.proofs.SumLemmas.{sum_below-same, sum_below-swap, sum_below-counted, sum_below-pick, sum_below-none, counted-same, counted-other}
use Rattle.pseudo_bool.specs.Energies.{entry}
use Rattle.compile_cut.specs.Weights.{weights_value, arcs_value}
use Rattle.label_energies.specs.declared.change.Move.{Move}
use Rattle.label_energies.specs.Energies.{Instance, IsInstance}
use Rattle.label_energies.specs.Moves.{label_after, labelling_made, IsAllowed}
use Rattle.label_energies.proofs.Energy.{plain-same}
use Rattle.compile_cut.specs.declared.quadratic.Quadratic.{Quadratic}
use Rattle.compile_cut.specs.Quadratics.{quadratic_value}
use Rattle.move_energy.specs.declared.choice.Choice.{Choice}
use Rattle.move_energy.specs.declared.choice.Choice.TheVariants.{Open, Zero, One}
use Rattle.move_energy.specs.Choices.{bit_of, is_open, made_by, StandsFor}
use Rattle.site_bounds.specs.Decisions.{IsSmallestLeast}
use Rattle.move_energy.specs.MoveValues.{move_value}
use Rattle.persistency.specs.Fixing.{with_choices, fixed_value, IsLeast}
use Rattle.persistency.specs.Agreeing.{or_else}
use Rattle.persistency.specs.Strips.{others_at, lower_value, upper_value}
use Rattle.persistency.specs.Borders.{is_inside, border_at, border_sum}
use Rattle.persistency.specs.Forms.{bits_by_site, IsOneToOne, IsReweighed}
use Rattle.persistency.proofs.Borders.{upper_is_lower}

same_bit : (c : Choice) (a b : Bool) → (c ≡ Open → a ≡ b) → bit_of c a ≡ bit_of c b
same_bit Open a b same = same refl
same_bit Zero a b same = refl
same_bit One a b same = refl

pub open_bit : (c : Choice) (b : Bool) → bit_of c (is_open c && b) ≡ bit_of c b
open_bit Open b = refl
open_bit Zero b = refl
open_bit One b = refl

open_one : (c : Choice) (b : Bool) → (is_open c && b) ≡ true → (c ≡ Open) × (b ≡ true)
open_one Open b one = (refl, one)
open_one Zero b one = absurd (cc (one))
open_one One b one = absurd (cc (one))

-- the form at the bits of the sites is what is left at these sites
site_value : (m : Instance) (move : Move) (f : ℕ → ℕ) (choice : ℕ → Choice) (q : Quadratic) (variable : ℕ → ℕ) (z : ℕ → Bool) → IsInstance m
    → (stands : StandsFor m move f choice q variable)
    → quadratic_value q (λ i. z (stands.site i)) +ℤ stands.rest ≡ fixed_value (move_value m move f) choice z
site_value m move f choice q variable z pairs stands =
    stands.value (λ i. z (stands.site i))
    ∙ ap pos (plain-same m (made_by move f choice variable (λ i. z (stands.site i))) (labelling_made move f (with_choices choice z)) pairs
    (λ p l. ap (label_after move (f p)) (same_bit (choice p) (z (stands.site (variable p))) (z p) (λ opened. ap z ((stands.covers p l opened).1)))))

-- and at any bits
bits_value : (m : Instance) (move : Move) (f : ℕ → ℕ) (choice : ℕ → Choice) (q : Quadratic) (variable : ℕ → ℕ) (y : ℕ → Bool) → IsInstance m
    → (stands : StandsFor m move f choice q variable)
    → quadratic_value q y +ℤ stands.rest ≡ fixed_value (move_value m move f) choice (bits_by_site choice variable y)
bits_value m move f choice q variable y pairs stands =
    stands.value y
    ∙ ap pos (plain-same m (made_by move f choice variable y) (labelling_made move f (with_choices choice (bits_by_site choice variable y))) pairs
    (λ p l. ap (label_after move (f p)) (sym (open_bit (choice p) (y (variable p))))))

least_by : (a b c d r : ℤ) → a +ℤ r ≡ c → b +ℤ r ≡ d → a ≤ℤ b → c ≤ℤ d
least_by a b c d r h k l = omega (arith, ints, h, k, l)

level_by : (a b c d r : ℤ) → a +ℤ r ≡ c → b +ℤ r ≡ d → d ≡ c → b ≡ a
level_by a b c d r h k l = omega (arith, ints, h, k, l)

pub form_least : (m : Instance) (move : Move) (f : ℕ → ℕ) (choice : ℕ → Choice) (q : Quadratic) (variable : ℕ → ℕ) (y : ℕ → Bool) → IsInstance m
    → StandsFor m move f choice q variable → IsLeast (quadratic_value q) y
    → IsLeast (fixed_value (move_value m move f) choice) (bits_by_site choice variable y)
form_least m move f choice q variable y pairs stands least w =
    least_by _ _ _ _ stands.rest (bits_value m move f choice q variable y pairs stands) (site_value m move f choice q variable w pairs stands)
    (least (λ i. w (stands.site i)))

pub form_smallest : (m : Instance) (move : Move) (f : ℕ → ℕ) (choice : ℕ → Choice) (q : Quadratic) (variable : ℕ → ℕ) (y : ℕ → Bool) → IsInstance m
    → StandsFor m move f choice q variable → IsSmallestLeast (vec_len q.weights) (quadratic_value q) y
    → IsSmallestLeast m.sites (fixed_value (move_value m move f) choice) (bits_by_site choice variable y)
form_smallest m move f choice q variable y pairs stands best = record {
  least = form_least m move f choice q variable y pairs stands best.least;
  smallest = λ w level p l one.
      let own = open_one (choice p) (y (variable p)) one in
      let covered = stands.covers p l own.0 in
      let equal = level_by _ _ _ _ stands.rest (bits_value m move f choice q variable y pairs stands) (site_value m move f choice q variable w pairs stands) level in
      ap w (sym covered.1) ∙ best.smallest (λ i. w (stands.site i)) equal (variable p) covered.0 own.1;
}

-- ---- less the border

still_open : (c : Choice) (inside : Bool) → cond inside c (or_else c One) ≡ Open → cond inside c (or_else c Zero) ≡ Open
still_open c true h = h
still_open Open false h = absurd (cc (h))
still_open Zero false h = absurd (cc (h))
still_open One false h = absurd (cc (h))

higher_by : (less q up low rest gap : ℤ) (b : ℕ) → less +ℤ pos b ≡ q → q +ℤ rest ≡ low → up +ℤ pos b ≡ low +ℤ gap → less +ℤ (rest +ℤ gap) ≡ up
higher_by less q up low rest gap b h k l = omega (arith, ints, h, k, l)

pub less_border_form : (m : Instance) (move : Move) (f : ℕ → ℕ) (choice : ℕ → Choice) (set : ℕ → Bool) (q less : Quadratic) (variable : ℕ → ℕ) → IsInstance m → IsAllowed m move f
    → StandsFor m move f (others_at Zero set choice) q variable → vec_len less.weights ≡ vec_len q.weights
    → ((x : ℕ → Bool) → quadratic_value less x +ℤ pos (border_sum m move f choice set (λ p. x (variable p))) ≡ quadratic_value q x)
    → StandsFor m move f (others_at One set choice) less variable
less_border_form m move f choice set q less variable pairs allowed stands size lower =
    let gap = upper_is_lower m move f choice set pairs allowed in
    record {
      rest = stands.rest +ℤ gap.0;
      site = stands.site;
      value = λ x. higher_by _ (quadratic_value q x) (upper_value (move_value m move f) choice set (λ p. x (variable p))) (lower_value (move_value m move f) choice set (λ p. x (variable p)))
          stands.rest gap.0 (border_sum m move f choice set (λ p. x (variable p))) (lower x) (stands.value x) (gap.1 (λ p. x (variable p)));
      covers = λ p l opened.
          let covered = stands.covers p l (still_open (choice p) (set p) opened) in
          let P : ℕ → Type 0 = λ k. variable p < k in
          (subst P (sym size) covered.0, covered.1);
    }

-- ---- weight by weight

counted_and : (a b : Bool) (z : ℕ) → a ≡ true → count_if b z ≡ count_if (a && b) z
counted_and true b z h = refl
counted_and false b z h = absurd (cc (h))

counted_none : (a b : Bool) (z : ℕ) → a ≡ false → 0 ≡ count_if (a && b) z
counted_none true b z h = absurd (cc (h))
counted_none false b z h = refl

no_count : (b : Bool) (z : ℕ) → z ≡ 0 → count_if b z ≡ 0
no_count true z h = h
no_count false z h = refl

-- the variable of a site that is not chosen is none of them
not_there : (n : ℕ) (chosen : ℕ → Bool) (r : ℕ) (variable site : ℕ → ℕ) (p k : ℕ) → IsOneToOne n chosen r variable site → k < r → chosen p ≡ false → p ≢ site k
not_there n chosen r variable site p k pairs l none same =
    (let e = sym (pairs.back k l).1 ∙ ap chosen (sym same) ∙ none in cc (e))

-- that of a chosen one is one of them
one_there : (n : ℕ) (chosen : ℕ → Bool) (r : ℕ) (variable site : ℕ → ℕ) (x : ℕ → Bool) (p k z : ℕ) → IsOneToOne n chosen r variable site → k < r → p < n → chosen p ≡ true
    → count_if (x k) (count_if (eqb (site k) p) z) ≡ count_if (eqb (variable p) k) (count_if (x k) z)
one_there n chosen r variable site x p k z pairs l small is = elim (cases_eq k (variable p)) [
  | inl here ↦
      let at : p ≡ site k = sym (pairs.there p small is).1 ∙ ap site (sym here) in
      ap (count_if (x k)) (ap (λ q. count_if (eqb (site k) q) z) at ∙ counted-same (site k) z)
      ∙ sym (ap (λ v. count_if (eqb v k) (count_if (x k) z)) (sym here) ∙ counted-same k (count_if (x k) z))
  | inr other ↦
      no_count (x k) (count_if (eqb (site k) p) z)
      (counted-other (site k) p z (λ same. other (sym (pairs.back k l).2 ∙ ap variable (sym same))))
      ∙ sym (counted-other (variable p) k (count_if (x k) z) other)
]

-- the sum over the chosen sites, by variable
by_variable : (n : ℕ) (chosen : ℕ → Bool) (r : ℕ) (variable site : ℕ → ℕ) (x : ℕ → Bool) (b : ℕ → ℕ) → IsOneToOne n chosen r variable site
    → sum_below r (λ k. count_if (x k) (b (site k))) ≡ sum_below n (λ p. count_if (chosen p && x (variable p)) (b p))
by_variable n chosen r variable site x b pairs =
    sum_below-same r (λ k. count_if (x k) (b (site k))) (λ k. sum_below n (λ p. count_if (x k) (count_if (eqb (site k) p) (b p))))
    (λ k l. ap (count_if (x k)) (sym (sum_below-pick n (site k) b (pairs.back k l).0)) ∙ sum_below-counted n (x k) (λ p. count_if (eqb (site k) p) (b p)))
    ∙ sum_below-swap r n (λ k p. count_if (x k) (count_if (eqb (site k) p) (b p)))
    ∙ sum_below-same n (λ p. sum_below r (λ k. count_if (x k) (count_if (eqb (site k) p) (b p)))) (λ p. count_if (chosen p && x (variable p)) (b p))
    (λ p small. elim (cases_Bool (chosen p)) [
      | inl is ↦
          sum_below-same r (λ k. count_if (x k) (count_if (eqb (site k) p) (b p))) (λ k. count_if (eqb (variable p) k) (count_if (x k) (b p)))
          (λ k l. one_there n chosen r variable site x p k (b p) pairs l small is)
          ∙ sum_below-pick r (variable p) (λ k. count_if (x k) (b p)) (pairs.there p small is).0
          ∙ counted_and (chosen p) (x (variable p)) (b p) is
      | inr none ↦
          sum_below-none r (λ k. count_if (x k) (count_if (eqb (site k) p) (b p)))
          (λ k l. no_count (x k) (count_if (eqb (site k) p) (b p)) (counted-other (site k) p (b p) (not_there n chosen r variable site p k pairs l none)))
          ∙ counted_none (chosen p) (x (variable p)) (b p) none
    ])

int_more : (b : Bool) (less old : ℤ) (c : ℕ) → less +ℤ pos c ≡ old → int_counted b less +ℤ pos (count_if b c) ≡ int_counted b old
int_more true less old c h = h
int_more false less old c h = omega (arith, ints)

add_both : (a b c d : ℤ) (e g : ℕ) → a +ℤ pos e ≡ b → c +ℤ pos g ≡ d → (a +ℤ c) +ℤ pos (e + g) ≡ b +ℤ d
add_both a b c d e g h k = omega (arith, ints, h, k)

weights_more : (r : ℕ) (less old : List ℤ) (x : ℕ → Bool) (c : ℕ → ℕ) → ((k : ℕ) → k < r → entry less k +ℤ pos (c k) ≡ entry old k)
    → int_sum_below r (λ k. int_counted (x k) (entry less k)) +ℤ pos (sum_below r (λ k. count_if (x k) (c k)))
    ≡ int_sum_below r (λ k. int_counted (x k) (entry old k))
weights_more zero less old x c more = refl
weights_more (suc r) less old x c more =
    let rest = weights_more r less old x c (λ k l. more k (omega (arith, l))) in
    let own = int_more (x r) (entry less r) (entry old r) (c r) (more r (omega arith)) in
    add_both (int_sum_below r (λ k. int_counted (x k) (entry less k))) _ (int_counted (x r) (entry less r)) _ (sum_below r (λ k. count_if (x k) (c k))) (count_if (x r) (c r)) rest own

value_less : (k k' w w' a : ℤ) (t : ℕ) → k ≡ k' → w +ℤ pos t ≡ w' → (k +ℤ w +ℤ a) +ℤ pos t ≡ k' +ℤ w' +ℤ a
value_less k k' w w' a t h l = omega (arith, ints, h, l)

-- the same form, each weight less by so much: its value is less by that of the ones
pub reweighed_value : (q less : Quadratic) (much : ℕ → ℕ) (x : ℕ → Bool) → IsReweighed q less
    → ((k : ℕ) → k < vec_len q.weights → entry less.weights.items k +ℤ pos (much k) ≡ entry q.weights.items k)
    → quadratic_value less x +ℤ pos (sum_below (vec_len q.weights) (λ k. count_if (x k) (much k))) ≡ quadratic_value q x
reweighed_value q less much x again lower =
    let r = vec_len q.weights in
    let t = sum_below r (λ k. count_if (x k) (much k)) in
    let weights = weights_more r less.weights.items q.weights.items x much lower
    ∙ ap (λ n. int_sum_below n (λ k. int_counted (x k) (entry q.weights.items k))) q.weights.ok.0 in
    let size : weights_value less.weights.items x ≡ int_sum_below r (λ k. int_counted (x k) (entry less.weights.items k)) =
    ap (λ n. int_sum_below n (λ k. int_counted (x k) (entry less.weights.items k))) (sym less.weights.ok.0 ∙ again.nodes) in
    let carried : pos (arcs_value less.arcs.items x) ≡ pos (arcs_value q.arcs.items x) = ap (λ (v : _). pos (arcs_value v.items x)) again.arcs in
    (λ j. (less.constant +ℤ size j +ℤ carried j) +ℤ pos t) ∙ value_less less.constant q.constant _ _ (pos (arcs_value q.arcs.items x)) t again.constant weights

pub reweighed_form : (m : Instance) (move : Move) (f : ℕ → ℕ) (choice : ℕ → Choice) (set : ℕ → Bool) (q less : Quadratic) (variable site : ℕ → ℕ) → IsInstance m → IsAllowed m move f
    → StandsFor m move f (others_at Zero set choice) q variable
    → IsOneToOne m.sites (is_inside choice set) (vec_len q.weights) variable site → IsReweighed q less
    → ((k : ℕ) → k < vec_len q.weights → entry less.weights.items k +ℤ pos (border_at m move f choice set (site k)) ≡ entry q.weights.items k)
    → StandsFor m move f (others_at One set choice) less variable
reweighed_form m move f choice set q less variable site pairs allowed stands one again lower =
    let b = border_at m move f choice set in
    less_border_form m move f choice set q less variable pairs allowed stands again.nodes
    (λ x.
    let border = by_variable m.sites (is_inside choice set) (vec_len q.weights) variable site x b one in
    ap (λ t. quadratic_value less x +ℤ pos t) (sym border) ∙ reweighed_value q less (λ k. b (site k)) x again lower)
