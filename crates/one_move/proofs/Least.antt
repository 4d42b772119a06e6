-- From the least values of a move's sites to the best labelling.
use Rattle.std.proofs.Common.{◌≡◌, ◌≢◌, ℕ, ◌+◌, ◌<◌, ◌≤◌, Bool, true, false, eqb, List, length, vec_len, ℤ, pos, ◌+ℤ◌, ◌≤ℤ◌, refl, sym, ap, ◌∙◌, inl, inr, subst, arith}
use Rattle.std.proofs.lemmas.Int.{ints}
use Rattle.std.proofs.lemmas.Bool.{cases_Bool}
use Rattle.std.proofs.lemmas.Bool.Decides.{nat_tests}
use Rattle.label_energies.specs.declared.change.Move.{Move}
use Rattle.label_energies.specs.declared.change.Move.TheVariants.{Expand}
use Rattle.sums.specs.Sums.{sum_below, count_if}
use Rattle.sums.proofs.SumLemmas.{sum_below-same}
use Rattle.label_energies.specs.Energies.{Instance, IsInstance, plain_energy, label_energy, is_used, energy, AreLabelsFree, labelling, Agrees}
use Rattle.label_energies.specs.Moves.{label_after, labelling_made, favoured_label, IsReached, IsBest, IsAllowed, LabelsWithin}
use Rattle.label_energies.proofs.Energy.{plain-same, energy-same, free-plain}
use Rattle.label_energies.proofs.Reaching.{label_in-favoured, label_in-fixed, label_in-one, cases_label_in}
use Rattle.label_energies.proofs.Best.{made-reached, stays-reached, expand-kept, lists_agree, reached-same}
use Rattle.flow_network.specs.Cut.{Network, nodes, capacity_of, IsLeastCut, IsSmallestLeastCut}
use Rattle.compile_cut.specs.declared.quadratic.Quadratic.{Quadratic}
use Rattle.compile_cut.specs.Quadratics.{quadratic_value}
use Rattle.compile_cut.specs.Shown.{Hides}
use Rattle.cost_store.specs.LabelCosts.{cost_at}
use Rattle.label_cost_terms.specs.LabelCosts.{AreCostsOf, costs_below, AddsHidden}
use Rattle.site_bounds.proofs.Hiding.{hidden_least}
use Rattle.move_energy.specs.declared.choice.Choice.{Choice}
use Rattle.move_energy.specs.declared.choice.Choice.TheVariants.{Open, Zero as DecidedZero, One as DecidedOne}
use Rattle.move_energy.specs.Choices.{bit_of, choice_at, choice_of, value_of, open_rank, made_by, AreAllOpen, AreAssigned, StandsFor}
use Rattle.one_move.specs.Building.{site_values, made_value}
use Rattle.site_bounds.specs.Decisions.{IsSmallestLeast}
use Rattle.move_energy.specs.MoveValues.{move_value}
use Rattle.move_energy.proofs.Rising.{move_falls, move_over}
use Rattle.persistency.specs.Fixing.{with_choices}
use Rattle.persistency.specs.Agreeing.{Agree}
use Rattle.persistency.specs.Forms.{bits_by_site}
use Rattle.persistency.proofs.Agreeing.{rest_agrees}
use Rattle.persistency.proofs.Forms.{form_smallest, open_bit}

is_eqb : (a b : ℕ) → eqb a b ≡ true → a ≡ b
is_eqb a b h = grind (arith, nat_tests)

antisym : (y z : ℤ) → y ≤ℤ z → z ≤ℤ y → y ≡ z
antisym y z h k = omega (arith, ints)

-- ---- the values of all sites

stands_for : (m : Instance) (move : Move) (f h : ℕ → ℕ) → IsInstance m → IsReached move m.sites f h
    → energy m (labelling_made move f (λ p. eqb (h p) (favoured_label move))) ≡ energy m h
stands_for m move f h pairs reached =
    energy-same m (labelling_made move f (λ p. eqb (h p) (favoured_label move))) h pairs (λ p l. label_in-favoured move (f p) (h p) (reached p l))

lowest_of : (m : Instance) (move : Move) (f h : ℕ → ℕ) (x : ℕ → Bool) → IsInstance m → IsSmallestLeast m.sites (made_value m move f) x → IsReached move m.sites f h
    → energy m (labelling_made move f x) ≤ energy m h
lowest_of m move f h x pairs least reached =
    let below = least.least (λ p. eqb (h p) (favoured_label move)) in
    let same = stands_for m move f h pairs reached in
    omega (arith, ints, below, same)

smallest_of : (m : Instance) (move : Move) (f h : ℕ → ℕ) (x : ℕ → Bool) → IsInstance m → IsSmallestLeast m.sites (made_value m move f) x → IsReached move m.sites f h
    → energy m h ≤ energy m (labelling_made move f x) → LabelsWithin m.sites (favoured_label move) (labelling_made move f x) h
smallest_of m move f h x pairs least reached low p l is =
    let bits = λ (q : ℕ). eqb (h q) (favoured_label move) in
    let same = stands_for m move f h pairs reached in
    let below = least.least bits in
    let level : made_value m move f bits ≡ made_value m move f x = antisym _ _ (omega (arith, ints, same, low)) below in
    elim (cases_label_in move (f p)) [
      | inl fixed ↦ sym (label_in-favoured move (f p) (h p) (reached p l)) ∙ label_in-fixed move (f p) (bits p) (x p) fixed ∙ is
      | inr changes ↦ elim (cases_Bool (x p)) [
        | inl one ↦ is_eqb (h p) (favoured_label move) (least.smallest bits level p l one)
        | inr none ↦ absurd (changes (label_in-one move (f p) changes ∙ sym is ∙ ap (label_after move (f p)) none))
      ]
    ]

-- the labelling that the least values make is the best one, if it is the labelling itself where it
-- is no lower
best_of : (m : Instance) (move : Move) (f g : List ℕ) (x : ℕ → Bool) → IsInstance m → IsSmallestLeast m.sites (made_value m move (labelling f)) x
    → length g ≡ length f → Agrees m.sites (labelling g) (labelling_made move (labelling f) x)
    → (energy m (labelling f) ≤ energy m (labelling g) → g ≡ f) → IsBest m move f g
best_of m move f g x pairs least same agrees kept =
    let here = energy-same m (labelling g) (labelling_made move (labelling f) x) pairs agrees in
    record {
      sites = same;
      reached = reached-same move m.sites (labelling f) (labelling g) (labelling_made move (labelling f) x) agrees (made-reached move m.sites (labelling f) x);
      lowest = λ h to. omega (arith, here, lowest_of m move (labelling f) h x pairs least to);
      kept = kept;
      smallest = λ lower h to low p l is. smallest_of m move (labelling f) h x pairs least to (omega (arith, here, low)) p l (sym (agrees p l) ∙ is);
    }

-- an expansion keeps the labelling by itself where it lowers nothing
expand_best : (m : Instance) (a : ℕ) (f g : List ℕ) (x : ℕ → Bool) → IsInstance m → IsSmallestLeast m.sites (made_value m (Expand a) (labelling f)) x
    → length f ≡ m.sites → length g ≡ length f → Agrees m.sites (labelling g) (labelling_made (Expand a) (labelling f) x) → IsBest m (Expand a) f g
expand_best m a f g x pairs least len same agrees =
    let here = energy-same m (labelling g) (labelling_made (Expand a) (labelling f) x) pairs agrees in
    best_of m (Expand a) f g x pairs least same agrees (λ none_lower.
    let within = smallest_of m (Expand a) (labelling f) (labelling f) x pairs least (stays-reached (Expand a) m.sites (labelling f)) (omega (arith, here, none_lower)) in
    lists_agree f g same (λ p l.
    let q : p < m.sites = omega (arith, l, len) in
    agrees p q ∙ expand-kept a m.sites (labelling f) (labelling_made (Expand a) (labelling f) x) (made-reached (Expand a) m.sites (labelling f) x) within p q))

-- so what an expansion makes is best
pub expanded_best : (m : Instance) (move : Move) (a : ℕ) (f g : List ℕ) (x : ℕ → Bool) → move ≡ Expand a → IsInstance m
    → IsSmallestLeast m.sites (made_value m move (labelling f)) x → length f ≡ m.sites → length g ≡ length f
    → Agrees m.sites (labelling g) (labelling_made move (labelling f) x) → IsBest m move f g
expanded_best m move a f g x is pairs least len same agrees =
    let P : Move → Type 0 = λ mv. IsSmallestLeast m.sites (made_value m mv (labelling f)) x → Agrees m.sites (labelling g) (labelling_made mv (labelling f) x) → IsBest m mv f g in
    let own : P (Expand a) = λ least_too agrees_too. expand_best m a f g x pairs least_too len same agrees_too in
    subst P (sym is) own least agrees

-- and of any move what is lower
pub lower_best : (m : Instance) (move : Move) (f g : List ℕ) (x : ℕ → Bool) → IsInstance m → IsSmallestLeast m.sites (made_value m move (labelling f)) x
    → length g ≡ length f → Agrees m.sites (labelling g) (labelling_made move (labelling f) x)
    → energy m (labelling_made move (labelling f) x) < energy m (labelling f) → IsBest m move f g
lower_best m move f g x pairs least same agrees low =
    let here = energy-same m (labelling g) (labelling_made move (labelling f) x) pairs agrees in
    best_of m move f g x pairs least same agrees (λ no. absurd (omega (arith, here, low, no)))

-- where what the least values make is no lower, the labelling itself is best
pub kept_best : (m : Instance) (move : Move) (f : List ℕ) (x : ℕ → Bool) → IsInstance m → IsSmallestLeast m.sites (made_value m move (labelling f)) x
    → energy m (labelling f) ≤ energy m (labelling_made move (labelling f) x) → IsBest m move f f
kept_best m move f x pairs least low = record {
  sites = refl;
  reached = stays-reached move m.sites (labelling f);
  lowest = λ h reached. omega (arith, low, lowest_of m move (labelling f) h x pairs least reached);
  kept = λ no_lower. refl;
  smallest = λ lower h reached no_more p l is. absurd (omega (arith, lower));
}

-- ---- the cut of a form

least_too : (net : Network) (side other : ℕ → Bool) → IsLeastCut net side → capacity_of net other ≤ capacity_of net side → IsLeastCut net other
least_too net side other least low third = let base = least third in omega (arith, low, base)

-- where the capacity of each cut and a constant are the form's value, a smallest least cut is its
-- least assignment with the fewest ones
pub cut_least : (q : Quadratic) (net : Network) (k : ℤ) (side : ℕ → Bool) → nodes net ≡ vec_len q.weights
    → ((x : ℕ → Bool) → pos (capacity_of net x) +ℤ k ≡ quadratic_value q x) → IsSmallestLeastCut net side
    → IsSmallestLeast (vec_len q.weights) (quadratic_value q) side
cut_least q net k side count is best = record {
  least = λ y. omega (arith, ints, is side, is y, best.least y);
  smallest = λ y level v l one.
      best.smallest y (least_too net side y best.least (omega (arith, ints, is side, is y, level))) v (omega (arith, count, l)) one;
}

-- ---- where choices agree

subst_le : (a b c : ℤ) → b ≡ a → a ≤ℤ c → b ≤ℤ c
subst_le a b c h k = omega (arith, ints, h, k)

pub smallest_along : (n : ℕ) (E : (ℕ → Bool) → ℤ) (x y : ℕ → Bool) → E y ≡ E x → ((k : ℕ) → k < n → y k ≡ x k) → IsSmallestLeast n E x → IsSmallestLeast n E y
smallest_along n E x y value same least = record {
  least = λ z. subst_le (E x) (E y) (E z) value (least.least z);
  smallest = λ z level k l one. least.smallest z (level ∙ value) k l (sym (same k l) ∙ one);
}

-- where choices agree, the least assignment of the open sites and what is chosen make the least
-- values of all sites
pub agreed_least : (m : Instance) (move : Move) (f : ℕ → ℕ) (choice : ℕ → Choice) (q : Quadratic) (variable : ℕ → ℕ) (y : ℕ → Bool)
    → IsInstance m → IsAllowed m move f → Agree m.sites (move_value m move f) choice → StandsFor m move f choice q variable
    → IsSmallestLeast (vec_len q.weights) (quadratic_value q) y
    → IsSmallestLeast m.sites (move_value m move f) (λ p. bit_of (choice p) (y (variable p)))
agreed_least m move f choice q variable y pairs allowed agree stands least =
    let P : (ℕ → Bool) → Type 0 = λ x. IsSmallestLeast m.sites (move_value m move f) x in
    let same : with_choices choice (bits_by_site choice variable y) ≡ (λ p. bit_of (choice p) (y (variable p))) = λ j p. open_bit (choice p) (y (variable p)) j in
    subst P same
    (rest_agrees m.sites (move_value m move f) choice (bits_by_site choice variable y) (move_falls m move f pairs allowed) (move_over m move f pairs) agree
    (form_smallest m move f choice q variable y pairs stands least))

-- the energies depend on the values of the sites alone
pub made_over : (m : Instance) (move : Move) (f : ℕ → ℕ) → IsInstance m → (x y : ℕ → Bool) → ((k : ℕ) → k < m.sites → x k ≡ y k) → made_value m move f x ≡ made_value m move f y
made_over m move f pairs x y same = ap pos (energy-same m (labelling_made move f x) (labelling_made move f y) pairs (λ p l. ap (label_after move (f p)) (same p l)))

-- the values that the assigned choices tell are those
pub bit_of_choice : (b : Bool) → bit_of (choice_of b) false ≡ b
bit_of_choice true = refl
bit_of_choice false = refl

pub assigned_least : (m : Instance) (move : Move) (f : ℕ → ℕ) (old new : List Choice) (bits : List Bool) → IsInstance m → length old ≡ m.sites
    → AreAssigned old bits new → IsSmallestLeast m.sites (made_value m move f) (value_of old bits) → IsSmallestLeast m.sites (made_value m move f) (site_values new)
assigned_least m move f old new bits pairs size assigned least =
    let told : (p : ℕ) → p < m.sites → site_values new p ≡ value_of old bits p =
    λ p l. ap (λ (c : Choice). bit_of c false) (assigned.each p (omega (arith, l, size))) ∙ bit_of_choice (value_of old bits p) in
    smallest_along m.sites (made_value m move f) (value_of old bits) (site_values new) (made_over m move f pairs (site_values new) (value_of old bits) told) told least

-- ---- where nothing was decided

-- the values of all sites that the variables of the open ones make
whole_made : (m : Instance) (move : Move) (f : List ℕ) (choices : List Choice) (q : Quadratic) (variable : ℕ → ℕ) (z : ℕ → Bool) → length f ≡ m.sites → AreAllOpen move f choices
    → (stands : StandsFor m move (labelling f) (choice_at choices) q variable)
    → Agrees m.sites (made_by move (labelling f) (choice_at choices) variable (λ i. z (stands.site i))) (labelling_made move (labelling f) z)
whole_made m move f choices q variable z size whole stands p l = elim (cases_label_in move (labelling f p)) [
  | inl fixed ↦ label_in-fixed move (labelling f p) (bit_of (choice_at choices p) (z (stands.site (variable p)))) (z p) fixed
  | inr changes ↦
      let opened = (whole.opened p (omega (arith, l, size))).1 changes in
      ap (λ (c : Choice). label_after move (labelling f p) (bit_of c (z (stands.site (variable p))))) opened
      ∙ ap (λ q. label_after move (labelling f p) (z q)) ((stands.covers p l opened).1)
]

whole_value : (m : Instance) (move : Move) (f : List ℕ) (choices : List Choice) (q : Quadratic) (variable : ℕ → ℕ) (z : ℕ → Bool) → IsInstance m → length f ≡ m.sites → AreAllOpen move f choices
    → (stands : StandsFor m move (labelling f) (choice_at choices) q variable)
    → quadratic_value q (λ i. z (stands.site i)) +ℤ stands.rest ≡ move_value m move (labelling f) z
whole_value m move f choices q variable z pairs size whole stands =
    stands.value (λ i. z (stands.site i)) ∙ ap pos (plain-same m (made_by move (labelling f) (choice_at choices) variable (λ i. z (stands.site i))) (labelling_made move (labelling f) z) pairs
    (whole_made m move f choices q variable z size whole stands))

one_of : (c : Choice) (b : Bool) → c ≢ DecidedOne → bit_of c b ≡ true → (c ≡ Open) × (b ≡ true)
one_of Open b none one = (refl, one)
one_of DecidedZero b none one = absurd (cc (one))
one_of DecidedOne b none one = absurd (none refl)

least_by : (a b c d r : ℤ) → a +ℤ r ≡ c → b +ℤ r ≡ d → a ≤ℤ b → c ≤ℤ d
least_by a b c d r h k l = omega (arith, ints, h, k, l)

level_by : (a b c d r : ℤ) → a +ℤ r ≡ c → b +ℤ r ≡ d → d ≡ c → b ≡ a
level_by a b c d r h k l = omega (arith, ints, h, k, l)

pub open_least : (m : Instance) (move : Move) (f : List ℕ) (choices : List Choice) (q : Quadratic) (variable : ℕ → ℕ) (y : ℕ → Bool)
    → IsInstance m → length f ≡ m.sites → AreAllOpen move f choices → StandsFor m move (labelling f) (choice_at choices) q variable → IsSmallestLeast (vec_len q.weights) (quadratic_value q) y
    → IsSmallestLeast m.sites (move_value m move (labelling f)) (λ p. bit_of (choice_at choices p) (y (variable p)))
open_least m move f choices q variable y pairs size whole stands least = record {
  least = λ z. least_by _ _ _ _ stands.rest (stands.value y) (whole_value m move f choices q variable z pairs size whole stands) (least.least (λ i. z (stands.site i)));
  smallest = λ z level p l one.
      let own = one_of (choice_at choices p) (y (variable p)) (whole.none p (omega (arith, l, size))) one in
      let covered = stands.covers p l own.0 in
      let equal = level_by _ _ _ _ stands.rest (stands.value y) (whole_value m move f choices q variable z pairs size whole stands) level in
      ap z (sym covered.1) ∙ least.smallest (λ i. z (stands.site i)) equal (variable p) covered.0 own.1;
}

-- the same of energies with label costs, at the values of the nodes of the open sites
open_made : (m : Instance) (move : Move) (f : List ℕ) (choices : List Choice) (variable site : ℕ → ℕ) (z : ℕ → Bool) → length f ≡ m.sites → AreAllOpen move f choices
    → ((p : ℕ) → p < m.sites → choice_at choices p ≡ Open → site (variable p) ≡ p)
    → Agrees m.sites (made_by move (labelling f) (choice_at choices) variable (λ i. z (site i))) (labelling_made move (labelling f) z)
open_made m move f choices variable site z size whole back p l = elim (cases_label_in move (labelling f p)) [
  | inl fixed ↦ label_in-fixed move (labelling f p) (bit_of (choice_at choices p) (z (site (variable p)))) (z p) fixed
  | inr changes ↦
      let opened = (whole.opened p (omega (arith, l, size))).1 changes in
      ap (λ (c : Choice). label_after move (labelling f p) (bit_of c (z (site (variable p))))) opened
      ∙ ap (λ q. label_after move (labelling f p) (z q)) (back p l opened)
]

along : (a b c : ℤ) → a ≤ℤ b → b ≡ c → a ≤ℤ c
along a b c h k = omega (arith, ints, h, k)

pub open_made_least : (m : Instance) (move : Move) (f : List ℕ) (choices : List Choice) (n : ℕ) (variable site : ℕ → ℕ) (y : ℕ → Bool)
    → IsInstance m → length f ≡ m.sites → AreAllOpen move f choices
    → ((p : ℕ) → p < m.sites → choice_at choices p ≡ Open → (variable p < n) × (site (variable p) ≡ p))
    → IsSmallestLeast n (λ x. pos (energy m (made_by move (labelling f) (choice_at choices) variable x))) y
    → IsSmallestLeast m.sites (made_value m move (labelling f)) (λ p. bit_of (choice_at choices p) (y (variable p)))
open_made_least m move f choices n variable site y pairs size whole covers least =
    let value : (z : ℕ → Bool) → pos (energy m (made_by move (labelling f) (choice_at choices) variable (λ i. z (site i)))) ≡ made_value m move (labelling f) z =
    λ z. ap pos (energy-same m (made_by move (labelling f) (choice_at choices) variable (λ i. z (site i))) (labelling_made move (labelling f) z) pairs
    (open_made m move f choices variable site z size whole (λ p l opened. (covers p l opened).1))) in
    record {
      least = λ z. along _ _ _ (least.least (λ i. z (site i))) (value z);
      smallest = λ z level p l one.
          let own = one_of (choice_at choices p) (y (variable p)) (whole.none p (omega (arith, l, size))) one in
          let covered = covers p l own.0 in
          ap z (sym covered.1) ∙ least.smallest (λ i. z (site i)) (value z ∙ level) (variable p) covered.0 own.1;
    }

-- what the labels cost by themselves, as the costs that were added
label_meant : (m : Instance) (a : ℕ) (f : List ℕ) (choices : List Choice) (costs : List ℤ) (x : ℕ → Bool) → length f ≡ m.sites → AreCostsOf m costs
    → costs_below (length costs) a f choices costs x ≡ label_energy m (made_by (Expand a) (labelling f) (choice_at choices) (open_rank choices) x)
label_meant m a f choices costs x size are =
    let g = made_by (Expand a) (labelling f) (choice_at choices) (open_rank choices) x in
    ap (λ (n : ℕ). sum_below n (λ label. count_if (is_used (length f) g label) (cost_at costs label))) are.count
    ∙ ap (λ (n : ℕ). sum_below m.labels (λ label. count_if (is_used n g label) (cost_at costs label))) size
    ∙ sum_below-same m.labels (λ label. count_if (is_used m.sites g label) (cost_at costs label)) (λ label. count_if (is_used m.sites g label) (m.label_cost label))
    (λ label l. ap (count_if (is_used m.sites g label)) (sym (are.each label l)))

costed_lower : (e : ℤ) (plain labels costs : ℕ) (old new r s : ℤ) → e ≡ pos (plain + labels) → old +ℤ r ≡ pos plain → costs ≡ labels → (old +ℤ pos costs) ≤ℤ (new +ℤ s)
    → e ≤ℤ (new +ℤ (r +ℤ s))
costed_lower e plain labels costs old new r s is h k l = omega (arith, ints, is, h, k, l)

costed_reached : (plain labels costs : ℕ) (old new r s : ℤ) → old +ℤ r ≡ pos plain → costs ≡ labels → new +ℤ s ≡ old +ℤ pos costs
    → new +ℤ (r +ℤ s) ≡ pos (plain + labels)
costed_reached plain labels costs old new r s h k l = omega (arith, ints, h, k, l)

-- the form with the costs of the labels hides its nodes behind those of the open sites
costed_hides : (m : Instance) (a : ℕ) (f : List ℕ) (choices : List Choice) (old new : Quadratic) (costs : List ℤ) → length f ≡ m.sites
    → StandsFor m (Expand a) (labelling f) (choice_at choices) old (open_rank choices) → AreCostsOf m costs → AddsHidden old new (costs_below (length costs) a f choices costs)
    → Hides (vec_len old.weights) (λ x. pos (energy m (made_by (Expand a) (labelling f) (choice_at choices) (open_rank choices) x))) (quadratic_value new)
costed_hides m a f choices old new costs size stands are adds = record {
  offset = stands.rest +ℤ adds.rest;
  lower = λ x.
      let g = made_by (Expand a) (labelling f) (choice_at choices) (open_rank choices) x in
      costed_lower (pos (energy m g)) (plain_energy m g) (label_energy m g) (costs_below (length costs) a f choices costs x) (quadratic_value old x) (quadratic_value new x)
      stands.rest adds.rest refl (stands.value x) (label_meant m a f choices costs x size are) (adds.lower x);
  reached = λ x.
      let g = made_by (Expand a) (labelling f) (choice_at choices) (open_rank choices) x in
      let there = adds.reached x in (
        there.0,
        there.1,
        costed_reached (plain_energy m g) (label_energy m g) (costs_below (length costs) a f choices costs x) (quadratic_value old x) (quadratic_value new there.0)
            stands.rest adds.rest (stands.value x) (label_meant m a f choices costs x size are) there.2,
      );
}

-- so the least assignment of that form with the fewest ones makes the least values of all sites
pub costed_least : (m : Instance) (a : ℕ) (f : List ℕ) (choices : List Choice) (old new : Quadratic) (costs : List ℤ) (y : ℕ → Bool) → IsInstance m → length f ≡ m.sites
    → AreAllOpen (Expand a) f choices → StandsFor m (Expand a) (labelling f) (choice_at choices) old (open_rank choices) → AreCostsOf m costs
    → AddsHidden old new (costs_below (length costs) a f choices costs) → IsSmallestLeast (vec_len new.weights) (quadratic_value new) y
    → IsSmallestLeast m.sites (made_value m (Expand a) (labelling f)) (λ p. bit_of (choice_at choices p) (y (open_rank choices p)))
costed_least m a f choices old new costs y pairs size whole stands are adds least =
    let E = λ (x : ℕ → Bool). pos (energy m (made_by (Expand a) (labelling f) (choice_at choices) (open_rank choices) x)) in
    let shown = hidden_least (vec_len old.weights) (vec_len new.weights) E (quadratic_value new) y adds.nodes (costed_hides m a f choices old new costs size stands are adds) least in
    open_made_least m (Expand a) f choices (vec_len old.weights) (open_rank choices) stands.site y pairs size whole stands.covers shown

-- ---- where no label costs anything by itself

same_along : (n : ℕ) (E F : (ℕ → Bool) → ℤ) (x : ℕ → Bool) → ((z : ℕ → Bool) → F z ≡ E z) → IsSmallestLeast n E x → IsSmallestLeast n F x
same_along n E F x same least = record {
  least = λ z. (let low = least.least z in omega (arith, ints, low, same x, same z));
  smallest = λ z level k l one. least.smallest z (sym (same z) ∙ level ∙ same x) k l one;
}

pub free_least : (m : Instance) (move : Move) (f : ℕ → ℕ) (x : ℕ → Bool) → AreLabelsFree m → IsSmallestLeast m.sites (move_value m move f) x → IsSmallestLeast m.sites (made_value m move f) x
free_least m move f x free least = same_along m.sites (move_value m move f) (made_value m move f) x (λ z. ap pos (free-plain m (labelling_made move f z) free)) least

-- an energy that is no lower, or lower, without label costs, where no label costs anything by
-- itself
pub free_le : (m : Instance) (f g : ℕ → ℕ) → AreLabelsFree m → plain_energy m f ≤ plain_energy m g → energy m f ≤ energy m g
free_le m f g free low = (let at_f = free-plain m f free in let at_g = free-plain m g free in rw (at_f, at_g) low)

pub free_lt : (m : Instance) (f g : ℕ → ℕ) → AreLabelsFree m → plain_energy m f < plain_energy m g → energy m f < energy m g
free_lt m f g free low = (let at_f = free-plain m f free in let at_g = free-plain m g free in rw (at_f, at_g) low)
