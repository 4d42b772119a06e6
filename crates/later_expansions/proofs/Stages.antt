-- The stages of an expansion that is made once more.
use Rattle.std.proofs.Common.{◌≡◌, ◌≢◌, ◌⊎◌, ◌↔◌, ◌==◌, ℕ, ◌+◌, ◌<◌, Bool, true, false, not, cond, List, All, length, get_or, IsTrue, IfOk, Result, Ok, Err, refl, sym, ap, ◌∙◌, inl, inr, subst, arith}
use Rattle.std.specs.Prelude.{slice_index, slice_set, IsFalse, OnOk}
use Rattle.std.specs.List.{Contains}
use Rattle.std.proofs.lemmas.Bool.{cases_Bool, cases_eq, cases_lt, eqb-true}
use Rattle.std.proofs.lemmas.List.{length-set, get_or-set_same, get_or-set_other, set-get_or}
use Rattle.std.proofs.lemmas.Grind.{get_or_default_zero}
use Rattle.label_field.specs.PairLists.{PairList}
use Rattle.cut_ways.specs.declared.solve_error.SolveError.{SolveError}
use Rattle.cost_store.specs.declared.problem.Problem.{Problem}
use Rattle.cost_store.specs.Posed.{Closure, IsMeant}
use Rattle.label_energies.specs.declared.change.Move.{Move}
use Rattle.move_energy.specs.declared.error.BuildError.{BuildError}
use Rattle.move_energy.specs.Terms.{AreTermsTested}
use Rattle.one_move.specs.declared.error.MoveError.{MoveError}
use Rattle.one_move.specs.Moved.{IsCutRefusal, IsCauseOfRefusal}
use Rattle.one_move.proofs.Answers.{cut_refusal}
use Rattle.later_expansions.specs.Stages.{AreTermsRegular}
use Rattle.label_energies.specs.declared.change.Move.TheVariants.{Expand}
use Rattle.label_energies.specs.Energies.{Instance, IsInstance, HasMetric, AreLabelsFree, labelling}
use Rattle.label_energies.proofs.Metric.{metric_allows}
use Rattle.label_energies.specs.Moves.{IsAllowed, IsBest}
use Rattle.move_energy.specs.declared.choice.Choice.{Choice}
use Rattle.move_energy.specs.declared.choice.Choice.TheVariants.{Zero}
use Rattle.move_energy.specs.Choices.{choice_at, choice_of, bit_of, value_of}
use Rattle.site_bounds.specs.Decisions.{IsSmallestLeast}
use Rattle.move_energy.specs.MoveValues.{move_value}
use Rattle.move_energy.proofs.Rising.{move_falls, move_over}
use Rattle.persistency.specs.Fixing.{with_choices, AreLeastZeros}
use Rattle.near_changes.specs.Fresh.{WasExpanded, AreFresh, IsApart}
use Rattle.near_changes.specs.Looking.{IsClosedIn}
use Rattle.near_changes.proofs.Parts.{ones_can_take}
use Rattle.persistency.proofs.Fixing.{ones_bound}
use Rattle.near_changes.proofs.Ending.{stage_ends}
use Rattle.strip_nets.specs.Looking.{IsStageLeast}
use Rattle.one_move.specs.Building.{HasTaken}
use Rattle.one_move.proofs.Least.{expanded_best, free_least}

-- ---- the zeros of the stages

none_of : (b : Bool) → (b ≡ true → ⊥) → b ≡ false
none_of true h = absurd (h refl)
none_of false h = refl

shown_bit : (same : Bool) → bit_of (choice_of (not same)) false ≡ not same
shown_bit true = refl
shown_bit false = refl

from_not : (b : Bool) → not b ≡ false → b ≡ true
from_not true h = refl
from_not false h = sym h

-- a site at 0 by its label has the label
pub label_shown : (x a : ℕ) → choice_of (not (x == a)) ≡ Zero → x ≡ a
label_shown x a zero = eqb-true x a (from_not (x == a) (sym (shown_bit (x == a)) ∙ ap (λ (c : Choice). bit_of c false) zero))

-- of the first, at which the sites are that have the label
pub first_zeros : (m : Instance) (a : ℕ) (f : List ℕ) (choices : List Choice) → IsInstance m
    → ((p : ℕ) → p < m.sites → choice_at choices p ≡ Zero → labelling f p ≡ a)
    → AreLeastZeros m.sites (move_value m (Expand a) (labelling f)) (choice_at choices)
first_zeros m a f choices pairs zeros s best p l is =
    none_of (s p) (λ one. ones_can_take m a (labelling f) s p pairs best l one (zeros p l is))

-- and of the next, at which the cut showed 0
pub next_zeros : (m : Instance) (a : ℕ) (f : List ℕ) (old new : List Choice) (bits : List Bool) → IsInstance m → IsAllowed m (Expand a) (labelling f)
    → IsStageLeast m (Expand a) (labelling f) old bits
    → ((p : ℕ) → p < m.sites → choice_at new p ≡ Zero → value_of old bits p ≡ false)
    → AreLeastZeros m.sites (move_value m (Expand a) (labelling f)) (choice_at old)
    → AreLeastZeros m.sites (move_value m (Expand a) (labelling f)) (choice_at new)
next_zeros m a f old new bits pairs allowed stage zeros before s best p l is =
    let E = move_value m (Expand a) (labelling f) in
    let within = ones_bound m.sites E (choice_at old) s stage.values (move_falls m (Expand a) (labelling f) pairs allowed) (move_over m (Expand a) (labelling f) pairs) best
    (before s best) stage.least.least in
    none_of (s p) (λ one. (let shown = sym (stage.shown p) ∙ within p l one in let none = zeros p l is in cc (shown, none)))

-- ---- a closed stage

pub closed_ends : (m : Instance) (a : ℕ) (f : List ℕ) (pairs : PairList) (choices : List Choice) (bits : List Bool) (taken fresh changed : ℕ → Bool)
    → IsInstance m → m.sites ≡ pairs.sites → m.pairs ≡ pairs.list → IsAllowed m (Expand a) (labelling f)
    → IsStageLeast m (Expand a) (labelling f) choices bits
    → IsClosedIn pairs (value_of choices bits) (choice_at choices) taken fresh
    → WasExpanded m a changed (labelling f) → AreFresh m a (labelling f) changed fresh
    → AreLeastZeros m.sites (move_value m (Expand a) (labelling f)) (choice_at choices)
    → IsSmallestLeast m.sites (move_value m (Expand a) (labelling f)) taken
closed_ends m a f pairs choices bits taken fresh changed is_instance sites list allowed stage closed was are_fresh zeros =
    let t = with_choices (choice_at choices) stage.values in
    let apart : All (IsApart a (labelling f) t taken) m.pairs = λ i d li.
    let here = subst (λ (ps : List _). All (IsApart a (labelling f) (value_of choices bits) taken) ps) (sym list) (closed.apart a (labelling f)) i d li in (
      (λ one takes. here.0 one (sym (stage.shown _) ∙ takes)),
      (λ one takes. here.1 one (sym (stage.shown _) ∙ takes)),
    ) in
    stage_ends m a (labelling f) changed fresh (choice_at choices) stage.values taken is_instance allowed was are_fresh zeros stage.least
    (record {
      within = λ p l one. stage.shown p ∙ closed.within p (omega (arith, l, sites)) one;
      apart = apart;
    })
    (λ p l is takes. closed.holds_fresh p (omega (arith, l, sites)) is (sym (stage.shown p) ∙ takes))
    (λ p l one. closed.left_open p (omega (arith, l, sites)) one)

-- so what took the label is best
pub taken_best : (m : Instance) (a : ℕ) (f g : List ℕ) (took : ℕ → Bool) → IsInstance m → AreLabelsFree m → length f ≡ m.sites → length g ≡ length f
    → IsSmallestLeast m.sites (move_value m (Expand a) (labelling f)) took → HasTaken a took f g → IsBest m (Expand a) f g
taken_best m a f g took pairs free size same least taken =
    expanded_best m (Expand a) a f g took refl pairs (free_least m (Expand a) (labelling f) took free least) size same
    (λ p l. taken p (omega (arith, l, size)))

pub not_taken : (a : ℕ) (f g : List ℕ) (took : ℕ → Bool) (p : ℕ) → HasTaken a took f g → p < length f → took p ≡ false → labelling g p ≡ labelling f p
not_taken a f g took p taken l none = taken p l ∙ ap (λ b. cond b a (labelling f p)) none

-- ---- labels that are given to listed sites

-- the first i listed sites have the label, the others the labels that they had, and whether one of
-- these was another
pub record AreGiven (a : ℕ) (old new sites : List ℕ) (i : ℕ) (changed : Bool) : Type 0 where
  pub len : length new ≡ length old
  pub done : (k : ℕ) → k < i → slice_index new (get_or sites k 0) ≡ a
  pub left : (p : ℕ) → ((k : ℕ) → k < i → get_or sites k 0 ≢ p) → slice_index new p ≡ slice_index old p
  pub both : (p : ℕ) → (slice_index new p ≡ slice_index old p) ⊎ (slice_index new p ≡ a)
  pub other : changed ≡ true → (p : ℕ) × (slice_index new p ≡ a) × (slice_index old p ≢ a)
  pub same : changed ≡ false → new ≡ old

pub given_none : (a : ℕ) (old sites : List ℕ) → AreGiven a old old sites 0 false
given_none a old sites = record {
  len = refl;
  done = λ k l. absurd (omega (arith, l));
  left = λ p l. refl;
  both = λ p. inl refl;
  other = λ is. absurd (cc is);
  same = λ is. refl;
}

given_at : (a : ℕ) (now : List ℕ) (n p : ℕ) → n < length now → p ≡ n → slice_index (slice_set now n a) p ≡ a
given_at a now n p within is = ap (slice_index (slice_set now n a)) is ∙ get_or-set_same now n a 0 within

given_other : (a : ℕ) (now : List ℕ) (n p : ℕ) → p ≢ n → slice_index (slice_set now n a) p ≡ slice_index now p
given_other a now n p apart = get_or-set_other now n p a 0 apart

pub given_more : (a : ℕ) (old now new sites : List ℕ) (i n : ℕ) (was next told : Bool) → AreGiven a old now sites i was
    → n ≡ get_or sites i 0 → n < length old → new ≡ slice_set now n a → (told ≡ true → a ≢ slice_index now n) → (told ≡ false → a ≡ slice_index now n)
    → (told ≡ true → next ≡ true) → (told ≡ false → next ≡ was) → AreGiven a old new sites (i + 1) next
given_more a old now new sites i n was next told so_far at within is moved stayed turned not_so =
    let inside : n < length now = omega (arith, within, so_far.len) in
    let here : (p : ℕ) → p ≡ n → slice_index new p ≡ a = λ p e. ap (λ (xs : List ℕ). slice_index xs p) is ∙ given_at a now n p inside e in
    let there : (p : ℕ) → p ≢ n → slice_index new p ≡ slice_index now p = λ p e. ap (λ (xs : List ℕ). slice_index xs p) is ∙ given_other a now n p e in
    record {
      len = ap (λ (xs : List ℕ). length xs) is ∙ length-set now n a ∙ so_far.len;
      done = λ k l. elim (cases_eq (get_or sites k 0) n) [
        | inl same ↦ here (get_or sites k 0) same
        | inr apart ↦ elim (cases_lt k i) [
          | inl before ↦ there (get_or sites k 0) apart ∙ so_far.done k before
          | inr after ↦ (let e : k ≡ i = omega (arith, l, after) in absurd (apart (ap (λ j. get_or sites j 0) e ∙ sym at)))
        ]
      ];
      left = λ p none.
          there p (λ e. none i (omega arith) (sym at ∙ sym e)) ∙ so_far.left p (λ k l. none k (omega (arith, l)));
      both = λ p. elim (cases_eq p n) [
        | inl same ↦ inr (here p same)
        | inr apart ↦ elim (so_far.both p) [ inl kept ↦ inl (there p apart ∙ kept) | inr given ↦ inr (there p apart ∙ given) ]
      ];
      other = λ changed. elim (cases_Bool told) [
        | inl so ↦ (n, here n refl, λ e. elim (so_far.both n) [ inl kept ↦ moved so (sym (kept ∙ e)) | inr given ↦ moved so (sym given) ])
        | inr untold ↦
            let o = so_far.other (sym (not_so untold) ∙ changed) in
            (o.0, elim (cases_eq o.0 n) [ inl same ↦ here o.0 same | inr apart ↦ there o.0 apart ∙ o.1 ], o.2)
      ];
      same = λ unchanged. elim (cases_Bool told) [
        | inl so ↦ (let t = turned so in absurd (cc (t, unchanged)))
        | inr untold ↦
            is ∙ ap (slice_set now n) (stayed untold) ∙ set-get_or now n 0 ∙ so_far.same (sym (not_so untold) ∙ unchanged)
      ];
    }

listed_place : (sites : List ℕ) (p k : ℕ) → Contains sites p → (q : ℕ) × (q < length sites) × (get_or sites q 0 ≡ p)
listed_place sites p k has = (has.0, has.1, sym (get_or_default_zero sites has.0 p has.1) ∙ has.2)

place_listed : (sites : List ℕ) (p k : ℕ) → k < length sites → get_or sites k 0 ≡ p → Contains sites p
place_listed sites p k l at = (k, l, get_or_default_zero sites k p l ∙ at)

pub given_all : (a : ℕ) (old new sites : List ℕ) (i : ℕ) (changed : Bool) (took : ℕ → Bool) → AreGiven a old new sites i changed → i ≡ length sites
    → ((p : ℕ) → p < length old → took p ≡ true ↔ Contains sites p) → HasTaken a took old new
given_all a old new sites i changed took given all listed p l = elim (cases_Bool (took p)) [
  | inl one ↦
      let at = listed_place sites p 0 ((listed p l).0 one) in
      ap (slice_index new) (sym at.2) ∙ given.done at.0 (omega (arith, at.1, all)) ∙ sym (ap (λ b. cond b a (labelling old p)) one)
  | inr none ↦
      given.left p (λ k less at. (let one = (listed p l).1 (place_listed sites p k (omega (arith, less, all)) at) in cc (one, none)))
      ∙ sym (ap (λ b. cond b a (labelling old p)) none)
]

pub given_changed : (a : ℕ) (old new sites : List ℕ) (i : ℕ) (changed : Bool) → AreGiven a old new sites i changed
    → (IsTrue changed → new ≢ old) × (IsFalse changed → new ≡ old)
given_changed a old new sites i changed given = (
  (λ yes equal. (let o = given.other yes in o.2 (ap (λ (xs : List ℕ). slice_index xs o.0) (sym equal) ∙ o.1))),
  (λ no. given.same no),
)

-- ---- results

pub if_ok_map : {A E : Type 0} (P Q : A → Type 0) (r : Result A E) → ((x : A) → P x → Q x) → IfOk r P → IfOk r Q
if_ok_map P Q (Ok x) step h = step x h
if_ok_map P Q (Err e) step h = tt

pub on_ok_map : {A E : Type 0} (P Q : Type 0) (r : Result A E) → (P → Q) → OnOk r P → OnOk r Q
on_ok_map P Q (Ok x) step h = step h
on_ok_map P Q (Err e) step h = tt

pub on_ok : {A E : Type 0} (P : Type 0) (r : Result A E) → P → OnOk r P
on_ok P (Ok x) h = h
on_ok P (Err e) h = tt

-- ---- what is asked of an expansion over a metric

pub metric_allowed : (m : Instance) (a k : ℕ) (f xs : List ℕ) → IsInstance m → HasMetric m → a < m.labels → k ≡ m.labels → length f ≡ m.sites
    → xs ≡ f → All (λ label. label < k) xs → IsAllowed m (Expand a) (labelling f)
metric_allowed m a k f xs pairs metric here labels size same below =
    metric_allows m (Expand a) (labelling f) pairs metric here
    (λ p l.
    let within = below p 0 (omega (arith, l, size, ap (λ (ys : List ℕ). length ys) same)) in
    omega (arith, within, labels, ap (λ (ys : List ℕ). slice_index ys p) same))

-- ---- an expansion whose terms are tested

-- where the test of the terms is passed, they are regular
pub tested_gives : {F V : Type 0} (f : Closure F) (v : Closure V) (p : Problem F V) (m : Move) (g : ℕ → ℕ) (Q : Type 0) (r : Result Unit BuildError)
    → ((i : Instance) → IsMeant f v p i → AreTermsTested i m g r) → (((i : Instance) → IsMeant f v p i → IsAllowed i m g) → Q) → OnOk r Q
tested_gives f v p m g Q (Ok done) tested make = make tested
tested_gives f v p m g Q (Err e) tested make = tt

-- a refusal of an expansion that looks near the changes is one of the move
pub refused_cause : (refuses : SolveError → Type 0) (m : Instance) (a : ℕ) (f : List ℕ) (e : MoveError) → a < m.labels → AreTermsRegular m a f (Err e)
    → IsCutRefusal refuses e → IsCauseOfRefusal m (Expand a) f e
refused_cause refuses m a f e here tested refused = elim tested [
  | inl memory ↦ (let P : MoveError → Type 0 = λ told. IsCauseOfRefusal m (Expand a) f told in subst P (sym memory) tt)
  | inr allowed ↦ cut_refusal refuses m (Expand a) f e here allowed tt refused
]
