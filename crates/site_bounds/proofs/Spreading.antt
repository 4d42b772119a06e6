-- The pairs of a site that was decided, seen one after another.
use Rattle.std.proofs.Common.{◌≡◌, ◌≢◌, ℕ, ◌+◌, ◌/◌, ◌<◌, ◌≤◌, Bool, true, false, cond, eqb, List, [], ◌∷◌, length, get_or, ℤ, pos, ◌+ℤ◌, ◌-ℤ◌, ◌≤ℤ◌, ◌<ℤ◌, refl, sym, ap, ◌∙◌, inl, inr, subst, arith}
use Rattle.std.proofs.lemmas.Int.{ints}
use Rattle.std.proofs.lemmas.Bool.{cases_eq, cases_Bool}
use Rattle.std.proofs.lemmas.Bool.Decides.{nat_tests}
use Rattle.std.proofs.lemmas.List.Elements.{All-get_or}
use Rattle.sums.specs.IntegerSums.{int_sum_by, int_sum_below}
use Rattle.sums.proofs.IntegerSumLemmas.{int_sum_below-same, int_sum_below-change, int_sum_below-front}
use Rattle.counting_sort.specs.declared.Groups.{Groups}
use Rattle.counting_sort.specs.Grouping.{IsGrouped, start_of, place_at}
use Rattle.label_field.specs.declared.pair.Pair.{Pair}
use Rattle.label_field.specs.PairLists.{IsPair}
use Rattle.move_energy.specs.BySite.{pair_ends}
use Rattle.label_energies.specs.declared.change.Move.{Move}
use Rattle.label_energies.specs.Energies.{Instance, IsInstance}
use Rattle.move_energy.specs.declared.choice.Choice.{Choice}
use Rattle.move_energy.specs.declared.choice.Choice.TheVariants.{Open}
use Rattle.move_energy.specs.Choices.{bit_of, choice_at}
use Rattle.site_bounds.specs.declared.bounds.Bounds.{Bounds}
use Rattle.move_energy.specs.Assignments.{set_bit, rise}
use Rattle.site_bounds.specs.Decisions.{Decision, with_decisions, Passes}
use Rattle.move_energy.specs.MoveValues.{move_value, data_rise, pair_rise}
use Rattle.site_bounds.specs.Working.{bound_at, TellsValue, IsMarked, ArePartlyDecided, SeesPair}
use Rattle.move_energy.proofs.Assignments.{set_at, set_other}
use Rattle.move_energy.proofs.Rising.{rise_parts}
use Rattle.site_bounds.proofs.Seeing.{pair_rise-same}
use Rattle.move_energy.proofs.PairEnds.{Touches, end_touches, touching_found, apart_pairs}

-- the pair at a place of the list
abbrev pub pair_in : List Pair → ℕ → Pair
pair_in pairs k = get_or pairs k (record { first = 0; second = 0; weight = 0 })

by_places : (f : Pair → ℤ) (pairs : List Pair) → int_sum_by f pairs ≡ int_sum_below (length pairs) (λ k. f (pair_in pairs k))
by_places f [] = refl
by_places f (p ∷ ps) = omega (arith, ints, by_places f ps, int_sum_below-front (length ps) (λ k. f (pair_in (p ∷ ps) k)))

-- the rise of a site, pair by pair
pub rise_by_places : (m : Instance) (move : Move) (f : ℕ → ℕ) (u : ℕ) (x : ℕ → Bool) → u < m.sites
    → rise (move_value m move f) u x ≡ data_rise m move f u +ℤ int_sum_below (length m.pairs) (λ k. pair_rise m move f u x (pair_in m.pairs k))
rise_by_places m move f u x l = rise_parts m move f u x l ∙ ap (λ s. data_rise m move f u +ℤ s) (by_places (pair_rise m move f u x) m.pairs)

-- of the pairs that were seen what is new, of the others what is old
abbrev pub mixed : (ℕ → Bool) → (ℕ → ℤ) → (ℕ → ℤ) → ℕ → ℤ
mixed seen old new k = cond (seen k) (new k) (old k)

abbrev pub and_at : (ℕ → Bool) → ℕ → ℕ → Bool
and_at seen here k = cond (eqb k here) true (seen k)

at_here : (seen : ℕ → Bool) (k : ℕ) → and_at seen k k ≡ true
at_here seen k = grind (arith, nat_tests)

at_other : (seen : ℕ → Bool) (here k : ℕ) → k ≢ here → and_at seen here k ≡ seen k
at_other seen here k h = grind (arith, nat_tests)

pub mixed_more : (n here : ℕ) (seen : ℕ → Bool) (old new : ℕ → ℤ) → here < n → seen here ≡ false
    → int_sum_below n (mixed (and_at seen here) old new) +ℤ old here ≡ int_sum_below n (mixed seen old new) +ℤ new here
mixed_more n here seen old new l unseen =
    let change = int_sum_below-change n here (mixed seen old new) (mixed (and_at seen here) old new) l
    (λ i k other. ap (λ b. cond b (new i) (old i)) (sym (at_other seen here i other))) in
    let was : mixed seen old new here ≡ old here = ap (λ b. cond b (new here) (old here)) unseen in
    let is : mixed (and_at seen here) old new here ≡ new here = ap (λ b. cond b (new here) (old here)) (at_here seen here) in
    omega (arith, ints, change, was, is)

-- a bound while the pairs are seen
pub step_one : (n here : ℕ) (seen : ℕ → Bool) (d b c : ℤ) (old new : ℕ → ℤ) → here < n → seen here ≡ false → b ≡ d +ℤ int_sum_below n (mixed seen old new)
    → c ≡ b +ℤ (new here -ℤ old here) → c ≡ d +ℤ int_sum_below n (mixed (and_at seen here) old new)
step_one n here seen d b c old new l unseen was is =
    let more = mixed_more n here seen old new l unseen in
    omega (arith, ints, was, is, more)

-- ---- the loop over the places of a site's part

pub record IsSpread (m : Instance) (move : Move) (f : ℕ → ℕ) (n : ℕ) (ds : List Decision) (site : ℕ) (value : Bool) (ends : Groups) (place : ℕ) (b : Bounds) : Type 0 where
  pub seen : ℕ → Bool
  pub least : (u : ℕ) → u < n → u ≢ site → choice_at b.choices.items u ≡ Open
      → bound_at b.least.items u ≡ data_rise m move f u +ℤ int_sum_below (length m.pairs)
      (mixed seen (λ k. pair_rise m move f u (with_decisions ds (λ v. true)) (pair_in m.pairs k)) (λ k. pair_rise m move f u (set_bit (with_decisions ds (λ v. true)) site value) (pair_in m.pairs k)))
  pub greatest : (u : ℕ) → u < n → u ≢ site → choice_at b.choices.items u ≡ Open
      → bound_at b.greatest.items u ≡ data_rise m move f u +ℤ int_sum_below (length m.pairs)
      (mixed seen (λ k. pair_rise m move f u (with_decisions ds (λ v. false)) (pair_in m.pairs k)) (λ k. pair_rise m move f u (set_bit (with_decisions ds (λ v. false)) site value) (pair_in m.pairs k)))
  pub to_see : (k : ℕ) → k < length m.pairs → seen k ≡ false → Touches site (pair_in m.pairs k)
      → (p : ℕ) × (place ≤ p) × (p < start_of ends (site + 1)) × (place_at ends p / 2 ≡ k)
  pub unseen : (p : ℕ) → place ≤ p → p < start_of ends (site + 1) → seen (place_at ends p / 2) ≡ false

-- before the first: the site's own choice was set
pub spread_start : (m : Instance) (move : Move) (f : ℕ → ℕ) (site : ℕ) (value : Bool) (ends : Groups) (old new : Bounds) (n : ℕ) → n ≤ m.sites
    → IsGrouped m.sites (pair_ends m.pairs) ends → (decided : ArePartlyDecided m move f n old) → IsMarked site value old new
    → IsSpread m move f n decided.decisions site value ends (start_of ends site) new
spread_start m move f site value ends old new n most grouped decided marked = record {
  seen = λ k. false;
  least = λ u l off opened.
      ap (λ (v : _). bound_at v.items u) marked.least ∙ decided.least u l (sym (marked.others u off) ∙ opened) ∙ rise_by_places m move f u (with_decisions decided.decisions (λ v. true)) (omega (arith, l, most));
  greatest = λ u l off opened.
      ap (λ (v : _). bound_at v.items u) marked.greatest ∙ decided.greatest u l (sym (marked.others u off) ∙ opened) ∙ rise_by_places m move f u (with_decisions decided.decisions (λ v. false)) (omega (arith, l, most));
  to_see = λ k l un touches. touching_found m.pairs m.sites site k _ ends grouped l touches;
  unseen = λ p from to. refl;
}

later : (a b : ℕ) → a ≤ b → a ≢ b → a + 1 ≤ b
later a b h k = omega (arith, h, k)

-- one more
pub spread_step : (m : Instance) (move : Move) (f : ℕ → ℕ) (n : ℕ) (ds : List Decision) (site : ℕ) (value : Bool) (ends : Groups) (place : ℕ) (pair : Pair) (old new : Bounds)
    → IsInstance m → IsGrouped m.sites (pair_ends m.pairs) ends → site < m.sites → start_of ends site ≤ place → place < start_of ends (site + 1)
    → pair_in m.pairs (place_at ends place / 2) ≡ pair → with_decisions ds (λ v. true) site ≡ true → with_decisions ds (λ v. false) site ≡ false
    → new.choices ≡ old.choices → SeesPair m move f n site value pair old new → IsSpread m move f n ds site value ends place old
    → IsSpread m move f n ds site value ends (place + 1) new
spread_step m move f n ds site value ends place pair old new are grouped inside from to read one none same sees spread =
    let here = place_at ends place / 2 in
    let at = grouped.places site place inside from to in
    let within = (end_touches m.pairs site (place_at ends place) (record { first = 0; second = 0; weight = 0 }) at.0 at.1).0 in
    let fresh = spread.unseen place (omega arith) to in
    let was = λ (u : ℕ) (opened : choice_at new.choices.items u ≡ Open). ap (λ (v : _). choice_at v.items u) (sym same) ∙ opened in
    record {
      seen = and_at spread.seen here;
      least = λ u l off opened.
          step_one (length m.pairs) here spread.seen (data_rise m move f u) (bound_at old.least.items u) (bound_at new.least.items u)
          (λ k. pair_rise m move f u (with_decisions ds (λ v. true)) (pair_in m.pairs k)) (λ k. pair_rise m move f u (set_bit (with_decisions ds (λ v. true)) site value) (pair_in m.pairs k)) within fresh
          (spread.least u l off (was u opened))
          (sees.least (with_decisions ds (λ v. true)) u one l off (was u opened)
          ∙ ap (λ p. bound_at old.least.items u +ℤ (pair_rise m move f u (set_bit (with_decisions ds (λ v. true)) site value) p -ℤ pair_rise m move f u (with_decisions ds (λ v. true)) p)) (sym read));
      greatest = λ u l off opened.
          step_one (length m.pairs) here spread.seen (data_rise m move f u) (bound_at old.greatest.items u) (bound_at new.greatest.items u)
          (λ k. pair_rise m move f u (with_decisions ds (λ v. false)) (pair_in m.pairs k)) (λ k. pair_rise m move f u (set_bit (with_decisions ds (λ v. false)) site value) (pair_in m.pairs k)) within fresh
          (spread.greatest u l off (was u opened))
          (sees.greatest (with_decisions ds (λ v. false)) u none l off (was u opened)
          ∙ ap (λ p. bound_at old.greatest.items u +ℤ (pair_rise m move f u (set_bit (with_decisions ds (λ v. false)) site value) p -ℤ pair_rise m move f u (with_decisions ds (λ v. false)) p)) (sym read));
      to_see = λ k l un touches. elim (cases_eq k here) [
        | inl equal ↦ absurd (let e = sym (ap (and_at spread.seen here) equal ∙ at_here spread.seen here) ∙ un in cc (e))
        | inr other ↦
            let found = spread.to_see k l (sym (at_other spread.seen here k other) ∙ un) touches in
            (found.0, later place found.0 found.1 (λ equal. other (sym found.3 ∙ ap (λ p. place_at ends p / 2) (sym equal))), found.2, found.3)
      ];
      unseen = λ p past below.
          at_other spread.seen here (place_at ends p / 2) (apart_pairs m.pairs m.sites site place p (record { first = 0; second = 0; weight = 0 }) ends are grouped inside from (omega (arith, past)) below)
          ∙ spread.unseen p (omega (arith, past)) below;
    }

touch_none : (site : ℕ) (pair : Pair) → ¬ Touches site pair → (pair.first ≢ site) × (pair.second ≢ site)
touch_none site pair off = ((λ first. off (inl first)), λ second. off (inr second))

-- every pair of the site was seen: the sums are those with the site's value
all_seen : (m : Instance) (move : Move) (f : ℕ → ℕ) (site : ℕ) (value : Bool) (u : ℕ) (x : ℕ → Bool) (seen : ℕ → Bool) → IsInstance m
    → ((k : ℕ) → k < length m.pairs → seen k ≡ false → ¬ Touches site (pair_in m.pairs k))
    → int_sum_below (length m.pairs) (mixed seen (λ k. pair_rise m move f u x (pair_in m.pairs k)) (λ k. pair_rise m move f u (set_bit x site value) (pair_in m.pairs k)))
    ≡ int_sum_below (length m.pairs) (λ k. pair_rise m move f u (set_bit x site value) (pair_in m.pairs k))
all_seen m move f site value u x seen are none =
    int_sum_below-same (length m.pairs) _ (λ k. pair_rise m move f u (set_bit x site value) (pair_in m.pairs k)) (λ k l. elim (cases_Bool (seen k)) [
      | inl was ↦ ap (λ b. cond b (pair_rise m move f u (set_bit x site value) (pair_in m.pairs k)) (pair_rise m move f u x (pair_in m.pairs k))) was
      | inr not ↦
          let apart = touch_none site (pair_in m.pairs k) (none k l not) in
          ap (λ b. cond b (pair_rise m move f u (set_bit x site value) (pair_in m.pairs k)) (pair_rise m move f u x (pair_in m.pairs k))) not
          ∙ pair_rise-same m move f u x (set_bit x site value) (pair_in m.pairs k) ((All-get_or (IsPair m.sites) m.pairs k _ l are).unequal)
          (sym (set_other x site (pair_in m.pairs k).first value apart.0)) (sym (set_other x site (pair_in m.pairs k).second value apart.1))
    ])

pub passes_of : (m : Instance) (move : Move) (f : ℕ → ℕ) (n site : ℕ) (value : Bool) (old : Bounds) → (decided : ArePartlyDecided m move f n old) → site < n
    → choice_at old.choices.items site ≡ Open → TellsValue old site value → Passes (move_value m move f) decided.decisions site value
passes_of m move f n site false old decided l opened tells = (let e = decided.least site l opened in let P : ℤ → Type 0 = λ z. pos 0 ≤ℤ z in subst P e tells)
passes_of m move f n site true old decided l opened tells = (let e = decided.greatest site l opened in let P : ℤ → Type 0 = λ z. z <ℤ pos 0 in subst P e tells)

-- after the last
pub spread_end : (m : Instance) (move : Move) (f : ℕ → ℕ) (n site : ℕ) (value : Bool) (ends : Groups) (place : ℕ) (old mid new : Bounds)
    → IsInstance m → n ≤ m.sites → site < n → (decided : ArePartlyDecided m move f n old) → choice_at old.choices.items site ≡ Open → TellsValue old site value
    → IsMarked site value old mid → new.choices ≡ mid.choices
    → start_of ends (site + 1) ≤ place → IsSpread m move f n decided.decisions site value ends place new → ArePartlyDecided m move f n new
spread_end m move f n site value ends place old mid new are most inside decided was tells marked same past spread =
    let choices = ap (λ (v : _). v.items) same in
    let others = λ (u : ℕ) (off : u ≢ site). ap (λ (xs : List Choice). choice_at xs u) choices ∙ marked.others u off in
    let own = λ (b : Bool). ap (λ (xs : List Choice). bit_of (choice_at xs site) b) choices ∙ marked.own b in
    let closed = λ (opened : choice_at new.choices.items site ≡ Open). marked.closed (sym (ap (λ (xs : List Choice). choice_at xs site) choices) ∙ opened) in
    let ds = decided.decisions in
    let none : (k : ℕ) → k < length m.pairs → spread.seen k ≡ false → ¬ Touches site (pair_in m.pairs k) =
    λ k l un touches. (let found = spread.to_see k l un touches in absurd (omega (arith, found.1, found.2, past))) in
    let another = λ (u : ℕ) (opened : choice_at new.choices.items u ≡ Open) (same : u ≡ site). closed (ap (choice_at new.choices.items) (sym same) ∙ opened) in
    record {
      decisions = record { variable = site; value = value } ∷ ds;
      passed = (decided.passed, passes_of m move f n site value old decided inside was tells);
      shown = λ x p l. elim (cases_eq p site) [
        | inl same ↦ set_at (with_decisions ds x) site p value same ∙ sym (own (x p)) ∙ ap (λ q. bit_of (choice_at new.choices.items q) (x p)) (sym same)
        | inr other ↦ set_other (with_decisions ds x) site p value other ∙ decided.shown x p l ∙ ap (λ (c : Choice). bit_of c (x p)) (sym (others p other))
      ];
      least = λ u l opened.
          spread.least u l (another u opened) opened ∙ ap (λ s. data_rise m move f u +ℤ s) (all_seen m move f site value u (with_decisions ds (λ v. true)) spread.seen are none)
          ∙ sym (rise_by_places m move f u (set_bit (with_decisions ds (λ v. true)) site value) (omega (arith, l, most)));
      greatest = λ u l opened.
          spread.greatest u l (another u opened) opened ∙ ap (λ s. data_rise m move f u +ℤ s) (all_seen m move f site value u (with_decisions ds (λ v. false)) spread.seen are none)
          ∙ sym (rise_by_places m move f u (set_bit (with_decisions ds (λ v. false)) site value) (omega (arith, l, most)));
    }
