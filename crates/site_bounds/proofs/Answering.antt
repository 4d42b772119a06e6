-- A site that no open one before it is beside is decided as soon as it is summed.
use Rattle.std.proofs.Common.{◌≡◌, ◌≢◌, ℕ, ◌+◌, ◌<◌, ◌≤◌, Bool, true, false, List, ◌∷◌, length, ◌+ℤ◌, sym, ap, ◌∙◌, inl, inr, subst, arith}
use Rattle.std.proofs.lemmas.Bool.{cases_eq}
use Rattle.std.proofs.lemmas.List.Elements.{All-get_or}
use Rattle.sums.proofs.IntegerSumLemmas.{int_sum_below-same}
use Rattle.label_field.specs.declared.pair.Pair.{Pair}
use Rattle.label_field.specs.PairLists.{IsPair}
use Rattle.label_energies.specs.declared.change.Move.{Move}
use Rattle.label_energies.specs.Energies.{Instance, IsInstance}
use Rattle.move_energy.specs.declared.by_site.Neighbours.{Neighbours}
use Rattle.move_energy.specs.BySite.{AreNeighboursOf, grouped_at}
use Rattle.move_energy.specs.declared.choice.Choice.{Choice}
use Rattle.move_energy.specs.declared.choice.Choice.TheVariants.{Open}
use Rattle.move_energy.specs.Choices.{bit_of, choice_at}
use Rattle.move_energy.proofs.PairEnds.{Touches, touching_found}
use Rattle.site_bounds.specs.declared.bounds.Bounds.{Bounds}
use Rattle.move_energy.specs.Assignments.{set_bit, rise}
use Rattle.site_bounds.specs.Decisions.{with_decisions}
use Rattle.move_energy.specs.MoveValues.{move_value, data_rise, pair_rise}
use Rattle.move_energy.specs.Ends.{AvoidsSite, HasNoneBefore}
use Rattle.site_bounds.specs.Working.{bound_at, open_ends, greatest_total, IsSummed, IsWithinRange, IsMarked, IsAnswered, TellsValue, AreWaiting, AreWaitingBut, ArePartlyDecided}
use Rattle.move_energy.proofs.Assignments.{set_at, set_other}
use Rattle.move_energy.proofs.Rising.{pair_rise-none}
use Rattle.site_bounds.proofs.Seeing.{pair_rise-same}
use Rattle.site_bounds.proofs.Spreading.{pair_in, rise_by_places, passes_of}
use Rattle.site_bounds.proofs.Left.{left_less}
use Rattle.site_bounds.proofs.Ranges.{called_waits, decided_waits, summed_same, marked_summed, range_same, marked_range, total_same, marked_total}
use Rattle.site_bounds.proofs.Places.{partly_same}

-- a pair's rise does not depend on a site that has no pair with this one
rise_apart : (m : Instance) (move : Move) (f : ℕ → ℕ) (u site : ℕ) (value : Bool) (x : ℕ → Bool) (pair : Pair) → pair.first ≢ pair.second → (Touches site pair → AvoidsSite u pair)
    → pair_rise m move f u x pair ≡ pair_rise m move f u (set_bit x site value) pair
rise_apart m move f u site value x pair unequal avoids = elim (cases_eq pair.first site) [
  | inl first ↦ (let off = avoids (inl first) in pair_rise-none m move f u x pair off.0 off.1 ∙ sym (pair_rise-none m move f u (set_bit x site value) pair off.0 off.1))
  | inr apart ↦ elim (cases_eq pair.second site) [
    | inl second ↦ (let off = avoids (inr second) in pair_rise-none m move f u x pair off.0 off.1 ∙ sym (pair_rise-none m move f u (set_bit x site value) pair off.0 off.1))
    | inr neither ↦
        pair_rise-same m move f u x (set_bit x site value) pair unequal (sym (set_other x site pair.first value apart)) (sym (set_other x site pair.second value neither))
  ]
]

-- nor does its own rise
stays_apart : (m : Instance) (move : Move) (f : ℕ → ℕ) (u site : ℕ) (value : Bool) (x : ℕ → Bool) → IsInstance m → u < m.sites
    → ((k : ℕ) → k < length m.pairs → Touches site (pair_in m.pairs k) → AvoidsSite u (pair_in m.pairs k))
    → rise (move_value m move f) u x ≡ rise (move_value m move f) u (set_bit x site value)
stays_apart m move f u site value x are inside avoids =
    rise_by_places m move f u x inside
    ∙ ap (λ s. data_rise m move f u +ℤ s)
    (int_sum_below-same (length m.pairs) (λ k. pair_rise m move f u x (pair_in m.pairs k)) (λ k. pair_rise m move f u (set_bit x site value) (pair_in m.pairs k))
    (λ k l. rise_apart m move f u site value x (pair_in m.pairs k) ((All-get_or (IsPair m.sites) m.pairs k _ l are).unequal) (avoids k l)))
    ∙ sym (rise_by_places m move f u (set_bit x site value) inside)

-- the pairs of a site that has none before it
none_avoids : (m : Instance) (ends : Neighbours) (choices : List Choice) (site u : ℕ) → AreNeighboursOf m ends → site < m.sites → HasNoneBefore choices ends site → u < site → choice_at choices u ≡ Open
    → (k : ℕ) → k < length m.pairs → Touches site (pair_in m.pairs k) → AvoidsSite u (pair_in m.pairs k)
none_avoids m ends choices site u b inside none below opened k l touches =
    let G = grouped_at ends b.places in
    let found = touching_found m.pairs m.sites site k (record { first = 0; second = 0; weight = 0 }) G b.grouped l touches in
    let P : Pair → Type 0 = λ pair. AvoidsSite u pair in
    subst P (b.each site found.0 inside found.1 found.2 ∙ ap (pair_in m.pairs) found.3) (none found.0 u found.1 found.2 below opened)

-- it is decided, and no bound has to be changed
marked_decides : (m : Instance) (move : Move) (f : ℕ → ℕ) (ends : Neighbours) (site : ℕ) (value : Bool) (old new : Bounds) → IsInstance m → AreNeighboursOf m ends → site < m.sites
    → HasNoneBefore old.choices.items ends site → choice_at old.choices.items site ≡ Open → TellsValue old site value → IsMarked site value old new
    → ArePartlyDecided m move f (site + 1) old → ArePartlyDecided m move f (site + 1) new
marked_decides m move f ends site value old new are b inside none opened tells marked decided =
    let ds = decided.decisions in
    let off = λ (u : ℕ) (now : choice_at new.choices.items u ≡ Open) (same : u ≡ site). marked.closed (ap (choice_at new.choices.items) (sym same) ∙ now) in
    let was = λ (u : ℕ) (now : choice_at new.choices.items u ≡ Open). sym (marked.others u (off u now)) ∙ now in
    let stays = λ (u : ℕ) (l : u < site + 1) (now : choice_at new.choices.items u ≡ Open) (x : ℕ → Bool).
    (let apart = off u now in
    let below : u < site = omega (arith, l, apart) in
    stays_apart m move f u site value x are (omega (arith, below, inside)) (none_avoids m ends old.choices.items site u b inside none below (was u now))) in
    record {
      decisions = record { variable = site; value = value } ∷ ds;
      passed = (decided.passed, passes_of m move f (site + 1) site value old decided (omega arith) opened tells);
      shown = λ x p l. elim (cases_eq p site) [
        | inl same ↦ set_at (with_decisions ds x) site p value same ∙ sym (marked.own (x p)) ∙ ap (λ q. bit_of (choice_at new.choices.items q) (x p)) (sym same)
        | inr other ↦ set_other (with_decisions ds x) site p value other ∙ decided.shown x p l ∙ ap (λ (c : Choice). bit_of c (x p)) (sym (marked.others p other))
      ];
      least = λ u l now. ap (λ (v : _). bound_at v.items u) marked.least ∙ decided.least u l (was u now) ∙ stays u l now (with_decisions ds (λ v. true));
      greatest = λ u l now. ap (λ (v : _). bound_at v.items u) marked.greatest ∙ decided.greatest u l (was u now) ∙ stays u l now (with_decisions ds (λ v. false));
    }

-- ---- the two ways

pub answered_count : (site : ℕ) (beside : Bool) (old new : Bounds) → IsAnswered site beside old new → new.summed ≡ old.summed
answered_count site beside old new (inl calls) = calls.4
answered_count site beside old new (inr marks) = marks.1.summed

pub answered_range : (site most : ℕ) (beside : Bool) (old new : Bounds) → IsAnswered site beside old new → IsWithinRange most old → IsWithinRange most new
answered_range site most beside old new (inl calls) within = range_same old new most calls.1 calls.4 calls.2 calls.3 within
answered_range site most beside old new (inr marks) within = marked_range site most marks.0 old new marks.1 within

pub answered_total : (site : ℕ) (beside : Bool) (old new : Bounds) → IsAnswered site beside old new → greatest_total new ≤ greatest_total old
answered_total site beside old new (inl calls) = (let e = total_same old new calls.1 calls.3 calls.4 in omega (arith, e))
answered_total site beside old new (inr marks) = marked_total site marks.0 old new marks.1

pub answered_summed : (n site : ℕ) (beside : Bool) (old new : Bounds) → IsAnswered site beside old new → IsSummed n old → IsSummed n new
answered_summed n site beside old new (inl calls) was = summed_same n old new calls.1 calls.2 calls.3 calls.4 was
answered_summed n site beside old new (inr marks) was = marked_summed n site marks.0 old new marks.1 was

pub answered_waits : (n site : ℕ) (beside : Bool) (old new : Bounds) → site < n → IsAnswered site beside old new → AreWaitingBut n site old → AreWaiting n new
answered_waits n site beside old new l (inl calls) but = called_waits n site old new l calls.1 calls.2 calls.3 calls.0 but
answered_waits n site beside old new l (inr marks) but = decided_waits n site marks.0 old new marks.1 but

pub answered_left : (ends : Neighbours) (n site : ℕ) (beside : Bool) (old new : Bounds) → site < n → choice_at old.choices.items site ≡ Open → IsAnswered site beside old new
    → open_ends ends n new.choices.items ≤ open_ends ends n old.choices.items
answered_left ends n site beside old new l opened (inl calls) = (let same = ap (λ (v : _). open_ends ends n v.items) calls.1 in omega (arith, same))
answered_left ends n site beside old new l opened (inr marks) =
    let less = left_less ends n site old.choices.items new.choices.items l opened marks.1.closed marks.1.others in
    omega (arith, less)

pub answered_decides : (m : Instance) (move : Move) (f : ℕ → ℕ) (ends : Neighbours) (site : ℕ) (beside : Bool) (old new : Bounds) → IsInstance m → AreNeighboursOf m ends → site < m.sites
    → (beside ≡ false → HasNoneBefore old.choices.items ends site) → choice_at old.choices.items site ≡ Open → IsAnswered site beside old new
    → ArePartlyDecided m move f (site + 1) old → ArePartlyDecided m move f (site + 1) new
answered_decides m move f ends site beside old new are b inside none opened (inl calls) decided = partly_same m move f (site + 1) old new calls.1 calls.2 calls.3 decided
answered_decides m move f ends site beside old new are b inside none opened (inr marks) decided =
    marked_decides m move f ends site marks.0 old new are b inside (none marks.3) opened marks.2 marks.1 decided
