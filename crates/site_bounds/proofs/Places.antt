-- The places of a site's part, as the loop over them reads them.
use Rattle.std.proofs.Common.{◌≡◌, ◌≢◌, ℕ, ◌+◌, ◌-◌, ◌*◌, ◌<◌, ◌≤◌, Bool, List, Some, Contains, Result, Ok, Err, OnOk, [], ◌∷◌, ◌++◌, sym, ap, ◌∙◌, inl, inr, subst, arith}
use Rattle.std.proofs.lemmas.List.Elements.{All-pop, Contains-push_cases}
use Rattle.move_energy.specs.declared.by_site.Neighbours.{Neighbours}
use Rattle.label_field.specs.PairLists.{PairList, IsPairList}
use Rattle.move_energy.specs.BySite.{neighbours_start, AreBySite}
use Rattle.label_energies.specs.declared.change.Move.{Move}
use Rattle.label_energies.specs.Energies.{Instance}
use Rattle.move_energy.specs.declared.choice.Choice.{Choice}
use Rattle.move_energy.specs.declared.choice.Choice.TheVariants.{Open}
use Rattle.move_energy.specs.Choices.{bit_of, choice_at}
use Rattle.site_bounds.specs.declared.bounds.Bounds.{Bounds}
use Rattle.site_bounds.specs.Decisions.{with_decisions}
use Rattle.site_bounds.specs.Working.{bound_at, budget_of, IsWithinRange, IsLooking, AreWaiting, AreWaitingBut, ArePartlyDecided, CanDecide}
use Rattle.site_bounds.proofs.Ranges.{range_wider, below_not, tells_same}
use Rattle.move_energy.proofs.Places.{degree_most}

-- the range while places are looked at
pub range_step : (start place : ℕ) (first old new : Bounds) → start ≤ place → IsLooking 1 old new
    → ((most : ℕ) → IsWithinRange most first → IsWithinRange (most + 20000000 * (place - start)) old)
    → (most : ℕ) → IsWithinRange most first → IsWithinRange (most + 20000000 * (place + 1 - start)) new
range_step start place first old new l looking range most within =
    range_wider (most + 20000000 * (place - start) + 20000000 * 1) (most + 20000000 * (place + 1 - start)) new (omega (arith, l))
    (looking.range (most + 20000000 * (place - start)) (range most within))

pub range_enough : (pairs : PairList) (ends : Neighbours) (site place : ℕ) (first now : Bounds) → AreBySite pairs ends → IsPairList pairs → site < pairs.sites → neighbours_start ends site ≤ place → place < neighbours_start ends (site + 1)
    → ((most : ℕ) → IsWithinRange most first → IsWithinRange (most + 20000000 * (place - neighbours_start ends site)) now) → IsWithinRange 576460752303423488 first
    → IsWithinRange 1152921504606846976 now
range_enough pairs ends site place first now by_site list inside from to range within =
    let most = degree_most pairs ends site by_site inside in
    range_wider _ 1152921504606846976 now (omega (arith, most, from, to, list.count)) (range 576460752303423488 within)

-- the loop's facts of a problem
pub site_free : (m : Instance) (move : Move) (f : ℕ → ℕ) (site : ℕ) (b : Bool) (old : Bounds) (n : ℕ) → (decided : ArePartlyDecided m move f n old) → site < m.sites → choice_at old.choices.items site ≡ Open
    → with_decisions decided.decisions (λ v. b) site ≡ b
site_free m move f site b old n decided l opened = decided.shown (λ v. b) site l ∙ ap (λ (c : Choice). bit_of c b) opened

-- ---- one site after another

pub on_ok_two : {T E : Type 0} (r : Result T E) (P Q R : Type 0) → (P → Q → R) → OnOk r P → OnOk r Q → OnOk r R
on_ok_two (Ok v) P Q R f p q = f p q
on_ok_two (Err e) P Q R f p q = tt

pub room_grows : (old new d most : ℕ) (was b : Bounds) → new + d ≡ old → old ≤ 2 * most → most ≤ 4194304 → ((n : ℕ) → IsWithinRange n was → IsWithinRange (n + 20000000 * d) b)
    → IsWithinRange (budget_of old) was → IsWithinRange (budget_of new) b
room_grows old new d most was b less few limit range within =
    range_wider (budget_of old + 20000000 * d) (budget_of new) b (omega (arith, less, few, limit)) (range (budget_of old) within)

-- the waiting sites are not part of what was decided
pub partly_same : (m : Instance) (move : Move) (f : ℕ → ℕ) (n : ℕ) (old new : Bounds) → new.choices ≡ old.choices → new.least ≡ old.least → new.greatest ≡ old.greatest
    → ArePartlyDecided m move f n old → ArePartlyDecided m move f n new
partly_same m move f n old new cs ls gs decided = record {
  decisions = decided.decisions;
  passed = decided.passed;
  shown = λ x p l. decided.shown x p l ∙ ap (λ (v : _). bit_of (choice_at v.items p) (x p)) (sym cs);
  least = λ u l opened. ap (λ (v : _). bound_at v.items u) ls ∙ decided.least u l (ap (λ (v : _). choice_at v.items u) (sym cs) ∙ opened);
  greatest = λ u l opened. ap (λ (v : _). bound_at v.items u) gs ∙ decided.greatest u l (ap (λ (v : _). choice_at v.items u) (sym cs) ∙ opened);
}

-- the last that waits is taken
popped_contains : (xs : List ℕ) (v u : ℕ) → u ≢ v → Contains (xs ++ v ∷ []) u → Contains xs u
popped_contains xs v u other inside = elim (Contains-push_cases xs v u inside) [
  | inl before ↦ before
  | inr here ↦ absurd (other (sym here))
]

pub popped_waits : (n site : ℕ) (old new : Bounds) → old.waiting.items ≡ new.waiting.items ++ site ∷ [] → new.choices ≡ old.choices → new.least ≡ old.least → new.greatest ≡ old.greatest
    → AreWaiting n old → (site < n) × AreWaitingBut n site new
popped_waits n site old new items cs ls gs waiting =
    let all = All-pop (λ u. u < n) old.waiting.items new.waiting.items (Some site) items waiting.sites in (
      all.1,
      record {
        sites = all.0;
        each = λ u l other opened tells.
            let C : List ℕ → Type 0 = λ xs. Contains xs u in
            popped_contains new.waiting.items site u other
            (subst C items (waiting.each u l (below_not u n l) (ap (λ (v : _). choice_at v.items u) (sym cs) ∙ opened)
            (tells_same old new u (ap (λ (v : _). bound_at v.items u) ls) (ap (λ (v : _). bound_at v.items u) gs) tells)));
      },
    )

-- nothing waits any more
pub none_waits : (n : ℕ) (b : Bounds) → b.waiting.items ≡ [] → AreWaiting n b → (u : ℕ) → u < n → choice_at b.choices.items u ≡ Open → ¬ CanDecide b u
none_waits n b none waiting u l opened tells =
    let C : List ℕ → Type 0 = λ xs. Contains xs u in
    let inside = subst C none (waiting.each u l (below_not u n l) opened tells) in
    absurd (omega (arith, inside.1))
