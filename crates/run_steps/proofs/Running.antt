-- A cycle of moves, and where it stops.
use Rattle.std.proofs.Common.{◌≡◌, ◌≢◌, ℕ, ◌+◌, ◌<◌, ◌≤◌, Bool, true, false, List, [], ◌∷◌, ◌++◌, length, take, drop, get_or, IsTrue, Some, refl, sym, ap, ◌∙◌, subst, arith, drop-cons, suc, inl, inr}
use Rattle.std.specs.Prelude.{IsFalse, slice_get}
use Rattle.std.specs.List.{All}
use Rattle.std.proofs.lemmas.Bool.{cases_Bool, cases_eq}
use Rattle.std.proofs.lemmas.List.{take_more, take_all, take-append-drop, get_or-drop, length-drop}
use Rattle.std.proofs.lemmas.Option.{get_or_from_slice_get, slice_get-get_or, slice_get_within}
use Rattle.label_energies.specs.declared.change.Move.{Move}
use Rattle.label_energies.specs.Energies.{Instance, IsInstance, energy, labelling}
use Rattle.label_energies.specs.Moves.{IsAllowed, IsBest}
use Rattle.label_energies.specs.Chains.{MovesLead}
use Rattle.label_energies.proofs.Best.{best-le}
use Rattle.label_energies.proofs.Repeating.{best_again, allowed_again}
use Rattle.label_energies.proofs.Chains.{leads_more, leads-append, best-lower}
use Rattle.run_steps.specs.Cycles.{AreBestFrom, IsSoFar}

pub so_far_starts : (m : Instance) (moves : List Move) (f : List ℕ) (last : ℕ) → AreBestFrom m moves last f → IsSoFar m moves 0 f f false last
so_far_starts m moves f last known = record {
  leads = refl;
  lower = λ turned. absurd (cc turned);
  same = λ still. refl;
  passed = λ turned. absurd (cc turned);
  known = λ i move l within here. known i move l here;
}

pub one_move : (moves : List Move) (i : ℕ) (a b : Move) → slice_get moves i ≡ Some a → slice_get moves i ≡ Some b → a ≡ b
one_move moves i a b first second = sym (get_or_from_slice_get moves i a a first) ∙ get_or_from_slice_get moves i b a second

-- the moves up to one more, and the whole list around a move
pub moves_more : (moves : List Move) (i : ℕ) (move : Move) → slice_get moves i ≡ Some move → take (i + 1) moves ≡ take i moves ++ move ∷ []
moves_more moves i move here =
    take_more moves i move (slice_get_within moves i move here)
    ∙ ap (λ mv. take i moves ++ mv ∷ []) (get_or_from_slice_get moves i move move here)

pub moves_split : (moves : List Move) (i : ℕ) (move : Move) → slice_get moves i ≡ Some move → moves ≡ take i moves ++ move ∷ drop (i + 1) moves
moves_split moves i move here =
    let next : suc i ≡ i + 1 = omega arith in
    sym (take-append-drop i moves)
    ∙ ap (λ ys. take i moves ++ ys) (drop-cons moves i move (slice_get_within moves i move here)
    ∙ (λ j. get_or_from_slice_get moves i move move here j ∷ drop (next j) moves))

-- a move that changed nothing
still_more : (m : Instance) (moves : List Move) (i : ℕ) (move : Move) (f g h : List ℕ) (was : Bool) (last : ℕ)
    → IsSoFar m moves i f g was last → slice_get moves i ≡ Some move → IsAllowed m move (labelling g) → IsBest m move g h → h ≡ g
    → IsSoFar m moves (i + 1) f h was last
still_more m moves i move f g h was last so_far here allowed best same =
    let B : List ℕ → Type 0 = λ x. IsAllowed m move (labelling x) × IsBest m move x h in
    let stays : IsAllowed m move (labelling h) × IsBest m move h h = subst B (sym same) (allowed, best) in record {
      leads = rw (moves_more moves i move here) (leads_more m (take i moves) move f g h so_far.leads allowed best);
      lower = λ turned. (let first = so_far.lower turned in let level = best-le m move g h best in omega (arith, first, level));
      same = λ still. same ∙ so_far.same still;
      passed = λ turned. (let l = so_far.passed turned in omega (arith, l));
      known = λ k other l within there. elim (cases_eq k i) [
        | inl is ↦
            let S : ℕ → Type 0 = λ n. slice_get moves n ≡ Some other in
            let P : Move → Type 0 = λ mv. IsAllowed m mv (labelling h) × IsBest m mv h h in
            subst P (one_move moves i move other here (subst S is there)) stays
        | inr other_place ↦
            let P : List ℕ → Type 0 = λ x. IsAllowed m other (labelling x) × IsBest m other x x in
            subst P (sym same) (so_far.known k other l (λ turned. (let w = within turned in omega (arith, w, other_place))) there)
      ];
    }

-- a move that changed a label
turned_more : (m : Instance) (moves : List Move) (i : ℕ) (move : Move) (f g h : List ℕ) (was : Bool) (last : ℕ)
    → IsInstance m → IsSoFar m moves i f g was last → slice_get moves i ≡ Some move → IsAllowed m move (labelling g) → IsBest m move g h → h ≢ g
    → IsSoFar m moves (i + 1) f h true i
turned_more m moves i move f g h was last pairs so_far here allowed best other = record {
  leads = rw (moves_more moves i move here) (leads_more m (take i moves) move f g h so_far.leads allowed best);
  lower = λ turned.
      let lower = best-lower m move g h best other in
      elim (cases_Bool was) [
        | inl before_it ↦ (let first = so_far.lower before_it in omega (arith, first, lower))
        | inr never ↦ (let same = ap (λ (x : List ℕ). energy m (labelling x)) (so_far.same never) in omega (arith, same, lower))
      ];
  same = λ still. absurd (cc still);
  passed = λ turned. omega arith;
  known = λ k next l within there.
      let w = within refl in
      let is : k ≡ i = omega (arith, l, w) in
      let S : ℕ → Type 0 = λ n. slice_get moves n ≡ Some next in
      let P : Move → Type 0 = λ mv. IsAllowed m mv (labelling h) × IsBest m mv h h in
      subst P (one_move moves i move next here (subst S is there)) (allowed_again m move g h pairs allowed best, best_again m move g h best);
}

-- one more move
pub so_far_more : (m : Instance) (moves : List Move) (i : ℕ) (move : Move) (f g h : List ℕ) (was now b : Bool) (last next : ℕ)
    → IsInstance m → IsSoFar m moves i f g was last → slice_get moves i ≡ Some move → IsAllowed m move (labelling g) → IsBest m move g h
    → (IsTrue b → h ≢ g) × (IsFalse b → h ≡ g)
    → (b ≡ true → (now ≡ true) × (next ≡ i)) → (b ≡ false → (now ≡ was) × (next ≡ last)) → IsSoFar m moves (i + 1) f h now next
so_far_more m moves i move f g h was now b last next pairs so_far here allowed best told turned still = elim (cases_Bool b) [
  | inl is ↦ rw ((turned is).0, (turned is).1) (turned_more m moves i move f g h was last pairs so_far here allowed best (told.0 is))
  | inr isnt ↦ rw ((still isnt).0, (still isnt).1) (still_more m moves i move f g h was last so_far here allowed best (told.1 isnt))
]

-- moves with regular terms that are best where they stand lead nowhere
leads_still : (m : Instance) (moves : List Move) (g : List ℕ) → All (λ move. IsAllowed m move (labelling g) × IsBest m move g g) moves → MovesLead m moves g g
leads_still m [] g each = refl
leads_still m (move ∷ moves) g each =
    let first : IsAllowed m move (labelling g) × IsBest m move g g = each 0 move (omega arith) in
    (first.0, g, first.1, leads_still m moves g (λ i d l. each (suc i) d (omega (arith, l))))

rest_still : (m : Instance) (moves : List Move) (i : ℕ) (g : List ℕ) → AreBestFrom m moves i g → MovesLead m (drop i moves) g g
rest_still m moves i g known = leads_still m (drop i moves) g (λ j d l.
    let within : i + j < length moves = omega (arith, l, length-drop i moves) in
    rw (get_or-drop i moves j d) (known (i + j) (get_or moves (i + j) d) (omega arith) (slice_get-get_or moves (i + j) d within)))

-- at the place of the last change no label changed in this cycle
stopped_still : (m : Instance) (moves : List Move) (place : ℕ) (f g : List ℕ) (changed : Bool) (last : ℕ) → IsSoFar m moves place f g changed last → place ≡ last
    → changed ≡ false
stopped_still m moves place f g changed last so_far is = elim (cases_Bool changed) [
  | inl turned ↦ (let l = so_far.passed turned in absurd (omega (arith, l, is)))
  | inr still ↦ still
]

-- so the rest of the moves is known, and the cycle changes nothing
pub stopped_known : (m : Instance) (moves : List Move) (place : ℕ) (f g : List ℕ) (changed : Bool) (last : ℕ) → IsSoFar m moves place f g changed last → place ≡ last
    → AreBestFrom m moves last g
stopped_known m moves place f g changed last so_far is i move l here =
    let still = stopped_still m moves place f g changed last so_far is in
    so_far.known i move l (λ turned. absurd (cc (turned, still))) here

pub stopped_leads : (m : Instance) (moves : List Move) (place : ℕ) (f g : List ℕ) (changed : Bool) (last : ℕ) → IsSoFar m moves place f g changed last → place ≡ last
    → MovesLead m moves f g × (g ≡ f)
stopped_leads m moves place f g changed last so_far is =
    let P : ℕ → Type 0 = λ n. AreBestFrom m moves n g in
    let rest = rest_still m moves place g (subst P (sym is) (stopped_known m moves place f g changed last so_far is)) in
    let L : List Move → Type 0 = λ xs. MovesLead m xs f g in (
      subst L (take-append-drop place moves) (leads-append m (take place moves) (drop place moves) f g g so_far.leads rest),
      so_far.same (stopped_still m moves place f g changed last so_far is),
    )

-- the cycle's end
pub ended_leads : (m : Instance) (moves : List Move) (place : ℕ) (f g : List ℕ) (changed : Bool) (last : ℕ) → IsSoFar m moves place f g changed last → length moves ≤ place
    → MovesLead m moves f g × ((IsTrue changed → g ≢ f) × (IsFalse changed → g ≡ f))
ended_leads m moves place f g changed last so_far whole =
    let L : List Move → Type 0 = λ xs. MovesLead m xs f g in (
      subst L (take_all place moves whole) so_far.leads,
      ((λ turned same. (let lower = so_far.lower turned in let level = ap (λ (x : List ℕ). energy m (labelling x)) same in absurd (omega (arith, lower, level)))), so_far.same),
    )

pub ended_known : (m : Instance) (moves : List Move) (place : ℕ) (f g : List ℕ) (changed : Bool) (last : ℕ) → IsSoFar m moves place f g changed last → length moves ≤ place
    → AreBestFrom m moves last g
ended_known m moves place f g changed last so_far whole i move l here =
    let within = slice_get_within moves i move here in so_far.known i move l (λ turned. omega (arith, within, whole)) here
