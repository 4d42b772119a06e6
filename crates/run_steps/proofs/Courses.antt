-- Where a run stands after a move, and how many moves are left.
use Rattle.std.proofs.Common.{◌≡◌, ℕ, ◌+◌, ◌-◌, ◌*◌, ◌<◌, ◌≤◌, suc, Bool, true, false, not, List, [], ◌∷◌, length, take, drop, get_or, Option, Some, None, refl, sym, ap, ◌∙◌, subst, arith, rules, ◌⊎◌, inl, inr, ◌==◌, slice_index}
use Rattle.std.specs.Prelude.{slice_get}
use Rattle.std.proofs.lemmas.Bool.{ne_eqb, eq-eqb}
use Rattle.sums.specs.Sums.{sum_below, count_if}
use Rattle.std.proofs.lemmas.Option.{slice_get_within, slice_get-get_or}
use Rattle.label_energies.specs.declared.change.Move.{Move}
use Rattle.label_energies.specs.declared.change.Move.TheVariants.{Expand}
use Rattle.label_energies.specs.Energies.{Instance, IsInstance}
use Rattle.label_energies.specs.Chains.{MovesLead, IsChain, IsBeginning, Cycles, moves_of}
use Rattle.label_energies.proofs.Chains.{cycles_more, chain_settles, chain_runs_out, chain_breaks}
use Rattle.run_steps.specs.declared.course.Ended.{Ended}
use Rattle.run_steps.specs.declared.course.Course.{Course}
use Rattle.run_steps.specs.Cycles.{AreBestFrom, IsSoFar}
use Rattle.run_steps.specs.declared.bookmark.Mark.{Mark}
use Rattle.run_steps.specs.Bookmarks.{GoesOnFrom, IsMarkOf}
use Rattle.run_steps.specs.Courses.{IsBetweenMoves, StandsOnCourse, HasComeTo, LeadsBest, cycles_unless, cycle_of, left_unless, moves_left, moves_made}
use Rattle.one_move.specs.Building.{TellsChange}
use Rattle.run_steps.proofs.Running.{so_far_starts, so_far_more, moves_split, stopped_leads, ended_leads, ended_known}

-- where a run has come to, within its chain or at its end
pub beginning_at : (m : Instance) (moves : List Move) (allowed : ℕ) (course : Course) (f g : List ℕ) (next : Move) → course.done < allowed
    → IsBetweenMoves m moves course f g → slice_get moves course.place ≡ Some next → IsBeginning m moves allowed f g next
beginning_at m moves allowed course f g next room goes here =
    chain_breaks m moves allowed course.done f goes.start g (take course.place moves) (drop (course.place + 1) moves) next room goes.cycles
    (moves_split moves course.place next here) goes.so_far.leads

pub has_come : (m : Instance) (moves : List Move) (allowed : ℕ) (course : Course) (f g : List ℕ) (ended : Option Ended)
    → (ended ≡ None → course.done < allowed) → (ended ≡ None → course.place < length moves) → StandsOnCourse m moves allowed course f g ended
    → HasComeTo m moves allowed f g (cycles_unless course.done ended) ended
has_come m moves allowed course f g None room inside goes =
    let next = get_or moves course.place (Expand 0) in
    let here = slice_get-get_or moves course.place (Expand 0) (inside refl) in record {
      start = goes.start;
      before = take course.place moves;
      next = next;
      after = drop (course.place + 1) moves;
      room = room refl;
      split = moves_split moves course.place next here;
      cycles = goes.cycles;
      leads = goes.so_far.leads;
      beginning = beginning_at m moves allowed course f g next (room refl) goes here;
    }
has_come m moves allowed course f g (Some ended) room inside chain = chain

-- a whole cycle from a labelling to itself ends the chain
settles : (m : Instance) (moves : List Move) (allowed done : ℕ) (f start g : List ℕ) → done < allowed → Cycles m moves done f start → MovesLead m moves start g → g ≡ start
    → IsChain m moves allowed f g (done + 1) true
settles m moves allowed done f start g room cycles leads same =
    let P : List ℕ → Type 0 = λ x. Cycles m moves done f x in
    let Q : List ℕ → Type 0 = λ x. MovesLead m moves x g in
    chain_settles m moves allowed done f g room (subst P (sym same) cycles) (subst Q (sym same) leads)

abbrev ended_at : ℕ → Bool → Ended
ended_at done settled = record { cycles = done; settled = settled }

no_moves : (m : Instance) (moves : List Move) (f : List ℕ) → length moves ≡ 0 → MovesLead m moves f f
no_moves m [] f none = refl
no_moves m (move ∷ moves) f none = absurd (omega (arith, none))

-- where a run begins
pub begin_stands : (m : Instance) (moves : List Move) (allowed : ℕ) (course : Course) (f : List ℕ) (ended : Option Ended)
    → course.done ≡ 0 → course.place ≡ 0 → course.last ≡ length moves → course.changed ≡ false
    → ((allowed ≡ 0) × (ended ≡ Some (ended_at 0 false)))
    ⊎ (((0 < allowed) × (length moves ≡ 0) × (ended ≡ Some (ended_at 1 true))) ⊎ ((0 < allowed) × (ended ≡ None)))
    → StandsOnCourse m moves allowed course f f ended
begin_stands m moves allowed course f ended done place last changed (inl never) =
    let P : Option Ended → Type 0 = λ e. StandsOnCourse m moves allowed course f f e in
    let Q : ℕ → Type 0 = λ n. IsChain m moves n f f 0 false in
    subst P (sym never.1) (subst Q (sym never.0) (refl, refl, refl))
begin_stands m moves allowed course f ended done place last changed (inr (inl empty)) =
    let P : Option Ended → Type 0 = λ e. StandsOnCourse m moves allowed course f f e in
    subst P (sym empty.2) (settles m moves allowed 0 f f f empty.0 refl (no_moves m moves f empty.1) refl)
begin_stands m moves allowed course f ended done place last changed (inr (inr here)) =
    let P : Option Ended → Type 0 = λ e. StandsOnCourse m moves allowed course f f e in
    let C : ℕ → Type 0 = λ n. Cycles m moves n f f in
    let none : AreBestFrom m moves (length moves) f = λ i move from here. (let within = slice_get_within moves i move here in absurd (omega (arith, within, from))) in
    let S : ℕ → Type 0 = λ n. IsSoFar m moves n f f course.changed course.last in
    let B : Bool → Type 0 = λ b. IsSoFar m moves 0 f f b course.last in
    let L : ℕ → Type 0 = λ n. IsSoFar m moves 0 f f false n in
    subst P (sym here.1) (record {
      start = f;
      cycles = subst C (sym done) refl;
      so_far = subst S (sym place) (subst B (sym changed) (subst L (sym last) (so_far_starts m moves f (length moves) none)));
    })

-- a run that was left before its first move is where it began
pub marked_first : (m : Instance) (moves : List Move) (mark : Mark) (f g : List ℕ) → mark.cycles ≡ 0 → mark.place ≡ 0 → IsMarkOf m moves mark f g → g ≡ f
marked_first m moves mark f g none first (inl begins) = begins.2
marked_first m moves mark f g none first (inr between) =
    let C : ℕ → Type 0 = λ n. Cycles m moves n f between.start in
    let L : ℕ → Type 0 = λ n. MovesLead m (take n moves) between.start g in
    let began : between.start ≡ f = subst C none between.cycles in
    let leads : g ≡ between.start = subst L first between.so_far.leads in
    leads ∙ began

-- one that was left later stands within its chain
pub marked_later : (m : Instance) (moves : List Move) (mark : Mark) (f g : List ℕ) → ((mark.cycles ≡ 0) × (mark.place ≡ 0) → ⊥) → IsMarkOf m moves mark f g
    → GoesOnFrom m moves mark f g
marked_later m moves mark f g later (inl begins) = absurd (later (begins.0, begins.1))
marked_later m moves mark f g later (inr between) = between

-- where it has come to: to the place of the last change, so that it has ended, or to another
pub come_stands : (m : Instance) (moves : List Move) (allowed : ℕ) (course : Course) (f start g : List ℕ) (ended : Option Ended)
    → course.done < allowed → Cycles m moves course.done f start → IsSoFar m moves course.place start g course.changed course.last
    → ((course.place ≡ course.last) × (ended ≡ Some (ended_at (course.done + 1) true))) ⊎ (ended ≡ None)
    → StandsOnCourse m moves allowed course f g ended
come_stands m moves allowed course f start g ended room cycles so_far (inl stopped) =
    let P : Option Ended → Type 0 = λ e. StandsOnCourse m moves allowed course f g e in
    let leads = stopped_leads m moves course.place start g course.changed course.last so_far stopped.0 in
    subst P (sym stopped.1) (settles m moves allowed course.done f start g room cycles leads.0 leads.1)
come_stands m moves allowed course f start g ended room cycles so_far (inr going) =
    let P : Option Ended → Type 0 = λ e. StandsOnCourse m moves allowed course f g e in
    subst P (sym going) (record { start = start; cycles = cycles; so_far = so_far })

-- a cycle that changed something, and the first of the next
pub cycle_more : (m : Instance) (moves : List Move) (done : ℕ) (f start g : List ℕ) (last : ℕ) → Cycles m moves done f start
    → IsSoFar m moves (length moves) start g true last → Cycles m moves (done + 1) f g × IsSoFar m moves 0 g g false last
cycle_more m moves done f start g last cycles so_far =
    let whole = ended_leads m moves (length moves) start g true last so_far (omega arith) in
    let C : ℕ → Type 0 = λ n. Cycles m moves n f g in
    let next : suc done ≡ done + 1 = omega arith in (
      subst C next (cycles_more m moves done f start g cycles whole.0 (whole.1.0 refl)),
      so_far_starts m moves g last (ended_known m moves (length moves) start g true last so_far (omega arith)),
    )

-- the end of the chain: a cycle that changed nothing, or the last that is allowed
pub end_stands : (m : Instance) (moves : List Move) (allowed done : ℕ) (course : Course) (f start g : List ℕ) (changed : Bool) (last : ℕ)
    → done < allowed → (changed ≡ true → allowed ≤ done + 1) → Cycles m moves done f start → IsSoFar m moves (length moves) start g changed last
    → StandsOnCourse m moves allowed course f g (Some (ended_at (done + 1) (not changed)))
end_stands m moves allowed done course f start g false last room full cycles so_far =
    let whole = ended_leads m moves (length moves) start g false last so_far (omega arith) in
    settles m moves allowed done f start g room cycles whole.0 (whole.1.1 refl)
end_stands m moves allowed done course f start g true last room full cycles so_far =
    let f_all = full refl in
    let is : done + 1 ≡ allowed = omega (arith, room, f_all) in
    let P : ℕ → Type 0 = λ n. IsChain m moves n f g (done + 1) false in
    subst P is (chain_runs_out m moves (done + 1) f g (cycle_more m moves done f start g last cycles so_far).0)

-- after one more move the cycle has come one place further
pub turned_so_far : (m : Instance) (moves : List Move) (course : Course) (f g h : List ℕ) (change : Move) (turned changed : Bool) (last : ℕ)
    → IsInstance m → slice_get moves course.place ≡ Some change → (goes : IsBetweenMoves m moves course f g) → LeadsBest m change g h → TellsChange turned g h
    → (turned ≡ true → (changed ≡ true) × (last ≡ course.place)) → (turned ≡ false → (changed ≡ course.changed) × (last ≡ course.last))
    → IsSoFar m moves (course.place + 1) goes.start h changed last
turned_so_far m moves course f g h change turned changed last pairs here goes best told so still =
    so_far_more m moves course.place change goes.start g h course.changed changed turned course.last last pairs goes.so_far here best.0 best.1 told so still

-- the moves that are left
times_more : (k n : ℕ) → (k + 1) * n ≡ k * n + n
times_more k n = search (rules)

abbrev IsNext : ℕ → ℕ → ℕ → ℕ → Type 0
IsNext done place more further = ((more ≡ done) × (further ≡ place + 1)) ⊎ ((more ≡ done + 1) × (further ≡ 0))

whole_left : (a d n p : ℕ) → d < a → p < n → (a - d) * n ≡ (a - (d + 1)) * n + n
whole_left a d n p room inside =
    let k = a - (d + 1) in
    let is : k + 1 ≡ a - d = omega (arith, room) in
    let P : ℕ → Type 0 = λ x. x * n ≡ k * n + n in
    subst P is (times_more k n)

left_less : (a d n p more further : ℕ) → d < a → p < n → IsNext d p more further → (a - more) * n - further < (a - d) * n - p
left_less a d n p more further room inside (inl next) =
    let all = whole_left a d n p room inside in
    let P : ℕ → Type 0 = λ x. (a - x) * n - further < (a - d) * n - p in
    subst P (sym next.0) (omega (arith, all, inside, next.1))
left_less a d n p more further room inside (inr next) =
    let all = whole_left a d n p room inside in
    let P : ℕ → Type 0 = λ x. (a - x) * n - further < (a - d) * n - p in
    subst P (sym next.0) (omega (arith, all, inside, next.1))

left_when : (old new : Course) (n : ℕ) (ended : Option Ended) → old.done < old.allowed → old.place < n
    → new.allowed ≡ old.allowed → length (cycle_of new) ≡ n → (ended ≡ None → IsNext old.done old.place new.done new.place)
    → left_unless new ended < (old.allowed - old.done) * n - old.place
left_when old new n (Some e) room inside same cycle next =
    let all = whole_left old.allowed old.done n old.place room inside in omega (arith, all, inside)
left_when old new n None room inside same cycle next =
    let A : ℕ → Type 0 = λ a. (a - new.done) * length (cycle_of new) - new.place < (old.allowed - old.done) * n - old.place in
    let N : ℕ → Type 0 = λ k. (old.allowed - new.done) * k - new.place < (old.allowed - old.done) * n - old.place in
    subst A (sym same) (subst N (sym cycle) (left_less old.allowed old.done n old.place new.done new.place room inside (next refl)))

pub left_falls : (old new : Course) → old.ended ≡ None → old.done < old.allowed → old.place < length (cycle_of old)
    → new.moves ≡ old.moves → new.labels ≡ old.labels → new.allowed ≡ old.allowed
    → (new.ended ≡ None → IsNext old.done old.place new.done new.place) → moves_left new < moves_left old
left_falls old new going room inside moves labels allowed next =
    let L : Option Ended → Type 0 = λ e. moves_left new < left_unless old e in
    let cycle : length (cycle_of new) ≡ length (cycle_of old) = (λ j. length (moves_of (moves j) (labels j))) in
    subst L (sym going) (left_when old new (length (cycle_of old)) new.ended room inside allowed cycle next)

-- one move more was made
pub made_more : (old new : Course) → new.moves ≡ old.moves → new.labels ≡ old.labels
    → ((new.done ≡ old.done) × (new.place ≡ old.place + 1)) ⊎ ((new.done ≡ old.done + 1) × (new.place ≡ 0) × (old.place + 1 ≡ length (cycle_of old)))
    → moves_made new ≡ moves_made old + 1
made_more old new moves labels next =
    let n = length (cycle_of old) in
    let cycle : length (cycle_of new) ≡ n = (λ j. length (moves_of (moves j) (labels j))) in
    let P : ℕ → Type 0 = λ k. new.done * k + new.place ≡ moves_made old + 1 in
    subst P (sym cycle) (elim next [
      | inl within ↦ (let same = ap (λ d. d * n) within.0 in omega (arith, same, within.1))
      | inr whole ↦ (let same = ap (λ d. d * n) whole.0 ∙ times_more old.done n in omega (arith, same, whole.1, whole.2))
    ])

-- the sites whose labels differ, up to one more
pub counted_more : (f g : List ℕ) (p old new : ℕ) → old ≡ sum_below p (λ i. count_if (not (slice_index g i == slice_index f i)) 1)
    → ((slice_index g p ≡ slice_index f p → ⊥) × (new ≡ old + 1)) ⊎ ((slice_index g p ≡ slice_index f p) × (new ≡ old))
    → new ≡ sum_below (p + 1) (λ i. count_if (not (slice_index g i == slice_index f i)) 1)
counted_more f g p old new counted (inl other) =
    let differs : ℕ → ℕ = λ i. count_if (not (slice_index g i == slice_index f i)) 1 in
    let here : differs p ≡ 1 = ap (λ b. count_if (not b) 1) (ne_eqb (slice_index g p) (slice_index f p) other.0) in
    let next : suc p ≡ p + 1 = omega arith in
    let S : ℕ → Type 0 = λ k. new ≡ sum_below k differs in
    subst S next (omega (arith, counted, here, other.1))
counted_more f g p old new counted (inr same) =
    let differs : ℕ → ℕ = λ i. count_if (not (slice_index g i == slice_index f i)) 1 in
    let here : differs p ≡ 0 = ap (λ b. count_if (not b) 1) (eq-eqb (slice_index g p) (slice_index f p) same.0) in
    let next : suc p ≡ p + 1 = omega arith in
    let S : ℕ → Type 0 = λ k. new ≡ sum_below k differs in
    subst S next (omega (arith, counted, here, same.1))
