-- A stretch of the arrays of a call, and what is handed back of it.
use Rattle.std.proofs.Common.{◌≡◌, ◌⊎◌, ◌<◌, ◌≤◌, ◌∙◌, ◌+◌, ℕ, Bool, false, List, All, length, Option, Some, None, Result, Ok, Err, refl, sym, ap, subst, arith, inl, inr}
use Rattle.std.specs.Prelude.{slice_index, nat_lt, replicate}
use Rattle.std.proofs.lemmas.Bool.{cases_lt}
use Rattle.std.proofs.lemmas.List.{get_or_past, get_or-replicate, length-replicate}
use Rattle.label_field.specs.LabelFields.{LabelField}
use Rattle.label_field.specs.PairLists.{PairList, IsPairList}
use Rattle.cost_store.specs.Promises.{cost_in}
use Rattle.cost_store.specs.LabelCosts.{costs_of}
use Rattle.label_energies.specs.Chains.{moves_of}
use Rattle.label_energies.specs.Energies.{Instance, labelling}
use Rattle.label_energies.specs.declared.cycles.Moves.{Moves}
use Rattle.label_energies.specs.declared.cycles.Moves.TheVariants.{Expansion, Swap}
use Rattle.one_move.specs.declared.error.MoveError.{MoveError}
use Rattle.run_steps.specs.declared.bookmark.Mark.{Mark}
use Rattle.run_steps.specs.declared.bookmark.Bookmark.{Bookmark}
use Rattle.moves.specs.declared.stretch.Pause.{Pause}
use Rattle.moves.specs.declared.stretch.Stretch.{Stretch}
use Rattle.moves.specs.Bookmarks.{AreStamps, IsPastEnd, WasLeftAt, moves_to}
use Rattle.moves.specs.Courses.{IsBegun}
use Rattle.moves.specs.Instances.{instance_of}
use Rattle.moves.specs.Stretches.{AnswersStretch, IsPauseOf}
use Rattle.gco_arrays.specs.Calls.{AreCounted, ArePartsOf, AreTables, CallArrays, IsGiven, instance_given, list_given}
use Rattle.gco_arrays.specs.declared.ready.Ready.{Ready}
use Rattle.gco_calls.specs.Calls.{moves_number}
use Rattle.gco_calls.specs.Outcomes.{energy_told, outcome_of_parts, run_told}
use Rattle.gco_calls.specs.Stretches.{IsPauseTold, IsRunLeft, LentArrays, arrays_from, first_course, lent_arrays, mark_of}
use Rattle.gco_calls.specs.declared.course.GcoCourse.{GcoCourse}
use Rattle.gco_calls.specs.declared.outcome.GcoOutcome.{GcoOutcome}

-- a number names one kind of moves
pub kind_same : (number : ℕ) (a b : Moves) → number ≡ moves_number a → number ≡ moves_number b → a ≡ b
kind_same number Expansion Expansion first second = refl
kind_same number Expansion Swap first second = absurd (omega (arith, first, second))
kind_same number Swap Expansion first second = absurd (omega (arith, first, second))
kind_same number Swap Swap first second = refl

-- the problem of the arrays is that of the parts, and does not hang on the labels of the start
abbrev parts_instance : CallArrays → Ready → Instance
parts_instance a ready =
    instance_of ready.pairs ready.start.labels (cost_in ready.start.labels a.data_costs) a.smooth_costs (costs_of ready.label_costs)

pub parts_same : (a : CallArrays) (ready : Ready) → ArePartsOf a ready → parts_instance a ready ≡ instance_given a
parts_same a ready is =
    (λ i. instance_of (is.pairs_are i) ((is.start_is i).labels) (cost_in ((is.start_is i).labels) a.data_costs) a.smooth_costs (is.costs_are i))

pub from_same : (a : CallArrays) (start : List ℕ) → length start ≡ length a.start → instance_given (arrays_from a start) ≡ instance_given a
from_same a start same = (λ i. record (instance_given a) { sites = same i })

-- with another start in range the arrays are in order too
pub given_from : (a : CallArrays) (start : List ℕ) → IsGiven a → length start ≡ length a.start → All (λ label. label < a.label_count) start
    → IsGiven (arrays_from a start)
given_from a start given same below =
    let C : ℕ → Type 0 = λ n. AreCounted n a.label_count (length a.data_costs) (length a.smooth_costs) (length a.label_costs) in
    let P : ℕ → Type 0 = λ n. IsPairList (list_given n a.pairs) in record {
      tables = record { long = subst C (sym same) given.tables.long; ranges = given.tables.ranges };
      pairs = subst P (sym same) given.pairs;
      start = below;
    }

-- what is answered of the parts is answered of the arrays
pub stretch_given : (a : CallArrays) (ready : Ready) (kind : Moves) (number cycles most : ℕ) (course : GcoCourse) (stamps made : List ℕ) (bookmark : Bookmark)
    (r : Result (Option Stretch) MoveError) → ArePartsOf a ready → number ≡ moves_number kind
    → bookmark.mark ≡ mark_of course → bookmark.stamps.items ≡ stamps → bookmark.made.items ≡ made
    → ((start : List ℕ) → WasLeftAt (parts_instance a ready) kind start ready.start.at bookmark.mark bookmark.stamps.items bookmark.made.items
    → AnswersStretch (parts_instance a ready) kind cycles start bookmark.mark most r)
    → (start : List ℕ) → IsRunLeft (arrays_from a start) number (lent_arrays a.start course stamps made)
    → AnswersStretch (instance_given (arrays_from a start)) kind cycles start (mark_of course) most r
stretch_given a ready kind number cycles most course stamps made bookmark r is named marks stamped noted answers start left =
    let path : instance_given (arrays_from a start) ≡ parts_instance a ready = from_same a start left.sites ∙ sym (parts_same a ready is) in
    let at : ready.start.at ≡ a.start = ap (λ (s : LabelField). s.at) is.start_is in
    let K : Moves → Type 0 = λ k. WasLeftAt (instance_given (arrays_from a start)) k start a.start (mark_of course) stamps made in
    let I : Instance → Type 0 = λ m. WasLeftAt m kind start a.start (mark_of course) stamps made in
    let M : Mark → Type 0 = λ mark. WasLeftAt (parts_instance a ready) kind start a.start mark stamps made in
    let S : List ℕ → Type 0 = λ xs. WasLeftAt (parts_instance a ready) kind start a.start bookmark.mark xs made in
    let D : List ℕ → Type 0 = λ xs. WasLeftAt (parts_instance a ready) kind start a.start bookmark.mark bookmark.stamps.items xs in
    let L : List ℕ → Type 0 = λ xs. WasLeftAt (parts_instance a ready) kind start xs bookmark.mark bookmark.stamps.items bookmark.made.items in
    let was = subst L (sym at) (subst D (sym noted) (subst S (sym stamped) (subst M (sym marks) (subst I path (subst K (kind_same number left.moves kind left.numbered named) left.left))))) in
    let A : Instance → Type 0 = λ m. AnswersStretch m kind cycles start (mark_of course) most r in
    let N : Mark → Type 0 = λ mark. AnswersStretch (parts_instance a ready) kind cycles start mark most r in
    subst A (sym path) (subst N marks (answers start was))

pub past_given : (a : CallArrays) (ready : Ready) (kind : Moves) (cycles : ℕ) (course : GcoCourse) (mark : Mark) → ArePartsOf a ready → mark ≡ mark_of course
    → IsPastEnd (moves_of kind ready.start.labels) cycles mark → IsPastEnd (moves_of kind a.label_count) cycles (mark_of course)
past_given a ready kind cycles course mark is marks past =
    let L : LabelField → Type 0 = λ s. IsPastEnd (moves_of kind s.labels) cycles mark in
    let M : Mark → Type 0 = λ x. IsPastEnd (moves_of kind a.label_count) cycles x in
    subst M marks (subst L is.start_is past)

-- numbers that were handed back say what they said
abbrev AreHandedBack : List ℕ → List ℕ → Type 0
AreHandedBack from to = (i : ℕ) → i < length to → slice_index to i ≡ slice_index from i

stamps_back : (m : Instance) (f : ℕ → ℕ) (stamps made to_stamps to_made : List ℕ) (noted : ℕ) → AreStamps m f stamps made noted
    → AreHandedBack stamps to_stamps → AreHandedBack made to_made → length to_stamps ≡ m.sites → AreStamps m f to_stamps to_made noted
stamps_back m f stamps made to_stamps to_made noted are same_stamps same_made size = record {
  sites = λ some. size;
  most = λ a. elim (cases_lt a (length to_made)) [
    | inl inside ↦ (let was = are.most a in omega (arith, was, same_made a inside))
    | inr beyond ↦ (let none = get_or_past to_made a 0 beyond in omega (arith, none))
  ];
  known = λ a some. elim (cases_lt a (length to_made)) [
    | inl inside ↦
        (
        let same = same_made a inside in
        let P : ℕ → Type 0 = λ n. 0 < n in
        let was = are.known a (subst P same some) in
        record {
          old = was.old;
          lowest = was.lowest;
          marked = λ p l still.
              was.marked p l ((λ i. nat_lt (sym same i) (sym (same_stamps p (omega (arith, l, size))) i)) ∙ still);
        }
        )
    | inr beyond ↦ (let none = get_or_past to_made a 0 beyond in absurd (omega (arith, none, some)))
  ];
}

pub left_back : (m : Instance) (kind : Moves) (start labels : List ℕ) (mark : Mark) (stamps made to_stamps to_made : List ℕ)
    → WasLeftAt m kind start labels mark stamps made → AreHandedBack stamps to_stamps → AreHandedBack made to_made → length to_stamps ≡ m.sites
    → WasLeftAt m kind start labels mark to_stamps to_made
left_back m kind start labels mark stamps made to_stamps to_made left same_stamps same_made size = record {
  stands = left.stands;
  stamped = stamps_back m (labelling labels) stamps made to_stamps to_made mark.noted left.stamped same_stamps same_made size;
}

zero_anywhere : (n i : ℕ) → slice_index (replicate n 0) i ≡ 0
zero_anywhere n i = elim (cases_lt i n) [
  | inl inside ↦ get_or-replicate n i 0 0 inside
  | inr beyond ↦ get_or_past (replicate n 0) i 0 (omega (arith, beyond, length-replicate {A = ℕ} n 0))
]

-- what is lent of a run that begins
pub zeros_left : (a : CallArrays) (moves : Moves) → All (λ label. label < a.label_count) a.start
    → IsRunLeft a (moves_number moves) (lent_arrays a.start first_course (replicate (length a.start) 0) (replicate a.label_count 0))
zeros_left a moves below = record {
  below = below;
  sites = refl;
  moves = moves;
  numbered = refl;
  left = record {
    stands = inl (refl, refl, refl);
    stamped = record {
      sites = λ some. length-replicate (length a.start) 0;
      most = λ label. omega (arith, zero_anywhere a.label_count label);
      known = λ label some. absurd (omega (arith, zero_anywhere a.label_count label, some));
    };
  };
}

-- what is told of a pause
pub pause_is_told : (a : CallArrays) (number cycles most : ℕ) (labels stamps made : List ℕ) (old course : GcoCourse) (told : GcoOutcome) (kind : Moves) (pause : Pause)
    → IsGiven a → number ≡ moves_number kind → IsPauseOf (instance_given a) kind cycles a.start (mark_of old) most pause → length a.start ≡ length labels
    → labels ≡ pause.labelling.at → mark_of course ≡ pause.bookmark.mark → course.cycles ≡ pause.bookmark.mark.cycles
    → AreHandedBack pause.bookmark.stamps.items stamps → AreHandedBack pause.bookmark.made.items made → length stamps ≡ length a.start
    → told ≡ run_told (outcome_of_parts pause.«data» pause.smooth pause.label) pause.bookmark.mark.cycles false None
    → IsPauseTold a number cycles old most (lent_arrays labels course stamps made) told
pause_is_told a number cycles most labels stamps made old course told kind pause given named is size same marks whole same_stamps same_made counted tells =
    let m = instance_given a in
    let back = left_back m kind a.start pause.labelling.at pause.bookmark.mark pause.bookmark.stamps.items pause.bookmark.made.items stamps made is.left
    same_stamps same_made counted in
    let M : Mark → Type 0 = λ mark. WasLeftAt m kind a.start pause.labelling.at mark stamps made in
    let L : List ℕ → Type 0 = λ xs. WasLeftAt m kind a.start xs (mark_of course) stamps made in
    let B : List ℕ → Type 0 = λ xs. IsBegun m (moves_of kind a.label_count) cycles course.cycles a.start xs in
    let C : ℕ → Type 0 = λ n. IsBegun m (moves_of kind a.label_count) cycles n a.start pause.labelling.at in
    let T : List ℕ → Type 0 = λ xs. told ≡ run_told (energy_told m xs) course.cycles false None in
    let W : ℕ → Type 0 = λ n. told ≡ run_told (energy_told m pause.labelling.at) n false None in
    record {
      given = given;
      run_left = record {
        below = given.start;
        sites = size;
        moves = kind;
        numbered = named;
        left = subst L (sym same) (subst M (sym marks) back);
      };
      begun = subst B (sym same) (subst C (sym whole) is.begun);
      further = ap (λ mark. moves_to (moves_of kind a.label_count) mark) marks ∙ is.further;
      may = is.may;
      told_is = subst T (sym same) (subst W (sym whole)
          (tells ∙ (λ i. run_told (outcome_of_parts (is.parts.0 i) (is.parts.1 i) (is.parts.2 i)) pause.bookmark.mark.cycles false None)));
    }
