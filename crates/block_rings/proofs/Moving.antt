-- A message more leaves a ring for its way.
use Rattle.std.proofs.Common.{◌≡◌, ℕ, suc, ◌+◌, ◌<◌, List, [], ◌∷◌, ◌++◌, length, set, get_or, slice_get, IsSome, refl, sym, ◌∙◌, ap, subst, arith, get_or-set_same}
use Rattle.std.proofs.lemmas.List.{append-nil, map-append, nil_from_length, set-set, append_assoc, length_push}
use Rattle.std.proofs.lemmas.Grind.{common_steps}
use Rattle.block_events.specs.declared.message.Message.{Message}
use Rattle.block_events.specs.States.{way_at, put_way, put_message}
use Rattle.block_events.specs.Soundness.{IsSquare}
use Rattle.block_events.proofs.Ways.{way_same, way_other, square_put}
use Rattle.block_discharge.specs.declared.letter.Letter.{Letter}
use Rattle.block_workers.specs.declared.port.Port.{Port}
use Rattle.block_workers.specs.Ports.{IsSamePort}
use Rattle.block_workers.specs.Seeing.{messages}
use Rattle.block_rings.specs.Left.{AreKeptByWays, rest_of}
use Rattle.block_rings.proofs.Leaving.{rest_is}

put_put : (first : List (List (List Message))) (b c : ℕ) (way new : List Message) → b < length first → put_way (put_way first b c way) b c new ≡ put_way first b c new
put_put first b c way new low =
    let row = get_or first b [] in
    ap (λ (r : List (List Message)). set (put_way first b c way) b (set r c new)) (get_or-set_same first b (set row c way) [] low)
    ∙ (set-set first b (set row c way) (set (set row c way) c new) ∙ ap (λ (r : List (List Message)). set first b r) (set-set row c way new))

-- the ways were `first` before the first message, are `old`, and become `new`
module _ (first old new : List (List (List Message))) (b c : ℕ) (m : Message) (sq : IsSquare (length first) old) (low_b : b < length first) (low_c : c < length first)
    (put : new ≡ put_message old b c m) where
  pub way_more : way_at new b c ≡ way_at old b c ++ m ∷ []
  way_more = ap (λ (ways : List (List (List Message))). way_at ways b c) put ∙ way_same (length first) old b c (way_at old b c ++ m ∷ []) sq low_b low_c

  pub kept_more : old ≡ put_way first b c (way_at old b c) → new ≡ put_way first b c (way_at new b c)
  kept_more kept =
      let w : List Message = way_at old b c in
      let x : List Message = w ++ m ∷ [] in
      put
      ∙ (ap (λ (ways : List (List (List Message))). put_way ways b c x) kept
      ∙ (put_put first b c w x low_b ∙ ap (λ (way : List Message). put_way first b c way) (sym way_more)))

  pub square_more : IsSquare (length first) new
  square_more = subst (IsSquare (length first)) (sym put) (square_put (length first) old b c (way_at old b c ++ m ∷ []) sq)

  pub left_more : (l : Letter) (w w' : List Letter) (all : List Message) → w ≡ l ∷ w' → l.message ≡ m → way_at old b c ++ messages w ≡ all → way_at new b c ++ messages w' ≡ all
  left_more l w w' all front is before =
      ap (λ (way : List Message). way ++ messages w') way_more
      ∙ (append_assoc (way_at old b c) (m ∷ []) (messages w')
      ∙ (ap (λ (x : Message). way_at old b c ++ x ∷ messages w') (sym is)
      ∙ (ap (λ (x : List Letter). way_at old b c ++ messages x) (sym front) ∙ before)))

  pub long_more : length (way_at new b c) ≡ length (way_at old b c) + 1
  long_more = ap length way_more ∙ length_push (way_at old b c) m

pub kept_tail : (l : Letter) (w w' : List Letter) → w ≡ l ∷ w' → AreKeptByWays (messages w) → AreKeptByWays (messages w')
kept_tail l w w' front kept k d low = (subst (λ (x : List Letter). AreKeptByWays (messages x)) front kept) (suc k) d (omega (arith, low))

-- all messages left the ring
pub moved_all : (first new : List (List (List Message))) (b c : ℕ) (rest all sent taken : List Letter) → new ≡ put_way first b c (way_at new b c)
    → way_at new b c ++ messages rest ≡ way_at first b c ++ messages all → length rest ≡ 0 → sent ≡ taken ++ all
    → new ≡ put_way first b c (way_at first b c ++ rest_of (messages sent) (messages taken))
moved_all first new b c rest all sent taken kept left none is =
    let way : way_at new b c ≡ way_at first b c ++ messages all =
    sym (append-nil (way_at new b c)) ∙ (ap (λ (l : List Letter). way_at new b c ++ messages l) (sym (nil_from_length rest none)) ∙ left) in
    let all_left : messages all ≡ rest_of (messages sent) (messages taken) =
    sym (rest_is (messages sent) (messages taken) (messages all) (ap (λ (l : List Letter). messages l) is ∙ map-append (λ (l : Letter). l.message) taken all)) in
    kept ∙ ap (λ (w : List Message). put_way first b c w) (way ∙ ap (λ (w : List Message). way_at first b c ++ w) all_left)

-- what the way back is, once a way was written
pub way_back : (first new : List (List (List Message))) (b c : ℕ) (way : List Message) → IsSquare (length first) first → b < length first → (c ≡ b → ⊥) → new ≡ put_way first b c way
    → way_at new c b ≡ way_at first c b
way_back first new b c way sq low off is = ap (λ (ways : List (List (List Message))). way_at ways c b) is ∙ way_other (length first) first b c way c b sq low (λ e f. off e)

-- a letter that was taken no longer waits
pub taken_on : (taken taken' waiting waiting' all : List Letter) (l : Letter) → taken' ≡ taken ++ l ∷ [] → waiting ≡ l ∷ waiting' → taken ++ waiting ≡ all → taken' ++ waiting' ≡ all
taken_on taken taken' waiting waiting' all l more front before =
    ap (λ (t : List Letter). t ++ waiting') more ∙ (append_assoc taken (l ∷ []) waiting' ∙ (ap (λ (w : List Letter). taken ++ w) (sym front) ∙ before))

-- where nothing waits, what was put was taken
pub all_out : (put put' first taken taken' seen waiting : List Letter) → put' ≡ put → put ≡ first ++ seen → taken ≡ first → taken' ++ waiting ≡ taken ++ seen → length waiting ≡ 0 → put' ≡ taken'
all_out put put' first taken taken' seen waiting same left is all none =
    same
    ∙ (left
    ∙ (ap (λ (t : List Letter). t ++ seen) (sym is)
    ∙ (sym all ∙ (ap (λ (w : List Letter). taken' ++ w) (nil_from_length waiting none) ∙ append-nil taken'))))

-- what is left of what was put
pub left_is : (put taken seen : List Letter) → put ≡ taken ++ seen → rest_of (messages put) (messages taken) ≡ messages seen
left_is put taken seen all =
    rest_is (messages put) (messages taken) (messages seen) (ap (λ (l : List Letter). messages l) all ∙ map-append (λ (l : Letter). l.message) taken seen)

pub some_first : (letters : List Letter) → 0 < length letters → IsSome (slice_get letters 0)
some_first [] some = absurd (omega (arith, some))
some_first (l ∷ letters) some = grind (arith, common_steps)

pub same_port : (p : Port) → IsSamePort p p
same_port p = record { to_ring = grind (arith, common_steps); from_ring = grind (arith, common_steps); other = refl }
