-- The plain samples that are read are just those of the grammar, and so is what refuses one.
use Rattle.std.proofs.Common.{◌≡◌, ℕ, suc, zero, ◌+◌, ◌-◌, ◌<◌, ◌≤◌, ◌⊎◌, inl, inr, List, [], ◌∷◌, ◌++◌, Bool, true, false, cond, nat_lt, Result, Ok, Err, refl, sym, ap, ◌∙◌, length, arith, append_assoc, length-append, subst, ◌==◌, add-zero}
use Rattle.std.specs.Prelude.{All}
use Rattle.std.proofs.lemmas.List.{append-nil}
use Rattle.std.proofs.lemmas.List.Elements.{All-cons}
use Rattle.std.proofs.lemmas.Bool.{cases_lt}
use Rattle.std.proofs.lemmas.Bool.Decides.{nat_tests}
use Rattle.pgm_image.specs.Signs.{is_space, is_line_end, is_digit, with_digit, cap}
use Rattle.pgm_image.specs.Words.{onward, number_at, whole_number, after_number, numbers_at}
use Rattle.pgm_image.specs.Grammar.{is_mix, is_gap, all_digits, value, IsNumber, AreNumbers, IsEndedNumber, EndsNumber, StopsAt}
use Rattle.pgm_image.specs.Front.{FewerSamples}
use Rattle.pgm_image.specs.Reading.{sample_or_fault, sample_at, fault_error, with_front, plain_at}
use Rattle.pgm_image.specs.declared.words.Place.{Place}
use Rattle.pgm_image.specs.declared.words.Place.TheVariants.{Start, Gap, Comment, Number}
use Rattle.pgm_image.specs.declared.words.Step.TheVariants.{On, Bad, Ended as StepEnded}
use Rattle.pgm_image.specs.declared.words.Reading.TheVariants.{Cut}
use Rattle.pgm_image.specs.declared.plain.Fault.{Fault}
use Rattle.pgm_image.specs.declared.plain.Fault.TheVariants.{Ended, Bad as FaultBad}
use Rattle.pgm_image.specs.declared.error.PgmError.{PgmError}
use Rattle.pgm_image.specs.declared.error.PgmError.TheVariants.{SampleAboveMax}
use Rattle.pgm_image.proofs.NumberLaws.{Sampled, place, in_gap, in_comment, starting, and_left, and_right, comment_more, space_more, hash_more, gap_of, back_sample, front_sample}
use Rattle.pgm_image.proofs.NumberStops.{StartsSpace, Stopped, outcome, front_numbers, back_numbers, starts_numbers, halted, stops_at, stops_once, bad_at, cut_at, gap_starts}

-- where the bytes end before the first digit, they begin a gap
number_goes : (d s : Bool) (k n b : ℕ) (bs : List ℕ) → sample_or_fault (onward (cond d (On (Number k)) (cond s (StepEnded n) Bad)) (λ q. number_at q bs) b bs) ≡ Err Ended
    → (sample_or_fault (number_at (Number k) bs) ≡ Err Ended → ⊥) → ⊥
number_goes true s k n b bs e f = f e
number_goes false true k n b bs e f = absurd (cc)
number_goes false false k n b bs e f = absurd (cc)

number_not_ended : (n : ℕ) (text : List ℕ) → sample_or_fault (number_at (Number n) text) ≡ Err Ended → ⊥
unfolding number_at
number_not_ended n [] e = absurd (cc)
number_not_ended n (b ∷ bs) e = number_goes (is_digit b) (is_space b) (with_digit n b) n b bs e (λ k. number_not_ended (with_digit n b) bs k)

comment_ends : (t : Bool) (b : ℕ) (bs more : List ℕ) → is_line_end b ≡ t
    → sample_or_fault (onward (cond t (On Gap) (On Comment)) (λ q. number_at q bs) b bs) ≡ Err Ended
    → ((c : Bool) → sample_or_fault (number_at (place c) bs) ≡ Err Ended → is_mix c (bs ++ more) ≡ true) → is_mix true (b ∷ (bs ++ more)) ≡ true
comment_ends true b bs more et e f = comment_more true b (bs ++ more) et (f false e)
comment_ends false b bs more et e f = comment_more false b (bs ++ more) et (f true e)

gap_ends : (s t d : Bool) (b : ℕ) (bs more : List ℕ) → is_space b ≡ s → (b == 35) ≡ t
    → sample_or_fault (onward (cond s (On Gap) (cond t (On Comment) (cond d (On (Number (with_digit 0 b))) Bad))) (λ q. number_at q bs) b bs) ≡ Err Ended
    → ((c : Bool) → sample_or_fault (number_at (place c) bs) ≡ Err Ended → is_mix c (bs ++ more) ≡ true) → is_mix false (b ∷ (bs ++ more)) ≡ true
gap_ends true t d b bs more es et e f = space_more b (bs ++ more) es (f false e)
gap_ends false true d b bs more es et e f = hash_more b (bs ++ more) es et (f true e)
gap_ends false false true b bs more es et e f = absurd (number_not_ended (with_digit 0 b) bs e)
gap_ends false false false b bs more es et e f = absurd (cc)

mix_begins : (c : Bool) (text : List ℕ) → sample_or_fault (number_at (place c) text) ≡ Err Ended → is_mix c (text ++ (10 ∷ [])) ≡ true
unfolding number_at is_mix
mix_begins true [] e = refl
mix_begins false [] e = refl
mix_begins true (b ∷ bs) e = comment_ends (is_line_end b) b bs (10 ∷ []) refl e (λ c k. mix_begins c bs k)
mix_begins false (b ∷ bs) e = gap_ends (is_space b) (b == 35) (is_digit b) b bs (10 ∷ []) refl refl e (λ c k. mix_begins c bs k)

space_begins : (s : Bool) (b : ℕ) (bs : List ℕ) → is_space b ≡ s → sample_or_fault (onward (cond s (On Gap) Bad) (λ q. number_at q bs) b bs) ≡ Err Ended → is_gap (b ∷ (bs ++ (10 ∷ []))) ≡ true
space_begins true b bs es e = gap_of b (bs ++ (10 ∷ [])) es (mix_begins false bs e)
space_begins false b bs es e = absurd (cc)

pub gap_begins : (text : List ℕ) → sample_at text ≡ Err Ended → is_gap (text ++ (10 ∷ [])) ≡ true
unfolding number_at is_gap is_mix
gap_begins [] e = refl
gap_begins (b ∷ bs) e = space_begins (is_space b) b bs refl e

-- and the other way
mix_ended : (c : Bool) (tail more : List ℕ) → is_mix c (tail ++ more) ≡ true → sample_or_fault (number_at (place c) tail) ≡ Err Ended
unfolding number_at is_mix
mix_ended true [] more e = refl
mix_ended false [] more e = refl
mix_ended true (b ∷ bs) more e = in_comment sample_or_fault (Err Ended) (is_line_end b) b (bs ++ more) bs e (λ c h. mix_ended c bs more h)
mix_ended false (b ∷ bs) more e = in_gap sample_or_fault (Err Ended) (is_space b) (b == 35) (is_digit b) (with_digit 0 b) b (bs ++ more) bs e (λ c h. mix_ended c bs more h)

pub gap_ended : (tail more : List ℕ) → is_gap (tail ++ more) ≡ true → sample_at tail ≡ Err Ended
unfolding number_at is_gap
gap_ended [] more e = refl
gap_ended (b ∷ bs) more e =
    ap sample_or_fault (starting (is_space b) b bs (and_left (is_space b) (is_mix false (bs ++ more)) e)) ∙ mix_ended false bs more (and_right (is_space b) (is_mix false (bs ++ more)) e)

-- a number that white space ends, as it is read
one_number : (text : List ℕ) (x : Result (ℕ × List ℕ) ℕ) → whole_number text ≡ x → numbers_at 1 text ≡ after_number x (λ rest. Ok ([], rest))
unfolding numbers_at
one_number text x e = ap (λ r. after_number r (λ rest. Ok ([], rest))) e

only_one : (ns : List ℕ) → length ns ≡ 1 → (n : ℕ) × (ns ≡ n ∷ [])
only_one [] e = absurd (omega arith)
only_one (n ∷ []) e = (n, refl)
only_one (n ∷ m ∷ ns) e = absurd (omega arith)

ended_number : (text vs : List ℕ) → numbers_at 1 text ≡ Ok (vs, 32 ∷ []) → IsEndedNumber text
ended_number text vs e =
    let o = back_numbers 1 text vs (32 ∷ []) (starts_numbers 1 text vs (32 ∷ []) refl e) e in
    let n = only_one o.numbers o.count in
    record { front = o.front; number = n.0; last = 32; are_numbers = subst (λ xs. AreNumbers xs o.front) n.1 o.are_numbers; is_last = refl; whole = o.whole }

ended_read : (text front rest : List ℕ) → text ≡ front ++ rest → IsEndedNumber front → (vs : List ℕ) × (left : List ℕ) × (numbers_at 1 text ≡ Ok (vs, left))
ended_read text front rest e n =
    let split : text ≡ n.front ++ (n.last ∷ rest) = e ∙ ap (λ xs. xs ++ rest) n.whole ∙ simp append_assoc in
    (cap n.number ∷ [], n.last ∷ rest, ap (λ xs. numbers_at 1 xs) split ∙ front_numbers (n.number ∷ []) n.front (n.last ∷ rest) n.are_numbers n.is_last)

number_stops : (text : List ℕ) (left : ℕ) → numbers_at 1 text ≡ Err left → StopsAt IsEndedNumber text (length text - left)
number_stops text left stop =
    let h = halted 1 text left stop in
    let sized : length text ≡ length h.front + length h.rest = ap length h.split ∙ length-append h.front h.rest in
    stops_at IsEndedNumber text h.front h.rest h.more (length text - left) h.split (omega (arith, h.left_is))
    (ended_number (h.front ++ h.more) h.values h.begins)
    (λ front rest k any. let r = ended_read text front rest k any in let no = r.2 in absurd (cc))
    (λ b after xs k any.
    let r = ended_read (h.front ++ (b ∷ xs)) (h.front ++ (b ∷ xs)) [] (sym (append-nil (h.front ++ (b ∷ xs)))) any in
    let yes = r.2 in let no = h.bad b after xs k in absurd (cc))

-- the reading of a sample that stops, seen by what it leaves
cut_no_bad : (q : Place) (left : ℕ) → sample_or_fault (Cut q, []) ≡ Err (FaultBad left) → ⊥
cut_no_bad Start left e = absurd (cc)
cut_no_bad Gap left e = absurd (cc)
cut_no_bad Comment left e = absurd (cc)
cut_no_bad (Number n) left e = absurd (cc)

abbrev left_of : Result (ℕ × List ℕ) Fault → ℕ
left_of (Ok x) = 0
left_of (Err Ended) = 0
left_of (Err (FaultBad n)) = n

bad_left : (text : List ℕ) (left : ℕ) (s : Stopped text) (rest : List ℕ) → s.rest ≡ rest → sample_at text ≡ Err (FaultBad left) → (left ≡ length s.rest) × (0 < left)
bad_left text left s [] er e =
    absurd (cut_no_bad s.at left (sym (ap sample_or_fault (ap (λ xs. number_at Start xs) s.split ∙ s.goes s.rest ∙ ap (λ xs. number_at s.at xs) er ∙ cut_at s.at)) ∙ e))
bad_left text left s (b ∷ after) er e =
    let k : sample_at text ≡ Err (FaultBad (length (b ∷ after))) =
    ap sample_or_fault (ap (λ xs. number_at Start xs) s.split ∙ s.goes s.rest ∙ ap (λ xs. number_at s.at xs) er ∙ bad_at s.at b after (s.bad b after er)) in
    let n : left ≡ length (b ∷ after) = sym (ap left_of e) ∙ ap left_of k in
    (n ∙ ap length (sym er), omega arith)

-- a byte that cannot stand there ends the longest front that begins a number
pub record BadSampleAt (text : List ℕ) (left : ℕ) : Type 0 where
  pub stops : StopsAt IsEndedNumber text (length text - left)
  pub some : 0 < left
  pub within : left ≤ length text

pub bad_sample : (text : List ℕ) (left : ℕ) → sample_at text ≡ Err (FaultBad left) → BadSampleAt text left
bad_sample text left e = elim (outcome text) [
  | inl r ↦ let k = ap sample_or_fault r.is in absurd (cc)
  | inr s ↦
      let n = bad_left text left s s.rest refl e in
      let stop : numbers_at 1 text ≡ Err left = one_number text (Err (length s.rest)) s.read ∙ ap (λ (k : ℕ). Err k) (sym n.0) in
      record { stops = number_stops text left stop; some = n.1; within = omega (arith, n.0, ap length s.split, length-append s.front s.rest) }
]

zero_digit : IsNumber (48 ∷ []) 0
unfolding all_digits value
zero_digit = record { digits = refl; some = omega arith; is_value = refl }

not_read : (tail : List ℕ) (k v : ℕ) (rest : List ℕ) → StopsAt IsEndedNumber tail k → k < length tail → Sampled tail v rest → ⊥
not_read tail k v [] stop lt s =
    let n : IsEndedNumber (tail ++ (32 ∷ [])) = record { front = s.sample; number = s.number; last = 32; are_numbers = s.are_numbers; is_last = refl; whole = ap (λ xs. xs ++ (32 ∷ [])) (s.whole ∙ append-nil s.sample) } in
    let le = stop.no_longer tail [] (32 ∷ []) (sym (append-nil tail)) n in
    absurd (omega (arith, le))
not_read tail k v (b ∷ after) stop lt s =
    stop.none (s.sample ++ (b ∷ [])) after (s.whole ∙ sym (append_assoc s.sample (b ∷ []) after))
    (record { front = s.sample; number = s.number; last = b; are_numbers = s.are_numbers; is_last = s.ends; whole = refl })

not_ended : (tail : List ℕ) (k : ℕ) → StopsAt IsEndedNumber tail k → k < length tail → is_gap (tail ++ (10 ∷ [])) ≡ true → ⊥
not_ended tail k stop lt gap =
    let n : IsEndedNumber (tail ++ (10 ∷ 48 ∷ 32 ∷ [])) = record {
      front = (tail ++ (10 ∷ [])) ++ (48 ∷ []);
      number = 0;
      last = 32;
      are_numbers = (tail ++ (10 ∷ []), 48 ∷ [], [], gap, zero_digit, refl, refl);
      is_last = refl;
      whole = simp append_assoc;
    } in
    let le = stop.no_longer tail [] (10 ∷ 48 ∷ 32 ∷ []) (sym (append-nil tail)) n in
    absurd (omega (arith, le))

pub stuck_sample : (tail : List ℕ) (k : ℕ) → StopsAt IsEndedNumber tail k → k < length tail → sample_at tail ≡ Err (FaultBad (length tail - k))
stuck_sample tail k stop lt =
    let go : (r : Result (ℕ × List ℕ) Fault) → sample_at tail ≡ r → sample_at tail ≡ Err (FaultBad (length tail - k)) =
    λ (r : Result (ℕ × List ℕ) Fault). elim r as (λ x. sample_at tail ≡ x → sample_at tail ≡ Err (FaultBad (length tail - k))) [
      | Ok x ↦ λ e. absurd (not_read tail k x.0 x.1 stop lt (back_sample tail x.0 x.1 e))
      | Err f ↦ elim f as (λ y. sample_at tail ≡ Err y → sample_at tail ≡ Err (FaultBad (length tail - k))) [
        | Ended ↦ λ e. absurd (not_ended tail k stop lt (gap_begins tail e))
        | FaultBad left ↦ λ e.
            let b = bad_sample tail left e in
            let same = stops_once IsEndedNumber tail k (length tail - left) stop b.stops in
            e ∙ ap (λ (n : ℕ). Err (FaultBad n)) (omega (arith, same, b.within))
      ]
    ]
    in go (sample_at tail) refl

-- one sample, and those after it
abbrev After : ℕ → ℕ → ℕ → ℕ → Result (ℕ × List ℕ) Fault → Result (List ℕ × List ℕ) PgmError
After k m end i r = elim r [ Ok x ↦ cond (nat_lt m x.0) (Err (SampleAboveMax i)) (with_front (x.0 ∷ []) (plain_at k m end (i + 1) x.1)) | Err f ↦ Err (fault_error end f) ]

one_sample : (k m end i : ℕ) (bytes : List ℕ) (r : Result (ℕ × List ℕ) Fault) → sample_at bytes ≡ r → plain_at (suc k) m end i bytes ≡ After k m end i r
unfolding plain_at
one_sample k m end i bytes r e = ap (λ z. After k m end i z) e

pub plain_fault : (k m end i : ℕ) (bytes : List ℕ) (f : Fault) → sample_at bytes ≡ Err f → plain_at (suc k) m end i bytes ≡ Err (fault_error end f)
plain_fault k m end i bytes f e = one_sample k m end i bytes (Err f) e

pub plain_above : (k m end i : ℕ) (bytes : List ℕ) (v : ℕ) (after : List ℕ) → sample_at bytes ≡ Ok (v, after) → m < v → plain_at (suc k) m end i bytes ≡ Err (SampleAboveMax i)
plain_above k m end i bytes v after e lt =
    let yes : nat_lt m v ≡ true = grind (arith, nat_tests) in
    one_sample k m end i bytes (Ok (v, after)) e ∙ rw yes refl

pub plain_more : (k m end i : ℕ) (bytes : List ℕ) (v : ℕ) (after : List ℕ) → sample_at bytes ≡ Ok (v, after) → v ≤ m → plain_at (suc k) m end i bytes ≡ with_front (v ∷ []) (plain_at k m end (i + 1) after)
plain_more k m end i bytes v after e le =
    let no : nat_lt m v ≡ false = grind (arith, nat_tests) in
    one_sample k m end i bytes (Ok (v, after)) e ∙ rw no refl

with_none : (r : Result (List ℕ × List ℕ) PgmError) → with_front [] r ≡ r
with_none (Ok x) = refl
with_none (Err e) = refl

with_both : (x : ℕ) (xs : List ℕ) (r : Result (List ℕ × List ℕ) PgmError) → with_front (x ∷ []) (with_front xs r) ≡ with_front (x ∷ xs) r
with_both x xs (Ok y) = refl
with_both x xs (Err e) = refl

cap_small : (x m : ℕ) → x ≤ m → m < 10000000 → cap x ≡ x
cap_small x m le lt = grind (arith, nat_tests)

cap_back : (x m : ℕ) → cap x ≤ m → m < 10000000 → cap x ≡ x
cap_back x m le lt = grind (arith, nat_tests)

cap_le : (x : ℕ) → cap x ≤ x
cap_le x = grind (arith, nat_tests)

pub cap_above : (x m : ℕ) → m < x → m < 10000000 → m < cap x
cap_above x m lt small = grind (arith, nat_tests)

space_ends : (xs : List ℕ) → StartsSpace xs → EndsNumber xs
space_ends [] e = absurd e
space_ends (b ∷ bs) e = e

ends_after : (ns front rest : List ℕ) → AreNumbers ns front → EndsNumber rest → EndsNumber (front ++ rest)
ends_after [] front rest e ends = subst (λ xs. EndsNumber (xs ++ rest)) (sym e) ends
ends_after (n ∷ ns) front rest (gap, ds, more, is_gapped, number, others, whole) ends =
    let text : front ++ rest ≡ gap ++ (ds ++ (more ++ rest)) = rw whole (simp append_assoc) in
    subst EndsNumber (sym text) (space_ends (gap ++ (ds ++ (more ++ rest))) (gap_starts gap (ds ++ (more ++ rest)) is_gapped))

-- samples at the front are read, and then what follows
pub over_samples : (xs front tail : List ℕ) (k m end i : ℕ) → m < 10000000 → AreNumbers xs front → All (λ x. x ≤ m) xs → EndsNumber tail
    → plain_at (length xs + k) m end i (front ++ tail) ≡ with_front xs (plain_at k m end (i + length xs) tail)
over_samples [] front tail k m end i small e each ends =
    let none : 0 + k ≡ k = omega arith in
    ap (λ n. plain_at n m end i (front ++ tail)) none ∙ ap (λ zs. plain_at k m end i (zs ++ tail)) e ∙ ap (λ n. plain_at k m end n tail) (sym (add-zero i))
    ∙ sym (with_none (plain_at k m end (i + 0) tail))
over_samples (x ∷ xs) front tail k m end i small (gap, ds, more, is_gapped, number, others, whole) each ends =
    let le : x ≤ m = each 0 0 (omega arith) in
    let one : AreNumbers (x ∷ []) (gap ++ (ds ++ [])) = (gap, ds, [], is_gapped, number, refl, refl) in
    let text : front ++ tail ≡ (gap ++ (ds ++ [])) ++ (more ++ tail) = rw whole (simp append_assoc) in
    let step : length (x ∷ xs) + k ≡ suc (length xs + k) = omega arith in
    let here : sample_at (front ++ tail) ≡ Ok (x, more ++ tail) = ap sample_at text ∙ front_sample x (gap ++ (ds ++ [])) (more ++ tail) one (ends_after xs more tail others ends) ∙ ap (λ (v : ℕ). Ok (v, more ++ tail)) (cap_small x m le small) in
    let later : i + 1 + length xs ≡ i + length (x ∷ xs) = omega arith in
    ap (λ n. plain_at n m end i (front ++ tail)) step
    ∙ plain_more (length xs + k) m end i (front ++ tail) x (more ++ tail) here le
    ∙ ap (λ r. with_front (x ∷ []) r) (over_samples xs more tail k m end (i + 1) small others (λ j d lt. each (suc j) d (omega arith)) ends
    ∙ ap (λ n. with_front xs (plain_at k m end n tail)) later)
    ∙ with_both x xs (plain_at k m end (i + length (x ∷ xs)) tail)

-- what reading plain samples answers: all of them,
pub record PlainRead (count m end i : ℕ) (bytes : List ℕ) : Type 0 where
  pub samples : List ℕ
  pub front : List ℕ
  pub rest : List ℕ
  pub are_numbers : AreNumbers samples front
  pub count_is : length samples ≡ count
  pub each : All (λ x. x ≤ m) samples
  pub ends : EndsNumber rest
  pub whole : bytes ≡ front ++ rest
  pub read : plain_at count m end i bytes ≡ Ok (samples, rest)

-- or fewer, where none stands behind them, or one above m
pub record PlainStopped (count m end i : ℕ) (bytes : List ℕ) : Type 0 where
  pub samples : List ℕ
  pub tail : List ℕ
  pub fault : Fault
  pub fewer : FewerSamples count m bytes samples tail
  pub none : sample_at tail ≡ Err fault
  pub read : plain_at count m end i bytes ≡ Err (fault_error end fault)

pub record PlainAbove (count m end i : ℕ) (bytes : List ℕ) : Type 0 where
  pub samples : List ℕ
  pub tail : List ℕ
  pub value : ℕ
  pub rest : List ℕ
  pub fewer : FewerSamples count m bytes samples tail
  pub sampled : Sampled tail value rest
  pub above : m < sampled.number
  pub read : plain_at count m end i bytes ≡ Err (SampleAboveMax (i + length samples))

abbrev pub PlainSays : ℕ → ℕ → ℕ → ℕ → List ℕ → Type 0
PlainSays count m end i bytes = PlainRead count m end i bytes ⊎ (PlainStopped count m end i bytes ⊎ PlainAbove count m end i bytes)

none_yet : (k m : ℕ) (bytes : List ℕ) → EndsNumber bytes → FewerSamples (suc k) m bytes [] bytes
none_yet k m bytes ends = record { front = []; are_numbers = refl; fewer = omega arith; each = λ j d lt. absurd (omega arith); ends = ends; whole = refl }

joined_numbers : (x : ℕ) (sample front : List ℕ) (ns : List ℕ) → AreNumbers (x ∷ []) sample → AreNumbers ns front → AreNumbers (x ∷ ns) (sample ++ front)
joined_numbers x sample front ns (gap, ds, none, is_gapped, number, empty, whole) others =
    (gap, ds, front, is_gapped, number, others, rw (whole, empty) (simp append_assoc))

one_fewer : (k m v : ℕ) (bytes rest xs tail : List ℕ) (s : Sampled bytes v rest) → s.number ≤ m → FewerSamples k m rest xs tail → FewerSamples (suc k) m bytes (s.number ∷ xs) tail
one_fewer k m v bytes rest xs tail s le f =
    record {
      front = s.sample ++ f.front;
      are_numbers = joined_numbers s.number s.sample f.front xs s.are_numbers f.are_numbers;
      fewer = omega (arith, f.fewer);
      each = All-cons (λ y. y ≤ m) s.number xs le f.each;
      ends = f.ends;
      whole = s.whole ∙ ap (λ ys. s.sample ++ ys) f.whole ∙ sym (append_assoc s.sample f.front tail);
    }

below : (k m end i v : ℕ) (bytes rest : List ℕ) → m < 10000000 → sample_at bytes ≡ Ok (v, rest) → v ≤ m → PlainSays k m end (i + 1) rest → PlainSays (suc k) m end i bytes
below k m end i v bytes rest small e le says =
    let s = back_sample bytes v rest e in
    let capped : cap s.number ≤ m = omega (arith, s.value_is) in
    let exact : v ≡ s.number = s.value_is ∙ cap_back s.number m capped small in
    let fine : s.number ≤ m = omega arith in
    let first : plain_at (suc k) m end i bytes ≡ with_front (s.number ∷ []) (plain_at k m end (i + 1) rest) =
    plain_more k m end i bytes v rest e le ∙ ap (λ x. with_front (x ∷ []) (plain_at k m end (i + 1) rest)) exact in
    elim says [
      | inl r ↦ inl (record {
        samples = s.number ∷ r.samples;
        front = s.sample ++ r.front;
        rest = r.rest;
        are_numbers = joined_numbers s.number s.sample r.front r.samples s.are_numbers r.are_numbers;
        count_is = omega (arith, r.count_is);
        each = All-cons (λ y. y ≤ m) s.number r.samples fine r.each;
        ends = r.ends;
        whole = s.whole ∙ ap (λ ys. s.sample ++ ys) r.whole ∙ sym (append_assoc s.sample r.front r.rest);
        read = first ∙ ap (λ x. with_front (s.number ∷ []) x) r.read;
      })
      | inr o ↦ inr (elim o [
        | inl r ↦ inl (record {
          samples = s.number ∷ r.samples;
          tail = r.tail;
          fault = r.fault;
          fewer = one_fewer k m v bytes rest r.samples r.tail s fine r.fewer;
          none = r.none;
          read = first ∙ ap (λ x. with_front (s.number ∷ []) x) r.read;
        })
        | inr r ↦ inr (record {
          samples = s.number ∷ r.samples;
          tail = r.tail;
          value = r.value;
          rest = r.rest;
          fewer = one_fewer k m v bytes rest r.samples r.tail s fine r.fewer;
          sampled = r.sampled;
          above = r.above;
          read = first ∙ ap (λ x. with_front (s.number ∷ []) x) r.read ∙ ap (λ (n : ℕ). Err (SampleAboveMax n)) (omega arith);
        })
      ])
    ]

pub plain_says : (count m end i : ℕ) (bytes : List ℕ) → m < 10000000 → EndsNumber bytes → PlainSays count m end i bytes
unfolding plain_at
plain_says zero m end i bytes small ends =
    inl (record { samples = []; front = []; rest = bytes; are_numbers = refl; count_is = refl; each = λ j d lt. absurd (omega arith); ends = ends; whole = refl; read = refl })
plain_says (suc k) m end i bytes small ends =
    let go : (r : Result (ℕ × List ℕ) Fault) → sample_at bytes ≡ r → PlainSays (suc k) m end i bytes =
    λ (r : Result (ℕ × List ℕ) Fault). elim r as (λ x. sample_at bytes ≡ x → PlainSays (suc k) m end i bytes) [
      | Ok x ↦ λ e. elim (cases_lt m x.0) [
        | inl lt ↦
            let s = back_sample bytes x.0 x.1 e in
            inr (inr (record {
              samples = [];
              tail = bytes;
              value = x.0;
              rest = x.1;
              fewer = none_yet k m bytes ends;
              sampled = s;
              above = omega (arith, s.value_is, cap_le s.number);
              read = plain_above k m end i bytes x.0 x.1 e lt ∙ ap (λ (n : ℕ). Err (SampleAboveMax n)) (sym (add-zero i));
            }))
        | inr le ↦ let s = back_sample bytes x.0 x.1 e in below k m end i x.0 bytes x.1 small e le (plain_says k m end (i + 1) x.1 small s.ends)
      ]
      | Err f ↦ λ e. inr (inl (record { samples = []; tail = bytes; fault = f; fewer = none_yet k m bytes ends; none = e; read = plain_fault k m end i bytes f e }))
    ]
    in go (sample_at bytes) refl
