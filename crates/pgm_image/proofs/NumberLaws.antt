-- The numbers that are read are just the numbers after gaps.
use Rattle.std.proofs.Common.{◌≡◌, ℕ, ◌+◌, ◌-◌, ◌*◌, ◌<◌, List, [], ◌∷◌, ◌++◌, Bool, true, false, cond, ◌&&◌, Result, Ok, Err, refl, sym, ap, ◌∙◌, length, ◌==◌, arith, append_assoc, subst}
use Rattle.std.proofs.lemmas.Bool.Decides.{nat_tests}
use Rattle.pgm_image.specs.Signs.{is_space, is_line_end, is_digit, with_digit, cap}
use Rattle.pgm_image.specs.Words.{onward, number_at}
use Rattle.pgm_image.specs.Reading.{sample_or_fault, sample_at}
use Rattle.pgm_image.specs.Grammar.{is_mix, is_gap, all_digits, value, IsNumber, AreNumbers, EndsNumber}
use Rattle.pgm_image.specs.declared.words.Place.{Place}
use Rattle.pgm_image.specs.declared.words.Place.TheVariants.{Start, Gap, Comment, Number}
use Rattle.pgm_image.specs.declared.words.Step.TheVariants.{On, Ended, Bad}
use Rattle.pgm_image.specs.declared.words.Reading.{Reading}
use Rattle.pgm_image.specs.declared.words.Reading.TheVariants.{Whole, Cut}
use Rattle.pgm_image.specs.declared.plain.Fault.{Fault}

-- within a comment, or not
abbrev pub place : Bool → Place
place true = Comment
place false = Gap

-- a number's digits, capped at each
unfoldable pub capped : ℕ → List ℕ → ℕ
capped n [] = n
capped n (b ∷ bs) = capped (with_digit n b) bs

with_digit_cap : (n b : ℕ) → with_digit (cap n) b ≡ cap (10 * n + (b - 48))
with_digit_cap n b = grind (arith, nat_tests)

pub capped_value : (n : ℕ) (ds : List ℕ) → capped (cap n) ds ≡ cap (value n ds)
unfolding capped value
capped_value n [] = refl
capped_value n (b ∷ bs) = ap (λ k. capped k bs) (with_digit_cap n b) ∙ capped_value (10 * n + (b - 48)) bs

pub and_left : (a b : Bool) → (a && b) ≡ true → a ≡ true
and_left true b e = refl
and_left false b e = absurd (cc)

pub and_right : (a b : Bool) → (a && b) ≡ true → b ≡ true
and_right true b e = e
and_right false b e = absurd (cc)

pub and_both : (a b : Bool) → a ≡ true → b ≡ true → (a && b) ≡ true
and_both true true e f = refl
and_both false b e f = absurd (cc)
and_both true false e f = absurd (cc)

-- one byte of a mix, seen by its tests; g is what is made of the reading
pub in_gap : {R : Type 0} (g : Reading × List ℕ → R) (r : R) (s t d : Bool) (n b : ℕ) (mix bytes : List ℕ) → cond s (is_mix false mix) (t && is_mix true mix) ≡ true
    → ((c : Bool) → is_mix c mix ≡ true → g (number_at (place c) bytes) ≡ r)
    → g (onward (cond s (On Gap) (cond t (On Comment) (cond d (On (Number n)) Bad))) (λ q. number_at q bytes) b bytes) ≡ r
in_gap g r true t d n b mix bytes e f = f false e
in_gap g r false true d n b mix bytes e f = f true e
in_gap g r false false d n b mix bytes e f = absurd (cc)

pub in_comment : {R : Type 0} (g : Reading × List ℕ → R) (r : R) (t : Bool) (b : ℕ) (mix bytes : List ℕ) → cond t (is_mix false mix) (is_mix true mix) ≡ true
    → ((c : Bool) → is_mix c mix ≡ true → g (number_at (place c) bytes) ≡ r)
    → g (onward (cond t (On Gap) (On Comment)) (λ q. number_at q bytes) b bytes) ≡ r
in_comment g r true b mix bytes e f = f false e
in_comment g r false b mix bytes e f = f true e

over_mix : (c : Bool) (mix more : List ℕ) → is_mix c mix ≡ true → number_at (place c) (mix ++ more) ≡ number_at Gap more
unfolding is_mix number_at
over_mix false [] more e = refl
over_mix true [] more e = absurd (cc)
over_mix true (b ∷ bs) more e = in_comment (λ x. x) (number_at Gap more) (is_line_end b) b bs (bs ++ more) e (λ c h. over_mix c bs more h)
over_mix false (b ∷ bs) more e = in_gap (λ x. x) (number_at Gap more) (is_space b) (b == 35) (is_digit b) (with_digit 0 b) b bs (bs ++ more) e (λ c h. over_mix c bs more h)

digit_step : (d s : Bool) (k n b : ℕ) (bs more : List ℕ) (r : Reading × List ℕ) → (d && all_digits bs) ≡ true
    → (all_digits bs ≡ true → number_at (Number k) (bs ++ more) ≡ r)
    → onward (cond d (On (Number k)) (cond s (Ended n) Bad)) (λ q. number_at q (bs ++ more)) b (bs ++ more) ≡ r
digit_step true s k n b bs more r e f = f e
digit_step false s k n b bs more r e f = absurd (cc)

over_digits : (n : ℕ) (ds more : List ℕ) → all_digits ds ≡ true → number_at (Number n) (ds ++ more) ≡ number_at (Number (capped n ds)) more
unfolding all_digits number_at capped
over_digits n [] more e = refl
over_digits n (b ∷ bs) more e = digit_step (is_digit b) (is_space b) (with_digit n b) n b bs more (number_at (Number (capped (with_digit n b) bs)) more) e (λ h. over_digits (with_digit n b) bs more h)

space_no_digit : (b : ℕ) → is_space b ≡ true → is_digit b ≡ false
space_no_digit b e = grind (arith, nat_tests)

digit_no_space : (b : ℕ) → is_digit b ≡ true → is_space b ≡ false
digit_no_space b e = grind (arith, nat_tests)

digit_no_hash : (b : ℕ) → is_digit b ≡ true → (b == 35) ≡ false
digit_no_hash b e = grind (arith, nat_tests)

closing : (d t : Bool) (k n s : ℕ) (more : List ℕ) → d ≡ false → t ≡ true
    → onward (cond d (On (Number k)) (cond t (Ended n) Bad)) (λ q. number_at q more) s more ≡ (Whole n, s ∷ more)
closing false true k n s more d t = refl
closing true u k n s more d t = absurd (cc)
closing false false k n s more d t = absurd (cc)

opening : (s t d : Bool) (n b : ℕ) (more : List ℕ) → s ≡ false → t ≡ false → d ≡ true
    → onward (cond s (On Gap) (cond t (On Comment) (cond d (On (Number n)) Bad))) (λ q. number_at q more) b more ≡ number_at (Number n) more
opening false false true n b more x y z = refl
opening true t d n b more x y z = absurd (cc)
opening false true d n b more x y z = absurd (cc)
opening false false false n b more x y z = absurd (cc)

-- white space ends a number
pub closes : (n s : ℕ) (more : List ℕ) → is_space s ≡ true → number_at (Number n) (s ∷ more) ≡ (Whole n, s ∷ more)
unfolding number_at
closes n s more e = closing (is_digit s) (is_space s) (with_digit n s) n s more (space_no_digit s e) e

opens : (b : ℕ) (more : List ℕ) → is_digit b ≡ true → number_at Gap (b ∷ more) ≡ number_at (Number (with_digit 0 b)) more
unfolding number_at
opens b more e = opening (is_space b) (b == 35) (is_digit b) (with_digit 0 b) b more (digit_no_space b e) (digit_no_hash b e) e

over_number : (ds more : List ℕ) → all_digits ds ≡ true → 0 < length ds → number_at Gap (ds ++ more) ≡ number_at (Number (capped 0 ds)) more
unfolding all_digits capped
over_number [] more e some = absurd (omega arith)
over_number (b ∷ bs) more e some =
    opens b (bs ++ more) (and_left (is_digit b) (all_digits bs) e)
    ∙ over_digits (with_digit 0 b) bs more (and_right (is_digit b) (all_digits bs) e)

pub starting : (s : Bool) (b : ℕ) (more : List ℕ) → s ≡ true → onward (cond s (On Gap) Bad) (λ q. number_at q more) b more ≡ number_at Gap more
starting true b more e = refl
starting false b more e = absurd (cc)

over_gap : (gap more : List ℕ) → is_gap gap ≡ true → number_at Start (gap ++ more) ≡ number_at Gap more
unfolding is_gap number_at
over_gap [] more e = absurd (cc)
over_gap (g ∷ mix) more e = starting (is_space g) g (mix ++ more) (and_left (is_space g) (is_mix false mix) e) ∙ over_mix false mix more (and_right (is_space g) (is_mix false mix) e)

-- a number after a gap is read as its value, whatever follows
pub reads_number : (gap ds : List ℕ) (n : ℕ) (more : List ℕ) → is_gap gap ≡ true → IsNumber ds n → number_at Start (gap ++ (ds ++ more)) ≡ number_at (Number (cap n)) more
reads_number gap ds n more e number =
    over_gap gap (ds ++ more) e ∙ over_number ds more number.digits number.some
    ∙ ap (λ k. number_at (Number k) more) (capped_value 0 ds ∙ ap cap number.is_value)

-- the other way: what is read has the shape
pub record Digits (n : ℕ) (text : List ℕ) (v : ℕ) (rest : List ℕ) : Type 0 where
  pub digits : List ℕ
  pub are_digits : all_digits digits ≡ true
  pub whole : text ≡ digits ++ rest
  pub number : v ≡ capped n digits
  pub ends : EndsNumber rest

abbrev value_of : ℕ → Result (ℕ × List ℕ) Fault → ℕ
value_of k (Ok x) = x.0
value_of k (Err f) = k

abbrev left_of : Result (ℕ × List ℕ) Fault → List ℕ
left_of (Ok x) = x.1
left_of (Err f) = []

ended_here : (n v : ℕ) (text rest : List ℕ) → EndsNumber text → sample_or_fault (Whole n, text) ≡ Ok (v, rest) → Digits n text v rest
unfolding all_digits capped
ended_here n v text rest h e =
    let same : text ≡ rest = ap left_of e in
    record { digits = []; are_digits = refl; whole = same; number = sym (ap (value_of 0) e); ends = subst EndsNumber same h }

cut_here : (n v : ℕ) (rest : List ℕ) → sample_or_fault (Cut (Number n), []) ≡ Ok (v, rest) → Digits n [] v rest
unfolding all_digits capped
cut_here n v rest e =
    let same : [] ≡ rest = ap left_of e in
    record { digits = []; are_digits = refl; whole = same; number = sym (ap (value_of 0) e); ends = subst EndsNumber same tt }

number_cases : (d s : Bool) (n b v : ℕ) (bs rest : List ℕ) → is_digit b ≡ d → is_space b ≡ s
    → sample_or_fault (onward (cond d (On (Number (with_digit n b))) (cond s (Ended n) Bad)) (λ q. number_at q bs) b bs) ≡ Ok (v, rest)
    → (sample_or_fault (number_at (Number (with_digit n b)) bs) ≡ Ok (v, rest) → Digits (with_digit n b) bs v rest)
    → Digits n (b ∷ bs) v rest
unfolding all_digits capped
number_cases true s n b v bs rest ed es e f =
    let r = f e in
    record { digits = b ∷ r.digits; are_digits = and_both (is_digit b) (all_digits r.digits) ed r.are_digits; whole = ap (λ xs. b ∷ xs) r.whole; number = r.number; ends = r.ends }
number_cases false true n b v bs rest ed es e f = ended_here n v (b ∷ bs) rest es e
number_cases false false n b v bs rest ed es e f = absurd (cc)

back_number : (n v : ℕ) (text rest : List ℕ) → sample_or_fault (number_at (Number n) text) ≡ Ok (v, rest) → Digits n text v rest
unfolding number_at
back_number n v [] rest e = cut_here n v rest e
back_number n v (b ∷ bs) rest e = number_cases (is_digit b) (is_space b) n b v bs rest refl refl e (λ k. back_number (with_digit n b) v bs rest k)

pub record Mixed (c : Bool) (text : List ℕ) (v : ℕ) (rest : List ℕ) : Type 0 where
  pub mix : List ℕ
  pub word : List ℕ
  pub is_mixed : is_mix c mix ≡ true
  pub number : Digits 0 word v rest
  pub some : 0 < length number.digits
  pub whole : text ≡ mix ++ word

more_mix : (c d : Bool) (b v : ℕ) (bs rest : List ℕ) → ((mix : List ℕ) → is_mix d mix ≡ true → is_mix c (b ∷ mix) ≡ true) → Mixed d bs v rest → Mixed c (b ∷ bs) v rest
more_mix c d b v bs rest f r = record { mix = b ∷ r.mix; word = r.word; is_mixed = f r.mix r.is_mixed; number = r.number; some = r.some; whole = ap (λ xs. b ∷ xs) r.whole }

pub comment_more : (t : Bool) (b : ℕ) (mix : List ℕ) → is_line_end b ≡ t → is_mix (cond t false true) mix ≡ true → is_mix true (b ∷ mix) ≡ true
unfolding is_mix
comment_more true b mix e k = let f = (λ (v : Bool). cond v (is_mix false mix) (is_mix true mix)) in ap f e ∙ k
comment_more false b mix e k = let f = (λ (v : Bool). cond v (is_mix false mix) (is_mix true mix)) in ap f e ∙ k

pub space_more : (b : ℕ) (mix : List ℕ) → is_space b ≡ true → is_mix false mix ≡ true → is_mix false (b ∷ mix) ≡ true
unfolding is_mix
space_more b mix e k = let f = (λ (v : Bool). cond v (is_mix false mix) ((b == 35) && is_mix true mix)) in ap f e ∙ k

pub hash_more : (b : ℕ) (mix : List ℕ) → is_space b ≡ false → (b == 35) ≡ true → is_mix true mix ≡ true → is_mix false (b ∷ mix) ≡ true
unfolding is_mix
hash_more b mix e g k = let f = (λ (v : Bool). cond v (is_mix false mix) ((b == 35) && is_mix true mix)) in ap f e ∙ and_both (b == 35) (is_mix true mix) g k

comment_cases : (t : Bool) (b v : ℕ) (bs rest : List ℕ) → is_line_end b ≡ t
    → sample_or_fault (onward (cond t (On Gap) (On Comment)) (λ q. number_at q bs) b bs) ≡ Ok (v, rest)
    → ((c : Bool) → sample_or_fault (number_at (place c) bs) ≡ Ok (v, rest) → Mixed c bs v rest) → Mixed true (b ∷ bs) v rest
comment_cases true b v bs rest et e f = more_mix true false b v bs rest (λ mix k. comment_more true b mix et k) (f false e)
comment_cases false b v bs rest et e f = more_mix true true b v bs rest (λ mix k. comment_more false b mix et k) (f true e)

number_here : (b v : ℕ) (bs rest : List ℕ) → is_digit b ≡ true → sample_or_fault (number_at (Number (with_digit 0 b)) bs) ≡ Ok (v, rest) → Mixed false (b ∷ bs) v rest
unfolding all_digits capped is_mix
number_here b v bs rest ed e =
    let r = back_number (with_digit 0 b) v bs rest e in
    record {
      mix = [];
      word = b ∷ bs;
      is_mixed = refl;
      number = record { digits = b ∷ r.digits; are_digits = and_both (is_digit b) (all_digits r.digits) ed r.are_digits; whole = ap (λ xs. b ∷ xs) r.whole; number = r.number; ends = r.ends };
      some = omega arith;
      whole = refl;
    }

gap_cases : (s t d : Bool) (b v : ℕ) (bs rest : List ℕ) → is_space b ≡ s → (b == 35) ≡ t → is_digit b ≡ d
    → sample_or_fault (onward (cond s (On Gap) (cond t (On Comment) (cond d (On (Number (with_digit 0 b))) Bad))) (λ q. number_at q bs) b bs) ≡ Ok (v, rest)
    → ((c : Bool) → sample_or_fault (number_at (place c) bs) ≡ Ok (v, rest) → Mixed c bs v rest) → Mixed false (b ∷ bs) v rest
gap_cases true t d b v bs rest es et ed e f = more_mix false false b v bs rest (λ mix k. space_more b mix es k) (f false e)
gap_cases false true d b v bs rest es et ed e f = more_mix false true b v bs rest (λ mix k. hash_more b mix es et k) (f true e)
gap_cases false false true b v bs rest es et ed e f = number_here b v bs rest ed e
gap_cases false false false b v bs rest es et ed e f = absurd (cc)

back_mix : (c : Bool) (v : ℕ) (text rest : List ℕ) → sample_or_fault (number_at (place c) text) ≡ Ok (v, rest) → Mixed c text v rest
unfolding number_at
back_mix true v [] rest e = absurd (cc)
back_mix false v [] rest e = absurd (cc)
back_mix true v (b ∷ bs) rest e = comment_cases (is_line_end b) b v bs rest refl e (λ c k. back_mix c v bs rest k)
back_mix false v (b ∷ bs) rest e = gap_cases (is_space b) (b == 35) (is_digit b) b v bs rest refl refl refl e (λ c k. back_mix c v bs rest k)

-- a number after a gap, and what follows
pub record Sampled (text : List ℕ) (v : ℕ) (rest : List ℕ) : Type 0 where
  pub sample : List ℕ
  pub number : ℕ
  pub are_numbers : AreNumbers (number ∷ []) sample
  pub whole : text ≡ sample ++ rest
  pub value_is : v ≡ cap number
  pub ends : EndsNumber rest

space_first : (s : Bool) (b v : ℕ) (bs rest : List ℕ) → is_space b ≡ s → sample_or_fault (onward (cond s (On Gap) Bad) (λ q. number_at q bs) b bs) ≡ Ok (v, rest)
    → (is_space b ≡ true) × (sample_or_fault (number_at Gap bs) ≡ Ok (v, rest))
space_first true b v bs rest es e = (es, e)
space_first false b v bs rest es e = absurd (cc)

pub gap_of : (g : ℕ) (mix : List ℕ) → is_space g ≡ true → is_mix false mix ≡ true → is_gap (g ∷ mix) ≡ true
unfolding is_gap
gap_of g mix e k = and_both (is_space g) (is_mix false mix) e k

pub back_sample : (text : List ℕ) (v : ℕ) (rest : List ℕ) → sample_at text ≡ Ok (v, rest) → Sampled text v rest
unfolding number_at
back_sample [] v rest e = absurd (cc)
back_sample (g ∷ xs) v rest e =
    let first = space_first (is_space g) g v xs rest refl e in
    let a = back_mix false v xs rest first.1 in
    let ds = a.number.digits in
    let joined : xs ≡ a.mix ++ (ds ++ rest) = a.whole ∙ ap (λ ys. a.mix ++ ys) a.number.whole in
    record {
      sample = (g ∷ a.mix) ++ (ds ++ []);
      number = value 0 ds;
      are_numbers = (g ∷ a.mix, ds, [], gap_of g a.mix first.0 a.is_mixed, record { digits = a.number.are_digits; some = a.some; is_value = refl }, refl, refl);
      whole = ap (λ ys. g ∷ ys) joined ∙ simp append_assoc;
      value_is = a.number.number ∙ capped_value 0 ds;
      ends = a.number.ends;
    }

-- a number at the front is read, where it ends there
ended_as : (v : ℕ) (more : List ℕ) → EndsNumber more → sample_or_fault (number_at (Number v) more) ≡ Ok (v, more)
unfolding number_at
ended_as v [] e = refl
ended_as v (b ∷ bs) e = ap sample_or_fault (closes v b bs e)

pub front_sample : (x : ℕ) (sample more : List ℕ) → AreNumbers (x ∷ []) sample → EndsNumber more → sample_at (sample ++ more) ≡ Ok (cap x, more)
front_sample x sample more (gap, ds, none, is_gapped, number, empty, whole) e =
    let text : sample ++ more ≡ gap ++ (ds ++ more) = rw (whole, empty) (simp append_assoc) in
    ap sample_at text ∙ ap sample_or_fault (reads_number gap ds x more is_gapped number) ∙ ended_as (cap x) more e
