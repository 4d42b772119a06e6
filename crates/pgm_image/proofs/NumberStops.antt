-- Where the numbers that are read stop.
use Rattle.std.proofs.Common.{◌≡◌, ℕ, suc, zero, ◌<◌, ◌⊎◌, inl, inr, List, [], ◌∷◌, ◌++◌, Bool, true, false, cond, Result, Ok, Err, refl, sym, ap, ◌∙◌, length, arith, append_assoc, length-append, subst, map}
use Rattle.std.proofs.lemmas.Bool.{cases_lt}
use Rattle.pgm_image.specs.Signs.{is_space, cap}
use Rattle.pgm_image.specs.Words.{onward, step, number_at, whole, whole_number, with_number, after_number, numbers_at}
use Rattle.pgm_image.specs.Reading.{sample_or_fault, sample_at}
use Rattle.pgm_image.specs.Grammar.{is_mix, is_gap, AreNumbers, StopsAt}
use Rattle.pgm_image.specs.declared.words.Place.{Place}
use Rattle.pgm_image.specs.declared.words.Place.TheVariants.{Start, Gap, Comment, Number}
use Rattle.pgm_image.specs.declared.words.Step.{Step}
use Rattle.pgm_image.specs.declared.words.Step.TheVariants.{On, Ended, Bad}
use Rattle.pgm_image.specs.declared.words.Reading.TheVariants.{Whole, Cut, Stuck}
use Rattle.pgm_image.proofs.NumberLaws.{back_sample, reads_number, closes, and_left}

abbrev pub StartsSpace : List ℕ → Type 0
StartsSpace [] = ⊥
StartsSpace (b ∷ bs) = is_space b ≡ true

-- the place where reading stops, from which it would go on with whatever followed
abbrev pub StopsBefore : Place → List ℕ → Type 0
StopsBefore q [] = Unit {0}
StopsBefore q (b ∷ bs) = ((n : ℕ) × (step q b ≡ Ended n)) ⊎ (step q b ≡ Bad)

pub record Reached (p : Place) (text : List ℕ) : Type 0 where
  pub at : Place
  pub front : List ℕ
  pub rest : List ℕ
  pub split : text ≡ front ++ rest
  pub goes : (more : List ℕ) → number_at p (front ++ more) ≡ number_at at more
  pub stops : StopsBefore at rest

pub reached : (p : Place) (text : List ℕ) → Reached p text
unfolding number_at
reached p [] = record { at = p; front = []; rest = []; split = refl; goes = λ more. refl; stops = tt }
reached p (b ∷ bs) =
    let k : (s : Step) → step p b ≡ s → Reached p (b ∷ bs) =
    λ (s : Step). elim s as (λ v. step p b ≡ v → Reached p (b ∷ bs)) [
      | On q ↦ λ es. let r = reached q bs in record { at = r.at; front = b ∷ r.front; rest = r.rest; split = ap (λ xs. b ∷ xs) r.split; goes = λ more. rw es (r.goes more); stops = r.stops }
      | Ended n ↦ λ es. record { at = p; front = []; rest = b ∷ bs; split = refl; goes = λ more. refl; stops = inl (n, es) }
      | Bad ↦ λ es. record { at = p; front = []; rest = b ∷ bs; split = refl; goes = λ more. refl; stops = inr es }
    ]
    in k (step p b) refl

-- each place can be gone on from
finish : (q : Place) (after : List ℕ) → (f : List ℕ) × (n : ℕ) × (number_at q (f ++ (32 ∷ after)) ≡ (Whole n, 32 ∷ after))
unfolding number_at
finish (Number n) after = ([], n, refl)
finish Gap after = (48 ∷ [], 0, refl)
finish Comment after = (10 ∷ 48 ∷ [], 0, refl)
finish Start after = (32 ∷ 48 ∷ [], 0, refl)

ended_at : (q : Place) (b n : ℕ) (bs : List ℕ) → step q b ≡ Ended n → number_at q (b ∷ bs) ≡ (Whole n, b ∷ bs)
unfolding number_at
ended_at q b n bs e = ap (λ s. onward s (λ p. number_at p bs) b bs) e

pub bad_at : (q : Place) (b : ℕ) (bs : List ℕ) → step q b ≡ Bad → number_at q (b ∷ bs) ≡ (Stuck, b ∷ bs)
unfolding number_at
bad_at q b bs e = ap (λ s. onward s (λ p. number_at p bs) b bs) e

pub cut_at : (q : Place) → number_at q [] ≡ (Cut q, [])
unfolding number_at
cut_at q = refl

-- reading one number stops before its end
pub record Stopped (text : List ℕ) : Type 0 where
  pub at : Place
  pub front : List ℕ
  pub rest : List ℕ
  pub split : text ≡ front ++ rest
  pub goes : (more : List ℕ) → number_at Start (front ++ more) ≡ number_at at more
  pub bad : (b : ℕ) (after : List ℕ) → rest ≡ b ∷ after → step at b ≡ Bad
  pub read : whole_number text ≡ Err (length rest)

-- reading one number comes to its end
pub record Read (text : List ℕ) : Type 0 where
  pub value : ℕ
  pub last : ℕ
  pub after : List ℕ
  pub is : number_at Start text ≡ (Whole value, last ∷ after)

-- the head of two equal lists
head_is : (b c : ℕ) (bs cs : List ℕ) → b ∷ bs ≡ c ∷ cs → b ≡ c
head_is b c bs cs e = cc

to_rest : (p q : Place) (text front rest : List ℕ) → text ≡ front ++ rest → ((more : List ℕ) → number_at p (front ++ more) ≡ number_at q more) → number_at p text ≡ number_at q rest
to_rest p q text front rest split goes = ap (λ xs. number_at p xs) split ∙ goes rest

outcome_at : (text : List ℕ) (q : Place) (front rest : List ℕ) → text ≡ front ++ rest → ((more : List ℕ) → number_at Start (front ++ more) ≡ number_at q more) → StopsBefore q rest → Read text ⊎ Stopped text
outcome_at text q front [] split goes stops =
    inr (record { at = q; front = front; rest = []; split = split; goes = goes; bad = λ b after e. absurd (cc); read = ap whole (to_rest Start q text front [] split goes ∙ cut_at q) })
outcome_at text q front (b ∷ bs) split goes stops = elim stops [
  | inl e ↦ inl (record { value = e.0; last = b; after = bs; is = to_rest Start q text front (b ∷ bs) split goes ∙ ended_at q b e.0 bs e.1 })
  | inr e ↦ inr (record {
    at = q;
    front = front;
    rest = b ∷ bs;
    split = split;
    goes = goes;
    bad = λ c after k. subst (λ x. step q x ≡ Bad) (head_is b c bs after k) e;
    read = ap whole (to_rest Start q text front (b ∷ bs) split goes ∙ bad_at q b bs e);
  })
]

pub outcome : (text : List ℕ) → Read text ⊎ Stopped text
outcome text = let r = reached Start text in outcome_at text r.at r.front r.rest r.split r.goes r.stops

-- a number at the front, with white space after it
pub whole_front : (x : ℕ) (sample more : List ℕ) → AreNumbers (x ∷ []) sample → StartsSpace more → whole_number (sample ++ more) ≡ Ok (cap x, more)
whole_front x sample [] numbers e = absurd e
whole_front x sample (s ∷ more) (gap, ds, none, is_gapped, number, empty, text_is) e =
    let text : sample ++ (s ∷ more) ≡ gap ++ (ds ++ (s ∷ more)) = rw (text_is, empty) (simp append_assoc) in
    ap whole_number text ∙ ap whole (reads_number gap ds x (s ∷ more) is_gapped number) ∙ ap whole (closes (cap x) s more e)

pub gap_starts : (gap more : List ℕ) → is_gap gap ≡ true → StartsSpace (gap ++ more)
unfolding is_gap
gap_starts [] more e = absurd (cc)
gap_starts (g ∷ mix) more e = and_left (is_space g) (is_mix false mix) e

pub numbers_start : (ns front rest : List ℕ) → AreNumbers ns front → StartsSpace rest → StartsSpace (front ++ rest)
numbers_start [] front rest e starts = subst (λ xs. StartsSpace (xs ++ rest)) (sym e) starts
numbers_start (n ∷ ns) front rest (gap, ds, more, is_gapped, number, others, text_is) starts =
    let text : front ++ rest ≡ gap ++ (ds ++ (more ++ rest)) = rw text_is (simp append_assoc) in
    subst StartsSpace (sym text) (gap_starts gap (ds ++ (more ++ rest)) is_gapped)

-- numbers at the front, with white space after them, are read
pub front_numbers : (ns front rest : List ℕ) → AreNumbers ns front → StartsSpace rest → numbers_at (length ns) (front ++ rest) ≡ Ok (map cap ns, rest)
unfolding numbers_at
front_numbers [] front rest e starts = ap (λ (xs : List ℕ). Ok ([], xs ++ rest)) e
front_numbers (n ∷ ns) front rest (gap, ds, more, is_gapped, number, others, text_is) starts =
    let one : AreNumbers (n ∷ []) (gap ++ (ds ++ [])) = (gap, ds, [], is_gapped, number, refl, refl) in
    let text : front ++ rest ≡ (gap ++ (ds ++ [])) ++ (more ++ rest) = rw text_is (simp append_assoc) in
    ap (λ xs. after_number (whole_number xs) (λ left. numbers_at (length ns) left)) text
    ∙ ap (λ r. after_number r (λ left. numbers_at (length ns) left)) (whole_front n (gap ++ (ds ++ [])) (more ++ rest) one (numbers_start ns more rest others starts))
    ∙ ap (λ r. with_number (cap n) r) (front_numbers ns more rest others starts)

-- what is read is numbers
pub record Numbered (k : ℕ) (text vs rest : List ℕ) : Type 0 where
  pub numbers : List ℕ
  pub front : List ℕ
  pub are_numbers : AreNumbers numbers front
  pub count : length numbers ≡ k
  pub values : vs ≡ map cap numbers
  pub whole : text ≡ front ++ rest
  pub starts : StartsSpace rest

abbrev values_of : Result (List ℕ × List ℕ) ℕ → List ℕ
values_of (Ok x) = x.0
values_of (Err n) = []

abbrev rest_of : Result (List ℕ × List ℕ) ℕ → List ℕ
rest_of (Ok x) = x.1
rest_of (Err n) = []

abbrev tail_of : List ℕ → List ℕ
tail_of [] = []
tail_of (x ∷ xs) = xs

with_ok : (n : ℕ) (r : Result (List ℕ × List ℕ) ℕ) (vs rest : List ℕ) → with_number n r ≡ Ok (vs, rest) → (us : List ℕ) × (r ≡ Ok (us, rest)) × (vs ≡ n ∷ us)
with_ok n (Ok x) vs rest e = (x.0, ap (λ (ys : List ℕ). Ok (x.0, ys)) (ap rest_of e), sym (ap values_of e))
with_ok n (Err left) vs rest e = absurd (cc)

read_sampled : (text : List ℕ) (r : Read text) → (sample_at text ≡ Ok (r.value, r.last ∷ r.after)) × (whole_number text ≡ Ok (r.value, r.last ∷ r.after))
read_sampled text r = (ap sample_or_fault r.is, ap whole r.is)

sample_numbers : (x : ℕ) (sample front : List ℕ) (ns : List ℕ) → AreNumbers (x ∷ []) sample → AreNumbers ns front → AreNumbers (x ∷ ns) (sample ++ front)
sample_numbers x sample front ns (gap, ds, none, is_gapped, number, empty, text_is) others =
    (gap, ds, front, is_gapped, number, others, rw (text_is, empty) (simp append_assoc))

back_at : (k : ℕ) (text vs rest : List ℕ) (r : Read text) → ((tail us : List ℕ) → StartsSpace tail → numbers_at k tail ≡ Ok (us, rest) → Numbered k tail us rest)
    → with_number r.value (numbers_at k (r.last ∷ r.after)) ≡ Ok (vs, rest) → Numbered (suc k) text vs rest
back_at k text vs rest r f e =
    let s = back_sample text r.value (r.last ∷ r.after) (read_sampled text r).0 in
    let w = with_ok r.value (numbers_at k (r.last ∷ r.after)) vs rest e in
    let o = f (r.last ∷ r.after) w.0 s.ends w.1 in
    record {
      numbers = s.number ∷ o.numbers;
      front = s.sample ++ o.front;
      are_numbers = sample_numbers s.number s.sample o.front o.numbers s.are_numbers o.are_numbers;
      count = omega (arith, o.count);
      values = w.2 ∙ ap (λ v. v ∷ w.0) s.value_is ∙ ap (λ us. cap s.number ∷ us) o.values;
      whole = s.whole ∙ ap (λ xs. s.sample ++ xs) o.whole ∙ sym (append_assoc s.sample o.front rest);
      starts = o.starts;
    }

stopped_no : (k : ℕ) (text vs rest : List ℕ) (s : Stopped text) → after_number (whole_number text) (λ left. numbers_at k left) ≡ Ok (vs, rest) → ⊥
stopped_no k text vs rest s e =
    let f : after_number (Err (length s.rest)) (λ left. numbers_at k left) ≡ Ok (vs, rest) = sym (ap (λ r. after_number r (λ left. numbers_at k left)) s.read) ∙ e in
    absurd (cc)

pub back_numbers : (k : ℕ) (text vs rest : List ℕ) → StartsSpace text → numbers_at k text ≡ Ok (vs, rest) → Numbered k text vs rest
unfolding numbers_at
back_numbers zero text vs rest starts e =
    let same : text ≡ rest = ap rest_of e in
    record { numbers = []; front = []; are_numbers = refl; count = refl; values = sym (ap values_of e); whole = same; starts = subst StartsSpace same starts }
back_numbers (suc k) text vs rest starts e = elim (outcome text) [
  | inl r ↦ back_at k text vs rest r (λ tail us h g. back_numbers k tail us rest h g)
      (sym (ap (λ x. after_number x (λ left. numbers_at k left)) (read_sampled text r).1) ∙ e)
  | inr s ↦ absurd (stopped_no k text vs rest s e)
]

space_or_bad : (s : Bool) (b : ℕ) (bs : List ℕ) (x : ℕ × List ℕ) → is_space b ≡ s → whole (onward (cond s (On Gap) Bad) (λ q. number_at q bs) b bs) ≡ Ok x → is_space b ≡ true
space_or_bad true b bs x es e = es
space_or_bad false b bs x es e = absurd (cc)

whole_starts : (text : List ℕ) (x : ℕ × List ℕ) → whole_number text ≡ Ok x → StartsSpace text
unfolding number_at
whole_starts [] x e = absurd (cc)
whole_starts (b ∷ bs) x e = space_or_bad (is_space b) b bs x refl e

-- where a number is read, white space comes first
pub some_start : (k : ℕ) (text vs rest : List ℕ) → numbers_at (suc k) text ≡ Ok (vs, rest) → StartsSpace text
unfolding numbers_at
some_start k text vs rest e = elim (outcome text) [
  | inl r ↦ whole_starts text (r.value, r.last ∷ r.after) (read_sampled text r).1
  | inr s ↦ absurd (stopped_no k text vs rest s e)
]

pub starts_numbers : (k : ℕ) (text vs rest : List ℕ) → StartsSpace rest → numbers_at k text ≡ Ok (vs, rest) → StartsSpace text
unfolding numbers_at
starts_numbers zero text vs rest starts e = subst StartsSpace (sym (ap rest_of e)) starts
starts_numbers (suc k) text vs rest starts e = some_start k text vs rest e

-- where reading so many numbers stops
pub record Halted (k : ℕ) (text : List ℕ) (left : ℕ) : Type 0 where
  pub front : List ℕ
  pub rest : List ℕ
  pub more : List ℕ
  pub values : List ℕ
  pub split : text ≡ front ++ rest
  pub left_is : left ≡ length rest
  pub begins : numbers_at k (front ++ more) ≡ Ok (values, 32 ∷ [])
  pub bad : (b : ℕ) (after xs : List ℕ) → rest ≡ b ∷ after → numbers_at k (front ++ (b ∷ xs)) ≡ Err (length (b ∷ xs))

-- so many numbers can come behind white space
fill : (k : ℕ) → (more : List ℕ) × (vs : List ℕ) × (numbers_at k (32 ∷ more) ≡ Ok (vs, 32 ∷ []))
unfolding numbers_at number_at
fill zero = ([], [], refl)
fill (suc k) = let r = fill k in (48 ∷ (32 ∷ r.0), 0 ∷ r.1, ap (λ x. with_number 0 x) r.2)

abbrev error_of : Result (List ℕ × List ℕ) ℕ → ℕ
error_of (Ok x) = 0
error_of (Err n) = n

halted_here : (k : ℕ) (text : List ℕ) (left : ℕ) (s : Stopped text) → numbers_at (suc k) text ≡ Err left → Halted (suc k) text left
unfolding numbers_at
halted_here k text left s e =
    let r = fill k in
    let f = finish s.at r.0 in
    record {
      front = s.front;
      rest = s.rest;
      more = f.0 ++ (32 ∷ r.0);
      values = f.1 ∷ r.1;
      split = s.split;
      left_is = sym (ap error_of e) ∙ ap (λ x. error_of (after_number x (λ tail. numbers_at k tail))) s.read;
      begins = ap (λ x. after_number (whole x) (λ tail. numbers_at k tail)) (s.goes (f.0 ++ (32 ∷ r.0)) ∙ f.2) ∙ ap (λ x. with_number f.1 x) r.2;
      bad = λ b after xs h. ap (λ x. after_number (whole x) (λ tail. numbers_at k tail)) (s.goes (b ∷ xs) ∙ bad_at s.at b xs (s.bad b after h));
    }

with_err : (n : ℕ) (r : Result (List ℕ × List ℕ) ℕ) (left : ℕ) → with_number n r ≡ Err left → r ≡ Err left
with_err n (Ok x) left e = absurd (cc)
with_err n (Err m) left e = ap (λ k. Err k) (ap error_of e)

-- what begins as a text that begins with white space, beyond its first byte, begins so
starts_as : (front : List ℕ) (b c : ℕ) (after xs rest : List ℕ) → is_space c ≡ true → c ∷ rest ≡ front ++ (b ∷ after) → StartsSpace (front ++ (b ∷ xs))
starts_as [] b c after xs rest e h = let k : c ≡ b = cc in subst (λ x. is_space x ≡ true) k e
starts_as (a ∷ front) b c after xs rest e h = let k : c ≡ a = cc in subst (λ x. is_space x ≡ true) k e

halted_later : (k : ℕ) (text : List ℕ) (left : ℕ) (r : Read text) → (numbers_at k (r.last ∷ r.after) ≡ Err left → Halted k (r.last ∷ r.after) left)
    → numbers_at (suc k) text ≡ Err left → Halted (suc k) text left
unfolding numbers_at
halted_later k text left r f e =
    let s = back_sample text r.value (r.last ∷ r.after) (read_sampled text r).0 in
    let inner = with_err r.value (numbers_at k (r.last ∷ r.after)) left (sym (ap (λ x. after_number x (λ tail. numbers_at k tail)) (read_sampled text r).1) ∙ e) in
    let h = f inner in
    let over : (ys : List ℕ) → StartsSpace ys → numbers_at (suc k) ((s.sample) ++ ys) ≡ with_number (cap s.number) (numbers_at k ys) =
    λ ys st. ap (λ x. after_number x (λ tail. numbers_at k tail)) (whole_front s.number s.sample ys s.are_numbers st) in
    record {
      front = s.sample ++ h.front;
      rest = h.rest;
      more = h.more;
      values = cap s.number ∷ h.values;
      split = s.whole ∙ ap (λ xs. s.sample ++ xs) h.split ∙ sym (append_assoc s.sample h.front h.rest);
      left_is = h.left_is;
      begins = ap (λ xs. numbers_at (suc k) xs) (append_assoc s.sample h.front h.more)
          ∙ over (h.front ++ h.more) (starts_numbers k (h.front ++ h.more) h.values (32 ∷ []) refl h.begins) ∙ ap (λ x. with_number (cap s.number) x) h.begins;
      bad = λ b after xs g. ap (λ ys. numbers_at (suc k) ys) (append_assoc s.sample h.front (b ∷ xs))
          ∙ over (h.front ++ (b ∷ xs)) (starts_as h.front b r.last after xs r.after s.ends (h.split ∙ ap (λ ys. h.front ++ ys) g)) ∙ ap (λ x. with_number (cap s.number) x) (h.bad b after xs g);
    }

pub halted : (k : ℕ) (text : List ℕ) (left : ℕ) → numbers_at k text ≡ Err left → Halted k text left
unfolding numbers_at
halted zero text left e = absurd (cc)
halted (suc k) text left e = elim (outcome text) [
  | inl r ↦ halted_later k text left r (λ h. halted k (r.last ∷ r.after) left h) e
  | inr s ↦ halted_here k text left s e
]

-- a front longer than another has the byte that comes next
longer : (a c x y : List ℕ) (b : ℕ) → a ++ x ≡ c ++ (b ∷ y) → length c < length a → (u : List ℕ) × (a ≡ c ++ (b ∷ u))
longer [] c x y b e lt = absurd (omega arith)
longer (p ∷ a) [] x y b e lt = let pb : p ≡ b = cc in (a, ap (λ q. q ∷ a) pb)
longer (p ∷ a) (q ∷ c) x y b e lt =
    let pq : p ≡ q = cc in
    let ee : a ++ x ≡ c ++ (b ∷ y) = cc in
    let r = longer a c x y b ee (omega arith) in
    let eq : p ∷ a ≡ q ∷ (c ++ (b ∷ r.0)) = cc in (r.0, eq)

not_above : (IsText : List ℕ → Type 0) (t left front rest more : List ℕ)
    → ((b : ℕ) (after xs : List ℕ) → left ≡ b ∷ after → IsText (t ++ (b ∷ xs)) → ⊥)
    → t ++ left ≡ front ++ rest → IsText (front ++ more) → length t < length front → ⊥
not_above IsText t [] front rest more bad e text lt = absurd (omega (arith, ap length e, length-append t [], length-append front rest))
not_above IsText t (b ∷ left) front rest more bad e text lt =
    let r = longer front t rest left b (sym e) lt in
    bad b left (r.0 ++ more) refl (subst IsText (ap (λ xs. xs ++ more) r.1 ∙ append_assoc t (b ∷ r.0) more) text)

-- what makes a front the longest that begins a text
pub stops_at : (IsText : List ℕ → Type 0) (bytes t left more : List ℕ) (at : ℕ) → bytes ≡ t ++ left → at ≡ length t → IsText (t ++ more)
    → ((front rest : List ℕ) → bytes ≡ front ++ rest → IsText front → ⊥)
    → ((b : ℕ) (after xs : List ℕ) → left ≡ b ∷ after → IsText (t ++ (b ∷ xs)) → ⊥)
    → StopsAt IsText bytes at
stops_at IsText bytes t left more at split at_is text none bad =
    record {
      none = none;
      longest = t;
      rest = left;
      more = more;
      split = split;
      at_is = sym at_is;
      begins = text;
      no_longer = λ front rest after e h. elim (cases_lt (length t) (length front)) [
        | inl lt ↦ absurd (not_above IsText t left front rest after bad (sym split ∙ e) h lt)
        | inr le ↦ omega (arith, at_is, le)
      ];
    }

-- there is only one such place
pub stops_once : (IsText : List ℕ → Type 0) (bytes : List ℕ) (a b : ℕ) → StopsAt IsText bytes a → StopsAt IsText bytes b → a ≡ b
stops_once IsText bytes a b s t =
    let le = t.no_longer s.longest s.rest s.more s.split s.begins in
    let ge = s.no_longer t.longest t.rest t.more t.split t.begins in
    omega (arith, le, ge, s.at_is, t.at_is)
