-- What the grammar says is what is read, so it says one thing only.
use Rattle.std.proofs.Common.{◌≡◌, ℕ, suc, ◌+◌, ◌-◌, ◌*◌, ◌<◌, ◌≤◌, ◌⊎◌, inl, inr, List, [], ◌∷◌, ◌++◌, Option, Some, Result, Ok, Err, refl, sym, ap, ◌∙◌, length, arith, append_assoc, length-append, subst, get_or}
use Rattle.std.specs.Prelude.{All, MatchResult, IfOk, IfErr, IsOk}
use Rattle.std.proofs.lemmas.List.{append-nil}
use Rattle.pgm_image.specs.Picture.{Picture}
use Rattle.pgm_image.specs.Grammar.{magic, IsHeader, IsAnyHeader}
use Rattle.pgm_image.specs.Front.{Front, FitNumbers, FewerSamples, EndsEarly, HasAbove, HasBad, IsBody, RefusesFront, IsReadingOf}
use Rattle.pgm_image.specs.Reading.{samples_or_fault, fault_error, with_front, sample_at, plain_at, samples_at, image_of, check_limits, with_header, header_at, image_at, RefusesImage}
use Rattle.pgm_image.specs.declared.header.Header.{Header}
use Rattle.pgm_image.specs.declared.header.Form.{Form}
use Rattle.pgm_image.specs.declared.header.Form.TheVariants.{Raw, Plain}
use Rattle.pgm_image.specs.declared.plain.Fault.{Fault}
use Rattle.pgm_image.specs.declared.plain.Fault.TheVariants.{Ended, Bad}
use Rattle.pgm_image.specs.declared.error.PgmError.{PgmError}
use Rattle.pgm_image.specs.declared.error.PgmError.TheVariants.{OutOfMemory, NotPgm, BadHeader, ZeroSize, TooLarge, BadMaxval, Truncated, SampleAboveMax, BadSample}
use Rattle.pgm_image.proofs.NumberLaws.{front_sample}
use Rattle.pgm_image.proofs.NumberStops.{stops_once}
use Rattle.pgm_image.proofs.HeaderLaws.{capped_header, limits_zero, limits_large, limits_maxval, limits_cases, front_header, Found, header_says}
use Rattle.pgm_image.proofs.RasterReads.{raster_short, raster_front, none_above, is_first}
use Rattle.pgm_image.proofs.PlainLaws.{gap_ended, stuck_sample, plain_fault, plain_above, over_samples, cap_above}
use Rattle.pgm_image.proofs.ImageLaws.{exact, image_refused, limit_refused, image_from, image_says}

abbrev Reads : List ℕ → Form → ℕ → ℕ → ℕ → ℕ → List ℕ → Result (List ℕ × List ℕ) PgmError → Type 0
Reads bytes form w h m last rest r = samples_at form (w * h) m (length bytes) (last ∷ rest) ≡ r

none_left : (xs bytes : List ℕ) (m end i : ℕ) → with_front xs (plain_at 0 m end i bytes) ≡ Ok (xs, bytes)
unfolding plain_at
none_left xs bytes m end i = ap (λ (ys : List ℕ). Ok (ys, bytes)) (append-nil xs)

-- all samples
body_read : (form : Form) (bytes body rest : List ℕ) (last : ℕ) (p : Picture) → FitNumbers p.width p.height p.maxval → length p.samples ≡ p.width * p.height → All (λ x. x ≤ p.maxval) p.samples
    → IsBody form p last body rest → Reads bytes form p.width p.height p.maxval last (body ++ rest) (Ok (p.samples, rest))
body_read Raw bytes body rest last p fits count each is =
    ap (λ ys. samples_at Raw (p.width * p.height) p.maxval (length bytes) (last ∷ (ys ++ rest))) is
    ∙ raster_front (p.width * p.height) p.maxval p.samples rest count
    ∙ ap (λ (o : Option ℕ). samples_or_fault o p.samples rest) (none_above p.maxval 0 p.samples each)
body_read Plain bytes body rest last p fits count each is =
    let n : p.width * p.height ≡ length p.samples + 0 = omega arith in
    let m = p.maxval in
    ap (λ k. plain_at k m (length bytes) 0 ((last ∷ body) ++ rest)) n
    ∙ over_samples p.samples (last ∷ body) rest 0 m (length bytes) 0 (omega arith) is.0 each is.1
    ∙ none_left p.samples rest m (length bytes) (0 + length p.samples)

front_read : (bytes : List ℕ) (p : Picture) (used : ℕ) → Front bytes p used → image_at bytes ≡ Ok (p, used)
front_read bytes p used f =
    let fits : FitNumbers p.width p.height p.maxval = (f.is_picture.0, f.is_picture.1, f.is_picture.2) in
    let n : length bytes - length f.rest ≡ used = omega (arith, f.used_is, ap length f.whole, length-append f.header (f.body ++ f.rest), length-append f.body f.rest) in
    image_from bytes f.header (f.body ++ f.rest) f.form p.width p.height p.maxval f.is_header f.whole fits
    ∙ ap (λ r. image_of (exact p.width p.height p.maxval) (length bytes) r) (body_read f.form bytes f.body f.rest f.is_header.last p fits f.is_picture.3 f.is_picture.4 f.is_body)
    ∙ ap (λ (k : ℕ). Ok (p, k)) n

-- fewer samples, and then what follows
few_read : (count m end : ℕ) (bytes xs tail : List ℕ) (r : Result (List ℕ × List ℕ) PgmError) → m < 10000000 → FewerSamples count m bytes xs tail
    → ((j : ℕ) → with_front xs (plain_at (suc j) m end (0 + length xs) tail) ≡ r) → plain_at count m end 0 bytes ≡ r
few_read count m end bytes xs tail r small f k =
    let n : count ≡ length xs + suc (count - length xs - 1) = omega (arith, f.fewer) in
    ap (λ j. plain_at j m end 0 bytes) n ∙ ap (λ ys. plain_at (length xs + suc (count - length xs - 1)) m end 0 ys) f.whole
    ∙ over_samples xs f.front tail (suc (count - length xs - 1)) m end 0 small f.are_numbers f.each f.ends
    ∙ k (count - length xs - 1)

stopped_read : (count m end : ℕ) (bytes xs tail : List ℕ) (f : Fault) → m < 10000000 → FewerSamples count m bytes xs tail → sample_at tail ≡ Err f → plain_at count m end 0 bytes ≡ Err (fault_error end f)
stopped_read count m end bytes xs tail f small few e =
    few_read count m end bytes xs tail (Err (fault_error end f)) small few (λ j. ap (λ r. with_front xs r) (plain_fault j m end (0 + length xs) tail f e))

cut_read : (form : Form) (bytes rest : List ℕ) (last w h m : ℕ) → FitNumbers w h m → EndsEarly form (w * h) m last rest → Reads bytes form w h m last rest (Err Truncated)
cut_read Raw bytes rest last w h m fits lt = raster_short (w * h) m rest lt
cut_read Plain bytes rest last w h m fits (xs, tail, more, few, gap) = stopped_read (w * h) m (length bytes) (last ∷ rest) xs tail Ended (omega arith) few (gap_ended tail more gap)

above_read : (form : Form) (bytes rest : List ℕ) (last w h m i : ℕ) → FitNumbers w h m → HasAbove form (w * h) m last rest i → Reads bytes form w h m last rest (Err (SampleAboveMax i))
above_read Raw bytes rest last w h m i fits (xs, more, count, is, first) =
    ap (λ ys. samples_at Raw (w * h) m (length bytes) (last ∷ ys)) is ∙ raster_front (w * h) m xs more count
    ∙ ap (λ (o : Option ℕ). samples_or_fault o xs more) (is_first m 0 i xs first ∙ ap (λ (n : ℕ). Some n) (omega arith))
above_read Plain bytes rest last w h m i fits (xs, tail, x, sample, more, few, numbers, ends, is, lt, at) =
    let read : sample_at tail ≡ Ok (_, more) = ap sample_at is ∙ front_sample x sample more numbers ends in
    few_read (w * h) m (length bytes) (last ∷ rest) xs tail (Err (SampleAboveMax i)) (omega arith) few
    (λ j. ap (λ r. with_front xs r) (plain_above j m (length bytes) (0 + length xs) tail _ more read (cap_above x m lt (omega arith))) ∙ ap (λ (n : ℕ). Err (SampleAboveMax n)) (omega arith))

bad_read : (form : Form) (bytes rest : List ℕ) (last w h m at : ℕ) → FitNumbers w h m → length rest < length bytes → HasBad form (w * h) m last rest (length bytes) at → Reads bytes form w h m last rest (Err (BadSample at))
bad_read Raw bytes rest last w h m at fits some bad = absurd bad
bad_read Plain bytes rest last w h m at fits some (xs, tail, k, few, stops, lt, is) =
    stopped_read (w * h) m (length bytes) (last ∷ rest) xs tail (Bad (length tail - k)) (omega arith) few (stuck_sample tail k stops lt)
    ∙ ap (λ (n : ℕ). Err (BadSample n)) (omega (arith, ap length few.whole, length-append few.front tail))

header_before : (form : Form) (bytes header rest : List ℕ) (w h m : ℕ) → IsHeader form header w h m → bytes ≡ header ++ rest → length rest < length bytes
header_before form bytes header rest w h m hd split =
    omega (arith, ap length split, length-append header rest, ap length hd.whole, length-append (magic form) (hd.numbers ++ hd.last ∷ []), length-append hd.numbers (hd.last ∷ []))

behind_read : (bytes header rest : List ℕ) (form : Form) (w h m : ℕ) (e : PgmError) (hd : IsHeader form header w h m) → bytes ≡ header ++ rest → FitNumbers w h m
    → Reads bytes form w h m hd.last rest (Err e) → image_at bytes ≡ Err e
behind_read bytes header rest form w h m e hd split fits r =
    image_from bytes header rest form w h m hd split fits ∙ ap (λ x. image_of (exact w h m) (length bytes) x) r

found_any : (bytes : List ℕ) (f : Found bytes) → IsAnyHeader f.header
found_any bytes f = (f.form, f.width, f.height, f.maxval, f.is_header)

found_magic : (bytes : List ℕ) (f : Found bytes) → bytes ≡ magic f.form ++ ((f.is_header.numbers ++ f.is_header.last ∷ []) ++ f.rest)
found_magic bytes f = f.whole ∙ ap (λ ys. ys ++ f.rest) f.is_header.whole ∙ append_assoc (magic f.form) (f.is_header.numbers ++ f.is_header.last ∷ []) f.rest

not_pgm_read : (bytes : List ℕ) → RefusesFront bytes NotPgm → image_at bytes ≡ Err NotPgm
not_pgm_read bytes none = elim (header_says bytes) [
  | inl e ↦ image_refused bytes NotPgm e.0
  | inr o ↦ elim o [
    | inl e ↦ absurd (none e.2.0.0 e.2.0.1 e.2.0.2)
    | inr f ↦ absurd (none f.form ((f.is_header.numbers ++ f.is_header.last ∷ []) ++ f.rest) (found_magic bytes f))
  ]
]

bad_header_read : (bytes : List ℕ) (at : ℕ) → RefusesFront bytes (BadHeader at) → image_at bytes ≡ Err (BadHeader at)
bad_header_read bytes at ((form, rest, split), stops) = elim (header_says bytes) [
  | inl e ↦ absurd (e.1 form rest split)
  | inr o ↦ elim o [
    | inl e ↦ image_refused bytes (BadHeader at) (e.1 ∙ ap (λ (n : ℕ). Err (BadHeader n)) (stops_once IsAnyHeader bytes e.0 at e.2.1 stops))
    | inr f ↦ absurd (stops.none f.header f.rest f.whole (found_any bytes f))
  ]
]

pub answers_read : (bytes : List ℕ) (r : Result (Picture × ℕ) PgmError) → IsReadingOf bytes r → image_at bytes ≡ r
answers_read bytes (Ok x) f = front_read bytes x.0 x.1 f
answers_read bytes (Err OutOfMemory) a = absurd a
answers_read bytes (Err NotPgm) a = not_pgm_read bytes a
answers_read bytes (Err (BadHeader at)) a = bad_header_read bytes at a
answers_read bytes (Err ZeroSize) a = limit_refused bytes a.header a.rest a.form a.width a.height a.maxval ZeroSize a.is_header a.whole (limits_zero a.width a.height a.maxval a.says)
answers_read bytes (Err TooLarge) a = limit_refused bytes a.header a.rest a.form a.width a.height a.maxval TooLarge a.is_header a.whole (limits_large a.width a.height a.maxval a.says)
answers_read bytes (Err BadMaxval) a = limit_refused bytes a.header a.rest a.form a.width a.height a.maxval BadMaxval a.is_header a.whole (limits_maxval a.width a.height a.maxval a.says.0 a.says.1)
answers_read bytes (Err Truncated) a =
    behind_read bytes a.header a.rest a.form a.width a.height a.maxval Truncated a.is_header a.whole a.says.0 (cut_read a.form bytes a.rest a.is_header.last a.width a.height a.maxval a.says.0 a.says.1)
answers_read bytes (Err (SampleAboveMax i)) a =
    behind_read bytes a.header a.rest a.form a.width a.height a.maxval (SampleAboveMax i) a.is_header a.whole a.says.0 (above_read a.form bytes a.rest a.is_header.last a.width a.height a.maxval i a.says.0 a.says.1)
answers_read bytes (Err (BadSample at)) a =
    behind_read bytes a.header a.rest a.form a.width a.height a.maxval (BadSample at) a.is_header a.whole a.says.0
    (bad_read a.form bytes a.rest a.is_header.last a.width a.height a.maxval at a.says.0 (header_before a.form bytes a.header a.rest a.width a.height a.maxval a.is_header a.whole) a.says.1)

-- at most one answer
pub one_answer : (bytes : List ℕ) (a b : Result (Picture × ℕ) PgmError) → IsReadingOf bytes a → IsReadingOf bytes b → a ≡ b
one_answer bytes a b x y = sym (answers_read bytes a x) ∙ answers_read bytes b y

no_ok : (r : Result (Form × Header × List ℕ) PgmError) (e : PgmError) → r ≡ Err e → IsOk r → ⊥
no_ok r e h ok = let k = subst IsOk h ok in (cc)

-- memory is asked for only behind a header within the limits
fits_behind : (bytes : List ℕ) (f : Found bytes) → IsOk (header_at bytes) → RefusesFront bytes OutOfMemory
fits_behind bytes f ok =
    let w = f.width in
    let h = f.height in
    let m = f.maxval in
    let refused : (e : PgmError) → check_limits (capped_header w h m) ≡ Err e → ⊥ =
    λ e k. no_ok (header_at bytes) e (front_header f.form bytes f.header f.rest w h m f.is_header f.whole ∙ ap (λ r. with_header r f.form (capped_header w h m) (f.is_header.last ∷ f.rest)) k) ok in
    elim (limits_cases w h m) [
      | inl fits ↦ record { form = f.form; header = f.header; rest = f.rest; width = w; height = h; maxval = m; is_header = f.is_header; whole = f.whole; says = fits }
      | inr o ↦ elim o [
        | inl zeros ↦ absurd (refused ZeroSize (limits_zero w h m zeros))
        | inr u ↦ elim u [
          | inl large ↦ absurd (refused TooLarge (limits_large w h m large))
          | inr v ↦ absurd (refused BadMaxval (limits_maxval w h m v.0 v.1))
        ]
      ]
    ]

memory_behind : (bytes : List ℕ) → IsOk (header_at bytes) → RefusesFront bytes OutOfMemory
memory_behind bytes ok = elim (header_says bytes) [
  | inl e ↦ absurd (no_ok (header_at bytes) NotPgm e.0 ok)
  | inr o ↦ elim o [ inl e ↦ absurd (no_ok (header_at bytes) (BadHeader e.0) e.1 ok) | inr f ↦ fits_behind bytes f ok ]
]

-- what the code answers
abbrev Gives : List ℕ → Result (Picture × ℕ) PgmError → Type 0
Gives bytes r = MatchResult r (λ x. image_at bytes ≡ Ok x) (λ e. RefusesImage e bytes)

pub gives_exact : (bytes : List ℕ) (r a : Result (Picture × ℕ) PgmError) → Gives bytes r → IsReadingOf bytes a → (r ≡ a) ⊎ (r ≡ Err OutOfMemory)
gives_exact bytes (Ok x) a g h = inl (sym g ∙ answers_read bytes a h)
gives_exact bytes (Err OutOfMemory) a g h = inr refl
gives_exact bytes (Err NotPgm) a g h = inl (sym g ∙ answers_read bytes a h)
gives_exact bytes (Err (BadHeader at)) a g h = inl (sym g ∙ answers_read bytes a h)
gives_exact bytes (Err ZeroSize) a g h = inl (sym g ∙ answers_read bytes a h)
gives_exact bytes (Err TooLarge) a g h = inl (sym g ∙ answers_read bytes a h)
gives_exact bytes (Err BadMaxval) a g h = inl (sym g ∙ answers_read bytes a h)
gives_exact bytes (Err Truncated) a g h = inl (sym g ∙ answers_read bytes a h)
gives_exact bytes (Err (SampleAboveMax i)) a g h = inl (sym g ∙ answers_read bytes a h)
gives_exact bytes (Err (BadSample at)) a g h = inl (sym g ∙ answers_read bytes a h)

abbrev AllBytes : List ℕ → Type 0
AllBytes bytes = (i : ℕ) → get_or bytes i 0 < 256

says_as : (bytes : List ℕ) (r : Result (Picture × ℕ) PgmError) → AllBytes bytes → image_at bytes ≡ r → IsReadingOf bytes r
says_as bytes r small e = subst (λ x. IsReadingOf bytes x) e (image_says bytes small)

pub gives_image : (bytes : List ℕ) (r : Result (Picture × ℕ) PgmError) → AllBytes bytes → Gives bytes r → IfOk r (λ x. Front bytes x.0 x.1)
gives_image bytes (Ok x) small g = says_as bytes (Ok x) small g
gives_image bytes (Err e) small g = tt

refuses_as : (bytes : List ℕ) (e : PgmError) → AllBytes bytes → RefusesImage e bytes → RefusesFront bytes e
refuses_as bytes OutOfMemory small g = memory_behind bytes g
refuses_as bytes NotPgm small g = says_as bytes (Err NotPgm) small g
refuses_as bytes (BadHeader at) small g = says_as bytes (Err (BadHeader at)) small g
refuses_as bytes ZeroSize small g = says_as bytes (Err ZeroSize) small g
refuses_as bytes TooLarge small g = says_as bytes (Err TooLarge) small g
refuses_as bytes BadMaxval small g = says_as bytes (Err BadMaxval) small g
refuses_as bytes Truncated small g = says_as bytes (Err Truncated) small g
refuses_as bytes (SampleAboveMax i) small g = says_as bytes (Err (SampleAboveMax i)) small g
refuses_as bytes (BadSample at) small g = says_as bytes (Err (BadSample at)) small g

pub gives_refused : (bytes : List ℕ) (r : Result (Picture × ℕ) PgmError) → AllBytes bytes → Gives bytes r → IfErr r (λ e. RefusesFront bytes e)
gives_refused bytes (Ok x) small g = tt
gives_refused bytes (Err e) small g = refuses_as bytes e small g

pub front_used : (bytes : List ℕ) (r : Result (Picture × ℕ) PgmError) → AllBytes bytes → Gives bytes r → IfOk r (λ x. x.1 ≤ length bytes)
front_used bytes (Ok x) small g =
    let f = says_as bytes (Ok x) small g in
    omega (arith, f.used_is, ap length f.whole, length-append f.header (f.body ++ f.rest), length-append f.body f.rest)
front_used bytes (Err e) small g = tt

-- of two images at a front
abbrev image_or : Picture × ℕ → Result (Picture × ℕ) PgmError → Picture × ℕ
image_or d (Ok x) = x
image_or d (Err e) = d

pub one_image : (bytes : List ℕ) (p q : Picture) (u v : ℕ) → Front bytes p u → Front bytes q v → (p ≡ q) × (u ≡ v)
one_image bytes p q u v f g =
    let e = ap (image_or (p, u)) (one_answer bytes (Ok (p, u)) (Ok (q, v)) f g) in
    (ap (λ (x : Picture × ℕ). x.0) e, ap (λ (x : Picture × ℕ). x.1) e)

pub some_answer : (bytes : List ℕ) → AllBytes bytes → (r : Result (Picture × ℕ) PgmError) × IsReadingOf bytes r
some_answer bytes small = (image_at bytes, image_says bytes small)
