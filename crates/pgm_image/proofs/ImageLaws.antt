-- What is read is what the grammar says.
use Rattle.std.proofs.Common.{◌≡◌, ℕ, suc, ◌+◌, ◌-◌, ◌*◌, ◌<◌, ◌≤◌, inl, inr, List, [], ◌∷◌, ◌++◌, Option, Some, Result, Ok, Err, refl, sym, ap, ◌∙◌, length, arith, length-append, subst, get_or}
use Rattle.std.specs.Prelude.{All}
use Rattle.std.proofs.lemmas.Bool.{cases_lt}
use Rattle.pgm_image.specs.Picture.{Picture, picture}
use Rattle.pgm_image.specs.Raster.{raster, raster_size}
use Rattle.pgm_image.specs.Grammar.{magic, AreNumbers, IsHeader}
use Rattle.pgm_image.specs.Front.{Front, FitNumbers, RefusesFront, IsReadingOf}
use Rattle.pgm_image.specs.Reading.{first_above, samples_or_fault, fault_error, raster_at, samples_at, image_of, after_header, header_at, image_at, with_header, check_limits}
use Rattle.pgm_image.specs.declared.header.Header.{Header}
use Rattle.pgm_image.specs.declared.header.Form.{Form}
use Rattle.pgm_image.specs.declared.header.Form.TheVariants.{Raw, Plain}
use Rattle.pgm_image.specs.declared.plain.Fault.{Fault}
use Rattle.pgm_image.specs.declared.plain.Fault.TheVariants.{Ended, Bad}
use Rattle.pgm_image.specs.declared.error.PgmError.{PgmError}
use Rattle.pgm_image.specs.declared.error.PgmError.TheVariants.{NotPgm, BadHeader, ZeroSize, TooLarge, BadMaxval, Truncated, SampleAboveMax, BadSample}
use Rattle.pgm_image.proofs.HeaderLaws.{capped_header, limits_zero, limits_large, limits_maxval, limits_fit, limits_cases, exact_header, front_header, Found, header_says}
use Rattle.pgm_image.proofs.RasterReads.{raster_short, raster_front, raster_is, none_above, is_first, above_cases}
use Rattle.pgm_image.proofs.PlainLaws.{PlainRead, PlainStopped, gap_begins, bad_sample, plain_says}

abbrev pub exact : ℕ → ℕ → ℕ → Header
exact w h m = record { width = w; height = h; maxval = m }

pub image_refused : (bytes : List ℕ) (e : PgmError) → header_at bytes ≡ Err e → image_at bytes ≡ Err e
unfolding image_at
image_refused bytes e h = ap (λ r. after_header r (length bytes)) h

-- a header at the front that breaks a limit
pub limit_refused : (bytes header rest : List ℕ) (form : Form) (w h m : ℕ) (e : PgmError) → IsHeader form header w h m → bytes ≡ header ++ rest
    → check_limits (capped_header w h m) ≡ Err e → image_at bytes ≡ Err e
limit_refused bytes header rest form w h m e hd split k =
    image_refused bytes e (front_header form bytes header rest w h m hd split ∙ ap (λ r. with_header r form (capped_header w h m) (hd.last ∷ rest)) k)

-- a header at the front within the limits
pub header_fits : (bytes header rest : List ℕ) (form : Form) (w h m : ℕ) (hd : IsHeader form header w h m) → bytes ≡ header ++ rest → FitNumbers w h m
    → header_at bytes ≡ Ok (form, exact w h m, hd.last ∷ rest)
header_fits bytes header rest form w h m hd split fits =
    front_header form bytes header rest w h m hd split
    ∙ ap (λ r. with_header r form (capped_header w h m) (hd.last ∷ rest)) (limits_fit w h m fits)
    ∙ ap (λ (x : Header). Ok (form, x, hd.last ∷ rest)) (exact_header w h m fits)

pub image_from : (bytes header rest : List ℕ) (form : Form) (w h m : ℕ) (hd : IsHeader form header w h m) → bytes ≡ header ++ rest → FitNumbers w h m
    → image_at bytes ≡ image_of (exact w h m) (length bytes) (samples_at form (w * h) m (length bytes) (hd.last ∷ rest))
unfolding image_at
image_from bytes header rest form w h m hd split fits = ap (λ r. after_header r (length bytes)) (header_fits bytes header rest form w h m hd split fits)

-- what is answered behind a header within the limits
abbrev Behind : List ℕ → Form → ℕ → ℕ → ℕ → ℕ → List ℕ → Type 0
Behind bytes form w h m last rest = IsReadingOf bytes (image_of (exact w h m) (length bytes) (samples_at form (w * h) m (length bytes) (last ∷ rest)))

answers_as : (bytes : List ℕ) (a b : Result (Picture × ℕ) PgmError) → a ≡ b → IsReadingOf bytes b → IsReadingOf bytes a
answers_as bytes a b e h = subst (λ r. IsReadingOf bytes r) (sym e) h

raw_image : (bytes header rest more xs : List ℕ) (w h m : ℕ) (hd : IsHeader Raw header w h m) → bytes ≡ header ++ rest → FitNumbers w h m
    → length xs ≡ w * h → rest ≡ raster m xs ++ more → All (λ x. x ≤ m) xs → Front bytes (picture w h m xs) (length bytes - length more)
raw_image bytes header rest more xs w h m hd split fits count is each =
    let whole : bytes ≡ header ++ (raster m xs ++ more) = split ∙ ap (λ ys. header ++ ys) is in
    record {
      form = Raw;
      header = header;
      body = raster m xs;
      rest = more;
      is_picture = (fits.0, fits.1, fits.2, count, each);
      is_header = hd;
      is_body = refl;
      whole = whole;
      used_is = omega (arith, ap length whole, length-append header (raster m xs ++ more), length-append (raster m xs) more);
    }

raw_behind : (bytes header rest : List ℕ) (w h m : ℕ) (hd : IsHeader Raw header w h m) → bytes ≡ header ++ rest → FitNumbers w h m → ((i : ℕ) → get_or rest i 0 < 256) → Behind bytes Raw w h m hd.last rest
raw_behind bytes header rest w h m hd split fits small = elim (cases_lt (length rest) (raster_size (w * h) m)) [
  | inl lt ↦
      let r : RefusesFront bytes Truncated = record { form = Raw; header = header; rest = rest; width = w; height = h; maxval = m; is_header = hd; whole = split; says = (fits, lt) } in
      answers_as bytes _ (Err Truncated) (ap (λ x. image_of (exact w h m) (length bytes) x) (raster_short (w * h) m rest lt)) r
  | inr le ↦
      let (xs, more, count, is) = raster_is (w * h) m rest small le in
      let read : raster_at (w * h) m rest ≡ samples_or_fault (first_above m 0 xs) xs more = ap (λ ys. raster_at (w * h) m ys) is ∙ raster_front (w * h) m xs more count in
      elim (above_cases m xs) [
        | inl all ↦ answers_as bytes _ (Ok (picture w h m xs, length bytes - length more))
            (ap (λ x. image_of (exact w h m) (length bytes) x) (read ∙ ap (λ (o : Option ℕ). samples_or_fault o xs more) (none_above m 0 xs all)))
            (raw_image bytes header rest more xs w h m hd split fits count is all)
        | inr f ↦
            let r : RefusesFront bytes (SampleAboveMax f.0) = record {
              form = Raw;
              header = header;
              rest = rest;
              width = w;
              height = h;
              maxval = m;
              is_header = hd;
              whole = split;
              says = (fits, (xs, more, count, is, f.1));
            } in
            answers_as bytes _ (Err (SampleAboveMax f.0))
            (ap (λ x. image_of (exact w h m) (length bytes) x) (read ∙ ap (λ (o : Option ℕ). samples_or_fault o xs more) (is_first m 0 f.0 xs f.1 ∙ ap (λ (n : ℕ). Some n) (omega arith)))) r
      ]
]

-- the samples begin with the header's last byte
front_head : (last : ℕ) (rest xs front more : List ℕ) → AreNumbers xs front → 0 < length xs → last ∷ rest ≡ front ++ more → (body : List ℕ) × (front ≡ last ∷ body) × (rest ≡ body ++ more)
front_head last rest [] front more are some e = absurd (omega arith)
front_head last rest (x ∷ xs) [] more (gap, ds, others, is_gapped, number, are, whole) some e =
    absurd (omega (arith, ap length whole, length-append gap (ds ++ others), length-append ds others, number.some))
front_head last rest (x ∷ xs) (c ∷ front) more are some e = let same : c ≡ last = cc in let others : rest ≡ front ++ more = cc in (front, ap (λ n. n ∷ front) same, others)

header_some : (form : Form) (header : List ℕ) (w h m : ℕ) → IsHeader form header w h m → 1 ≤ length header
header_some form header w h m hd =
    omega (arith, ap length hd.whole, length-append (magic form) (hd.numbers ++ hd.last ∷ []), length-append hd.numbers (hd.last ∷ []))

plain_image : (bytes header rest : List ℕ) (w h m : ℕ) (hd : IsHeader Plain header w h m) → bytes ≡ header ++ rest → FitNumbers w h m
    → (r : PlainRead (w * h) m (length bytes) 0 (hd.last ∷ rest)) → 0 < w * h → Front bytes (picture w h m r.samples) (length bytes - length r.rest)
plain_image bytes header rest w h m hd split fits r some =
    let (body, front, is) = front_head hd.last rest r.samples r.front r.rest r.are_numbers (omega (arith, r.count_is)) r.whole in
    let whole : bytes ≡ header ++ (body ++ r.rest) = split ∙ ap (λ ys. header ++ ys) is in
    record {
      form = Plain;
      header = header;
      body = body;
      rest = r.rest;
      is_picture = (fits.0, fits.1, fits.2, r.count_is, r.each);
      is_header = hd;
      is_body = (subst (λ ys. AreNumbers r.samples ys) front r.are_numbers, r.ends);
      whole = whole;
      used_is = omega (arith, ap length whole, length-append header (body ++ r.rest), length-append body r.rest);
    }

stopped_behind : (bytes header rest : List ℕ) (w h m : ℕ) (hd : IsHeader Plain header w h m) → bytes ≡ header ++ rest → FitNumbers w h m
    → (r : PlainStopped (w * h) m (length bytes) 0 (hd.last ∷ rest)) (f : Fault) → r.fault ≡ f → IsReadingOf bytes (Err (fault_error (length bytes) f))
stopped_behind bytes header rest w h m hd split fits r Ended e =
    let a : RefusesFront bytes Truncated = record {
      form = Plain;
      header = header;
      rest = rest;
      width = w;
      height = h;
      maxval = m;
      is_header = hd;
      whole = split;
      says = (fits, (r.samples, r.tail, 10 ∷ [], r.fewer, gap_begins r.tail (r.none ∙ ap (λ (x : Fault). Err x) e)));
    } in a
stopped_behind bytes header rest w h m hd split fits r (Bad left) e =
    let b = bad_sample r.tail left (r.none ∙ ap (λ (x : Fault). Err x) e) in
    let at : length bytes - left ≡ (length bytes - length r.tail) + (length r.tail - left) =
    omega (arith, b.within, header_some Plain header w h m hd, ap length split, length-append header rest, ap length r.fewer.whole, length-append r.fewer.front r.tail) in
    let a : RefusesFront bytes (BadSample (length bytes - left)) = record {
      form = Plain;
      header = header;
      rest = rest;
      width = w;
      height = h;
      maxval = m;
      is_header = hd;
      whole = split;
      says = (fits, (r.samples, r.tail, length r.tail - left, r.fewer, b.stops, omega (arith, b.some, b.within), at));
    } in a

plain_behind : (bytes header rest : List ℕ) (w h m : ℕ) (hd : IsHeader Plain header w h m) → bytes ≡ header ++ rest → FitNumbers w h m → 0 < w * h → Behind bytes Plain w h m hd.last rest
plain_behind bytes header rest w h m hd split fits some = elim (plain_says (w * h) m (length bytes) 0 (hd.last ∷ rest) (omega arith) hd.is_last) [
  | inl r ↦ answers_as bytes _ (Ok (picture w h m r.samples, length bytes - length r.rest)) (ap (λ x. image_of (exact w h m) (length bytes) x) r.read)
      (plain_image bytes header rest w h m hd split fits r some)
  | inr o ↦ elim o [
    | inl r ↦ answers_as bytes _ (Err (fault_error (length bytes) r.fault)) (ap (λ x. image_of (exact w h m) (length bytes) x) r.read)
        (stopped_behind bytes header rest w h m hd split fits r r.fault refl)
    | inr r ↦
        let a : RefusesFront bytes (SampleAboveMax (0 + length r.samples)) = record {
          form = Plain;
          header = header;
          rest = rest;
          width = w;
          height = h;
          maxval = m;
          is_header = hd;
          whole = split;
          says = (fits, (r.samples, r.tail, r.sampled.number, r.sampled.sample, r.rest, r.fewer, r.sampled.are_numbers, r.sampled.ends, r.sampled.whole, r.above, omega arith));
        } in
        answers_as bytes _ (Err (SampleAboveMax (0 + length r.samples))) (ap (λ x. image_of (exact w h m) (length bytes) x) r.read) a
  ]
]

some_samples : (w h : ℕ) → 1 ≤ w → 1 ≤ h → 0 < w * h
some_samples w h a b = grind arith

later_bytes : (front rest : List ℕ) → ((i : ℕ) → get_or (front ++ rest) i 0 < 256) → (i : ℕ) → get_or rest i 0 < 256
later_bytes [] rest f i = f i
later_bytes (x ∷ front) rest f i = later_bytes front rest (λ k. f (suc k)) i

behind : (bytes header rest : List ℕ) (form : Form) (w h m : ℕ) (hd : IsHeader form header w h m) → bytes ≡ header ++ rest → FitNumbers w h m → ((i : ℕ) → get_or bytes i 0 < 256) → Behind bytes form w h m hd.last rest
behind bytes header rest Raw w h m hd split fits small = raw_behind bytes header rest w h m hd split fits (later_bytes header rest (λ i. subst (λ ys. get_or ys i 0 < 256) split (small i)))
behind bytes header rest Plain w h m hd split fits small = plain_behind bytes header rest w h m hd split fits (some_samples w h fits.0.0 fits.0.2)

found_says : (bytes : List ℕ) (f : Found bytes) → ((i : ℕ) → get_or bytes i 0 < 256) → IsReadingOf bytes (image_at bytes)
found_says bytes f small =
    let w = f.width in
    let h = f.height in
    let m = f.maxval in
    elim (limits_cases w h m) [
      | inl fits ↦ answers_as bytes _ _ (image_from bytes f.header f.rest f.form w h m f.is_header f.whole fits) (behind bytes f.header f.rest f.form w h m f.is_header f.whole fits small)
      | inr o ↦ elim o [
        | inl zeros ↦
            let a : RefusesFront bytes ZeroSize = record { form = f.form; header = f.header; rest = f.rest; width = w; height = h; maxval = m; is_header = f.is_header; whole = f.whole; says = zeros } in
            answers_as bytes _ (Err ZeroSize) (limit_refused bytes f.header f.rest f.form w h m ZeroSize f.is_header f.whole (limits_zero w h m zeros)) a
        | inr u ↦ elim u [
          | inl large ↦
              let a : RefusesFront bytes TooLarge = record { form = f.form; header = f.header; rest = f.rest; width = w; height = h; maxval = m; is_header = f.is_header; whole = f.whole; says = large } in
              answers_as bytes _ (Err TooLarge) (limit_refused bytes f.header f.rest f.form w h m TooLarge f.is_header f.whole (limits_large w h m large)) a
          | inr v ↦
              let a : RefusesFront bytes BadMaxval = record { form = f.form; header = f.header; rest = f.rest; width = w; height = h; maxval = m; is_header = f.is_header; whole = f.whole; says = v } in
              answers_as bytes _ (Err BadMaxval) (limit_refused bytes f.header f.rest f.form w h m BadMaxval f.is_header f.whole (limits_maxval w h m v.0 v.1)) a
        ]
      ]
    ]

pub image_says : (bytes : List ℕ) → ((i : ℕ) → get_or bytes i 0 < 256) → IsReadingOf bytes (image_at bytes)
image_says bytes small = elim (header_says bytes) [
  | inl e ↦ answers_as bytes _ (Err NotPgm) (image_refused bytes NotPgm e.0) e.1
  | inr o ↦ elim o [
    | inl e ↦ answers_as bytes _ (Err (BadHeader e.0)) (image_refused bytes (BadHeader e.0) e.1) e.2
    | inr f ↦ found_says bytes f small
  ]
]
