-- The headers that are read are just those of the grammar, and reading stops where none goes on.
use Rattle.std.proofs.Common.{◌≡◌, ℕ, suc, zero, ◌+◌, ◌-◌, ◌*◌, ◌<◌, ◌≤◌, ◌⊎◌, inl, inr, List, [], ◌∷◌, ◌++◌, Bool, true, false, cond, Option, Some, None, Result, Ok, Err, refl, sym, ap, ◌∙◌, length, arith, append_assoc, length-append, subst, get_or, ◌==◌}
use Rattle.std.proofs.lemmas.List.{append-nil}
use Rattle.std.proofs.lemmas.Bool.{cases_lt}
use Rattle.std.proofs.lemmas.Bool.Decides.{nat_tests}
use Rattle.pgm_image.specs.Signs.{cap}
use Rattle.pgm_image.specs.Picture.{SizeFits}
use Rattle.pgm_image.specs.Words.{numbers_at}
use Rattle.pgm_image.specs.Grammar.{magic, AreNumbers, IsHeader, IsAnyHeader, StopsAt}
use Rattle.pgm_image.specs.Front.{FitNumbers, IsTooLarge, RefusesFront}
use Rattle.pgm_image.specs.Reading.{form_at, check_limits, with_header, after_numbers, after_form, header_at}
use Rattle.pgm_image.specs.declared.header.Header.{Header}
use Rattle.pgm_image.specs.declared.header.Form.{Form}
use Rattle.pgm_image.specs.declared.header.Form.TheVariants.{Raw, Plain}
use Rattle.pgm_image.specs.declared.error.PgmError.TheVariants.{NotPgm, BadHeader, ZeroSize, TooLarge, BadMaxval}
use Rattle.pgm_image.proofs.NumberStops.{StartsSpace, front_numbers, back_numbers, some_start, halted, stops_at}

-- what a header of these numbers is read as
abbrev pub capped_header : ℕ → ℕ → ℕ → Header
capped_header w h m = record { width = cap w; height = cap h; maxval = cap m }

pub limits_zero : (w h m : ℕ) → (w ≡ 0) ⊎ (h ≡ 0) → check_limits (capped_header w h m) ≡ Err ZeroSize
limits_zero w h m (inl e) = rw e refl
limits_zero w h m (inr e) = grind (arith, nat_tests)

cap_same : (n : ℕ) → n < 10000000 → cap n ≡ n
cap_same n lt = grind (arith, nat_tests)

cap_over : (n k : ℕ) → k < n → k < 10000000 → k < cap n
cap_over n k lt small = grind (arith, nat_tests)

large_by : (w h m : ℕ) → 0 < w → 0 < h → ((4096 < w) ⊎ (4096 < h)) ⊎ (1048576 < w * h) → check_limits (record { width = w; height = h; maxval = m }) ≡ Err TooLarge
large_by w h m a b (inl (inl lt)) = grind (arith, nat_tests)
large_by w h m a b (inl (inr lt)) = grind (arith, nat_tests)
large_by w h m a b (inr lt) = grind (arith, nat_tests)

cap_some : (n : ℕ) → 1 ≤ n → 0 < cap n
cap_some n le = cap_over n 0 le (omega arith)

both_small : (w h m : ℕ) → 1 ≤ w → 1 ≤ h → w ≤ 4096 → h ≤ 4096 → 1048576 < w * h → check_limits (capped_header w h m) ≡ Err TooLarge
both_small w h m a b wl hl k =
    let we = cap_same w (omega arith) in
    let he = cap_same h (omega arith) in
    ap (λ x. check_limits (record { width = x; height = cap h; maxval = cap m })) we
    ∙ ap (λ y. check_limits (record { width = w; height = y; maxval = cap m })) he
    ∙ large_by w h (cap m) a b (inr k)

pub limits_large : (w h m : ℕ) → IsTooLarge w h → check_limits (capped_header w h m) ≡ Err TooLarge
limits_large w h m (a, b, inl lt) = large_by (cap w) (cap h) (cap m) (cap_some w a) (cap_some h b) (inl (inl (cap_over w 4096 lt (omega arith))))
limits_large w h m (a, b, inr (inl lt)) = large_by (cap w) (cap h) (cap m) (cap_some w a) (cap_some h b) (inl (inr (cap_over h 4096 lt (omega arith))))
limits_large w h m (a, b, inr (inr k)) = elim (cases_lt 4096 w) [
  | inl lt ↦ large_by (cap w) (cap h) (cap m) (cap_some w a) (cap_some h b) (inl (inl (cap_over w 4096 lt (omega arith))))
  | inr wl ↦ elim (cases_lt 4096 h) [
    | inl lt ↦ large_by (cap w) (cap h) (cap m) (cap_some w a) (cap_some h b) (inl (inr (cap_over h 4096 lt (omega arith))))
    | inr hl ↦ both_small w h m a b wl hl k
  ]
]

abbrev IsBadMaxval : ℕ → Type 0
IsBadMaxval m = (m ≡ 0) ⊎ (65535 < m)

cap_maxval : (m : ℕ) → IsBadMaxval m → IsBadMaxval (cap m)
cap_maxval m (inl e) = inl (rw e refl)
cap_maxval m (inr lt) = inr (cap_over m 65535 lt (omega arith))

maxval_by : (w h m : ℕ) → SizeFits w h → IsBadMaxval m → check_limits (record { width = w; height = h; maxval = m }) ≡ Err BadMaxval
maxval_by w h m s (inl e) = grind (arith, nat_tests)
maxval_by w h m s (inr lt) = grind (arith, nat_tests)

pub limits_maxval : (w h m : ℕ) → SizeFits w h → (m ≡ 0) ⊎ (65535 < m) → check_limits (capped_header w h m) ≡ Err BadMaxval
limits_maxval w h m s bad =
    ap (λ x. check_limits (record { width = x; height = cap h; maxval = cap m })) (cap_same w (omega arith))
    ∙ ap (λ y. check_limits (record { width = w; height = y; maxval = cap m })) (cap_same h (omega arith))
    ∙ maxval_by w h (cap m) s (cap_maxval m bad)

pub exact_header : (w h m : ℕ) → FitNumbers w h m → capped_header w h m ≡ record { width = w; height = h; maxval = m }
exact_header w h m f =
    let a = cap_same w (omega arith) in
    let b = cap_same h (omega arith) in
    let c = cap_same m (omega arith) in cc

fit_by : (w h m : ℕ) → FitNumbers w h m → check_limits (record { width = w; height = h; maxval = m }) ≡ Ok tt
fit_by w h m f = grind (arith, nat_tests)

pub limits_fit : (w h m : ℕ) → FitNumbers w h m → check_limits (capped_header w h m) ≡ Ok tt
limits_fit w h m f = ap check_limits (exact_header w h m f) ∙ fit_by w h m f

-- one of the four stands
pub limits_cases : (w h m : ℕ) → FitNumbers w h m ⊎ (((w ≡ 0) ⊎ (h ≡ 0)) ⊎ (IsTooLarge w h ⊎ (SizeFits w h × ((m ≡ 0) ⊎ (65535 < m)))))
limits_cases zero h m = inr (inl (inl refl))
limits_cases (suc w) zero m = inr (inl (inr refl))
limits_cases (suc w) (suc h) m = elim (cases_lt 4096 (suc w)) [
  | inl lt ↦ inr (inr (inl (omega arith, omega arith, inl lt)))
  | inr wl ↦ elim (cases_lt 4096 (suc h)) [
    | inl lt ↦ inr (inr (inl (omega arith, omega arith, inr (inl lt))))
    | inr hl ↦ elim (cases_lt 1048576 (suc w * suc h)) [
      | inl lt ↦ inr (inr (inl (omega arith, omega arith, inr (inr lt))))
      | inr al ↦ elim (cases_lt 65535 m) [
        | inl lt ↦ inr (inr (inr ((omega arith, wl, omega arith, hl, al), inr lt)))
        | inr ml ↦ elim (cases_lt 0 m) [
          | inl some ↦ inl ((omega arith, wl, omega arith, hl, al), some, ml)
          | inr none ↦ inr (inr (inr ((omega arith, wl, omega arith, hl, al), inl (omega arith))))
        ]
      ]
    ]
  ]
]

-- the form that the first two bytes tell
form_magic : (form : Form) (rest : List ℕ) → form_at (magic form ++ rest) ≡ Some (form, rest)
form_magic Raw rest = refl
form_magic Plain rest = refl

abbrev form_or : Form × List ℕ → Option (Form × List ℕ) → Form × List ℕ
form_or d None = d
form_or d (Some x) = x

same_number : (a b : ℕ) → (a == b) ≡ true → a ≡ b
same_number a b e = grind (arith, nat_tests)

begins_with : (a b : ℕ) (rest : List ℕ) (form : Form) (x : Form × List ℕ) → a ∷ b ∷ rest ≡ magic form ++ rest → Some (form, rest) ≡ Some x → a ∷ b ∷ rest ≡ magic x.0 ++ x.1
begins_with a b rest form x e k =
    let same : (form, rest) ≡ x = ap (form_or x) k in
    e ∙ ap (λ (y : Form × List ℕ). magic y.0 ++ y.1) same

form_tests : (s t u : Bool) (a b : ℕ) (rest : List ℕ) (x : Form × List ℕ) → (a == 80) ≡ s → (b == 53) ≡ t → (b == 50) ≡ u
    → cond s (cond t (Some (Raw, rest)) (cond u (Some (Plain, rest)) None)) None ≡ Some x → a ∷ b ∷ rest ≡ magic x.0 ++ x.1
form_tests true true u a b rest x es et eu e =
    begins_with a b rest Raw x (ap (λ n. n ∷ b ∷ rest) (same_number a 80 es) ∙ ap (λ n. 80 ∷ n ∷ rest) (same_number b 53 et)) e
form_tests true false true a b rest x es et eu e =
    begins_with a b rest Plain x (ap (λ n. n ∷ b ∷ rest) (same_number a 80 es) ∙ ap (λ n. 80 ∷ n ∷ rest) (same_number b 50 eu)) e
form_tests true false false a b rest x es et eu e = absurd (cc)
form_tests false t u a b rest x es et eu e = absurd (cc)

form_found : (bytes : List ℕ) (x : Form × List ℕ) → form_at bytes ≡ Some x → bytes ≡ magic x.0 ++ x.1
form_found [] x e = absurd (cc)
form_found (a ∷ []) x e = absurd (cc)
form_found (a ∷ b ∷ rest) x e = form_tests (a == 80) (b == 53) (b == 50) a b rest x refl refl refl e

no_form : (bytes : List ℕ) → form_at bytes ≡ None → (form : Form) (rest : List ℕ) → bytes ≡ magic form ++ rest → ⊥
no_form bytes e form rest k = let f : form_at bytes ≡ Some (form, rest) = ap form_at k ∙ form_magic form rest in absurd (cc)

differ : (a b : ℕ) → a ≡ b → (a == b) ≡ false → ⊥
differ a b e n = absurd (grind (arith, nat_tests))

same_tail : (f g : Form) (x y : List ℕ) → magic f ++ x ≡ magic g ++ y → x ≡ y
same_tail Raw Raw x y e = cc
same_tail Plain Plain x y e = cc
same_tail Raw Plain x y e = absurd (differ 53 50 (ap (λ xs. get_or xs 1 0) e) refl)
same_tail Plain Raw x y e = absurd (differ 50 53 (ap (λ xs. get_or xs 1 0) e) refl)

header_split : (form : Form) (bytes header rest : List ℕ) (w h m : ℕ) (hd : IsHeader form header w h m) → bytes ≡ header ++ rest → bytes ≡ magic form ++ (hd.numbers ++ (hd.last ∷ rest))
header_split form bytes header rest w h m hd e = e ∙ ap (λ xs. xs ++ rest) hd.whole ∙ simp append_assoc

numbers_read : (form : Form) (header rest : List ℕ) (w h m : ℕ) (hd : IsHeader form header w h m) → numbers_at 3 (hd.numbers ++ (hd.last ∷ rest)) ≡ Ok (cap w ∷ cap h ∷ cap m ∷ [], hd.last ∷ rest)
numbers_read form header rest w h m hd = front_numbers (w ∷ h ∷ m ∷ []) hd.numbers (hd.last ∷ rest) hd.are_numbers hd.is_last

-- a header at the front is read
pub front_header : (form : Form) (bytes header rest : List ℕ) (w h m : ℕ) (hd : IsHeader form header w h m) → bytes ≡ header ++ rest
    → header_at bytes ≡ with_header (check_limits (capped_header w h m)) form (capped_header w h m) (hd.last ∷ rest)
unfolding header_at
front_header form bytes header rest w h m hd e =
    let split = header_split form bytes header rest w h m hd e in
    ap (λ o. after_form o (length bytes)) (ap form_at split ∙ form_magic form (hd.numbers ++ (hd.last ∷ rest)))
    ∙ ap (λ r. after_numbers r form (length bytes)) (numbers_read form header rest w h m hd)

any_read : (form : Form) (text front rest : List ℕ) → magic form ++ text ≡ front ++ rest → IsAnyHeader front → (vs : List ℕ) × (left : List ℕ) × (numbers_at 3 text ≡ Ok (vs, left))
any_read form text front rest e (g, w, h, m, hd) =
    let same = same_tail form g text (hd.numbers ++ (hd.last ∷ rest)) (header_split g (magic form ++ text) front rest w h m hd e) in
    (cap w ∷ cap h ∷ cap m ∷ [], hd.last ∷ rest, ap (λ xs. numbers_at 3 xs) same ∙ numbers_read g front rest w h m hd)

three : (ns : List ℕ) → length ns ≡ 3 → (w : ℕ) × (h : ℕ) × (m : ℕ) × (ns ≡ w ∷ h ∷ m ∷ [])
three [] e = absurd (omega arith)
three (w ∷ []) e = absurd (omega arith)
three (w ∷ h ∷ []) e = absurd (omega arith)
three (w ∷ h ∷ m ∷ []) e = (w, h, m, refl)
three (w ∷ h ∷ m ∷ x ∷ xs) e = absurd (omega arith)

-- what stands at the front where the numbers are read
pub record Headed (form : Form) (text : List ℕ) (rest : List ℕ) : Type 0 where
  pub header : List ℕ
  pub after : List ℕ
  pub width : ℕ
  pub height : ℕ
  pub maxval : ℕ
  pub is_header : IsHeader form header width height maxval
  pub last_is : rest ≡ is_header.last ∷ after
  pub whole : magic form ++ text ≡ header ++ after

headed_by : (form : Form) (text front rest ns : List ℕ) → AreNumbers ns front → text ≡ front ++ rest → StartsSpace rest → (w : ℕ) × (h : ℕ) × (m : ℕ) × (ns ≡ w ∷ h ∷ m ∷ []) → Headed form text rest
headed_by form text front [] ns are whole starts r = absurd starts
headed_by form text front (s ∷ after) ns are whole starts (w, h, m, e) =
    record {
      header = magic form ++ (front ++ s ∷ []);
      after = after;
      width = w;
      height = h;
      maxval = m;
      is_header = record { numbers = front; last = s; are_numbers = subst (λ xs. AreNumbers xs front) e are; is_last = starts; whole = refl };
      last_is = refl;
      whole = ap (λ xs. magic form ++ xs) whole ∙ simp append_assoc;
    }

headed : (form : Form) (text vs rest : List ℕ) → numbers_at 3 text ≡ Ok (vs, rest) → Headed form text rest
headed form text vs rest e =
    let o = back_numbers 3 text vs rest (some_start 2 text vs rest e) e in
    headed_by form text o.front rest o.numbers o.are_numbers o.whole o.starts (three o.numbers o.count)

any_header : (form : Form) (text vs : List ℕ) → numbers_at 3 text ≡ Ok (vs, 32 ∷ []) → IsAnyHeader (magic form ++ text)
any_header form text vs e =
    let o = headed form text vs (32 ∷ []) e in
    let none : [] ≡ o.after = cc in
    (form, o.width, o.height, o.maxval, subst (λ xs. IsHeader form xs o.width o.height o.maxval) (sym (o.whole ∙ ap (λ ys. o.header ++ ys) (sym none) ∙ append-nil o.header)) o.is_header)

-- where no header is read, the longest front that begins one ends
header_stops : (form : Form) (bytes text : List ℕ) (left : ℕ) → bytes ≡ magic form ++ text → numbers_at 3 text ≡ Err left → StopsAt IsAnyHeader bytes (length bytes - left)
header_stops form bytes text left e stop =
    let h = halted 3 text left stop in
    let split : bytes ≡ (magic form ++ h.front) ++ h.rest = e ∙ ap (λ xs. magic form ++ xs) h.split ∙ sym (append_assoc (magic form) h.front h.rest) in
    let sized : length bytes ≡ length (magic form ++ h.front) + length h.rest = ap length split ∙ length-append (magic form ++ h.front) h.rest in
    stops_at IsAnyHeader bytes (magic form ++ h.front) h.rest h.more (length bytes - left) split (omega (arith, h.left_is))
    (subst IsAnyHeader (sym (append_assoc (magic form) h.front h.more)) (any_header form (h.front ++ h.more) h.values h.begins))
    (λ front rest k any. let r = any_read form text front rest (sym e ∙ k) any in let no = r.2 in absurd (cc))
    (λ b after xs k any.
    let r = any_read form (h.front ++ (b ∷ xs)) ((magic form ++ h.front) ++ (b ∷ xs)) [] (sym (append_assoc (magic form) h.front (b ∷ xs)) ∙ sym (append-nil ((magic form ++ h.front) ++ (b ∷ xs)))) any in
    let yes = r.2 in let no = h.bad b after xs k in absurd (cc))

-- what is at the front: no form, no header, or a header
pub record Found (bytes : List ℕ) : Type 0 where
  pub form : Form
  pub header : List ℕ
  pub rest : List ℕ
  pub width : ℕ
  pub height : ℕ
  pub maxval : ℕ
  pub is_header : IsHeader form header width height maxval
  pub whole : bytes ≡ header ++ rest

abbrev pub NoHeader : List ℕ → Type 0
NoHeader bytes = (at : ℕ) × (header_at bytes ≡ Err (BadHeader at)) × RefusesFront bytes (BadHeader at)

abbrev pub HeaderSays : List ℕ → Type 0
HeaderSays bytes = ((header_at bytes ≡ Err NotPgm) × RefusesFront bytes NotPgm) ⊎ (NoHeader bytes ⊎ Found bytes)

no_header : (bytes text : List ℕ) (form : Form) (left : ℕ) → form_at bytes ≡ Some (form, text) → bytes ≡ magic form ++ text → numbers_at 3 text ≡ Err left → NoHeader bytes
unfolding header_at
no_header bytes text form left fe split e =
    (length bytes - left, ap (λ o. after_form o (length bytes)) fe ∙ ap (λ r. after_numbers r form (length bytes)) e, ((form, text, split), header_stops form bytes text left split e))

form_says : (bytes text : List ℕ) (form : Form) → form_at bytes ≡ Some (form, text) → bytes ≡ magic form ++ text → NoHeader bytes ⊎ Found bytes
form_says bytes text form fe split =
    let go : (r : Result (List ℕ × List ℕ) ℕ) → numbers_at 3 text ≡ r → NoHeader bytes ⊎ Found bytes =
    λ (r : Result (List ℕ × List ℕ) ℕ). elim r as (λ x. numbers_at 3 text ≡ x → NoHeader bytes ⊎ Found bytes) [
      | Ok y ↦ λ e. let o = headed form text y.0 y.1 e in
          inr (record { form = form; header = o.header; rest = o.after; width = o.width; height = o.height; maxval = o.maxval; is_header = o.is_header; whole = split ∙ o.whole })
      | Err left ↦ λ e. inl (no_header bytes text form left fe split e)
    ]
    in go (numbers_at 3 text) refl

pub header_says : (bytes : List ℕ) → HeaderSays bytes
unfolding header_at
header_says bytes =
    let go : (o : Option (Form × List ℕ)) → form_at bytes ≡ o → HeaderSays bytes =
    λ (o : Option (Form × List ℕ)). elim o as (λ x. form_at bytes ≡ x → HeaderSays bytes) [
      | None ↦ λ e. inl (ap (λ o. after_form o (length bytes)) e, no_form bytes e)
      | Some x ↦ λ e. inr (form_says bytes x.1 x.0 e (form_found bytes x e))
    ]
    in go (form_at bytes) refl
