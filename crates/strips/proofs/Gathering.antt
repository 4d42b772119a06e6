-- What parts tell, taken over one after another.
use Rattle.std.proofs.Common.{◌≡◌, ◌⊎◌, ℕ, zero, suc, ◌+◌, ◌-◌, ◌*◌, ◌/◌, ◌%◌, ◌<◌, ◌≤◌, ◌≢◌, Bool, List, length, Result, Ok, Err, ℤ, refl, sym, ap, ◌∙◌, inl, inr, subst, arith}
use Rattle.std.specs.Prelude.{slice_index_or, IfOk}
use Rattle.std.specs.Global.{Vec}
use Rattle.std.specs.Int.{div_ceil}
use Rattle.std.specs.Result.{IsOk}
use Rattle.std.proofs.lemmas.Bool.{cases_lt}
use Rattle.std.proofs.lemmas.Nat.{div-add-mod'}
use Rattle.std.proofs.Math.Nat.{div-lt_iff_lt-mul, eq-zero-or-pos, mod-lt, mul_comm}
use Rattle.label_energies.specs.declared.change.Move.{Move}
use Rattle.label_energies.specs.Energies.{Instance, IsInstance, labelling}
use Rattle.label_energies.specs.Moves.{IsAllowed}
use Rattle.move_energy.specs.declared.choice.Choice.{Choice}
use Rattle.move_energy.specs.declared.choice.Choice.TheVariants.{Open, Zero, One}
use Rattle.move_energy.specs.Choices.{choice_at}
use Rattle.site_forms.specs.declared.numbers.SiteForm.{SiteForm}
use Rattle.site_bounds.specs.Decisions.{Passes}
use Rattle.move_energy.specs.MoveValues.{move_value}
use Rattle.site_bounds.specs.Parts.{ArePassedChoices}
use Rattle.site_forms.specs.Numbers.{IsFormOf}
use Rattle.strips.specs.Parts.{ArePartCodes, IsPartAnswer, OfParts, FillsPart, IsPartJoined, DecidesTold, EndsWithStrip, PartsEndWithStrips, known_or, coded_at, part_start}
use Rattle.site_bounds.proofs.Putting.{passed_forced}
use Rattle.move_energy.proofs.Rising.{move_falls}
use Rattle.persistency.specs.Agreeing.{Agree}
use Rattle.persistency.proofs.Agreeing.{each_agreed, forced_agree}

-- ---- where parts begin

one_more : (size i : ℕ) → (i + 1) * size ≡ i * size + size
one_more size i = grind (arith)

pub part_ordered : (n size i : ℕ) → part_start n size i ≤ part_start n size (i + 1)
part_ordered n size i = (let e = one_more size i in omega (arith, e))

part_climbs : (n size i k : ℕ) → part_start n size i ≤ part_start n size (i + k)
part_climbs n size i zero =
    let same : i + zero ≡ i = omega arith in
    omega (arith, ap (part_start n size) same)
part_climbs n size i (suc k) =
    let before = part_climbs n size i k in
    let here = part_ordered n size (i + k) in
    let next : i + k + 1 ≡ i + suc k = omega arith in
    omega (arith, before, here, ap (part_start n size) next)

part_later : (n size j i : ℕ) → j < i → part_start n size (j + 1) ≤ part_start n size i
part_later n size j i l =
    let same : j + 1 + (i - (j + 1)) ≡ i = omega (arith, l) in
    let climbs = part_climbs n size (j + 1) (i - (j + 1)) in
    omega (arith, climbs, ap (part_start n size) same)

-- ---- one part is taken over

-- a site lies outside of a range, or at a place of it
cases_range : (from len p : ℕ) → ((p < from) ⊎ (from + len ≤ p)) ⊎ ((k : ℕ) × (k < len) × (p ≡ from + k))
cases_range from len p = elim (cases_lt p from) [
  | inl before ↦ inl (inl before)
  | inr after ↦ elim (cases_lt p (from + len)) [
    | inl inside ↦ inr (p - from, omega (arith, after, inside), omega (arith, after))
    | inr past ↦ inl (inr past)
  ]
]

-- the choices after part i are those before it, with what its codes tell
pub record Takes (from : ℕ) (codes : List ℕ) (now new : List Choice) : Type 0 where
  pub inside : (k : ℕ) → k < length codes → choice_at new (from + k) ≡ known_or (choice_at now (from + k)) (coded_at codes k)
  pub outside : (p : ℕ) → (p < from) ⊎ (from + length codes ≤ p) → choice_at new p ≡ choice_at now p

pub takes_joined : (n size i : ℕ) (codes : List ℕ) (old now new : List Choice) → length old ≡ n → Takes (part_start n size i) codes now new
    → ((p : ℕ) → part_start n size i ≤ p → choice_at now p ≡ choice_at old p) → IsPartJoined size old new i codes
takes_joined n size i codes old now new count takes later k l =
    let from : part_start (length old) size i ≡ part_start n size i = ap (λ m. part_start m size i) count in
    let P : ℕ → Type 0 = λ f. choice_at new (f + k) ≡ known_or (choice_at old (f + k)) (coded_at codes k) in
    subst P (sym from) (takes.inside k l ∙ ap (λ (c : Choice). known_or c (coded_at codes k)) (later (part_start n size i + k) (omega arith)))

pub takes_earlier : (n size j i : ℕ) (own codes : List ℕ) (old now new : List Choice) → length old ≡ n → j < i → length own ≡ part_start n size (j + 1) - part_start n size j
    → Takes (part_start n size i) codes now new → IsPartJoined size old now j own → IsPartJoined size old new j own
takes_earlier n size j i own codes old now new count l fills takes joined k within =
    let from : part_start (length old) size j ≡ part_start n size j = ap (λ m. part_start m size j) count in
    let before = part_later n size j i l in
    takes.outside (part_start (length old) size j + k) (inl (omega (arith, from, before, fills, within))) ∙ joined k within

-- what was known stands, or else what the part tells
or_cases : (c t : Choice) → (known_or c t ≡ t) ⊎ (known_or c t ≡ c)
or_cases Open t = inl refl
or_cases Zero t = inr refl
or_cases One t = inr refl

pub takes_agree : (n : ℕ) (E : (ℕ → Bool) → ℤ) (from to : ℕ) (codes : List ℕ) (now new : List Choice) → from ≤ to → length codes ≡ to - from
    → Takes from codes now new → Agree n E (choice_at now) → ArePartCodes n E from to codes → Agree n E (choice_at new)
takes_agree n E from to codes now new ordered count takes agree part =
    each_agreed n E (choice_at new) (λ p l. inr (elim (cases_range from (length codes) p) [
      | inl off ↦ (choice_at now, agree, sym (takes.outside p off))
      | inr at ↦
          let told : choice_at part.known p ≡ coded_at codes at.0 = ap (choice_at part.known) at.2 ∙ sym (part.inside at.0 (omega (arith, at.1, count))) in
          let is : choice_at new p ≡ known_or (choice_at now p) (coded_at codes at.0) =
          ap (choice_at new) at.2 ∙ takes.inside at.0 at.1 ∙ ap (λ q. known_or (choice_at now q) (coded_at codes at.0)) (sym at.2) in
          elim (or_cases (choice_at now p) (coded_at codes at.0)) [
            | inl new_is ↦ (choice_at part.known, part.agree, told ∙ sym new_is ∙ sym is)
            | inr old_is ↦ (choice_at now, agree, sym old_is ∙ sym is)
          ]
    ]))

-- the codes of a part that was not refused fill its range
pub filled_codes : {E : Type 0} (parts : List (Result (Vec ℕ) E)) (n size i : ℕ) (part : Result (Vec ℕ) E) (codes : Vec ℕ) → slice_index_or parts i part ≡ Ok codes
    → OfParts (FillsPart n size) parts → i < length parts → length codes.items ≡ part_start n size (i + 1) - part_start n size i
filled_codes {E} parts n size i part codes is filled l =
    let P : Result (Vec ℕ) E → Type 0 = λ r. IfOk r (λ v. FillsPart n size i v.items) in
    subst P is (filled i part l)

told_ok : {T E : Type 0} (r : Result T E) (P Q : T → Type 0) → ((v : T) → P v → Q v) → IfOk r P → IfOk r Q
told_ok (Ok v) P Q f p = f v p
told_ok (Err e) P Q f p = tt

-- what the parts tell, of the choices that all of them began with
pub parts_told : {E : Type 0} (m : Instance) (move : Move) (form : SiteForm) (old now : List Choice) (size : ℕ) (parts list : List (Result (Vec ℕ) E))
    → IsFormOf m move form → IsInstance m → now ≡ old → length old ≡ length form.at.now → list ≡ parts → ArePassedChoices m move (labelling form.at.now) (choice_at old)
    → OfParts (IsPartAnswer form now size) parts
    → OfParts (λ i. ArePartCodes m.sites (move_value m move (labelling form.at.now)) (part_start (length old) size i) (part_start (length old) size (i + 1))) list
parts_told {E} m move form old now size parts list rises is_one same count listed passed closed =
    let A : ℕ → ℕ → List ℕ → Type 0 = λ n i codes. ArePartCodes m.sites (move_value m move (labelling form.at.now)) (part_start n size i) (part_start n size (i + 1)) codes in
    let P : List Choice → Type 0 = λ cs. ArePassedChoices m move (labelling form.at.now) (choice_at cs) in
    let Q : ℕ → Type 0 = λ n. OfParts (A n) list in
    let R : List (Result (Vec ℕ) E) → Type 0 = λ ps. OfParts (A (length form.at.now)) ps in
    subst Q (sym count) (subst R (sym listed) (λ i part l. told_ok (slice_index_or parts i part) _ _ (λ v is. is.told m move rises is_one (subst P (sym same) passed)) (closed i part l)))

-- choices of decisions that passed the test agree
pub passed_agree : (m : Instance) (move : Move) (f : ℕ → ℕ) (choice : ℕ → Choice) → IsInstance m → IsAllowed m move f → ArePassedChoices m move f choice
    → Agree m.sites (move_value m move f) choice
passed_agree m move f choice pairs allowed passed =
    forced_agree m.sites (move_value m move f) passed.decisions choice
    (passed_forced (move_value m move f) passed.decisions (move_falls m move f pairs allowed) passed.passed) passed.shown

-- ---- each site has its part

-- the part of a site, and its place there
part_place : (n size count p : ℕ) → n ≤ size * count → p < n
    → (i : ℕ) × (i < count) × (k : ℕ) × (k < part_start n size (i + 1) - part_start n size i) × (part_start n size i + k ≡ p)
part_place n size count p cover l =
    let some : 0 < size = elim (eq-zero-or-pos size) [
      | inl none ↦ absurd (omega (arith, ap (λ q. q * count) none, cover, l))
      | inr more ↦ more
    ] in
    let whole = div-add-mod' p size in
    let less = mod-lt p some in
    let next = one_more size (p / size) in
    let fits : p / size < count = (div-lt_iff_lt-mul some).1 (omega (arith, cover, l, mul_comm size count)) in
    (p / size, fits, p % size, omega (arith, whole, less, next, l), omega (arith, whole, less, next, l))

stays_told : (c t : Choice) → t ≢ Open → known_or c t ≢ Open
stays_told Open t told = told
stays_told Zero t told = λ is. cc is
stays_told One t told = λ is. cc is

told_here : {E : Type 0} (r : Result (Vec ℕ) E) (P Q : List ℕ → Type 0) (X : Type 0) → IsOk r → IfOk r (λ v. P v.items) → IfOk r (λ v. Q v.items)
    → ((codes : List ℕ) → P codes → Q codes → X) → X
told_here (Ok v) P Q X ok p q f = f v.items p q
told_here (Err e) P Q X ok p q f = absurd (cc ok)

-- what each part tells of its sites is told of all
pub all_told : {E : Type 0} (form : SiteForm) (before old new : List Choice) (size count : ℕ) (parts : List (Result (Vec ℕ) E)) (default : Result (Vec ℕ) E)
    → old ≡ before → length before ≡ length form.at.now → length parts ≡ count → length before ≤ size * count
    → OfParts (IsPartAnswer form before size) parts
    → ((i : ℕ) (part : _) → i < length parts → IsOk (slice_index_or parts i part))
    → OfParts (IsPartJoined size old new) parts → DecidesTold form before new
all_told {E} form before old new size count parts default same long all cover closed whole joined m move p b told ds l test =
    let at = part_place (length before) size count p cover (omega (arith, l, long)) in
    let i = at.0 in
    let here : i < length parts = omega (arith, at.1, all) in
    let k = at.2 in
    let from : part_start (length old) size i ≡ part_start (length before) size i = ap (λ (cs : List Choice). part_start (length cs) size i) same in
    let start : part_start (length form.at.now) size i ≡ part_start (length before) size i = ap (λ n. part_start n size i) (sym long) in
    let end : part_start (length form.at.now) size (i + 1) ≡ part_start (length before) size (i + 1) = ap (λ n. part_start n size (i + 1)) (sym long) in
    told_here (slice_index_or parts i default) (IsPartAnswer form before size i) (IsPartJoined size old new i) (choice_at new p ≢ Open)
    (whole i default here) (closed i default here) (joined i default here) (λ codes part takes.
    let inside : k < part_start (length form.at.now) size (i + 1) - part_start (length form.at.now) size i = omega (arith, at.3, start, end) in
    let is : part_start (length form.at.now) size i + k ≡ p = omega (arith, at.4, start) in
    let P : ℕ → Type 0 = λ q. Passes (move_value m move (labelling form.at.now)) ds.decisions q b in
    let code : coded_at codes k ≢ Open = part.tried m move k b told ds inside (subst P (sym is) test) in
    let stands : choice_at new p ≡ known_or (choice_at old (part_start (length old) size i + k)) (coded_at codes k) =
    ap (choice_at new) (sym at.4 ∙ ap (λ q. q + k) (sym from)) ∙ takes k (omega (arith, part.count, inside)) in
    λ shut. stays_told (choice_at old (part_start (length old) size i + k)) (coded_at codes k) code (sym stands ∙ shut))

-- ---- each part ends with a strip

kept_or : (c t : Choice) → (c ≢ Open → t ≡ c) → known_or c t ≡ t
kept_or Open t kept = refl
kept_or Zero t kept = sym (kept (λ is. cc is))
kept_or One t kept = sym (kept (λ is. cc is))

pub all_end : {E : Type 0} (m : Instance) (move : Move) (form : SiteForm) (before old new : List Choice) (size count : ℕ) (parts : List (Result (Vec ℕ) E)) (default : Result (Vec ℕ) E)
    → IsFormOf m move form → IsInstance m → ArePassedChoices m move (labelling form.at.now) (choice_at before)
    → old ≡ before → length before ≡ length form.at.now → length parts ≡ count → size ≡ div_ceil (length before) count
    → OfParts (IsPartAnswer form before size) parts
    → ((i : ℕ) (part : _) → i < length parts → IsOk (slice_index_or parts i part))
    → OfParts (IsPartJoined size old new) parts → PartsEndWithStrips m move (labelling form.at.now) before count (choice_at new)
all_end {E} m move form before old new size count parts default rises is_one passed same long all sized closed whole joined i l =
    let f = labelling form.at.now in
    let n = length form.at.now in
    let start : ℕ = part_start n size i in
    let end : ℕ = part_start n size (i + 1) in
    let here : i < length parts = omega (arith, l, all) in
    let from : part_start (length old) size i ≡ start = ap (λ (cs : List Choice). part_start (length cs) size i) same ∙ ap (λ k. part_start k size i) long in
    let Q : ℕ → Type 0 = λ k. EndsWithStrip m move f before (part_start k size i) (part_start k size (i + 1)) (choice_at new) in
    let P : ℕ → Type 0 = λ s. EndsWithStrip m move f before (part_start (length before) s i) (part_start (length before) s (i + 1)) (choice_at new) in
    subst P sized (subst Q (sym long) (told_here (slice_index_or parts i default) (IsPartAnswer form before size i) (IsPartJoined size old new i) (Q n)
    (whole i default here) (closed i default here) (joined i default here) (λ codes part takes.
    let ends = part.ends m move rises is_one passed in
    record {
      before = ends.before;
      count = ends.count;
      kept = ends.kept;
      agree = ends.agree;
      strip = ends.strip;
      whole = ends.whole;
      bounded = ends.bounded;
      tells = λ p above below.
          let k : ℕ = p - start in
          let inside : k < end - start = omega (arith, above, below) in
          let is : start + k ≡ p = omega (arith, above) in
          let was : choice_at old (part_start (length old) size i + k) ≡ choice_at before (start + k) = (λ j. choice_at (same j) (from j + k)) in
          ap (choice_at new) (sym is ∙ ap (λ q. q + k) (sym from)) ∙ takes k (omega (arith, part.count, inside))
          ∙ kept_or (choice_at old (part_start (length old) size i + k)) (coded_at codes k) (λ shuts. part.kept k inside (λ o. shuts (was ∙ o)) ∙ sym was)
          ∙ ends.tells p above below;
    })))
