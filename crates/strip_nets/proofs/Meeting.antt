-- The pairs of a strip, in the order in which they are met.
use Rattle.std.proofs.Common.{◌≡◌, ℕ, zero, suc, ◌+◌, ◌-◌, ◌*◌, ◌<◌, ◌≤◌, ◌++◌, Bool, true, false, cond, inl, inr, List, [], ◌∷◌, length, take, drop, get_or, length-take, sum_by, append_assoc, length-append, refl, sym, ap, subst, ◌∙◌, arith}
use Rattle.std.specs.Prelude.{◌&&◌, not, ℤ, pos, unsigned_abs}
use Rattle.sums.specs.Sums.{count_if}
use Rattle.label_energies.specs.declared.change.Move.{Move}
use Rattle.label_energies.specs.Energies.{Instance}
use Rattle.compile_cut.specs.declared.quadratic.Quadratic.{Quadratic}
use Rattle.compile_cut.specs.Weights.{source_part}
use Rattle.move_energy.specs.declared.choice.Choice.{Choice}
use Rattle.move_energy.specs.Built.{AddsCost}
use Rattle.move_energy.proofs.Adding.{cost_none}
use Rattle.std.specs.List.{flat_map}
use Rattle.std.proofs.lemmas.Bool.{cases_lt}
use Rattle.std.proofs.lemmas.List.{append-nil, take_more, take_all, take-append-drop, take-append-le}
use Rattle.std.proofs.Math.Seq.{take-append_seam}
use Rattle.strip_nets.specs.RowForms.{IsFirstPart}
use Rattle.std.proofs.lemmas.List.Sums.{sum_by-cons}
use Rattle.std.proofs.lemmas.List.Concat.{flat_map-cons}
use Rattle.std.proofs.lemmas.Grind.{flat_map-append}
use Rattle.label_field.specs.declared.pair.Pair.{Pair}
use Rattle.label_field.specs.PairLists.{IsPair}
use Rattle.move_energy.specs.BySite.{degree, is_first, neighbour_at, neighbours_start, pair_beside}
use Rattle.move_energy.specs.Choices.{choice_at, open_at, open_rank}
use Rattle.move_energy.proofs.Parts.{beside_has}
use Rattle.persistency.specs.Borders.{is_inside, range_of}
use Rattle.move_energy.specs.Weights.{are_open, pair_surplus, unsaved_surplus}
use Rattle.strip_nets.specs.declared.material.Material.{Material}
use Rattle.strip_nets.specs.declared.material.StripSites.{StripSites}
use Rattle.strip_nets.specs.declared.rows.Met.{Met}
use Rattle.strip_nets.specs.Building.{CanBuild, view_by}
use Rattle.strip_nets.specs.Meeting.{is_met, ends_met, ends_below, ends_at, IsMet}
use Rattle.strip_nets.proofs.Inside.{met_by}
use Rattle.strip_nets.proofs.Views.{inside_is}

-- ---- where a pair is met

pub met_where : (material : Material) (sites : StripSites) (site place head : ℕ) (inside : Bool) → CanBuild material → site < material.form.pairs.now.sites
    → open_at (view_by sites material) site ≡ true → neighbours_start material.form.ends.now site ≤ place → place < neighbours_start material.form.ends.now (site + 1)
    → head ≡ neighbour_at material.form.ends.now place → inside ≡ is_inside (choice_at material.known.now) (range_of sites.from sites.to) head
    → (inside && is_first material.form.ends.now site place) ≡ is_met material sites site place
met_where material sites site place head inside can low opened from to at is =
    let pairs = material.form.pairs.now in
    let apart = (beside_has (IsPair pairs.sites) pairs material.form.ends.now site place can.over.list.each can.over.by_site low from to).unequal in
    met_by (choice_at (view_by sites material)) material.form.ends.now site place head inside at opened (sym (is ∙ inside_is material.known.now sites.from sites.to head)) apart

-- ---- the ends that are met

pub ends_none : (material : Material) (sites : StripSites) (site place : ℕ) → is_met material sites site place ≡ false → ends_met material sites site place ≡ []
ends_none material sites site place h =
    ap (λ (b : Bool). cond b (open_rank (view_by sites material) (pair_beside material.form.ends.now site place).first
    ∷ open_rank (view_by sites material) (pair_beside material.form.ends.now site place).second ∷ []) []) h

pub ends_some : (material : Material) (sites : StripSites) (site place : ℕ) (met : Met) → IsMet material sites site place met
    → ends_met material sites site place ≡ met.first ∷ met.second ∷ []
ends_some material sites site place met h =
    let v = view_by sites material in
    let pair = pair_beside material.form.ends.now site place in
    let first = sym h.first in
    let second = sym h.second in
    ap (λ (b : Bool). cond b (open_rank v pair.first ∷ open_rank v pair.second ∷ []) []) h.is_so ∙ (λ i. first i ∷ second i ∷ [])

pub ends_more : (material : Material) (sites : StripSites) (site place : ℕ) → neighbours_start material.form.ends.now site ≤ place
    → ends_below material sites site (place + 1 - neighbours_start material.form.ends.now site)
    ≡ ends_below material sites site (place - neighbours_start material.form.ends.now site) ++ ends_met material sites site place
ends_more material sites site place from =
    let start = neighbours_start material.form.ends.now site in
    ap (ends_below material sites site) (let e : place + 1 - start ≡ suc (place - start) = omega (arith, from) in e)
    ∙ ap (λ (q : ℕ). ends_below material sites site (place - start) ++ ends_met material sites site q) (let e : start + (place - start) ≡ place = omega (arith, from) in e)

met_few : (b : Bool) (x y : ℕ) → length (cond b (x ∷ y ∷ []) []) ≤ 2
met_few true x y = omega arith
met_few false x y = omega arith

pub ends_few : (material : Material) (sites : StripSites) (site k : ℕ) → length (ends_below material sites site k) ≤ 2 * k
ends_few material sites site zero = omega arith
ends_few material sites site (suc k) =
    let place = neighbours_start material.form.ends.now site + k in
    omega (
      arith,
      ends_few material sites site k,
      length-append (ends_below material sites site k) (ends_met material sites site place),
      met_few (is_met material sites site place) (open_rank (view_by sites material) (pair_beside material.form.ends.now site place).first) (open_rank (view_by sites material) (pair_beside material.form.ends.now site place).second),
    )

-- ---- all sites

pub rows_few : (material : Material) (sites : StripSites) (opened : List ℕ) → length (flat_map (ends_at material sites) opened) ≤ 2 * sum_by (degree material.form.ends.now) opened
rows_few material sites [] = omega arith
rows_few material sites (site ∷ opened) =
    omega (
      arith,
      rows_few material sites opened,
      ends_few material sites site (degree material.form.ends.now site),
      length-append (ends_at material sites site) (flat_map (ends_at material sites) opened),
      ap (length {A = ℕ}) (flat_map-cons (ends_at material sites) site opened),
      sum_by-cons (degree material.form.ends.now) site opened,
    )

pub rows_more : (material : Material) (sites : StripSites) (opened : List ℕ) (i : ℕ) → i < length opened
    → flat_map (ends_at material sites) (take (i + 1) opened) ≡ flat_map (ends_at material sites) (take i opened) ++ ends_at material sites (get_or opened i 0)
rows_more material sites opened i l =
    ap (flat_map (ends_at material sites)) (take_more opened i 0 l)
    ∙ flat_map-append (ends_at material sites) (take i opened) (get_or opened i 0 ∷ [])
    ∙ ap (λ (xs : List ℕ). flat_map (ends_at material sites) (take i opened) ++ xs) (flat_map-cons (ends_at material sites) (get_or opened i 0) [] ∙ append-nil (ends_at material sites (get_or opened i 0)))

-- ---- what is not met, and what is, in the form

unmet_none : (a b : Bool) (z : ℕ) → (a && b) ≡ false → count_if b (count_if a z) ≡ 0
unmet_none true true z h = absurd (cc (h))
unmet_none true false z h = refl
unmet_none false true z h = refl
unmet_none false false z h = refl

pub unmet_adds : (m : Instance) (move : Move) (f : ℕ → ℕ) (choice : ℕ → Choice) (variable : ℕ → ℕ) (q : Quadratic) (pair : Pair) (b : Bool) → (are_open choice pair && b) ≡ false
    → AddsCost q q (λ x. count_if b (unsaved_surplus m move f choice variable x pair))
unmet_adds m move f choice variable q pair b shuts =
    cost_none q (λ x. count_if b (unsaved_surplus m move f choice variable x pair))
    (λ x. unmet_none (are_open choice pair) b (count_if (not (x (variable pair.first) && x (variable pair.second))) (pair_surplus m move f pair)) shuts)

pub part_counted : (z : ℤ) (k : ℕ) → z ≡ pos k → source_part z ≡ unsigned_abs z
part_counted z k is = ap source_part is ∙ sym (ap unsigned_abs is)

-- ---- beginnings

pub beginning_first : (xs ys : List ℕ) → IsFirstPart xs (xs ++ ys)
beginning_first xs ys = take-append_seam xs ys

beginning_short : (xs all : List ℕ) → IsFirstPart xs all → length xs ≤ length all
beginning_short xs all h = omega (arith, ap (length {A = ℕ}) h, length-take (length xs) all)

pub beginning_of : (xs ys all : List ℕ) → IsFirstPart xs ys → IsFirstPart ys all → IsFirstPart xs all
beginning_of xs ys all h k =
    let short = beginning_short xs ys h in
    let whole : ys ++ drop (length ys) all ≡ all = ap (λ (zs : List ℕ). zs ++ drop (length ys) all) (sym k) ∙ take-append-drop (length ys) all in
    ap (take (length xs)) (sym whole) ∙ take-append-le (length xs) ys (drop (length ys) all) short ∙ h

pub beginning_behind : (es xs ys : List ℕ) → IsFirstPart xs ys → IsFirstPart (es ++ xs) (es ++ ys)
beginning_behind [] xs ys h = h
beginning_behind (e ∷ es) xs ys h = ap (λ (zs : List ℕ). e ∷ zs) (beginning_behind es xs ys h)

pub below_begins : (material : Material) (sites : StripSites) (site j k : ℕ) → j ≤ k → IsFirstPart (ends_below material sites site j) (ends_below material sites site k)
below_begins material sites site j zero l =
    let P : ℕ → Type 0 = λ i. IsFirstPart (ends_below material sites site i) [] in
    subst P (let e : 0 ≡ j = omega (arith, l) in e) refl
below_begins material sites site j (suc k) l = elim (cases_lt j (suc k)) [
  | inl less ↦ beginning_of (ends_below material sites site j) (ends_below material sites site k) (ends_below material sites site (suc k))
      (below_begins material sites site j k (omega (arith, less))) (beginning_first (ends_below material sites site k) (ends_met material sites site (neighbours_start material.form.ends.now site + k)))
  | inr last ↦
      let P : ℕ → Type 0 = λ i. IsFirstPart (ends_below material sites site i) (ends_below material sites site (suc k)) in
      subst P (let e : suc k ≡ j = omega (arith, l, last) in e) (take_all (length (ends_below material sites site (suc k))) (ends_below material sites site (suc k)) (omega arith))
]

-- the next pair of a site
pub next_begins : (material : Material) (sites : StripSites) (site place : ℕ) (first now all : List ℕ) → neighbours_start material.form.ends.now site ≤ place
    → place < neighbours_start material.form.ends.now (site + 1) → IsFirstPart (first ++ ends_at material sites site) all
    → now ≡ first ++ ends_below material sites site (place - neighbours_start material.form.ends.now site)
    → IsFirstPart (now ++ ends_met material sites site place) all
next_begins material sites site place first now all from to begins is =
    let start = neighbours_start material.form.ends.now site in
    let k = place + 1 - start in
    let here : first ++ ends_below material sites site k ≡ now ++ ends_met material sites site place =
    ap (λ (xs : List ℕ). first ++ xs) (ends_more material sites site place from)
    ∙ sym (append_assoc first (ends_below material sites site (place - start)) (ends_met material sites site place))
    ∙ ap (λ (xs : List ℕ). xs ++ ends_met material sites site place) (sym is) in
    subst (λ (xs : List ℕ). IsFirstPart xs all) here
    (beginning_of (first ++ ends_below material sites site k) (first ++ ends_at material sites site) all
    (beginning_behind first (ends_below material sites site k) (ends_at material sites site) (below_begins material sites site k (degree material.form.ends.now site) (omega (arith, from, to))))
    begins)

pub ends_on : (material : Material) (sites : StripSites) (site place : ℕ) (first now new : List ℕ) → neighbours_start material.form.ends.now site ≤ place
    → now ≡ first ++ ends_below material sites site (place - neighbours_start material.form.ends.now site) → new ≡ now ++ ends_met material sites site place
    → new ≡ first ++ ends_below material sites site (place + 1 - neighbours_start material.form.ends.now site)
ends_on material sites site place first now new from is more =
    more ∙ ap (λ (xs : List ℕ). xs ++ ends_met material sites site place) is
    ∙ append_assoc first (ends_below material sites site (place - neighbours_start material.form.ends.now site)) (ends_met material sites site place)
    ∙ ap (λ (xs : List ℕ). first ++ xs) (sym (ends_more material sites site place from))

-- the next site
pub row_begins : (material : Material) (sites : StripSites) (opened : List ℕ) (i : ℕ) → i < length opened
    → IsFirstPart (flat_map (ends_at material sites) (take i opened) ++ ends_at material sites (get_or opened i 0)) (flat_map (ends_at material sites) opened)
row_begins material sites opened i l =
    let F = ends_at material sites in
    let whole : flat_map F (take (i + 1) opened) ++ flat_map F (drop (i + 1) opened) ≡ flat_map F opened =
    sym (flat_map-append F (take (i + 1) opened) (drop (i + 1) opened)) ∙ ap (flat_map F) (take-append-drop (i + 1) opened) in
    subst (λ (xs : List ℕ). IsFirstPart xs (flat_map F opened)) (rows_more material sites opened i l)
    (subst (IsFirstPart (flat_map F (take (i + 1) opened))) whole (beginning_first (flat_map F (take (i + 1) opened)) (flat_map F (drop (i + 1) opened))))

-- before the first pair of a site
pub row_unmet : (material : Material) (sites : StripSites) (site place : ℕ) (first : List ℕ) → place ≡ neighbours_start material.form.ends.now site
    → first ≡ first ++ ends_below material sites site (place - neighbours_start material.form.ends.now site)
row_unmet material sites site place first at =
    sym (append-nil first) ∙ ap (λ (k : ℕ). first ++ ends_below material sites site k) (let e : 0 ≡ place - neighbours_start material.form.ends.now site = omega (arith, at) in e)
