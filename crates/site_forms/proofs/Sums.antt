-- The rises of a site, summed place by place, as the machine counts them.
use Rattle.std.proofs.Common.{◌≡◌, ℕ, suc, ◌+◌, ◌-◌, ◌*◌, ◌<◌, ◌≤◌, Bool, ℤ, pos, ◌+ℤ◌, unsigned_abs, FitsSigned, w32, w64, to_z, of_z, lit<, sym, ap, ◌∙◌, subst, arith}
use Rattle.std.proofs.lemmas.Int.{ints, to_z-of_z}
use Rattle.sums.proofs.IntegerSumLemmas.{within_fits, abs-add}
use Rattle.move_energy.specs.Assignments.{rise}
use Rattle.site_forms.specs.Forms.{Form, TellsRises, places, place_rise, rise_below}

next_place : (start place : ℕ) → start ≤ place → suc (place - start) ≡ place + 1 - start
next_place start place l = omega (arith, l)

here_place : (start place : ℕ) → start ≤ place → start + (place - start) ≡ place
here_place start place l = omega (arith, l)

sum_more : (a b c d e s : ℤ) → a ≡ b +ℤ c → d ≡ e → s ≡ a +ℤ d → s ≡ b +ℤ (c +ℤ e)
sum_more a b c d e s h k l = omega (arith, ints, h, k, l)

none_more : (z : ℤ) → z ≡ z +ℤ pos 0
none_more z = omega (arith, ints)

-- the sum before any place
pub first_rise : (form : Form) (x : ℕ → Bool) (u place : ℕ) (z : ℤ) → z ≡ form.own u → place ≡ form.start u → z ≡ rise_below form x u (place - form.start u)
first_rise form x u place z is at =
    let none : 0 ≡ place - form.start u = omega (arith, at) in
    is ∙ none_more (form.own u) ∙ ap (rise_below form x u) none

-- and with one place more
pub next_rise : (form : Form) (x : ℕ → Bool) (u place : ℕ) (old added new : ℤ) → form.start u ≤ place → added ≡ place_rise form x u place → new ≡ old +ℤ added
    → old ≡ rise_below form x u (place - form.start u) → new ≡ rise_below form x u (place + 1 - form.start u)
next_rise form x u place old added new from is sum before =
    sum_more old (form.own u) _ added (place_rise form x u (form.start u + (place - form.start u))) new
    before (is ∙ ap (place_rise form x u) (sym (here_place (form.start u) place from))) sum
    ∙ ap (rise_below form x u) (next_place (form.start u) place from)

-- the whole rise
pub last_rise : (form : Form) (E : (ℕ → Bool) → ℤ) (x : ℕ → Bool) (u place : ℕ) (z : ℤ) → TellsRises form E → u < form.sites → place ≡ form.start (u + 1)
    → z ≡ rise_below form x u (place - form.start u) → z ≡ rise E u x
last_rise form E x u place z told inside at is =
    let all : place - form.start u ≡ places form u = omega (arith, at) in
    is ∙ ap (rise_below form x u) all ∙ sym (told u x inside)

-- ---- as the machine counts them

pub passed : (z : ℤ) → unsigned_abs z ≤ 10000000 → to_z w64 (of_z w64 z) ≡ z
passed z h = to_z-of_z w64 z (within_fits 10000000 z h (lit< tt))

pub passed_range : (z : ℤ) → unsigned_abs z ≤ 10000000 → unsigned_abs (to_z w64 (of_z w64 z)) ≤ 10000000
passed_range z h = (let e = ap unsigned_abs (passed z h) in omega (arith, e, h))

pub added_is : (old added : ℤ) (k : ℕ) → unsigned_abs old ≤ 10000000 + 10000000 * k → unsigned_abs added ≤ 10000000 → k ≤ 8388608
    → to_z w64 (of_z w64 (old +ℤ to_z w64 (of_z w64 added))) ≡ old +ℤ added
added_is old added k within small few =
    let a = abs-add old added in
    let fits = within_fits 100000000000000 (old +ℤ added) (omega (arith, a, within, small, few)) (lit< tt) in
    ap (λ z. to_z w64 (of_z w64 (old +ℤ z))) (passed added small) ∙ to_z-of_z w64 (old +ℤ added) fits

pub sum_fits : (old added : ℤ) (k : ℕ) → unsigned_abs old ≤ 10000000 + 10000000 * k → unsigned_abs added ≤ 10000000 → k ≤ 8388608 → FitsSigned w64 (old +ℤ to_z w64 (of_z w64 added))
sum_fits old added k within small few =
    let a = abs-add old added in
    subst (λ (z : ℤ). FitsSigned w64 (old +ℤ z)) (sym (passed added small))
    (within_fits 100000000000000 (old +ℤ added) (omega (arith, a, within, small, few)) (lit< tt))

pub range_more : (old added new : ℤ) (start place : ℕ) → start ≤ place → unsigned_abs old ≤ 10000000 + 10000000 * (place - start) → unsigned_abs added ≤ 10000000 → new ≡ old +ℤ added
    → unsigned_abs new ≤ 10000000 + 10000000 * (place + 1 - start)
range_more old added new start place from within small is =
    let e = ap unsigned_abs is in
    let a = abs-add old added in
    omega (arith, from, e, a, within, small)

pub small_passed : (own : ℤ) → unsigned_abs own ≤ 10000000 → to_z w32 (of_z w32 own) ≡ own
small_passed own h = omega (arith, ints, h)

-- a site's own rise, as it is read and passed on
pub own_passed : (own read : ℤ) → unsigned_abs own ≤ 10000000 → read ≡ to_z w32 (of_z w32 own) → (to_z w64 (of_z w64 read) ≡ own) × (unsigned_abs (to_z w64 (of_z w64 read)) ≤ 10000000)
own_passed own read small is =
    let same : read ≡ own = is ∙ small_passed own small in
    let within : unsigned_abs read ≤ 10000000 = (let e = ap unsigned_abs same in omega (arith, e, small)) in
    (passed read within ∙ same, passed_range read within)
