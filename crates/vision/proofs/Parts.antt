-- What a label costs a pixel is in range.
use Rattle.std.proofs.Common.{◌≡◌, ℕ, ◌*◌, ◌<◌, ◌≤◌, ◌==◌, true, false, List, length, get_or, slice_index, All, ℤ, pos, if◌then◌else◌, sym, ap, ◌∙◌, subst, arith}
use Rattle.std.proofs.lemmas.Int.{ints}
use Rattle.cost_store.specs.Promises.{IsCost}
use Rattle.run_options.specs.Ranges.{AreSegmentOptions}
use Rattle.run_options.specs.declared.options.SegmentOptions.{SegmentOptions}
use Rattle.label_field.specs.Grids.{distance}
use Rattle.pgm_image.specs.Picture.{Picture, IsPicture}
use Rattle.vision.specs.Problems.{part_cost, seed_cost}

distance_small : (most a b : ℕ) → a ≤ most → b ≤ most → distance a b ≤ most
distance_small most a b la lb = omega arith

part_small : (o : SegmentOptions) (x seed label : ℕ) → AreSegmentOptions o → x ≤ 65535 → part_cost o x seed label ≤ 10000000
part_small o x seed label fit small =
    let low : distance x o.low ≤ 65535 = distance_small 65535 x o.low small fit.low_most in
    let high : distance x o.high ≤ 65535 = distance_small 65535 x o.high small fit.high_most in
    elim (seed == 0) as (λ t. (if t then distance x (if label == 0 then o.low else o.high)
    else if seed == 1 then (if label == 0 then 0 else seed_cost) else (if label == 0 then seed_cost else 0)) ≤ 10000000) [
      | true ↦ elim (label == 0) as (λ t. distance x (if t then o.low else o.high) ≤ 10000000) [ true ↦ omega (arith, low) | false ↦ omega (arith, high) ]
      | false ↦ elim (seed == 1) as (λ t. (if t then (if label == 0 then 0 else seed_cost) else (if label == 0 then seed_cost else 0)) ≤ 10000000) [
        | true ↦ elim (label == 0) as (λ t. (if t then 0 else seed_cost) ≤ 10000000) [ true ↦ omega arith | false ↦ omega arith ]
        | false ↦ elim (label == 0) as (λ t. (if t then seed_cost else 0) ≤ 10000000) [ true ↦ omega arith | false ↦ omega arith ]
      ]
    ]

-- a closure that tells it may be called at each pixel, and answers costs in range
pub part_keeps : (o : SegmentOptions) (xs seeds : List ℕ) (sites : ℕ) → AreSegmentOptions o → length xs ≡ sites → length seeds ≡ sites
    → All (λ x. x ≤ 65535) xs → (a b : ℕ) → a < sites → b < 2
    → ((a < length xs) × (a < length seeds))
    × ((z : ℤ) → z ≡ pos (part_cost o (slice_index xs a) (slice_index seeds a) b) → IsCost (pos 10000000) z)
part_keeps o xs seeds sites fit long longs small a b la lb =
    let here : a < length xs = omega (arith, la, long) in
    let there : a < length seeds = omega (arith, la, longs) in
    let P : ℤ → Type 0 = λ y. IsCost (pos 10000000) y in
    let bound = part_small o (get_or xs a 0) (get_or seeds a 0) b fit (small a 0 here) in
    ((here, there), λ z is. subst P (sym is) (omega (arith, ints), omega (arith, ints, bound)))

-- the samples of a picture are as many as its sites, and small
pub samples_long : (p : Picture) (xs : List ℕ) (w h : ℕ) → IsPicture p → xs ≡ p.samples → w ≡ p.width → h ≡ p.height → length xs ≡ w * h
samples_long p xs w h valid is wide high = ap length is ∙ valid.3 ∙ (λ i. sym wide i * sym high i)

pub samples_small : (p : Picture) (xs : List ℕ) → IsPicture p → xs ≡ p.samples → All (λ x. x ≤ 65535) xs
samples_small p xs valid is =
    let A : List ℕ → Type 0 = λ ys. All (λ x. x ≤ 65535) ys in
    subst A (sym is) (λ k d inside. (let here = valid.4 k d inside in omega (arith, here, valid.2)))
