use Rattle.std.proofs.Common.{◌≡◌, ℕ, ◌+◌, ◌-◌, ◌*◌, ◌/◌, ◌%◌, ◌<◌, ◌≤◌, inl, inr, true, List, refl, sym, ◌∙◌, ap, subst, arith}
use Rattle.std.specs.List.{filter, range_with_len, Contains}
use Rattle.std.proofs.lemmas.Nat.{mul-le, div-mul-add, mod-mul-add, mod_below, div_below}
use Rattle.std.proofs.lemmas.Bool.{cases_lt}
use Rattle.std.proofs.lemmas.Bool.Decides.{nat_tests}
use Rattle.label_field.specs.declared.pair.Pair.{Pair}
use Rattle.label_field.specs.declared.grid.Step.{Step}
use Rattle.label_field.specs.Grids.{site_at, column, row, stays, step_end, pairs_of_steps, grid}
use Rattle.label_field.proofs.Members.{from_flat_map, to_flat_map, from_map, to_map, from_filter, to_filter, from_range, to_range}
use Rattle.label_field.proofs.GridSteps.{stays_parts, site_at-column}

-- a pair of a grid is a site of the image with the end of a step that stays
pub from_grid : (width height weight : ℕ) (steps : List Step) (pair : Pair) → Contains (grid width height weight steps) pair
    → (step : Step) × Contains steps step × (stays width height (column width pair.first) (row width pair.first) step ≡ true)
    × (pair.first < width * height) × (pair.second ≡ step_end width (column width pair.first) (row width pair.first) step) × (pair.weight ≡ weight)
from_grid width height weight steps pair h =
    let (site, among, there) = from_flat_map (pairs_of_steps width height weight steps) (range_with_len 0 (width * height)) pair h in
    let within : site < width * height = from_range (width * height) site among in
    let make : Step → Pair =
    λ step. record { first = site; second = step_end width (column width site) (row width site) step; weight = weight } in
    let (step, kept, is) = from_map make (filter (stays width height (column width site) (row width site)) steps) pair there in
    let (listed, passes) = from_filter (stays width height (column width site) (row width site)) steps step kept in
    let P : Pair → Type 0 = λ p. (stays width height (column width p.first) (row width p.first) step ≡ true)
    × (p.first < width * height) × (p.second ≡ step_end width (column width p.first) (row width p.first) step) × (p.weight ≡ weight) in
    let facts : P pair = subst P is (passes, within, refl, refl) in
    (step, listed, facts.0, facts.1, facts.2, facts.3)

-- and conversely
pub to_grid : (width height weight : ℕ) (steps : List Step) (site : ℕ) (step : Step) → Contains steps step → site < width * height
    → stays width height (column width site) (row width site) step ≡ true
    → Contains (grid width height weight steps) (record { first = site; second = step_end width (column width site) (row width site) step; weight = weight })
to_grid width height weight steps site step listed within passes =
    let make : Step → Pair =
    λ step. record { first = site; second = step_end width (column width site) (row width site) step; weight = weight } in
    to_flat_map (pairs_of_steps width height weight steps) (range_with_len 0 (width * height)) site (make step)
    (to_range (width * height) site within)
    (to_map make (filter (stays width height (column width site) (row width site)) steps) step
    (to_filter (stays width height (column width site) (row width site)) steps step listed passes))

-- the test of a step passes where it should
pub passes_from : (width height x y : ℕ) (step : Step) → step.left ≤ x → x + step.right < width + step.left → y + step.down < height
    → stays width height x y step ≡ true
passes_from width height x y step left right down = grind (arith, nat_tests)

-- where a step that stays ends
pub column-landing : (width height x y : ℕ) (step : Step) → stays width height x y step ≡ true → column width (step_end width x y step) ≡ x + step.right - step.left
column-landing width height x y step t =
    let parts : (step.left ≤ x) × (x + step.right < width + step.left) × (y + step.down < height) = stays_parts width height x y step t in
    ap (λ n. n % width) (omega arith) ∙ mod-mul-add (y + step.down) width (x + step.right - step.left) (omega arith)

pub row-landing : (width height x y : ℕ) (step : Step) → stays width height x y step ≡ true → row width (step_end width x y step) ≡ y + step.down
row-landing width height x y step t =
    let parts : (step.left ≤ x) × (x + step.right < width + step.left) × (y + step.down < height) = stays_parts width height x y step t in
    ap (λ n. n / width) (omega arith) ∙ div-mul-add (y + step.down) width (x + step.right - step.left) (omega arith)

-- the next site lies beside one, or in the first column of the next row
pub next_beside : (width s x y : ℕ) → x ≡ column width s → y ≡ row width s → x + 1 < width → (x + 1 ≡ column width (s + 1)) × (y ≡ row width (s + 1))
next_beside width s x y in_column in_row inside =
    let rows : y * width ≡ row width s * width = ap (λ r. r * width) in_row in
    let is : s + 1 ≡ y * width + (x + 1) = omega (arith, site_at-column width s, in_column, rows) in (
      sym (ap (λ n. n % width) is ∙ mod-mul-add y width (x + 1) inside),
      sym (ap (λ n. n / width) is ∙ div-mul-add y width (x + 1) inside),
    )

pub next_below : (width s x y : ℕ) → 0 < width → x ≡ column width s → y ≡ row width s → width ≤ x + 1 → (0 ≡ column width (s + 1)) × (y + 1 ≡ row width (s + 1))
next_below width s x y wide in_column in_row last =
    let rows : y * width ≡ row width s * width = ap (λ r. r * width) in_row in
    let is : s + 1 ≡ (y + 1) * width + 0 = omega (arith, site_at-column width s, in_column, rows, mod_below s width wide, last) in (
      sym (ap (λ n. n % width) is ∙ mod-mul-add (y + 1) width 0 wide),
      sym (ap (λ n. n / width) is ∙ div-mul-add (y + 1) width 0 wide),
    )

-- a site is not in a later row than a later site, and in one row it is in an earlier column
pub row_rises : (width p q : ℕ) → 0 < width → p < q → row width p ≤ row width q
row_rises width p q wide later =
    elim (cases_lt (row width q) (row width p)) [
      | inl below ↦
          let rows : (row width q + 1) * width ≤ row width p * width =
          mul-le (row width q + 1) width (row width p) width (omega (arith, below)) (omega arith) in
          let in_column : column width q < width = mod_below q width wide in
          absurd (omega (arith, rows, in_column, site_at-column width p, site_at-column width q, later))
      | inr above ↦ above
    ]

pub column_rises : (width p q : ℕ) → p < q → row width p ≡ row width q → column width p < column width q
column_rises width p q later same =
    let rows : row width p * width ≡ row width q * width = ap (λ y. y * width) same in
    omega (arith, rows, site_at-column width p, site_at-column width q, later)

-- a step that leads from a site to another of the image gives their pair
pub steps_to : (width height weight : ℕ) (steps : List Step) (pair : Pair) (step : Step) → Contains steps step → 0 < width
    → pair.first < pair.second → pair.second < width * height → pair.weight ≡ weight → step.left ≤ column width pair.first
    → column width pair.second ≡ column width pair.first + step.right - step.left → row width pair.second ≡ row width pair.first + step.down
    → Contains (grid width height weight steps) pair
steps_to width height weight steps pair step listed wide later inside light left in_column in_row =
    let x : ℕ = column width pair.first in
    let y : ℕ = row width pair.first in
    let bound : column width pair.second < width = mod_below pair.second width wide in
    let under : row width pair.second < height = div_below pair.second width height wide (omega (arith, inside)) in
    let passes : stays width height x y step ≡ true =
    passes_from width height x y step left (omega (arith, bound, in_column, left)) (omega (arith, under, in_row)) in
    let ends : step_end width x y step ≡ pair.second =
    ap (λ c. site_at width c (y + step.down)) (sym in_column) ∙ ap (λ r. site_at width (column width pair.second) r) (sym in_row) ∙ site_at-column width pair.second in
    let P : ℕ → Type 0 = λ q. Contains (grid width height weight steps) (record { first = pair.first; second = q; weight = pair.weight }) in
    let Q : ℕ → Type 0 = λ w. Contains (grid width height weight steps) (record { first = pair.first; second = step_end width x y step; weight = w }) in
    subst P ends (subst Q (sym light) (to_grid width height weight steps pair.first step listed (omega (arith, later, inside)) passes))
