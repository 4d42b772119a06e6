use Rattle.std.proofs.Common.{◌≡◌, ℕ, zero, suc, ◌+◌, ◌-◌, ◌*◌, ◌<◌, ◌≤◌, inl, inr, Bool, true, false, cond, List, [], ◌∷◌, ◌++◌, length, get_or, sym, ◌∙◌, ap, arith, length-append}
use Rattle.std.specs.List.{filter, flat_map, range_with_len, All}
use Rattle.std.proofs.lemmas.List.{map-id, flat_map_more, length-map}
use Rattle.std.proofs.lemmas.List.FromFn.{map-range_with_len_more}
use Rattle.std.proofs.lemmas.List.Elements.{All-append, All-map, All-filter, filter_passes, All-nil}
use Rattle.std.proofs.lemmas.Nat.{mul-le, mul-add-lt, mod_below, div-add-mod'}
use Rattle.std.proofs.lemmas.Bool.Decides.{nat_tests}
use Rattle.label_field.specs.declared.pair.Pair.{Pair}
use Rattle.label_field.specs.declared.grid.Step.{Step}
use Rattle.label_field.specs.Limits.{weight_limit}
use Rattle.label_field.specs.PairLists.{IsWeightedPair}
use Rattle.label_field.specs.Grids.{IsImage, IsForward, site_at, column, row, stays, step_end, pairs_of_steps}

-- one more site
pub front_more : (f : ℕ → List Pair) (n : ℕ) → flat_map f (range_with_len 0 (n + 1)) ≡ flat_map f (range_with_len 0 n) ++ f n
front_more f n =
    let numbers : range_with_len 0 (n + 1) ≡ range_with_len 0 n ++ n ∷ [] =
    sym (map-id (range_with_len 0 (n + 1))) ∙ map-range_with_len_more (λ x. x) 0 n n (omega arith) ∙ ap (λ xs. xs ++ n ∷ []) (map-id (range_with_len 0 n)) in
    ap (flat_map f) numbers ∙ sym (flat_map_more f [] (range_with_len 0 n) n)

length-filter_le : (test : Step → Bool) (steps : List Step) → length (filter test steps) ≤ length steps
length-filter_le test [] = omega arith
length-filter_le test (step ∷ steps) =
    let rest : length (filter test steps) ≤ length steps = length-filter_le test steps in
    elim (test step) as (λ b. length (cond b (step ∷ filter test steps) (filter test steps)) ≤ length (step ∷ steps)) [ true ↦ omega arith | false ↦ omega arith ]

-- no more pairs at a site than steps
pub length-pairs_at : (width height weight : ℕ) (steps : List Step) (site : ℕ) → length (pairs_of_steps width height weight steps site) ≤ length steps
length-pairs_at width height weight steps site =
    simp length-map (length-filter_le (stays width height (column width site) (row width site)) steps)

-- and so for several sites
pub length-front : (width height weight : ℕ) (steps : List Step) (a n : ℕ) → length steps ≤ 4
    → length (flat_map (pairs_of_steps width height weight steps) (range_with_len a n)) ≤ 4 * n
length-front width height weight steps a zero few = omega arith
length-front width height weight steps a (suc n) few =
    let here : length (pairs_of_steps width height weight steps a) ≤ length steps = length-pairs_at width height weight steps a in
    let rest : length (flat_map (pairs_of_steps width height weight steps) (range_with_len (a + 1) n)) ≤ 4 * n =
    length-front width height weight steps (a + 1) n few in
    rw length-append (omega arith)

-- what the test of a step says
pub stays_parts : (width height x y : ℕ) (step : Step) → stays width height x y step ≡ true
    → (step.left ≤ x) × (x + step.right < width + step.left) × (y + step.down < height)
stays_parts width height x y step t = grind (arith, nat_tests)

-- a step that stays ends in the image
pub ends_inside : (width height x y : ℕ) (step : Step) → stays width height x y step ≡ true → step_end width x y step < width * height
ends_inside width height x y step t =
    let parts : (step.left ≤ x) × (x + step.right < width + step.left) × (y + step.down < height) = stays_parts width height x y step t in
    let column_of : x + step.right - step.left < width = omega arith in
    let place : (y + step.down) * width + (x + step.right - step.left) < width * height =
    mul-add-lt (y + step.down) width (x + step.right - step.left) height parts.2 column_of in
    omega (arith, place)

-- a forward step that stays ends at a later site
pub ends_later : (width height x y : ℕ) (step : Step) → x < width → IsForward step → stays width height x y step ≡ true
    → site_at width x y < step_end width x y step
ends_later width height x y step in_column (inl right) t =
    let parts : (step.left ≤ x) × (x + step.right < width + step.left) × (y + step.down < height) = stays_parts width height x y step t in
    let rows : y * width ≤ (y + step.down) * width = mul-le y width (y + step.down) width (omega arith) (omega arith) in
    omega (arith, rows)
ends_later width height x y step in_column (inr down) t =
    let parts : (step.left ≤ x) × (x + step.right < width + step.left) × (y + step.down < height) = stays_parts width height x y step t in
    let rows : (y + 1) * width ≤ (y + step.down) * width = mul-le (y + 1) width (y + step.down) width (omega arith) (omega arith) in
    omega (arith, rows)

-- the column and the row of a site give it back
pub site_at-column : (width site : ℕ) → site_at width (column width site) (row width site) ≡ site
site_at-column width site = omega (arith, div-add-mod' site width)

-- the pairs at a site are pairs of two sites of the image
pub pairs_at_are : (width height weight : ℕ) (steps : List Step) (site : ℕ) → IsImage width height → All IsForward steps → weight ≤ weight_limit
    → site < width * height → All (IsWeightedPair (width * height)) (pairs_of_steps width height weight steps site)
pairs_at_are width height weight steps site image forward light within =
    let x : ℕ = column width site in
    let y : ℕ = row width site in
    let test : Step → Bool = stays width height x y in
    let pair : Step → Pair = λ step. record { first = site; second = step_end width x y step; weight = weight } in
    All-map (IsWeightedPair (width * height)) pair (filter test steps) (λ k d lt.
    let passes : stays width height x y (get_or (filter test steps) k d) ≡ true = filter_passes test steps k d lt in
    let later : site_at width x y < step_end width x y (get_or (filter test steps) k d) =
    ends_later width height x y (get_or (filter test steps) k d) (mod_below site width image.some_column) (All-filter test IsForward steps forward k d lt) passes in
    let back : site_at width x y ≡ site = site_at-column width site in
    let inside : step_end width x y (get_or (filter test steps) k d) < width * height = ends_inside width height x y (get_or (filter test steps) k d) passes in
    record { pair_is = record { first = within; second = inside; unequal = omega (arith, later, back) }; light = light })

-- and so for several sites
pub front_are : (width height weight : ℕ) (steps : List Step) (a n : ℕ) → IsImage width height → All IsForward steps → weight ≤ weight_limit
    → a + n ≤ width * height → All (IsWeightedPair (width * height)) (flat_map (pairs_of_steps width height weight steps) (range_with_len a n))
front_are width height weight steps a zero image forward light within = All-nil (IsWeightedPair (width * height))
front_are width height weight steps a (suc n) image forward light within =
    All-append (IsWeightedPair (width * height)) (pairs_of_steps width height weight steps a) (flat_map (pairs_of_steps width height weight steps) (range_with_len (a + 1) n))
    (pairs_at_are width height weight steps a image forward light (omega arith))
    (front_are width height weight steps (a + 1) n image forward light (omega arith))
