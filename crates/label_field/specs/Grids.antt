use Rattle.std.specs.Prelude.{◌≡◌, ◌≢◌, ◌↔◌, ℕ, ◌+◌, ◌-◌, ◌*◌, ◌/◌, ◌%◌, ◌<◌, ◌≤◌, Bool, ◌&&◌}
use Rattle.std.specs.Prelude.{nat_lt, nat_le, List, [], ◌∷◌, map, length, ◌⊎◌}
use Rattle.std.specs.List.{filter, flat_map, range_with_len, Contains, All, AllPairs}
use Rattle.label_field.specs.Limits.{site_limit, side_limit}
use Rattle.label_field.specs.declared.pair.Pair.{Pair}
use Rattle.label_field.specs.declared.grid.Place.{Place}
use Rattle.label_field.specs.declared.grid.Step.{Step}

-- the width and the height of an image, in their limits
pub record IsImage (width height : ℕ) : Type 0 where
  pub some_column : 1 ≤ width
  pub columns : width ≤ side_limit
  pub some_row : 1 ≤ height
  pub rows : height ≤ side_limit
  pub places : width * height ≤ site_limit

-- the site in a column x and a row y, and back
abbrev pub site_at : ℕ → ℕ → ℕ → ℕ
site_at width x y = x + y * width

abbrev pub column : ℕ → ℕ → ℕ
column width site = site % width

abbrev pub row : ℕ → ℕ → ℕ
row width site = site / width

-- a site of an image, and its column and its row
pub record IsImagePlace (width height : ℕ) (place : Place) : Type 0 where
  pub inside : place.site < width * height
  pub in_column : place.x ≡ column width place.site
  pub in_row : place.y ≡ row width place.site

-- to the right, and down
abbrev pub steps4 : List Step
steps4 =
    record { right = 1; left = 0; down = 0 }
    ∷ record { right = 0; left = 0; down = 1 }
    ∷ []

-- and then down to the right, and down to the left
abbrev pub steps8 : List Step
steps8 =
    record { right = 1; left = 0; down = 0 }
    ∷ record { right = 0; left = 0; down = 1 }
    ∷ record { right = 1; left = 0; down = 1 }
    ∷ record { right = 0; left = 1; down = 1 }
    ∷ []

-- a step from a column and a row stays in the image
abbrev pub stays : ℕ → ℕ → ℕ → ℕ → Step → Bool
stays width height x y step =
    nat_le step.left x && nat_lt (x + step.right) (width + step.left)
    && nat_lt (y + step.down) height

-- the site where a step from a column and a row ends
abbrev pub step_end : ℕ → ℕ → ℕ → Step → ℕ
step_end width x y step = site_at width (x + step.right - step.left) (y + step.down)

-- how many pairs of sites of an image share an edge, and how many a corner alone
abbrev pub edge_count : ℕ → ℕ → ℕ
edge_count width height = (width - 1) * height + width * (height - 1)

abbrev pub corner_count : ℕ → ℕ → ℕ
corner_count width height = 2 * ((width - 1) * (height - 1))

-- a step of at most one place each way
abbrev pub IsSmallStep : Step → Type 0
IsSmallStep step = (step.right ≤ 1) × (step.left ≤ 1) × (step.down ≤ 1)

-- it leads to a later site
abbrev pub IsForward : Step → Type 0
IsForward step = (step.left < step.right) ⊎ (0 < step.down)

-- at most four such steps
pub record AreSmallSteps (steps : List Step) : Type 0 where
  pub count : length steps ≤ 4
  pub small : All IsSmallStep steps
  pub forward : All IsForward steps

-- the pair of a site with the site where a step from it ends
abbrev pub pair_to : ℕ → ℕ → ℕ → Step → Pair
pair_to width weight site step =
    record {
      first = site;
      second = step_end width (column width site) (row width site) step;
      weight = weight;
    }

-- the pairs of a site with the places of the image where the steps from it end, in the order of the
-- steps
abbrev pub pairs_of_steps : ℕ → ℕ → ℕ → List Step → ℕ → List Pair
pairs_of_steps width height weight steps site =
    map
    (λ step. pair_to width weight site step)
    (filter (stays width height (column width site) (row width site)) steps)

-- those of each site of an image, site by site
abbrev pub grid : ℕ → ℕ → ℕ → List Step → List Pair
grid width height weight steps =
    flat_map (pairs_of_steps width height weight steps) (range_with_len 0 (width * height))

-- how far two numbers are apart
abbrev pub distance : ℕ → ℕ → ℕ
distance a b = (a - b) + (b - a)

-- two sites share an edge: one column or one row apart, and not both
abbrev pub ShareEdge : ℕ → ℕ → ℕ → Type 0
ShareEdge width p q =
    distance (column width p) (column width q) + distance (row width p) (row width q) ≡ 1

-- two sites touch, at an edge or a corner
abbrev pub Touch : ℕ → ℕ → ℕ → Type 0
Touch width p q =
    (distance (column width p) (column width q) ≤ 1) × (distance (row width p) (row width q) ≤ 1)

-- the list has exactly the related pairs of sites, the lower one first, each once, in rising order
-- of the first
pub record ListsOnce (sites weight : ℕ) (AreRelated : ℕ → ℕ → Type 0)
    (list : List Pair) : Type 0 where
  pub members : (pair : Pair) → Contains list pair
      ↔ ((pair.first < pair.second) × (pair.second < sites) × AreRelated pair.first pair.second
      × (pair.weight ≡ weight))
  pub rising : AllPairs (λ (a b : Pair). a.first ≤ b.first) list
  pub once : AllPairs (λ (a b : Pair). a ≢ b) list
