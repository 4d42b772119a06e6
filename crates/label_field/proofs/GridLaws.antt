use Rattle.std.proofs.Common.{◌≡◌, ◌≢◌, ℕ, ◌+◌, ◌-◌, ◌*◌, ◌<◌, ◌≤◌, inl, inr, true, List, [], ◌∷◌, refl, sym, ◌∙◌, ap, subst, arith}
use Rattle.std.specs.List.{filter, Contains}
use Rattle.std.proofs.lemmas.Bool.{cases_lt, cases_order}
use Rattle.std.proofs.lemmas.List.Elements.{Contains-get_or}
use Rattle.std.proofs.lemmas.Nat.{mod_below}
use Rattle.label_field.specs.declared.pair.Pair.{Pair}
use Rattle.label_field.specs.declared.grid.Step.{Step}
use Rattle.label_field.specs.Grids.{column, row, steps4, steps8, stays, step_end, pairs_of_steps, grid, IsSmallStep, IsForward, ShareEdge, Touch, ListsOnce}
use Rattle.label_field.proofs.Members.{contains_none, contains_cases, from_map}
use Rattle.label_field.proofs.Apart.{Ahead, Apart, Apart-filter, Apart-map, Apart-front, AllPairs-from_apart}
use Rattle.label_field.proofs.GridSteps.{stays_parts, ends_inside, ends_later, site_at-column}
use Rattle.label_field.proofs.Neighbours.{from_grid, steps_to, column-landing, row-landing, row_rises, column_rises}

-- two steps that end at two places
abbrev pub Unlike : Step → Step → Type 0
Unlike s t = s.right + t.left ≡ t.right + s.left → s.down ≡ t.down → ⊥

-- two pairs, the first of which has no greater first site
abbrev pub InOrder : Pair → Pair → Type 0
InOrder a b = (a.first ≤ b.first) × (a ≢ b)

Ahead-weaker : {X : Type 0} (P Q : X → X → Type 0) → ((x y : X) → P x y → Q x y) → (x : X) (ys : List X) → Ahead P x ys → Ahead Q x ys
Ahead-weaker P Q implies x [] h = tt
Ahead-weaker P Q implies x (y ∷ ys) h = (implies x y h.0, Ahead-weaker P Q implies x ys h.1)

Apart-weaker : {X : Type 0} (P Q : X → X → Type 0) → ((x y : X) → P x y → Q x y) → (xs : List X) → Apart P xs → Apart Q xs
Apart-weaker P Q implies [] h = tt
Apart-weaker P Q implies (x ∷ xs) h = (Ahead-weaker P Q implies x xs h.0, Apart-weaker P Q implies xs h.1)

-- two steps that stay and end at one place are alike
unlike_ends : (width height x y : ℕ) (s t : Step) → Unlike s t → stays width height x y s ≡ true → stays width height x y t ≡ true
    → step_end width x y s ≡ step_end width x y t → ⊥
unlike_ends width height x y s t unlike s_stays t_stays same =
    let columns : x + s.right - s.left ≡ x + t.right - t.left =
    sym (column-landing width height x y s s_stays) ∙ ap (column width) same ∙ column-landing width height x y t t_stays in
    let rows : y + s.down ≡ y + t.down =
    sym (row-landing width height x y s s_stays) ∙ ap (row width) same ∙ row-landing width height x y t t_stays in
    let s_left : s.left ≤ x = (stays_parts width height x y s s_stays).0 in
    let t_left : t.left ≤ x = (stays_parts width height x y t t_stays).0 in
    unlike (omega (arith, columns, s_left, t_left)) (omega (arith, rows))

pairs_in_order : (width height weight : ℕ) (steps : List Step) (site : ℕ) → Apart Unlike steps → Apart InOrder (pairs_of_steps width height weight steps site)
pairs_in_order width height weight steps site apart =
    let x : ℕ = column width site in
    let y : ℕ = row width site in
    let make : Step → Pair = λ step. record { first = site; second = step_end width x y step; weight = weight } in
    Apart-map InOrder make (filter (stays width height x y) steps)
    (Apart-filter (λ s t. InOrder (make s) (make t)) (stays width height x y) steps
    (Apart-weaker Unlike (λ s t. stays width height x y s ≡ true → stays width height x y t ≡ true → InOrder (make s) (make t))
    (λ s t unlike s_stays t_stays. (omega arith, λ same. unlike_ends width height x y s t unlike s_stays t_stays (ap (λ (p : Pair). p.second) same)))
    steps apart))

pair_of : (width height weight : ℕ) (steps : List Step) (site : ℕ) (pair : Pair) → Contains (pairs_of_steps width height weight steps site) pair → pair.first ≡ site
pair_of width height weight steps site pair h =
    let make : Step → Pair = λ step. record { first = site; second = step_end width (column width site) (row width site) step; weight = weight } in
    let (step, among, is) = from_map make (filter (stays width height (column width site) (row width site)) steps) pair h in
    ap (λ (p : Pair). p.first) (sym is)

-- the pairs of a grid are in order
grid_in_order : (width height weight : ℕ) (steps : List Step) → Apart Unlike steps → Apart InOrder (grid width height weight steps)
grid_in_order width height weight steps apart =
    Apart-front InOrder (pairs_of_steps width height weight steps) 0 (width * height) (λ site. pairs_in_order width height weight steps site apart)
    (λ p q later a b a_in b_in.
    let a_first : a.first ≡ p = pair_of width height weight steps p a a_in in
    let b_first : b.first ≡ q = pair_of width height weight steps q b b_in in
    (omega (arith, a_first, b_first, later), λ same. omega (arith, a_first, b_first, later, ap (λ (r : Pair). r.first) same)))

-- what a pair of a grid says of its two sites
record Leads (width height weight : ℕ) (steps : List Step) (pair : Pair) : Type 0 where
  pub step : Step
  pub listed : Contains steps step
  pub left : step.left ≤ column width pair.first
  pub in_column : column width pair.second ≡ column width pair.first + step.right - step.left
  pub in_row : row width pair.second ≡ row width pair.first + step.down
  pub later : pair.first < pair.second
  pub inside : pair.second < width * height
  pub light : pair.weight ≡ weight

leads_of : (width height weight : ℕ) (steps : List Step) (pair : Pair) → 0 < width → ((step : Step) → Contains steps step → IsForward step)
    → Contains (grid width height weight steps) pair → Leads width height weight steps pair
leads_of width height weight steps pair wide forward h =
    let (step, listed, passes, within, ends, light) = from_grid width height weight steps pair h in
    let x : ℕ = column width pair.first in
    let y : ℕ = row width pair.first in
    let further = ends_later width height x y step (mod_below pair.first width wide) (forward step listed) passes in
    record {
      step = step;
      listed = listed;
      left = (stays_parts width height x y step passes).0;
      in_column = ap (column width) ends ∙ column-landing width height x y step passes;
      in_row = ap (row width) ends ∙ row-landing width height x y step passes;
      later = omega (arith, further, ends, site_at-column width pair.first);
      inside = omega (arith, ends_inside width height x y step passes, ends);
      light = light;
    }

-- an image with a site has a column
wide_of : (width height site : ℕ) → site < width * height → 0 < width
wide_of width height site inside =
    elim (cases_lt 0 width) [
      | inl wide ↦ wide
      | inr none ↦
          let no_column : width ≡ 0 = omega (arith, none) in
          let no_place : width * height ≡ 0 * height = ap (λ n. n * height) no_column in
          absurd (omega (arith, no_place, inside))
    ]

-- the list of a grid is of the pairs that the relation says
lists_once : (width height weight : ℕ) (steps : List Step) (AreRelated : ℕ → ℕ → Type 0) → Apart Unlike steps
    → ((step : Step) → Contains steps step → IsForward step)
    → ((pair : Pair) → Leads width height weight steps pair → AreRelated pair.first pair.second)
    → ((pair : Pair) → 0 < width → pair.first < pair.second → pair.second < width * height → AreRelated pair.first pair.second → pair.weight ≡ weight
    → Contains (grid width height weight steps) pair)
    → ListsOnce (width * height) weight AreRelated (grid width height weight steps)
lists_once width height weight steps AreRelated apart forward related listed =
    let order = grid_in_order width height weight steps apart in
    let each = AllPairs-from_apart InOrder (grid width height weight steps) order in
    record {
      members = λ pair. (
        (λ h.
            let (step, among, passes, within, ends, light) = from_grid width height weight steps pair h in
            let leads = leads_of width height weight steps pair (wide_of width height pair.first within) forward h in
            (leads.later, leads.inside, related pair leads, leads.light)),
        λ (later, inside, is, light). listed pair (wide_of width height pair.second inside) later inside is light,
      );
      rising = λ i j d below within. (each i j d below within).0;
      once = λ i j d below within. (each i j d below within).1;
    }

unlike4 : Apart Unlike steps4
unlike4 = ((λ e f. absurd (omega arith), tt), (tt, tt))

unlike8 : Apart Unlike steps8
unlike8 = (
  (λ e f. absurd (omega arith), (λ e f. absurd (omega arith), (λ e f. absurd (omega arith), tt))),
  ((λ e f. absurd (omega arith), (λ e f. absurd (omega arith), tt)), ((λ e f. absurd (omega arith), tt), (tt, tt))),
)

-- what is said of each element of a list, one by one
abbrev Every : {X : Type 0} → (X → Type 0) → List X → Type 0
Every P [] = Unit {0}
Every P (x ∷ xs) = P x × Every P xs

every_at : {X : Type 0} (P : X → Type 0) (xs : List X) → Every P xs → (x : X) → Contains xs x → P x
every_at P [] h x among = absurd (contains_none x among)
every_at P (y ∷ ys) h x among =
    elim (contains_cases y ys x among) [ inl is ↦ subst P is h.0 | inr later ↦ every_at P ys h.1 x later ]

each_of4 : (P : Step → Type 0) → P (record { right = 1; left = 0; down = 0 }) → P (record { right = 0; left = 0; down = 1 })
    → (step : Step) → Contains steps4 step → P step
each_of4 P first second = every_at P steps4 (first, (second, tt))

each_of8 : (P : Step → Type 0) → P (record { right = 1; left = 0; down = 0 }) → P (record { right = 0; left = 0; down = 1 })
    → P (record { right = 1; left = 0; down = 1 }) → P (record { right = 0; left = 1; down = 1 }) → (step : Step) → Contains steps8 step → P step
each_of8 P first second third fourth = every_at P steps8 (first, (second, (third, (fourth, tt))))

pub grid4_lists : (width height weight : ℕ) → ListsOnce (width * height) weight (ShareEdge width) (grid width height weight steps4)
grid4_lists width height weight =
    lists_once width height weight steps4 (ShareEdge width) unlike4
    (each_of4 IsForward (inl (omega arith)) (inr (omega arith)))
    (λ pair leads.
    let one = each_of4 (λ s. s.right + s.left + s.down ≡ 1) refl refl leads.step leads.listed in
    omega (arith, one, leads.left, leads.in_column, leads.in_row))
    (λ pair wide later inside edge light.
    let rows = row_rises width pair.first pair.second wide later in
    elim (cases_lt (row width pair.first) (row width pair.second)) [
      | inl below ↦
          steps_to width height weight steps4 pair (record { right = 0; left = 0; down = 1 })
          (Contains-get_or steps4 1 (record { right = 0; left = 0; down = 0 }) (omega arith)) wide later inside light (omega arith)
          (omega (arith, below, edge)) (omega (arith, below, edge))
      | inr above ↦
          let same : row width pair.first ≡ row width pair.second = omega (arith, rows, above) in
          let columns = column_rises width pair.first pair.second later same in
          steps_to width height weight steps4 pair (record { right = 1; left = 0; down = 0 })
          (Contains-get_or steps4 0 (record { right = 0; left = 0; down = 0 }) (omega arith)) wide later inside light (omega arith)
          (omega (arith, columns, edge)) (omega (arith, same))
    ])

pub grid8_lists : (width height weight : ℕ) → ListsOnce (width * height) weight (Touch width) (grid width height weight steps8)
grid8_lists width height weight =
    lists_once width height weight steps8 (Touch width) unlike8
    (each_of8 IsForward (inl (omega arith)) (inr (omega arith)) (inr (omega arith)) (inr (omega arith)))
    (λ pair leads.
    let small = each_of8 IsSmallStep (omega arith, omega arith, omega arith) (omega arith, omega arith, omega arith) (omega arith, omega arith, omega arith) (omega arith, omega arith, omega arith) leads.step leads.listed in
    (omega (arith, small.0, small.1, leads.left, leads.in_column), omega (arith, small.2, leads.in_row)))
    (λ pair wide later inside touch light.
    let rows = row_rises width pair.first pair.second wide later in
    elim (cases_lt (row width pair.first) (row width pair.second)) [
      | inl below ↦ elim (cases_order (column width pair.first) (column width pair.second)) [
        | inl same ↦
            steps_to width height weight steps8 pair (record { right = 0; left = 0; down = 1 })
            (Contains-get_or steps8 1 (record { right = 0; left = 0; down = 0 }) (omega arith)) wide later inside light (omega arith)
            (omega (arith, same)) (omega (arith, below, touch.1))
        | inr (inl right) ↦
            steps_to width height weight steps8 pair (record { right = 1; left = 0; down = 1 })
            (Contains-get_or steps8 2 (record { right = 0; left = 0; down = 0 }) (omega arith)) wide later inside light (omega arith)
            (omega (arith, right, touch.0)) (omega (arith, below, touch.1))
        | inr (inr left) ↦
            steps_to width height weight steps8 pair (record { right = 0; left = 1; down = 1 })
            (Contains-get_or steps8 3 (record { right = 0; left = 0; down = 0 }) (omega arith)) wide later inside light (omega (arith, left))
            (omega (arith, left, touch.0)) (omega (arith, below, touch.1))
      ]
      | inr above ↦
          let same : row width pair.first ≡ row width pair.second = omega (arith, rows, above) in
          let columns = column_rises width pair.first pair.second later same in
          steps_to width height weight steps8 pair (record { right = 1; left = 0; down = 0 })
          (Contains-get_or steps8 0 (record { right = 0; left = 0; down = 0 }) (omega arith)) wide later inside light (omega arith)
          (omega (arith, columns, touch.0)) (omega (arith, same))
    ])
