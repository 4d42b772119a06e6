-- What the listed sites of a strip weigh, read of a list for all sites.
use Rattle.std.proofs.Common.{◌≡◌, ◌≢◌, ◌<◌, ◌≤◌, ◌∷◌, [], ℕ, ℤ, List, All, length, map, get_or, refl, sym, ap, ◌∙◌, arith}
use Rattle.std.proofs.lemmas.List.{length-map}
use Rattle.std.proofs.lemmas.List.Elements.{All-head, All-tail, All-from_get_or}
use Rattle.label_energies.specs.declared.change.Move.{Move}
use Rattle.label_energies.specs.Energies.{Instance}
use Rattle.compile_cut.specs.Weights.{weights_size}
use Rattle.move_energy.specs.declared.choice.Choice.{Choice}
use Rattle.move_energy.specs.declared.choice.Choice.TheVariants.{Open, Zero, One}
use Rattle.move_energy.specs.Choices.{choice_at, AreOpenSites}
use Rattle.move_energy.specs.Weights.{weight_at, open_weights, AreWeights}
use Rattle.move_energy.proofs.Opened.{opened_has, open_true, true_open}
use Rattle.site_bounds.specs.Parts.{site_weight}
use Rattle.strip_nets.specs.Views.{KeepsChosen, strip_view}
use Rattle.strip_nets.proofs.Borders.{weights_few}
use Rattle.strip_nets.proofs.Views.{view_length, open_inside}

-- an open site of a strip was open at the start
start_open : (s k : Choice) → (s ≢ Open → k ≡ s) → k ≡ Open → s ≡ Open
start_open Open k kept opened = refl
start_open Zero k kept opened = absurd (let e = sym (kept (λ h. cc (h))) ∙ opened in cc (e))
start_open One k kept opened = absurd (let e = sym (kept (λ h. cc (h))) ∙ opened in cc (e))

view_open : (start known : List Choice) (from to u : ℕ) → KeepsChosen start known → u < length known → choice_at (strip_view known from to) u ≡ Open → choice_at start u ≡ Open
view_open start known from to u on within opened =
    let now = true_open (choice_at known u) (open_inside known from to u (open_true (choice_at (strip_view known from to) u) opened)).1 in
    start_open (choice_at start u) (choice_at known u) (λ shuts. on u within shuts) now

-- so all weights of a strip are among those of the start
pub listed_few : (start known : List Choice) (from to n : ℕ) (opened : List ℕ) (weights list : List ℤ) → list ≡ map (weight_at weights) opened → length known ≡ n → KeepsChosen start known
    → AreOpenSites (strip_view known from to) opened → weights_size (open_weights start weights n) ≤ 300000000000000 → weights_size list ≤ 300000000000000
listed_few start known from to n opened weights list is count on listed small =
    let few = weights_few start (strip_view known from to) opened weights n (view_length known from to ∙ count) listed (λ u l. view_open start known from to u on (omega (arith, l, count))) in
    omega (arith, ap (λ (ws : List ℤ). weights_size ws) is, few, small)

pub listed_count : (opened : List ℕ) (weights list : List ℤ) → list ≡ map (weight_at weights) opened → length list ≡ length opened
listed_count opened weights list is = ap (λ (ws : List ℤ). length ws) is ∙ length-map opened (weight_at weights)

pub listed_open : (start known : List Choice) (from to : ℕ) (opened : List ℕ) → AreOpenSites (strip_view known from to) opened → KeepsChosen start known
    → All (λ u. (u < length known) × (choice_at start u ≡ Open)) opened
listed_open start known from to opened listed on =
    All-from_get_or (λ u. (u < length known) × (choice_at start u ≡ Open)) opened 0 (λ i l.
    let has = opened_has (strip_view known from to) opened i listed l in
    let u : ℕ = get_or opened i 0 in
    let within : u < length known = omega (arith, has.0, view_length known from to) in
    (within, view_open start known from to u on within has.1))

map_open : (m : Instance) (move : Move) (f : ℕ → ℕ) (start : List Choice) (n : ℕ) (weights : List ℤ) (opened : List ℕ) → n ≤ m.sites → AreWeights m move f (choice_at start) weights
    → All (λ u. (u < n) × (choice_at start u ≡ Open)) opened → map (weight_at weights) opened ≡ map (site_weight m move f (choice_at start)) opened
map_open m move f start n weights [] few are all = refl
map_open m move f start n weights (x ∷ xs) few are all =
    let here = All-head (λ u. (u < n) × (choice_at start u ≡ Open)) x xs all in
    let first : weight_at weights x ≡ site_weight m move f (choice_at start) x = are x (omega (arith, here.0, few)) here.1 in
    let rest = map_open m move f start n weights xs few are (All-tail (λ u. (u < n) × (choice_at start u ≡ Open)) x xs all) in
    (λ i. first i ∷ rest i)

pub starts_listed : (m : Instance) (move : Move) (f : ℕ → ℕ) (start known : List Choice) (from to : ℕ) (opened : List ℕ) (weights list : List ℤ) → length known ≡ m.sites
    → list ≡ map (weight_at weights) opened → AreOpenSites (strip_view known from to) opened → KeepsChosen start known → AreWeights m move f (choice_at start) weights
    → list ≡ map (site_weight m move f (choice_at start)) opened
starts_listed m move f start known from to opened weights list size is listed on are =
    is ∙ map_open m move f start (length known) weights opened (omega (arith, size)) are (listed_open start known from to opened listed on)
