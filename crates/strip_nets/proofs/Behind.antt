-- What a neighbour before a site comes to, from where on nothing was told since the start.
use Rattle.std.proofs.Common.{◌≡◌, ℕ, ◌+◌, ◌<◌, ◌≤◌, Bool, true, false, cond, refl, sym, ap, ◌∙◌, arith}
use Rattle.std.specs.Prelude.{◌&&◌, not, nat_lt, slice_index_or}
use Rattle.std.proofs.lemmas.Bool.Decides.{nat_tests}
use Rattle.move_energy.specs.declared.choice.Choice.{Choice}
use Rattle.move_energy.specs.declared.choice.Choice.TheVariants.{Open, Zero, One}
use Rattle.move_energy.specs.BySite.{neighbours_start, neighbour_at, is_first}
use Rattle.move_energy.specs.Choices.{choice_at, is_open, open_at}
use Rattle.persistency.specs.Borders.{is_beyond, is_inside, is_one, not_ones, range_of}
use Rattle.strip_nets.specs.declared.material.Material.{Material}
use Rattle.strip_nets.specs.declared.material.StripSites.{StripSites}
use Rattle.strip_nets.specs.Building.{CanBuild, IsUntoldFrom, view_by}
use Rattle.strip_nets.specs.Meeting.{is_met}
use Rattle.strip_nets.proofs.Meeting.{met_where}
use Rattle.strip_nets.proofs.Views.{inside_is}

not_one_now : (c : Choice) → (is_open c && not (not (is_one c))) ≡ false
not_one_now Open = refl
not_one_now Zero = refl
not_one_now One = refl

and_false : (b : Bool) → (b && false) ≡ false
and_false true = refl
and_false false = refl

both : (x y : Bool) → (x && y) ≡ true → y ≡ true
both true y h = h
both false y h = absurd (cc (h))

-- an open site of the strip is in its range
below_end : (material : Material) (sites : StripSites) (site : ℕ) → open_at (view_by sites material) site ≡ true → site < sites.to
below_end material sites site opened =
    let inside : is_inside (choice_at material.known.now) (range_of sites.from sites.to) site ≡ true = inside_is material.known.now sites.from sites.to site ∙ opened in
    let range : range_of sites.from sites.to site ≡ true = both (is_open (choice_at material.known.now site)) (range_of sites.from sites.to site) inside in
    let low : nat_lt site sites.to ≡ true = both (not (nat_lt site sites.from)) (nat_lt site sites.to) range in
    grind (arith, nat_tests, low)

in_range : (from to p : ℕ) → from ≤ p → p < to → range_of from to p ≡ true
in_range from to p l k = grind (arith, nat_tests, l, k)

-- it was not told
pub no_one : (material : Material) (sites : StripSites) (untold site head : ℕ) → IsUntoldFrom material sites untold → open_at (view_by sites material) site ≡ true → untold ≤ head → head < site
    → is_beyond (choice_at material.start.now) (not_ones (choice_at material.known.now)) head ≡ false
no_one material sites untold site head from opened l k =
    let low = below_end material sites site opened in
    let same = from.same head l (omega (arith, k, low)) in
    ap (λ (c : Choice). is_open (choice_at material.start.now head) && not (not (is_one c))) same ∙ not_one_now (choice_at material.start.now head)

-- it is not outside the strip
pub no_beyond : (material : Material) (sites : StripSites) (untold site head : ℕ) → IsUntoldFrom material sites untold → open_at (view_by sites material) site ≡ true → untold ≤ head → head < site
    → is_beyond (choice_at material.known.now) (range_of sites.from sites.to) head ≡ false
no_beyond material sites untold site head from opened l k =
    let low = below_end material sites site opened in
    let range = in_range sites.from sites.to head (let i = from.inside (omega (arith, l, k, low)) in omega (arith, i, l)) (omega (arith, k, low)) in
    ap (λ (b : Bool). is_open (choice_at material.known.now head) && not b) range ∙ and_false (is_open (choice_at material.known.now head))

-- and the pair is not met at the site
pub no_met : (material : Material) (sites : StripSites) (untold site place head : ℕ) → CanBuild material → IsUntoldFrom material sites untold → site < material.form.pairs.now.sites
    → open_at (view_by sites material) site ≡ true → neighbours_start material.form.ends.now site ≤ place → place < neighbours_start material.form.ends.now (site + 1)
    → head ≡ neighbour_at material.form.ends.now place → untold ≤ head → head < site → is_met material sites site place ≡ false
no_met material sites untold site place head can from inside opened start end is l k =
    let ends = material.form.ends.now in
    let low = below_end material sites site opened in
    let rising = from.rising (omega (arith, l, k, low)) in
    let after : nat_lt site (neighbour_at ends place) ≡ false = (let there = is in grind (arith, nat_tests, there, k)) in
    let first : is_first ends site place ≡ false =
    ap (λ (b : Bool). cond b (nat_lt site (neighbour_at ends place)) (slice_index_or ends.firsts.items place false)) (sym material.form.flags.rising_is ∙ rising) ∙ after in
    let here = is_inside (choice_at material.known.now) (range_of sites.from sites.to) head in
    sym (met_where material sites site place head here can inside opened start end is refl) ∙ ap (λ (b : Bool). here && b) first ∙ and_false here
