-- Numbers that tell by how much a function of yes-no variables rises where one of them turns.
use Rattle.std.specs.Prelude.{◌≡◌, ℕ, ◌+◌, ◌-◌, ◌<◌, Bool, cond, ℤ, pos, ◌+ℤ◌, nat_lt, ◌&&◌}
use Rattle.sums.specs.IntegerSums.{int_sum_below}
use Rattle.move_energy.specs.Assignments.{rise}

-- for each site where its places begin, and its own rise; at each place a neighbour, and by how
-- much the value rises where the site turns, as far as this neighbour goes: while it is at 0, and
-- at 1
pub record Form : Type 0 where
  pub sites : ℕ
  pub start : ℕ → ℕ
  pub head : ℕ → ℕ
  pub own : ℕ → ℤ
  pub low : ℕ → ℕ → ℤ
  pub high : ℕ → ℕ → ℤ

-- how many places a site has
abbrev pub places : Form → ℕ → ℕ
places form u = form.start (u + 1) - form.start u

-- by how much the value rises where a site turns, as far as one neighbour goes
abbrev pub place_rise : Form → (ℕ → Bool) → ℕ → ℕ → ℤ
place_rise form x u place = cond (x (form.head place)) (form.high u place) (form.low u place)

-- as far as its own cost and its first neighbours go
abbrev pub rise_below : Form → (ℕ → Bool) → ℕ → ℕ → ℤ
rise_below form x u k =
    form.own u +ℤ int_sum_below k (λ i. place_rise form x u (form.start u + i))

-- the numbers tell the rises of a function of the sites
abbrev pub TellsRises : Form → ((ℕ → Bool) → ℤ) → Type 0
TellsRises form E = (u : ℕ) (x : ℕ → Bool) → u < form.sites
    → rise E u x ≡ rise_below form x u (places form u)

-- the value of an assignment: of each site that is 1 by how much the value rises where it turns,
-- all later ones being 0
abbrev pub form_value : Form → (ℕ → Bool) → ℤ
form_value form x = int_sum_below form.sites (λ u.
    cond (x u) (rise_below form (λ p. nat_lt p u && x p) u (places form u)) (pos 0))
