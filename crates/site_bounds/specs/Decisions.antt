-- Variables of a function of yes-no variables whose value in its least assignment with the fewest
-- ones is known before the rest is looked at (Iyer, Jegelka, Bilmes, ICML 2013, section 4; Boros
-- and Hammer 2002).
use Rattle.std.specs.Prelude.{◌≡◌, ℕ, ◌<◌, Bool, true, false, List, [], ◌∷◌, ℤ, pos}
use Rattle.std.specs.Prelude.{◌+ℤ◌, ◌≤ℤ◌, ◌<ℤ◌}
use Rattle.move_energy.specs.Assignments.{set_bit, rise}

-- a variable and its value
pub record Decision : Type 0 where
  pub variable : ℕ
  pub value : Bool

-- the assignment with all decided variables set; the latest decision stands first
abbrev pub with_decisions : List Decision → (ℕ → Bool) → ℕ → Bool
with_decisions [] x = x
with_decisions (d ∷ ds) x = set_bit (with_decisions ds x) d.variable d.value

-- whatever the other variables are: a variable may be 0 where its 1 never has a lower value, and is
-- to be 1 where its 1 always has a lower value
abbrev pub IsForced : ((ℕ → Bool) → ℤ) → List Decision → ℕ → Bool → Type 0
IsForced E ds i false = (x : ℕ → Bool)
    → E (set_bit (with_decisions ds x) i false) ≤ℤ E (set_bit (with_decisions ds x) i true)
IsForced E ds i true = (x : ℕ → Bool)
    → E (set_bit (with_decisions ds x) i true) <ℤ E (set_bit (with_decisions ds x) i false)

-- each decision is forced, given those before it
abbrev pub AreForced : ((ℕ → Bool) → ℤ) → List Decision → Type 0
AreForced E [] = Unit {0}
AreForced E (d ∷ ds) = AreForced E ds × IsForced E ds d.variable d.value

-- the test: a variable may be 0 where its turning to 1 does not lower the value even if every
-- undecided one is 1, and is to be 1 where it lowers the value even if every undecided one is 0
abbrev pub Passes : ((ℕ → Bool) → ℤ) → List Decision → ℕ → Bool → Type 0
Passes E ds i false = pos 0 ≤ℤ rise E i (with_decisions ds (λ k. true))
Passes E ds i true = rise E i (with_decisions ds (λ k. false)) <ℤ pos 0

-- each decision passed the test, given those before it
abbrev pub HavePassed : ((ℕ → Bool) → ℤ) → List Decision → Type 0
HavePassed E [] = Unit {0}
HavePassed E (d ∷ ds) = HavePassed E ds × Passes E ds d.variable d.value

-- an assignment of least value, whose ones are ones of every assignment of that value
pub record IsSmallestLeast (n : ℕ) (E : (ℕ → Bool) → ℤ) (x : ℕ → Bool) : Type 0 where
  pub least : (y : ℕ → Bool) → E x ≤ℤ E y
  pub smallest : (y : ℕ → Bool) → E y ≡ E x → (k : ℕ) → k < n → x k ≡ true → y k ≡ true

-- the decisions leave this variable as it is
abbrev pub IsFree : List Decision → ℕ → Type 0
IsFree ds i = (x : ℕ → Bool) → with_decisions ds x i ≡ x i

-- a function of the variables that are left, `number` being each one's number in it and `variable`
-- the way back: but for a fixed number, its value is that of the whole with the decisions put in
pub record IsRest (n : ℕ) (E : (ℕ → Bool) → ℤ) (ds : List Decision) (r : ℕ) (R : (ℕ → Bool) → ℤ)
    (number variable : ℕ → ℕ) : Type 0 where
  pub offset : ℤ
  pub value : (z : ℕ → Bool) → R z +ℤ offset ≡ E (with_decisions ds (λ i. z (number i)))
  pub covers : (i : ℕ) → i < n → IsFree ds i → (number i < r) × (variable (number i) ≡ i)
