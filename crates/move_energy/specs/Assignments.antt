-- By how much a function of yes-no variables rises where one of them turns.
use Rattle.std.specs.Prelude.{◌≡◌, ℕ, ◌<◌, ◌==◌, Bool, true, false, cond, ℤ, ◌-ℤ◌, ◌≤ℤ◌}

-- the assignment with one variable set
abbrev pub set_bit : (ℕ → Bool) → ℕ → Bool → ℕ → Bool
set_bit x i b k = cond (k == i) b (x k)

-- by how much the value rises where one variable turns from 0 to 1
abbrev pub rise : ((ℕ → Bool) → ℤ) → ℕ → (ℕ → Bool) → ℤ
rise E i x = E (set_bit x i true) -ℤ E (set_bit x i false)

-- the ones of the one assignment are ones of the other
abbrev pub OnesWithin : (ℕ → Bool) → (ℕ → Bool) → Type 0
OnesWithin x y = (k : ℕ) → x k ≡ true → y k ≡ true

-- the more of the others are 1, the less a variable's turning to 1 raises the value
abbrev pub IsSubmodular : ((ℕ → Bool) → ℤ) → Type 0
IsSubmodular E = (x y : ℕ → Bool) (i : ℕ) → OnesWithin x y → rise E i y ≤ℤ rise E i x

-- the value depends on the first n variables alone
abbrev pub IsOver : ℕ → ((ℕ → Bool) → ℤ) → Type 0
IsOver n E = (x y : ℕ → Bool) → ((k : ℕ) → k < n → x k ≡ y k) → E x ≡ E y
