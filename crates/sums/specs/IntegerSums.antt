use Rattle.std.specs.Prelude.{ℕ, zero, suc, ℤ, pos, ◌+ℤ◌, Bool, cond, List, [], ◌∷◌}

-- f 0 + f 1 + .. + f (n - 1), of signed numbers
abbrev pub int_sum_below : ℕ → (ℕ → ℤ) → ℤ
int_sum_below zero f = pos 0
int_sum_below (suc n) f = int_sum_below n f +ℤ f n

-- z where the test is true, and 0 where it is not
abbrev pub int_counted : Bool → ℤ → ℤ
int_counted b z = cond b z (pos 0)

-- the sum of what f gives at each element
abbrev pub int_sum_by : {A : Type 0} → (A → ℤ) → List A → ℤ
int_sum_by f [] = pos 0
int_sum_by f (x ∷ xs) = f x +ℤ int_sum_by f xs
