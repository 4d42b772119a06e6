use Rattle.std.specs.Prelude.{ℕ, ℤ, nat_le, List, length, Option, Some, None, if◌then◌else◌}

-- the list, if it has at most n elements
abbrev pub list_within : ℕ → List ℤ → Option (List ℤ)
list_within n zs = if nat_le (length zs) n then Some zs else None
