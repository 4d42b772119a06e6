-- The starts of rows grow.
use Rattle.std.proofs.Common.{◌≡◌, ℕ, zero, suc, ◌+◌, ◌-◌, ◌<◌, ◌≤◌, Bool, slice_index, subst, arith}
use Rattle.flow_network.specs.Cut.{Network, nodes}
use Rattle.block_split.specs.Split.{Rows, AreNodeRows}

zero_more : (u : ℕ) → u ≡ u + 0
zero_more u = omega arith

suc_more : (u k : ℕ) → u + k + 1 ≡ u + suc k
suc_more u k = omega arith

sum_back : (u v : ℕ) → u ≤ v → u + (v - u) ≡ v
sum_back u v le = omega (arith, le)

-- starts grow
pub grows : (starts : ℕ → ℕ) (n u k : ℕ) → ((v : ℕ) → v < n → starts v ≤ starts (v + 1)) → u + k ≤ n → starts u ≤ starts (u + k)
grows starts n u zero each l = subst (λ (j : ℕ). starts u ≤ starts j) (zero_more u) (omega arith)
grows starts n u (suc k) each l =
    let here = grows starts n u k each (omega (arith, l)) in
    let more = each (u + k) (omega (arith, l)) in
    subst (λ (j : ℕ). starts u ≤ starts j) (suc_more u k) (omega (arith, here, more))

pub starts_grow : (net : Network) (blocks : ℕ) (outer : Bool) (rows : Rows) → AreNodeRows net blocks outer rows
    → (u v : ℕ) → u ≤ v → v ≤ nodes net → slice_index rows.starts u ≤ slice_index rows.starts v
starts_grow net blocks outer rows is u v le l =
    subst (λ (j : ℕ). slice_index rows.starts u ≤ slice_index rows.starts j) (sum_back u v le)
    (grows (slice_index rows.starts) (nodes net) u (v - u) is.ordered (omega (arith, le, l)))
