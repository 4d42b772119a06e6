-- A list of ports with one port more.
use Rattle.std.proofs.Common.{◌≡◌, ℕ, zero, suc, ◌+◌, ◌<◌, cond, eqb, List, [], ◌∷◌, ◌++◌, length, slice_index, refl, sym, ◌∙◌, ap, inl, inr, arith}
use Rattle.std.proofs.lemmas.Bool.{cases_eq, eq-eqb, ne_eqb}
use Rattle.std.proofs.lemmas.List.{length-append}
use Rattle.block_workers.specs.declared.port.Port.{Port}
use Rattle.block_workers.specs.Ports.{other}
use Rattle.block_workers.specs.Seeing.{others, read_at, AreRising}

others_more : (ports : List Port) (p : Port) (k : ℕ) → k < length ports → slice_index (others (ports ++ p ∷ [])) k ≡ slice_index (others ports) k
others_more [] p k below = absurd (omega (arith, below))
others_more (x ∷ xs) p zero below = refl
others_more (x ∷ xs) p (suc k) below = others_more xs p k (omega (arith, below))

others_last : (ports : List Port) (p : Port) → slice_index (others (ports ++ p ∷ [])) (length ports) ≡ other p
others_last [] p = refl
others_last (x ∷ xs) p = others_last xs p

-- what holds of the numbers of all ports
pub each_more : (P : ℕ → Type 0) (ports : List Port) (p : Port) → ((k : ℕ) → k < length ports → P (slice_index (others ports) k)) → P (other p)
    → (k : ℕ) → k < length (ports ++ p ∷ []) → P (slice_index (others (ports ++ p ∷ [])) k)
each_more P [] p before last zero below = last
each_more P [] p before last (suc k) below = absurd (omega (arith, below))
each_more P (x ∷ xs) p before last zero below = before zero (omega arith)
each_more P (x ∷ xs) p before last (suc k) below = each_more P xs p (λ j low. before (suc j) (omega (arith, low))) last k (omega (arith, below))

rise_more : (n : ℕ) (ports : List Port) (p : Port) → AreRising n ports → ((k : ℕ) → k < length ports → slice_index (others ports) k < other p)
    → (j k : ℕ) → j < k → k < length (ports ++ p ∷ []) → slice_index (others (ports ++ p ∷ [])) j < slice_index (others (ports ++ p ∷ [])) k
rise_more n ports p rising low j k less below =
    let all = ports ++ p ∷ [] in
    let long : k < length ports + 1 = omega (arith, below, length-append ports (p ∷ [])) in
    let j_low : j < length ports = omega (arith, long, less) in
    let at_j : slice_index (others all) j ≡ slice_index (others ports) j = others_more ports p j j_low in
    elim (cases_eq k (length ports)) [
      | inl same ↦
          let at_k : slice_index (others all) k ≡ other p = ap (λ i. slice_index (others all) i) same ∙ others_last ports p in
          omega (arith, at_j, at_k, low j j_low)
      | inr off ↦
          let k_low : k < length ports = omega (arith, long, off) in
          let at_k : slice_index (others all) k ≡ slice_index (others ports) k = others_more ports p k k_low in
          omega (arith, at_j, at_k, rising.rising j k less k_low)
    ]

pub rising_more : (n : ℕ) (ports : List Port) (p : Port) → AreRising n ports → ((k : ℕ) → k < length ports → slice_index (others ports) k < other p) → other p < n
    → AreRising n (ports ++ p ∷ [])
rising_more n ports p rising low small = record {
  below = each_more (λ m. m < n) ports p rising.below small;
  rising = rise_more n ports p rising low;
}

cond_apart : {X : Type 0} (n a c : ℕ) (x y z : X) → (a ≡ c → ⊥) → cond (eqb n a) x (cond (eqb n c) y z) ≡ cond (eqb n c) y (cond (eqb n a) x z)
cond_apart n a c x y z off = elim (cases_eq n c) [
  | inl same ↦ rw (eq-eqb n c same, ne_eqb n a (λ e. off (sym e ∙ same))) refl
  | inr apart ↦ rw (ne_eqb n c apart) refl
]

-- what is read where no port led to the block of the new one
pub read_push : {X : Type 0} (none : X) (read : Port → X) (ports : List Port) (p : Port) (y : ℕ) → ((k : ℕ) → k < length ports → slice_index (others ports) k < other p)
    → read_at none read (ports ++ p ∷ []) y ≡ cond (eqb y (other p)) (read p) (read_at none read ports y)
read_push none read [] p y low = refl
read_push none read (x ∷ xs) p y low =
    let first : other x < other p = low zero (omega arith) in
    let apart : other x ≡ other p → ⊥ = λ e. absurd (omega (arith, first, e)) in
    rw (read_push none read xs p y (λ k below. low (suc k) (omega (arith, below))))
    (cond_apart y (other x) (other p) (read x) (read p) (read_at none read xs y) apart)
