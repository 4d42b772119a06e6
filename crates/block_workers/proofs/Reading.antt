-- What is read of a port, after a change of one port.
use Rattle.std.proofs.Common.{◌≡◌, ℕ, zero, suc, ◌+◌, ◌<◌, ◌≤◌, Bool, true, false, cond, eqb, List, [], ◌∷◌, length, set, get_or, slice_index, slice_get, Some, refl, sym, ◌∙◌, ap, subst, inl, inr, arith, get_or-set_same, get_or-set_other}
use Rattle.std.proofs.lemmas.Bool.{cases_eq, eq-eqb, ne_eqb}
use Rattle.std.proofs.lemmas.List.{set-get_or, length-set}
use Rattle.std.proofs.lemmas.Option.{slice_get-get_or, get_or_from_slice_get}
use Rattle.block_workers.specs.declared.port.Port.{Port}
use Rattle.block_workers.specs.Ports.{other}
use Rattle.block_workers.specs.Seeing.{others, read_at, IsPlaceOfPort, LeadNotTo, AreRising}

-- ---- places

-- ports that lead to rising numbers lead to numbers no lower than their places
pub place_low : (blocks : ℕ) (ports : List Port) → AreRising blocks ports → (k : ℕ) → k < length ports → k ≤ slice_index (others ports) k
place_low blocks ports rising zero below = omega arith
place_low blocks ports rising (suc k) below =
    omega (arith, place_low blocks ports rising k (omega (arith, below)), rising.rising k (suc k) (omega arith) below)

pub other_at : (ports : List Port) (k : ℕ) (d : Port) → k < length ports → slice_index (others ports) k ≡ other (get_or ports k d)
other_at [] k d below = absurd (omega arith)
other_at (p ∷ ports) zero d below = refl
other_at (p ∷ ports) (suc k) d below = other_at ports k d (omega (arith, below))

-- one more place is written
pub place_more : (blocks : ℕ) (ports : List Port) (places : List ℕ) (k c : ℕ) → AreRising blocks ports → length places ≡ blocks → k < length ports → c ≡ slice_index (others ports) k
    → ((j : ℕ) → j < k → slice_get places (slice_index (others ports) j) ≡ Some j)
    → (j : ℕ) → j < k + 1 → slice_get (set places c k) (slice_index (others ports) j) ≡ Some j
place_more blocks ports places k c rising len below is before j low =
    let low' : slice_index (others ports) j < blocks = rising.below j (omega arith) in
    let n = slice_index (others ports) j in
    let at : slice_get (set places c k) n ≡ Some (get_or (set places c k) n 0) = slice_get-get_or (set places c k) n 0 (omega (arith, length-set places c k)) in
    elim (cases_eq j k) [
      | inl same ↦
          let here : n ≡ c = ap (slice_index (others ports)) same ∙ sym is in
          let is_k : get_or (set places c k) n 0 ≡ j = rw here (get_or-set_same places c k 0 (omega arith) ∙ sym same) in
          at ∙ ap Some is_k
      | inr off ↦
          let rise : n < slice_index (others ports) k = rising.rising j k (omega arith) below in
          let is_j : get_or (set places c k) n 0 ≡ j = get_or-set_other places c n k 0 (omega (arith, rise, is)) ∙ get_or_from_slice_get places n j 0 (before j (omega arith)) in
          at ∙ ap Some is_j
    ]

-- ---- what is read

cond_both : {X : Type 0} (R : X → X → Type 0) (b : Bool) (x y u v : X) → R x y → R u v → R (cond b x u) (cond b y v)
cond_both R true x y u v first second = first
cond_both R false x y u v first second = second

cond_same : {X : Type 0} (b : Bool) (x y z : X) → cond b x z ≡ cond b x (cond b y z)
cond_same true x y z = refl
cond_same false x y z = refl

cond_apart : {X : Type 0} (n a c : ℕ) (x y z : X) → (a ≡ c → ⊥) → cond (eqb n a) x (cond (eqb n c) y z) ≡ cond (eqb n c) y (cond (eqb n a) x z)
cond_apart n a c x y z off = elim (cases_eq n c) [
  | inl same ↦ rw (eq-eqb n c same, ne_eqb n a (λ e. off (sym e ∙ same))) refl
  | inr apart ↦ rw (ne_eqb n c apart) refl
]

-- a relation that holds of what is read before and after holds of what is read at each number
pub read_more : {X : Type 0} (none : X) (read : Port → X) (R : X → X → Type 0) → ((x : X) → R x x) → (ports : List Port) (k : ℕ) (q d : Port)
    → k < length ports → other q ≡ other (get_or ports k d) → R (read (get_or ports k d)) (read q) → (c : ℕ) → R (read_at none read ports c) (read_at none read (set ports k q) c)
read_more none read R same [] k q d below leads step c = absurd (omega arith)
read_more none read R same (p ∷ ports) zero q d below leads step c =
    subst (λ (n : ℕ). R (cond (eqb c (other p)) (read p) (read_at none read ports c)) (cond (eqb c n) (read q) (read_at none read ports c))) (sym leads)
    (cond_both R (eqb c (other p)) (read p) (read q) _ _ step (same _))
read_more none read R same (p ∷ ports) (suc k) q d below leads step c =
    cond_both R (eqb c (other p)) (read p) (read p) _ _ (same _) (read_more none read R same ports k q d (omega (arith, below)) leads step c)

-- what is read at a number after the port that leads there was changed
pub read_set : {X : Type 0} (none : X) (read : Port → X) (ports : List Port) (c k : ℕ) (q : Port) → IsPlaceOfPort ports c k → other q ≡ c
    → (n : ℕ) → read_at none read (set ports k q) n ≡ cond (eqb n c) (read q) (read_at none read ports n)
read_set none read [] c k q at leads n = absurd (omega (arith, at.place))
read_set none read (p ∷ ports) c zero q at leads n =
    let leads' : other p ≡ c = at.leads in
    let rest = read_at none read ports n in
    ap (λ (m : ℕ). cond (eqb n m) (read q) rest) leads
    ∙ (cond_same (eqb n c) (read q) (read p) rest ∙ ap (λ (m : ℕ). cond (eqb n c) (read q) (cond (eqb n m) (read p) rest)) (sym leads'))
read_set none read (p ∷ ports) c (suc k) q at leads n =
    let rest : IsPlaceOfPort ports c k = record {
      place = omega (arith, at.place);
      leads = at.leads;
      alone = λ j below is. omega (arith, at.alone (suc j) (omega (arith, below)) is);
    } in
    let off : other p ≡ c → ⊥ = λ is. let no = at.alone zero (omega arith) is in absurd (omega (arith, no)) in
    rw (read_set none read ports c k q rest leads n) (cond_apart n (other p) c (read p) (read q) (read_at none read ports n) off)

-- what is read of the port that leads there
pub read_here : {X : Type 0} (none : X) (read : Port → X) (ports : List Port) (c k : ℕ) (d : Port) → IsPlaceOfPort ports c k → read_at none read ports c ≡ read (get_or ports k d)
read_here none read ports c k d at =
    let leads : other (get_or ports k d) ≡ c = sym (other_at ports k d at.place) ∙ at.leads in
    let whole = read_set none read ports c k (get_or ports k d) at leads c in
    ap (λ (x : List Port). read_at none read x c) (sym (set-get_or ports k d))
    ∙ (whole ∙ ap (λ (b : Bool). cond b (read (get_or ports k d)) (read_at none read ports c)) (eq-eqb c c refl))

-- what is read where no port leads
pub read_none : {X : Type 0} (none : X) (read : Port → X) (ports : List Port) (c : ℕ) → LeadNotTo ports c → read_at none read ports c ≡ none
read_none none read [] c off = refl
read_none none read (p ∷ ports) c off =
    let apart : other p ≡ c → ⊥ = off zero (omega arith) in
    rw (ne_eqb c (other p) (λ e. apart (sym e))) (read_none none read ports c (λ j below. off (suc j) (omega (arith, below))))
