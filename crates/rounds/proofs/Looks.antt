-- What is read of ports, before and after work.
use Rattle.std.proofs.Common.{◌≡◌, ℕ, ◌<◌, ◌≤◌, Bool, true, false, cond, eqb, List, [], ◌∷◌, length, slice_index, Option, Some, None, is_some, refl, sym, ◌∙◌, ap, subst, arith}
use Rattle.std.proofs.lemmas.Grind.{common_steps}
use Rattle.std.proofs.lemmas.Slice.Zip.{AllZip-long}
use Rattle.block_workers.specs.declared.port.Port.{Port}
use Rattle.block_workers.specs.Ports.{other, IsSamePort, LeadsTo}
use Rattle.block_workers.specs.Seeing.{others, read_at, AreRising, AreSame}

-- what is read of a port, where there is one
abbrev pub through : {X : Type 0} → X → (Port → X) → Option Port → X
through none read None = none
through none read (Some p) = read p

through_cond : {X : Type 0} (none : X) (read : Port → X) (t : Bool) (p : Port) (o : Option Port) → through none read (cond t (Some p) o) ≡ cond t (read p) (through none read o)
through_cond none read true p o = refl
through_cond none read false p o = refl

-- what is read of the first port to a block is read of the port
pub read_through : {X : Type 0} (none : X) (read : Port → X) (ports : List Port) (c : ℕ)
    → read_at none read ports c ≡ through none read (read_at None (λ (p : Port). Some p) ports c)
read_through none read [] c = refl
read_through none read (p ∷ ports) c =
    ap (λ x. cond (eqb c (other p)) (read p) x) (read_through none read ports c)
    ∙ sym (through_cond none read (eqb c (other p)) p (read_at None (λ (q : Port). Some q) ports c))

pub through_none : {X : Type 0} (none : X) (read : Port → X) (o : Option Port) → ((p : Port) → o ≡ Some p → read p ≡ none) → through none read o ≡ none
through_none none read None each = refl
through_none none read (Some p) each = each p refl

pub through_most : (most : ℕ) (read : Port → ℕ) (o : Option Port) → ((p : Port) → o ≡ Some p → read p ≤ most) → through 0 read o ≤ most
through_most most read None each = omega arith
through_most most read (Some p) each = each p refl

no_truth : false ≡ true → ⊥
no_truth e = cc

pub through_some : {X : Type 0} (none x : X) (read : Port → X) (o : Option Port) → is_some o ≡ true → ((p : Port) → o ≡ Some p → read p ≡ x) → through none read o ≡ x
through_some none x read None some each = absurd (no_truth some)
through_some none x read (Some p) some each = each p refl

-- ---- the same ports

-- the same port, or none
abbrev pub AreAlike : Option Port → Option Port → Type 0
AreAlike None None = Unit {0}
AreAlike None (Some q) = ⊥
AreAlike (Some p) None = ⊥
AreAlike (Some p) (Some q) = IsSamePort p q

alike_head : (t : Bool) (p q : Port) (o m : Option Port) → IsSamePort p q → AreAlike o m → AreAlike (cond t (Some p) o) (cond t (Some q) m)
alike_head true p q o m same rest = same
alike_head false p q o m same rest = rest

pub read_alike : (a b : List Port) (c : ℕ) → AreSame a b → AreAlike (read_at None (λ (p : Port). Some p) a c) (read_at None (λ (p : Port). Some p) b c)
read_alike [] [] c same = tt
read_alike [] (q ∷ b) c same = absurd same
read_alike (p ∷ a) [] c same = absurd same
read_alike (p ∷ a) (q ∷ b) c same =
    let o = read_at None (λ (r : Port). Some r) a c in
    let m = read_at None (λ (r : Port). Some r) b c in
    subst (λ (i : ℕ). AreAlike (cond (eqb c (other p)) (Some p) o) (cond (eqb c i) (Some q) m)) (sym same.0.other)
    (alike_head (eqb c (other p)) p q o m same.0 (read_alike a b c same.1))

some_is : (p r : Port) → Some p ≡ Some r → p ≡ r
some_is p r e = cc

nothing : (p : Port) → None ≡ Some p → ⊥
nothing p e = cc

-- the port as it was before
pub alike_back : (o m : Option Port) (q : Port) → AreAlike o m → m ≡ Some q → (p : Port) × (o ≡ Some p) × IsSamePort p q
alike_back None None q same is = absurd (nothing q is)
alike_back None (Some r) q same is = absurd same
alike_back (Some p) None q same is = absurd same
alike_back (Some p) (Some r) q same is = (p, refl, subst (λ (x : Port). IsSamePort p x) (some_is r q is) same)

-- the port as it is afterwards
pub alike_forth : (o m : Option Port) (p : Port) → AreAlike o m → o ≡ Some p → (q : Port) × (m ≡ Some q) × IsSamePort p q
alike_forth None None p same is = absurd (nothing p is)
alike_forth None (Some r) p same is = absurd same
alike_forth (Some r) None p same is = absurd same
alike_forth (Some r) (Some q) p same is = (q, refl, subst (λ (x : Port). IsSamePort x q) (some_is r p is) same)

pub alike_none : (o m : Option Port) → AreAlike o m → o ≡ None → m ≡ None
alike_none None None same is = refl
alike_none None (Some q) same is = absurd same
alike_none (Some p) None same is = refl
alike_none (Some p) (Some q) same is = absurd (nothing p (sym is))

pub leads_on : (p q p' q' : Port) → IsSamePort p p' → IsSamePort q q' → LeadsTo p q → LeadsTo p' q'
leads_on p q p' q' same_p same_q leads = grind (arith, common_steps)

same_others : (a b : List Port) → AreSame a b → others b ≡ others a
same_others [] [] same = refl
same_others [] (q ∷ b) same = absurd same
same_others (p ∷ a) [] same = absurd same
same_others (p ∷ a) (q ∷ b) same = rw (same.0.other, same_others a b same.1) refl

pub rising_same : (n : ℕ) (a b : List Port) → AreSame a b → AreRising n a → AreRising n b
rising_same n a b same rising =
    let long : length b ≡ length a = AllZip-long IsSamePort a b same in
    let is = sym (same_others a b same) in
    record {
      below = λ k low. subst (λ (ns : List ℕ). slice_index ns k < n) is (rising.below k (omega (arith, low, long)));
      rising = λ j k less low. subst (λ (ns : List ℕ). slice_index ns j < slice_index ns k) is (rising.rising j k less (omega (arith, low, long)));
    }
