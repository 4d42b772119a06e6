-- The last port of a block, and the port that it leads to, leave the lists.
use Rattle.std.proofs.Common.{◌≡◌, ℕ, zero, suc, ◌+◌, ◌<◌, cond, List, [], ◌∷◌, ◌++◌, length, set, get_or, slice_index, Option, Some, None, refl, sym, ◌∙◌, ap, subst, inl, inr, arith, get_or-set_same, get_or-set_other}
use Rattle.std.proofs.lemmas.Bool.{cases_eq, cases_lt, eq-eqb, ne_eqb}
use Rattle.std.proofs.lemmas.List.{length-set, length_push}
use Rattle.std.proofs.lemmas.List.Sums.{sum_by-set}
use Rattle.block_workers.specs.declared.port.Port.{Port}
use Rattle.block_workers.specs.Ports.{other}
use Rattle.block_workers.specs.Seeing.{others, read_at, AreRising}
use Rattle.block_workers.proofs.Reading.{read_none}
use Rattle.block_rings.specs.Joined.{port_to, IsPaired}
use Rattle.block_rings.proofs.Pushing.{read_push}
use Rattle.block_rings.specs.declared.pair.PortPair.{PortPair}
use Rattle.block_rings.specs.Mated.{AreMated, ports_in}
use Rattle.block_rings.specs.Pairing.{IsReadyToPair, IsTakenOut}

nothing : {X : Type 0} (t : X) → Some t ≡ None → ⊥
nothing t e = cc

some_is : {X : Type 0} (s t : X) → Some s ≡ Some t → s ≡ t
some_is s t e = cc

-- ---- one list

others_more : (ports : List Port) (p : Port) (k : ℕ) → k < length ports → slice_index (others (ports ++ p ∷ [])) k ≡ slice_index (others ports) k
others_more [] p k below = absurd (omega (arith, below))
others_more (x ∷ xs) p zero below = refl
others_more (x ∷ xs) p (suc k) below = others_more xs p k (omega (arith, below))

others_last : (ports : List Port) (p : Port) → slice_index (others (ports ++ p ∷ [])) (length ports) ≡ other p
others_last [] p = refl
others_last (x ∷ xs) p = others_last xs p

module _ (n : ℕ) (ports : List Port) (p : Port) (rising : AreRising n (ports ++ p ∷ [])) where
  pub last_low : other p < n
  last_low = omega (arith, rising.below (length ports) (omega (arith, length_push ports p)), others_last ports p)

  pub before_last : (k : ℕ) → k < length ports → slice_index (others ports) k < other p
  before_last k low = omega (arith, rising.rising k (length ports) low (omega (arith, length_push ports p)), others_more ports p k low, others_last ports p)

  pub rising_less : AreRising n ports
  rising_less = record {
    below = λ k low. omega (arith, rising.below k (omega (arith, low, length_push ports p)), others_more ports p k low);
    rising = λ j k less low.
        omega (arith, rising.rising j k less (omega (arith, low, length_push ports p)), others_more ports p j (omega (arith, less, low)), others_more ports p k low);
  }

  pub read_last : read_at None (λ (r : Port). Some r) (ports ++ p ∷ []) (other p) ≡ Some p
  read_last =
      read_push None (λ (r : Port). Some r) ports p (other p) before_last
      ∙ ap (λ t. cond t (Some p) (read_at None (λ (r : Port). Some r) ports (other p))) (eq-eqb (other p) (other p) refl)

  pub read_less : read_at None (λ (r : Port). Some r) ports (other p) ≡ None
  read_less = read_none None (λ (r : Port). Some r) ports (other p) (λ j below is. omega (arith, before_last j below, is))

  pub read_rest : (y : ℕ) → (y ≡ other p → ⊥) → read_at None (λ (r : Port). Some r) ports y ≡ read_at None (λ (r : Port). Some r) (ports ++ p ∷ []) y
  read_rest y off =
      sym (read_push None (λ (r : Port). Some r) ports p y before_last
      ∙ ap (λ t. cond t (Some p) (read_at None (λ (r : Port). Some r) ports y)) (ne_eqb y (other p) off))

-- where a port is read, its place
record IsFound (ports : List Port) (y : ℕ) : Type 0 where
  place : ℕ
  below : place < length ports
  leads : slice_index (others ports) place ≡ y

found : (ports : List Port) (y : ℕ) (q : Port) → read_at None (λ (r : Port). Some r) ports y ≡ Some q → IsFound ports y
found [] y q is = absurd (nothing q (sym is))
found (p ∷ ports) y q is = elim (cases_eq y (other p)) [
  | inl same ↦ record { place = zero; below = omega arith; leads = sym same }
  | inr off ↦
      let rest = found ports y q (sym (ap (λ t. cond t (Some p) (read_at None (λ (r : Port). Some r) ports y)) (ne_eqb y (other p) off)) ∙ is) in
      record { place = suc rest.place; below = omega (arith, rest.below); leads = rest.leads }
]

-- ---- the last port of a block, and the one that it leads to

pub record IsLast (b : ℕ) (lists : List (List Port)) (p : Port) : Type 0 where
  pub lower : other p < b
  pub there : port_to lists b (other p) ≡ Some p
  pub mate : IsPaired p (port_to lists (other p) b)

pub last_port : (n b count capacity : ℕ) (lists : List (List Port)) (ports : List Port) (p : Port) → IsReadyToPair n (b + 1) lists count capacity → get_or lists b [] ≡ ports ++ p ∷ [] → IsLast b lists p
last_port n b count capacity lists ports p ready at =
    let rising : AreRising n (ports ++ p ∷ []) = subst (AreRising n) at (ready.mated.rising b) in
    let there : port_to lists b (other p) ≡ Some p =
    ap (λ (l : List Port). read_at None (λ (r : Port). Some r) l (other p)) at ∙ read_last n ports p rising in
    let apart : other p ≡ b → ⊥ = λ e. nothing p (sym (ap (λ (i : ℕ). port_to lists b i) (sym e) ∙ there) ∙ ready.mated.none b) in
    let low : other p < b = elim (cases_lt (other p) b) [
      | inl less ↦ less
      | inr more ↦ absurd (nothing p (sym there ∙ ready.low b (other p) (omega (arith, more, apart))))
    ] in
    record { lower = low; there = there; mate = ready.mated.paired b (other p) p there }

-- the list of the other block has a port
pub has_some : (ports : List Port) (y : ℕ) (q : Port) → read_at None (λ (r : Port). Some r) ports y ≡ Some q → 0 < length ports
has_some [] y q is = absurd (nothing q (sym is))
has_some (p ∷ ports) y q is = omega arith

-- its last port is the one that leads back
pub last_mate : (n b c count capacity : ℕ) (lists : List (List Port)) (ports : List Port) (q mate : Port) → IsReadyToPair n (b + 1) lists count capacity → get_or lists c [] ≡ ports ++ q ∷ []
    → port_to lists c b ≡ Some mate → (q ≡ mate) × (other q ≡ b)
last_mate n b c count capacity lists ports q mate ready at back =
    let rising : AreRising n (ports ++ q ∷ []) = subst (AreRising n) at (ready.mated.rising c) in
    let there : port_to lists c (other q) ≡ Some q =
    ap (λ (l : List Port). read_at None (λ (r : Port). Some r) l (other q)) at ∙ read_last n ports q rising in
    elim (cases_eq b (other q)) [
      | inl same ↦ (some_is q mate (sym there ∙ (ap (λ (i : ℕ). port_to lists c i) (sym same) ∙ back)), sym same)
      | inr off ↦
          let in_rest : read_at None (λ (r : Port). Some r) ports b ≡ Some mate =
          read_rest n ports q rising b off ∙ (ap (λ (l : List Port). read_at None (λ (r : Port). Some r) l b) (sym at) ∙ back) in
          let place = found ports b mate in_rest in
          let less : b < other q = omega (arith, before_last n ports q rising place.place place.below, place.leads) in
          absurd (nothing q (sym there ∙ ready.low c (other q) (omega (arith, less))))
    ]

-- ---- both leave

module _ (n b c : ℕ) (old new : List (List Port)) (first second : List Port) (p : PortPair) (mated : AreMated n old) (low : b < n) (at_b : get_or old b [] ≡ first ++ p.first ∷ [])
    (at_c : get_or old c [] ≡ second ++ p.second ∷ []) (to_c : other p.first ≡ c) (to_b : other p.second ≡ b) (less : c < b) (is : new ≡ set (set old b first) c second) where
  long_b : b < length old
  long_b = omega (arith, mated.len, low)

  long_c : c < length (set old b first)
  long_c = omega (arith, mated.len, low, less, length-set old b first)

  new_b : get_or new b [] ≡ first
  new_b =
      ap (λ l. get_or l b []) is ∙ (get_or-set_other (set old b first) c b second [] (λ e. omega (arith, e, less)) ∙ get_or-set_same old b first [] long_b)

  new_c : get_or new c [] ≡ second
  new_c = ap (λ l. get_or l c []) is ∙ get_or-set_same (set old b first) c second [] long_c

  new_else : (x : ℕ) → (x ≡ b → ⊥) → (x ≡ c → ⊥) → get_or new x [] ≡ get_or old x []
  new_else x off_b off_c =
      ap (λ l. get_or l x []) is ∙ (get_or-set_other (set old b first) c x second [] off_c ∙ get_or-set_other old b x first [] off_b)

  rising_b : AreRising n (first ++ p.first ∷ [])
  rising_b = subst (AreRising n) at_b (mated.rising b)

  rising_c : AreRising n (second ++ p.second ∷ [])
  rising_c = subst (AreRising n) at_c (mated.rising c)

  abbrev read : List Port → ℕ → Option Port
  read l y = read_at None (λ (r : Port). Some r) l y

  rest_is : (x y : ℕ) → (x ≡ b → y ≡ other p.first → ⊥) → (x ≡ other p.first → y ≡ b → ⊥) → port_to new x y ≡ port_to old x y
  rest_is x y off_there off_back = elim (cases_eq x b) [
    | inl same ↦
        subst (λ i. port_to new i y ≡ port_to old i y) (sym same)
        (ap (λ l. read l y) new_b ∙ (read_rest n first p.first rising_b y (off_there same) ∙ ap (λ l. read l y) (sym at_b)))
    | inr off_b ↦ elim (cases_eq x c) [
      | inl same ↦
          subst (λ i. port_to new i y ≡ port_to old i y) (sym same)
          (ap (λ l. read l y) new_c
          ∙ (read_rest n second p.second rising_c y (λ e. off_back (same ∙ sym to_c) (e ∙ to_b)) ∙ ap (λ l. read l y) (sym at_c)))
      | inr off_c ↦ ap (λ l. read l y) (new_else x off_b off_c)
    ]
  ]

  new_rising : (x : ℕ) → AreRising n (get_or new x [])
  new_rising x = elim (cases_eq x b) [
    | inl same ↦ subst (λ i. AreRising n (get_or new i [])) (sym same) (subst (AreRising n) (sym new_b) (rising_less n first p.first rising_b))
    | inr off_b ↦ elim (cases_eq x c) [
      | inl same ↦ subst (λ i. AreRising n (get_or new i [])) (sym same) (subst (AreRising n) (sym new_c) (rising_less n second p.second rising_c))
      | inr off_c ↦ subst (AreRising n) (sym (new_else x off_b off_c)) (mated.rising x)
    ]
  ]

  new_fewer : ports_in new + 2 ≡ ports_in old
  new_fewer =
      let one = sum_by-set (λ (l : List Port). length l) old b first [] long_b in
      let two = sum_by-set (λ (l : List Port). length l) (set old b first) c second [] long_c in
      let row_b : length (get_or old b []) ≡ length first + 1 = ap length at_b ∙ length_push first p.first in
      let row_c : length (get_or (set old b first) c []) ≡ length second + 1 =
      ap length (get_or-set_other old b c first [] (λ e. omega (arith, e, less)) ∙ at_c) ∙ length_push second p.second in
      let all : ports_in new ≡ ports_in (set (set old b first) c second) = ap (λ l. ports_in l) is in
      omega (arith, one, two, row_b, row_c, all)

  pub taken_out : IsTakenOut n b old new p
  taken_out = record {
    block = to_b;
    lower = omega (arith, to_c, less);
    there = ap (λ l. read l (other p.first)) at_b ∙ read_last n first p.first rising_b;
    back = ap (λ i. port_to old i b) to_c
        ∙ (ap (λ l. read l b) at_c ∙ (ap (λ y. read (second ++ p.second ∷ []) y) (sym to_b) ∙ read_last n second p.second rising_c));
    gone_there = ap (λ l. read l (other p.first)) new_b ∙ read_less n first p.first rising_b;
    gone_back = ap (λ i. port_to new i b) to_c
        ∙ (ap (λ l. read l b) new_c ∙ (ap (λ y. read second y) (sym to_b) ∙ read_less n second p.second rising_c));
    rest = rest_is;
    len = ap length is ∙ (length-set (set old b first) c second ∙ length-set old b first);
    rising = new_rising;
    fewer = new_fewer;
    row = (let a = ap length new_b in let e = ap length at_b ∙ length_push first p.first in omega (arith, a, e));
  }
