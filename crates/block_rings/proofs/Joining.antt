-- Two blocks get a port to one another more.
use Rattle.std.proofs.Common.{◌⊎◌, ◌≢◌, ◌≡◌, ℕ, zero, suc, ◌+◌, ◌<◌, ◌≤◌, Bool, true, false, cond, eqb, ◌||◌, List, [], ◌∷◌, ◌++◌, length, map, set, replicate, get_or, slice_index, Option, Some, None, is_some, refl, sym, ◌∙◌, ap, subst, inl, inr, arith, get_or-set_same, get_or-set_other}
use Rattle.std.proofs.Math.Seq.{get_or-append_seam}
use Rattle.std.proofs.lemmas.Bool.{or_cases, cases_eq, cases_lt, eq-eqb, ne_eqb}
use Rattle.std.proofs.lemmas.List.{length-set, length-replicate, get_or-map}
use Rattle.block_net.specs.Views.{CellsView, border_in}
use Rattle.block_workers.specs.declared.port.Port.{Port}
use Rattle.block_workers.specs.Ports.{other, IsNewPort}
use Rattle.block_workers.specs.Seeing.{others, read_at, AreRising}
use Rattle.block_rings.specs.Joined.{port_to, IsPaired, BordersOn, AreJoined}
use Rattle.block_rings.specs.Joining.{HasPair, AreBegun, AreScanned, ComesBefore, flag, is_linked}
use Rattle.block_workers.proofs.Reading.{read_here}
use Rattle.block_rings.proofs.Pushing.{rising_more, read_push}

-- ---- rows

pub row_at : {R X : Type 0} (items : R → List X) (rows : List R) (b : ℕ) (row : R) → b < length rows → row ≡ get_or rows b row → get_or (map items rows) b [] ≡ items row
row_at items rows b row low is = get_or-map items rows b row [] low ∙ sym (ap items is)

pub row_here : (done rest all : List (List Port)) (l : List Port) → done ++ l ∷ rest ≡ all → get_or all (length done) [] ≡ l
row_here done rest all l e = ap (λ x. get_or x (length done) []) (sym e) ∙ get_or-append_seam done l rest []

row_none : (n x : ℕ) → get_or {A = List Port} (replicate n []) x [] ≡ []
row_none zero zero = refl
row_none zero (suc x) = refl
row_none (suc n) zero = refl
row_none (suc n) (suc x) = row_none n x

-- ---- choices

no_truth : false ≡ true → ⊥
no_truth e = cc

or_first : (a c : Bool) → a ≡ true → a || c ≡ true
or_first true c e = refl
or_first false c e = absurd (no_truth e)

or_second : (a c : Bool) → c ≡ true → a || c ≡ true
or_second true c e = refl
or_second false c e = e

or_turned : (a c : Bool) → a || c ≡ true → c || a ≡ true
or_turned true c e = or_second c true refl
or_turned false c e = or_first c false e

nothing : (p : Port) → None ≡ Some p → ⊥
nothing p e = cc

some_is : (p r : Port) → Some p ≡ Some r → p ≡ r
some_is p r e = cc

mirrored : (o m : Option Port) → ((p : Port) → o ≡ Some p → IsPaired p m) → is_some o ≡ true → is_some m ≡ true
mirrored None m pair some = absurd (no_truth some)
mirrored (Some p) m pair some = ap (λ (x : Option Port). is_some x) (pair p refl).is

-- ---- the beginning, the next block, and the end

pub begun_none : (ring n : ℕ) (rows : List (List Bool)) (lists : List (List Port)) → lists ≡ replicate n [] → AreBegun ring n 0 0 rows lists
begun_none ring n rows lists none =
    let empty : (x : ℕ) → get_or lists x [] ≡ [] = λ x. ap (λ l. get_or l x []) none ∙ row_none n x in
    let no_port : (x y : ℕ) (p : Port) → port_to lists x y ≡ Some p → ⊥ =
    λ x y p is. nothing p (sym (ap (λ l. read_at None (λ (q : Port). Some q) l y) (empty x)) ∙ is) in
    record {
      len = ap length none ∙ length-replicate n [];
      rising = λ x. subst (AreRising n) (sym (empty x)) (record { below = λ k lt. absurd (omega (arith, lt)); rising = λ j k less lt. absurd (omega (arith, lt)) });
      fresh = λ x y p is. absurd (no_port x y p is);
      paired = λ x y p is. absurd (no_port x y p is);
      only = λ x y p is. absurd (no_port x y p is);
      before = λ x y p is. absurd (no_port x y p is);
      led = λ x y less low at e. elim at [ inl l ↦ absurd (omega (arith, l)) | inr l ↦ absurd (omega (arith, l.1)) ];
    }

before_next : (x y b c : ℕ) → ComesBefore x y b c → ComesBefore x y 0 (c + 1)
before_next x y b c (inl l) = inl (omega (arith, l))
before_next x y b c (inr l) = inl (omega (arith, l.0))

before_more : (x y b c : ℕ) → ComesBefore x y b c → ComesBefore x y (b + 1) c
before_more x y b c (inl l) = inl l
before_more x y b c (inr l) = inr (l.0, omega (arith, l.1))

-- a pair before the first of the next block is one before the last of this one
before_last : (x y b c : ℕ) → x < y → c ≤ b → ComesBefore x y 0 (c + 1) → ComesBefore x y b c
before_last x y b c less all (inr l) = absurd (omega (arith, l.1))
before_last x y b c less all (inl l) = elim (cases_lt y c) [
  | inl lower ↦ inl (omega (arith, less, lower))
  | inr here ↦ inr (omega (arith, less, l, here), omega (arith, less, l, all))
]

-- a pair before the next one is one before this, or is this
before_or_here : (x y b c : ℕ) → x < y → ComesBefore x y (b + 1) c → ComesBefore x y b c ⊎ ((x ≡ b) × (y ≡ c))
before_or_here x y b c less (inl l) = inl (inl l)
before_or_here x y b c less (inr l) = elim (cases_lt x b) [
  | inl lower ↦ inl (inr (l.0, omega (arith, less, lower)))
  | inr here ↦ inr (omega (arith, less, l.1, here), omega (arith, less, l.0))
]

pub begun_next : (ring n b c : ℕ) (rows : List (List Bool)) (lists : List (List Port)) → c ≤ b → AreBegun ring n b c rows lists → AreBegun ring n 0 (c + 1) rows lists
begun_next ring n b c rows lists all was = record {
  len = was.len;
  rising = was.rising;
  fresh = was.fresh;
  paired = was.paired;
  only = was.only;
  before = λ x y p is. before_next x y b c (was.before x y p is);
  led = λ x y less low at e. was.led x y less low (before_last x y b c less all at) e;
}

unflagged : (a : Bool) → a ≡ false → a ≡ true → ⊥
unflagged a off on = no_truth (sym off ∙ on)

pub begun_pass : (ring n b c : ℕ) (rows : List (List Bool)) (lists : List (List Port)) → is_linked rows b c ≡ false
    → AreBegun ring n b c rows lists → AreBegun ring n (b + 1) c rows lists
begun_pass ring n b c rows lists off was = record {
  len = was.len;
  rising = was.rising;
  fresh = was.fresh;
  paired = was.paired;
  only = was.only;
  before = λ x y p is. before_more x y b c (was.before x y p is);
  led = λ x y less low at e. elim (before_or_here x y b c less at) [
    | inl before ↦ was.led x y less low before e
    | inr here ↦
        absurd (unflagged (is_linked rows b c) off (subst (λ i. is_linked rows i c ≡ true) here.0 (subst (λ j. is_linked rows x j ≡ true) here.1 e)))
  ];
}

flag_leads : (cells : List CellsView) (rows : List (List Bool)) → AreScanned cells rows → (x y : ℕ) (d e : CellsView) → x < length cells → y < length cells
    → flag rows x y || flag rows y x ≡ true → BordersOn (get_or cells x d) y ⊎ BordersOn (get_or cells y e) x
flag_leads cells rows scan x y d e low_x low_y on = elim (or_cases (flag rows x y) (flag rows y x) on) [
  | inl there ↦ inl ((scan.each x d low_x).only y there)
  | inr back ↦ inr ((scan.each y e low_y).only x back)
]

pub all_joined : (ring n b c : ℕ) (cells : List CellsView) (rows : List (List Bool)) (lists : List (List Port)) → length cells ≡ n → n ≤ c
    → AreScanned cells rows → AreBegun ring n b c rows lists → AreJoined ring cells lists
all_joined ring n b c cells rows lists is all scan was = record {
  len = was.len ∙ sym is;
  rising = λ x. subst (λ m. AreRising m (get_or lists x [])) (sym is) (was.rising x);
  fresh = was.fresh;
  paired = was.paired;
  only = λ x y p d e is_some.
      let o = was.only x y p is_some in
      let low_x : x < length cells = (let l = o.1 in omega (arith, l, is)) in
      let low_y : y < length cells = (let l = o.2 in omega (arith, l, is)) in
      (o.0, flag_leads cells rows scan x y d e low_x low_y o.3);
  led = λ x j d low at below off.
      let y : ℕ = (border_in (get_or cells x d) j).to in
      let set : flag rows x y ≡ true = (scan.each x d low).set j at below in
      elim (cases_lt x y) [
        | inl less ↦ was.led x y less (omega (arith, below, is)) (inl (omega (arith, low, below, is, all))) (or_first (flag rows x y) (flag rows y x) set)
        | inr more ↦
            let less : y < x = (let apart : y ≡ x → ⊥ = off in omega (arith, more, apart)) in
            mirrored (port_to lists y x) (port_to lists x y) (λ p e. was.paired y x p e)
            (was.led y x less (omega (arith, low, is)) (inl (omega (arith, low, below, is, all))) (or_second (flag rows y x) (flag rows x y) set))
      ];
}

-- ---- one pair more

-- the port at a place of a row
port_there : (n : ℕ) (ports : List Port) (k : ℕ) (d : Port) → AreRising n ports → k < length ports
    → read_at None (λ (p : Port). Some p) ports (slice_index (others ports) k) ≡ Some (get_or ports k d)
port_there n ports k d rows low =
    read_here None (λ (p : Port). Some p) ports (slice_index (others ports) k) k d (record {
      place = low;
      leads = refl;
      alone = λ j below is. elim (cases_lt j k) [
        | inl less ↦ absurd (omega (arith, rows.rising j k less low, is))
        | inr more ↦ elim (cases_lt k j) [
          | inl less ↦ absurd (omega (arith, rows.rising k j less below, is))
          | inr least ↦ omega (arith, more, least)
        ]
      ];
    })

module _ (ring n b c : ℕ) (rows : List (List Bool)) (old new : List (List Port)) (order : b < c) (below : c < n) (on : is_linked rows b c ≡ true) (was : AreBegun ring n b c rows old) (h : HasPair ring b c old new) where
  abbrev p : Port
  p = h.first

  abbrev q : Port
  q = h.second

  abbrev first_row : List Port
  first_row = get_or old b [] ++ h.first ∷ []

  abbrev second_row : List Port
  second_row = get_or old c [] ++ h.second ∷ []

  at_first : get_or new b [] ≡ first_row
  at_first =
      let long : b < length old = omega (arith, was.len, order, below) in
      ap (λ l. get_or l b []) h.lists
      ∙ (get_or-set_other (set old b first_row) c b second_row [] (omega (arith, order)) ∙ get_or-set_same old b first_row [] long)

  at_second : get_or new c [] ≡ second_row
  at_second =
      let long : c < length (set old b first_row) = omega (arith, was.len, below, length-set old b first_row) in
      ap (λ l. get_or l c []) h.lists ∙ get_or-set_same (set old b first_row) c second_row [] long

  at_else : (x : ℕ) → (x ≡ b → ⊥) → (x ≡ c → ⊥) → get_or new x [] ≡ get_or old x []
  at_else x off_b off_c =
      ap (λ l. get_or l x []) h.lists
      ∙ (get_or-set_other (set old b first_row) c x second_row [] off_c ∙ get_or-set_other old b x first_row [] off_b)

  rows_case : (P : ℕ → List Port → Type 0) → P b first_row → P c second_row → ((x : ℕ) → (x ≡ b → ⊥) → (x ≡ c → ⊥) → P x (get_or old x [])) → (x : ℕ) → P x (get_or new x [])
  rows_case P at_b at_c at_x x = elim (cases_eq x b) [
    | inl is ↦ subst (λ i. P i (get_or new i [])) (sym is) (subst (P b) (sym at_first) at_b)
    | inr off_b ↦ elim (cases_eq x c) [
      | inl is ↦ subst (λ i. P i (get_or new i [])) (sym is) (subst (P c) (sym at_second) at_c)
      | inr off_c ↦ subst (P x) (sym (at_else x off_b off_c)) (at_x x off_b off_c)
    ]
  ]

  low_first : (k : ℕ) → k < length (get_or old b []) → slice_index (others (get_or old b [])) k < other p
  low_first k lt =
      let y = slice_index (others (get_or old b [])) k in
      elim (was.before b y _ (port_there n (get_or old b []) k p (was.rising b) lt)) [
        | inl l ↦ omega (arith, l, order, h.of_first.other)
        | inr l ↦ absurd (omega (arith, l.0, l.1, order))
      ]

  low_second : (k : ℕ) → k < length (get_or old c []) → slice_index (others (get_or old c [])) k < other q
  low_second k lt =
      let y = slice_index (others (get_or old c [])) k in
      elim (was.before c y _ (port_there n (get_or old c []) k p (was.rising c) lt)) [
        | inl l ↦ absurd (omega (arith, l))
        | inr l ↦ omega (arith, l.0, l.1, order, h.of_second.other)
      ]

  port_first : (y : ℕ) → port_to new b y ≡ cond (eqb y c) (Some p) (port_to old b y)
  port_first y =
      ap (λ l. read_at None (λ (r : Port). Some r) l y) at_first
      ∙ (read_push None (λ (r : Port). Some r) (get_or old b []) p y low_first ∙ ap (λ i. cond (eqb y i) (Some p) (port_to old b y)) h.of_first.other)

  port_second : (y : ℕ) → port_to new c y ≡ cond (eqb y b) (Some q) (port_to old c y)
  port_second y =
      ap (λ l. read_at None (λ (r : Port). Some r) l y) at_second
      ∙ (read_push None (λ (r : Port). Some r) (get_or old c []) q y low_second ∙ ap (λ i. cond (eqb y i) (Some q) (port_to old c y)) h.of_second.other)

  hit_first : port_to new b c ≡ Some p
  hit_first = port_first c ∙ ap (λ t. cond t (Some p) (port_to old b c)) (eq-eqb c c refl)

  hit_second : port_to new c b ≡ Some q
  hit_second = port_second b ∙ ap (λ t. cond t (Some q) (port_to old c b)) (eq-eqb b b refl)

  miss : (x y : ℕ) → (x ≡ b → y ≡ c → ⊥) → (x ≡ c → y ≡ b → ⊥) → port_to new x y ≡ port_to old x y
  miss x y off_first off_second = elim (cases_eq x b) [
    | inl is ↦ subst (λ i. port_to new i y ≡ port_to old i y) (sym is) (port_first y ∙ ap (λ t. cond t (Some p) (port_to old b y)) (ne_eqb y c (off_first is)))
    | inr off_b ↦ elim (cases_eq x c) [
      | inl is ↦ subst (λ i. port_to new i y ≡ port_to old i y) (sym is) (port_second y ∙ ap (λ t. cond t (Some q) (port_to old c y)) (ne_eqb y b (off_second is)))
      | inr off_c ↦ ap (λ l. read_at None (λ (r : Port). Some r) l y) (at_else x off_b off_c)
    ]
  ]

  ports_case : (P : ℕ → ℕ → Option Port → Type 0) → P b c (Some p) → P c b (Some q)
      → ((x y : ℕ) → (x ≡ b → y ≡ c → ⊥) → (x ≡ c → y ≡ b → ⊥) → P x y (port_to old x y)) → (x y : ℕ) → P x y (port_to new x y)
  ports_case P first second rest x y =
      let apart : x ≡ b → x ≡ c → ⊥ = λ e f. absurd (omega (arith, e, f, order)) in
      let missed : (x ≡ b → y ≡ c → ⊥) → (x ≡ c → y ≡ b → ⊥) → P x y (port_to new x y) =
      λ o1 o2. subst (P x y) (sym (miss x y o1 o2)) (rest x y o1 o2) in
      elim (cases_eq x b) [
        | inl xb ↦ elim (cases_eq y c) [
          | inl yc ↦ subst (λ i. P i y (port_to new i y)) (sym xb) (subst (λ j. P b j (port_to new b j)) (sym yc) (subst (P b c) (sym hit_first) first))
          | inr off ↦ missed (λ e. off) (λ e f. apart xb e)
        ]
        | inr off_b ↦ elim (cases_eq x c) [
          | inl xc ↦ elim (cases_eq y b) [
            | inl yb ↦ subst (λ i. P i y (port_to new i y)) (sym xc) (subst (λ j. P c j (port_to new c j)) (sym yb) (subst (P c b) (sym hit_second) second))
            | inr off ↦ missed (λ e f. off_b e) (λ e. off)
          ]
          | inr off_c ↦ missed (λ e f. off_b e) (λ e f. off_c e)
        ]
      ]

  new_len : length new ≡ n
  new_len = ap length h.lists ∙ (length-set (set old b first_row) c second_row ∙ (length-set old b first_row ∙ was.len))

  new_rising : (x : ℕ) → AreRising n (get_or new x [])
  new_rising =
      rows_case (λ x l. AreRising n l) (rising_more n (get_or old b []) p (was.rising b) low_first (omega (arith, h.of_first.other, below)))
      (rising_more n (get_or old c []) q (was.rising c) low_second (omega (arith, h.of_second.other, order, below))) (λ x o1 o2. was.rising x)

  new_fresh : (x y : ℕ) (r : Port) → port_to new x y ≡ Some r → IsNewPort y ring r
  new_fresh =
      ports_case (λ x y o. (r : Port) → o ≡ Some r → IsNewPort y ring r)
      (λ r e. subst (IsNewPort c ring) (some_is p r e) h.of_first)
      (λ r e. subst (IsNewPort b ring) (some_is q r e) h.of_second)
      (λ x y o1 o2. was.fresh x y)

  new_paired : (x y : ℕ) (r : Port) → port_to new x y ≡ Some r → IsPaired r (port_to new y x)
  new_paired =
      ports_case (λ x y o. (r : Port) → o ≡ Some r → IsPaired r (port_to new y x))
      (λ r e. subst (λ s. IsPaired s (port_to new c b)) (some_is p r e) (record { mate = q; is = hit_second; there = h.there; back = h.back }))
      (λ r e. subst (λ s. IsPaired s (port_to new b c)) (some_is q r e) (record { mate = p; is = hit_first; there = h.back; back = h.there }))
      (λ x y o1 o2 r e.
      let pair = was.paired x y r e in
      record { mate = pair.mate; is = miss y x (λ yb xc. o2 xc yb) (λ yc xb. o1 xb yc) ∙ pair.is; there = pair.there; back = pair.back })

  new_only : (x y : ℕ) (r : Port) → port_to new x y ≡ Some r → (x ≢ y) × (x < n) × (y < n) × (flag rows x y || flag rows y x ≡ true)
  new_only =
      ports_case (λ x y o. (r : Port) → o ≡ Some r → (x ≢ y) × (x < n) × (y < n) × (flag rows x y || flag rows y x ≡ true))
      (λ r e. ((λ s. absurd (omega (arith, order, s))), omega (arith, order, below), below, on))
      (λ r e. ((λ s. absurd (omega (arith, order, s))), below, omega (arith, order, below), or_turned (flag rows b c) (flag rows c b) on))
      (λ x y o1 o2. was.only x y)

  new_before : (x y : ℕ) (r : Port) → port_to new x y ≡ Some r → ComesBefore x y (b + 1) c
  new_before =
      ports_case (λ x y o. (r : Port) → o ≡ Some r → ComesBefore x y (b + 1) c)
      (λ r e. inr (omega (arith, order), omega (arith, order)))
      (λ r e. inr (omega (arith, order), omega (arith, order)))
      (λ x y o1 o2 r e. before_more x y b c (was.before x y r e))

  new_led : (x y : ℕ) → x < y → y < n → ComesBefore x y (b + 1) c → is_linked rows x y ≡ true → is_some (port_to new x y) ≡ true
  new_led =
      ports_case (λ x y o. x < y → y < n → ComesBefore x y (b + 1) c → is_linked rows x y ≡ true → is_some o ≡ true)
      (λ less low at e. refl) (λ less low at e. refl)
      (λ x y o1 o2 less low at e. elim (before_or_here x y b c less at) [
        | inl before ↦ was.led x y less low before e
        | inr here ↦ absurd (o1 here.0 here.1)
      ])

  pub begun_more : AreBegun ring n (b + 1) c rows new
  begun_more = record {
    len = new_len;
    rising = new_rising;
    fresh = new_fresh;
    paired = new_paired;
    only = new_only;
    before = new_before;
    led = new_led;
  }
