-- A pair more is taken out of the lists.
use Rattle.std.proofs.Common.{◌≡◌, ℕ, ◌+◌, ◌*◌, ◌<◌, ◌≤◌, Bool, true, false, cond, List, [], ◌∷◌, ◌++◌, get_or, Option, Some, None, refl, sym, ◌∙◌, ap, subst, inl, inr, arith}
use Rattle.std.proofs.lemmas.Bool.{cases_eq, eq-eqb, ne_eqb}
use Rattle.std.proofs.lemmas.List.{get_or_past}
use Rattle.block_workers.specs.declared.port.Port.{Port}
use Rattle.block_workers.specs.Ports.{other, letters_put, letters_taken, capacity as ring_of}
use Rattle.block_workers.specs.Seeing.{read_at, messages}
use Rattle.block_rings.specs.Joined.{port_to, IsPaired}
use Rattle.block_rings.specs.declared.pair.PortPair.{PortPair}
use Rattle.block_rings.specs.Mated.{AreMated, ports_in, messages_sent, messages_taken, room_to}
use Rattle.block_rings.specs.Links.{Traffic, Link, traffic, traffic_of, link, links_of, link_in, is_link_of, AreLinks}
use Rattle.block_rings.specs.Pairing.{option_traffic, IsReadyToPair, IsTakenOut, ArePaired}
use Rattle.block_rings.proofs.Leaving.{link_cases, link_there, link_back, link_off}

nothing : {X : Type 0} (t : X) → Some t ≡ None → ⊥
nothing t e = cc

some_is : {X : Type 0} (s t : X) → Some s ≡ Some t → s ≡ t
some_is s t e = cc

-- ---- a link more at the end

cond_some : (j k : Bool) (f g r new : Option Traffic) (t : Traffic) → (r ≡ Some t → new ≡ Some t) → cond j f (cond k g r) ≡ Some t → cond j f (cond k g new) ≡ Some t
cond_some true k f g r new t h e = e
cond_some false true f g r new t h e = e
cond_some false false f g r new t h e = h e

cond_none : (j k : Bool) (f g : Traffic) (r new z : Option Traffic) → (r ≡ None → new ≡ z) → cond j (Some f) (cond k (Some g) r) ≡ None
    → cond j (Some f) (cond k (Some g) new) ≡ z
cond_none true k f g r new z h e = absurd (nothing f e)
cond_none false true f g r new z h e = absurd (nothing g e)
cond_none false false f g r new z h e = h e

push_some : (links : List Link) (l : Link) (b c : ℕ) (t : Traffic) → link_in links b c ≡ Some t → link_in (links ++ l ∷ []) b c ≡ Some t
push_some [] l b c t is = absurd (nothing t (sym is))
push_some (x ∷ links) l b c t is =
    cond_some (is_link_of x b c) (is_link_of x c b) (Some x.of_first) (Some x.of_second) (link_in links b c) (link_in (links ++ l ∷ []) b c) t (push_some links l b c t) is

push_none : (links : List Link) (l : Link) (b c : ℕ) → link_in links b c ≡ None → link_in (links ++ l ∷ []) b c ≡ link_in (l ∷ []) b c
push_none [] l b c is = refl
push_none (x ∷ links) l b c is =
    cond_none (is_link_of x b c) (is_link_of x c b) x.of_first x.of_second (link_in links b c) (link_in (links ++ l ∷ []) b c) (link_in (l ∷ []) b c) (push_none links l b c) is

links_push : (n : ℕ) (links : List Link) (l : Link) → AreLinks n links → l.second < l.first → l.first < n → link_in links l.first l.second ≡ None → AreLinks n (links ++ l ∷ [])
links_push n [] l are order low none = (order, low, refl, tt)
links_push n (x ∷ links) l are order low none =
    let free : (l.first ≡ x.first → l.second ≡ x.second → ⊥) =
    λ e f. nothing x.of_first (sym (link_there x links l.first l.second (sym e) (sym f)) ∙ none) in
    let turned : (l.first ≡ x.second → l.second ≡ x.first → ⊥) = λ e f. absurd (omega (arith, e, f, order, are.0)) in
    let rest : link_in links l.first l.second ≡ None =
    sym (link_off x links l.first l.second (λ e f. free (sym e) (sym f)) (λ e f. turned (sym f) (sym e))) ∙ none in
    (are.0, are.1, push_none links l x.first x.second are.2 ∙ link_off l [] x.first x.second free turned, links_push n links l are.3 order low rest)

option_case : (P : Type 0) (o : Option Traffic) → (o ≡ None → P) → ((t : Traffic) → o ≡ Some t → P) → P
option_case P None none some = none refl
option_case P (Some t) none some = some t refl

port_case : (P : Type 0) (o : Option Port) → (o ≡ None → P) → ((t : Port) → o ≡ Some t → P) → P
port_case P None none some = none refl
port_case P (Some t) none some = some t refl

-- ---- what was taken out

module _ (n b : ℕ) (old new : List (List Port)) (p : PortPair) (out : IsTakenOut n b old new p) where
  abbrev c : ℕ
  c = other p.first

  abbrev l : Link
  l = link p

  order : l.second < l.first
  order = omega (arith, out.block, out.lower)

  there_at : (x y : ℕ) → l.first ≡ x → l.second ≡ y → port_to old x y ≡ Some p.first
  there_at x y e f = subst (λ i. port_to old i y ≡ Some p.first) (sym out.block ∙ e) (subst (λ i. port_to old b i ≡ Some p.first) f out.there)

  back_at : (x y : ℕ) → l.first ≡ y → l.second ≡ x → port_to old x y ≡ Some p.second
  back_at x y e f = subst (λ i. port_to old i y ≡ Some p.second) f (subst (λ i. port_to old c i ≡ Some p.second) (sym out.block ∙ e) out.back)

  gone_there_at : (x y : ℕ) → l.first ≡ x → l.second ≡ y → port_to new x y ≡ None
  gone_there_at x y e f = subst (λ i. port_to new i y ≡ None) (sym out.block ∙ e) (subst (λ i. port_to new b i ≡ None) f out.gone_there)

  gone_back_at : (x y : ℕ) → l.first ≡ y → l.second ≡ x → port_to new x y ≡ None
  gone_back_at x y e f = subst (λ i. port_to new i y ≡ None) f (subst (λ i. port_to new c i ≡ None) (sym out.block ∙ e) out.gone_back)

  rest_at : (x y : ℕ) → (l.first ≡ x → l.second ≡ y → ⊥) → (l.first ≡ y → l.second ≡ x → ⊥) → port_to new x y ≡ port_to old x y
  rest_at x y there back = out.rest x y (λ e f. there (out.block ∙ sym e) (sym f)) (λ e f. back (out.block ∙ sym f) (sym e))

  -- a port that is left was there before, and so was the one back
  left_case : (P : Type 0) (x y : ℕ) → (port_to new x y ≡ None → P) → (port_to new x y ≡ port_to old x y → port_to new y x ≡ port_to old y x → P) → P
  left_case P x y gone kept =
      link_cases P l x y (λ e f. gone (gone_there_at x y e f)) (λ e f. gone (gone_back_at x y e f)) (λ there back. kept (rest_at x y there back) (rest_at y x back there))

  none_left : (x y : ℕ) → port_to old x y ≡ None → port_to new x y ≡ None
  none_left x y none = left_case (port_to new x y ≡ None) x y (λ e. e) (λ e f. e ∙ none)

  mated_left : AreMated n old → AreMated n new
  mated_left was = record {
    len = out.len ∙ was.len;
    rising = out.rising;
    paired = λ x y r is. left_case (IsPaired r (port_to new y x)) x y (λ e. absurd (nothing r (sym is ∙ e)))
        (λ e f. let pair = was.paired x y r (sym e ∙ is) in record { mate = pair.mate; is = f ∙ pair.is; there = pair.there; back = pair.back });
    none = λ x. none_left x x (was.none x);
  }

  pub ready_left : (top count capacity : ℕ) → IsReadyToPair n top old count capacity → IsReadyToPair n top new (count + 1) capacity
  ready_left top count capacity was = record {
    mated = mated_left was.mated;
    low = λ x y high. none_left x y (was.low x y high);
    room = omega (arith, was.room, out.fewer);
  }

  module _ (first : List (List Port)) (links : List Link) (low : b < n) (was : ArePaired n first old links) where
    free : link_in links l.first l.second ≡ None
    free =
        option_case (link_in links l.first l.second ≡ None) (link_in links l.first l.second) (λ e. e)
        (λ t e. absurd (nothing p.first (sym (there_at l.first l.second refl refl) ∙ (was.taken l.first l.second t e).1)))

    taken_new : (x y : ℕ) (t : Traffic) → link_in links x y ≡ None → link_in (l ∷ []) x y ≡ Some t → (option_traffic (port_to first x y) ≡ Some t) × (port_to new x y ≡ None)
    taken_new x y t none is =
        let first_is : (q : Port) → port_to old x y ≡ Some q → option_traffic (port_to first x y) ≡ Some (traffic q) =
        λ q at. ap option_traffic (sym (was.rest x y none) ∙ at) in
        link_cases ((option_traffic (port_to first x y) ≡ Some t) × (port_to new x y ≡ None)) l x y
        (λ e f. (first_is p.first (there_at x y e f) ∙ (sym (link_there l [] x y e f) ∙ is), gone_there_at x y e f))
        (λ e f. (first_is p.second (back_at x y e f) ∙ (sym (link_back l [] x y order e f) ∙ is), gone_back_at x y e f))
        (λ there back. absurd (nothing t (sym is ∙ link_off l [] x y there back)))

    pub paired_left : ArePaired n first new (links ++ l ∷ [])
    paired_left = record {
      linked = links_push n links l was.linked order (omega (arith, out.block, low)) free;
      taken = λ x y t is.
          option_case ((option_traffic (port_to first x y) ≡ Some t) × (port_to new x y ≡ None)) (link_in links x y)
          (λ none. taken_new x y t none (sym (push_none links l x y none) ∙ is))
          (λ s e.
          let before = was.taken x y s e in
          let same : s ≡ t = some_is s t (sym (push_some links l x y s e) ∙ is) in
          (before.0 ∙ ap (λ (z : Traffic). Some z) same, none_left x y before.1));
      rest = λ x y none.
          option_case (port_to new x y ≡ port_to first x y) (link_in links x y)
          (λ off.
          let last : link_in (l ∷ []) x y ≡ None = sym (push_none links l x y off) ∙ none in
          link_cases (port_to new x y ≡ port_to first x y) l x y (λ e f. absurd (nothing l.of_first (sym (link_there l [] x y e f) ∙ last)))
          (λ e f. absurd (nothing l.of_second (sym (link_back l [] x y order e f) ∙ last))) (λ there back. rest_at x y there back ∙ was.rest x y off))
          (λ s e. absurd (nothing s (sym (push_some links l x y s e) ∙ none)));
    }

-- ---- the next block, the beginning and the end

-- where a block has no port any more, none leads to it
pub ready_next : (n b : ℕ) (lists : List (List Port)) (count capacity : ℕ) → get_or lists b [] ≡ [] → IsReadyToPair n (b + 1) lists count capacity → IsReadyToPair n b lists count capacity
ready_next n b lists count capacity empty was = record {
  mated = was.mated;
  low = λ x y high. elim (cases_eq y b) [
    | inl is ↦
        port_case (port_to lists x y ≡ None) (port_to lists x y) (λ e. e)
        (λ q e.
        let none : port_to lists y x ≡ None = ap (λ (i : ℕ). port_to lists i x) is ∙ ap (λ (ports : List Port). read_at None (λ (r : Port). Some r) ports x) empty in
        let pair = was.mated.paired x y q e in
        absurd (nothing pair.mate (sym pair.is ∙ none)))
    | inr off ↦ was.low x y (omega (arith, high, off))
  ];
  room = was.room;
}

paired_none : (n : ℕ) (lists : List (List Port)) → ArePaired n lists lists []
paired_none n lists = record {
  linked = tt;
  taken = λ x y t is. absurd (nothing t (sym is));
  rest = λ x y none. refl;
}

pub paired_first : (n : ℕ) (lists : List (List Port)) (pairs : List PortPair) → pairs ≡ [] → ArePaired n lists lists (links_of pairs)
paired_first n lists pairs none = subst (λ (ps : List PortPair). ArePaired n lists lists (links_of ps)) (sym none) (paired_none n lists)

pub ready_first : (n capacity : ℕ) (lists : List (List Port)) → AreMated n lists → ports_in lists ≤ 2 * capacity → IsReadyToPair n n lists 0 capacity
ready_first n capacity lists mated room = record {
  mated = mated;
  low = λ x y high.
      port_case (port_to lists x y ≡ None) (port_to lists x y) (λ e. e)
      (λ q e.
      let pair = mated.paired x y q e in
      let none : port_to lists y x ≡ None = ap (λ (ports : List Port). read_at None (λ (r : Port). Some r) ports x) (get_or_past lists y [] (omega (arith, mated.len, high))) in
      absurd (nothing pair.mate (sym pair.is ∙ none)));
  room = omega (arith, room);
}

row_sent : (ports : List Port) (c : ℕ) → (traffic_of (option_traffic (read_at None (λ (r : Port). Some r) ports c))).sent ≡ read_at [] (λ (r : Port). messages (letters_put r)) ports c
row_sent [] c = refl
row_sent (p ∷ ports) c = elim (cases_eq c (other p)) [
  | inl same ↦ rw (eq-eqb c (other p) same) refl
  | inr off ↦ rw (ne_eqb c (other p) off) (row_sent ports c)
]

row_taken : (ports : List Port) (c : ℕ) → (traffic_of (option_traffic (read_at None (λ (r : Port). Some r) ports c))).taken ≡ read_at [] (λ (r : Port). messages (letters_taken r)) ports c
row_taken [] c = refl
row_taken (p ∷ ports) c = elim (cases_eq c (other p)) [
  | inl same ↦ rw (eq-eqb c (other p) same) refl
  | inr off ↦ rw (ne_eqb c (other p) off) (row_taken ports c)
]

row_room : (ports : List Port) (c : ℕ) → (traffic_of (option_traffic (read_at None (λ (r : Port). Some r) ports c))).room ≡ read_at 0 (λ (r : Port). ring_of r) ports c
row_room [] c = refl
row_room (p ∷ ports) c = elim (cases_eq c (other p)) [
  | inl same ↦ rw (eq-eqb c (other p) same) refl
  | inr off ↦ rw (ne_eqb c (other p) off) (row_room ports c)
]

-- where no port is left, each went into a pair
all_paired : (n : ℕ) (first lists : List (List Port)) (links : List Link) (count capacity : ℕ) → IsReadyToPair n 0 lists count capacity → ArePaired n first lists links
    → (b c : ℕ) → traffic_of (link_in links b c) ≡ traffic_of (option_traffic (port_to first b c))
all_paired n first lists links count capacity ready pairs b c =
    option_case (traffic_of (link_in links b c) ≡ traffic_of (option_traffic (port_to first b c))) (link_in links b c)
    (λ none.
    let no_port : port_to first b c ≡ None = sym (pairs.rest b c none) ∙ ready.low b c (omega arith) in
    ap traffic_of none ∙ ap (λ (o : Option Port). traffic_of (option_traffic o)) (sym no_port))
    (λ t e. ap traffic_of (e ∙ sym (pairs.taken b c t e).0))

pub all_sent : (n : ℕ) (first lists : List (List Port)) (links : List Link) (count capacity : ℕ) → IsReadyToPair n 0 lists count capacity → ArePaired n first lists links
    → (b c : ℕ) → (traffic_of (link_in links b c)).sent ≡ messages_sent first b c
all_sent n first lists links count capacity ready pairs b c =
    ap (λ (t : Traffic). t.sent) (all_paired n first lists links count capacity ready pairs b c) ∙ row_sent (get_or first b []) c

pub all_taken : (n : ℕ) (first lists : List (List Port)) (links : List Link) (count capacity : ℕ) → IsReadyToPair n 0 lists count capacity → ArePaired n first lists links
    → (b c : ℕ) → (traffic_of (link_in links b c)).taken ≡ messages_taken first b c
all_taken n first lists links count capacity ready pairs b c =
    ap (λ (t : Traffic). t.taken) (all_paired n first lists links count capacity ready pairs b c) ∙ row_taken (get_or first b []) c

pub all_room : (n : ℕ) (first lists : List (List Port)) (links : List Link) (count capacity : ℕ) → IsReadyToPair n 0 lists count capacity → ArePaired n first lists links
    → (b c : ℕ) → (traffic_of (link_in links b c)).room ≡ room_to first b c
all_room n first lists links count capacity ready pairs b c =
    ap (λ (t : Traffic). t.room) (all_paired n first lists links count capacity ready pairs b c) ∙ row_room (get_or first b []) c
