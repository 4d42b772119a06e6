-- What a block sees after a change of one port.
use Rattle.std.proofs.Common.{◌≡◌, ℕ, zero, suc, ◌<◌, ◌≤◌, ◌↔◌, Bool, true, false, cond, eqb, nat_lt, List, [], ◌∷◌, ◌++◌, length, set, get_or, slice_index, slice_get, Some, None, IsTrue, refl, sym, ◌∙◌, ap, subst, inl, inr, arith}
use mathlib.Core.List.{IsPrefix}
use Rattle.std.proofs.lemmas.Bool.{cases_eq, eq-eqb, ne_eqb}
use Rattle.std.proofs.lemmas.List.{length-set, map-append}
use Rattle.std.proofs.lemmas.Grind.{common_steps}
use Rattle.std.proofs.lemmas.Slice.Zip.{AllZip-long}
use Rattle.block_events.specs.declared.message.Message.{Message}
use Rattle.block_discharge.specs.declared.letter.Letter.{Letter}
use Rattle.block_discharge.specs.Seen.{IsLook, IsPut, IsTake, add_to}
use Rattle.block_workers.specs.declared.port.Port.{Port}
use Rattle.block_workers.specs.Ports.{other, letters_put, letters_taken, free, first, IsSamePort, Looks, PutsLetter, TakesLetter}
use Rattle.block_workers.specs.Seeing.{messages, others, read_at, ways_of_ports, AreSame, AreFound, IsPlaceOfPort}
use Rattle.block_workers.proofs.Reading.{other_at, read_more, read_set, read_here}

-- ---- the same ports

same_port : (p : Port) → IsSamePort p p
same_port p = record { to_ring = grind (arith, common_steps); from_ring = grind (arith, common_steps); other = refl }

same_port_more : (p q r : Port) → IsSamePort p q → IsSamePort q r → IsSamePort p r
same_port_more p q r h k = record { to_ring = grind (arith, common_steps); from_ring = grind (arith, common_steps); other = k.other ∙ h.other }

pub same_ports : (ports : List Port) → AreSame ports ports
same_ports [] = tt
same_ports (p ∷ ports) = (same_port p, same_ports ports)

pub same_more : (a b c : List Port) → AreSame a b → AreSame b c → AreSame a c
same_more [] [] [] h k = tt
same_more [] [] (r ∷ c) h k = absurd k
same_more [] (q ∷ b) c h k = absurd h
same_more (p ∷ a) [] c h k = absurd h
same_more (p ∷ a) (q ∷ b) [] h k = absurd k
same_more (p ∷ a) (q ∷ b) (r ∷ c) h k = (same_port_more p q r h.0 k.0, same_more a b c h.1 k.1)

pub same_set : (ports : List Port) (k : ℕ) (q d : Port) → k < length ports → IsSamePort (get_or ports k d) q → AreSame ports (set ports k q)
same_set [] k q d below same = absurd (omega arith)
same_set (p ∷ ports) zero q d below same = (same, same_ports ports)
same_set (p ∷ ports) (suc k) q d below same = (same_port p, same_set ports k q d (omega (arith, below)) same)

others_set : (ports : List Port) (k : ℕ) (q d : Port) → k < length ports → other q ≡ other (get_or ports k d) → others (set ports k q) ≡ others ports
others_set [] k q d below leads = absurd (omega arith)
others_set (p ∷ ports) zero q d below leads = ap (λ (n : ℕ). n ∷ others ports) leads
others_set (p ∷ ports) (suc k) q d below leads = ap (λ (ns : List ℕ). other p ∷ ns) (others_set ports k q d (omega (arith, below)) leads)

same_others : (a b : List Port) → AreSame a b → others b ≡ others a
same_others [] [] same = refl
same_others [] (q ∷ b) same = absurd same
same_others (p ∷ a) [] same = absurd same
same_others (p ∷ a) (q ∷ b) same = rw (same.0.other, same_others a b same.1) refl

pub found_same : (a b : List Port) (places : List ℕ) → AreSame a b → AreFound a places → AreFound b places
found_same a b places same found j low =
    subst (λ (ns : List ℕ). slice_get places (slice_index ns j) ≡ Some j) (sym (same_others a b same)) (found j (omega (arith, AllZip-long IsSamePort a b same)))

pub found_set : (ports : List Port) (places : List ℕ) (k : ℕ) (q d : Port) → AreFound ports places → k < length ports → other q ≡ other (get_or ports k d) → AreFound (set ports k q) places
found_set ports places k q d found below leads j low =
    subst (λ (ns : List ℕ). slice_get places (slice_index ns j) ≡ Some j) (sym (others_set ports k q d below leads)) (found j (omega (arith, length-set ports k q)))

-- ---- what is seen

more_room : (m n : ℕ) → m ≤ n → nat_lt 0 m ≡ true → nat_lt 0 n ≡ true
more_room m n more some = grind (arith, common_steps)

more_front : (xs ys : List Letter) → IsPrefix xs ys → (l : Letter) → slice_get xs 0 ≡ Some l → slice_get ys 0 ≡ Some l
more_front [] ys pre l is = cc
more_front (x ∷ xs) ys pre l is = subst (λ (w : List Letter). slice_get w 0 ≡ Some l) pre.1 is

pub look_set : (ports : List Port) (k : ℕ) (q d : Port) → k < length ports → Looks (get_or ports k d) q → IsLook (ways_of_ports ports) (ways_of_ports (set ports k q))
look_set ports k q d below look = record {
  sent = read_more [] (λ (p : Port). messages (letters_put p)) (λ x y. y ≡ x) (λ x. refl) ports k q d below look.same.other (ap messages look.put);
  taken = read_more [] (λ (p : Port). messages (letters_taken p)) (λ x y. y ≡ x) (λ x. refl) ports k q d below look.same.other (ap messages look.taken);
  room = read_more false (λ (p : Port). nat_lt 0 (free p)) (λ x y. x ≡ true → y ≡ true) (λ x h. h) ports k q d below look.same.other (more_room _ _ look.free);
  front = read_more None (λ (p : Port). first p) (λ x y. (l : Letter) → x ≡ Some l → y ≡ Some l) (λ x l h. h) ports k q d below look.same.other (more_front _ _ look.waiting);
}

-- what is read of the changed port
pub read_new : {X : Type 0} (none : X) (read : Port → X) (ports : List Port) (c k : ℕ) (q : Port) → IsPlaceOfPort ports c k → other q ≡ c → read_at none read (set ports k q) c ≡ read q
read_new none read ports c k q at leads =
    read_set none read ports c k q at leads c ∙ ap (λ (b : Bool). cond b (read q) (read_at none read ports c)) (eq-eqb c c refl)

logs_case : (n c : ℕ) (f : ℕ → List Message) (x : List Message) (m : Message) → x ≡ f c ++ m ∷ [] → cond (eqb n c) x (f n) ≡ add_to f c m n
logs_case n c f x m here = elim (cases_eq n c) [
  | inl same ↦ rw (eq-eqb n c same) (here ∙ ap (λ (i : ℕ). f i ++ m ∷ []) (sym same))
  | inr off ↦ rw (ne_eqb n c off) refl
]

-- one more message at the number to which the changed port leads
logs_set : (read : Port → List Message) (ports : List Port) (c k : ℕ) (q d : Port) (m : Message) → IsPlaceOfPort ports c k → other q ≡ other (get_or ports k d) → read q ≡ read (get_or ports k d) ++ m ∷ []
    → (n : ℕ) → read_at [] read (set ports k q) n ≡ add_to (read_at [] read ports) c m n
logs_set read ports c k q d m at leads more n =
    let leads' : other q ≡ c = leads ∙ (sym (other_at ports k d at.place) ∙ at.leads) in
    let here : read q ≡ read_at [] read ports c ++ m ∷ [] = more ∙ ap (λ (l : List Message). l ++ m ∷ []) (sym (read_here [] read ports c k d at)) in
    read_set [] read ports c k q at leads' n ∙ logs_case n c (read_at [] read ports) (read q) m here

pub put_set : (ports : List Port) (c k : ℕ) (q d : Port) (l : Letter) → IsPlaceOfPort ports c k → PutsLetter l (get_or ports k d) q → IsPut c l.message (ways_of_ports ports) (ways_of_ports (set ports k q))
put_set ports c k q d l at puts = record {
  sent = logs_set (λ (p : Port). messages (letters_put p)) ports c k q d l.message at puts.same.other (ap messages puts.put ∙ map-append (λ (x : Letter). x.message) (letters_put (get_or ports k d)) (l ∷ []));
  taken = read_more [] (λ (p : Port). messages (letters_taken p)) (λ x y. y ≡ x) (λ x. refl) ports k q d at.place puts.same.other (ap messages puts.taken);
  front = read_more None (λ (p : Port). first p) (λ x y. (l : Letter) → x ≡ Some l → y ≡ Some l) (λ x l h. h) ports k q d at.place puts.same.other
      (λ m h. ap (λ (w : List Letter). slice_get w 0) puts.waiting ∙ h);
}

pub take_set : (ports : List Port) (c k : ℕ) (q d : Port) (l : Letter) → IsPlaceOfPort ports c k → TakesLetter l (get_or ports k d) q → IsTake c l.message (ways_of_ports ports) (ways_of_ports (set ports k q))
take_set ports c k q d l at takes = record {
  sent = read_more [] (λ (p : Port). messages (letters_put p)) (λ x y. y ≡ x) (λ x. refl) ports k q d at.place takes.same.other (ap messages takes.put);
  taken = logs_set (λ (p : Port). messages (letters_taken p)) ports c k q d l.message at takes.same.other (ap messages takes.taken ∙ map-append (λ (x : Letter). x.message) (letters_taken (get_or ports k d)) (l ∷ []));
  room = read_more false (λ (p : Port). nat_lt 0 (free p)) (λ x y. x ≡ true → y ≡ true) (λ x h. h) ports k q d at.place takes.same.other (λ h. ap (nat_lt 0) takes.free ∙ h);
}

-- ---- as the calls of a port say it: p is the port at the place, and q what it became

pub looked : (ports : List Port) (k : ℕ) (p q : Port) → k < length ports → p ≡ get_or ports k p → Looks p q → IsLook (ways_of_ports ports) (ways_of_ports (set ports k q))
looked ports k p q below is look = look_set ports k q p below (subst (λ (x : Port). Looks x q) is look)

pub kept : (ports : List Port) (k : ℕ) (p q : Port) → k < length ports → p ≡ get_or ports k p → IsSamePort p q → AreSame ports (set ports k q)
kept ports k p q below is same = same_set ports k q p below (subst (λ (x : Port). IsSamePort x q) is same)

pub found_kept : (ports : List Port) (places : List ℕ) (k : ℕ) (p q : Port) → AreFound ports places → k < length ports → p ≡ get_or ports k p → IsSamePort p q → AreFound (set ports k q) places
found_kept ports places k p q found below is same = found_set ports places k q p found below (same.other ∙ ap (λ (x : Port). other x) is)

leads_there : (ports : List Port) (c k : ℕ) (p q : Port) → IsPlaceOfPort ports c k → p ≡ get_or ports k p → IsSamePort p q → other q ≡ c
leads_there ports c k p q at is same =
    same.other ∙ (ap (λ (x : Port). other x) is ∙ (sym (other_at ports k p at.place) ∙ at.leads))

pub no_truth : false ≡ true → ⊥
no_truth e = cc

truth_is : (b : Bool) (n : ℕ) → IsTrue b ↔ (0 < n) → b ≡ nat_lt 0 n
truth_is true n h = let some : 0 < n = h.0 refl in grind (arith, common_steps)
truth_is false zero h = refl
truth_is false (suc n) h = absurd (no_truth (h.1 (omega arith)))

pub room_seen : (ports : List Port) (c k : ℕ) (p q : Port) (b : Bool) → IsPlaceOfPort ports c k → p ≡ get_or ports k p → IsSamePort p q → IsTrue b ↔ (0 < free q) → b ≡ (ways_of_ports (set ports k q)).room c
room_seen ports c k p q b at is same value =
    truth_is b (free q) value ∙ sym (read_new false (λ (x : Port). nat_lt 0 (free x)) ports c k q at (leads_there ports c k p q at is same))

pub front_seen : (ports : List Port) (c k : ℕ) (p q : Port) → IsPlaceOfPort ports c k → p ≡ get_or ports k p → IsSamePort p q → first q ≡ (ways_of_ports (set ports k q)).front c
front_seen ports c k p q at is same = sym (read_new None (λ (x : Port). first x) ports c k q at (leads_there ports c k p q at is same))

pub room_there : (ports : List Port) (c k : ℕ) (p : Port) → IsPlaceOfPort ports c k → p ≡ get_or ports k p → (ways_of_ports ports).room c ≡ true → 0 < free p
room_there ports c k p at is room =
    let here : nat_lt 0 (free p) ≡ true = ap (λ (x : Port). nat_lt 0 (free x)) is ∙ (sym (read_here false (λ (x : Port). nat_lt 0 (free x)) ports c k p at) ∙ room) in
    grind (arith, common_steps)

pub front_there : (ports : List Port) (c k : ℕ) (p : Port) → IsPlaceOfPort ports c k → p ≡ get_or ports k p → (ways_of_ports ports).front c ≡ first p
front_there ports c k p at is = read_here None (λ (x : Port). first x) ports c k p at ∙ ap (λ (x : Port). first x) (sym is)

pub put_there : (ports : List Port) (c k : ℕ) (p q : Port) (l : Letter) → IsPlaceOfPort ports c k → p ≡ get_or ports k p → PutsLetter l p q → IsPut c l.message (ways_of_ports ports) (ways_of_ports (set ports k q))
put_there ports c k p q l at is puts = put_set ports c k q p l at (subst (λ (x : Port). PutsLetter l x q) is puts)

some_is : (l r : Letter) → Some r ≡ Some l → r ≡ l
some_is l r e = cc

pub take_there : (ports : List Port) (c k : ℕ) (p q : Port) (r : Letter) → IsPlaceOfPort ports c k → p ≡ get_or ports k p → TakesLetter r p q
    → (l : Letter) → (ways_of_ports ports).front c ≡ Some l → IsTake c l.message (ways_of_ports ports) (ways_of_ports (set ports k q))
take_there ports c k p q r at is takes l front =
    let one : first p ≡ Some r = ap (λ (w : List Letter). slice_get w 0) takes.waiting in
    let same : r ≡ l = some_is l r (sym one ∙ (sym (front_there ports c k p at is) ∙ front)) in
    subst (λ (x : Letter). IsTake c x.message (ways_of_ports ports) (ways_of_ports (set ports k q))) same
    (take_set ports c k q p r at (subst (λ (x : Port). TakesLetter r x q) is takes))
