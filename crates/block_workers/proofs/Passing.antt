-- The blocks of a worker, one turn after another.
use Rattle.std.proofs.Common.{◌≡◌, ℕ, ◌+◌, ◌*◌, ◌≤◌, ◌<◌, List, length, set, get_or, refl, sym, ◌∙◌, ap, subst, inl, inr, arith, get_or-set_other}
use Rattle.std.proofs.Math.Nat.{suc-mul}
use Rattle.std.proofs.lemmas.Bool.{cases_eq}
use Rattle.std.proofs.lemmas.List.{length-set}
use Rattle.std.proofs.lemmas.Grind.{common_steps, get_or-set_at}
use Rattle.block_workers.specs.declared.seat.Seat.{Seat}
use Rattle.block_workers.specs.Turns.{Went, WentOn, most, HasWorkedTurns}
use Rattle.block_workers.specs.Workers.{HasAdvanced, HasWorked, AllAdvanced, AllWorked, AreNew}
use Rattle.block_workers.proofs.Working.{went_none, went_more}

most_same : (a b : Seat) (n : ℕ) → Went n a b → most b ≡ most a
most_same a b n went = ap (λ (m : ℕ). m + 16) went.nodes

pub advanced_none : (a : Seat) → HasAdvanced a a
advanced_none a = record { count = 0; went = went_none a; few = omega arith }

pub advanced_look : (a b : Seat) → Went 0 a b → b.turn ≡ a.turn → HasAdvanced a b
advanced_look a b went turn =
    let same = ap (λ (n : ℕ). n * most a) turn in
    record { count = 0; went = went; few = omega (arith, same) }

pub advanced_turn : (a b : Seat) → WentOn a b → b.turn ≡ a.turn + 1 → HasAdvanced a b
advanced_turn a b on turn =
    let one : b.turn * most a ≡ (a.turn + 1) * most a = ap (λ (n : ℕ). n * most a) turn in
    let two = suc-mul a.turn (most a) in
    record { count = on.count; went = on.went; few = omega (arith, one, two, on.few) }

pub advanced_more : (a b c : Seat) → HasAdvanced a b → HasAdvanced b c → HasAdvanced a c
advanced_more a b c h k =
    let same = most_same a b h.count h.went in
    let few : k.count + b.turn * most a ≤ c.turn * most a = subst (λ (m : ℕ). k.count + b.turn * m ≤ c.turn * m) same k.few in
    record { count = h.count + k.count; went = went_more h.count k.count a b c h.went k.went; few = omega (arith, h.few, few) }

pub worked_begun : (a b : Seat) → HasWorkedTurns 1 a b → b.turn ≡ 0 → HasWorked a b
worked_begun a b h turn =
    let same : 1 * most a ≡ (b.turn + 1) * most a = ap (λ (n : ℕ). (n + 1) * most a) (sym turn) in
    record { count = h.count; went = h.went; few = omega (arith, h.few, same); some = h.some }

pub worked_advanced : (a b c : Seat) → HasWorked a b → HasAdvanced b c → HasWorked a c
worked_advanced a b c h k =
    let same = most_same a b h.count h.went in
    let few : k.count + b.turn * most a ≤ c.turn * most a = subst (λ (m : ℕ). k.count + b.turn * m ≤ c.turn * m) same k.few in
    let one = suc-mul b.turn (most a) in
    let two = suc-mul c.turn (most a) in
    record {
      count = h.count + k.count;
      went = went_more h.count k.count a b c h.went k.went;
      few = omega (arith, h.few, few, one, two);
      some = λ e sure. omega (arith, h.some e sure);
    }

-- ---- all of them

pub all_stay : (a : List Seat) → AllAdvanced a a
all_stay a = record { seats = refl; each = λ i d below. advanced_none (get_or a i d) }

pub all_more : (a b c : List Seat) → AllAdvanced a b → AllAdvanced b c → AllAdvanced a c
all_more a b c h k = record {
  seats = k.seats ∙ h.seats;
  each = λ i d below. advanced_more (get_or a i d) (get_or b i d) (get_or c i d) (h.each i d below) (k.each i d (omega (arith, below, h.seats)));
}

pub all_worked : (a b c : List Seat) → AllWorked a b → AllAdvanced b c → AllWorked a c
all_worked a b c h k = record {
  seats = k.seats ∙ h.seats;
  each = λ i d below. worked_advanced (get_or a i d) (get_or b i d) (get_or c i d) (h.each i d below) (k.each i d (omega (arith, below, h.seats)));
}

place_is : (a : List Seat) (k i : ℕ) (p d : Seat) → i ≡ k → k < length a → get_or a i d ≡ get_or a k p
place_is a k i p d same below = grind (arith, common_steps)

-- p is the block at the place, and x what it became
pub all_set : (a : List Seat) (k : ℕ) (p x : Seat) → k < length a → p ≡ get_or a k p → HasAdvanced p x → AllAdvanced a (set a k x)
all_set a k p x below is step = record {
  seats = length-set a k x;
  each = λ i d inside. elim (cases_eq i k) [
    | inl same ↦
        let here : get_or (set a k x) i d ≡ x = get_or-set_at a k i x d same below in
        let was : get_or a i d ≡ p = place_is a k i p d same below ∙ sym is in
        rw (here, was) step
    | inr other ↦ rw (get_or-set_other a k i x d other) (advanced_none (get_or a i d))
  ];
}

-- ---- turn 0 of one more block: b has it done at the places below k

pub begun_done : (a b : List Seat) (k : ℕ) (p x : Seat) → k < length b → k < length a → p ≡ get_or b k p → HasWorkedTurns 1 p x → x.turn ≡ p.turn → AreNew a
    → ((i : ℕ) (d : Seat) → i < k → HasWorked (get_or a i d) (get_or b i d)) → ((i : ℕ) (d : Seat) → k ≤ i → get_or b i d ≡ get_or a i d)
    → (i : ℕ) (d : Seat) → i < k + 1 → HasWorked (get_or a i d) (get_or (set b k x) i d)
begun_done a b k p x below inside is worked turn new done rest i d low = elim (cases_eq i k) [
  | inl same ↦
      let here : get_or (set b k x) i d ≡ x = get_or-set_at b k i x d same below in
      let was : get_or a i d ≡ p = place_is a k i p d same inside ∙ (sym (rest k p (omega arith)) ∙ sym is) in
      let first : p.turn ≡ 0 = ap (λ (s : Seat). s.turn) (sym was) ∙ new i d (omega arith) in
      rw (here, was) (worked_begun p x worked (turn ∙ first))
  | inr other ↦ rw (get_or-set_other b k i x d other) (done i d (omega arith))
]

pub begun_rest : (a b : List Seat) (k : ℕ) (x : Seat) → ((i : ℕ) (d : Seat) → k ≤ i → get_or b i d ≡ get_or a i d)
    → (i : ℕ) (d : Seat) → k + 1 ≤ i → get_or (set b k x) i d ≡ get_or a i d
begun_rest a b k x rest i d low = get_or-set_other b k i x d (omega arith) ∙ rest i d (omega arith)
