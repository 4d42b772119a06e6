-- One turn after another.
use Rattle.std.proofs.Common.{◌≡◌, ℕ, ◌+◌, ◌≤◌, ◌<◌, refl, ◌∙◌, ap, arith}
use Rattle.std.proofs.Math.Nat.{suc-mul}
use Rattle.block_discharge.specs.Seen.{IsLook}
use Rattle.block_discharge.specs.Steps.{turn_view, Step, IsSure}
use Rattle.block_discharge.proofs.Runs.{many_more, look_same, does_look}
use Rattle.block_workers.specs.declared.seat.Seat.{Seat}
use Rattle.block_workers.specs.Ends.{ports}
use Rattle.block_workers.specs.Seeing.{AreSame, ways_of_ports}
use Rattle.block_workers.specs.Turns.{Went, WentOn, HasWorkedTurns, most}
use Rattle.block_workers.proofs.Looking.{same_ports, same_more}

-- looks alone
pub went_look : (old new : Seat) → new.number ≡ old.number → new.nodes ≡ old.nodes → new.block ≡ old.block → AreSame (ports old.ends) (ports new.ends) → IsLook (ways_of_ports (ports old.ends)) (ways_of_ports (ports new.ends))
    → Went 0 old new
went_look old new number nodes block same look = record {
  number = number;
  nodes = nodes;
  ends = same;
  does = rw block (does_look old.block (ways_of_ports (ports old.ends)) (ways_of_ports (ports new.ends)) look).run;
}

pub went_none : (seat : Seat) → Went 0 seat seat
went_none seat = went_look seat seat refl refl refl (same_ports (ports seat.ends)) (look_same (ways_of_ports (ports seat.ends)))

pub went_more : (m n : ℕ) (a b c : Seat) → Went m a b → Went n b c → Went (m + n) a c
went_more m n a b c h k = record {
  number = k.number ∙ h.number;
  nodes = k.nodes ∙ h.nodes;
  ends = same_more (ports a.ends) (ports b.ends) (ports c.ends) h.ends k.ends;
  does = many_more (turn_view a.block (ways_of_ports (ports a.ends))) (turn_view b.block (ways_of_ports (ports b.ends))) (turn_view c.block (ways_of_ports (ports c.ends))) m n h.does k.does;
}

-- turn 0
pub worked_one : (a b : Seat) (n : ℕ) → Went n a b → n ≤ most a → ((e : Step) → IsSure a.block (ways_of_ports (ports a.ends)) e → 0 < n) → HasWorkedTurns 1 a b
worked_one a b n went few some = record { count = n; went = went; few = omega (arith, few); some = some }

-- one more turn
pub worked_more : (turns : ℕ) (a b c : Seat) → HasWorkedTurns turns a b → WentOn b c → HasWorkedTurns (turns + 1) a c
worked_more turns a b c h k = record {
  count = h.count + k.count;
  went = went_more h.count k.count a b c h.went k.went;
  few =
      let one = suc-mul turns (most a) in
      let same : most b ≡ most a = ap (λ (n : ℕ). n + 16) h.went.nodes in
      omega (arith, h.few, k.few, one, same);
  some = λ e sure. omega (arith, h.some e sure);
}
