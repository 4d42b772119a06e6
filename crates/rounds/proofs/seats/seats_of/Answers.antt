use Rattle.std.proofs.Common.{◌≡◌, ℕ, ◌<◌, ◌≤◌, ◌+◌, [], ◌∷◌, ◌++◌, length, get_or, sym, ◌∙◌, ap, subst, arith}
use Rattle.std.specs.Vec.Iter.{into_iter_items}
use Rattle.std.proofs.lemmas.Grind.{common_steps}
use Rattle.std.proofs.lemmas.List.Elements.{All-rest}
use Rattle.flow_network.specs.Limits.{node_limit}
use Rattle.block_net.specs.Views.{CellsView, count}
use Rattle.block_workers.specs.declared.seat.Seat.{Seat}
use Rattle.rounds.proofs.Seating.{each_more}
use Rattle.rounds.proofs.seats.seats_of.Goals as goal

pub loop-cells-preserved : goal.loop-cells-preserved
loop-cells-preserved c =
    let was = c.loop-cells.invariant in
    let seats = c.loop-cells.seats.items in
    let seat = c.in_ok-seat_of.field-0 in
    let is = c.in_ok-seat_of.ensures in
    let items : c.push_reserved.new.self.items ≡ seats ++ seat ∷ [] = grind (arith, common_steps) in
    let step : into_iter_items c.loop-cells.cells-iterator ≡ c.in-Some.cells ∷ into_iter_items c.next.new.self = grind (arith, common_steps) in
    let long : length (into_iter_items c.loop-cells.cells-iterator) ≡ length (into_iter_items c.next.new.self) + 1 = (let e = ap length step in omega (arith, e)) in
    record {
      hold = grind (arith, common_steps);
      have = grind (arith, common_steps);
      number = grind (arith, common_steps);
      many = grind (arith, common_steps);
      room = grind (arith, common_steps);
      few = (let e = was.few in omega (arith, e, long));
      small = All-rest (λ B. count B ≤ node_limit) c.in-Some.cells (into_iter_items c.next.new.self) (into_iter_items c.loop-cells.cells-iterator) step was.small;
      numbers = subst (λ l. (b : ℕ) (d : Seat) → b < length l → (get_or l b d).number ≡ b) (sym items)
          (each_more (λ b s. s.number ≡ b) seats seat was.numbers (is.number ∙ sym was.number));
      nodes = subst (λ l. (b : ℕ) (d : Seat) → b < length l → (get_or l b d).nodes ≡ count (get_or l b d).block) (sym items)
          (each_more (λ b s. s.nodes ≡ count s.block) seats seat was.nodes (is.nodes ∙ sym (ap (λ (B : CellsView). count B) is.block)));
      new = subst (λ l. (b : ℕ) (d : Seat) → b < length l → (get_or l b d).turn ≡ 0) (sym items)
          (each_more (λ b s. s.turn ≡ 0) seats seat was.new is.turn);
    }
