use Rattle.std.proofs.Common.{◌≡◌, All, IfOk, length}
use Rattle.std.specs.Vec.Iter.{into_iter_items}
use Rattle.part_threads.specs.Drawing.{OfDrawnParts, OfPlaces}
use Rattle.part_threads.proofs.drawing.collect_answers.Given as goal

abbrev pub invariant-loop-hand : goal.invariant-loop-hand
invariant-loop-hand g l = record {
  count : length l.places.items ≡ l.count;
  right : OfPlaces (λ i answer. (goal.Fn-dyn g).post l.work.now (i, tt) answer) l.places.items;
  left : All (λ hand. IfOk hand (λ parts. OfDrawnParts (λ i answer. (goal.Fn-dyn g).post l.work.now (i, tt) answer) parts.items)) (into_iter_items l.hand-iterator);
}

abbrev pub invariant-loop-drawn : goal.invariant-loop-drawn
invariant-loop-drawn g l = record {
  count : length l.places.items ≡ l.count;
  right : OfPlaces (λ i answer. (goal.Fn-dyn g).post l.work.now (i, tt) answer) l.places.items;
  left : OfDrawnParts (λ i answer. (goal.Fn-dyn g).post l.work.now (i, tt) answer) (into_iter_items l.drawn-iterator);
}
