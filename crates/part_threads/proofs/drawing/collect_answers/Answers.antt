use Rattle.std.proofs.Common.{◌≡◌, ◌∷◌, ◌∙◌, ℕ, List, subst, arith, All, IfOk, Result}
use Rattle.std.specs.Global.{Vec}
use Rattle.std.specs.declared.alloc.AllocError.{AllocError}
use Rattle.std.specs.Vec.Iter.{into_iter_items}
use Rattle.std.proofs.lemmas.Grind.{common_steps}
use Rattle.std.proofs.lemmas.List.Elements.{All-head, All-tail}
use Rattle.part_threads.specs.declared.drawing.DrawnPart.{DrawnPart}
use Rattle.part_threads.specs.Drawing.{PartBytes, OfDrawnParts}
use Rattle.part_threads.proofs.Placing.{place_answer}
use Rattle.part_threads.proofs.drawing.collect_answers.Goals as goal

pub loop-drawn-preserved : goal.loop-drawn-preserved
loop-drawn-preserved g c =
    let inv = c.loop-drawn.invariant in
    let drawn = c.in-Some-drawn.drawn in
    let rest = into_iter_items c.next-in-loop-drawn.new.self in
    let head : into_iter_items c.loop-drawn.drawn-iterator ≡ drawn ∷ rest = grind (arith, common_steps) in
    let P : ℕ → PartBytes → Type 0 = λ i answer. (goal.Fn-dyn g).post c.args.work.now (i, tt) answer in
    let left = subst (λ (parts : List DrawnPart). OfDrawnParts P parts) head inv.left in
    let put = c.put_answer.ensures in
    record {
      count = put.count ∙ inv.count;
      right = place_answer P c.loop-drawn.places.items c.put_answer.new.places.items drawn put.count put.there put.others inv.right
          (All-head (λ (one : DrawnPart). P one.part one.answer) drawn rest left);
      left = All-tail (λ (one : DrawnPart). P one.part one.answer) drawn rest left;
    }

pub loop-hand-preserved : goal.loop-hand-preserved
loop-hand-preserved g c =
    let head : into_iter_items c.loop-hand.hand-iterator ≡ c.in-Some.hand ∷ into_iter_items c.next.new.self = grind (arith, common_steps) in
    let P : Result (Vec DrawnPart) AllocError → Type 0 = λ hand. IfOk hand (λ parts. OfDrawnParts (λ i answer. (goal.Fn-dyn g).post c.args.work.now (i, tt) answer) parts.items) in
    record {
      count = c.loop-drawn.invariant.count;
      right = c.loop-drawn.invariant.right;
      left = All-tail P c.in-Some.hand (into_iter_items c.next.new.self) (subst (λ hands. All P hands) head c.loop-hand.invariant.left);
    }
