use Rattle.std.specs.Prelude.{◌≡◌, ◌+◌, get_or, vec_items, vec_len}
use Rattle.std.specs.Vec.Iter.{into_iter_items}
use Rattle.std.proofs.Common.{arith, below_more}
use Rattle.std.proofs.lemmas.Grind.{common_steps}
use Rattle.block_workers.proofs.Places.{at_place}
use Rattle.block_workers.specs.Workers.{AllWorked}
use Rattle.block_workers.proofs.crew.fn.all_work.scope.Goals as goal

pub loop-worker-preserved : goal.loop-worker-preserved
loop-worker-preserved g c =
    let was = c.loop-worker.invariant in
    let step = c.in-Some.ensures.steps in
    let pushed = c.push_reserved in
    let all = into_iter_items c.into_iter-worker-iterator.result in
    let done = vec_len c.loop-worker.handles in (
      grind (arith, common_steps),
      grind (arith, common_steps),
      was.2,
      was.3,
      (λ k d below. let h = was.4 (k + 1) d in grind (arith, common_steps)),
      λ k d e below.
          below_more (λ i. (d : _) (e : _) → (get_or (vec_items pushed.new.self) i d).promise.0.value ≡ get_or all i e) done
          (λ i low d e. let h = was.5 i d e low in grind (arith, common_steps))
          (λ d e. let h = was.4 0 e in grind (arith, common_steps))
          k (grind (arith, common_steps)) d e,
    )

pub loop-handle-preserved : goal.loop-handle-preserved
loop-handle-preserved g c =
    let was = c.loop-handle.invariant in
    let step = c.in-Some-handle.ensures.steps in
    let pushed = c.push_reserved-in-loop-handle in
    let all = into_iter_items c.into_iter-handle-iterator.result in
    let done = vec_len c.loop-handle.back in (
      grind (arith, common_steps),
      grind (arith, common_steps),
      (λ k d below. let h = was.2 (k + 1) d in grind (arith, common_steps)),
      λ k d e below.
          below_more (λ i. (d : _) (e : _) → AllWorked (get_or all i d).promise.0.value.seats.items (get_or (vec_items pushed.new.self) i e).seats.items) done
          (λ i low d e. let h = was.3 i d e low in grind (arith, common_steps))
          (λ d e.
          let h = was.2 0 d in
          let one : get_or all done d ≡ c.in-Some-handle.handle = grind (arith, common_steps) in
          let two : get_or (vec_items pushed.new.self) done e ≡ c.join.result = grind (arith, common_steps) in
          rw (one, two) c.join.ensures)
          k (grind (arith, common_steps)) d e,
    )

pub returns : goal.returns
returns g c = record {
  len = grind (arith, common_steps);
  each = λ i d below.
      let handles = into_iter_items c.into_iter-handle-iterator.result in
      let some = at_place handles i (grind (arith, common_steps)) in
      let h = c.loop-handle.invariant.3 i some d (grind (arith, common_steps)) in
      let p = c.loop-worker.invariant.5 i some d (grind (arith, common_steps)) in
      let e : (get_or handles i some).promise.0.value ≡ get_or (vec_items c.captures.workers) i d = grind (arith, common_steps) in
      rw e at h;
}
