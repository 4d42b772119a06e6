use Rattle.std.specs.Prelude.{◌≡◌, ℕ, ◌+◌, ◌<◌, get_or, vec_items, vec_len, vec_capacity}
use Rattle.std.specs.Vec.Iter.{into_iter_items, into_iter_len}
use Rattle.block_workers.specs.Workers.{AllWorked}
use Rattle.block_workers.proofs.crew.fn.all_work.scope.Given as goal

abbrev pub invariant-loop-worker : goal.invariant-loop-worker
invariant-loop-worker g l =
    let all = l.initial.worker-iterator in let rest = l.worker-iterator in let done = vec_len l.handles in
    (done + into_iter_len rest ≡ into_iter_len all)
    × (vec_capacity l.handles ≡ into_iter_len all)
    × (vec_len l.back ≡ 0)
    × (vec_capacity l.back ≡ into_iter_len all)
    × ((k : ℕ) (d : _) → k < into_iter_len rest → get_or (into_iter_items rest) k d ≡ get_or (into_iter_items all) (done + k) d)
    × ((k : ℕ) (d : _) (e : _) → k < done → (get_or (vec_items l.handles) k d).promise.0.value ≡ get_or (into_iter_items all) k e)

abbrev pub invariant-loop-handle : goal.invariant-loop-handle
invariant-loop-handle g l =
    let all = l.initial.handle-iterator in let rest = l.handle-iterator in let done = vec_len l.back in
    (done + into_iter_len rest ≡ into_iter_len all)
    × (vec_capacity l.back ≡ into_iter_len all)
    × ((k : ℕ) (d : _) → k < into_iter_len rest → get_or (into_iter_items rest) k d ≡ get_or (into_iter_items all) (done + k) d)
    × ((k : ℕ) (d : _) (e : _) → k < done → AllWorked (get_or (into_iter_items all) k d).promise.0.value.seats.items (get_or (vec_items l.back) k e).seats.items)
