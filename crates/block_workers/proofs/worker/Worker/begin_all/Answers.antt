use Rattle.std.proofs.Common.{◌<◌, length, ◌∙◌, arith}
use Rattle.std.proofs.lemmas.List.{length-set}
use Rattle.std.proofs.lemmas.Grind.{common_steps}
use Rattle.block_workers.proofs.Passing.{begun_done, begun_rest}
use Rattle.block_workers.proofs.worker.Worker.begin_all.Goals as goal

pub loop-k-preserved : goal.loop-k-preserved
loop-k-preserved g c =
    let a = c.args.self.now.seats.items in
    let b = c.loop-k.self.seats.items in
    let inv = c.loop-k.invariant in
    let k = c.loop-k.k in
    let inside : k < length a = grind (arith, common_steps) in
    let below : k < length b = omega (arith, inv.seats, inside) in
    record {
      seats = length-set b k c.begin-self.new.self ∙ inv.seats;
      done = begun_done a b k c.index_mut.result.now c.begin-self.new.self below inside c.index_mut.ensures.value c.begin-self.ensures.worked c.begin-self.ensures.turn c.requires inv.done inv.rest;
      rest = begun_rest a b k c.begin-self.new.self inv.rest;
    }
