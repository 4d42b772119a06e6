use Rattle.std.proofs.Common.{ℕ, ◌-◌, List, Vec, Global, length, map, vec_capacity, ◌∙◌, subst}
use Rattle.block_workers.specs.declared.port.Port.{Port}
use Rattle.block_rings.specs.Links.{links_of}
use Rattle.block_rings.specs.Pairing.{IsReadyToPair, Pairs}
use Rattle.block_rings.proofs.ring_ends.pair_all.Goals as goal

pub loop-b-preserved : goal.loop-b-preserved
loop-b-preserved c =
    let lists_of = λ (rows : List (Vec Port Global)). map (λ (l : Vec Port Global). l.items) rows in
    let was = c.loop-b.invariant in
    let after = c.pair_row.ensures in
    record {
      len = after.len ∙ was.len;
      ready = subst (λ (m : ℕ). IsReadyToPair m (c.loop-b.b - 1) (lists_of c.pair_row.new.lists.items) (length c.pair_row.new.pairs.items) (vec_capacity c.pair_row.new.pairs)) was.len after.ready;
      paired = λ first h.
          subst (λ (m : ℕ). Pairs m (lists_of c.loop-b.lists.items) (links_of c.loop-b.pairs.items) (lists_of c.pair_row.new.lists.items) (links_of c.pair_row.new.pairs.items)) was.len after.paired first (was.paired first h);
    }
