use Rattle.std.proofs.Common.{refl, ◌<◌, length, ◌∙◌, ap, arith}
use Rattle.std.proofs.lemmas.Grind.{common_steps}
use Rattle.std.proofs.lemmas.List.{length-map}
use Rattle.block_rings.specs.declared.pair.PortPair.{PortPair}
use Rattle.block_rings.specs.Links.{link}
use Rattle.block_rings.proofs.Seeing.{links_kept, seen_more}
use Rattle.block_rings.proofs.rings.see_all.Goals as goal

pub loop-k-init : goal.loop-k-init
loop-k-init c = record { same = refl; seen = λ i d low. absurd (omega (arith, low)) }

pub loop-k-preserved : goal.loop-k-preserved
loop-k-preserved c =
    let was = c.loop-k.invariant in
    let low : c.loop-k.k < length c.loop-k.pairs.items = grind (arith, common_steps) in
    record {
      same = links_kept c.loop-k.pairs.items c.loop-k.k c.index_mut.result.now c.see.new.self low c.index_mut.ensures.value c.see.ensures.same ∙ was.same;
      seen = seen_more _ c.loop-k.pairs.items c.loop-k.k c.index_mut.result.now was.same low c.index_mut.ensures.value c.see.ensures.seen was.seen;
    }

pub returns-clause-same : goal.returns-clause-same
returns-clause-same c = c.loop-k.invariant.same

pub returns-clause-seen : goal.returns-clause-seen
returns-clause-seen c = λ i d below.
    let same = ap length c.loop-k.invariant.same in
    let long = length-map c.loop-k.pairs.items (λ (p : PortPair). link p) in
    c.loop-k.invariant.seen i d (grind (arith, common_steps))
