use Rattle.std.proofs.Common.{◌≡◌, ℕ, ◌+◌, [], ◌∷◌, ◌++◌, List, Vec, Global, length, map, get_or, vec_capacity, sym, ◌∙◌, ap, subst, arith}
use Rattle.std.proofs.lemmas.Grind.{common_steps}
use Rattle.std.proofs.lemmas.List.{length-map, length_push, map-append, nil_from_length}
use Rattle.block_workers.specs.declared.port.Port.{Port}
use Rattle.block_rings.proofs.Joining.{row_at}
use Rattle.block_rings.specs.declared.pair.PortPair.{PortPair}
use Rattle.block_rings.specs.Links.{Link, link, links_of}
use Rattle.block_rings.specs.Pairing.{ArePaired, IsTakenOut}
use Rattle.block_rings.proofs.Pairing.{ready_left, ready_next, paired_left}
use Rattle.block_rings.proofs.ring_ends.pair_row.Goals as goal

pub loop-preserved : goal.loop-preserved
loop-preserved c =
    let lists_of = λ (rows : List (Vec Port Global)). map (λ (l : Vec Port Global). l.items) rows in
    let n = length c.args.lists.now.items in
    let old = lists_of c.loop.lists.items in
    let new = lists_of c.pair_last.new.lists.items in
    let pairs = c.loop.pairs.items in
    let p = c.pair_last.ensures.one.0 in
    let pushed = c.pair_last.ensures.one.1 in
    let was = c.loop.invariant in
    let out : IsTakenOut n c.args.b old new p = subst (λ (m : ℕ). IsTakenOut m c.args.b old new p) was.len c.pair_last.ensures.one.2 in
    let more : length c.pair_last.new.pairs.items ≡ length pairs + 1 = ap length pushed ∙ length_push pairs p in
    let links : links_of c.pair_last.new.pairs.items ≡ links_of pairs ++ link p ∷ [] =
    ap (λ (ps : List PortPair). links_of ps) pushed ∙ map-append (λ (x : PortPair). link x) pairs (p ∷ []) in
    let long_old = length-map c.loop.lists.items (λ (l : Vec Port Global). l.items) in
    let long_new = length-map c.pair_last.new.lists.items (λ (l : Vec Port Global). l.items) in
    record {
      len = sym long_new ∙ (out.len ∙ (long_old ∙ was.len));
      ready = rw (more, c.pair_last.ensures.capacity) (ready_left n c.args.b old new p out (c.args.b + 1) (length pairs) (vec_capacity c.loop.pairs) was.ready);
      row = (let before = was.row in let less = out.row in omega (arith, before, less));
      paired = λ first h. subst (λ (ls : List Link). ArePaired n first new ls) (sym links)
          (paired_left n c.args.b old new p out first (links_of pairs) c.requires.block (was.paired first h));
    }

pub returns-clause-ready : goal.returns-clause-ready
returns-clause-ready c =
    let was = c.loop.invariant in
    let items = λ (l : Vec Port Global). l.items in
    let row = get_or (map items c.loop.lists.items) c.args.b [] in
    let before = ap length (row_at items c.args.lists.now.items c.args.b c.index.result.now c.requires.block c.index.ensures) in
    let now = was.row in
    ready_next (length c.args.lists.now.items) c.args.b _ _ _ (nil_from_length row (grind (arith, common_steps))) was.ready
