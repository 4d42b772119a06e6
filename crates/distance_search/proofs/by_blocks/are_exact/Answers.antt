use Rattle.std.proofs.Common.{◌<◌, true, [], length, arith}
use Rattle.distance_search.specs.declared.by_blocks.Share.{Share}
use Rattle.distance_search.proofs.ExactBlocks.{exact_by_blocks}
use Rattle.distance_search.proofs.by_blocks.are_exact.Goals as goal

pub returns : goal.returns
returns g c all =
    let d : Share = record { labels = []; has_news = true; is_exact = true } in
    exact_by_blocks c.args.state.now c.args.labels.now c.blocks-sound.ensures.sound c.requires.labels
    (λ b lb.
    let there : b < length c.test_all.new.shares = omega (arith, lb, c.requires.shares, c.test_all.auto.shares) in
    (c.test_all.ensures b d there).0 (c.all_exact.ensures.0 all b d there))
