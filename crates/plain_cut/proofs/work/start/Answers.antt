use Rattle.std.proofs.Common.{◌∙◌, ap, arith, replicate, List, ℕ}
use Rattle.plain_cut.proofs.Starting.{start_work}
use Rattle.plain_cut.proofs.work.start.Goals as goal

pub returns-clause-work : goal.returns-clause-work
returns-clause-work c =
    let one_to : ℕ → List ℕ = λ n. replicate n 1 in
    start_work c.args.net.now _ c.nodes-nodes.ensures.limits
    c.requires.rows c.requires.empty
    c.requires.sinks c.requires.sources
    (c.in_ok-ones.ensures ∙ ap one_to c.nodes-nodes.ensures.value)
    (rw (c.reserve_exact.ensures.items, c.clear.ensures.items) (λ k d l. absurd (omega (arith, l))))
