use Rattle.std.proofs.Common.{◌≡◌, ℕ, Bool, List, length, map, nat_lt, ◌∙◌, ap}
use Rattle.std.proofs.lemmas.List.{length-map}
use Rattle.flow_network.specs.Cut.{Network, set_of}
use Rattle.flow_network.specs.Progress.{top}
use Rattle.block_events.proofs.Finishing.{finished_smallest}
use Rattle.global_relabel.proofs.Bridge.{reach_of}
use Rattle.cut_in_blocks.proofs.solution.least_side.Goals as goal

pub returns-clause-bits : goal.returns-clause-bits
returns-clause-bits c =
    let s = c.args.state.now in
    let labels = c.args.workspace.now.labels.items in
    let side = c.in_ok-side.ensures.bits
    ∙ (ap (λ (xs : List ℕ). map (λ label. nat_lt label (top c.graph.result.now)) xs) c.as_slice.ensures.value
    ∙ ap (λ (n : Network). map (λ label. nat_lt label (top n)) labels) (c.graph.ensures ∙ c.net.ensures.value)) in
    ap (length {A = Bool}) side ∙ (length-map labels (λ label. nat_lt label (top s.net)) ∙ c.requires.exact.len)

pub returns-clause-smallest : goal.returns-clause-smallest
returns-clause-smallest c =
    let s = c.args.state.now in
    let labels = c.args.workspace.now.labels.items in
    let side = c.in_ok-side.ensures.bits
    ∙ (ap (λ (xs : List ℕ). map (λ label. nat_lt label (top c.graph.result.now)) xs) c.as_slice.ensures.value
    ∙ ap (λ (n : Network). map (λ label. nat_lt label (top n)) labels) (c.graph.ensures ∙ c.net.ensures.value)) in
    finished_smallest s (set_of c.in_ok-side.side.items) c.net.ensures.sound c.requires.finished (reach_of s labels c.in_ok-side.side.items c.requires.exact side)
