use Rattle.std.proofs.Common.{List, ℕ, map, nat_lt, ◌∙◌, ap}
use Rattle.flow_network.specs.Cut.{Network}
use Rattle.flow_network.specs.Progress.{top}
use Rattle.cut_in_blocks.proofs.Answering.{shown_right, shown_smallest}
use Rattle.cut_in_blocks.proofs.solution.answer_of.Goals as goal

pub returns-clause-certified : goal.returns-clause-certified
returns-clause-certified c =
    let s = c.args.state.now in
    let labels = c.args.workspace.labels.items in
    let side = c.in_ok-side.ensures.bits
    ∙ (ap (λ (xs : List ℕ). map (λ label. nat_lt label (top c.graph.result.now)) xs) c.as_slice.ensures.value
    ∙ ap (λ (n : Network). map (λ label. nat_lt label (top n)) labels) (c.graph.ensures ∙ c.net.ensures.value)) in
    shown_right s labels _ c.net.ensures.sound c.requires.finished (record { exact = c.requires.exact; flow = c.in_ok-flow.ensures; side = side; value = c.got.ensures })

pub returns-clause-smallest : goal.returns-clause-smallest
returns-clause-smallest c =
    let s = c.args.state.now in
    let labels = c.args.workspace.labels.items in
    let side = c.in_ok-side.ensures.bits
    ∙ (ap (λ (xs : List ℕ). map (λ label. nat_lt label (top c.graph.result.now)) xs) c.as_slice.ensures.value
    ∙ ap (λ (n : Network). map (λ label. nat_lt label (top n)) labels) (c.graph.ensures ∙ c.net.ensures.value)) in
    shown_smallest s labels (record { arc_flow = c.in_ok-flow.flow.0; sink_flow = c.in_ok-flow.flow.1; sink_side = c.in_ok-side.side; value = c.got.result }) c.net.ensures.sound c.requires.finished (record { exact = c.requires.exact; flow = c.in_ok-flow.ensures; side = side; value = c.got.ensures })
