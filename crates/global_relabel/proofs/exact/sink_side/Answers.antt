use Rattle.std.proofs.Common.{◌∙◌, ℕ, Bool, List, map, length, nat_lt, ap}
use Rattle.std.proofs.lemmas.List.{length-map}
use Rattle.flow_network.specs.Cut.{Network}
use Rattle.flow_network.specs.Progress.{top}
use Rattle.global_relabel.proofs.Bridge.{reach_of, if_ok}
use Rattle.global_relabel.proofs.exact.sink_side.Goals as goal

pub returns-clause-len : goal.returns-clause-len
returns-clause-len c =
    if_ok _ _ c.sink_side.result c.sink_side.ensures.bits
    (λ side bits. ap (length {A = Bool}) bits ∙ (length-map c.as_slice.result.now _ ∙ (ap (length {A = ℕ}) c.as_slice.ensures.value ∙ c.in_ok-labels.ensures.len)))

pub returns-clause-reach : goal.returns-clause-reach
returns-clause-reach c =
    let s = c.args.state.now in
    let labels = c.in_ok-labels.labels.items in
    if_ok _ _ c.sink_side.result c.sink_side.ensures.bits
    (λ side bits. reach_of s labels side.items c.in_ok-labels.ensures
    (bits ∙ (ap (λ (xs : List ℕ). map (λ label. nat_lt label (top c.graph.result.now)) xs) c.as_slice.ensures.value
    ∙ ap (λ (n : Network). map (λ label. nat_lt label (top n)) labels) (c.graph.ensures ∙ c.net.ensures.value))))
