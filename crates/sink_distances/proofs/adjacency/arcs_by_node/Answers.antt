use Rattle.sink_distances.proofs.Ends.{tails_within, heads_within}
use Rattle.sink_distances.proofs.adjacency.arcs_by_node.Goals as goal

pub group-requires-clause-within : goal.group-requires-clause-within
group-requires-clause-within c =
    tails_within c.args.net.now c.arcs.result.now c.in_ok-tails.tails.items c.as_slice.result.now c.nodes.result
    c.nodes.ensures.limits c.arcs.ensures.value c.in_ok-tails.ensures c.as_slice.ensures.value c.nodes.ensures.value

pub group-requires-2-clause-within : goal.group-requires-2-clause-within
group-requires-2-clause-within c =
    heads_within c.args.net.now c.arcs-2.result.now c.in_ok-heads.heads.items c.as_slice-2.result.now c.nodes-2.result
    c.nodes-2.ensures.limits c.arcs-2.ensures.value c.in_ok-heads.ensures c.as_slice-2.ensures.value c.nodes-2.ensures.value
