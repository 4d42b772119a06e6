use Rattle.std.proofs.Common.{arith}
use Rattle.flow_network.proofs.Bounds.{right_when}
use Rattle.flow_network.proofs.Certificate.{least_when}
use Rattle.flow_network.proofs.check.check_cut.Goals as goal

pub returns : goal.returns
returns c =
    let net = c.args.net.now in
    let solved = c.args.solved.now in
    let told = rw (c.as_slice.ensures.value, c.as_slice-2.ensures.value, c.as_slice-3.ensures.value) at c.is_certified.ensures in
    let right = right_when net solved (omega (arith, solved.sink_side.ok.0, c.len.ensures, c.nodes.ensures.value, c.if-len-nodes.false)) c.is_certified.result told in
    record { right = right; least = least_when net solved c.nodes.ensures.limits c.is_certified.result right }
