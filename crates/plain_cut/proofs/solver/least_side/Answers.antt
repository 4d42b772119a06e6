use Rattle.std.proofs.Common.{ℕ, Bool, nat_lt, ap, ◌∙◌, length, IfOk}
use Rattle.std.proofs.lemmas.List.{length-map}
use Rattle.std.proofs.lemmas.Result.{IfOk-weaker}
use Rattle.flow_network.specs.Cut.{set_of}
use Rattle.flow_network.specs.Preflow.{IsReach}
use Rattle.flow_network.specs.Progress.{top}
use Rattle.plain_cut.specs.State.{work_flow}
use Rattle.plain_cut.proofs.Zeros.{zeros_reach}
use Rattle.plain_cut.proofs.Solving.{solved_smallest}
use Rattle.plain_cut.proofs.solver.least_side.Goals as goal

pub returns : goal.returns
returns c =
    let net = c.args.net.now in
    let w = c.args.work.now in
    let exact = c.requires.exact in
    let labels = c.as_slice.ensures.value in
    let reach : IfOk c.side_below.result (λ side. IsReach net (work_flow net w) (set_of side.items)) =
    IfOk-weaker c.side_below.result _ _ (λ side known.
    zeros_reach net (work_flow net w) w.excess.items w.labels.items side.items c.requires.work.zeros exact (rw labels at known)) c.side_below.ensures.bits in
    record {
      bits = IfOk-weaker c.side_below.result _ _ (λ side known.
          ap (length {A = Bool}) known ∙ (length-map c.as_slice.result.now (λ label. nat_lt label (top net)) ∙ (ap (length {A = ℕ}) c.as_slice.ensures.value ∙ exact.len))) c.side_below.ensures.bits;
      reach = reach;
      smallest = IfOk-weaker c.side_below.result _ _ (λ side known.
          solved_smallest net w (set_of side.items) c.requires.limits c.requires.work c.requires.finished exact known) reach;
    }
