use Rattle.std.proofs.Common.{◌≡◌, ◌≤◌, ◌⊎◌, inl, inr, refl, ◌∙◌, arith}
use Rattle.flow_network.specs.Progress.{top}
use Rattle.block_events.specs.States.{State}
use Rattle.block_net.specs.Whole.{Whole, state_shown}
use Rattle.block_split.specs.Split.{whole_of}
use Rattle.net_in_blocks.specs.Views.{blocks_in}
use Rattle.net_in_blocks.proofs.Steps.{at_read, room_read, top_read}
use Rattle.global_relabel.specs.Local.{GivesSink}
use Rattle.global_relabel.proofs.Nearby.{exact_of_least, least_of_exact, not_between}
use Rattle.global_relabel.proofs.exactness.is_node_exact.Goals as goal

pub is_label-requires : goal.is_label-requires
is_label-requires c =
    omega (arith, c.sink_label-start.ensures.below, c.least_within-within.ensures.below, c.least_beyond-least.ensures.below, c.top.ensures.value)

pub returns : goal.returns
returns c =
    let w : Whole = whole_of c.args.split.now.net.now c.args.split.now.parts.now in
    let b = c.args.at.block in
    let B = c.index-cells.result.now in
    let v = c.args.at.node in
    let p = c.args.at.place in
    let at = at_read w (blocks_in w) b B c.requires.laid refl c.requires.spot.block c.index-cells.ensures in
    let s : State = state_shown w in
    let labels = c.args.labels.now in
    let highest = top_read w (blocks_in w) b B at in
    let room = room_read w (blocks_in w) b B v p at c.requires.spot in
    let start = c.sink_label-start.result in
    let within = c.least_within-within.result in
    let least = c.least_beyond-least.result in
    let low : start ≤ top s.net = omega (arith, c.sink_label-start.ensures.below, highest) in
    let sink : GivesSink s v → start ≤ 1 = λ gives. c.sink_label-start.ensures.sink (omega (arith, gives, room)) in
    let begins : (start ≡ top s.net) ⊎ ((start ≡ 1) × GivesSink s v) = elim c.sink_label-start.ensures.reason [
      | inl high ↦ inl (high ∙ highest)
      | inr one ↦ inr (one.0, omega (arith, one.1, room))
    ] in
    let inner = c.least_within-within.ensures in
    let outer = c.least_beyond-least.ensures in
    let end : c.top.result ≡ top s.net = c.top.ensures.value ∙ highest in (
      (λ yes.
          let is = c.is_label.ensures.0 yes in
          exact_of_least s labels v start within least low sink begins inner outer is.0 (λ same. is.1 (omega (arith, same, end)))),
      λ exact. c.is_label.ensures.1 (
        least_of_exact s labels v start within least low sink begins inner outer exact,
        λ same. not_between s labels v start within least low sink begins inner outer exact (omega (arith, same, end)),
      ),
    )
