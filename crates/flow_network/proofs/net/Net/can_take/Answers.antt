use Rattle.std.proofs.Common.{◌≡◌, ◌+◌, ◌<◌, ◌≤◌, ℕ, IsTrue, Option, Some, None, MatchOption, refl, sym, ◌∙◌, arith, sum_by}
use Rattle.std.specs.Option.{is_some}
use Rattle.std.proofs.lemmas.Bool.{false≢true}
use Rattle.flow_network.proofs.Widening.{extras-small, widened_net}
use Rattle.flow_network.proofs.net.Net.can_take.Goals as goal

some_left : (rest : Option ℕ) (room all : ℕ) → MatchOption rest (room < all) (λ left. left + all ≡ room) → IsTrue (is_some rest) → all ≤ room
some_left None room all h t = absurd (false≢true t)
some_left (Some left) room all h t = omega (arith, h)

left_some : (rest : Option ℕ) (room all : ℕ) → MatchOption rest (room < all) (λ left. left + all ≡ room) → all ≤ room → IsTrue (is_some rest)
left_some None room all h l = absurd (omega (arith, h, l))
left_some (Some left) room all h l = refl

pub returns-in_default-room_after-2 : goal.returns-in_default-room_after-2
returns-in_default-room_after-2 c =
    let net = c.args.self.now in
    let more = c.args.more.now in
    let h = c.nodes.ensures.limits in
    let s1 = rw c.sources.ensures.value at c.in-Some.ensures in
    let s2 = rw c.sinks.ensures.value at c.in-Some-room_after.ensures in (
      (λ t. absurd (false≢true t)),
      (λ e. absurd (omega (arith, extras-small net more h e, s1, s2, c.in_default-room_after-2.ensures))),
    )

pub returns : goal.returns
returns c =
    let net = c.args.self.now in
    let more = c.args.more.now in
    let h = c.nodes.ensures.limits in
    let all = sum_by (λ arc. arc.capacity) net.arcs in
    let told : MatchOption c.room_after_arcs.result (c.in-Some-room_after-2.after_more < all) (λ left. left + all ≡ c.in-Some-room_after-2.after_more) =
    rw c.arcs.ensures.value at c.room_after_arcs.ensures in
    let len = c.if-more-nodes.false ∙ c.nodes.ensures.value in
    let s1 = rw c.sources.ensures.value at c.in-Some.ensures in
    let s2 = rw c.sinks.ensures.value at c.in-Some-room_after.ensures in (
      (λ t. widened_net net more h len
          (omega (arith, some_left c.room_after_arcs.result c.in-Some-room_after-2.after_more all told (sym c.is_some.ensures ∙ t), s1, s2, c.in-Some-room_after-2.ensures))),
      (λ e. c.is_some.ensures ∙ left_some c.room_after_arcs.result c.in-Some-room_after-2.after_more all told
          (omega (arith, extras-small net more h e, s1, s2, c.in-Some-room_after-2.ensures))),
    )
