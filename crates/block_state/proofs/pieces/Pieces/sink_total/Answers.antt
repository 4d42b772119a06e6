use Rattle.std.proofs.Common.{◌≡◌, ◌∙◌, ◌+◌, ◌≤◌, length, sum, ap, add-one, arith}
use Rattle.sums.specs.Sums.{sum_below}
use Rattle.block_net.specs.Whole.{Whole}
use Rattle.block_split.specs.Split.{whole_of}
use Rattle.block_state.specs.Pieces.{state_in, given_by}
use Rattle.block_state.proofs.Given.{some_blocks, given_all}
use Rattle.block_state.proofs.pieces.Pieces.sink_total.Goals as goal

pub overflow_add-given : goal.overflow_add-given
overflow_add-given c =
    let w : Whole = whole_of c.args.self.now.net c.args.self.now.parts in
    let b = c.each.block in
    let more : sum_below b (given_by w) + given_by w b ≤ sum w.net.sinks = rw add-one at (some_blocks w (b + 1) c.requires.laid (omega (arith, c.each-test.true, c.len-block-end.ensures))) in
    let was : c.each.given ≡ sum_below b (given_by w) = c.each.invariant in
    omega (arith, more, was, c.given_in-given.ensures, c.requires.laid.net.total)

pub each-preserved : goal.each-preserved
each-preserved c =
    let w : Whole = whole_of c.args.self.now.net c.args.self.now.parts in
    let b = c.each.block in
    let was : c.each.given ≡ sum_below b (given_by w) = c.each.invariant in
    let next : c.each.given + c.given_in-given.result ≡ sum_below (b + 1) (given_by w) = rw add-one (omega (arith, was, c.given_in-given.ensures)) in
    next

pub returns : goal.returns
returns c =
    let w : Whole = whole_of c.args.self.now.net c.args.self.now.parts in
    let all : c.each.block ≡ length w.blocks = omega (arith, c.each-test.false, c.each.auto.block-end, c.len-block-end.ensures) in
    let was : c.each.given ≡ sum_below c.each.block (given_by w) = c.each.invariant in
    ap (λ k. k + sum (state_in c.args.self.now).rooms) (was ∙ ap (λ k. sum_below k (given_by w)) all) ∙ given_all w c.requires.laid c.requires.rooms
