use Rattle.std.proofs.Common.{◌≡◌, ◌<◌, ◌∙◌, IsTrue, length, refl, sym, subst, inl, inr, arith}
use Rattle.std.proofs.lemmas.Bool.{cases_lt, true≢false}
use Rattle.net_in_blocks.specs.Views.{blocks_in}
use Rattle.block_split.specs.Split.{whole_of}
use Rattle.net_in_blocks.proofs.Steps.{at_read}
use Rattle.cut_in_blocks.specs.Opening.{IsFlat}
use Rattle.cut_in_blocks.proofs.Opened.{zeros_of_flat, flat_of_zeros}
use Rattle.cut_in_blocks.proofs.opening.are_labels_zero.Goals as goal

pub each-preserved : goal.each-preserved
each-preserved c b l =
    let p = c.parts-parts.result.now in
    let w = whole_of c.args.state.now.net p in
    let lb : c.each.b < length p.blocks.items = omega (arith, c.each-test.true, c.len-b-end.ensures) in
    let at = at_read w (blocks_in w) c.each.b c.index.result.now c.parts-parts.ensures.laid refl lb c.index.ensures in
    elim (cases_lt b c.each.b) [
      | inl before ↦ c.each.invariant b before
      | inr here ↦
          let same : b ≡ c.each.b = omega (arith, here, l) in
          rw same (subst IsFlat (sym at.is) (c.is_flat.ensures.0 c.if-not-is_flat.false))
    ]

pub returns-clause-zero : goal.returns-clause-zero
returns-clause-zero c = λ yes.
    zeros_of_flat c.args.state.now c.parts-parts.result.now c.parts-parts.ensures
    (λ b lb. c.each.invariant b (omega (arith, lb, c.each-test.false, c.len-b-end.ensures)))

pub returns-then-not-is_flat-clause-all : goal.returns-then-not-is_flat-clause-all
returns-then-not-is_flat-clause-all c = λ zeros.
    let p = c.parts-parts.result.now in
    let w = whole_of c.args.state.now.net p in
    let lb : c.each.b < length p.blocks.items = omega (arith, c.each-test.true, c.len-b-end.ensures) in
    let at = at_read w (blocks_in w) c.each.b c.index.result.now c.parts-parts.ensures.laid refl lb c.index.ensures in
    let flat = flat_of_zeros c.args.state.now p c.each.b c.parts-parts.ensures zeros lb in
    let yes : IsTrue c.is_flat.result = c.is_flat.ensures.1 (subst IsFlat at.is flat) in
    absurd (true≢false (sym yes ∙ c.if-not-is_flat.true))
