use Rattle.std.proofs.Common.{◌≡◌, ◌<◌, ◌∙◌, ◌+◌, List, length, subst, sym, ap, arith}
use Rattle.move_energy.specs.declared.choice.Choice.{Choice}
use Rattle.move_energy.specs.declared.choice.Choice.TheVariants.{Open, Zero}
use Rattle.move_energy.specs.declared.variables.Variables.{Variables}
use Rattle.move_energy.specs.Choices.{choice_at}
use Rattle.move_energy.proofs.Numbers.{AreAssignedBelow, rank_open, rank_closed, assigned_kept, assigned_was_open, assigned_was_decided, assigned_own}
use Rattle.move_energy.proofs.Joins.{read_at}
use Rattle.move_energy.proofs.variables.Variables.assign.Goals as goal
use Rattle.move_energy.proofs.variables.Variables.assign.Goals.{then-is_open, else-is_open}

pub loop-site-preserved : goal.loop-site-preserved
loop-site-preserved c =
    let old = c.args.self.now.choices.items in
    let now = c.loop-site.self.choices.items in
    let bits = c.args.bits.now in
    let n = c.loop-site.site in
    let so_far = c.loop-site.invariant in
    let within : n < length old = omega (arith, c.loop-site-test.true, c.len-site-end.ensures) in
    let read : c.index.result.now ≡ choice_at now n =
    read_at now n c.index.result.now Zero (omega (arith, within, so_far.assigned.count)) c.index.ensures in
    elim c.if-is_open.branch [
      | then-is_open w ↦
          let opened : choice_at now n ≡ Open = sym read ∙ c.is_open.ensures.0 w.if-is_open.true in
          let more = rank_open old n (assigned_was_open old bits now n opened so_far.assigned) in
          record {
            counted = omega (arith, w.next-is, so_far.counted, more);
            few = omega (arith, w.next-is, so_far.few);
            assigned = assigned_own old bits now c.if-is_open.self.choices.items n c.loop-site.next w.bit_at.result w.choice_of.result within opened so_far.counted
                (ap (λ (v : Variables). v.choices.items) w.self-is) w.choice_of.ensures w.bit_at.ensures so_far.assigned;
          }
      | else-is_open w ↦
          let decided : ¬ (choice_at now n ≡ Open) = λ opened. (let yes = c.is_open.ensures.1 (read ∙ opened) in absurd (cc (yes, w.if-is_open.false))) in
          let same = rank_closed old n (assigned_was_decided old bits now n decided so_far.assigned) in
          let P : List Choice → Type 0 = λ xs. AreAssignedBelow old bits xs (n + 1) in
          let kept = assigned_kept old bits now n decided so_far.assigned in
          record {
            counted = omega (arith, w.next-is, so_far.counted, same);
            few = omega (arith, w.next-is, so_far.few);
            assigned = subst P (sym (ap (λ (v : Variables). v.choices.items) w.self-is)) kept;
          }
    ]
