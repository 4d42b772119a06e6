use Rattle.std.proofs.Common.{◌≡◌, ◌+◌, ℕ, IsFalse}
use Rattle.sums.specs.Sums.{count_if}
use Rattle.cut_in_blocks.specs.Passes.{IsGoing, IsStill}
use Rattle.cut_in_blocks.proofs.passes.pass.Given as goal

abbrev pub invariant-turns : goal.invariant-turns
invariant-turns l =
    ((n : ℕ) → IsGoing l.fn.old.value l.fn.blocks.items l.fn.ways n → IsGoing l.fn.old.value l.blocks.items l.ways (n + count_if l.some 1))
    × (IsFalse l.some → IsStill l.fn.old.value l.fn.blocks.items l.fn.ways 0 → IsStill l.fn.old.value l.blocks.items l.ways l.b)
    × (l.slots.items ≡ l.fn.old.value.parts.slots.items)
