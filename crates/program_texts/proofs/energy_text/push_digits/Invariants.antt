use Rattle.std.proofs.Common.{◌≡◌, ◌++◌, map, take}
use Rattle.program_texts.specs.Answer.{digit_code}
use Rattle.program_texts.proofs.energy_text.push_digits.Given as goal

abbrev pub invariant-loop-bit : goal.invariant-loop-bit
invariant-loop-bit l = l.text.items ≡ l.initial.text.items ++ map digit_code (take l.bit-index l.bits)
