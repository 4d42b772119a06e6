use Rattle.std.proofs.Common.{◌≡◌, ◌++◌, take}
use Rattle.program_texts.specs.Lines.{numbers_text}
use Rattle.program_texts.proofs.labels.push_labels.Given as goal

abbrev pub invariant-loop-label : goal.invariant-loop-label
invariant-loop-label l = l.text.items ≡ l.initial.text.items ++ numbers_text (take l.label-index l.labels)
