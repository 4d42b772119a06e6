use Rattle.std.proofs.Common.{◌∙◌}
use Rattle.std.specs.Str.Parse.{ExplainsUnsignedError, HasUnsignedDigitsIfOk, ParsesUnsigned}
use Rattle.clap.proofs.WalkLemmas.{one_text-rows}
use Rattle.clap.specs.Words.{found_of}
use Rattle.command_line.proofs.Reading.{no_value, value_read}
use Rattle.command_line.proofs.values.value_in.Goals as goal

pub returns-clause-number : goal.returns-clause-number
returns-clause-number c =
    let rows = one_text-rows (found_of c.args.matches.now) c.args.name.now in
    value_read _ (λ bs r. ParsesUnsigned 32 10 bs r × ExplainsUnsignedError 10 bs r × HasUnsignedDigitsIfOk bs r) (λ t r g. g.0) _ c.get_one.result
    (λ e. c.get_one.ensures.none (rows ∙ e)) (λ t e. c.get_one.ensures.value t (rows ∙ e))

pub returns-clause-none : goal.returns-clause-none
returns-clause-none c =
    let rows = one_text-rows (found_of c.args.matches.now) c.args.name.now in
    no_value _ (λ bs r. ParsesUnsigned 32 10 bs r × ExplainsUnsignedError 10 bs r × HasUnsignedDigitsIfOk bs r) (λ t r g. g.0) _ c.get_one.result
    (λ t e. c.get_one.ensures.value t (rows ∙ e))
