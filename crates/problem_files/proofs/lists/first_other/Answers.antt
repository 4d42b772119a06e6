use Rattle.std.proofs.Common.{◌∙◌, sym, rules, tests}
use Rattle.std.proofs.lemmas.Iterator.{YieldsList-from_slice}
use Rattle.std.proofs.lemmas.Iterator.Search.{position_from_yields_List}
use Rattle.toml.specs.View.{view}
use Rattle.problem_files.specs.ListFields.{is_no_integer}
use Rattle.problem_files.proofs.Listed.{position_viewed}
use Rattle.problem_files.proofs.lists.first_other.Goals as goal

pub returns : goal.returns
returns c =
    position_from_yields_List (λ v. is_no_integer (view v)) _ _ _ c.position.ensures.ran (YieldsList-from_slice c.args.items.now cc) (λ x b q k. search (rules, tests))
    ∙ sym (position_viewed is_no_integer c.args.items.now)
