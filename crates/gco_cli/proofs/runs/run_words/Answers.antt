use Rattle.std.proofs.Common.{◌∙◌, refl, sym}
use Rattle.gco_cli.proofs.runs.run_words.Goals as goal

pub returns-in-Err-clause-run : goal.returns-in-Err-clause-run
returns-in-Err-clause-run g c =
    rw c.in-Err.is
    (record {
      no_text = λ is. c.refuse_unread.ensures.no_text (c.kind.ensures ∙ is);
      no_memory = λ is. c.refuse_unread.ensures.no_memory (λ e. is (sym c.kind.ensures ∙ e));
      read = refl;
      written = refl;
    })

pub returns-in-Ok-clause-run : goal.returns-in-Ok-clause-run
returns-in-Ok-clause-run g c = rw c.in-Ok.is (rw c.as_slice.ensures.value at c.run.ensures.run)
