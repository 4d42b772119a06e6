use Rattle.std.proofs.Common.{sym, ◌∙◌}
use Rattle.form_lists.proofs.Clearing.{if_true, off_last}
use Rattle.form_lists.proofs.own_rises.OwnRises.note.Goals as goal

pub returns-then-self-clause-noted : goal.returns-then-self-clause-noted
returns-then-self-clause-noted c = λ is u off.
    off_last c.args.self.now.sites.items c.args.sites.now c.extend_from_slice.new.self.items u (if_true _ _ _ _ (sym c.is_ok-noted.ensures.value ∙ is) c.extend_from_slice.ensures.items) off
