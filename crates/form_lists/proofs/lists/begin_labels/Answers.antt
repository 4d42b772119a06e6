use Rattle.form_lists.proofs.Asking.{none_everywhere, grown_len, on_ok_always}
use Rattle.form_lists.proofs.lists.begin_labels.Goals as goal

pub returns-clause-none : goal.returns-clause-none
returns-clause-none c = on_ok_always c.resize.result (λ old. none_everywhere 256 old c.clear.new.self.items c.resize.new.self.items _ c.resize.result c.clear.ensures.items c.clear.new.self.ok.0 c.resize.ensures.items)

pub returns-clause-count : goal.returns-clause-count
returns-clause-count c = grown_len c.resize.new.self.items 256 _ _ c.resize.result c.resize.new.self.ok.0 c.resize.ensures.len
