use Rattle.site_forms.proofs.Telling as telling
use Rattle.site_forms.proofs.laws.form_tells_rises.Goals as goal

pub returns : goal.returns
returns c = telling.form_tells
