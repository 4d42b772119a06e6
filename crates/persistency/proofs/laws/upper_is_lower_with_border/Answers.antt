use Rattle.persistency.proofs.Borders.{upper_rise, upper_is_lower, border_by_site}
use Rattle.persistency.proofs.laws.upper_is_lower_with_border.Goals as goal

pub returns : goal.returns
returns c = record { rise = upper_rise; value = upper_is_lower; by_site = border_by_site }
