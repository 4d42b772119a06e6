use Rattle.std.proofs.Common.{◌∙◌}
use Rattle.form_lists.proofs.Filling.{unit_small}
use Rattle.site_forms.proofs.Sums.{small_passed}
use Rattle.form_lists.proofs.lists.unit_rises_of.Goals as goal

pub returns : goal.returns
returns c =
    let a = c.args in
    record {
      low = small_passed c.unit_rise_of.result (unit_small a.stays.now a.turns.now a.smooth.now a.first a.own _ c.unit_rise_of.result c.requires.small c.unit_rise_of.ensures) ∙ c.unit_rise_of.ensures;
      high = small_passed c.unit_rise_of-2.result (unit_small a.stays.now a.turns.now a.smooth.now a.first a.own _ c.unit_rise_of-2.result c.requires.small c.unit_rise_of-2.ensures) ∙ c.unit_rise_of-2.ensures;
    }
