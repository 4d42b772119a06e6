use Rattle.form_lists.proofs.Filling.{no_rise}
use Rattle.form_lists.proofs.lists.rises_unless.Goals as goal

pub returns-then-still : goal.returns-then-still
returns-then-still c =
    let a = c.args in
    let same = c.requires.still c.if-still.true in
    record {
      low = no_rise a.stays.now a.turns.now a.smooth.now a.first a.own _ same;
      high = no_rise a.stays.now a.turns.now a.smooth.now a.first a.own _ same;
    }
