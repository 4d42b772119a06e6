use Rattle.std.proofs.Common.{refl}
use Rattle.command_line.specs.App.{energy_app, gco_app, label_app, restore_app, segment_app, stereo_app}
use Rattle.command_line.proofs.app.chapters.Goals as goal

pub returns : goal.returns
unfolding gco_app energy_app label_app restore_app segment_app stereo_app
returns c = refl
