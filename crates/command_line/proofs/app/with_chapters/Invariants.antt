use Rattle.std.proofs.Common.{◌≡◌, drop}
use Rattle.clap.specs.Words.{app_of}
use Rattle.clap.specs.declared.builder.command.Command.TheViews.{out-Command}
use Rattle.command_line.specs.Tables.{with_chapters}
use Rattle.command_line.proofs.app.with_chapters.Given as goal

abbrev pub invariant-loop-chapter : goal.invariant-loop-chapter
invariant-loop-chapter l = record {
  apps : with_chapters (app_of l.command) (drop l.chapter-index l.chapters) ≡ with_chapters (app_of l.initial.command) l.chapters;
  globals : (out-Command l.command).has_globals ≡ (out-Command l.initial.command).has_globals;
}
