use Rattle.std.proofs.Common.{◌∙◌, List, refl, sym}
use Rattle.std.proofs.lemmas.List.{at_drop_all}
use Rattle.clap.specs.Words.{App, app_of}
use Rattle.command_line.proofs.Adding.{chapter_globals, next_chapter}
use Rattle.command_line.specs.Tables.{with_chapters}
use Rattle.command_line.specs.declared.app.Chapter.{Chapter}
use Rattle.command_line.proofs.app.with_chapters.Goals as goal

pub loop-chapter-preserved : goal.loop-chapter-preserved
loop-chapter-preserved c = record {
  apps = next_chapter c.loop-chapter.command c.in_ok-part.part c.in_ok-command.command c.args.chapters.now c.loop-chapter.chapter-index _ c.loop-chapter-test.true
      c.in_ok-part.ensures c.in_ok-command.ensures ∙ c.loop-chapter.invariant.apps;
  globals = chapter_globals c.loop-chapter.command c.in_ok-part.part c.in_ok-command.command _ c.in_ok-part.ensures c.in_ok-command.ensures ∙ c.loop-chapter.invariant.globals;
}

pub loop-chapter-init : goal.loop-chapter-init
loop-chapter-init c = record { apps = refl; globals = refl }

pub returns : goal.returns
returns c =
    let now = c.loop-chapter in
    let rest : List Chapter → App = λ (ys : List Chapter). with_chapters (app_of now.command) ys in
    (sym (at_drop_all rest c.args.chapters.now now.chapter-index c.loop-chapter-test.false) ∙ now.invariant.apps, now.invariant.globals)
