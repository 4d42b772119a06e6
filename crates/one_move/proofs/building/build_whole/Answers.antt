use Rattle.std.proofs.Common.{◌∙◌, sym, arith}
use Rattle.std.proofs.lemmas.Result.{err_from_is_err_and}
use Rattle.compile_cut.proofs.TermLemmas.{bounded-weaker}
use Rattle.cost_store.proofs.Meaning.{pairs_meant}
use Rattle.one_move.proofs.Answers.{built_whole}
use Rattle.one_move.proofs.building.build_whole.Goals as goal

pub returns-in_err-prepare : goal.returns-in_err-prepare
returns-in_err-prepare g c =
    let p = err_from_is_err_and c.from_residual-in_err-prepare.result c.from_residual-in_err-prepare.ensures.1 in
    record {
      of_problem = ((λ some. c.in_ok-group.ensures.grouped), c.read.ensures.known);
      left = rw (p.1) tt;
      form = rw (p.1) tt;
      built = λ m meant. rw (p.1, p.2) (c.in_err-prepare.ensures.prepared m meant);
    }

pub returns : goal.returns
returns g c =
    let prepared = c.in_ok-prepare.ensures in
    record {
      of_problem = ((λ some. c.in_ok-group.ensures.grouped), c.read.ensures.known);
      left = record {
        near = λ listed. absurd (cc (listed));
        choices = prepared.opened.count;
        sized = (bounded-weaker 5242880 8388608 c.prepare.new.self.form (omega arith) prepared.form.bounded, prepared.form.few);
      };
      form = record {
        numbers = record {
          sites = c.requires.asked.asked.sites;
          allowed = λ m meant. (prepared.prepared m meant).0;
          lists = c.in_ok-read.ensures.lists;
          read = λ m meant. c.in_ok-read.ensures.read m meant;
        };
        by_site = c.in_ok-group.ensures.grouped;
      };
      built = λ m meant.
          built_whole m c.args.change c.args.at.now c.prepare.new.self (pairs_meant _ _ _ m c.requires.asked.posed meant) (c.requires.asked.asked.sites ∙ sym meant.sites_are)
          prepared.opened (prepared.prepared m meant);
    }
