use Rattle.std.proofs.Common.{◌≡◌, ◌∙◌, ◌+◌, ℕ, refl, subst, arith}
use Rattle.label_energies.specs.Chains.{moves_of}
use Rattle.run_steps.specs.Bookmarks.{LeadMoves}
use Rattle.run_steps.specs.UnderWay.{moves_made_by}
use Rattle.run_steps.proofs.UnderWay.{still_open}
use Rattle.run_steps.proofs.under_way.RunUnderWay.make_moves.Goals as goal

pub returns-in-Err-clause-goes_on : goal.returns-in-Err-clause-goes_on
returns-in-Err-clause-goes_on g c = λ m meant kind cycles start run.
    c.in-Err.ensures.goes_on m meant kind cycles start (c.loop-made.invariant.run m meant kind cycles start run)

pub loop-made-init : goal.loop-made-init
loop-made-init g c = record {
  over = c.requires.over;
  run = λ m meant kind cycles start run. run;
  made = λ going. omega arith;
  moved = λ m meant kind cycles start run lead.
      let L : ℕ → Type 0 = λ n. LeadMoves m (moves_of kind m.labels) n start c.args.labelling.now.at in
      let same : moves_made_by c.args.self.now ≡ moves_made_by c.args.self.now + 0 = omega arith in
      (0, omega arith, subst L same lead);
  sizes = record { labels = refl; sites = refl };
}

pub loop-made-preserved : goal.loop-made-preserved
loop-made-preserved g c = record {
  over = c.in_default.ensures.over;
  run = λ m meant kind cycles start run.
      (c.in_default.ensures.goes_on m meant kind cycles start (c.loop-made.invariant.run m meant kind cycles start run)).goes_on;
  moved = λ m meant kind cycles start run lead.
      let was = c.loop-made.invariant.made (still_open _ c.if-is_some.ensures) in
      let now = c.in_default.ensures.moved m meant kind cycles start (c.loop-made.invariant.run m meant kind cycles start run) in
      let L : ℕ → Type 0 = λ n. LeadMoves m (moves_of kind m.labels) n start c.advance.new.labelling.at in
      let more : moves_made_by c.loop-made.self + 1 ≡ moves_made_by c.args.self.now + (c.loop-made._made + 1) = omega (arith, was) in
      (c.loop-made._made + 1, omega arith, subst L more now);
  made = λ going.
      (let was = c.loop-made.invariant.made (still_open _ c.if-is_some.ensures) in let now = c.in_default.ensures.made going in omega (arith, was, now));
  sizes = record {
    labels = c.in_default.ensures.sizes.labels ∙ c.loop-made.invariant.sizes.labels;
    sites = c.in_default.ensures.sizes.sites ∙ c.loop-made.invariant.sizes.sites;
  };
}

pub returns-clause-goes_on : goal.returns-clause-goes_on
returns-clause-goes_on g c = λ m meant kind cycles start run.
    record { goes_on = c.loop-made.invariant.run m meant kind cycles start run; cause = tt; own = tt }

pub returns-clause-within : goal.returns-clause-within
returns-clause-within g c = λ m meant kind cycles start run lead.
    let was = c.loop-made.invariant.moved m meant kind cycles start run lead in
    (was.0, omega (arith, was.1, c.loop-made.auto._made-end), was.2)
