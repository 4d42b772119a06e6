use Rattle.std.proofs.Common.{◌∙◌, ℕ, refl, sym, subst, arith}
use Rattle.label_energies.specs.Energies.{labelling}
use Rattle.site_bounds.specs.Working.{AreWaiting, AreWaitingBut, ArePartlyDecided}
use Rattle.site_bounds.proofs.Places.{partly_same, popped_waits}
use Rattle.std.proofs.lemmas.Result.{err_from_is_err_and}
use Rattle.site_bounds.proofs.bounds.Bounds.decide_waiting.Goals as goal

pub deciding-init : goal.deciding-init
deciding-init c = record {
  budget = c.requires.budget;
  same = refl;
  waiting = c.requires.waiting;
  closed = λ u was. was;
  total = omega arith;
  decided = λ m move read decided. decided;
}

pub decide_told-requires-clause-site : goal.decide_told-requires-clause-site
decide_told-requires-clause-site c =
    let n = c.args.self.now.summed in
    let inside = (popped_waits n c.in-Some.site c.deciding.self (record c.deciding.self { waiting = c.pop.new.self }) c.in-Some.ensures.items refl refl refl c.deciding.invariant.waiting).0 in
    omega (arith, inside, c.deciding.invariant.same)

pub decide_told-requires-clause-waiting : goal.decide_told-requires-clause-waiting
decide_told-requires-clause-waiting c =
    let n = c.args.self.now.summed in
    let W : ℕ → Type 0 = λ k. AreWaitingBut k c.in-Some.site (record c.deciding.self { waiting = c.pop.new.self }) in
    subst W (sym c.deciding.invariant.same)
    (popped_waits n c.in-Some.site c.deciding.self (record c.deciding.self { waiting = c.pop.new.self }) c.in-Some.ensures.items refl refl refl c.deciding.invariant.waiting).1

pub deciding-preserved : goal.deciding-preserved
deciding-preserved c =
    let e = c.in_ok-decide_told.ensures in
    let same = c.deciding.invariant.same in
    let n = c.args.self.now.summed in
    let W : ℕ → Type 0 = λ k. AreWaiting k c.decide_told.new.self in
    record {
      budget = e.budget;
      same = e.same ∙ same;
      waiting = subst W same e.waiting;
      closed = λ u was. e.closed u (c.deciding.invariant.closed u was);
      total = omega (arith, e.total, c.deciding.invariant.total);
      decided = λ m move read first.
          let f = labelling c.args.form.now.at.now in
          let popped = record c.deciding.self { waiting = c.pop.new.self } in
          let D : ℕ → Type 0 = λ k. ArePartlyDecided m move f k popped in
          let E : ℕ → Type 0 = λ k. ArePartlyDecided m move f k c.decide_told.new.self in
          subst E same (e.decided m move read (subst D (sym same) (partly_same m move f n c.deciding.self popped refl refl refl (c.deciding.invariant.decided m move read first))));
    }

pub decide_told-requires-clause-over : goal.decide_told-requires-clause-over
decide_told-requires-clause-over c = c.requires.over

pub decide_told-requires-clause-budget : goal.decide_told-requires-clause-budget
decide_told-requires-clause-budget c = record {
  sized = record {
    sized = record {
      choices = c.deciding.invariant.budget.sized.sized.choices;
      least = c.deciding.invariant.budget.sized.sized.least;
      greatest = c.deciding.invariant.budget.sized.sized.greatest;
    };
    within = c.deciding.invariant.budget.sized.within;
  };
  left = c.deciding.invariant.budget.left;
  range = c.deciding.invariant.budget.range;
}

pub returns-in_err-decide_told-clause-budget : goal.returns-in_err-decide_told-clause-budget
returns-in_err-decide_told-clause-budget c =
    let p = err_from_is_err_and c.from_residual.result c.from_residual.ensures.1 in
    rw (p.1) tt

pub returns-in_err-decide_told-clause-same : goal.returns-in_err-decide_told-clause-same
returns-in_err-decide_told-clause-same c =
    let p = err_from_is_err_and c.from_residual.result c.from_residual.ensures.1 in
    rw (p.1) tt

pub returns-in_err-decide_told-clause-waiting : goal.returns-in_err-decide_told-clause-waiting
returns-in_err-decide_told-clause-waiting c =
    let p = err_from_is_err_and c.from_residual.result c.from_residual.ensures.1 in
    rw (p.1) tt

pub returns-in_err-decide_told-clause-none : goal.returns-in_err-decide_told-clause-none
returns-in_err-decide_told-clause-none c =
    let p = err_from_is_err_and c.from_residual.result c.from_residual.ensures.1 in
    rw (p.1) tt

pub returns-in_err-decide_told-clause-decided : goal.returns-in_err-decide_told-clause-decided
returns-in_err-decide_told-clause-decided c =
    let p = err_from_is_err_and c.from_residual.result c.from_residual.ensures.1 in
    rw (p.1) tt

pub returns-clause-decided : goal.returns-clause-decided
returns-clause-decided c = λ m move read first.
    partly_same m move (labelling c.args.form.now.at.now) (c.args.self.now.summed) c.deciding.self (record c.deciding.self { waiting = c.pop.new.self }) refl refl refl
    (c.deciding.invariant.decided m move read first)

pub returns-in_err-decide_told-clause-total : goal.returns-in_err-decide_told-clause-total
returns-in_err-decide_told-clause-total c =
    let p = err_from_is_err_and c.from_residual.result c.from_residual.ensures.1 in
    rw (p.1) tt

pub returns-clause-budget : goal.returns-clause-budget
returns-clause-budget c = record {
  sized = record {
    sized = record {
      choices = c.deciding.invariant.budget.sized.sized.choices;
      least = c.deciding.invariant.budget.sized.sized.least;
      greatest = c.deciding.invariant.budget.sized.sized.greatest;
    };
    within = c.deciding.invariant.budget.sized.within;
  };
  left = c.deciding.invariant.budget.left;
  range = c.deciding.invariant.budget.range;
}

pub returns-in_err-decide_told-clause-closed : goal.returns-in_err-decide_told-clause-closed
returns-in_err-decide_told-clause-closed c =
    let p = err_from_is_err_and c.from_residual.result c.from_residual.ensures.1 in
    rw (p.1) tt
