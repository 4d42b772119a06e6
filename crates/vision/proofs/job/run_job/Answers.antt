use Rattle.std.proofs.Common.{◌∙◌, ℕ, replicate, inl, refl, sym, ap, subst}
use Rattle.std.proofs.lemmas.Result.{err_from_is_err_and}
use Rattle.label_field.specs.LabelFields.{LabelField}
use Rattle.moves.specs.Prices.{ArePrices}
use Rattle.vision.proofs.Coming.{any_run}
use Rattle.vision.proofs.Finishing.{finished, refused}
use Rattle.vision.proofs.Metrics.{move_tells}
use Rattle.vision.proofs.job.run_job.Goals as goal

pub run_error-requires : goal.run_error-requires
run_error-requires g c = any_run (g.H.How.refuses c.args.how.now) c.in-Err.error c.in-Err.ensures.refused

pub returns-in-Err-clause-run : goal.returns-in-Err-clause-run
returns-in-Err-clause-run g c = λ m is has.
    let zeros = ap (λ (f : LabelField). f.at) c.in_ok-start.ensures ∙ ap (λ n. replicate n 0) (c.requires.sites.0 ∙ sym (is.sites_are ∙ c.requires.sites.1)) in
    refused (g.H.How.refuses c.args.how.now) m c.args.plan.moves c.args.plan.cycles c.args.plan.bound c.args.picture.now c.args.plan.maxval c.in_ok-start.start.at c.in-Err.error
    c.run_error.result zeros c.in-Err.ensures.refused (c.in-Err.ensures.run m (rw (ap (λ (f : LabelField). f.labels) c.in_ok-start.ensures) is) has) c.run_error.ensures

pub returns-clause-run : goal.returns-clause-run
returns-clause-run g c = λ m is has.
    let zeros = ap (λ (f : LabelField). f.at) c.in_ok-start.ensures ∙ ap (λ n. replicate n 0) (c.requires.sites.0 ∙ sym (is.sites_are ∙ c.requires.sites.1)) in
    finished m c.args.plan.moves c.args.plan.cycles c.args.plan.bound c.args.picture.now c.args.plan.maxval c.in_ok-start.start.at c.in-Ok.run' c.in_ok-finish.field-0
    zeros (c.in-Ok.ensures.run m (rw (ap (λ (f : LabelField). f.labels) c.in_ok-start.ensures) is) has)
    (c.in-Ok.ensures.bounded m (rw (ap (λ (f : LabelField). f.labels) c.in_ok-start.ensures) is) has) c.in_ok-finish.ensures.valid c.in_ok-finish.ensures.image c.in_ok-finish.ensures.report

pub returns-in-Err-clause-metric : goal.returns-in-Err-clause-metric
returns-in-Err-clause-metric g c = λ metric m is has.
    let labels = ap (λ (f : LabelField). f.labels) c.in_ok-start.ensures in
    move_tells c.in-Err.error c.run_error.result c.run_error.ensures (c.in-Err.ensures.metric (rw labels metric) m (rw labels is) has)

pub returns-in_err-start : goal.returns-in_err-start
returns-in_err-start g c =
    let p = err_from_is_err_and c.from_residual.result c.from_residual.ensures.1 in
    record { run = λ m is has. rw (p.1, p.2) (inl refl); metric = λ metric m is has. rw (p.1, p.2) (λ tells. tells) }

pub returns-in_err-finish : goal.returns-in_err-finish
returns-in_err-finish g c =
    let p = err_from_is_err_and c.from_residual-in_err-finish.result c.from_residual-in_err-finish.ensures.1 in
    record { run = λ m is has. rw (p.1, p.2) (inl refl); metric = λ metric m is has. rw (p.1, p.2) (λ tells. tells) }

pub run_with_table-requires-clause-ready : goal.run_with_table-requires-clause-ready
run_with_table-requires-clause-ready g c = λ lives within. c.requires.ready

pub run_with_table-requires-clause-costs : goal.run_with_table-requires-clause-costs
run_with_table-requires-clause-costs g c = λ lives within. c.requires.costs

pub returns-clause-metric : goal.returns-clause-metric
returns-clause-metric g c = λ metric m is has. tt

pub run_with_table-requires-clause-prices : goal.run_with_table-requires-clause-prices
run_with_table-requires-clause-prices g c = λ lives within.
    let A : ℕ → Type 0 = λ k. ArePrices k c.args.prices in
    subst A (sym (ap (λ (f : LabelField). f.labels) c.in_ok-start.ensures)) c.requires.prices
