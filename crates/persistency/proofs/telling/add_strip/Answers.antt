use Rattle.std.proofs.Common.{ℕ, ◌<◌, length, arith, refl}
use Rattle.std.proofs.lemmas.List.Elements.{All-get_or}
use Rattle.persistency.proofs.Told.{told_more, told_all, told_agree}
use Rattle.persistency.proofs.telling.add_strip.Goals as goal

pub loop-place-preserved : goal.loop-place-preserved
loop-place-preserved c =
    told_more c.args.sites.now c.args.lower.now c.args.upper.now c.args.choices.now c.loop-place.choices _ c.loop-place.place _ c.or_else.result c.choice_of_bounds.result
    c.loop-place-test.true (All-get_or (λ (p : ℕ). p < length c.args.choices.now) c.args.sites.now c.loop-place.place 0 c.loop-place-test.true c.requires.sites) refl
    c.or_else.ensures c.choice_of_bounds.ensures refl c.loop-place.invariant

pub returns-clause-told : goal.returns-clause-told
returns-clause-told c =
    told_all c.args.sites.now c.args.lower.now c.args.upper.now c.args.choices.now c.loop-place.choices c.loop-place.place (omega arith) c.loop-place.invariant

pub returns-clause-agree : goal.returns-clause-agree
returns-clause-agree c n E start strip few falls over listed bounded first agree more =
    told_agree n E start strip c.args.choices.now c.loop-place.choices few
    (told_all c.args.sites.now c.args.lower.now c.args.upper.now c.args.choices.now c.loop-place.choices c.loop-place.place (omega arith) c.loop-place.invariant strip listed)
    falls over bounded first agree more
