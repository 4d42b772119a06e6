use Rattle.std.proofs.Common.{◌≡◌, ◌∙◌, ◌<◌, ℕ, Bool, length, get_or, arith, below_more}
use Rattle.std.proofs.lemmas.List.{length-set}
use Rattle.std.proofs.lemmas.List.Elements.{All-get_or}
use Rattle.label_energies.specs.Energies.{labelling}
use Rattle.move_energy.specs.Choices.{choice_at, choice_of}
use Rattle.near_swaps.specs.Swaps.{kept_values}
use Rattle.near_swaps.proofs.Bounds.{told_or_more, told_done, kept_all}
use Rattle.site_bounds.proofs.Trying.{set_here}
use Rattle.near_swaps.proofs.looking.keep_listed.Goals as goal

pub loop-index-preserved : goal.loop-index-preserved
loop-index-preserved c =
    let now = c.loop-index.choices.items in
    let own = c.args.own.now in
    let site = get_or own c.loop-index.index 0 in
    let inside = All-get_or (λ p. p < length c.args.at.now) own c.loop-index.index 0 c.loop-index-test.true c.requires.inside in
    let within : site < length now = omega (arith, inside, c.loop-index.invariant.count, c.requires.count) in
    let kept : ℕ → Bool = kept_values c.args.beta (labelling c.args.at.now) in
    record {
      count = length-set now site _ ∙ c.loop-index.invariant.count;
      each = λ p. told_or_more now site p _ (λ q. choice_of (kept q)) (choice_at c.args.choices.now.items) within c.choice_with.ensures (c.loop-index.invariant.each p);
      done = below_more (λ k. choice_at _ (get_or own k 0) ≡ choice_of (kept (get_or own k 0))) c.loop-index.index
          (λ k l. told_done now site (get_or own k 0) _ (λ q. choice_of (kept q)) within c.choice_with.ensures (c.loop-index.invariant.done k l))
          (set_here now site _ within ∙ c.choice_with.ensures);
    }

pub returns-clause-each : goal.returns-clause-each
returns-clause-each c = λ p l.
    kept_all c.args.choices.now.items c.loop-index.choices.items c.args.own.now (kept_values c.args.beta (labelling c.args.at.now)) p
    (λ some. c.requires.covers p (omega (arith, l, c.requires.count)) some) (c.requires.zeros p l)
    (λ k b. c.loop-index.invariant.done k (omega (arith, b, c.loop-index-test.false))) (c.loop-index.invariant.each p)
