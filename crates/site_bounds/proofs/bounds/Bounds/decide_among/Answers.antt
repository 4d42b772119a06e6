use Rattle.std.proofs.Common.{◌≡◌, ◌<◌, ◌+◌, ◌∙◌, ℕ, List, sym, subst, length, get_or, arith}
use Rattle.std.proofs.lemmas.List.{get_or_default}
use Rattle.move_energy.specs.declared.choice.Choice.TheVariants.{Open, Zero}
use Rattle.move_energy.specs.Choices.{choice_at}
use Rattle.site_bounds.specs.declared.bounds.Bounds.{Bounds}
use Rattle.site_bounds.specs.Listed.{CoversOpen}
use Rattle.site_bounds.specs.Working.{AreClosed}
use Rattle.site_bounds.proofs.Among.{listed_inside}
use Rattle.site_bounds.proofs.Course.{IsUnderWay, AreAhead, AreBehind, way_begins, way_more, way_ends, ahead_closed, ahead_more, ahead_none, behind_next, behind_more, behind_on}
use Rattle.site_bounds.proofs.bounds.Bounds.decide_among.Goals as goal
use Rattle.site_bounds.proofs.bounds.Bounds.decide_among.Goals.{then-is_open+in_ok-sum_next, else-is_open}

pub loop-place-init : goal.loop-place-init
loop-place-init c = record {
  way = way_begins c.args.form.now c.args.self.now c.make_room.new.self c.requires.over c.requires.unsummed c.in_ok-make_room.ensures.sized c.in_ok-make_room.ensures.same;
  ahead = λ among u l opened on. omega arith;
  behind = λ among u l listed rank. omega (arith, c.in_ok-make_room.ensures.same.2, c.requires.unsummed.unsummed.summed);
}

pub index-requires : goal.index-requires
index-requires c =
    let inside = listed_inside c.requires.among.before (length c.args.self.now.choices.items) c.args.sites.now c.loop-place.place c.requires.among.listing c.loop-place-test.true in
    omega (arith, inside, c.loop-place.self.choices.ok.0, c.requires.unsummed.choices, c.loop-place.invariant.way.budget.sized.sized.choices)

pub sum_next-requires-clause-site : goal.sum_next-requires-clause-site
sum_next-requires-clause-site c =
    let a = c.args in
    let inside = listed_inside c.requires.among.before (length a.self.now.choices.items) a.sites.now c.loop-place.place c.requires.among.listing c.loop-place-test.true in
    (omega (arith, inside, c.requires.unsummed.choices), behind_next a.self.now c.loop-place.self a.sites.now c.loop-place.place c.requires.among c.loop-place-test.true (c.loop-place.invariant.behind c.requires.among))

pub sum_next-requires-clause-closed : goal.sum_next-requires-clause-closed
sum_next-requires-clause-closed c =
    ahead_closed c.args.self.now c.loop-place.self c.args.sites.now c.loop-place.place c.requires.among c.loop-place.invariant.way.closed c.loop-place-test.true (c.loop-place.invariant.ahead c.requires.among)

pub sum_next-requires-clause-opened : goal.sum_next-requires-clause-opened
sum_next-requires-clause-opened c =
    let a = c.args in
    let inside = listed_inside c.requires.among.before (length a.self.now.choices.items) a.sites.now c.loop-place.place c.requires.among.listing c.loop-place-test.true in
    let site = get_or a.sites.now c.loop-place.place 0 in
    sym (get_or_default c.loop-place.self.choices.items site c.index.result.now Zero (omega (arith, inside, c.requires.unsummed.choices, c.loop-place.invariant.way.budget.sized.sized.choices)))
    ∙ sym c.index.ensures ∙ c.is_open.ensures.0 c.if-is_open.true

pub pass_rest-requires-clause-closed : goal.pass_rest-requires-clause-closed
pass_rest-requires-clause-closed c =
    let a = c.args in
    let C : ℕ → Type 0 = λ n. AreClosed c.loop-place.self.summed n c.loop-place.self in
    subst C c.requires.unsummed.choices (ahead_none a.self.now c.loop-place.self a.sites.now c.loop-place.place c.requires.among c.loop-place.invariant.way.closed c.loop-place-test.false (c.loop-place.invariant.ahead c.requires.among))

abbrev goes_on : (Bounds → Type 0) → Bounds → List ℕ → ℕ → Bounds → Type 0
goes_on way start sites place now = record {
  way : way now;
  ahead : (among : CoversOpen start.choices.items sites) → AreAhead among.before (length start.choices.items) (place + 1) now;
  behind : (among : CoversOpen start.choices.items sites) → AreBehind among.before (length start.choices.items) (place + 1) now;
}

pub loop-place-preserved : goal.loop-place-preserved
loop-place-preserved c =
    let a = c.args in
    let i = c.loop-place.invariant in
    let place = c.loop-place.place in
    let site = get_or a.sites.now place 0 in
    let start = a.self.now in
    let old = c.loop-place.self in
    let l : place < length a.sites.now = c.loop-place-test.true in
    let n = length start.choices.items in
    let inside = listed_inside c.requires.among.before n a.sites.now place c.requires.among.listing l in
    let on = behind_next start old a.sites.now place c.requires.among l (i.behind c.requires.among) in
    let within : site < length old.choices.items = omega (arith, inside, c.requires.unsummed.choices, i.way.budget.sized.sized.choices) in
    let K : Bounds → Type 0 = λ now. goes_on (IsUnderWay a.form.now start) start a.sites.now place now in
    elim c.if-is_open.branch [
      | then-is_open+in_ok-sum_next w ↦
          let sums = w.in_ok-sum_next.ensures in
          let new = w.sum_next.new.self in
          let way = way_more a.form.now start old new site c.requires.over on (omega (arith, inside, c.requires.unsummed.choices)) sums i.way in
          subst K (sym w.self-is) (record {
            way = way;
            ahead = λ among. ahead_more start old new a.sites.now place among way.closed sums.closed l (omega (arith, on, sums.summed)) (λ opened behind. absurd (omega (arith, behind, sums.summed))) (i.ahead among);
            behind = λ among. behind_more start new a.sites.now place among l sums.summed;
          })
      | else-is_open w ↦
          let read = get_or_default old.choices.items site c.index.result.now Zero within in
          let off = λ (opened : choice_at old.choices.items site ≡ Open). c.is_open.ensures.1 (c.index.ensures ∙ read ∙ opened) in
          subst K (sym w.self-is) (record {
            way = i.way;
            ahead = λ among. ahead_more start old old a.sites.now place among i.way.closed (λ u was. was) l (omega arith) (λ opened behind. absurd (cc (off opened, w.if-is_open.false))) (i.ahead among);
            behind = λ among. behind_on among.before n place old (i.behind among);
          })
    ]

pub returns : goal.returns
returns c = way_ends c.args.form.now c.args.self.now c.loop-place.self c.pass_rest.new.self c.requires.over c.pass_rest.ensures c.loop-place.invariant.way
