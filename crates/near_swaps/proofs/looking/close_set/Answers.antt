use Rattle.std.proofs.Common.{◌≡◌, ◌∙◌, ◌<◌, ℕ, List, All, Bool, IsTrue, length, sym, ap, subst, inl, inr, arith}
use Rattle.label_energies.specs.Energies.{labelling}
use Rattle.move_energy.specs.Choices.{choice_at, value_of, open_count}
use Rattle.move_energy.proofs.Numbers.{rank_below}
use Rattle.move_energy.proofs.Opened.{opened_count, opened_within, cases_open}
use Rattle.near_changes.specs.Looking.{is_marked, IsClosedIn}
use Rattle.near_changes.proofs.Codes.{if_ok_map}
use Rattle.near_swaps.specs.Looking.{lowest_value}
use Rattle.near_swaps.specs.Swaps.{may_turn_at}
use Rattle.near_swaps.proofs.Bounds.{turning_is, closed_as}
use Rattle.near_swaps.proofs.looking.close_set.Goals as goal

pub list_turning-requires-clause-sites : goal.list_turning-requires-clause-sites
list_turning-requires-clause-sites c =
    subst (λ (xs : List ℕ). All (λ p. p < length c.args.form.now.at.now) xs) (sym c.deref.ensures.value)
    (opened_within c.args.variables.now.choices.items c.args.stage.now.opened.items (length c.args.form.now.at.now) c.requires.opened c.requires.sites)

pub list_turning-requires-clause-lower : goal.list_turning-requires-clause-lower
list_turning-requires-clause-lower c =
    c.requires.lower ∙ sym (opened_count c.args.variables.now.choices.items c.args.stage.now.opened.items c.requires.opened) ∙ ap (λ (xs : List ℕ). length xs) (sym c.deref.ensures.value)

pub list_turning-requires-clause-upper : goal.list_turning-requires-clause-upper
list_turning-requires-clause-upper c =
    c.requires.upper ∙ sym (opened_count c.args.variables.now.choices.items c.args.stage.now.opened.items c.requires.opened) ∙ ap (λ (xs : List ℕ). length xs) (sym c.deref.ensures.value)

pub close-requires-clause-bits : goal.close-requires-clause-bits
close-requires-clause-bits c =
    ap (λ (xs : List Bool). length xs) c.deref-4.ensures.value ∙ c.in_ok-turning.ensures.count ∙ ap (λ (xs : List ℕ). length xs) c.deref.ensures.value
    ∙ opened_count c.args.variables.now.choices.items c.args.stage.now.opened.items c.requires.opened ∙ ap open_count (sym c.deref-2.ensures.value)

pub returns-clause-closed : goal.returns-clause-closed
returns-clause-closed c =
    let pairs = c.args.form.now.pairs.now in
    let choices = c.args.variables.now.choices.items in
    let opened = c.args.stage.now.opened.items in
    let f = labelling c.args.form.now.at.now in
    let lower = c.args.bits.now.lower.items in
    let upper = c.args.bits.now.upper.items in
    let turning = c.in_ok-turning.turning.items in
    let taken = is_marked c.close.new.self.taken.items in
    let fresh = is_marked c.close.new.self.fresh.items in
    let count = opened_count choices opened c.requires.opened in
    let same : (p : ℕ) → p < pairs.sites → value_of choices turning p ≡ may_turn_at c.args.beta f (lowest_value choices lower) (value_of choices upper) p = λ p l.
    let within : p < length choices = omega (arith, l, c.requires.over.sites, c.requires.sites) in
    turning_is choices opened lower upper turning c.args.beta p f c.requires.opened (rw (c.deref.ensures.value) at c.in_ok-turning.ensures.each) within
    (c.requires.zeros p (omega (arith, l, c.requires.over.sites)))
    (elim (cases_open (choice_at choices p)) [
      | inl is ↦ inl (omega (arith, rank_below choices p (length choices) within is, count))
      | inr closed ↦ inr closed
    ]) in
    if_ok_map (λ closed. IsTrue closed → IsClosedIn pairs (value_of choices turning) (choice_at choices) taken fresh)
    (λ closed. IsTrue closed → IsClosedIn pairs (may_turn_at c.args.beta f (lowest_value choices lower) (value_of choices upper)) (choice_at choices) taken fresh) c.close.result
    (λ closed is shut. closed_as pairs (value_of choices turning) (may_turn_at c.args.beta f (lowest_value choices lower) (value_of choices upper)) (choice_at choices) taken fresh c.requires.over.list same (is shut))
    (rw (c.deref-2.ensures.value, c.deref-4.ensures.value) at c.close.ensures.closed)
