use Rattle.std.proofs.Common.{◌≡◌, ◌∙◌, ◌<◌, ℕ, List, All, true, length, sym, subst, arith}
use Rattle.label_field.specs.declared.pair.Pair.{Pair}
use Rattle.label_energies.specs.declared.change.Move.{Move}
use Rattle.label_energies.specs.Energies.{labelling}
use Rattle.label_energies.specs.Moves.{IsAllowed}
use Rattle.move_energy.specs.declared.choice.Choice.TheVariants.{Open}
use Rattle.move_energy.specs.BySite.{IsListing}
use Rattle.move_energy.specs.Choices.{choice_at, open_at, value_of, IsNumbering}
use Rattle.move_energy.specs.MoveValues.{move_value}
use Rattle.near_changes.specs.Looking.{is_marked, IsClosedIn}
use Rattle.near_changes.specs.Fresh.{HoldsFresh}
use Rattle.near_swaps.specs.Looking.{lowest_value, values_in, AreTurnsListed}
use Rattle.near_swaps.specs.Swaps.{kept_values, may_turn_at, AreLeastBetween, IsClosedAt}
use Rattle.near_swaps.proofs.Bounds.{closed_at_pairs, turned_open, settled_is, bounds_same}
use Rattle.near_swaps.proofs.Settled.{closed_ends}
use Rattle.site_bounds.specs.Decisions.{IsSmallestLeast}
use Rattle.near_swaps.proofs.looking.end_near.Goals as goal

pub returns-clause-listed : goal.returns-clause-listed
returns-clause-listed c = λ found.
    let choices = c.args.variables.now.choices.items in
    let opened = c.args.stage.now.opened.items in
    let at = c.args.form.now.at.now in
    let taken = is_marked c.close_set.new.stage.taken.items in
    let closed = c.in_ok-close_set.ensures.closed c.if-not-branch.false in
    let left : (p : ℕ) → p < c.args.form.now.pairs.now.sites → taken p ≡ true → choice_at choices p ≡ Open =
    subst (λ (v : _). (p : ℕ) → p < c.args.form.now.pairs.now.sites → taken p ≡ true → choice_at v.items p ≡ Open) c.find_bounds.ensures.kept closed.left_open in
    let each = rw (c.deref-3.ensures.value) at (c.settle.ensures.each found) in
    subst (λ (v : _). AreTurnsListed c.args.beta at (values_in c.settle.new.choices.items) v.items) (sym c.close_set.ensures.same.2) (record {
      chosen = open_at choices;
      listed = subst (λ (n : ℕ). IsListing (open_at choices) n opened) c.requires.sites c.requires.opened;
      each = λ p l other. turned_open choices p (taken p) _ (kept_values c.args.beta (labelling at) p) (values_in c.settle.new.choices.items p)
          (left p (omega (arith, l, c.requires.over.sites))) (each p l) other;
    })

pub returns-clause-least : goal.returns-clause-least
returns-clause-least c = λ m move told found a none changed is was other fresh zeros.
    let b = c.args.beta in
    let pairs = c.args.form.now.pairs.now in
    let f = labelling c.args.form.now.at.now in
    let choices = c.args.variables.now.choices.items in
    let numbers = c.find_bounds.new.variables.of_sites.items in
    let x = values_in c.settle.new.choices.items in
    let below = c.in_ok-bits.bits.lower.items in
    let above = c.in_ok-bits.bits.upper.items in
    let lower = lowest_value choices below in
    let upper = value_of choices above in
    let may = may_turn_at b f lower upper in
    let flags = c.close_set.new.stage.taken.items in
    let taken = is_marked flags in
    let marked = is_marked c.close_set.new.stage.fresh.items in
    let numbering = subst (λ (v : _). IsNumbering v.items numbers) c.find_bounds.ensures.kept c.in_ok-bits.ensures.numbering in
    let closed : IsClosedIn pairs may (choice_at choices) taken marked =
    subst (λ (v : _). IsClosedIn pairs (may_turn_at b f (lowest_value v.items below) (value_of v.items above)) (choice_at v.items) taken marked)
    c.find_bounds.ensures.kept (c.in_ok-close_set.ensures.closed c.if-not-branch.false) in
    let size = told.sites_are in
    let inside : (p : ℕ) → p < m.sites → p < length choices = λ p l. omega (arith, l, size, c.requires.over.sites, c.requires.sites) in
    let left : (p : ℕ) → p < m.sites → taken p ≡ true → choice_at choices p ≡ Open = λ p l one. closed.left_open p (omega (arith, l, size)) one in
    let each = rw (c.deref-2.ensures.value, c.deref-3.ensures.value) at (c.settle.ensures.each found) in
    let same = rw (c.deref-2.ensures.value, c.deref-3.ensures.value) at (c.settle.ensures.same found) in
    let apart : All (IsClosedAt may taken) m.pairs =
    subst (λ (ps : List Pair). All (IsClosedAt may taken) ps) (sym told.pairs_are) (closed_at_pairs pairs may (choice_at choices) taken marked closed) in
    let looked : HoldsFresh m.sites (is_marked c.args.stage.now.fresh.items) may taken = λ p l mark one.
    closed.holds_fresh p (omega (arith, l, size)) (subst (λ (v : _). is_marked v.items p ≡ true) (sym c.close_set.ensures.same.0) mark) one in
    let P : Move → Type 0 = λ mv. IsAllowed m mv f → AreLeastBetween m.sites (move_value m mv f) lower upper → IsSmallestLeast m.sites (move_value m mv f) x in
    subst P (sym is) (λ allowed between.
    closed_ends m a b none f changed (is_marked c.args.stage.now.fresh.items) lower upper taken x told.instance allowed was other fresh between apart looked
    (λ p l one. bounds_same choices below above numbers flags p numbering (inside p l) (left p l one) (same p (omega (arith, l, size, c.requires.over.sites)) one))
    (λ p l. each p (omega (arith, l, size, c.requires.over.sites)) ∙ settled_is choices below numbers flags b p f numbering (inside p l) (left p l)))
    told.allowed (c.in_ok-bits.ensures.between m move told zeros)
