use Rattle.std.proofs.Common.{◌≡◌, ◌≢◌, ◌<◌, ◌∙◌, ℕ, List, length, refl, arith, sym, ap, subst}
use Rattle.std.proofs.lemmas.List.Elements.{All-get_or}
use Rattle.label_energies.specs.declared.change.Move.TheVariants.{Swap}
use Rattle.label_energies.specs.Energies.{labelling}
use Rattle.move_energy.specs.BySite.{AreBySite}
use Rattle.move_energy.specs.declared.choice.Choice.TheVariants.{One}
use Rattle.move_energy.specs.Choices.{choice_at, AreOpenSites}
use Rattle.move_energy.specs.MoveValues.{move_value}
use Rattle.near_changes.specs.Changes.{made_of}
use Rattle.near_changes.specs.Fresh.{AreFresh}
use Rattle.near_changes.specs.Looking.{is_marked, changed_since}
use Rattle.near_swaps.specs.Looking.{values_in, AreTurnsListed}
use Rattle.persistency.specs.Fixing.{AreLeastZeros}
use Rattle.later_swaps.specs.Swaps.{place_of_swap}
use Rattle.later_swaps.proofs.Swaps.{changes_of}
use Rattle.strips.proofs.Gathering.{passed_agree}
use Rattle.later_swaps.proofs.later_swap.look.Goals as goal

pub find_near-requires-clause-own : goal.find_near-requires-clause-own
find_near-requires-clause-own g c =
    subst (λ (xs : List ℕ). AreOpenSites c.swap.new.y.items xs) (sym c.deref-3.ensures.value)
    (subst (λ (v : _). AreOpenSites v.items c.open.new.self.swapped.items) (sym c.swap.ensures.y_after) (c.in_ok-open.ensures.swapped tt))

pub find_near-requires-clause-none : goal.find_near-requires-clause-none
find_near-requires-clause-none g c = λ p l.
    subst (λ (v : _). choice_at v.items p ≢ One) (sym c.swap.ensures.y_after) (c.in_ok-open.ensures.opened.none p (subst (λ (xs : List ℕ). p < length xs) c.form-form.ensures.at l))

pub returns-clause-found : goal.returns-clause-found
returns-clause-found g c = λ found.
    let a = c.args.alpha in
    let b = c.args.beta in
    let at = c.args.at.now in
    let f = labelling at in
    let pairs = c.args.problem.now.pairs in
    let stamps = c.args.swaps.now.stamps.items in
    let asked = c.requires.asked.asked in
    let began = c.in_ok-open.ensures in
    let choices = c.find_near.new.variables.choices.items in
    let turns = rw (c.form-form.ensures.at) at (c.in_ok-found.ensures.listed found) in
    let since : c.last.result ≡ made_of c.args.swaps.now (place_of_swap a b) = c.last.ensures ∙ ap (made_of c.args.swaps.now) c.place_of.ensures in
    record {
      form = record {
        numbers = record {
          sites = asked.sites;
          allowed = λ m meant. (began.read m meant).0;
          lists = began.lists;
          read = λ m meant. (began.read m meant).1;
        };
        by_site = subst (λ (e : _). AreBySite pairs e) (sym c.open.ensures.kept) c.in_ok-group.ensures.grouped;
      };
      count = c.in_ok-found.ensures.count ∙ ap (λ (v : _). length v.items) c.swap.ensures.y_after ∙ began.opened.count;
      listed = changes_of a b at choices _ (subst (λ (v : _). AreTurnsListed b at (values_in choices) v.items) (sym c.swap-2.ensures.x_after) turns);
      least = λ m meant was.
          let can = began.read m meant in
          let told = c.form-form.ensures.of m (Swap a b) meant.sites_are meant.pairs_are can.0 can.1 in
          let agreed = passed_agree m (Swap a b) f (choice_at c.open.new.self.bounds.choices.items) told.instance can.0 (began.passed m meant) in
          let zeros : AreLeastZeros m.sites (move_value m (Swap a b) f) (choice_at c.swap.new.y.items) =
          subst (λ (v : _). AreLeastZeros m.sites (move_value m (Swap a b) f) (choice_at v.items)) (sym c.swap.ensures.y_after) agreed.zeros in
          let marked = rw (c.deref.ensures.value) at (c.in_ok-mark_fresh.ensures.fresh.fresh m meant.sites_are meant.pairs_are) in
          let fresh : AreFresh m 256 f (changed_since stamps (made_of c.args.swaps.now (place_of_swap a b))) (is_marked c.mark_fresh.new.self.fresh.items) =
          subst (λ (k : ℕ). AreFresh m 256 f (changed_since stamps k) (is_marked c.mark_fresh.new.self.fresh.items)) since marked in
          let other : (p : ℕ) → p < m.sites → f p ≢ 256 = λ p l is.
          let below = All-get_or (λ label. label < c.args.problem.now.data_cost.labels) at p 0 (omega (arith, l, meant.sites_are, asked.sites)) asked.labels in
          omega (arith, below, c.requires.asked.few, is) in
          (rw (c.form-form.ensures.at) at (c.in_ok-found.ensures.least m (Swap a b) told found)) a 256 (changed_since stamps (made_of c.args.swaps.now (place_of_swap a b))) refl was other fresh zeros;
    }
