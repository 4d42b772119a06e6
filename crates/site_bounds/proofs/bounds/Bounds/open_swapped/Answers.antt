use Rattle.std.proofs.Common.{◌≡◌, ◌<◌, ◌∙◌, ℕ, All, List, length, sym, ap, subst}
use Rattle.std.proofs.lemmas.List.{length-replicate}
use Rattle.label_energies.specs.declared.change.Move.TheVariants.{Swap}
use Rattle.label_energies.specs.Energies.{labelling}
use Rattle.move_energy.specs.declared.choice.Choice.{Choice}
use Rattle.move_energy.specs.declared.choice.Choice.TheVariants.{Zero}
use Rattle.site_bounds.specs.Swapped.{can_turn, OpensSites}
use Rattle.site_bounds.proofs.Opening.{listed_within, all_open, open_sites_are}
use Rattle.site_bounds.proofs.bounds.Bounds.open_swapped.Goals as goal

pub mark_open-requires : goal.mark_open-requires
mark_open-requires c =
    let n = length c.args.at.now in
    let closed = c.in_ok-begin.ensures.closed in
    let count : length c.begin.new.self.choices.items ≡ n = ap (λ (xs : List Choice). length xs) closed ∙ length-replicate n Zero in
    let W : List ℕ → ℕ → Type 0 = λ sites k. All (λ p. p < k) sites in
    let within = listed_within (can_turn (Swap c.args.alpha c.args.beta) (labelling c.args.at.now)) n c.list.new.list.items c.in_ok-list.ensures in
    subst (λ (X : Type 0). X) (λ i. W (sym c.deref.ensures.value i) (sym count i)) within

pub returns-clause-undecided : goal.returns-clause-undecided
returns-clause-undecided c =
    let a = c.args in
    let closed = c.in_ok-begin.ensures.closed in
    let opens = subst (λ (X : Type 0). X) (λ i. OpensSites (c.deref.ensures.value i) (closed i) c.mark_open.new.choices.items) c.mark_open.ensures in
    record {
      opened = all_open (Swap a.alpha a.beta) a.at.now c.list.new.list.items c.mark_open.new.choices.items c.in_ok-list.ensures opens;
      unsummed = record { summed = c.in_ok-begin.ensures.unsummed.summed; none = c.in_ok-begin.ensures.unsummed.none };
    }

pub returns-clause-listed : goal.returns-clause-listed
returns-clause-listed c =
    let a = c.args in
    let closed = c.in_ok-begin.ensures.closed in
    let opens = subst (λ (X : Type 0). X) (λ i. OpensSites (c.deref.ensures.value i) (closed i) c.mark_open.new.choices.items) c.mark_open.ensures in
    open_sites_are (Swap a.alpha a.beta) a.at.now c.list.new.list.items c.mark_open.new.choices.items c.in_ok-list.ensures opens
