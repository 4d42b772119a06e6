use Rattle.std.proofs.Common.{◌≡◌, ◌<◌, ◌≤◌, ◌∙◌, ℕ, List, sym, subst, length, arith}
use Rattle.label_energies.specs.Energies.{labelling}
use Rattle.move_energy.specs.declared.choice.Choice.{Choice}
use Rattle.move_energy.specs.declared.choice.Choice.TheVariants.{Open}
use Rattle.compile_cut.specs.Weights.{weights_size}
use Rattle.move_energy.specs.Choices.{choice_at}
use Rattle.move_energy.specs.Weights.{open_weights}
use Rattle.form_lists.specs.Lists.{CoversChanges}
use Rattle.site_bounds.specs.Listed.{AreListed, CoversRest}
use Rattle.site_bounds.specs.Working.{AreOfSites, AreUnsummed, ArePartlyDecided, CanDecide}
use Rattle.site_bounds.proofs.Among.{covers_rest, covers_changes}
use Rattle.site_bounds.proofs.Whole.{unsummed_first, partly_first, decided_last, partly_weights}
use Rattle.std.proofs.lemmas.Result.{err_from_is_err_and}
use Rattle.site_bounds.proofs.sites.Deciding.decide.Goals as goal

pub decide_open-requires-clause-unsummed : goal.decide_open-requires-clause-unsummed
decide_open-requires-clause-unsummed g c =
    let U : List ℕ → Type 0 = λ at. AreUnsummed (length at) c.open_move.new.bounds in
    subst U (sym c.form-form.ensures.at) (unsummed_first c.args.change c.args.at.now c.open_move.new.bounds c.in_ok-open_move.ensures.undecided)

pub returns-clause-decided : goal.returns-clause-decided
returns-clause-decided g c = λ m meant.
    let a = c.args in
    let new = c.decide_open.new.bounds in
    let e = c.in_ok-decide_open.ensures in
    let sites : m.sites ≡ length a.at.now = meant.sites_are ∙ sym c.requires.asked.asked.sites in
    let allowed = c.in_ok-read_tested.ensures.tested m meant in
    let is = c.form-form.ensures.of m a.change meant.sites_are meant.pairs_are allowed (c.in_ok-read_tested.ensures.read m meant) in
    let D : List ℕ → Type 0 = λ at. ArePartlyDecided m a.change (labelling at) 0 c.open_move.new.bounds → ArePartlyDecided m a.change (labelling at) (length at) new in
    let N : List ℕ → Type 0 = λ at. (u : ℕ) → u < length at → choice_at new.choices.items u ≡ Open → ¬ CanDecide new u in (
      allowed,
      decided_last m a.change (labelling a.at.now) (length a.at.now) new (omega (arith, sites)) (subst N c.form-form.ensures.at e.none)
          (subst D c.form-form.ensures.at (e.decided m a.change is) (partly_first m a.change a.at.now c.open_move.new.bounds (omega (arith, sites)) c.in_ok-open_move.ensures.undecided)),
    )

pub returns-in_err-read_tested-clause-known : goal.returns-in_err-read_tested-clause-known
returns-in_err-read_tested-clause-known g c =
    let p = err_from_is_err_and c.from_residual-in_err-read_tested.result c.from_residual-in_err-read_tested.ensures.1 in
    rw (p.1) tt

pub returns-in_err-read_tested-clause-decided : goal.returns-in_err-read_tested-clause-decided
returns-in_err-read_tested-clause-decided g c = λ m meant.
    let p = err_from_is_err_and c.from_residual-in_err-read_tested.result c.from_residual-in_err-read_tested.ensures.1 in
    rw (p.1, p.2) (c.in_err-read_tested.ensures.tested m meant)

pub returns-clause-known : goal.returns-clause-known
returns-clause-known g c =
    let a = c.args in
    let new = c.decide_open.new.bounds in
    let e = c.in_ok-decide_open.ensures in
    let L : List Choice → Type 0 = λ choices. AreListed a.change (labelling a.at.now) choices c.fill_rest.new.self in
    let S : List ℕ → Type 0 = λ at. AreOfSites (length at) new in
    let sized = subst S c.form-form.ensures.at e.sized in
    record {
      sites = record {
        sized = record { choices = sized.choices; least = sized.least; greatest = sized.greatest };
        small = (let T : List ℕ → Type 0 = λ at. weights_size (open_weights new.choices.items new.greatest.items (length at)) ≤ 300000000000000 in subst T c.form-form.ensures.at e.total);
        listed = subst L c.deref-3.ensures.value c.in_ok-fill_rest.ensures.lists;
      };
      weights = λ m meant.
          let sites : m.sites ≡ length a.at.now = meant.sites_are ∙ sym c.requires.asked.asked.sites in
          let is = c.form-form.ensures.of m a.change meant.sites_are meant.pairs_are (c.in_ok-read_tested.ensures.tested m meant) (c.in_ok-read_tested.ensures.read m meant) in
          let D : List ℕ → Type 0 = λ at. ArePartlyDecided m a.change (labelling at) 0 c.open_move.new.bounds → ArePartlyDecided m a.change (labelling at) (length at) new in
          partly_weights m a.change (labelling a.at.now) (length a.at.now) new is.instance
          (omega (arith, sites)) (subst D c.form-form.ensures.at (e.decided m a.change is) (partly_first m a.change a.at.now c.open_move.new.bounds (omega (arith, sites)) c.in_ok-open_move.ensures.undecided));
      lists = c.in_ok-read_tested.ensures.lists;
      read = λ m meant. c.in_ok-read_tested.ensures.read m meant;
    }

pub fill_rest-requires-clause-among : goal.fill_rest-requires-clause-among
fill_rest-requires-clause-among g c swap =
    let a = c.args in
    let covers = covers_rest a.change a.at.now c.open_move.new.bounds c.decide_open.new.bounds c.open_move.new.swapped.items c.in_ok-open_move.ensures.undecided.opened
    c.in_ok-decide_open.ensures.closed (c.in_ok-open_move.ensures.listed swap) in
    subst (λ (X : Type 0). X) (λ i. CoversRest a.change a.at.now (sym c.deref-3.ensures.value i) (sym c.deref-4.ensures.value i)) covers

pub read_tested-requires-clause-covers : goal.read_tested-requires-clause-covers
read_tested-requires-clause-covers g c κs within swap =
    let a = c.args in
    let C : List ℕ → Type 0 = λ sites. CoversChanges a.change a.at.now sites in
    subst C (sym c.deref.ensures.value)
    (covers_changes a.change a.at.now c.open_move.new.bounds.choices.items _ c.in_ok-open_move.ensures.undecided.opened (c.in_ok-open_move.ensures.listed swap))
