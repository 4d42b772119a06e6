use Rattle.std.proofs.Common.{◌+◌, ◌≤◌, IfOk, vec_len, refl, sym, subst}
use Rattle.pseudo_bool.specs.Energies.{assignment}
use Rattle.label_field.specs.Limits.{site_limit, label_limit}
use Rattle.pseudo_bool.specs.Limits.{term_limit}
use Rattle.compile_cut.specs.declared.quadratic.Quadratic.{Quadratic}
use Rattle.compile_cut.specs.Quadratics.{quadratic_value, IsQuadraticBounded}
use Rattle.site_bounds.specs.Decisions.{IsSmallestLeast}
use Rattle.one_move.specs.declared.left.Left.{Left}
use Rattle.one_move.specs.Building.{IsLeftSized, LeavesLeast}
use Rattle.one_move.proofs.left.cut_left.Goals as goal

pub returns-in-Values-clause-least : goal.returns-in-Values-clause-least
returns-in-Values-clause-least g c =
    let L : Left → Type 0 = λ left. LeavesLeast c.args.space.now.built left c.in-Values.bits in
    subst L (sym c.in-Values.is) refl

pub cut_small-requires-clause-bounded : goal.cut_small-requires-clause-bounded
cut_small-requires-clause-bounded g c =
    let S : Left → Type 0 = λ left. IsLeftSized (site_limit + label_limit) c.args.space.now.built.form left in
    let Q : Quadratic → Type 0 = λ q. IsQuadraticBounded term_limit q in
    subst Q (sym c.replace-form.ensures.value) (subst S c.in-Form.is c.requires.sized).0

pub cut_small-requires-clause-few : goal.cut_small-requires-clause-few
cut_small-requires-clause-few g c =
    let S : Left → Type 0 = λ left. IsLeftSized (site_limit + label_limit) c.args.space.now.built.form left in
    let Q : Quadratic → Type 0 = λ q. vec_len q.weights ≤ site_limit + label_limit in
    subst Q (sym c.replace-form.ensures.value) (subst S c.in-Form.is c.requires.sized).1

pub returns-after-space-clause-least : goal.returns-after-space-clause-least
returns-after-space-clause-least g c =
    let L : Left → Type 0 = λ left. IfOk c.cut_small.result (LeavesLeast c.args.space.now.built left) in
    let Q : Quadratic → Type 0 = λ q. IfOk c.cut_small.result (λ bits. IsSmallestLeast (vec_len q.weights) (quadratic_value q) (assignment bits.items)) in
    subst L (sym c.in-Form.is) (subst Q c.replace-form.ensures.value c.cut_small.ensures.least)
