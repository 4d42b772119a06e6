use Rattle.std.proofs.Common.{◌≡◌, ◌≢◌, ℕ, ◌+◌, ◌<◌, ◌≤◌, Bool, true, false, List, All, length, vec_len, sym, ap, ◌∙◌, subst, arith}
use Rattle.std.specs.List.{list_any}
use Rattle.std.proofs.lemmas.List.Elements.{All-weaker}
use Rattle.std.proofs.lemmas.Result.{on_ok_weaker}
use Rattle.sums.specs.Sums.{count_if}
use Rattle.label_energies.specs.Energies.{labelling, is_used as is_used_in}
use Rattle.compile_cut.specs.Quadratics.{AddsLeast, IsTied}
use Rattle.move_energy.specs.declared.choice.Choice.TheVariants.{Open}
use Rattle.move_energy.specs.Choices.{choice_at, open_count}
use Rattle.move_energy.proofs.Adding.{on_ok_both}
use Rattle.label_cost_terms.specs.LabelCosts.{nodes_of, uses, AddsHidden}
use Rattle.label_cost_terms.proofs.Uses.{own_used, used_already, used_nowhere, nodes_below, nodes_most, open_where, made_at}
use Rattle.label_cost_terms.proofs.Costing.{adds_fixed, adds_tied, wider_tied}
use Rattle.label_cost_terms.proofs.label_costs.add_own.Goals as goal

pub returns-then-used-clause-adds : goal.returns-then-used-clause-adds
returns-then-used-clause-adds c =
    let f = c.args.expansion.now.at.now in
    let choices = c.args.expansion.now.variables.now.choices.items in
    let used : is_used_in (length f) (labelling f) c.args.expansion.now.alpha ≡ true = sym c.requires.used ∙ c.if-used.true in
    adds_fixed c.args.form.now (λ x. count_if (uses c.args.expansion.now.alpha f choices c.args.expansion.now.alpha x) c.args.cost) c.args.cost
    (λ x. ap (λ (b : Bool). count_if b c.args.cost) (used_already c.args.expansion.now.alpha (labelling f) choices x (length f) used))

pub list_each-requires-clause-opened : goal.list_each-requires-clause-opened
list_each-requires-clause-opened c = λ p l.
    let f = c.args.expansion.now.at.now in
    let none : is_used_in (length f) (labelling f) c.args.expansion.now.alpha ≡ false = sym c.requires.used ∙ c.if-used.false in
    let inside : p < length f = omega (arith, l, c.requires.opened.opened.count) in
    open_where c.args.expansion.now.alpha f c.args.expansion.now.variables.now.choices.items p c.requires.opened.opened inside (used_nowhere (length f) (labelling f) c.args.expansion.now.alpha p none inside)

pub add_if_any-requires-clause-nodes : goal.add_if_any-requires-clause-nodes
add_if_any-requires-clause-nodes c =
    let f = c.args.expansion.now.at.now in
    let choices = c.args.expansion.now.variables.now.choices.items in
    let none : is_used_in (length f) (labelling f) c.args.expansion.now.alpha ≡ false = sym c.requires.used ∙ c.if-used.false in
    let opened : (p : ℕ) → p < length choices → choice_at choices p ≡ Open =
    λ p l. (let inside : p < length f = omega (arith, l, c.requires.opened.opened.count) in
    open_where c.args.expansion.now.alpha f choices p c.requires.opened.opened inside (used_nowhere (length f) (labelling f) c.args.expansion.now.alpha p none inside)) in
    let is : c.deref.result.now ≡ nodes_of (λ p. true) choices (length choices) = c.deref.ensures.value ∙ c.in_ok-list_each.ensures in
    let P : List ℕ → Type 0 = λ nodes. All (λ (v : ℕ). v < vec_len c.args.form.now.weights) nodes in
    subst P (sym is) (All-weaker (λ (v : ℕ). v < open_count choices) (λ (v : ℕ). v < vec_len c.args.form.now.weights) (λ v l. omega (arith, l, c.requires.form.nodes))
    (nodes_of (λ p. true) choices (length choices)) (nodes_below (λ p. true) choices (length choices) (omega arith) (λ p l one. opened p l)))

pub returns-clause-wider : goal.returns-clause-wider
returns-clause-wider c =
    let choices = c.args.expansion.now.variables.now.choices.items in
    let is : c.deref.result.now ≡ nodes_of (λ p. true) choices (length choices) = c.deref.ensures.value ∙ c.in_ok-list_each.ensures in
    let few : length c.deref.result.now ≤ length c.args.expansion.now.at.now = omega (arith, ap (λ (xs : List ℕ). length xs) is, nodes_most (λ p. true) choices (length choices), c.requires.opened.opened.count) in
    on_ok_weaker c.add_if_any.result (λ tied. wider_tied c.args.form.now c.add_if_any.new.self (length c.deref.result.now) (length c.args.expansion.now.at.now) c.args.cost few
    (omega (arith, c.requires.opened.few)) (omega (arith, c.requires.cost)) tied) c.add_if_any.ensures.tied

pub returns-clause-adds : goal.returns-clause-adds
returns-clause-adds c =
    let f = c.args.expansion.now.at.now in
    let choices = c.args.expansion.now.variables.now.choices.items in
    let none : is_used_in (length f) (labelling f) c.args.expansion.now.alpha ≡ false = sym c.requires.used ∙ c.if-used.false in
    let is : c.deref.result.now ≡ nodes_of (λ p. true) choices (length choices) = c.deref.ensures.value ∙ c.in_ok-list_each.ensures in
    let off : (p : ℕ) → p < length choices → labelling f p ≢ c.args.expansion.now.alpha = λ p l. used_nowhere (length f) (labelling f) c.args.expansion.now.alpha p none (omega (arith, l, c.requires.opened.opened.count)) in
    let told = λ (x : ℕ → Bool).
    ap (λ (xs : List ℕ). count_if (list_any x xs) c.args.cost) is
    ∙ ap (λ (b : Bool). count_if b c.args.cost) (
    own_used c.args.expansion.now.alpha (labelling f) choices x (length choices) off
    (λ p l. open_where c.args.expansion.now.alpha f choices p c.requires.opened.opened (omega (arith, l, c.requires.opened.opened.count)) (off p l))
    ∙ ap (λ (n : ℕ). is_used_in n (made_at c.args.expansion.now.alpha (labelling f) choices x) c.args.expansion.now.alpha) c.requires.opened.opened.count
    ) in
    on_ok_both c.add_if_any.result (IsTied (length c.deref.result.now + 1) c.args.cost c.args.form.now c.add_if_any.new.self)
    (AddsLeast c.args.form.now c.add_if_any.new.self (λ x. count_if (list_any x c.deref.result.now) c.args.cost))
    (AddsHidden c.args.form.now c.add_if_any.new.self (λ x. count_if (uses c.args.expansion.now.alpha f choices c.args.expansion.now.alpha x) c.args.cost))
    (λ tied adds. adds_tied c.args.form.now c.add_if_any.new.self (length c.deref.result.now + 1) c.args.cost
    (λ x. count_if (list_any x c.deref.result.now) c.args.cost) (λ x. count_if (uses c.args.expansion.now.alpha f choices c.args.expansion.now.alpha x) c.args.cost) tied adds told)
    c.add_if_any.ensures.tied c.add_if_any.ensures.value
