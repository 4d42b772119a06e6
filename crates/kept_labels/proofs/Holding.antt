-- Labels that are tested one after another.
use Rattle.std.proofs.Common.{◌≡◌, ◌≢◌, ℕ, ◌+◌, ◌<◌, ◌≤◌, Bool, true, false, IsTrue, List, length, get_or, sym, ap, ◌∙◌, subst, inl, inr, arith, ℤ, pos, ◌≤ℤ◌, ◌<ℤ◌, unsigned_abs}
use Rattle.std.specs.List.{All}
use Rattle.std.proofs.lemmas.Int.{ints}
use Rattle.std.proofs.lemmas.Bool.{cases_lt}
use Rattle.std.proofs.lemmas.List.Elements.{All-get_or}
use Rattle.label_energies.specs.declared.change.Move.TheVariants.{Expand}
use Rattle.label_energies.specs.Energies.{Instance, labelling, is_used}
use Rattle.move_energy.specs.MoveValues.{move_value}
use Rattle.cost_store.specs.Promises.{IsCost}
use Rattle.cost_store.specs.LabelCosts.{AreLabelMarks}
use Rattle.label_cost_terms.specs.LabelCosts.{AreCostsOf}
use Rattle.site_forms.specs.declared.numbers.SiteForm.{SiteForm}
use Rattle.site_forms.specs.Numbers.{IsFormOf, WhereRead}
use Rattle.kept_labels.specs.Kept.{last_rise, IsKeptLabel, AreLabelsKept}

-- what is known of the labels of a form: which are in use, and by how much each rises last
pub record AreKnown (form : SiteForm) (marks : List Bool) (rises costs : List ℤ) : Type 0 where
  pub few : length costs ≤ 256
  pub small : All (IsCost (pos 10000000)) costs
  pub marked : AreLabelMarks (length form.at.now) (labelling form.at.now) marks
  pub risen : (label : ℕ) → label < 256 → WhereRead form (λ m move f. get_or rises label (pos 0) ≡ last_rise (move_value m move f) f label)

-- each of the labels below one is kept, where it has to be
abbrev pub AreKeptBelow : SiteForm → ℕ → List ℤ → ℕ → Type 0
AreKeptBelow form alpha costs k =
    (m : Instance) → IsFormOf m (Expand alpha) form → AreCostsOf m costs → (label : ℕ) → label < k → label ≢ alpha → is_used m.sites (labelling form.at.now) label ≡ true
    → 0 < m.label_cost label → IsKeptLabel m alpha (labelling form.at.now) label

cost_same : (z : ℤ) (cost : ℕ) → IsCost (pos 10000000) z → cost ≡ unsigned_abs z → z ≡ pos cost
cost_same z cost are is = omega (arith, ints, are.0, are.1, is)

-- the cost of a label, as it is read
cost_is : (m : Instance) (costs : List ℤ) (label : ℕ) → All (IsCost (pos 10000000)) costs → AreCostsOf m costs → label < m.labels → get_or costs label (pos 0) ≡ pos (m.label_cost label)
cost_is m costs label small are l =
    cost_same (get_or costs label (pos 0)) (m.label_cost label) (All-get_or (IsCost (pos 10000000)) costs label (pos 0) (omega (arith, l, are.count)) small) (are.each label l)

some_cost : (z : ℤ) (cost : ℕ) → z ≡ pos cost → 0 < cost → pos 0 <ℤ z
some_cost z cost is some = omega (arith, ints, is, some)

no_more : (z r s : ℤ) (cost : ℕ) → z ≡ pos cost → r ≡ s → z ≤ℤ r → pos cost ≤ℤ s
no_more z r s cost is risen low = omega (arith, ints, is, risen, low)

paid : (z r s : ℤ) (cost : ℕ) → z ≡ pos cost → r ≡ s → pos cost ≤ℤ s → z ≤ℤ r
paid z r s cost is risen low = omega (arith, ints, is, risen, low)

cost_some : (z : ℤ) (cost : ℕ) → z ≡ pos cost → pos 0 <ℤ z → 0 < cost
cost_some z cost is some = omega (arith, ints, is, some)

-- what the test of a label says
abbrev pub IsTested : ℕ → ℕ → List Bool → List ℤ → List ℤ → Bool → Type 0
IsTested alpha label marks rises costs passed =
    (IsTrue passed → label ≢ alpha → get_or marks label false ≡ true → pos 0 <ℤ get_or costs label (pos 0) → get_or costs label (pos 0) ≤ℤ get_or rises label (pos 0))
    × ((label ≢ alpha → get_or marks label false ≡ true → pos 0 <ℤ get_or costs label (pos 0) → get_or costs label (pos 0) ≤ℤ get_or rises label (pos 0)) → IsTrue passed)

kept_here : (form : SiteForm) (alpha label : ℕ) (marks : List Bool) (rises costs : List ℤ) (passed : Bool) → AreKnown form marks rises costs → IsTested alpha label marks rises costs passed → passed ≡ true
    → (m : Instance) → IsFormOf m (Expand alpha) form → AreCostsOf m costs → label < m.labels → label ≢ alpha → is_used m.sites (labelling form.at.now) label ≡ true
    → 0 < m.label_cost label → IsKeptLabel m alpha (labelling form.at.now) label
kept_here form alpha label marks rises costs passed known test passes m is are l other used some =
    let inside : label < 256 = omega (arith, l, known.few, are.count) in
    let cost = cost_is m costs label known.small are l in
    no_more (get_or costs label (pos 0)) (get_or rises label (pos 0)) _ (m.label_cost label) cost (known.risen label inside m (Expand alpha) is)
    (test.0 passes other (known.marked.each label inside ∙ ap (λ n. is_used n (labelling form.at.now) label) is.read.sites ∙ used) (some_cost (get_or costs label (pos 0)) (m.label_cost label) cost some))

pub kept_more : (form : SiteForm) (alpha k : ℕ) (marks : List Bool) (rises costs : List ℤ) (passed : Bool) → AreKnown form marks rises costs → IsTested alpha k marks rises costs passed → passed ≡ true
    → k < length costs → AreKeptBelow form alpha costs k → AreKeptBelow form alpha costs (k + 1)
kept_more form alpha k marks rises costs passed known test passes l so_far m is are label below other used some = elim (cases_lt label k) [
  | inl before ↦ so_far m is are label before other used some
  | inr last ↦
      let same : k ≡ label = omega (arith, below, last) in
      kept_here form alpha label marks rises costs passed known (subst (λ (j : ℕ). IsTested alpha j marks rises costs passed) same test) passes m is are (omega (arith, same, l, are.count)) other used some
]

-- and one that fails is not
pub not_kept : (form : SiteForm) (alpha label : ℕ) (marks : List Bool) (rises costs : List ℤ) (passed : Bool) → AreKnown form marks rises costs → IsTested alpha label marks rises costs passed
    → label < length costs → (m : Instance) → IsFormOf m (Expand alpha) form → AreCostsOf m costs → AreLabelsKept m alpha (labelling form.at.now) → IsTrue passed
not_kept form alpha label marks rises costs passed known test l m is are kept =
    let inside : label < 256 = omega (arith, l, known.few) in
    let below : label < m.labels = omega (arith, l, are.count) in
    let cost = cost_is m costs label known.small are below in
    test.1 (λ other used some.
    paid (get_or costs label (pos 0)) (get_or rises label (pos 0)) _ (m.label_cost label) cost (known.risen label inside m (Expand alpha) is)
    (kept label below other (sym (ap (λ n. is_used n (labelling form.at.now) label) is.read.sites) ∙ sym (known.marked.each label inside) ∙ used)
    (cost_some (get_or costs label (pos 0)) (m.label_cost label) cost some)))
