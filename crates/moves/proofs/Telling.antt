-- From where a run ended to the bound that it tells, and whose refusal a label's cost is.
use Rattle.std.proofs.Common.{◌≡◌, ◌<◌, ◌*◌, ◌+◌, ℕ, Bool, true, List, length, All, ℤ, pos, ◌≤ℤ◌, Option, Some, None, IsTrue, IfOk, IfSome, Result, Ok, Err, refl, sym, ap, ◌∙◌, subst, inl, inr, arith}
use Rattle.std.specs.Global.{Vec}
use Rattle.std.proofs.lemmas.Bool.{cases_lt}
use Rattle.cost_store.specs.Promises.{IsCost, IsTable}
use Rattle.cost_store.specs.LabelCosts.{cost_at, AreFree, AreLabelCosts, HasCosts, costs_of}
use Rattle.label_field.specs.LabelFields.{LabelField}
use Rattle.label_energies.specs.Chains.{IsChain, moves_of}
use Rattle.label_energies.specs.Energies.{Instance, IsInstance, AreLabelsFree, IsRatio, HasRatio, IsWeighted, labelling}
use Rattle.label_energies.proofs.Metric.{one_table}
use Rattle.label_energies.specs.declared.change.Move.{Move}
use Rattle.label_energies.proofs.Chains.{settled_is_local}
use Rattle.label_energies.proofs.Ratio.{expansion_bound}
use Rattle.moves.specs.Bounds.{IsBoundOf}
use Rattle.run_steps.specs.Problems.{IsRunOfCycles}
use Rattle.one_move.specs.Moved.{IsCauseOfRefusal}
use Rattle.moves.specs.declared.bound.Bound.{Bound}
use Rattle.one_move.specs.declared.error.MoveError.{MoveError}
use Rattle.one_move.specs.declared.error.MoveError.TheVariants.{LabelCostInSwap}
use Rattle.run_steps.specs.declared.course.Ended.{Ended}
use Rattle.one_move.proofs.Answers.{costs_costly, costs_free}
use Rattle.label_energies.specs.declared.cycles.Moves.{Moves}
use Rattle.label_energies.specs.declared.cycles.Moves.TheVariants.{Expansion, Swap}
use Rattle.moves.specs.Runs.{AnswersRun, HasBound, IsNearLeast, MayMake, TellsBound}
use Rattle.moves.specs.declared.tables.Run.{Run}
use Rattle.moves.proofs.Entries.{place_in}

-- labels that cost nothing have costs that are all 0
pub free_costs : (m : Instance) (labels : ℕ) (costs : Option (Vec ℤ)) → m.labels ≡ labels → AreLabelCosts labels costs → HasCosts m costs → AreLabelsFree m
    → AreFree (costs_of costs)
free_costs m labels costs same are has free label =
    let A : ℕ → Type 0 = λ k. AreLabelCosts k costs in
    elim (cases_lt 0 (cost_at (costs_of costs) label)) [
      | inl some ↦ absurd (costs_costly m costs (subst A (sym same) are) has (label, some) free)
      | inr none ↦ omega (arith, none)
    ]

-- a settled run of expansions is near
is_near : (m : Instance) (start : List ℕ) (cycles : ℕ) (field : LabelField) (ended : Ended) (bound : Bound)
    → IsInstance m → All (λ label. label < field.labels) field.at → length field.at ≡ m.sites → field.labels ≡ m.labels
    → IsBoundOf m bound → IsChain m (moves_of Expansion m.labels) cycles start field.at ended.cycles true → IsNearLeast m field.at bound
is_near m start cycles field ended bound pairs below sites labels of chain = record {
  ratio = record { table = of.metric.table; weighted = of.metric.weighted; ratio = of.ratio };
  near = λ h lh. expansion_bound m of.metric.table (labelling field.at) h bound.vmin bound.vmax pairs of.metric.weighted of.metric.metric of.ratio of.free
      (λ p l. (let here = below p 0 (omega (arith, l, sites)) in omega (arith, here, labels))) lh
      (settled_is_local m cycles start field.at ended.cycles chain);
}

-- a bound that is told, and one that is not
pub tells_bound : (m : Instance) (moves : Moves) (start : List ℕ) (cycles : ℕ) (field : LabelField) (ended : Ended) (bound : Option Bound)
    → IsInstance m → All (λ label. label < field.labels) field.at → length field.at ≡ m.sites → field.labels ≡ m.labels
    → IsRunOfCycles m (moves_of moves m.labels) cycles start field.at (Ok ended)
    → ((b : Bound) → bound ≡ Some b → (moves ≡ Expansion) × IsTrue ended.settled × IsBoundOf m b)
    → (bound ≡ None → ¬ HasBound m moves ended.settled)
    → TellsBound m moves field.at ended.settled bound
tells_bound m moves start cycles field ended None pairs below sites labels run some none = none refl
tells_bound m moves start cycles field ended (Some b) pairs below sites labels run some none =
    let known = some b refl in
    let K : Moves → Type 0 = λ k. IsChain m (moves_of k m.labels) cycles start field.at ended.cycles ended.settled in
    let C : Bool → Type 0 = λ s. IsChain m (moves_of Expansion m.labels) cycles start field.at ended.cycles s in (
      record { expansion = known.0; is_settled = known.1; metric = known.2.metric; free = known.2.free },
      is_near m start cycles field ended b pairs below sites labels known.2 (subst C known.1 (subst K known.0 run)),
    )

greatest_small : (m : Instance) (most : ℤ) (k least greatest : ℕ) (table : List ℤ) (cost : ℕ → ℕ → ℕ) → IsWeighted cost m → m.labels ≡ k → All (IsCost most) table
    → IsTable k k cost table → pos 1 ≤ℤ most → HasRatio m least greatest → pos greatest ≤ℤ most
greatest_small m most k least greatest table cost weighted labels costs is some has =
    let R : (ℕ → ℕ → ℕ) → Type 0 = λ t. IsRatio m.labels t least greatest in
    let ratio = subst R (one_table m has.table cost has.weighted weighted) has.ratio in
    elim (cases_lt 1 m.labels) [
      | inl more ↦
          (
          let met = ratio.greatest_met more in
          let P : ℤ → Type 0 = λ z. z ≤ℤ most in
          let la : met.0 < k = omega (arith, met.2, labels) in
          let lb : met.1 < k = omega (arith, met.3, labels) in
          let entry = costs (met.0 * k + met.1) (pos 0) (place_in met.0 met.1 k k (length table) la lb is.size) in
          subst P (is.each met.0 met.1 la lb ∙ ap pos met.5) entry.1
          )
      | inr one ↦ (let P : ℕ → Type 0 = λ n. pos n ≤ℤ most in subst P (sym (ratio.alone one).1) some)
    ]

told_small : (m : Instance) (most : ℤ) (k : ℕ) (table : List ℤ) (moves : Moves) (labels : List ℕ) (settled : Bool) (bound : Option Bound)
    (cost : ℕ → ℕ → ℕ) → IsWeighted cost m → m.labels ≡ k → All (IsCost most) table → IsTable k k cost table → pos 1 ≤ℤ most → TellsBound m moves labels settled bound
    → IfSome bound (λ (b : Bound). pos b.vmax ≤ℤ most)
told_small m most k table moves labels settled None cost weighted same costs is some tells = tt
told_small m most k table moves labels settled (Some b) cost weighted same costs is some tells =
    greatest_small m most k b.vmin b.vmax table cost weighted same costs is some tells.1.ratio

-- the numbers of a bound are costs of the table, or 1
pub bound_small : (m : Instance) (most : ℤ) (k : ℕ) (table : List ℤ) (moves : Moves) (cycles : ℕ) (start : List ℕ) (r : Result Run MoveError) → m.labels ≡ k
    → All (IsCost most) table → (cost : ℕ → ℕ → ℕ) → IsWeighted cost m → IsTable k k cost table → pos 1 ≤ℤ most → AnswersRun m moves cycles start r
    → IfOk r (λ (run : Run). IfSome run.bound (λ (b : Bound). pos b.vmax ≤ℤ most))
bound_small m most k table moves cycles start (Err e) same costs cost weighted is some answers = tt
bound_small m most k table moves cycles start (Ok run) same costs cost weighted is some answers =
    told_small m most k table moves run.labelling.at run.ended.settled run.bound cost weighted same costs is some answers.4

of_label : (m : Instance) (next : Move) (g : List ℕ) (e : MoveError) → e ≡ LabelCostInSwap → IsCauseOfRefusal m next g e → ¬ AreLabelsFree m
of_label m next g e is refusal =
    let R : MoveError → Type 0 = λ x. IsCauseOfRefusal m next g x in
    (subst R is refusal).2

expansion_apart : Expansion ≡ Swap → ⊥
expansion_apart is = cc

-- a run is refused for what a label costs only where it is one of swaps
pub refused_own : (m : Instance) (moves : Moves) (cycles : ℕ) (start reached : List ℕ) (e : MoveError) → (e ≡ LabelCostInSwap → moves ≡ Swap)
    → IsRunOfCycles m (moves_of moves m.labels) cycles start reached (Err e) → e ≡ LabelCostInSwap → ¬ MayMake m moves
refused_own m Expansion cycles start reached e own run is may = expansion_apart (own is)
refused_own m Swap cycles start reached e own (inl run) is may = of_label m run.0 reached e is run.2 may
refused_own m Swap cycles start reached e own (inr never) is may = never.2 may

-- swaps were made only where no label costs anything
pub made_free : (m : Instance) (moves : Moves) (costs : Option (Vec ℤ)) → HasCosts m costs → (moves ≡ Swap → AreFree (costs_of costs)) → MayMake m moves
made_free m Expansion costs has free = tt
made_free m Swap costs has free = costs_free m costs has (free refl)
