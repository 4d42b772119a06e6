use Rattle.std.proofs.Common.{◌≡◌, ◌<◌, ℕ, true, false, sym, subst, inl, inr, arith}
use Rattle.std.specs.Prelude.{slice_index_or}
use Rattle.std.proofs.lemmas.Bool.{cases_eq}
use Rattle.form_lists.specs.Lists.{HasCostOf}
use Rattle.form_lists.proofs.smooth_costs.ask_beside.Goals as goal

pub loop-other-preserved : goal.loop-other-preserved
loop-other-preserved g c =
    let a = c.args in
    let i = c.loop-other.invariant in
    let e = c.ask_both-mirrored.ensures in
    let n = c.loop-other.other in
    let new = c.ask_both-mirrored.new.costs in
    let few = c.requires.few in
    record {
      beside = λ m meant other l marked. elim (cases_eq other n) [
        | inl same ↦
            let P : ℕ → Type 0 = λ k. slice_index_or a.labels.now k false ≡ true → HasCostOf m new a.label k × HasCostOf m new k a.label in
            subst P (sym same) (e.both m meant) marked
        | inr off ↦
            let below : other < n = omega (arith, l, off) in
            let had = i.beside m meant other below marked in
            let other_in : other < 256 = omega (arith, below, c.loop-other-test.true, few) in
            let label_in : a.label < 256 = omega (arith, c.requires.label, few) in
            (e.kept m meant a.label other other_in had.0, e.kept m meant other a.label label_in had.1)
      ];
      kept = λ m meant one other l had. e.kept m meant one other l (i.kept m meant one other l had);
      small = λ each. e.small (i.small each);
      mirrored = λ all each. (let two = c.both-symmetric.ensures all in e.symmetric two.1 (i.mirrored two.0 each));
    }

pub returns-clause-beside : goal.returns-clause-beside
returns-clause-beside g c = λ m meant other l marked.
    c.loop-other.invariant.beside m meant other (let k = meant.labels_are in omega (arith, l, k, c.loop-other-test.false)) marked
