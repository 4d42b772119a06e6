use Rattle.std.proofs.Common.{◌≡◌, ◌∙◌, ℕ, List, length, refl, sym, ap, subst}
use Rattle.label_field.specs.PairLists.{PairList}
use Rattle.label_field.proofs.Numbers.{numbered_length}
use Rattle.cost_store.specs.Posed.{KeepsPairCosts, MeansByPair, instance_by_pair}
use Rattle.cost_store.proofs.problem.Problem.by_pair.Goals as goal

pub returns-clause-posed : goal.returns-clause-posed
returns-clause-posed g c =
    let a = c.args in
    let K : ℕ → Type 0 = λ n. KeepsPairCosts g.V.Fn n a.pair_costs in
    let count : length c.number.new.self.list ≡ length a.pairs.list = ap (λ (p : PairList). length p.list) c.number.ensures ∙ numbered_length 0 a.pairs.list in
    record {
      costs = c.requires.costs;
      smooth = λ weighted. absurd (let numbered = ap (λ (p : PairList). p.numbered) c.number.ensures in cc (numbered, weighted));
      by_pair = λ numbered. subst K (sym count) c.requires.smooth;
      pairs = c.keeps.ensures;
      data_sites = c.requires.sites ∙ sym (ap (λ (p : PairList). p.sites) c.number.ensures);
      smooth_labels = c.requires.labels;
      label_costs = tt;
    }

pub returns-clause-means : goal.returns-clause-means
returns-clause-means g c = λ at_sites between sites_told told.
    let a = c.args in
    let sites = ap (λ (p : PairList). p.sites) c.number.ensures in
    let list = ap (λ (p : PairList). p.list) c.number.ensures in
    let K : ℕ → Type 0 = λ n. MeansByPair g.V.Fn a.pair_costs.v n a.data_cost.labels (instance_by_pair a.pairs a.data_cost.labels at_sites between) in
    rw (sites, list) (record {
      sites_are = refl;
      labels_are = refl;
      pairs_are = refl;
      data_are = sites_told;
      smooth_are = λ weighted. absurd (let numbered = ap (λ (p : PairList). p.numbered) c.number.ensures in cc (numbered, weighted));
      by_pair = λ numbered. subst K (sym (numbered_length 0 a.pairs.list)) told;
      costs_are = record { each = λ label below. refl };
    })
