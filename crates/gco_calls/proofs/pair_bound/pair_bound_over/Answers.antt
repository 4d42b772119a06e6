use Rattle.std.proofs.Common.{◌∙◌, ℕ, length, map, pos, refl, sym, ap, subst, arith}
use Rattle.label_field.specs.PairLists.{PairList, number_pairs}
use Rattle.label_field.proofs.Numbers.{numbered_length}
use Rattle.cost_store.specs.LabelCosts.{AreLabelCosts, costs_of}
use Rattle.moves.proofs.Entries.{below_along, smooth_along}
use Rattle.gco_arrays.specs.Calls.{call_arrays}
use Rattle.gco_arrays.specs.PairCalls.{instance_of_call, own_cost, pair_call}
use Rattle.gco_arrays.proofs.Entries.{cost_of_entry}
use Rattle.gco_calls.proofs.PairLines.{line_at, line_is, parts_pairs, parts_sites, within_cost}
use Rattle.gco_calls.proofs.pair_bound.pair_bound_over.Goals as goal

pub by_pair-pair_costs-requires-clause-keeps : goal.by_pair-pair_costs-requires-clause-keeps
by_pair-pair_costs-requires-clause-keeps g c = λ line second inside column.
    let price = line_at _ c.args.ready c.labels-labels.result c.len-count.result line second c.requires.parts c.labels-labels.ensures.value c.len-count.ensures.value inside column in
    ((omega (arith, column), (price, c.type_bounds.sync-N)), λ z is. within_cost _ z is price.within)

pub bound_problem-requires-clause-posed : goal.bound_problem-requires-clause-posed
bound_problem-requires-clause-posed g c κs within =
    let a = c.args in
    let count = ap (λ (p : PairList). length p.list) c.number.ensures ∙ numbered_length 0 a.ready.pairs.list in
    let sites = ap (λ (p : PairList). p.sites) c.number.ensures in
    let L : ℕ → Type 0 = λ k. AreLabelCosts k a.ready.label_costs in
    record {
      costs = c.new-data_cost.ensures.keeps;
      smooth = λ weighted. absurd (let numbered = ap (λ (p : PairList). p.numbered) c.number.ensures in cc (numbered, weighted));
      by_pair = λ numbered. rw (count ∙ sym c.len-count.ensures.value) c.by_pair-pair_costs.ensures.keeps;
      pairs = c.keeps.ensures;
      data_sites = rw c.new-data_cost.ensures.stored (c.sites-sites.ensures.value ∙ sym (parts_sites _ a.ready c.requires.parts) ∙ sym sites);
      smooth_labels = rw (c.new-data_cost.ensures.stored, c.by_pair-pair_costs.ensures.stored) refl;
      label_costs = rw c.new-data_cost.ensures.stored (subst L (sym c.labels-labels.ensures.value) c.requires.parts.costs_kept);
    }

pub returns : goal.returns
returns g c =
    let a = c.args in
    let labels = c.labels-labels.ensures.value in
    let value = g.N.Number.value in
    let list = ap (λ (p : PairList). p.list) c.number.ensures in
    let sites = ap (λ (p : PairList). p.sites) c.number.ensures ∙ parts_sites _ a.ready c.requires.parts in
    c.bound_problem.ensures
    (instance_of_call (pair_call (call_arrays a.ready.start.labels (map value a.data.now) (map value a.tables.now) (costs_of a.ready.label_costs) a.list.now a.ready.start.at) a.table_count a.table_of.now))
    (rw (c.new-data_cost.ensures.stored, c.by_pair-pair_costs.ensures.stored) (record {
      sites_are = sym sites;
      labels_are = sym labels;
      pairs_are = ap (number_pairs 0) (sym (parts_pairs _ a.ready c.requires.parts)) ∙ sym list;
      data_are = λ site label z ls ll is.
          cost_of_entry (pos 10000000) (map value a.data.now) (length a.ready.start.at) a.ready.start.labels c.requires.parts.given.rest.data_is c.requires.parts.given.data_range site label
          (below_along site _ _ ls sites) (below_along label _ _ ll labels) z (smooth_along (map value a.data.now) site label z _ _ labels is);
      smooth_are = λ weighted. absurd (let numbered = ap (λ (p : PairList). p.numbered) c.number.ensures in cc (numbered, weighted));
      by_pair = λ numbered n x y z ln lx ly is.
          line_is c.labels-labels.result (map value a.tables.now) a.list.now a.table_of.now n x y z lx is
          ∙ ap (λ k. pos (own_cost k (map value a.tables.now) a.list.now a.table_of.now n x y)) labels;
      costs_are = record { each = λ label below. refl };
    }))
