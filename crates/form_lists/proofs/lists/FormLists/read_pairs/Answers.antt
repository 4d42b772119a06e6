use Rattle.std.proofs.Common.{◌∙◌, sym, subst}
use Rattle.form_lists.specs.declared.smooth_costs.AskedCosts.{AskedCosts}
use Rattle.form_lists.specs.Lists.{AreAskedCosts, AreMadeAsked, HasCostRoom}
use Rattle.form_lists.proofs.ToldTable.{uniform_of, scaled_of, expanding_of}
use Rattle.form_lists.proofs.Taking.{become_still, lists_of, read_of}
use Rattle.form_lists.proofs.lists.FormLists.read_pairs.Goals as goal

pub returns-clause-lists : goal.returns-clause-lists
returns-clause-lists g c =
    let a = c.args in
    let labels = a.problem.now.data_cost.labels in
    let made = c.make_tables.ensures in
    let begun = c.in_ok-begin_pairs.ensures in
    let new = c.make_tables.new.self in
    let told = c.in_ok-make_tables.ensures in
    let K : AskedCosts → Type 0 = λ s. AreAskedCosts g.F.Fn g.V.Fn a.problem.now s in
    let R : AskedCosts → Type 0 = λ s. HasCostRoom labels s in
    let known = subst K (sym made.same.2) begun.known in
    let room = subst R (sym made.same.2) begun.room in
    let become = become_still labels a.change c.begin_pairs.new.self new made.same.0 made.same.1 begun.labels in
    let weighted = c.if-self.false in
    record {
      numbers = λ own len small. lists_of labels own a.at.now new.stays.items new.turns.items new.smooth.costs.items new.smooth.symmetric new.few new.table.items
          c.requires.asked.labels c.requires.few len small become.stays_len become.turns_len become.stays_below become.turns_below room.1 known.small known.mirrored made.few told.count told.rises;
      kind = made.same.3 ∙ c.are_numbered-self.ensures;
      by_place = λ listed. absurd (let same = made.same.3 in cc (listed, same, weighted));
      by_known = λ yes. uniform_of a.ends.now labels a.at.now new c.requires.asked.labels (made.same.3 ∙ weighted) told.told yes;
      by_unit = λ yes. scaled_of a.ends.now labels a.at.now new c.requires.asked.labels (made.same.3 ∙ weighted) told.told yes;
      by_label = λ yes. expanding_of a.ends.now labels a.at.now a.change new c.first_label-self.result c.requires.asked.labels become (c.is_expanding-self.ensures.expands yes) c.first_label-self.ensures
          (made.same.3 ∙ weighted) (c.is_expanding-self.ensures.even yes) (c.is_expanding-self.ensures.light yes) (c.is_expanding-self.ensures.mirrored yes) (c.is_expanding-self.ensures.many yes);
    }

pub returns-clause-read : goal.returns-clause-read
returns-clause-read g c =
    let a = c.args in
    let labels = a.problem.now.data_cost.labels in
    let made = c.make_tables.ensures in
    let begun = c.in_ok-begin_pairs.ensures in
    let new = record c.make_tables.new.self { expanding = c.is_expanding-self.result; alpha = c.first_label-self.result } in
    let K : AskedCosts → Type 0 = λ s. AreAskedCosts g.F.Fn g.V.Fn a.problem.now s in
    let M : AskedCosts → Type 0 = λ s. AreMadeAsked a.change a.at.now s in
    let become = become_still labels a.change c.begin_pairs.new.self new made.same.0 made.same.1 begun.labels in
    let weighted = c.if-self.false in
    (λ m meant.
    read_of g.F.Fn g.V.Fn a.problem.now a.ends.now a.at.now a.change m new meant c.requires.asked (subst K (sym made.same.2) begun.known) become
    (λ never. subst M (sym made.same.2) (begun.made (sym c.are_numbered-self.ensures ∙ weighted)))
    (λ listed. absurd (let same = made.same.3 in cc (listed, same, weighted))))
