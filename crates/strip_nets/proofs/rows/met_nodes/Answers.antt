use Rattle.std.proofs.Common.{◌≡◌, ◌<◌, ◌∙◌, true, length, get_or, ap, sym, arith}
use Rattle.label_field.specs.PairLists.{IsPair}
use Rattle.move_energy.specs.Choices.{choice_at, open_at, open_rank}
use Rattle.move_energy.proofs.Numbers.{rank_below}
use Rattle.move_energy.proofs.Opened.{opened_count, opened_place, true_open}
use Rattle.move_energy.proofs.Parts.{beside_has}
use Rattle.strip_nets.specs.Views.{strip_view}
use Rattle.strip_nets.proofs.Bounding.{inside_length}
use Rattle.strip_nets.proofs.Inside.{met_ends}
use Rattle.strip_nets.proofs.rows.met_nodes.Goals as goal

pub node_of-requires-clause-open : goal.node_of-requires-clause-open
node_of-requires-clause-open c =
    let a = c.args in
    let v = strip_view a.material.now.known.now a.sites.now.from a.sites.now.to in
    let pairs = a.material.now.form.pairs.now in
    let ends = a.material.now.form.ends.now in
    let apart = (beside_has (IsPair pairs.sites) pairs ends a.site a.place c.requires.can.over.list.each c.requires.can.over.by_site c.requires.site.0 c.requires.place.0 c.requires.place.1).unequal in
    true_open (choice_at v a.head) (ap (open_at v) c.requires.head ∙ (met_ends (choice_at v) ends a.site a.place c.requires.site.1 apart c.requires.met).2)

pub returns : goal.returns
returns c =
    let a = c.args in
    let v = strip_view a.material.now.known.now a.sites.now.from a.sites.now.to in
    let pairs = a.material.now.form.pairs.now in
    let ends = a.material.now.form.ends.now in
    let opened = a.sites.now.opened.now in
    let apart = (beside_has (IsPair pairs.sites) pairs ends a.site a.place c.requires.can.over.list.each c.requires.can.over.by_site c.requires.site.0 c.requires.place.0 c.requires.place.1).unequal in
    let of = met_ends (choice_at v) ends a.site a.place c.requires.site.1 apart c.requires.met in
    let open_head : open_at v a.head ≡ true = ap (open_at v) c.requires.head ∙ of.2 in
    let one = c.requires.node in
    let two = c.node_of.ensures in
    let low_one : a.site < length v = inside_length v a.site c.requires.site.1 in
    let low_two : a.head < length v = inside_length v a.head open_head in
    let open_one = true_open (choice_at v a.site) c.requires.site.1 in
    let open_two = true_open (choice_at v a.head) open_head in
    let count = opened_count v opened c.requires.opened in
    let here = opened_place v opened a.site c.requires.opened low_one open_one in
    let there = opened_place v opened a.head c.requires.opened low_two open_two in
    record {
      is_so = c.requires.met;
      first = one ∙ ap (open_rank v) (sym of.0);
      second = two ∙ ap (open_rank v) (c.requires.head ∙ sym of.1);
      first_node = omega (arith, one, rank_below v a.site (length v) low_one open_one, count);
      second_node = omega (arith, two, rank_below v a.head (length v) low_two open_two, count);
      apart = λ e. apart (of.0 ∙ sym here ∙ ap (λ j. get_or opened j 0) (sym one ∙ e ∙ two) ∙ there ∙ c.requires.head ∙ sym of.1);
    }
