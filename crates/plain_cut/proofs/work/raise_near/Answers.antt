use Rattle.std.proofs.Common.{arith, refl, length, ◌≡◌}
use Rattle.std.proofs.lemmas.List.{with_items_is}
use Rattle.plain_cut.proofs.Raising.{raise_fit}
use Rattle.plain_cut.proofs.work.raise_near.Goals as goal

pub returns-clause-raised : goal.returns-clause-raised
returns-clause-raised c =
    let old = c.args.work.now in
    let made = c.raise_labels.ensures in
    let long : length c.raise_labels.new.labels ≡ old.labels.len = omega (arith, c.raise_labels.auto.labels, c.as_mut_slice.ensures.len) in
    let labels = with_items_is old.labels c.raise_labels.new.labels long in
    raise_fit c.args.net.now old _ c.requires.limits c.requires.work refl refl refl refl
    (rw labels (rw c.as_slice-2.ensures.value at made.labelling))
    (rw labels (rw c.as_mut_slice.ensures.value at made.rises))
    (rw labels made.low)
    (rw labels (rw c.as_mut_slice.ensures.value at made.zeros))

pub raise_labels-requires-clause-unreached : goal.raise_labels-requires-clause-unreached
raise_labels-requires-clause-unreached c = rw c.as_mut_slice.ensures.value c.requires.work.zeros.unreached
