use Rattle.std.proofs.Common.{◌≡◌, None, false, true, sym, ◌∙◌, ap, arith}
use Rattle.std.specs.Option.{is_some}
use Rattle.std.proofs.lemmas.Grind.{common_steps}
use Rattle.block_workers.specs.declared.port.Port.{Port}
use Rattle.block_workers.specs.Ports.{first}
use Rattle.block_workers.proofs.Reading.{read_none}
use Rattle.block_workers.proofs.Looking.{no_truth, same_ports, kept, found_kept, front_there, take_there}
use Rattle.block_workers.proofs.ends.Ends.take.Goals as goal

pub take-requires : goal.take-requires
take-requires c =
    let there = front_there c.args.self.now.ports.items c.args.from c.in-Some.k c.index_mut.result.now c.in-Some.ensures c.index_mut.ensures.value in
    let some : is_some (first c.index_mut.result.now) ≡ true = ap is_some (sym there) ∙ c.requires in
    grind (arith, common_steps)

pub invariant_of-self : goal.invariant_of-self
invariant_of-self c =
    let at = c.in-Some.ensures in
    record { found = found_kept c.args.self.now.ports.items c.args.self.now.places.items c.in-Some.k c.index_mut.result.now c.take.new.self c.args.self.now.found at.place c.index_mut.ensures.value c.take.ensures.taken.same }

pub returns-in-Some-clause-take : goal.returns-in-Some-clause-take
returns-in-Some-clause-take c = take_there c.args.self.now.ports.items c.args.from c.in-Some.k c.index_mut.result.now c.take.new.self c.take.result c.in-Some.ensures c.index_mut.ensures.value c.take.ensures.taken

pub returns-in-Some-clause-same : goal.returns-in-Some-clause-same
returns-in-Some-clause-same c = kept c.args.self.now.ports.items c.in-Some.k c.index_mut.result.now c.take.new.self c.in-Some.ensures.place c.index_mut.ensures.value c.take.ensures.taken.same

pub returns-in_default-clause-take : goal.returns-in_default-clause-take
returns-in_default-clause-take c =
    let none = read_none None (λ (p : Port). first p) c.args.self.now.ports.items c.args.from c.in_default.ensures in
    let no : false ≡ true = sym (ap is_some none) ∙ c.requires in absurd (no_truth no)

pub returns-in_default-clause-same : goal.returns-in_default-clause-same
returns-in_default-clause-same c = same_ports c.args.self.now.ports.items
