use Rattle.std.proofs.Common.{rules}
use Rattle.pseudo_bool.proofs.energy.Energy.add_constant.Goals as goal

pub returns-then-not-is_within-clause-accepted : goal.returns-then-not-is_within-clause-accepted
returns-then-not-is_within-clause-accepted c = search rules

pub returns-then-not-is_within-clause-added : goal.returns-then-not-is_within-clause-added
returns-then-not-is_within-clause-added c = search rules

pub returns-then-not-is_within-2-clause-accepted : goal.returns-then-not-is_within-2-clause-accepted
returns-then-not-is_within-2-clause-accepted c = search rules

pub returns-then-not-is_within-2-clause-added : goal.returns-then-not-is_within-2-clause-added
returns-then-not-is_within-2-clause-added c = search rules

pub returns-clause-accepted : goal.returns-clause-accepted
returns-clause-accepted c = search rules

pub returns-clause-added : goal.returns-clause-added
returns-clause-added c = search rules
