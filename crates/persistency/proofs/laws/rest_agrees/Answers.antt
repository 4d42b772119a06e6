use Rattle.persistency.proofs.Agreeing.{rest_agrees, agree_by_rest}
use Rattle.persistency.proofs.laws.rest_agrees.Goals as goal

pub returns : goal.returns
returns c = record { least = rest_agrees; agree = agree_by_rest }
