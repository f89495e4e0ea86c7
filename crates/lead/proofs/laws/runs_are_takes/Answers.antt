use Rattle.lead.proofs.Takes.{stepped}
use Rattle.lead.proofs.laws.runs_are_takes.Goals as goal

pub returns : goal.returns
returns c = stepped
