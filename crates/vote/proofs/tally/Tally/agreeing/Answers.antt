-- The count is the definition's, and by it no box counts twice.
use Rattle.std.proofs.Common.{rules}
use Rattle.vote.proofs.Voters.{counted_once}
use Rattle.vote.proofs.tally.Tally.agreeing.Goals as goal

pub returns : goal.returns
returns g c = record { count = search rules; once = counted_once _ _ _ }
