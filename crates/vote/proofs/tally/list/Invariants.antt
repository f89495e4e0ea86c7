-- What is listed so far, and what the rest gives, are all voters.
use Rattle.std.proofs.Common.{◌≡◌, ◌≤◌, ◌++◌, length, take, drop}
use Rattle.vote.specs.Counting.{voters_from, voters_of}
use Rattle.vote.proofs.tally.list.Given as goal

abbrev pub invariant-loop-replica : goal.invariant-loop-replica
invariant-loop-replica g l =
    (take l.listed l.out ++ voters_from g.V.Vote.agree l.vote l.replica (drop l.replica l.rows)
    ≡ voters_of g.V.Vote.agree l.vote l.rows)
    × (l.listed ≤ length l.out)
