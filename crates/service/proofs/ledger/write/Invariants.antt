-- The piles so far stand in front of what the buffer held.
use Rattle.std.proofs.Common.{◌≡◌, ◌*◌, ◌++◌, take, drop}
use Rattle.service.specs.Ledgers.{page_of}
use Rattle.service.proofs.ledger.write.Given as goal

abbrev pub invariant-loop-k : goal.invariant-loop-k
invariant-loop-k l = l.buffer ≡ page_of (take l.k l.piles) ++ drop (4 * l.k) l.initial.buffer
