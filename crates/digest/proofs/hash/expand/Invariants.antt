use Rattle.std.proofs.Common.{◌≡◌, take}
use Rattle.digest.specs.Sha256.{message_schedule}
use Rattle.digest.proofs.hash.expand.Given as goal

abbrev pub invariant-loop-t : goal.invariant-loop-t
invariant-loop-t l = take l.t l.schedule ≡ message_schedule l.block l.t

abbrev pub invariant-loop-t-2 : goal.invariant-loop-t-2
invariant-loop-t-2 l = take l.t l.schedule ≡ message_schedule l.block l.t
