use Rattle.std.proofs.Common.{◌≡◌}
use Rattle.digest.specs.Sha256.{padded, hashed}
use Rattle.digest.proofs.message.Message.digest.Given as goal

abbrev pub invariant-loop-i : goal.invariant-loop-i
invariant-loop-i l = l.hash ≡ hashed (padded l.self) l.i
