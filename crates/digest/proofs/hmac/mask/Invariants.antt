use Rattle.std.proofs.Common.{◌≡◌, ◌++◌, take, drop}
use Rattle.digest.specs.Hmac.{masked}
use Rattle.digest.proofs.hmac.mask.Given as goal

abbrev pub invariant-loop-x : goal.invariant-loop-x
invariant-loop-x l = l.block ≡ masked l.byte (take l.x-index l.initial.block) ++ drop l.x-index l.initial.block
