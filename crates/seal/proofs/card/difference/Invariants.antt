-- The bytes of both are taken in step, and the differences so far are gathered.
use Rattle.std.proofs.Common.{◌≡◌, ◌≤◌, length, drop}
use Rattle.seal.proofs.Bytewise.{Gathered}
use Rattle.seal.proofs.card.difference.Given as goal

abbrev pub invariant-loop-x : goal.invariant-loop-x
invariant-loop-x l = record {
  within : length l.yielded ≤ 32;
  first : l.x-iterator.a.rest.now ≡ drop (length l.yielded) l.a;
  second : l.x-iterator.b.rest.now ≡ drop (length l.yielded) l.b;
  gathered : Gathered l.difference (length l.yielded) l.a l.b;
}
