-- Constants and words are taken in step, and the rounds so far are done.
use Rattle.std.proofs.Common.{◌≡◌, ◌≤◌, length, drop}
use Rattle.digest.specs.Sha256.{K, rounds}
use Rattle.digest.proofs.hash.Words.rounds.Given as goal

abbrev pub invariant-loop-k : goal.invariant-loop-k
invariant-loop-k l = record {
  within : length l.yielded ≤ 64;
  constants : l.k-iterator.a.rest.now ≡ drop (length l.yielded) K;
  words : l.k-iterator.b.rest.now ≡ drop (length l.yielded) l.schedule;
  done : l.variables ≡ rounds l.schedule l.initial.variables (length l.yielded);
}
