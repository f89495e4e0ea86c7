-- What is left of the entries decides.
use Rattle.std.proofs.Common.{◌≡◌, ◌/◌, length}
use Rattle.std.specs.Slice.Iter.{chunks_exact_rest, chunks_exact_size}
use Rattle.line.specs.CertLine.{rising, voters}
use Rattle.line.proofs.cert.rises.Given as goal

abbrev pub invariant-loop-entry : goal.invariant-loop-entry
invariant-loop-entry l =
    let rest = chunks_exact_rest l.entry-iterator in
    (chunks_exact_size l.entry-iterator ≡ 34)
    × (rising 0 l.replicas (voters (length l.entries / 34) l.entries) ≡ rising l.low l.replicas (voters (length rest / 34) rest))
