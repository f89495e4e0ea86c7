-- The entries are a part of the bytes.
use Rattle.std.proofs.Common.{◌≡◌, ◌*◌, length, ap, ◌∙◌, arith}
use Rattle.line.specs.lemmas.Bytes.{part_long}
use Rattle.line.specs.CertLine.{Model}
use Rattle.line.specs.SetUp.{quorum_of}
use Rattle.line.proofs.cert.CertFromLine.check_itself.Goals as goal

pub is_in_range-requires : goal.is_in_range-requires
is_in_range-requires c =
    let q = quorum_of c.args.line.now.pit in
    let long : length c.of-cert.result.entries.now ≡ 34 * q =
    ap (λ (m : Model). length m.entries) c.of-cert.ensures ∙ part_long 62 (34 * q) c.args.line.now.bytes.now (omega (arith, c.in_ok-check_size.ensures.size)) in
    omega arith
