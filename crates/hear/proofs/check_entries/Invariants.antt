-- What is left of the entries decides.
use Rattle.std.proofs.Common.{◌≡◌, ◌-◌}
use Rattle.hear.specs.Vouchers.{admitted, entry_vouchers}
use Rattle.line.specs.CertLine.{shown}
use Rattle.hear.proofs.check_entries.Given as goal

abbrev pub invariant-loop-i : goal.invariant-loop-i
invariant-loop-i g l =
    admitted (g.S.Seal.meaning l.seal) (entry_vouchers (shown l.cert.line.now) 0 l.cert.line.now.count)
    ≡ admitted (g.S.Seal.meaning l.seal) (entry_vouchers (shown l.cert.line.now) l.i (l.cert.line.now.count - l.i))
