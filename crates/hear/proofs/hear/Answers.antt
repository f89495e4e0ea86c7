-- A line that reads has parts of their widths.
use Rattle.std.proofs.Common.{sym, arith}
use Rattle.line.proofs.Outer.{line_text_shaped}
use Rattle.hear.proofs.hear.Goals as goal

pub check_line-requires : goal.check_line-requires
check_line-requires g c =
    line_text_shaped c.args.pit.now c.args.taken.now c.args.bytes.now _ (λ i. omega (arith, c.type_inv.bytes i)) (sym c.in_ok-line.ensures)
