-- Each number leaves what lies behind it.
use Rattle.std.proofs.Common.{◌∙◌, arith}
use Rattle.line.proofs.Puts.{behind_later}
use Rattle.line.proofs.layout.put_header.Goals as goal

pub returns-clause-behind : goal.returns-clause-behind
returns-clause-behind c =
    c.put32.ensures.behind
    ∙ behind_later c.put16-at-3.result c.put32.result _ _ c.put16-at-3.ensures.behind (omega (arith, c.put32.ensures.end))
    ∙ behind_later c.put16-at-2.result c.put32.result _ _ c.put16-at-2.ensures.behind (omega (arith, c.put32.ensures.end, c.put16-at-3.ensures.end))
    ∙ behind_later c.put16-at.result c.put32.result _ _ c.put16-at.ensures.behind (omega (arith, c.put32.ensures.end, c.put16-at-3.ensures.end, c.put16-at-2.ensures.end))
