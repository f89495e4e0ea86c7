-- The text fills its part, and the tag is put behind it.
use Rattle.std.proofs.Common.{◌≡◌, ◌+◌, ◌++◌, length, take, sym, ap, ◌∙◌, arith}
use Rattle.line.proofs.Puts.{behind_laid, behind_later, laid_line}
use Rattle.line.specs.Forms.{text}
use Rattle.line.proofs.record.put_line.Goals as goal

pub returns-clause-front : goal.returns-clause-front
returns-clause-front g c =
    let form = g.F.Form.form in
    let m = g.F.Form.shown c.args.line.now in
    let n = c.tag_at.result in
    let long : length c.fill.new.out ≡ n = omega arith in
    laid_line (text form m) c.tag.result.now c.fill.new.out c.args.out.now c.put.new.out c.args.at n c.put.result
    c.fill.ensures long (omega arith) c.put.ensures.front
    ∙ ap (λ t. take c.args.at c.args.out.now ++ (text form m ++ t)) c.tag.ensures

pub returns-clause-behind : goal.returns-clause-behind
returns-clause-behind g c =
    let n = c.tag_at.result in
    let long : length c.fill.new.out ≡ n = omega arith in
    c.put.ensures.behind
    ∙ behind_later (c.args.at + n) c.put.result _ c.args.out.now
    (behind_laid (text g.F.Form.form (g.F.Form.shown c.args.line.now)) c.fill.new.out c.args.out.now c.args.at n c.fill.ensures (ap length (sym c.fill.ensures) ∙ long) (omega arith))
    (omega (arith, c.put.ensures.end))
