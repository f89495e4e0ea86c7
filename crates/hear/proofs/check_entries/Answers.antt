-- One entry at a time: its voucher is the head of what is left.
use Rattle.std.proofs.Common.{sym, ◌∙◌}
use Rattle.std.proofs.lemmas.Result.{err_from_is_err_and}
use Rattle.hear.proofs.Admits.{entries_more}
use Rattle.line.specs.lemmas.Checked.{then_goes, then_stops}
use Rattle.line.specs.CertLine.{shown}
use Rattle.hear.proofs.check_entries.Goals as goal

pub loop-i-preserved : goal.loop-i-preserved
loop-i-preserved g c =
    c.loop-i.invariant
    ∙ entries_more (g.S.Seal.meaning c.args.seal.now) (shown c.args.cert.now.line.now) c.args.cert.now.line.now.count c.loop-i.i c.loop-i-test.true
    ∙ sym (then_goes _ _ _ c.in_ok-check_entry.ensures)

pub returns-in_err-check_entry : goal.returns-in_err-check_entry
returns-in_err-check_entry g c =
    let exit = err_from_is_err_and c.from_residual.result c.from_residual.ensures.1 in
    rw (exit.1, exit.2)
    (then_stops _ _ _ c.in_err-check_entry.ensures
    ∙ sym (entries_more (g.S.Seal.meaning c.args.seal.now) (shown c.args.cert.now.line.now) c.args.cert.now.line.now.count c.loop-i.i c.loop-i-test.true)
    ∙ sym c.loop-i.invariant)
