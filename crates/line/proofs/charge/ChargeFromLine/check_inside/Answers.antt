-- The first ORDER has passed here, and the second is refused.
use Rattle.std.proofs.Common.{◌≡◌, ◌+◌, refl, ◌∙◌, Ok}
use Rattle.std.proofs.lemmas.Result.{err_from_is_err_and}
use Rattle.fault.specs.Checks.{◌>>◌}
use Rattle.line.specs.Layout.{part}
use Rattle.line.specs.OrderLine.{read_inside}
use Rattle.line.specs.lemmas.Checked.{then_goes, then_stops}
use Rattle.line.proofs.charge.ChargeFromLine.check_inside.Goals as goal

pub returns-in_err-read_inner-2 : goal.returns-in_err-read_inner-2
returns-in_err-read_inner-2 c =
    let exit = err_from_is_err_and c.from_residual-in_err-read_inner-2.result c.from_residual-in_err-read_inner-2.ensures.1 in
    let pit = c.args.line.now.pit in
    let at = c.args.line.now.at in
    let bs = c.args.line.now.bytes.now in
    let first = read_inside pit (at + 10) (part 10 140 bs) in
    let second = read_inside pit (at + 150) (part 150 140 bs) in
    let a = c.inner.result in
    let b = c.inner-2.result in
    let is_first : read_inside a.pit a.at a.bytes.now ≡ first = rw (c.inner.ensures.pit, c.inner.ensures.at, c.inner.ensures.bytes) (refl {a = first}) in
    let is_second : read_inside b.pit b.at b.bytes.now ≡ second = rw (c.inner-2.ensures.pit, c.inner-2.ensures.at, c.inner-2.ensures.bytes) (refl {a = second}) in
    rw (exit.1, exit.2)
    (then_stops second (Ok (tt {0})) _ (c.in_err-read_inner-2.ensures ∙ is_second)
    ∙ then_goes first (second >> Ok (tt {0})) _ (c.in_ok-read_inner.ensures ∙ is_first))
