-- One entry at a time: it is the head of what is left.
use Rattle.std.proofs.Common.{arith, ◌∙◌}
use Rattle.std.proofs.lemmas.Bool.Decides.{nat_tests}
use Rattle.line.proofs.Voters.{voters_next}
use Rattle.line.proofs.cert.rises.Goals as goal

pub returns-then-voter-low : goal.returns-then-voter-low
returns-then-voter-low c =
    let step = voters_next c.in-Some.entry.now c.next.new.self.rest.now (c.in-Some.ensures.steps.1.1 ∙ c.loop-entry.invariant.0) in
    grind (arith, nat_tests, step)

pub loop-entry-preserved : goal.loop-entry-preserved
loop-entry-preserved c =
    let step = voters_next c.in-Some.entry.now c.next.new.self.rest.now (c.in-Some.ensures.steps.1.1 ∙ c.loop-entry.invariant.0) in
    grind (arith, nat_tests, step)
