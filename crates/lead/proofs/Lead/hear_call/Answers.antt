-- A CALL that was heard is from a tablet, and its parts have their widths.
use Rattle.std.proofs.lemmas.Grind.{common_steps}
use Rattle.std.proofs.Common.{arith}
use Rattle.lead.proofs.Hearing.{hears_sound}
use Rattle.line.specs.CallLine.{shown}
use Rattle.lead.proofs.Lead.hear_call.Goals as goal

pub invariant_of-result : goal.invariant_of-result
invariant_of-result g c =
    let sound = hears_sound c.args.self.now.pit (g.S.Seal.meaning c.args.seal.now) c.args.line.now c.args.room (shown c.in-Call.call) (grind (arith, common_steps)) in
    record { client = sound.client; whole = sound.whole }
