use Rattle.std.proofs.lemmas.Grind.{common_steps}
use Rattle.std.proofs.Common.{refl, arith}
use Rattle.digest.specs.Sha256.{message_schedule}
use Rattle.digest.proofs.Rounds.{first_words, later_words}
use Rattle.digest.proofs.hash.expand.Goals as goal

pub loop-t-init : goal.loop-t-init
unfolding message_schedule
loop-t-init c = refl

pub loop-t-preserved : goal.loop-t-preserved
loop-t-preserved c = grind (arith, common_steps, first_words)

pub loop-t-2-preserved : goal.loop-t-2-preserved
loop-t-2-preserved c = grind (arith, common_steps, later_words)
