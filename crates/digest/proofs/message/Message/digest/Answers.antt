use Rattle.std.proofs.lemmas.Grind.{common_steps}
use Rattle.std.proofs.Common.{refl, arith}
use Rattle.std.proofs.lemmas.List.{length-append}
use Rattle.digest.specs.Sha256.{hashed, sha256_of}
use Rattle.digest.proofs.Blocks.{hashed_more, length_padded}
use Rattle.digest.proofs.message.Message.digest.Goals as goal

pub loop-i-init : goal.loop-i-init
unfolding hashed
loop-i-init c = refl

pub loop-i-preserved : goal.loop-i-preserved
loop-i-preserved c = grind (arith, common_steps, hashed_more)

pub returns : goal.returns
unfolding sha256_of
returns c = grind (arith, common_steps, length-append, length_padded)
