use lib.Bits.{bit_xor}
use Rattle.std.proofs.Common.{ℕ, get_or, arith}
use Rattle.std.proofs.lemmas.List.Edits.{map_over_more}
use Rattle.std.proofs.lemmas.List.{get_or_default}
use Rattle.digest.proofs.hmac.mask.Goals as goal

pub loop-x-preserved : goal.loop-x-preserved
loop-x-preserved c =
    map_over_more (λ (x : ℕ). bit_xor x c.args.byte) c.args.block.now c.loop-x.block c.loop-x.x-index (get_or c.loop-x.block c.loop-x.x-index 0) (omega arith) c.loop-x.invariant
    (get_or_default c.loop-x.block c.loop-x.x-index 0 _ (omega arith))
