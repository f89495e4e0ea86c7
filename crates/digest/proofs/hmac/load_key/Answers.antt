use Rattle.std.proofs.lemmas.Grind.{common_steps}
use Rattle.std.proofs.Common.{arith}
use Rattle.std.proofs.lemmas.List.{append-nil}
use Rattle.std.proofs.lemmas.Bool.{le-leb, lt-leb}
use Rattle.digest.specs.Hmac.{key_block}
use Rattle.digest.proofs.hmac.load_key.Goals as goal

pub returns-then-key-le-BLOCK_LEN : goal.returns-then-key-le-BLOCK_LEN
unfolding key_block
returns-then-key-le-BLOCK_LEN c = grind (arith, common_steps, le-leb)

pub returns-else-key-le-BLOCK_LEN : goal.returns-else-key-le-BLOCK_LEN
unfolding key_block
returns-else-key-le-BLOCK_LEN c = grind (arith, common_steps, append-nil, lt-leb)
