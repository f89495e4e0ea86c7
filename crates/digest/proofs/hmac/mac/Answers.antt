use Rattle.digest.specs.Hmac.{key_block, hmac_sha256_of}
use Rattle.digest.proofs.Masks.{masked_again}
use Rattle.digest.proofs.hmac.mac.Goals as goal

pub returns : goal.returns
unfolding hmac_sha256_of
returns c = let both = masked_again 0x36 106 (key_block c.args.key.now) in cc
