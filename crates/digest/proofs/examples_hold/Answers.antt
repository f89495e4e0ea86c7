-- By computing.
use Rattle.std.proofs.Common.{refl}
use Rattle.digest.specs.Hmac.{key_block, hmac_sha256_of}
use Rattle.digest.specs.Sha256.{message_schedule, rounds, compress, padded, hashed, digest_bytes, sha256_of}
use Rattle.digest.proofs.examples_hold.Goals as goal

pub returns : goal.returns
unfolding message_schedule rounds compress padded hashed digest_bytes sha256_of key_block hmac_sha256_of
returns c = record { sha256 = (refl, refl, refl); hmac = (refl, refl, refl) }
