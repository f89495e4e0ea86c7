-- HMAC-SHA-256 as RFC 2104 has it, with SHA-256's blocks of 64 bytes.
use Rattle.std.specs.Prelude.{ℕ, ◌-◌, cond, List, ◌++◌, map, length, replicate, bit_xor, nat_le}
use Rattle.digest.specs.Sha256.{sha256_of}

-- bytes followed by zeros up to 64 bytes
abbrev pub zero_filled : List ℕ → List ℕ
zero_filled bytes = bytes ++ replicate (64 - length bytes) 0

-- the key as one block: a key longer than a block is hashed first
unfoldable pub key_block : List ℕ → List ℕ
key_block key = cond (nat_le (length key) 64) (zero_filled key) (zero_filled (sha256_of key))

-- each byte exclusive-or the given one
abbrev pub masked : ℕ → List ℕ → List ℕ
masked byte bytes = map (λ x. bit_xor x byte) bytes

-- H(K xor opad, H(K xor ipad, text))
unfoldable pub hmac_sha256_of : List ℕ → List ℕ → List ℕ
hmac_sha256_of key text = sha256_of (masked 0x5c (key_block key) ++ sha256_of (masked 0x36 (key_block key) ++ text))
