-- SHA-256 as FIPS 180-4 has it: sections 2.2.2 and 3.2 (words), 4.1.2 (functions), 4.2.2 (constants), 5.1.1 (padding), 5.2.1 (blocks), 5.3.3 (initial hash value), 6.2 (the hash).
-- A byte is a number below 2 ^ 8 and a word is one below 2 ^ 32.
use Rattle.std.specs.Prelude.{ℕ, zero, suc, ◌+◌, ◌-◌, ◌*◌, ◌/◌, ◌%◌, ◌^◌, cond, List, [], ◌∷◌, ◌++◌, length, take, drop, replicate, bit_and, bit_or, bit_xor, nat_lt, slice_index}
use Rattle.digest.specs.declared.hash.Words.{Words}

infixl 60 ◌⊞◌
infixl 60 ◌⊕◌
-- the sum of two words, modulo 2 ^ 32
abbrev pub ◌⊞◌ : ℕ → ℕ → ℕ
x ⊞ y = (x + y) % 2 ^ 32

-- bitwise exclusive or
abbrev pub ◌⊕◌ : ℕ → ℕ → ℕ
x ⊕ y = bit_xor x y

-- rotation of a word to the right, ROTR n x: (x >> n) or (x << 32 - n)
abbrev pub rotr : ℕ → ℕ → ℕ
rotr n x = bit_or (x / 2 ^ n) (x * 2 ^ (32 - n) % 2 ^ 32)

-- shift of a word to the right, SHR n x
abbrev pub shr : ℕ → ℕ → ℕ
shr n x = x / 2 ^ n

-- the word with each bit of x turned
abbrev pub complement : ℕ → ℕ
complement x = 2 ^ 32 - 1 - x

abbrev pub Ch : ℕ → ℕ → ℕ → ℕ
Ch x y z = bit_and x y ⊕ bit_and (complement x) z

abbrev pub Maj : ℕ → ℕ → ℕ → ℕ
Maj x y z = bit_and x y ⊕ bit_and x z ⊕ bit_and y z

abbrev pub Σ₀ : ℕ → ℕ
Σ₀ x = rotr 2 x ⊕ rotr 13 x ⊕ rotr 22 x

abbrev pub Σ₁ : ℕ → ℕ
Σ₁ x = rotr 6 x ⊕ rotr 11 x ⊕ rotr 25 x

abbrev pub σ₀ : ℕ → ℕ
σ₀ x = rotr 7 x ⊕ rotr 18 x ⊕ shr 3 x

abbrev pub σ₁ : ℕ → ℕ
σ₁ x = rotr 17 x ⊕ rotr 19 x ⊕ shr 10 x

-- K: the first 32 bits of the fractional parts of the cube roots of the first 64 primes
abbrev pub K : List ℕ
K =
    0x428a_2f98 ∷ 0x7137_4491 ∷ 0xb5c0_fbcf ∷ 0xe9b5_dba5 ∷ 0x3956_c25b ∷ 0x59f1_11f1 ∷ 0x923f_82a4 ∷ 0xab1c_5ed5 ∷
    0xd807_aa98 ∷ 0x1283_5b01 ∷ 0x2431_85be ∷ 0x550c_7dc3 ∷ 0x72be_5d74 ∷ 0x80de_b1fe ∷ 0x9bdc_06a7 ∷ 0xc19b_f174 ∷
    0xe49b_69c1 ∷ 0xefbe_4786 ∷ 0x0fc1_9dc6 ∷ 0x240c_a1cc ∷ 0x2de9_2c6f ∷ 0x4a74_84aa ∷ 0x5cb0_a9dc ∷ 0x76f9_88da ∷
    0x983e_5152 ∷ 0xa831_c66d ∷ 0xb003_27c8 ∷ 0xbf59_7fc7 ∷ 0xc6e0_0bf3 ∷ 0xd5a7_9147 ∷ 0x06ca_6351 ∷ 0x1429_2967 ∷
    0x27b7_0a85 ∷ 0x2e1b_2138 ∷ 0x4d2c_6dfc ∷ 0x5338_0d13 ∷ 0x650a_7354 ∷ 0x766a_0abb ∷ 0x81c2_c92e ∷ 0x9272_2c85 ∷
    0xa2bf_e8a1 ∷ 0xa81a_664b ∷ 0xc24b_8b70 ∷ 0xc76c_51a3 ∷ 0xd192_e819 ∷ 0xd699_0624 ∷ 0xf40e_3585 ∷ 0x106a_a070 ∷
    0x19a4_c116 ∷ 0x1e37_6c08 ∷ 0x2748_774c ∷ 0x34b0_bcb5 ∷ 0x391c_0cb3 ∷ 0x4ed8_aa4a ∷ 0x5b9c_ca4f ∷ 0x682e_6ff3 ∷
    0x748f_82ee ∷ 0x78a5_636f ∷ 0x84c8_7814 ∷ 0x8cc7_0208 ∷ 0x90be_fffa ∷ 0xa450_6ceb ∷ 0xbef9_a3f7 ∷ 0xc671_78f2 ∷ []

-- H(0): the first 32 bits of the fractional parts of the square roots of the first 8 primes
abbrev pub H⁰ : Words
H⁰ = record { a = 0x6a09e667; b = 0xbb67ae85; c = 0x3c6ef372; d = 0xa54ff53a; e = 0x510e527f; f = 0x9b05688c; g = 0x1f83d9ab; h = 0x5be0cd19 }

-- word t of a block, its first byte the highest
abbrev pub word : List ℕ → ℕ → ℕ
word block t = slice_index block (4 * t) * 2 ^ 24 + slice_index block (4 * t + 1) * 2 ^ 16 + slice_index block (4 * t + 2) * 2 ^ 8 + slice_index block (4 * t + 3)

-- W t, by the words W 0 to W (t - 1) before it
abbrev pub next_W : List ℕ → List ℕ → ℕ → ℕ
next_W block W t = cond (nat_lt t 16) (word block t) (σ₁ (slice_index W (t - 2)) ⊞ slice_index W (t - 7) ⊞ σ₀ (slice_index W (t - 15)) ⊞ slice_index W (t - 16))

-- the first t words of the message schedule
unfoldable pub message_schedule : List ℕ → ℕ → List ℕ
message_schedule block zero = []
message_schedule block (suc t) = message_schedule block t ++ next_W block (message_schedule block t) t ∷ []

-- one round, with K t and W t
abbrev pub round : ℕ → ℕ → Words → Words
round k w v =
    let T₁ : ℕ = v.h ⊞ Σ₁ v.e ⊞ Ch v.e v.f v.g ⊞ k ⊞ w in
    let T₂ : ℕ = Σ₀ v.a ⊞ Maj v.a v.b v.c in
    record { a = T₁ ⊞ T₂; b = v.a; c = v.b; d = v.c; e = v.d ⊞ T₁; f = v.e; g = v.f; h = v.g }

-- the working variables after t rounds
unfoldable pub rounds : List ℕ → Words → ℕ → Words
rounds W v zero = v
rounds W v (suc t) = round (slice_index K t) (slice_index W t) (rounds W v t)

-- word by word
abbrev pub plus : Words → Words → Words
plus v u = record { a = v.a ⊞ u.a; b = v.b ⊞ u.b; c = v.c ⊞ u.c; d = v.d ⊞ u.d; e = v.e ⊞ u.e; f = v.f ⊞ u.f; g = v.g ⊞ u.g; h = v.h ⊞ u.h }

-- the hash value after one more block
unfoldable pub compress : Words → List ℕ → Words
compress H block = plus (rounds (message_schedule block 64) H 64) H

-- a word's four bytes, the highest first
abbrev pub word_bytes : ℕ → List ℕ
word_bytes x = (x / 2 ^ 24 % 256) ∷ (x / 2 ^ 16 % 256) ∷ (x / 2 ^ 8 % 256) ∷ (x % 256) ∷ []

-- a number below 2 ^ 64 as eight bytes, the highest first
abbrev pub long_bytes : ℕ → List ℕ
long_bytes x = (x / 2 ^ 56 % 256) ∷ (x / 2 ^ 48 % 256) ∷ (x / 2 ^ 40 % 256) ∷ (x / 2 ^ 32 % 256) ∷ (x / 2 ^ 24 % 256) ∷ (x / 2 ^ 16 % 256) ∷ (x / 2 ^ 8 % 256) ∷ (x % 256) ∷ []

-- how many zero bytes bring the message, the byte 0x80 and these to 56 bytes past a whole number of blocks
abbrev pub zeros_after : ℕ → ℕ
zeros_after n = (119 - n % 64) % 64

-- the padded message: a 1 bit, the fewest zero bits that do, and the message's length in bits
unfoldable pub padded : List ℕ → List ℕ
padded message = message ++ (0x80 ∷ (replicate (zeros_after (length message)) 0 ++ long_bytes (8 * length message)))

-- block i of a padded message
abbrev pub nth_block : List ℕ → ℕ → List ℕ
nth_block message i = take 64 (drop (64 * i) message)

-- H(i), the hash value after the first i blocks
unfoldable pub hashed : List ℕ → ℕ → Words
hashed message zero = H⁰
hashed message (suc i) = compress (hashed message i) (nth_block message i)

-- the eight words of a hash value as 32 bytes
unfoldable pub digest_bytes : Words → List ℕ
digest_bytes v = word_bytes v.a ++ (word_bytes v.b ++ (word_bytes v.c ++ (word_bytes v.d ++ (word_bytes v.e ++ (word_bytes v.f ++ (word_bytes v.g ++ word_bytes v.h))))))

-- SHA-256 of a message
unfoldable pub sha256_of : List ℕ → List ℕ
sha256_of message = digest_bytes (hashed (padded message) (length (padded message) / 64))
