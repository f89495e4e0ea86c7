-- Numbers in bytes, the lowest byte first.
use Rattle.std.specs.Prelude.{ℕ, ◌+◌, ◌*◌, ◌/◌, ◌%◌, List, [], ◌∷◌, slice_index}

-- the two bytes of a number
abbrev pub two_bytes : ℕ → List ℕ
two_bytes n = (n % 256) ∷ (n / 256 % 256) ∷ []

-- the four bytes of a number
abbrev pub four_bytes : ℕ → List ℕ
four_bytes n = (n % 256) ∷ (n / 256 % 256) ∷ (n / 65536 % 256) ∷ (n / 16777216 % 256) ∷ []

-- the number in two bytes
abbrev pub two : ℕ → ℕ → ℕ
two b0 b1 = b0 + b1 * 256

-- the number in four bytes
abbrev pub four : ℕ → ℕ → ℕ → ℕ → ℕ
four b0 b1 b2 b3 = b0 + b1 * 256 + b2 * 65536 + b3 * 16777216

-- the number in the two bytes from a place on
abbrev pub two_at : ℕ → List ℕ → ℕ
two_at at bytes = two (slice_index bytes at) (slice_index bytes (at + 1))

-- the number in the four bytes from a place on
abbrev pub four_at : ℕ → List ℕ → ℕ
four_at at bytes = four (slice_index bytes at) (slice_index bytes (at + 1)) (slice_index bytes (at + 2)) (slice_index bytes (at + 3))
