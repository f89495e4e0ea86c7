-- How a padded message is put together block by block. Only the contracts of private functions speak of this.
use Rattle.std.specs.Prelude.{◌≡◌, ℕ, ◌+◌, ◌-◌, ◌<◌, cond, List, length, nat_lt, slice_index}
use Rattle.digest.specs.Sha256.{zeros_after}

-- the length of a message of n bytes with its padding
abbrev pub padded_length : ℕ → ℕ
padded_length n = n + 1 + zeros_after n + 8

-- byte j of a message that holds `part` from byte `at` on, and elsewhere `other`
abbrev pub byte_of : List ℕ → ℕ → ℕ → ℕ → ℕ
byte_of part at j other = cond (nat_lt j at) other (cond (nat_lt j (at + length part)) (slice_index part (j - at)) other)

-- `after` is `before`, the 64 bytes from `start` on, with what falls into them of a part that begins at `at`
pub record Overlaid (start : ℕ) (part : List ℕ) (at : ℕ) (before after : List ℕ) : Type 0 where
  pub same_length : length after ≡ 64
  pub bytes : (k : ℕ) → k < 64 → slice_index after k ≡ byte_of part at (start + k) (slice_index before k)
