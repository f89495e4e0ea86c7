-- Numbers and their bytes.
use Rattle.std.proofs.Common.{◌≡◌, ℕ, List, [], ◌∷◌, length, arith}
use Rattle.std.specs.Int.{w16, w32, from_le_bytes}
use Rattle.line.specs.Layout.{number}

pub number_2 : (xs : List ℕ) → length xs ≡ 2 → from_le_bytes w16 xs ≡ number xs
number_2 (a ∷ b ∷ []) h = omega arith
number_2 [] h = omega arith
number_2 (a ∷ []) h = omega arith
number_2 (a ∷ b ∷ c ∷ xs) h = omega arith

pub number_4 : (xs : List ℕ) → length xs ≡ 4 → from_le_bytes w32 xs ≡ number xs
number_4 (a ∷ b ∷ c ∷ d ∷ []) h = omega arith
number_4 [] h = omega arith
number_4 (a ∷ []) h = omega arith
number_4 (a ∷ b ∷ []) h = omega arith
number_4 (a ∷ b ∷ c ∷ []) h = omega arith
number_4 (a ∷ b ∷ c ∷ d ∷ e ∷ xs) h = omega arith
