-- What HMAC's steps make of a block.
use Rattle.std.proofs.Common.{◌≡◌, ℕ, List, [], ◌∷◌, refl}
use lib.Bits.{bit_xor, xor_assoc}
use Rattle.digest.specs.Hmac.{masked}

-- a mask laid over another is the mask of both together
pub masked_again : (a b : ℕ) (xs : List ℕ) → masked b (masked a xs) ≡ masked (bit_xor a b) xs
masked_again a b [] = refl
masked_again a b (x ∷ xs) = λ i. xor_assoc x a b i ∷ masked_again a b xs i
