-- Two lists of bytes compared without leaving early: the differences of all bytes are gathered in one number.
use Rattle.std.proofs.lemmas.Grind.{common_steps}
use Rattle.std.proofs.Common.{◌≡◌, ℕ, ◌+◌, ◌<◌, eqb, List, length, get_or, take, sym, ap, ◌∙◌, arith}
use lib.Bits.{bit_or, bit_xor, or_add_and, xor_add_and, and_le_l, and_le_r, xor_self}
use Rattle.std.proofs.lemmas.Slice.Eq.{bytes_eq-Decides}
use Rattle.std.proofs.lemmas.List.{same_from_push, take_all, take_more, take_more_same}
use Rattle.std.proofs.lemmas.Bool.Decides.{Decides-eqb, Decides-like, same_from_decides}
use Rattle.std.specs.Str.{bytes_eq}

-- nothing gathered so far just when the first i bytes are the same
pub record Gathered (difference i : ℕ) (xs ys : List ℕ) : Type 0 where
  pub none : difference ≡ 0 → take i xs ≡ take i ys
  pub some : take i xs ≡ take i ys → difference ≡ 0

or_zero : (a b : ℕ) → bit_or a b ≡ 0 → (a ≡ 0) × (b ≡ 0)
or_zero a b e = (omega (arith, or_add_and a b, and_le_r a b), omega (arith, or_add_and a b, and_le_l a b))

xor_zero : (a b : ℕ) → bit_xor a b ≡ 0 → a ≡ b
xor_zero a b e = omega (arith, xor_add_and a b, and_le_l a b, and_le_r a b)

pub gathered_more :
    (difference i : ℕ) (xs ys : List ℕ)
    → i < length xs
    → i < length ys
    → Gathered difference i xs ys
    → Gathered (bit_or difference (bit_xor (get_or xs i 0) (get_or ys i 0))) (i + 1) xs ys
gathered_more difference i xs ys h k g =
    record {
      none = λ e.
          let parts = or_zero difference (bit_xor (get_or xs i 0) (get_or ys i 0)) e in
          take_more_same xs ys i 0 h k (g.none parts.0) (xor_zero (get_or xs i 0) (get_or ys i 0) parts.1);
      some = λ e.
          let parts = same_from_push (take i xs) (take i ys) (get_or xs i 0) (get_or ys i 0) (sym (take_more xs i 0 h) ∙ e ∙ take_more ys i 0 k) in
          (λ j. bit_or (g.some parts.0 j) (bit_xor (parts.1 j) (get_or ys i 0))) ∙ ap (bit_or 0) (xor_self (get_or ys i 0));
    }

pub gathered_all :
    (difference n : ℕ) (xs ys : List ℕ)
    → length xs ≡ n
    → length ys ≡ n
    → Gathered difference n xs ys
    → eqb difference 0 ≡ bytes_eq xs ys
gathered_all difference n xs ys h k g = grind (arith, common_steps, take_all, same_from_decides, Decides-like, Decides-eqb, bytes_eq-Decides)
