-- Bytes written one after the other into a block of zeros.
use Rattle.std.proofs.Common.{◌≡◌, ℕ, ◌+◌, ◌-◌, List, [], ◌∷◌, ◌++◌, length, take, drop, replicate, sym, refl, ap, ◌∙◌}
use Rattle.std.proofs.lemmas.List.{append_assoc, drop_at, drop-drop, drop-replicate, take_at}

-- what a write puts in place of as many bytes
abbrev pub written : List ℕ → ℕ → List ℕ → List ℕ
written out at bytes = take at out ++ (bytes ++ drop (at + length bytes) out)

-- a write at the end of what is written so far
pub write_next :
    (front bytes : List ℕ) (at n : ℕ)
    → length front ≡ at
    → written (front ++ replicate n 0) at bytes ≡ (front ++ bytes) ++ replicate (n - length bytes) 0
write_next front bytes at n e =
    ap (λ xs. xs ++ (bytes ++ drop (at + length bytes) (front ++ replicate n 0))) (take_at front (replicate n 0) at e)
    ∙ ap (λ ys. front ++ (bytes ++ ys))
    (sym (drop-drop (length bytes) at (front ++ replicate n 0))
    ∙ ap (drop (length bytes)) (drop_at front (replicate n 0) at e)
    ∙ drop-replicate (length bytes) n 0)
    ∙ sym (append_assoc front bytes (replicate (n - length bytes) 0))

-- two heads of two bytes, then a text, written into 304 zeros
pub three_writes :
    (a b c d : ℕ) (text one two three : List ℕ)
    → one ≡ written (replicate 304 0) 0 (a ∷ b ∷ [])
    → two ≡ written one 2 (c ∷ d ∷ [])
    → three ≡ written two 4 text
    → three ≡ a ∷ b ∷ c ∷ d ∷ (text ++ replicate (300 - length text) 0)
three_writes a b c d text one two three e₁ e₂ e₃ =
    let first = e₁ ∙ write_next [] (a ∷ b ∷ []) 0 304 refl in
    let second = e₂ ∙ ap (λ out. written out 2 (c ∷ d ∷ [])) first ∙ write_next (a ∷ b ∷ []) (c ∷ d ∷ []) 2 302 refl in
    e₃ ∙ ap (λ out. written out 4 text) second ∙ write_next (a ∷ b ∷ c ∷ d ∷ []) text 4 300 refl
