-- A number's bytes, and a line put behind what is written.
use Rattle.std.proofs.Common.{◌≡◌, ℕ, ◌+◌, ◌-◌, ◌/◌, ◌%◌, ◌≤◌, List, [], ◌∷◌, ◌++◌, length, take, drop, sym, refl, ap, ◌∙◌, arith, length-append}
use borrow.Rule.Slice.PartMut.{put_mid}
use Rattle.std.proofs.lemmas.List.{append_assoc, take_at, drop_at, drop-drop, length-take-le}
use Rattle.line.specs.Layout.{bytes_of}

pub bytes_of_2 : (n : ℕ) → (n % 256) ∷ (n / 256 % 256) ∷ [] ≡ bytes_of 2 n
unfolding bytes_of
bytes_of_2 n = refl

pub bytes_of_4 : (n : ℕ) → (n % 256) ∷ (n / 256 % 256) ∷ (n / 65536 % 256) ∷ (n / 16777216 % 256) ∷ [] ≡ bytes_of 4 n
unfolding bytes_of
bytes_of_4 n =
    let two : n / 65536 ≡ n / 256 / 256 = omega arith in
    let three : n / 16777216 ≡ n / 256 / 256 / 256 = omega arith in
    rw (two, three)

-- bytes in a part of the memory: what stands in front, they, and what lies behind
laid : (bytes sub before : List ℕ) (at n : ℕ) → sub ≡ bytes → length bytes ≡ n
    → put_mid at (at + n - at) before sub ≡ (take at before ++ bytes) ++ drop (at + n) before
laid bytes sub before at n e long =
    let gap : at + n - at ≡ n = omega arith in
    rw (gap, e, drop-drop n at before) (sym (append_assoc (take at before) bytes (drop (at + n) before)))

fronted : (bytes before : List ℕ) (at n : ℕ) → length bytes ≡ n → at + n ≤ length before → length (take at before ++ bytes) ≡ at + n
fronted bytes before at n long room =
    length-append (take at before) bytes ∙ rw (length-take-le at before (omega arith), long) refl

-- what lies behind a part that is written is as it was
pub behind_laid : (bytes sub before : List ℕ) (at n : ℕ) → sub ≡ bytes → length bytes ≡ n → at + n ≤ length before
    → drop (at + n) (put_mid at (at + n - at) before sub) ≡ drop (at + n) before
behind_laid bytes sub before at n e long room =
    ap (λ x. drop (at + n) x) (laid bytes sub before at n e long)
    ∙ drop_at (take at before ++ bytes) (drop (at + n) before) (at + n) (fronted bytes before at n long room)

-- what is the same from a place on is the same from a later one on
pub behind_later : (m n : ℕ) (x y : List ℕ) → drop m x ≡ drop m y → m ≤ n → drop n x ≡ drop n y
behind_later m n x y e h =
    let gap : m + (n - m) ≡ n = omega arith in
    rw (← gap, ← (drop-drop (n - m) m x), ← (drop-drop (n - m) m y), e) refl

-- a text in a part of the memory, and then its tag
pub laid_line : (text tag sub before after : List ℕ) (at n end : ℕ)
    → sub ≡ text → length sub ≡ n → at + n ≤ length before
    → take end after ≡ take (at + n) (put_mid at (at + n - at) before sub) ++ tag
    → take end after ≡ take at before ++ (text ++ tag)
laid_line text tag sub before after at n end e long room p =
    let front = take at before in
    let long' : length text ≡ n = rw (← e) long in
    p
    ∙ ap (λ x. take (at + n) x ++ tag) (laid text sub before at n e long')
    ∙ ap (λ x. x ++ tag) (take_at (front ++ text) (drop (at + n) before) (at + n) (fronted text before at n long' room))
    ∙ append_assoc front text tag
