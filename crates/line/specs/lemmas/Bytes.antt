-- Lemmas, for the checker alone: numbers and their bytes.
use Rattle.std.proofs.Common.{◌≡◌, ℕ, zero, suc, ◌+◌, ◌*◌, ◌/◌, ◌%◌, ◌^◌, ◌<◌, ◌≤◌, List, [], ◌∷◌, length, drop, sym, refl, ap, ◌∙◌, subst, ⊎_elim, pow-suc, arith, length-drop, length-take}
use Rattle.std.proofs.lemmas.Bool.{cases_lt}
use Rattle.std.specs.List.{AllByRecursion}
use Rattle.std.proofs.ByRecursion.{All-from_get_or, All-take, All-drop}
use Rattle.std.proofs.lemmas.List.{get_or-take, get_or-drop, get_or_past, length-take-le}
use Rattle.line.specs.Laws.{Bytes}
use Rattle.line.specs.Layout.{part, number, number_at, bytes_of}

pub length_bytes_of : (w n : ℕ) → length (bytes_of w n) ≡ w
unfolding bytes_of
length_bytes_of zero n = refl
length_bytes_of (suc w) n = ap suc (length_bytes_of w (n / 256))

low_byte : (b n : ℕ) → b < 256 → (b + 256 * n) % 256 ≡ b
low_byte b n h = omega arith

high_part : (b n : ℕ) → b < 256 → (b + 256 * n) / 256 ≡ n
high_part b n h = omega arith

-- the bytes of the number that bytes write are those bytes
pub bytes_number : (bs : List ℕ) → AllByRecursion (λ b. b < 256) bs → bytes_of (length bs) (number bs) ≡ bs
unfolding bytes_of
bytes_number [] h = refl
bytes_number (b ∷ bs) (h, hs) = rw (low_byte b (number bs) h, high_part b (number bs) h, bytes_number bs hs)

-- the number that a number's bytes write is that number
pub number_bytes : (w n : ℕ) → n < 256 ^ w → number (bytes_of w n) ≡ n
unfolding bytes_of
number_bytes zero n h = omega arith
number_bytes (suc w) n h =
    let small : n / 256 < 256 ^ w = omega (arith, rw pow-suc at h) in rw (number_bytes w (n / 256) small) (omega arith)

all_bytes : (bs : List ℕ) → Bytes bs → AllByRecursion (λ b. b < 256) bs
all_bytes bs h = All-from_get_or (λ b. b < 256) bs 0 (λ i _. h i)

-- a part inside the bytes has its width
pub part_long : (at w : ℕ) (bs : List ℕ) → at + w ≤ length bs → length (part at w bs) ≡ w
part_long at w bs h = length-take-le w (drop at bs) (simp length-drop (omega arith))

-- the bytes of the number at a part are the part
pub bytes_part : (at w : ℕ) (bs : List ℕ) → Bytes bs → at + w ≤ length bs → bytes_of w (number_at w at bs) ≡ part at w bs
bytes_part at w bs h room =
    ap (λ k. bytes_of k (number_at w at bs)) (sym (part_long at w bs room))
    ∙ bytes_number (part at w bs) (All-take (λ b. b < 256) w (drop at bs) (All-drop (λ b. b < 256) at bs (all_bytes bs h)))

-- a part of bytes is bytes
pub bytes_cut : (at w : ℕ) (bs : List ℕ) → Bytes bs → Bytes (part at w bs)
bytes_cut at w bs h i =
    ⊎_elim
    (λ (inside : i < w). rw (get_or-take w (drop at bs) i 0 inside, get_or-drop at bs i 0) (h (at + i)))
    (λ (past : w ≤ i). rw (get_or_past (part at w bs) i 0 (simp length-take (omega arith))) (omega arith))
    (cases_lt i w)

-- bytes write a number of their width
number_small : (bs : List ℕ) → AllByRecursion (λ b. b < 256) bs → number bs < 256 ^ length bs
number_small [] h = omega arith
number_small (b ∷ bs) (h, hs) = let more = number_small bs hs in rw pow-suc (omega arith)

pub number_below : (at w : ℕ) (bs : List ℕ) → Bytes bs → at + w ≤ length bs → number_at w at bs < 256 ^ w
number_below at w bs h room =
    subst (λ k. number_at w at bs < 256 ^ k) (part_long at w bs room)
    (number_small (part at w bs) (All-take (λ b. b < 256) w (drop at bs) (All-drop (λ b. b < 256) at bs (all_bytes bs h))))
