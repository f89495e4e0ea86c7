-- The blocks of a padded message, byte by byte.
use Rattle.std.proofs.lemmas.Grind.{common_steps}
use Rattle.std.proofs.Common.{◌≡◌, ℕ, ◌+◌, ◌-◌, ◌*◌, ◌<◌, ◌≤◌, List, [], ◌∷◌, ◌++◌, length, get_or, take, drop, replicate, sym, refl, ap, ◌∙◌, ⊎_elim, add-one, arith}
use Rattle.std.proofs.lemmas.List.{append_assoc, length-append, length-replicate, length-take-le, length-drop, get_or_append_left, get_or-append_right, get_or-replicate, get_or_past, get_or-take, get_or-drop, take-append-le, drop-append-le, drop_at, drop-drop, ext_get_or, take_all}
use Rattle.std.proofs.lemmas.Bool.{lt-ltb, le-ltb, cases_lt}
use Rattle.std.specs.Array.{IsFirstChunk}
use Rattle.std.specs.Prelude.{slice_range, Option, Some, None, IfSome, MatchOption}
use Rattle.std.specs.Borrow.{Bor}
use Rattle.digest.specs.Padding.{padded_length, byte_of, Overlaid}
use Rattle.digest.specs.Sha256.{zeros_after, long_bytes, padded, nth_block, hashed, compress}

pub length_padded : (m : List ℕ) → length (padded m) ≡ padded_length (length m)
unfolding padded
length_padded m = simp (length-append, length-replicate) (omega arith)

-- what stands at j, where a part is laid behind a list: the byte past a list's end is 0
lay_behind : (xs ys : List ℕ) (j : ℕ) → get_or (xs ++ ys) j 0 ≡ byte_of ys (length xs) j (get_or xs j 0)
lay_behind xs ys j = ⊎_elim before (λ low. ⊎_elim (within low) (after low) (cases_lt j (length xs + length ys))) (cases_lt j (length xs))
  where
    before : j < length xs → get_or (xs ++ ys) j 0 ≡ byte_of ys (length xs) j (get_or xs j 0)
    before h = rw (lt-ltb j (length xs) h) (get_or_append_left xs ys 0 j h)

    within : length xs ≤ j → j < length xs + length ys → get_or (xs ++ ys) j 0 ≡ byte_of ys (length xs) j (get_or xs j 0)
    within low h = rw (le-ltb j (length xs) low, lt-ltb j (length xs + length ys) h) (get_or-append_right xs ys (length xs) j 0 refl low)

    after : length xs ≤ j → length xs + length ys ≤ j → get_or (xs ++ ys) j 0 ≡ byte_of ys (length xs) j (get_or xs j 0)
    after low h = rw (le-ltb j (length xs) low, le-ltb j (length xs + length ys) h) (get_or_past (xs ++ ys) j 0 (omega (arith, length-append xs ys)) ∙ sym (get_or_past xs j 0 low))

-- zeros behind a list change no byte
lay_zeros : (xs : List ℕ) (n j : ℕ) → get_or (xs ++ replicate n 0) j 0 ≡ get_or xs j 0
lay_zeros xs n j = ⊎_elim (λ low. get_or_append_left xs (replicate n 0) 0 j low) past (cases_lt j (length xs))
  where
    past : length xs ≤ j → get_or (xs ++ replicate n 0) j 0 ≡ get_or xs j 0
    past high = get_or-append_right xs (replicate n 0) (length xs) j 0 refl high ∙ zero_within (j - length xs) ∙ sym (get_or_past xs j 0 high)
      where
        zero_within : (k : ℕ) → ◌≡◌ {A = ℕ} (get_or (replicate n 0) k 0) 0
        zero_within k = ⊎_elim (get_or-replicate n k 0 0) (λ h. get_or_past (replicate n 0) k 0 (rw length-replicate h)) (cases_lt k n)

module _ (m : List ℕ) where
  mark : List ℕ
  mark = 0x80 ∷ []

  zeros : List ℕ
  zeros = replicate (zeros_after (length m)) 0

  bits : List ℕ
  bits = long_bytes (8 * length m)

  parts : padded m ≡ ((m ++ mark) ++ zeros) ++ bits
  unfolding padded mark zeros bits
  parts = sym (append_assoc (m ++ mark) zeros bits ∙ append_assoc m mark (zeros ++ bits))

  length_before_bits : length ((m ++ mark) ++ zeros) ≡ padded_length (length m) - 8
  unfolding mark zeros
  length_before_bits = simp (length-append, length-replicate) (omega arith)

  -- byte j of a padded message, as its parts laid over zeros make it
  pub laid : (j : ℕ) → get_or (padded m) j 0 ≡ byte_of (long_bytes (8 * length m)) (padded_length (length m) - 8) j (byte_of (0x80 ∷ []) (length m) j (get_or m j 0))
  unfolding mark zeros bits
  laid j =
      ap (λ (xs : List ℕ). get_or xs j 0) parts
      ∙ lay_behind ((m ++ mark) ++ zeros) bits j
      ∙ ap (byte_of bits (length ((m ++ mark) ++ zeros)) j) (lay_zeros (m ++ mark) (zeros_after (length m)) j ∙ lay_behind m mark j)
      ∙ ap (λ (n : ℕ). byte_of bits n j (byte_of mark (length m) j (get_or m j 0))) length_before_bits

module _ (f s : List ℕ) (i : ℕ) where
  -- the block that the four parts make, laid over zeros
  pub assembled : (b₁ b₂ b₃ b₄ : List ℕ) → 64 * i + 64 ≤ padded_length (length f + length s)
      → Overlaid (64 * i) f 0 (replicate 64 0) b₁
      → Overlaid (64 * i) s (length f) b₁ b₂
      → Overlaid (64 * i) (0x80 ∷ []) (length f + length s) b₂ b₃
      → Overlaid (64 * i) (long_bytes (8 * (length f + length s))) (padded_length (length f + length s) - 8) b₃ b₄
      → b₄ ≡ nth_block (padded (f ++ s)) i
  assembled b₁ b₂ b₃ b₄ within o₁ o₂ o₃ o₄ =
      ext_get_or 0 b₄ (nth_block (padded (f ++ s)) i) (o₄.same_length ∙ sym whole) (λ k h. let h' : k < 64 = omega (arith, o₄.same_length) in same k h')
    where
      whole : length (nth_block (padded (f ++ s)) i) ≡ 64
      whole = length-take-le 64 (drop (64 * i) (padded (f ++ s))) (simp (length-drop, length_padded, length-append) (omega arith))

      same : (k : ℕ) → k < 64 → get_or b₄ k 0 ≡ get_or (nth_block (padded (f ++ s)) i) k 0
      same k h =
          o₄.bytes k h
          ∙ ap (byte_of (long_bytes (8 * (length f + length s))) (padded_length (length f + length s) - 8) (64 * i + k)) (o₃.bytes k h ∙ ap (byte_of (0x80 ∷ []) (length f + length s) (64 * i + k)) message)
          ∙ sym (get_or-take 64 (drop (64 * i) (padded (f ++ s))) k 0 h ∙ get_or-drop (64 * i) (padded (f ++ s)) k 0 ∙ laid (f ++ s) (64 * i + k) ∙ ap (λ (n : ℕ). byte_of (long_bytes (8 * n)) (padded_length n - 8) (64 * i + k) (byte_of (0x80 ∷ []) n (64 * i + k) (get_or (f ++ s) (64 * i + k) 0))) (length-append f s))
        where
          message : get_or b₂ k 0 ≡ get_or (f ++ s) (64 * i + k) 0
          message = o₂.bytes k h ∙ ap (byte_of s (length f) (64 * i + k)) (o₁.bytes k h ∙ ap (byte_of f 0 (64 * i + k)) (get_or-replicate 64 k 0 0 h) ∙ sym (lay_behind [] f (64 * i + k))) ∙ sym (lay_behind f s (64 * i + k))

-- 64 bytes that lie whole in the front of a list
in_front : (xs ys : List ℕ) (a : ℕ) → a + 64 ≤ length xs → take 64 (drop a (xs ++ ys)) ≡ take 64 (drop a xs)
in_front xs ys a within = ap (take 64) (drop-append-le a xs ys (omega arith)) ∙ take-append-le 64 (drop a xs) ys (simp length-drop (omega arith))

-- a block that lies whole in the first part, or in the second, as the code cuts it out
pub block_in_first : (f s : List ℕ) (i n : ℕ) → n ≡ 64 → 64 * i + 64 ≤ length f → take n (drop (64 * i) f) ≡ nth_block (padded (f ++ s)) i
unfolding padded
block_in_first f s i n whole within = grind (arith, common_steps, in_front, length-append)

pub block_in_second : (f s : List ℕ) (i n : ℕ) → n ≡ 64 → length f ≤ 64 * i → 64 * i + 64 ≤ length f + length s → take n (drop (64 * i - length f) s) ≡ nth_block (padded (f ++ s)) i
unfolding padded
block_in_second f s i n whole low within =
    ap (λ (k : ℕ). take k (drop (64 * i - length f) s)) whole ∙ sym (in_front (f ++ s) _ (64 * i) (simp length-append (omega arith)) ∙ ap (take 64) past_first)
  where
    past_first : drop (64 * i) (f ++ s) ≡ drop (64 * i - length f) s
    past_first =
        let split : length f + (64 * i - length f) ≡ 64 * i = omega arith in
        ap (λ (a : ℕ). drop a (f ++ s)) (sym split) ∙ sym (drop-drop (64 * i - length f) (length f) (f ++ s)) ∙ ap (drop (64 * i - length f)) (drop_at f s (length f) refl)

pub hashed_more : (m : List ℕ) (i : ℕ) → hashed m (i + 1) ≡ compress (hashed m i) (nth_block m i)
unfolding hashed
hashed_more m i = rw add-one

-- the first 64 bytes of a list, where it has so many
pub lent : (xs want : List ℕ) (block : Option (Bor (List ℕ))) → MatchOption block (length xs < 64) (λ bytes. IsFirstChunk xs bytes.now 64) → (64 ≤ length xs → take 64 xs ≡ want) → IfSome block (λ bytes. bytes.now ≡ want)
lent xs want None cases is = tt
lent xs want (Some bytes) cases is = cases.same ∙ is cases.enough

-- the block from byte a on, where so much is left of the first part, or of the second
pub lent_first : (f s rest : List ℕ) (i a : ℕ) → a ≡ 64 * i → rest ≡ slice_range f a (length f) → 64 ≤ length rest → take 64 rest ≡ nth_block (padded (f ++ s)) i
lent_first f s rest i a at is whole =
    let cut : rest ≡ drop (64 * i) f = is ∙ take_all (length f - a) (drop a f) (omega (arith, length-drop a f)) ∙ ap (λ (k : ℕ). drop k f) at in
    ap (take 64) cut ∙ block_in_first f s i 64 refl (omega (arith, ap length cut, length-drop (64 * i) f))

pub lent_second : (f s rest : List ℕ) (i a : ℕ) → a + length f ≡ 64 * i → rest ≡ slice_range s a (length s) → 64 ≤ length rest → take 64 rest ≡ nth_block (padded (f ++ s)) i
lent_second f s rest i a at is whole =
    let where' : a ≡ 64 * i - length f = omega arith in
    let cut : rest ≡ drop (64 * i - length f) s = is ∙ take_all (length s - a) (drop a s) (omega (arith, length-drop a s)) ∙ ap (λ (k : ℕ). drop k s) where' in
    ap (take 64) cut ∙ block_in_second f s i 64 refl (omega arith) (omega (arith, ap length cut, length-drop (64 * i - length f) s))
