-- One step of the schedule and of the rounds, as the loops take it.
use Rattle.std.proofs.Common.{◌≡◌, ℕ, ◌+◌, ◌-◌, ◌<◌, ◌≤◌, List, [], ◌∷◌, ◌++◌, length, get_or, take, drop, set, sym, ap, ◌∙◌, add-one, arith}
use Rattle.std.proofs.lemmas.List.{take_more_set, get_or-take, get_or-drop, drop-drop}
use Rattle.std.proofs.lemmas.Bool.{lt-ltb, le-ltb}
use Rattle.digest.specs.declared.hash.Words.{Words}
use Rattle.digest.specs.Sha256.{K, word, next_W, message_schedule, round, rounds, σ₀, σ₁, ◌⊞◌}

pub rounds_more : (W : List ℕ) (v : Words) (t : ℕ) → rounds W v (t + 1) ≡ round (get_or K t 0) (get_or W t 0) (rounds W v t)
unfolding rounds
rounds_more W v t = rw add-one

schedule_more : (b : List ℕ) (t : ℕ) → message_schedule b (t + 1) ≡ message_schedule b t ++ next_W b (message_schedule b t) t ∷ []
unfolding message_schedule
schedule_more b t = rw add-one

-- the next word of the schedule, written where it belongs
written : (b s : List ℕ) (t x : ℕ) → t < length s → take t s ≡ message_schedule b t → x ≡ next_W b (take t s) t → take (t + 1) (set s t x) ≡ message_schedule b (t + 1)
written b s t x within e is =
    take_more_set s t x within ∙ ap (λ (w : List ℕ). w ++ x ∷ []) e ∙ ap (λ (y : ℕ). message_schedule b t ++ y ∷ []) (is ∙ ap (λ (w : List ℕ). next_W b w t) e) ∙ sym (schedule_more b t)

pub first_words : (b s : List ℕ) (t x : ℕ) → t < 16 → t < length s → take t s ≡ message_schedule b t → x ≡ word b t → take (t + 1) (set s t x) ≡ message_schedule b (t + 1)
first_words b s t x low within e is = written b s t x within e (rw (lt-ltb t 16 low) is)

pub later_words : (b s : List ℕ) (t x : ℕ) → 16 ≤ t → t < length s → take t s ≡ message_schedule b t
    → x ≡ σ₁ (get_or s (t - 2) 0) ⊞ get_or s (t - 7) 0 ⊞ σ₀ (get_or s (t - 15) 0) ⊞ get_or s (t - 16) 0
    → take (t + 1) (set s t x) ≡ message_schedule b (t + 1)
later_words b s t x high within e is = written b s t x within e (rw (le-ltb t 16 high, seen 2 (omega arith) (omega arith), seen 7 (omega arith) (omega arith), seen 15 (omega arith) (omega arith), seen 16 (omega arith) (omega arith)) is)
  where
    seen : (n : ℕ) → 0 < n → n ≤ t → get_or (take t s) (t - n) 0 ≡ get_or s (t - n) 0
    seen n some back = get_or-take t s (t - n) 0 (omega arith)

-- what stands first behind t elements, and what behind that
pub next_of : (xs : List ℕ) (t x : ℕ) (rest left : List ℕ) → left ≡ drop t xs → left ≡ x ∷ rest → (x ≡ get_or xs t 0) × (rest ≡ drop (t + 1) xs)
next_of xs t x rest left at is =
    let cut : drop t xs ≡ x ∷ rest = sym at ∙ is in (
      sym (ap (λ (ys : List ℕ). get_or ys 0 0) cut) ∙ get_or-drop t xs 0 0 ∙ ap (λ (k : ℕ). get_or xs k 0) (omega arith),
      sym (ap (drop 1) cut) ∙ drop-drop 1 t xs,
    )
