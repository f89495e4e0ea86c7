-- What one body can do to the ledger, and what that keeps.
use Rattle.std.proofs.lemmas.Grind.{common_steps}
use Rattle.std.specs.Prelude.{◌≡◌, ℕ, zero, suc, ◌+◌, ◌-◌, ◌*◌, ◌<◌, ◌≤◌, List, [], ◌∷◌, length, Some, sum, ◌≢◌, slice_set, refl, Ok, Err}
use Rattle.std.proofs.Common.{arith, sym, ap, ◌∙◌, length-set}
use Rattle.std.proofs.lemmas.List.{get_or-set_same, set-get_or, set-set}
use Rattle.std.proofs.lemmas.List.Sums.{sum_by-set}
use Rattle.std.proofs.lemmas.Bool.{ltb-false, leb-false}
use Rattle.service.specs.Guards.{code_if_both, if_known_both}
use Rattle.service.specs.Ledgers.{Within, hauled, ledger_do, ledger_operation, ledger_rule, lowered, pile, piles_of, raised}
use Rattle.service.specs.Replies.{Reply, code_in, code_number, reply_bytes, value_in}
use Rattle.service.specs.declared.ledger.Work.{Work}
use Rattle.service.specs.declared.ledger.Work.TheVariants.{Dig, Haul, Tell}
use Rattle.service.specs.declared.body.Fields.{Fields}
use Rattle.service.specs.declared.reply.Code.{Code}
use Rattle.service.specs.declared.reply.Code.TheVariants.{Malformed, NoTruck, NoSpot, SpotFull, NoPile, NoTarget, TooLittle, TooMuch}

-- the four ways in which a body can end
pub data Step (piles : List ℕ) (f : Fields) : List ℕ × Reply → Type 0 where
  refusal : (code : Code) → (code_number code ≢ 0) → Step piles f (piles, Err code)
  dug : (value : ℕ) → ledger_operation f.operation ≡ Some Dig → f.a < 16 → pile f.a piles + f.w ≤ 1000000000 → Step piles f (raised f.a f.w piles, Ok value)
  carried : (value : ℕ) → ledger_operation f.operation ≡ Some Haul → f.a < 16 → f.b < 16 → f.w ≤ pile f.a piles → pile f.b (lowered f.a f.w piles) + f.w ≤ 1000000000 → Step piles f (hauled f.a f.b f.w piles, Ok value)
  told : (value : ℕ) → ledger_operation f.operation ≡ Some Tell → Step piles f (piles, Ok value)

module _ (piles : List ℕ) (f : Fields) where
  by_work : (work : Work) → ledger_operation f.operation ≡ Some work → f.a < 16 → Step piles f (ledger_do work f.a f.b f.w piles)
  by_work Dig known from =
      code_if_both (Step piles f) _ _ _ _ (λ _. refusal TooMuch (λ e. omega (arith, e)))
      (λ room. dug _ known from (ltb-false 1000000000 (pile f.a piles + f.w) room))
  by_work Haul known from =
      code_if_both (Step piles f) _ _ _ _ (λ _. refusal NoTarget (λ e. omega (arith, e)))
      (λ target. code_if_both (Step piles f) _ _ _ _ (λ _. refusal TooLittle (λ e. omega (arith, e)))
      (λ enough. code_if_both (Step piles f) _ _ _ _ (λ _. refusal TooMuch (λ e. omega (arith, e)))
      (λ room. carried _ known from
      (leb-false 16 f.b target)
      (ltb-false (pile f.a piles) f.w enough)
      (ltb-false 1000000000 (pile f.b (lowered f.a f.w piles) + f.w) room))))
  by_work Tell known from = told _ known

  pub step : Step piles f (ledger_rule piles f)
  step =
      if_known_both (Step piles f) _ _ _ (refusal Malformed (λ e. omega (arith, e)))
      (λ work known. code_if_both (Step piles f) _ _ _ _ (λ _. refusal Malformed (λ e. omega (arith, e)))
      (λ _. code_if_both (Step piles f) _ _ _ _ (λ _. refusal NoPile (λ e. omega (arith, e)))
      (λ from. by_work work known (leb-false 16 f.a from))))

-- no pile comes or goes
pub keeps_length : {piles : List ℕ} {f : Fields} {out : List ℕ × Reply} → Step piles f out → length out.0 ≡ length piles
keeps_length (refusal code e) = refl
keeps_length {piles} {f} (dug value m a room) = simp length-set
keeps_length {piles} {f} (carried value m a b enough room) = simp length-set
keeps_length (told value m) = refl

-- a page is at least as long as the page of what it holds
pub held_fits : (page : List ℕ) → 4 * length (piles_of page) ≤ length page
held_fits [] = omega arith
held_fits (b0 ∷ []) = omega arith
held_fits (b0 ∷ b1 ∷ []) = omega arith
held_fits (b0 ∷ b1 ∷ b2 ∷ []) = omega arith
held_fits (b0 ∷ b1 ∷ b2 ∷ b3 ∷ rest) = let more = held_fits rest in omega arith

-- a weight within the limit may be written anywhere
pub within_set : (piles : List ℕ) (k weight : ℕ) → weight ≤ 1000000000 → Within piles → Within (slice_set piles k weight)
within_set [] k weight h within i = within i
within_set (p ∷ piles) zero weight h within zero = h
within_set (p ∷ piles) zero weight h within (suc i) = within (suc i)
within_set (p ∷ piles) (suc k) weight h within zero = within zero
within_set (p ∷ piles) (suc k) weight h within (suc i) = within_set piles k weight h (λ j. within (suc j)) i

-- what every ledger has
pub record Good (piles : List ℕ) : Type 0 where
  pub whole : length piles ≡ 16
  pub within : Within piles

pub keeps_good : {piles : List ℕ} {f : Fields} {out : List ℕ × Reply} → Good piles → Step piles f out → Good out.0
keeps_good good (refusal code e) = good
keeps_good {piles} {f} good (dug value m a room) = record { whole = simp length-set good.whole; within = within_set piles f.a (pile f.a piles + f.w) room good.within }
keeps_good {piles} {f} good (carried value m a b enough room) =
    let less = within_set piles f.a (pile f.a piles - f.w) (omega (arith, good.within f.a)) good.within in
    record { whole = simp length-set good.whole; within = within_set (lowered f.a f.w piles) f.b (pile f.b (lowered f.a f.w piles) + f.w) room less }
keeps_good good (told value m) = good

-- one pile's change is the sum's change
pub sum_set : (piles : List ℕ) (k weight : ℕ) → k < length piles → sum (slice_set piles k weight) + pile k piles ≡ sum piles + weight
sum_set piles k weight h = sum_by-set (λ x. x) piles k weight 0 h

pub sum_raised : (piles : List ℕ) (k w : ℕ) → k < length piles → sum (raised k w piles) ≡ sum piles + w
sum_raised piles k w h = let e = sum_set piles k (pile k piles + w) h in omega arith

pub sum_lowered : (piles : List ℕ) (k w : ℕ) → k < length piles → w ≤ pile k piles → sum (lowered k w piles) + w ≡ sum piles
sum_lowered piles k w h enough = let e = sum_set piles k (pile k piles - w) h in omega arith

pub sum_hauled : (piles : List ℕ) (a b w : ℕ) → a < length piles → b < length piles → w ≤ pile a piles → sum (hauled a b w piles) ≡ sum piles
sum_hauled piles a b w ha hb enough = grind (arith, common_steps, length-set, sum_lowered, sum_raised)

-- from a pile to itself
hauled_same : (piles : List ℕ) (a w : ℕ) → a < length piles → w ≤ pile a piles → hauled a a w piles ≡ piles
hauled_same piles a w h enough = grind (arith, common_steps, get_or-set_same, set-set, set-get_or)

-- a reply's bytes tell its code
code_again : (code : Code) → code_in (reply_bytes (Err code)) ≡ code_number code
code_again Malformed = refl
code_again NoTruck = refl
code_again NoSpot = refl
code_again SpotFull = refl
code_again NoPile = refl
code_again NoTarget = refl
code_again TooLittle = refl
code_again TooMuch = refl

module _ {piles : List ℕ} {f : Fields} where
  pub telling_keeps : {out : List ℕ × Reply} → Step piles f out → ledger_operation f.operation ≡ Some Tell → out.0 ≡ piles
  telling_keeps (refusal code e) tell = refl
  telling_keeps (dug value m a room) tell = let z : ◌≡◌ {A = ℕ} 0 1 = cc in absurd (omega arith)
  telling_keeps (carried value m a b enough room) tell = let z : ◌≡◌ {A = ℕ} 0 1 = cc in absurd (omega arith)
  telling_keeps (told value m) tell = refl

  pub refusal_keeps : {out : List ℕ × Reply} → Step piles f out → (code_in (reply_bytes out.1) ≢ 0) → out.0 ≡ piles
  refusal_keeps (refusal code e) bad = refl
  refusal_keeps (dug value m a room) bad = absurd (bad refl)
  refusal_keeps (carried value m a b enough room) bad = absurd (bad refl)
  refusal_keeps (told value m) bad = refl

  pub refusal_silent : {out : List ℕ × Reply} → Step piles f out → (code_in (reply_bytes out.1) ≢ 0) → value_in (reply_bytes out.1) ≡ 0
  refusal_silent (refusal code e) bad = refl
  refusal_silent (dug value m a room) bad = absurd (bad refl)
  refusal_silent (carried value m a b enough room) bad = absurd (bad refl)
  refusal_silent (told value m) bad = absurd (bad refl)

  pub hauling_keeps : {out : List ℕ × Reply} → length piles ≡ 16 → Step piles f out → ledger_operation f.operation ≡ Some Haul → sum out.0 ≡ sum piles
  hauling_keeps size (refusal code e) haul = refl
  hauling_keeps size (dug value m a room) haul = let z : ◌≡◌ {A = ℕ} 0 1 = cc in absurd (omega arith)
  hauling_keeps size (carried value m a b enough room) haul = sum_hauled piles f.a f.b f.w (omega arith) (omega arith) enough
  hauling_keeps size (told value m) haul = refl

  pub one_pile_keeps : {out : List ℕ × Reply} → length piles ≡ 16 → Step piles f out → ledger_operation f.operation ≡ Some Haul → f.a ≡ f.b → out.0 ≡ piles
  one_pile_keeps size (refusal code e) haul same = refl
  one_pile_keeps size (dug value m a room) haul same = let z : ◌≡◌ {A = ℕ} 0 1 = cc in absurd (omega arith)
  one_pile_keeps size (carried value m a b enough room) haul same = ap (λ to. hauled f.a to f.w piles) (sym same) ∙ hauled_same piles f.a f.w (omega arith) enough
  one_pile_keeps size (told value m) haul same = refl

  pub digging_raises : {out : List ℕ × Reply} → length piles ≡ 16 → Step piles f out → ledger_operation f.operation ≡ Some Dig → code_in (reply_bytes out.1) ≡ 0 → sum out.0 ≡ sum piles + f.w
  digging_raises size (refusal code e) dig ok = absurd (e (sym (code_again code) ∙ ok))
  digging_raises size (dug value m a room) dig ok = sum_raised piles f.a f.w (omega arith)
  digging_raises size (carried value m a b enough room) dig ok = let z : ◌≡◌ {A = ℕ} 0 1 = cc in absurd (omega arith)
  digging_raises size (told value m) dig ok = let z : ◌≡◌ {A = ℕ} 0 1 = cc in absurd (omega arith)
