-- What one body can do to the board, and what that keeps.
use Rattle.std.specs.Prelude.{◌≡◌, ℕ, ◌+◌, ◌<◌, ◌≤◌, cond, List, length, Some, ◌==◌, ◌≢◌, nat_lt, slice_index, slice_index_or, slice_set, refl, Ok, Err}
use Rattle.std.proofs.Common.{arith, length-set}
use Rattle.std.proofs.lemmas.List.{get_or-set_same, get_or-set_other, set-set}
use Rattle.std.proofs.lemmas.List.Sums.{sum_by-set}
use Rattle.std.proofs.lemmas.Bool.{ltb-false, leb-false, or_parts, cases_eq}
use Rattle.std.proofs.lemmas.Bool.Decides.{nat_tests}
use Rattle.service.specs.Guards.{code_if_both, if_known_both}
use Rattle.service.specs.Boards.{board_do, board_operation, board_rule, others_at, trucks_at}
use Rattle.service.specs.Replies.{Reply, code_in, code_number, reply_bytes, value_in}
use Rattle.service.specs.declared.board.Motion.{Motion}
use Rattle.service.specs.declared.board.Motion.TheVariants.{Send, Recall, Tell}
use Rattle.service.specs.declared.body.Fields.{Fields}
use Rattle.service.specs.declared.reply.Code.{Code}
use Rattle.service.specs.declared.reply.Code.TheVariants.{Malformed, NoTruck, NoSpot, SpotFull}

-- the four ways in which a body can end
pub data Step (spots : List ℕ) (f : Fields) : List ℕ × Reply → Type 0 where
  refusal : (code : Code) → (code_number code ≢ 0) → Step spots f (spots, Err code)
  sent : (value : ℕ) → board_operation f.operation ≡ Some Send → f.a < 64 → 1 ≤ f.b → f.b ≤ 31 → others_at f.b f.a spots < 4 → Step spots f (slice_set spots f.a f.b, Ok value)
  recalled : board_operation f.operation ≡ Some Recall → f.a < 64 → Step spots f (slice_set spots f.a 0, Ok 0)
  told : (value : ℕ) → Step spots f (spots, Ok value)

module _ (spots : List ℕ) (f : Fields) where
  by_motion : (motion : Motion) → board_operation f.operation ≡ Some motion → f.a < 64 → Step spots f (board_do motion f.a f.b spots)
  by_motion Send known truck =
      code_if_both (Step spots f) _ _ _ _ (λ _. refusal NoSpot (λ e. omega (arith, e)))
      (λ spot. code_if_both (Step spots f) _ _ _ _ (λ _. refusal SpotFull (λ e. omega (arith, e)))
      (λ room. sent _ known truck
      (ltb-false f.b 1 (or_parts (nat_lt f.b 1) (nat_lt 31 f.b) spot).0)
      (ltb-false 31 f.b (or_parts (nat_lt f.b 1) (nat_lt 31 f.b) spot).1)
      (leb-false 4 (others_at f.b f.a spots) room)))
  by_motion Recall known truck = recalled known truck
  by_motion Tell known truck = told _

  pub step : Step spots f (board_rule spots f)
  step =
      if_known_both (Step spots f) _ _ _ (refusal Malformed (λ e. omega (arith, e)))
      (λ motion known. code_if_both (Step spots f) _ _ _ _ (λ _. refusal Malformed (λ e. omega (arith, e)))
      (λ _. code_if_both (Step spots f) _ _ _ _ (λ _. refusal NoTruck (λ e. omega (arith, e)))
      (λ truck. by_motion motion known (leb-false 64 f.a truck))))

-- a page keeps its length
pub keeps_length : {spots : List ℕ} {f : Fields} {out : List ℕ × Reply} → Step spots f out → length out.0 ≡ length spots
keeps_length (refusal code e) = refl
keeps_length {spots} {f} (sent value m a low high room) = length-set spots f.a f.b
keeps_length {spots} {f} (recalled m a) = length-set spots f.a 0
keeps_length (told value) = refl

-- what every page of a board has
pub record Good (spots : List ℕ) : Type 0 where
  pub whole : length spots ≡ 64
  pub room : (spot : ℕ) → 1 ≤ spot → trucks_at spot spots ≤ 4
  pub known : (truck : ℕ) → slice_index spots truck ≤ 31

-- one truck's move, counted at a spot
move_counts : (spot truck to : ℕ) (spots : List ℕ) → truck < length spots → trucks_at spot (slice_set spots truck to) + cond (slice_index spots truck == spot) 1 0 ≡ trucks_at spot spots + cond (to == spot) 1 0
move_counts spot truck to spots h = sum_by-set (λ here. cond (here == spot) 1 0) spots truck to 0 h

-- at any other spot than the one moved to there are no more trucks than before
elsewhere : (spot truck to : ℕ) (spots : List ℕ) → truck < length spots → (to ≢ spot) → trucks_at spot (slice_set spots truck to) ≤ trucks_at spot spots
elsewhere spot truck to spots h other = let e = move_counts spot truck to spots h in grind (arith, nat_tests)

-- at the spot moved to there is one more than the others
arrived : (truck to : ℕ) (spots : List ℕ) → truck < length spots → 1 ≤ to → trucks_at to (slice_set spots truck to) ≡ others_at to truck spots + 1
arrived truck to spots h low =
    let inside : truck < length (slice_set spots truck 0) = rw length-set h in
    let gone : slice_index_or (slice_set spots truck 0) truck 0 ≡ 0 = get_or-set_same spots truck 0 0 h in
    let over = set-set spots truck 0 to in
    let e = move_counts to truck to (slice_set spots truck 0) inside in
    grind (arith, nat_tests)

spots_known : (truck to : ℕ) (spots : List ℕ) → truck < length spots → to ≤ 31 → ((k : ℕ) → slice_index spots k ≤ 31) → (k : ℕ) → slice_index (slice_set spots truck to) k ≤ 31
spots_known truck to spots h low all k = grind (arith, get_or-set_same, get_or-set_other, cases_eq k truck, all k)

pub keeps_good : {spots : List ℕ} {f : Fields} {out : List ℕ × Reply} → Good spots → Step spots f out → Good out.0
keeps_good good (refusal code e) = good
keeps_good {spots} {f} good (sent value m a low high room) =
    let h : f.a < length spots = omega (arith, good.whole) in
    record {
      whole = rw length-set good.whole;
      room = λ spot l. grind (arith, arrived f.a f.b spots h low, elsewhere spot f.a f.b spots h, cases_eq f.b spot, good.room spot l);
      known = spots_known f.a f.b spots h high good.known;
    }
keeps_good {spots} {f} good (recalled m a) =
    let h : f.a < length spots = omega (arith, good.whole) in
    record {
      whole = rw length-set good.whole;
      room = λ spot l. grind (arith, elsewhere spot f.a 0 spots h, good.room spot l);
      known = spots_known f.a 0 spots h (omega arith) good.known;
    }
keeps_good good (told value) = good

module _ {spots : List ℕ} {f : Fields} where
  pub telling_keeps : {out : List ℕ × Reply} → Step spots f out → board_operation f.operation ≡ Some Tell → out.0 ≡ spots
  telling_keeps (refusal code e) tell = refl
  telling_keeps (sent value m a low high room) tell = let z : ◌≡◌ {A = ℕ} 0 1 = cc in absurd (omega arith)
  telling_keeps (recalled m a) tell = let z : ◌≡◌ {A = ℕ} 0 1 = cc in absurd (omega arith)
  telling_keeps (told value) tell = refl

  pub refusal_keeps : {out : List ℕ × Reply} → Step spots f out → (code_in (reply_bytes out.1) ≢ 0) → out.0 ≡ spots
  refusal_keeps (refusal code e) bad = refl
  refusal_keeps (sent value m a low high room) bad = absurd (bad refl)
  refusal_keeps (recalled m a) bad = absurd (bad refl)
  refusal_keeps (told value) bad = refl

  pub refusal_silent : {out : List ℕ × Reply} → Step spots f out → (code_in (reply_bytes out.1) ≢ 0) → value_in (reply_bytes out.1) ≡ 0
  refusal_silent (refusal code e) bad = refl
  refusal_silent (sent value m a low high room) bad = absurd (bad refl)
  refusal_silent (recalled m a) bad = absurd (bad refl)
  refusal_silent (told value) bad = absurd (bad refl)
