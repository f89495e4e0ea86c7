-- The laws: what one body keeps, every sequence of bodies keeps.
use Rattle.std.proofs.Common.{◌≡◌, ℕ, zero, suc, ◌≤◌, false, eqb, List, [], ◌∷◌, length, get_or, replicate, fold, sum, sym, refl, ap, ◌∙◌, subst, arith}
use Rattle.std.proofs.lemmas.Bool.{ne_eqb}
use Rattle.service.specs.BoardSteps as b
use Rattle.service.specs.LedgerSteps as l
use Rattle.service.specs.Pages.{length_page, piles_again}
use Rattle.service.specs.Boards.{board_rule, start_spots, trucks_at}
use Rattle.service.specs.Laws.{BoardLaws, Call, LedgerLaws, asked, new_board, new_ledger, next_page, page_after}
use Rattle.service.specs.Ledgers.{ledger_rule, page_of, piles_of, start_piles}

-- what each step keeps holds in the end
along : {X Y : Type 0} (P : Y → Type 0) (step : Y → X → Y) → ((y : Y) (x : X) → P y → P (step y x)) → (y : Y) (xs : List X) → P y → P (fold step y xs)
along P step keeps y [] p = p
along P step keeps y (x ∷ xs) p = along P step keeps (step y x) xs (keeps y x p)

zeros : (n k : ℕ) → ◌≡◌ {A = ℕ} (get_or (replicate n 0) k 0) 0
zeros zero k = refl
zeros (suc n) zero = refl
zeros (suc n) (suc k) = zeros n k

none_sent : (spot : ℕ) → 1 ≤ spot → trucks_at spot start_spots ≤ 4
none_sent spot low = let away : eqb 0 spot ≡ false = ne_eqb 0 spot (λ e. omega arith) in rw away (omega arith)

board_good : (calls : List Call) → b.Good (page_after new_board calls)
board_good calls =
    along b.Good (next_page new_board) (λ page call good. b.keeps_good good (b.step page (asked call))) start_spots calls
    (record { whole = refl; room = none_sent; known = λ truck. omega (arith, zeros 64 truck) })

-- what a call does to the page that it meets
moved : (calls : List Call) (call : Call) → b.Step (page_after new_board calls) (asked call) (board_rule (page_after new_board calls) (asked call))
moved calls call = b.step (page_after new_board calls) (asked call)

pub board_laws : BoardLaws
board_laws = record {
  room = λ calls spot low high. (board_good calls).room spot low;
  one_spot = λ calls truck h. (get_or (page_after new_board calls) truck 0, (board_good calls).known truck, refl, λ other e. sym e);
  telling = λ calls call tell. b.telling_keeps (moved calls call) tell;
  refusing = λ calls call bad. (b.refusal_keeps (moved calls call) bad, b.refusal_silent (moved calls call) bad);
  size = λ calls. (board_good calls).whole;
}

-- a page that is the page of good piles
record Held (page : List ℕ) : Type 0 where
  good : l.Good (piles_of page)
  again : page_of (piles_of page) ≡ page

held : (piles : List ℕ) → l.Good piles → Held (page_of piles)
held piles good =
    let same = piles_again piles good.within in
    record { good = subst l.Good (sym same) good; again = ap page_of same }

ledger_held : (calls : List Call) → Held (page_after new_ledger calls)
ledger_held calls =
    along Held (next_page new_ledger)
    (λ page call was. held (ledger_rule (piles_of page) (asked call)).0 (l.keeps_good was.good (l.step (piles_of page) (asked call))))
    (page_of start_piles) calls
    (held start_piles (record { whole = refl; within = λ k. omega (arith, zeros 16 k) }))

-- the piles that a call meets, and what it does to them
module _ (calls : List Call) (call : Call) where
  abbrev met : List ℕ
  met = piles_of (page_after new_ledger calls)

  did : l.Step met (asked call) (ledger_rule met (asked call))
  did = l.step met (asked call)

  -- the piles of the next page are what the rule left
  left : piles_of (next_page new_ledger (page_after new_ledger calls) call) ≡ (ledger_rule met (asked call)).0
  left = piles_again (ledger_rule met (asked call)).0 (l.keeps_good (ledger_held calls).good did).within

pub ledger_laws : LedgerLaws
ledger_laws = record {
  hauling = λ calls call haul. ap sum (left calls call) ∙ l.hauling_keeps (ledger_held calls).good.whole (did calls call) haul;
  one_pile = λ calls call haul same. ap page_of (l.one_pile_keeps (ledger_held calls).good.whole (did calls call) haul same) ∙ (ledger_held calls).again;
  digging = λ calls call dig ok. ap sum (left calls call) ∙ l.digging_raises (ledger_held calls).good.whole (did calls call) dig ok;
  limit = λ calls k h. (ledger_held calls).good.within k;
  telling = λ calls call tell. ap page_of (l.telling_keeps (did calls call) tell) ∙ (ledger_held calls).again;
  refusing = λ calls call bad. (ap page_of (l.refusal_keeps (did calls call) bad) ∙ (ledger_held calls).again, l.refusal_silent (did calls call) bad);
  size = λ calls. omega (arith, ap length (ledger_held calls).again, length_page (piles_of (page_after new_ledger calls)), (ledger_held calls).good.whole);
}
