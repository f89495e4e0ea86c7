-- What the miners may rely on, whatever bodies come in whatever order.
use Rattle.std.specs.Prelude.{◌≡◌, ℕ, ◌+◌, ◌<◌, ◌≤◌, List, [], ◌∷◌, ◌++◌, map, length, replicate, Some, fold, sum, ◌≢◌, slice_index}
use Rattle.service.specs.Bodies.{fields_of}
use Rattle.service.specs.Boards.{board, board_operation, start_spots, trucks_at}
use Rattle.service.specs.Ledgers.{ledger, ledger_operation, pile, piles_of, start_piles}
use Rattle.service.specs.Meaning.{Meaning}
use Rattle.service.specs.Numbers.{two_bytes, four_bytes}
use Rattle.service.specs.Replies.{code_in, value_in}
use Rattle.service.specs.declared.board.Motion.TheVariants as motion
use Rattle.service.specs.declared.body.Fields.{Fields}
use Rattle.service.specs.declared.ledger.Work.TheVariants as work

-- a tablet's number and its body
abbrev pub Call : Type 0
Call = ℕ × List ℕ

-- the page after a call, and the reply to it
abbrev pub next_page : Meaning → List ℕ → Call → List ℕ
next_page m page call = (m.rule page call.0 call.1).0

abbrev pub reply_to : Meaning → List ℕ → Call → List ℕ
reply_to m page call = (m.rule page call.0 call.1).1

-- the fields of a call's body
abbrev pub asked : Call → Fields
asked call = fields_of call.1

-- the page once the calls were performed in turn from the start page
abbrev pub page_after : Meaning → List Call → List ℕ
page_after m calls = fold (next_page m) m.start calls

-- this holds of every page that a service ever has
abbrev pub OfEveryPage : Meaning → (List ℕ → Type 0) → Type 0
OfEveryPage m Law = (calls : List Call) → Law (page_after m calls)

-- this holds of every call at every page that a service ever has
abbrev pub OfEveryCall : Meaning → (List ℕ → Call → Type 0) → Type 0
OfEveryCall m Law = (calls : List Call) (call : Call) → Law (page_after m calls) call

-- the page always has 64 bytes
abbrev pub Has64Bytes : Meaning → Type 0
Has64Bytes m = OfEveryPage m (λ page. length page ≡ 64)

-- a call with a code other than 0 changes no page, and its value is 0
abbrev pub RefusesCleanly : Meaning → Type 0
RefusesCleanly m = OfEveryCall m (λ page call. (code_in (reply_to m page call) ≢ 0) → (next_page m page call ≡ page) × (value_in (reply_to m page call) ≡ 0))

-- the board that was just opened
abbrev pub new_board : Meaning
new_board = board start_spots

-- a truck stands at a spot
abbrev pub Stands : ℕ → ℕ → List ℕ → Type 0
Stands truck spot page = slice_index page truck ≡ spot

pub record BoardLaws : Type 0 where
  -- a spot from 1 to 31 never holds more than four trucks
  pub room : OfEveryPage new_board (λ page. (spot : ℕ) → 1 ≤ spot → spot ≤ 31 → trucks_at spot page ≤ 4)
  -- every truck is at exactly one spot from 0 to 31
  pub one_spot : OfEveryPage new_board (λ page. (truck : ℕ) → truck < 64 → (spot : ℕ) × (spot ≤ 31) × Stands truck spot page × ((other : ℕ) → Stands truck other page → other ≡ spot))
  -- telling changes nothing
  pub telling : OfEveryCall new_board (λ page call. board_operation (asked call).operation ≡ Some motion.Tell → next_page new_board page call ≡ page)
  pub refusing : RefusesCleanly new_board
  pub size : Has64Bytes new_board

-- the ledger that was just opened
abbrev pub new_ledger : Meaning
new_ledger = ledger start_piles

-- all that lies on the piles of a page
abbrev pub total : List ℕ → ℕ
total page = sum (piles_of page)

pub record LedgerLaws : Type 0 where
  -- hauling never changes the sum of all piles
  pub hauling : OfEveryCall new_ledger (λ page call. ledger_operation (asked call).operation ≡ Some work.Haul → total (next_page new_ledger page call) ≡ total page)
  -- hauling within one pile changes nothing
  pub one_pile : OfEveryCall new_ledger (λ page call. ledger_operation (asked call).operation ≡ Some work.Haul → (asked call).a ≡ (asked call).b → next_page new_ledger page call ≡ page)
  -- digging with code 0 raises the sum by w
  pub digging : OfEveryCall new_ledger (λ page call. ledger_operation (asked call).operation ≡ Some work.Dig → code_in (reply_to new_ledger page call) ≡ 0 → total (next_page new_ledger page call) ≡ total page + (asked call).w)
  -- no pile ever passes the limit
  pub limit : OfEveryPage new_ledger (λ page. (k : ℕ) → k < 16 → pile k (piles_of page) ≤ 1000000000)
  -- telling changes nothing
  pub telling : OfEveryCall new_ledger (λ page call. ledger_operation (asked call).operation ≡ Some work.Tell → next_page new_ledger page call ≡ page)
  pub refusing : RefusesCleanly new_ledger
  pub size : Has64Bytes new_ledger

-- a body of proper form
abbrev pub body_of : ℕ → ℕ → ℕ → ℕ → List ℕ
body_of operation a b w = two_bytes operation ++ (two_bytes a ++ (two_bytes b ++ (four_bytes w ++ replicate 6 0)))

-- a call of tablet 0 that sends a truck to spot 5
abbrev pub send_to_5 : ℕ → Call
send_to_5 truck = (0, body_of 1 truck 5 0)

-- a call of tablet 0 that digs into pile 0, and one that hauls from there to pile 1
abbrev pub dig_0 : ℕ → Call
dig_0 w = (0, body_of 1 0 0 w)

abbrev pub haul_0_1 : ℕ → Call
haul_0_1 w = (0, body_of 2 0 1 w)

-- spot 5 holds four
abbrev pub full_spot : List ℕ
full_spot = page_after new_board (map send_to_5 (10 ∷ 11 ∷ 12 ∷ 13 ∷ []))

-- pile 0 holds 100
abbrev pub hundred : List ℕ
hundred = page_after new_ledger (dig_0 100 ∷ [])

pub record Shown : Type 0 where
  -- spot 5 holds four: a fifth truck gets code 4, and one that is there already code 0 and value 4
  pub fifth : code_in (reply_to new_board full_spot (send_to_5 14)) ≡ 4
  pub there_code : code_in (reply_to new_board full_spot (send_to_5 12)) ≡ 0
  pub there_value : value_in (reply_to new_board full_spot (send_to_5 12)) ≡ 4
  -- a pile holds 100: hauling 100 is done, hauling 101 gets code 4
  pub all_of_it : code_in (reply_to new_ledger hundred (haul_0_1 100)) ≡ 0
  pub too_little : code_in (reply_to new_ledger hundred (haul_0_1 101)) ≡ 4
