-- The board's rule, on the list of the trucks' spots.
use Rattle.std.specs.Prelude.{ℕ, cond, not, ◌||◌, List, replicate, Some, None, count_by, Option, ◌==◌, nat_eq, nat_le, nat_lt, slice_index, slice_set, Ok}
use Rattle.service.specs.Bodies.{unused_zero}
use Rattle.service.specs.Meaning.{Meaning}
use Rattle.service.specs.Replies.{Reply}
use Rattle.service.specs.Rules.{code_if, if_known, on_pages}
use Rattle.service.specs.declared.board.Motion.{Motion}
use Rattle.service.specs.declared.board.Motion.TheVariants.{Send, Recall, Tell}
use Rattle.service.specs.declared.body.Fields.{Fields}
use Rattle.service.specs.declared.body.Uses.{Uses}
use Rattle.service.specs.declared.body.Uses.TheVariants.{OnlyA, AAndB}
use Rattle.service.specs.declared.reply.Code.TheVariants.{Malformed, NoTruck, NoSpot, SpotFull}

-- how many trucks there are, the spots that they can be sent to, and how many of them such a spot holds
abbrev pub trucks : ℕ
trucks = 64

abbrev pub first_spot : ℕ
first_spot = 1

abbrev pub last_spot : ℕ
last_spot = 31

abbrev pub spot_room : ℕ
spot_room = 4

-- where every truck starts, and where a recalled truck goes; it has room for all
abbrev pub gate : ℕ
gate = 0

-- the number of each operation
abbrev pub motion_number : Motion → ℕ
motion_number Send = 1
motion_number Recall = 2
motion_number Tell = 3

-- the operation of a number, if there is one
abbrev pub board_operation : ℕ → Option Motion
board_operation n = cond (n == motion_number Send) (Some Send) (cond (n == motion_number Recall) (Some Recall) (cond (n == motion_number Tell) (Some Tell) None))

-- the fields that each operation uses
abbrev pub board_uses : Motion → Uses
board_uses Send = AAndB
board_uses Recall = OnlyA
board_uses Tell = OnlyA

-- how many trucks stand at a spot
abbrev pub trucks_at : ℕ → List ℕ → ℕ
trucks_at spot spots = count_by (λ here. nat_eq here spot) spots

-- how many trucks stand at a spot while one truck is away at the gate
abbrev pub others_at : ℕ → ℕ → List ℕ → ℕ
others_at spot truck spots = trucks_at spot (slice_set spots truck gate)

-- what each operation does with truck a and spot b
abbrev pub board_do : Motion → ℕ → ℕ → List ℕ → List ℕ × Reply
board_do Send a b spots =
    code_if (nat_lt b first_spot || nat_lt last_spot b) NoSpot spots
    (code_if (nat_le spot_room (others_at b a spots)) SpotFull spots
    (slice_set spots a b, Ok (trucks_at b (slice_set spots a b))))
board_do Recall a b spots = (slice_set spots a gate, Ok 0)
board_do Tell a b spots = (spots, Ok (slice_index spots a))

-- the rule: code 1, code 2, then the operation with its codes 3 and 4
abbrev pub board_rule : List ℕ → Fields → List ℕ × Reply
board_rule spots f =
    if_known (board_operation f.operation) spots (λ motion.
    code_if (not (unused_zero (board_uses motion) f)) Malformed spots
    (code_if (nat_le trucks f.a) NoTruck spots
    (board_do motion f.a f.b spots)))

-- every truck is at the gate
abbrev pub start_spots : List ℕ
start_spots = replicate trucks gate

-- the board to the machines: its page is the spots themselves, one byte for each truck
abbrev pub board : List ℕ → Meaning
board spots = record { page = spots; start = start_spots; rule = on_pages (λ spots. spots) (λ spots. spots) board_rule }
