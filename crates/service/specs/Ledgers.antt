-- The ledger's rule, on the list of the piles' weights.
use Rattle.std.specs.Prelude.{ℕ, ◌+◌, ◌-◌, ◌≤◌, Bool, cond, not, List, [], ◌∷◌, replicate, Some, None, Option, ◌==◌, nat_le, nat_lt, slice_index, slice_set, Ok}
use Rattle.std.specs.List.{flat_map}
use Rattle.service.specs.Bodies.{unused_zero}
use Rattle.service.specs.Meaning.{Meaning}
use Rattle.service.specs.Numbers.{four, four_bytes}
use Rattle.service.specs.Replies.{Reply}
use Rattle.service.specs.Rules.{code_if, if_known, on_pages}
use Rattle.service.specs.declared.body.Fields.{Fields}
use Rattle.service.specs.declared.body.Uses.{Uses}
use Rattle.service.specs.declared.body.Uses.TheVariants.{OnlyA, AAndW, All}
use Rattle.service.specs.declared.ledger.Work.{Work}
use Rattle.service.specs.declared.ledger.Work.TheVariants.{Dig, Haul, Tell}
use Rattle.service.specs.declared.reply.Code.TheVariants.{Malformed, NoPile, NoTarget, TooLittle, TooMuch}

-- how many piles there are, and the weight that none of them may pass
abbrev pub all_piles : ℕ
all_piles = 16

abbrev pub limit : ℕ
limit = 1000000000

-- the number of each operation
abbrev pub work_number : Work → ℕ
work_number Dig = 1
work_number Haul = 2
work_number Tell = 3

-- the operation of a number, if there is one
abbrev pub ledger_operation : ℕ → Option Work
ledger_operation n = cond (n == work_number Dig) (Some Dig) (cond (n == work_number Haul) (Some Haul) (cond (n == work_number Tell) (Some Tell) None))

-- the fields that each operation uses
abbrev pub ledger_uses : Work → Uses
ledger_uses Dig = AAndW
ledger_uses Haul = All
ledger_uses Tell = OnlyA

-- the weight of a pile
abbrev pub pile : ℕ → List ℕ → ℕ
pile k piles = slice_index piles k

-- the piles with w more in one of them
abbrev pub raised : ℕ → ℕ → List ℕ → List ℕ
raised k w piles = slice_set piles k (pile k piles + w)

-- the piles with w less in one of them
abbrev pub lowered : ℕ → ℕ → List ℕ → List ℕ
lowered k w piles = slice_set piles k (pile k piles - w)

-- the piles once w has gone from a to b: from a pile to itself nothing changes
abbrev pub hauled : ℕ → ℕ → ℕ → List ℕ → List ℕ
hauled a b w piles = raised b w (lowered a w piles)

-- whether a pile would pass the limit with w more in it
abbrev pub passes : ℕ → ℕ → List ℕ → Bool
passes k w piles = nat_lt limit (pile k piles + w)

-- what each operation does with piles a and b and the weight w
abbrev pub ledger_do : Work → ℕ → ℕ → ℕ → List ℕ → List ℕ × Reply
ledger_do Dig a b w piles =
    code_if (passes a w piles) TooMuch piles
    (raised a w piles, Ok (pile a (raised a w piles)))
ledger_do Haul a b w piles =
    code_if (nat_le all_piles b) NoTarget piles
    (code_if (nat_lt (pile a piles) w) TooLittle piles
    (code_if (passes b w (lowered a w piles)) TooMuch piles
    (hauled a b w piles, Ok (pile b (hauled a b w piles)))))
ledger_do Tell a b w piles = (piles, Ok (pile a piles))

-- the rule: code 1, code 2, then the operation with its codes 3 to 5
abbrev pub ledger_rule : List ℕ → Fields → List ℕ × Reply
ledger_rule piles f =
    if_known (ledger_operation f.operation) piles (λ work.
    code_if (not (unused_zero (ledger_uses work) f)) Malformed piles
    (code_if (nat_le all_piles f.a) NoPile piles
    (ledger_do work f.a f.b f.w piles)))

-- every pile is empty
abbrev pub start_piles : List ℕ
start_piles = replicate all_piles 0

-- no pile passes the limit
abbrev pub Within : List ℕ → Type 0
Within piles = (k : ℕ) → pile k piles ≤ limit

-- the page: each pile's four bytes in turn
abbrev pub page_of : List ℕ → List ℕ
page_of piles = flat_map four_bytes piles

-- the piles that a page holds
abbrev pub piles_of : List ℕ → List ℕ
piles_of [] = []
piles_of (b0 ∷ []) = []
piles_of (b0 ∷ b1 ∷ []) = []
piles_of (b0 ∷ b1 ∷ b2 ∷ []) = []
piles_of (b0 ∷ b1 ∷ b2 ∷ b3 ∷ rest) = four b0 b1 b2 b3 ∷ piles_of rest

-- the ledger to the machines
abbrev pub ledger : List ℕ → Meaning
ledger piles = record { page = page_of piles; start = page_of start_piles; rule = on_pages piles_of page_of ledger_rule }
