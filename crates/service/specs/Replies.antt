-- A reply: what became of a body, and a value that is 0 unless it was done.
use Rattle.std.specs.Prelude.{◌≡◌, length, refl, ℕ, List, [], ◌∷◌, ◌++◌, Ok, Err, Result}
use Rattle.service.specs.Numbers.{two_bytes, four_bytes, two_at, four_at}
use Rattle.service.specs.declared.reply.Code.{Code}
use Rattle.service.specs.declared.reply.Code.TheVariants.{Malformed, NoTruck, NoSpot, SpotFull, NoPile, NoTarget, TooLittle, TooMuch}

-- the number of each code, for the board (truck, spot) and for the ledger (pile, target)
abbrev pub code_number : Code → ℕ
code_number Malformed = 1
code_number NoTruck = 2
code_number NoPile = 2
code_number NoSpot = 3
code_number NoTarget = 3
code_number SpotFull = 4
code_number TooLittle = 4
code_number TooMuch = 5

-- what became of a body: done, with its value, or not done
abbrev pub Reply : Type 0
Reply = Result ℕ Code

-- the eight bytes of a code's number and a value: code, value, two zeros
abbrev pub coded_bytes : ℕ → ℕ → List ℕ
coded_bytes code value = two_bytes code ++ (four_bytes value ++ (0 ∷ 0 ∷ []))

-- the reply's eight bytes; the value is 0 unless the body was done
abbrev pub reply_bytes : Reply → List ℕ
reply_bytes (Ok value) = coded_bytes 0 value
reply_bytes (Err code) = coded_bytes (code_number code) 0

-- the code and the value that a reply's bytes tell
abbrev pub code_in : List ℕ → ℕ
code_in reply = two_at 0 reply

abbrev pub value_in : List ℕ → ℕ
value_in reply = four_at 2 reply

-- and there are always eight
pub length_reply : (reply : Reply) → length (reply_bytes reply) ≡ 8
length_reply (Ok value) = refl
length_reply (Err code) = refl
