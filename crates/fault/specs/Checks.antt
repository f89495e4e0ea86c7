-- How rules are said one after another: the first that fails is the refusal.
use Rattle.std.specs.Prelude.{ℕ, Bool, true, false, Ok, Err, Result}
use Rattle.fault.specs.declared.Fault.{Fault}
use Rattle.fault.specs.declared.Reason.{Reason}

-- a refusal for a reason, at the byte at fault
abbrev pub fault_at : Reason → ℕ → Fault
fault_at reason offset = record { reason = reason; offset = offset }

abbrev pub refused : {A : Type 0} → Reason → ℕ → Result A Fault
refused reason offset = Err (fault_at reason offset)

-- the test holds; else it is refused for that reason, at that byte
abbrev pub check : Bool → Reason → ℕ → Result (Unit {0}) Fault
check true reason offset = Ok tt
check false reason offset = refused reason offset

infixl 20 ◌>>=◌
-- goes on with the value; a refusal stays what it is
abbrev pub ◌>>=◌ : {A B : Type 0} → Result A Fault → (A → Result B Fault) → Result B Fault
(Ok a) >>= next = next a
(Err fault) >>= next = Err fault

infixr 20 ◌>>◌
-- one result after another: the first refusal stands
abbrev pub ◌>>◌ : {A B : Type 0} → Result A Fault → Result B Fault → Result B Fault
(Ok a) >> next = next
(Err fault) >> next = Err fault

-- a result with its value seen in another way, as a record by what it shows
abbrev pub result_map : {A B : Type 0} → (A → B) → Result A Fault → Result B Fault
result_map shown (Ok a) = Ok (shown a)
result_map shown (Err fault) = Err fault
