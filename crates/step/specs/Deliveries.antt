-- What it means to deliver a stamped text into an outbox of any size.
use Rattle.std.specs.Prelude.{ℕ, ◌+◌, Bool, List, length, MatchBool, Result, nat_le, Ok}
use Rattle.fault.specs.declared.Fault.{Fault}
use Rattle.fault.specs.declared.Reason.TheVariants.{Room}
use Rattle.seal.specs.Meaning.{tag_size}
use Rattle.step.specs.Calls.{World, send, Carried, Refused}

-- text, tag and further bytes have room
abbrev pub fits : List ℕ → List ℕ → List ℕ → Bool
fits text rest out = nat_le (length text + tag_size + length rest) (length out)

-- delivered as a decision to send that; too small an outbox is refused with 2, and nothing changed
abbrev pub Delivery : ℕ → List ℕ → List ℕ → World (Unit {0}) → World (Unit {0}) → Result ℕ Fault → Type 0
Delivery party text rest before after r = MatchBool (fits text rest before.out) (Carried party (Ok (send tt text rest)) before after r) (Refused Room 0 before after r)
