-- What a decision comes to, once the machine's seal has been asked: what is held then, and what was stamped.
use Rattle.std.specs.Prelude.{◌≡◌, ℕ, Bool, true, false, cond, List, ◌++◌, length, is_ok, Some, None, Option, Result, Ok, Err}
use Rattle.fault.specs.declared.Fault.{Fault}
use Rattle.seal.specs.Meaning.{Meaning, may_stamp, tag_size}
use Rattle.step.specs.Calls.{Decision, settle, send, World, Carried}
use Rattle.step.specs.Outbox.{over_front}

-- the state after a decision of that party: where the seal does not stamp, all stays as it was
abbrev pub left_by : {S : Type 0} → Meaning → ℕ → S → Decision S → S
left_by seal party state (Err fault) = state
left_by seal party state (Ok (settle next)) = next
left_by seal party state (Ok (send next text rest)) = cond (may_stamp seal party text) next state

-- the text stamped by it, if any
abbrev pub stamped_by : {S : Type 0} → Meaning → ℕ → Decision S → Option (List ℕ)
stamped_by seal party (Err fault) = None
stamped_by seal party (Ok (settle next)) = None
stamped_by seal party (Ok (send next text rest)) = cond (may_stamp seal party text) (Some text) None

-- the call is accepted, and not refused
abbrev pub accepted_by : {S : Type 0} → Meaning → ℕ → Decision S → Bool
accepted_by seal party (Err fault) = false
accepted_by seal party (Ok (settle next)) = true
accepted_by seal party (Ok (send next text rest)) = may_stamp seal party text

-- the text stamped stands in front of the outbox, with a tag and maybe further bytes; where nothing was stamped, nothing was written
abbrev pub Wrote : Option (List ℕ) → List ℕ → List ℕ → Type 0
Wrote None before after = after ≡ before
Wrote (Some text) before after = (tag : List ℕ) × (rest : List ℕ) × (length tag ≡ tag_size) × (after ≡ over_front (text ++ (tag ++ rest)) before)

-- the world after a call is as a run has it
pub record Stepped {S : Type 0} (party : ℕ) (d : Decision S) (before after : World S) (r : Result ℕ Fault) : Type 0 where
  pub holds : after.state ≡ left_by before.seal party before.state d
  pub answers : is_ok r ≡ accepted_by before.seal party d
  pub wrote : Wrote (stamped_by before.seal party d) before.out after.out

-- the steps of runs are what the calls do: a call that carries its decision out makes that step
abbrev pub CallsAreSteps : Type 0 → Type 0
CallsAreSteps S = (party : ℕ) (d : Decision S) (before after : World S) (r : Result ℕ Fault) → Carried party d before after r → Stepped party d before after r
