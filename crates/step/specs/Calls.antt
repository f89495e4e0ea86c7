-- What every call of a machine does: it decides, and then it carries the decision out.
use Rattle.std.specs.Prelude.{◌≡◌, ℕ, true, false, List, ◌++◌, length, Ok, Err, Result}
use Rattle.fault.specs.Checks.{refused}
use Rattle.fault.specs.declared.Fault.{Fault}
use Rattle.fault.specs.declared.Reason.TheVariants.{SealNotReady}
use Rattle.fault.specs.declared.Reason.{Reason}
use Rattle.seal.specs.Meaning.{Meaning, may_stamp, stamped, tag_size}
use Rattle.step.specs.Outbox.{over_front}

-- what a machine that holds an S does on a call that it does not refuse
pub data Move (S : Type 0) : Type 0 where
  -- to hold another state, and write nothing
  settle : S → Move S
  -- to hold another state, to stamp a text for its own party and write it with its tag, and further bytes behind it
  send : S → List ℕ → List ℕ → Move S

-- what it decides: a move, or a refusal
abbrev pub Decision : Type 0 → Type 0
Decision S = Result (Move S) Fault

-- all that a call can change: the machine's state, the seal, and the outbox
pub record World (S : Type 0) : Type 0 where
  pub state : S
  pub seal : Meaning
  pub out : List ℕ

-- the text was stamped for the party and written with its tag and the further bytes, and the answer is their count
pub record Written {S : Type 0} (party : ℕ) (state : S) (text rest : List ℕ) (before after : World S) (count : ℕ) : Type 0 where
  pub allowed : may_stamp before.seal party text ≡ true
  pub tag : List ℕ
  pub tag_fits : length tag ≡ tag_size
  pub holds : after.state ≡ state
  pub stamps : after.seal ≡ stamped before.seal party text tag
  pub writes : after.out ≡ over_front (text ++ (tag ++ rest)) before.out
  pub counts : count ≡ length (text ++ (tag ++ rest))

-- a refusal for that reason at that byte, and nothing changed
abbrev pub Refused : {S : Type 0} → Reason → ℕ → World S → World S → Result ℕ Fault → Type 0
Refused reason offset before after r = (r ≡ refused reason offset) × (after ≡ before)

-- the decision was carried out; where the seal refuses to stamp, the call is refused with 12 and nothing changed
abbrev pub Carried : {S : Type 0} → ℕ → Decision S → World S → World S → Result ℕ Fault → Type 0
Carried party (Err fault) before after r = (r ≡ Err fault) × (after ≡ before)
Carried party (Ok (settle state)) before after r = (r ≡ Ok 0) × (after ≡ record { state = state; seal = before.seal; out = before.out })
Carried party (Ok (send state text rest)) before after (Ok count) = Written party state text rest before after count
Carried party (Ok (send state text rest)) before after (Err fault) = (may_stamp before.seal party text ≡ false) × Refused SealNotReady 0 before after (Err fault)
