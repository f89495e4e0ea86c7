-- Every run of a lead, from its opening on: what it then holds, which ORDERs it sent, and what these keep to.
use Rattle.std.specs.Prelude.{◌≡◌, ℕ, ◌+◌, ◌≤◌, cond, ◌⊎◌, List, [], ◌∷◌, ◌++◌, length, Result, Ok, Err}
use Rattle.fault.specs.Checks.{◌>>=◌}
use Rattle.fault.specs.declared.Fault.{Fault}
use Rattle.line.specs.CallLine as call
use Rattle.line.specs.OrderLine as order
use Rattle.line.specs.SetUp.{lead_of}
use Rattle.line.specs.declared.pit.Pit.{Pit}
use Rattle.seal.specs.Meaning.{Meaning, may_stamp, tag_size}
use Rattle.step.specs.Calls.{Decision, World, Carried}
use Rattle.step.specs.Histories.{link, no_history}
use Rattle.step.specs.Outbox.{over_front}
use Rattle.step.specs.Steps.{left_by}
use Rattle.lead.specs.Leading.{assigned, hears, lead_takes, new_lead, order_of, row_in}
use Rattle.lead.specs.declared.Lead.{Lead}

-- one take: any bytes, any seal, and an outbox of any room
pub record Taking : Type 0 where
  pub seal : Meaning
  pub bytes : List ℕ
  pub room : ℕ

-- what the lead decides on it
abbrev pub decided : Lead → Taking → Decision Lead
decided lead t = lead_takes lead t.seal t.bytes t.room

-- the ORDER that the lead decides to send, if any
abbrev pub order_for : Lead → Taking → Result order.Model Fault
order_for lead t = do
  m ← hears lead.pit t.seal t.bytes t.room
  a ← assigned lead m
  Ok (order_of lead.pit m (row_in a))

-- it is sent where the seal stamps it
abbrev pub sent_if_stamped : Meaning → ℕ → Result order.Model Fault → List order.Model
sent_if_stamped seal party (Ok o) = cond (may_stamp seal party (order.text o)) (o ∷ []) []
sent_if_stamped seal party (Err fault) = []

-- the lead after a take, and what it sent
unfoldable pub lead_next : Lead → Taking → Lead
lead_next lead t = left_by t.seal (lead_of lead.pit) lead (decided lead t)

unfoldable pub sent : Lead → Taking → List order.Model
sent lead t = sent_if_stamped t.seal (lead_of lead.pit) (order_for lead t)

-- the lead after takes from its opening on, the last take first in the list
unfoldable pub lead_after : Pit → List Taking → Lead
lead_after pit [] = new_lead pit
lead_after pit (t ∷ ts) = lead_next (lead_after pit ts) t

-- all ORDERs that it sent, the last one first
unfoldable pub orders : Pit → List Taking → List order.Model
orders pit [] = []
orders pit (t ∷ ts) = sent (lead_after pit ts) t ++ orders pit ts

-- an ORDER is one of these
abbrev pub Among : order.Model → List order.Model → Type 0
Among o [] = ⊥
Among o (p ∷ ps) = (o ≡ p) ⊎ Among o ps

-- the last place given after these takes
abbrev pub last_place : Pit → List Taking → ℕ
last_place pit ts = (lead_after pit ts).place

-- places are given from 1 on, one after another: none twice as new, none left out
pub record Gapless (pit : Pit) (ts : List Taking) : Type 0 where
  pub rises : (t : Taking) → (last_place pit (t ∷ ts) ≡ last_place pit ts) ⊎ (last_place pit (t ∷ ts) ≡ last_place pit ts + 1)
  pub within : (o : order.Model) → Among o (orders pit ts) → (1 ≤ o.place) × (o.place ≤ last_place pit ts)
  pub every : (n : ℕ) → 1 ≤ n → n ≤ last_place pit ts → (o : order.Model) × Among o (orders pit ts) × (o.place ≡ n)

-- two ORDERs do not conflict: one place has one history and one CALL, and one CALL has one place
pub record Agree (o p : order.Model) : Type 0 where
  pub one_history : o.place ≡ p.place → o.history ≡ p.history
  pub one_call : o.place ≡ p.place → call.text o.call ≡ call.text p.call
  pub one_place : call.text o.call ≡ call.text p.call → o.place ≡ p.place

-- a history links its CALL to the history of the place before; at place 1, to none
pub record Linked (o p : order.Model) : Type 0 where
  pub first : o.place ≡ 1 → o.history ≡ link no_history (call.text o.call)
  pub further : o.place ≡ p.place + 1 → o.history ≡ link p.history (call.text o.call)

-- the laws of every run
abbrev pub WithoutGap : Type 0
WithoutGap = (pit : Pit) (ts : List Taking) → Gapless pit ts

abbrev pub NoConflict : Type 0
NoConflict = (pit : Pit) (ts : List Taking) (o p : order.Model) → Among o (orders pit ts) → Among p (orders pit ts) → Agree o p

abbrev pub LinkedUp : Type 0
LinkedUp = (pit : Pit) (ts : List Taking) (o p : order.Model) → Among o (orders pit ts) → Among p (orders pit ts) → Linked o p

-- a take, with these bytes, of a lead in its world
abbrev pub taking : World Lead → List ℕ → Taking
taking world bytes = record { seal = world.seal; bytes = bytes; room = length world.out }

-- what a take leaves in the outbox: all as it was, or the one ORDER that was sent, with its tag, over the front
abbrev pub OrdersWritten : List order.Model → List ℕ → List ℕ → Type 0
OrdersWritten [] before after = after ≡ before
OrdersWritten (o ∷ []) before after = (tag : List ℕ) × (length tag ≡ tag_size) × (after ≡ over_front (order.text o ++ tag) before)
OrdersWritten (o ∷ p ∷ os) before after = ⊥

-- the world after a take is as a run has it: the lead that is next, and the ORDER that was sent
pub record TakeMade (before after : World Lead) (t : Taking) : Type 0 where
  pub holds : after.state ≡ lead_next before.state t
  pub wrote : OrdersWritten (sent before.state t) before.out after.out

-- runs are what the lead's own takes make: each carries out its decision, and that is a step of a run
abbrev pub RunsAreTakes : Type 0
RunsAreTakes = (before after : World Lead) (bytes : List ℕ) (r : Result ℕ Fault) →
    Carried (lead_of before.state.pit) (decided before.state (taking before bytes)) before after r →
    TakeMade before after (taking before bytes)
