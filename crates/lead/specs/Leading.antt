-- What the lead does with a CALL.
use Rattle.std.specs.Prelude.{ℕ, ◌+◌, ◌-◌, Bool, true, false, not, ◌&&◌, List, [], ◌∷◌, replicate, ◌==◌, nat_le, nat_lt, slice_index_or, slice_set, Ok, Result}
use Rattle.fault.specs.Checks.{check, refused, ◌>>=◌, ◌>>◌}
use Rattle.fault.specs.declared.Fault.{Fault}
use Rattle.fault.specs.declared.Reason.TheVariants as reason
use Rattle.fault.specs.declared.Reason.TheVariants.{SetUp, Room, Stamp, Full}
use Rattle.hear.specs.Vouchers.{heard}
use Rattle.line.specs.CallLine as call
use Rattle.line.specs.Lines as lines
use Rattle.line.specs.Lines.{called, ordered, answered, certified, marked, printed, charged}
use Rattle.line.specs.OrderLine as order
use Rattle.line.specs.Rules.{last_number}
use Rattle.line.specs.SetUp.{opened, is_lead, lead_of, first_client, clients}
use Rattle.line.specs.declared.kind.Kind.{Kind}
use Rattle.line.specs.declared.kind.Kind.TheVariants as kind
use Rattle.line.specs.declared.pit.Pit.{Pit}
use Rattle.seal.specs.Meaning.{Meaning}
use Rattle.std.specs.Str.{bytes_eq}
use Rattle.step.specs.Calls.{Decision, send}
use Rattle.step.specs.Histories.{link, no_history}
use Rattle.step.specs.Outbox.{least_room}
use Rattle.lead.specs.declared.Assignment.{Assignment}
use Rattle.lead.specs.declared.Assignment.TheVariants.{Repeat, Fresh}
use Rattle.lead.specs.declared.Lead.{Lead}
use Rattle.lead.specs.declared.Row.{Row}

-- a tablet that has not called yet: stamp and place 0
abbrev pub no_row : Row
no_row = record { stamp = 0; place = 0; history = no_history; body = replicate 16 0 }

-- a lead that has given no place yet
abbrev pub new_lead : Pit → Lead
new_lead pit = record { pit = pit; place = 0; history = no_history; rows = replicate clients no_row }

-- opening: 1 unless the pit can be set up and the number is that of its lead
abbrev pub lead_opened : ℕ → ℕ → ℕ → Result Lead Fault
lead_opened f view number = do
  pit ← opened f view
  check (is_lead pit number) SetUp 0
  Ok (new_lead pit)

-- the lead takes CALLs alone
abbrev pub calls_only : List Kind
calls_only = kind.Call ∷ []

-- 4 for a line that is no CALL
abbrev pub as_call : lines.Model → Result call.Model Fault
as_call (called m) = Ok m
as_call (ordered m) = refused reason.Kind 0
as_call (answered m) = refused reason.Kind 0
as_call (certified m) = refused reason.Kind 0
as_call (marked m) = refused reason.Kind 0
as_call (printed m) = refused reason.Kind 0
as_call (charged m) = refused reason.Kind 0

-- the CALL that the bytes are: 2 unless the outbox has its least room, then checks 3 to 9
abbrev pub hears : Pit → Meaning → List ℕ → ℕ → Result call.Model Fault
hears pit seal bytes room = do
  check (nat_le least_room room) Room 0
  m ← heard pit calls_only seal bytes
  as_call m

-- the tablet that a CALL is from, and the row that the lead keeps of it
abbrev pub client_of : call.Model → ℕ
client_of m = m.sender - first_client

abbrev pub row_of : Lead → call.Model → Row
row_of lead m = slice_index_or lead.rows (client_of m) (record { stamp = 0; place = 0; history = []; body = [] })

-- the stamp is below the tablet's last, or equal with another body
abbrev pub outdated : Row → call.Model → Bool
outdated row m = nat_le m.stamp row.stamp && not (m.stamp == row.stamp && bytes_eq m.body row.body)

-- the next place and history, for this call
abbrev pub next_row : Lead → call.Model → Row
next_row lead m = record { stamp = m.stamp; place = lead.place + 1; history = link lead.history (call.text m); body = m.body }

-- a repeated call keeps its place; a new one gets the next, or 17 where there is none
abbrev pub placed : Bool → Lead → call.Model → Result Assignment Fault
placed true lead m = Ok (Repeat (row_of lead m))
placed false lead m = check (nat_lt lead.place last_number) Full 0 >> Ok (Fresh (next_row lead m))

-- 15, then 17 for a new call
abbrev pub assigned : Lead → call.Model → Result Assignment Fault
assigned lead m = do
  check (not (outdated (row_of lead m) m)) Stamp 0
  placed (m.stamp == (row_of lead m).stamp) lead m

-- the row that the call has
abbrev pub row_in : Assignment → Row
row_in (Repeat row) = row
row_in (Fresh row) = row

-- what the lead holds then: a repeat changes nothing
abbrev pub holding : Lead → call.Model → Assignment → Lead
holding lead m (Repeat row) = lead
holding lead m (Fresh row) = record { pit = lead.pit; place = row.place; history = row.history; rows = slice_set lead.rows (client_of m) row }

-- the ORDER with the CALL just taken, its tag included
abbrev pub order_of : Pit → call.Model → Row → order.Model
order_of pit m row = record { sender = lead_of pit; view = pit.view; place = row.place; history = row.history; call = m; tag = [] }

-- what the lead does with a CALL that it heard
abbrev pub lead_acts : Lead → call.Model → Decision Lead
lead_acts lead m = do
  a ← assigned lead m
  Ok (send (holding lead m a) (order.text (order_of lead.pit m (row_in a))) [])

-- what the lead does with any bytes
abbrev pub lead_takes : Lead → Meaning → List ℕ → ℕ → Decision Lead
lead_takes lead seal bytes room = do
  m ← hears lead.pit seal bytes room
  lead_acts lead m
