-- A pit: how many boxes it has, who leads, and which parties there are.
use Rattle.std.specs.Prelude.{ℕ, ◌+◌, ◌*◌, ◌%◌, Bool, ◌&&◌, ◌==◌, nat_le, nat_lt, Ok, Result}
use Rattle.fault.specs.Checks.{check, ◌>>◌}
use Rattle.fault.specs.declared.Fault.{Fault}
use Rattle.fault.specs.declared.Reason.TheVariants.{SetUp}
use Rattle.line.specs.declared.pit.Pit.{Pit}

-- a pit stands up to one, two or three lying boxes
abbrev pub allowed : ℕ → Bool
allowed f = nat_le 1 f && nat_le f 3

-- what opening a pit answers: 1 unless it stands up to one, two or three
abbrev pub opened : ℕ → ℕ → Result Pit Fault
opened f view = do
  check (allowed f) SetUp 0
  Ok (record { f = f; view = view })

-- the number of boxes
abbrev pub replicas_of : Pit → ℕ
replicas_of pit = 3 * pit.f + 1

-- so many boxes that any two such groups share a box that keeps the rules
abbrev pub quorum_of : Pit → ℕ
quorum_of pit = 2 * pit.f + 1

-- the box that leads
abbrev pub lead_of : Pit → ℕ
lead_of pit = pit.view % replicas_of pit

-- tablets are parties 256 to 271
abbrev pub first_client : ℕ
first_client = 256

-- the number of tablets
abbrev pub clients : ℕ
clients = 16

-- the party number of a tablet
abbrev pub client_party : ℕ → ℕ
client_party client = first_client + client

-- a box is a party by its own number
abbrev pub is_replica : Pit → ℕ → Bool
is_replica pit party = nat_lt party (replicas_of pit)

-- one of the tablets
abbrev pub is_client : ℕ → Bool
is_client party = nat_le first_client party && nat_lt party (client_party clients)

-- the box that leads, and no other
abbrev pub is_lead : Pit → ℕ → Bool
is_lead pit party = party == lead_of pit
