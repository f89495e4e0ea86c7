-- The rules that every kind of line is read by, each with the number of its refusal.
use Rattle.std.specs.Prelude.{ℕ, ◌%◌, Bool, cond, ◌&&◌, List, ◌++◌, length, drop, Ok, Result, ◌==◌, nat_le, nat_lt}
use Rattle.fault.specs.Checks.{check, ◌>>◌}
use Rattle.fault.specs.declared.Fault.{Fault}
use Rattle.fault.specs.declared.Reason.TheVariants as reason
use Rattle.fault.specs.declared.Reason.TheVariants.{Room, LineSize, KindSize, View, Sender, Range}
use Rattle.line.specs.Layout.{number_at, size_at, size_width, kind_at, kind_width, header_size}
use Rattle.line.specs.SetUp.{clients}
use Rattle.line.specs.declared.pit.Pit.{Pit}

-- the size field tells the bytes that there are, a whole header at least
abbrev pub whole : List ℕ → Bool
whole bytes = nat_le header_size (length bytes) && number_at size_width size_at bytes == length bytes

-- 3, 4: a whole line, of a kind that is taken here
abbrev pub entered : ℕ → List ℕ → (ℕ → Bool) → Result (Unit {0}) Fault
entered at bytes takes = do
  check (whole bytes) LineSize at
  check (takes (number_at kind_width kind_at bytes)) reason.Kind at

-- 5: the line has the size of its kind
abbrev pub sized : ℕ → ℕ → List ℕ → Result (Unit {0}) Fault
sized size at bytes = check (length bytes == size) KindSize at

-- 6, 7, 8: the pit's view, a sender who may send this, every field in its range
abbrev pub ruled : Pit → ℕ → ℕ → Bool → Bool → Result (Unit {0}) Fault
ruled pit at view sender_may in_range = do
  check (view == pit.view) View at
  check sender_may Sender at
  check in_range Range at

-- places and stamps go from 1 to this
abbrev pub last_number : ℕ
last_number = 1000000

-- a place or a stamp
abbrev pub in_numbers : ℕ → Bool
in_numbers n = nat_le 1 n && nat_le n last_number

-- a tablet's number
abbrev pub in_clients : ℕ → Bool
in_clients client = nat_lt client clients

-- sheets are made at every eighth place
abbrev pub sheet_step : ℕ
sheet_step = 8

-- a place at which a sheet is made
abbrev pub on_sheet : ℕ → Bool
on_sheet place = place % sheet_step == 0

-- what is written has its shape, and there is room for it
abbrev pub writable : Bool → ℕ → List ℕ → Bool
writable shaped size out = shaped && nat_le size (length out)

-- what a writer answers: how much it wrote, or refusal 2
abbrev pub written : Bool → ℕ → List ℕ → Result ℕ Fault
written shaped size out = do
  check (writable shaped size out) Room 0
  Ok size

-- what the memory holds then: the bytes in front, the rest as it was; all as it was where nothing is written
abbrev pub memory_after : Bool → ℕ → List ℕ → List ℕ → List ℕ
memory_after shaped size bytes out = cond (writable shaped size out) (bytes ++ drop size out) out
