-- The laws of lines: what is written reads back, what reads was so written, and a text tells its record.
use Rattle.std.specs.Prelude.{◌≡◌, ℕ, true, false, List, Ok}
use Rattle.fault.specs.Checks.{refused}
use Rattle.fault.specs.declared.Reason.TheVariants.{SetUp}
use Rattle.line.specs.Laws.{Bytes, Held}
use Rattle.line.specs.Kinds.{all_kinds}
use Rattle.line.specs.Lines as lines
use Rattle.line.specs.Lines.{passes, called, ordered, answered, certified, marked, printed, charged}
use Rattle.line.specs.Rules.{in_numbers}
use Rattle.line.specs.SetUp.{opened, lead_of}
use Rattle.line.specs.declared.kind.Kind.{Kind}
use Rattle.line.specs.declared.pit.Pit.{Pit}

-- a machine that takes every kind
abbrev pub everything : List Kind
everything = all_kinds

-- a record that passes checks 3 to 8, written and read, comes back
abbrev pub ComesBack : Type 0
ComesBack = (pit : Pit) (m : lines.Model) → Held pit → passes pit m ≡ true → lines.read pit everything (lines.line m) ≡ Ok m

-- a line that reads is the line that its record writes, and its record passes
abbrev pub IsWritten : Type 0
IsWritten = (pit : Pit) (taken : List Kind) (bytes : List ℕ) (m : lines.Model) → Bytes bytes → lines.read pit taken bytes ≡ Ok m
    → (lines.line m ≡ bytes) × (passes pit m ≡ true)

-- the record with another tag
abbrev pub retagged : List ℕ → lines.Model → lines.Model
retagged t (called m) = called (record { sender = m.sender; view = m.view; stamp = m.stamp; body = m.body; tag = t })
retagged t (ordered m) = ordered (record { sender = m.sender; view = m.view; place = m.place; history = m.history; call = m.call; tag = t })
retagged t (answered m) = answered (record { sender = m.sender; view = m.view; place = m.place; history = m.history; client = m.client; stamp = m.stamp; reply = m.reply; tag = t })
retagged t (certified m) = certified (record { sender = m.sender; view = m.view; place = m.place; history = m.history; client = m.client; stamp = m.stamp; reply = m.reply; count = m.count; entries = m.entries; tag = t })
retagged t (marked m) = marked (record { sender = m.sender; view = m.view; place = m.place; history = m.history; client = m.client; stamp = m.stamp; tag = t })
retagged t (printed m) = printed (record { sender = m.sender; view = m.view; place = m.place; history = m.history; print = m.print; tag = t })
retagged t (charged m) = charged (record { sender = m.sender; view = m.view; first = m.first; second = m.second; tag = t })

-- two records that pass and have one text are the same record, whatever their tags
abbrev pub TextTells : Type 0
TextTells = (pit : Pit) (m n : lines.Model) → Held pit → passes pit m ≡ true → passes pit n ≡ true → lines.text m ≡ lines.text n
    → m ≡ retagged (lines.tag m) n

-- set-ups and ranges, by example
pub record SetUps : Type 0 where
  pub none_lying : opened 0 7 ≡ refused SetUp 0
  pub four_lying : opened 4 7 ≡ refused SetUp 0
  pub lead_of_four : lead_of (record { f = 1; view = 7 }) ≡ 3
  pub lead_of_seven : lead_of (record { f = 2; view = 7 }) ≡ 0
  pub last_place : in_numbers 1000000 ≡ true
  pub past_the_last : in_numbers 1000001 ≡ false
