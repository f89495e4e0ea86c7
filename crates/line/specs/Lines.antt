-- A line of any kind, and its reading: checks 3 to 8 on every byte string.
use Rattle.std.specs.Prelude.{ℕ, Bool, List, ◌++◌, Ok, Result}
use Rattle.fault.specs.Checks.{◌>>=◌}
use Rattle.fault.specs.declared.Fault.{Fault}
use Rattle.line.specs.AnswerLine as answer
use Rattle.line.specs.CallLine as call
use Rattle.line.specs.CertLine as cert
use Rattle.line.specs.ChargeLine as charge
use Rattle.line.specs.CommittedLine as committed
use Rattle.line.specs.Forms as forms
use Rattle.line.specs.Forms.{Form}
use Rattle.line.specs.Kinds.{outer_kind}
use Rattle.line.specs.OrderLine as order
use Rattle.line.specs.SheetLine as sheet
use Rattle.line.specs.declared.kind.Kind.{Kind}
use Rattle.line.specs.declared.kind.Kind.TheVariants.{Call, Order, Answer, Cert, Committed, Sheet, Charge}
use Rattle.line.specs.declared.lines.Line.{Line}
use Rattle.line.specs.declared.lines.Line.TheVariants as variant
use Rattle.line.specs.declared.pit.Pit.{Pit}

-- what a line of any kind says
pub data Model : Type 0 where
  called : call.Model → Model
  ordered : order.Model → Model
  answered : answer.Model → Model
  certified : cert.Model → Model
  marked : committed.Model → Model
  printed : sheet.Model → Model
  charged : charge.Model → Model

-- what a line shows
abbrev pub line_shown : Line → Model
line_shown (variant.Call r) = called (call.shown r)
line_shown (variant.Order r) = ordered (order.shown r)
line_shown (variant.Answer r) = answered (answer.shown r)
line_shown (variant.Cert r) = certified (cert.shown r)
line_shown (variant.Committed r) = marked (committed.shown r)
line_shown (variant.Sheet r) = printed (sheet.shown r)
line_shown (variant.Charge r) = charged (charge.shown r)

-- a line read by its form, told as a line of any kind
abbrev pub read_to : {M : Type 0} → Form M → (M → Model) → Pit → List ℕ → Result Model Fault
read_to form says pit bytes = do
  m ← forms.read form pit 0 bytes
  Ok (says m)

-- checks 5 to 8, by the kind, and then 3 to 8 on the lines inside
abbrev pub read_as : Pit → List ℕ → Kind → Result Model Fault
read_as pit bytes Call = read_to call.form called pit bytes
read_as pit bytes Order = read_to order.form ordered pit bytes
read_as pit bytes Answer = read_to answer.form answered pit bytes
read_as pit bytes Cert = read_to cert.form certified pit bytes
read_as pit bytes Committed = read_to committed.form marked pit bytes
read_as pit bytes Sheet = read_to sheet.form printed pit bytes
read_as pit bytes Charge = read_to charge.form charged pit bytes

-- what the bytes are to a machine of this pit that takes these kinds
abbrev pub read : Pit → List Kind → List ℕ → Result Model Fault
read pit taken bytes = do
  kind ← outer_kind taken bytes
  read_as pit bytes kind

-- what every kind's form tells of a record, of a line of any kind
abbrev pub by_form : {A : Type 0} → ((M : Type 0) → Form M → M → A) → Model → A
by_form tells (called m) = tells call.Model call.form m
by_form tells (ordered m) = tells order.Model order.form m
by_form tells (answered m) = tells answer.Model answer.form m
by_form tells (certified m) = tells cert.Model cert.form m
by_form tells (marked m) = tells committed.Model committed.form m
by_form tells (printed m) = tells sheet.Model sheet.form m
by_form tells (charged m) = tells charge.Model charge.form m

-- the parts of the text have their widths
abbrev pub text_shaped : Model → Bool
text_shaped m = by_form (λ M form x. form.text_shaped x) m

-- and so has the tag
abbrev pub shaped : Model → Bool
shaped m = by_form (λ M form x. forms.shaped form x) m

-- what is stamped
abbrev pub text : Model → List ℕ
text m = by_form (λ M form x. forms.text form x) m

-- the tag
abbrev pub tag : Model → List ℕ
tag m = by_form (λ M form x. form.tag x) m

-- what is sent
abbrev pub line : Model → List ℕ
line m = text m ++ tag m

-- how long the line is
abbrev pub size : Model → ℕ
size m = by_form (λ M form x. forms.size_of form (form.count x)) m

-- a record passes checks 3 to 8
abbrev pub passes : Pit → Model → Bool
passes pit m = by_form (λ M form x. forms.passes form pit x) m
