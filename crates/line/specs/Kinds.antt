-- The seven kinds of lines, their numbers, and which of them a machine takes.
use Rattle.std.specs.Prelude.{ℕ, Bool, cond, List, [], ◌∷◌, Some, None, Option, ◌==◌, Ok, Result}
use Rattle.std.specs.List.{list_any}
use Rattle.std.specs.Option.{ok_or}
use Rattle.fault.specs.Checks.{check, fault_at, ◌>>=◌, ◌>>◌}
use Rattle.fault.specs.declared.Fault.{Fault}
use Rattle.fault.specs.declared.Reason.TheVariants as reason
use Rattle.fault.specs.declared.Reason.TheVariants.{LineSize}
use Rattle.line.specs.AnswerLine as answer
use Rattle.line.specs.CallLine as call
use Rattle.line.specs.CertLine as cert
use Rattle.line.specs.ChargeLine as charge
use Rattle.line.specs.CommittedLine as committed
use Rattle.line.specs.Layout.{number_at, kind_at, kind_width}
use Rattle.line.specs.OrderLine as order
use Rattle.line.specs.Rules.{whole}
use Rattle.line.specs.SheetLine as sheet
use Rattle.line.specs.declared.kind.Kind.{Kind}
use Rattle.line.specs.declared.kind.Kind.TheVariants.{Call, Order, Answer, Cert, Committed, Sheet, Charge}

-- the number by which a line names its kind
abbrev pub kind_number : Kind → ℕ
kind_number Call = call.form.kind
kind_number Order = order.form.kind
kind_number Answer = answer.form.kind
kind_number Cert = cert.form.kind
kind_number Committed = committed.form.kind
kind_number Sheet = sheet.form.kind
kind_number Charge = charge.form.kind

-- all there are
abbrev pub all_kinds : List Kind
all_kinds = Call ∷ Order ∷ Answer ∷ Cert ∷ Committed ∷ Sheet ∷ Charge ∷ []

-- the first of the kinds that has the number
abbrev pub first_named : ℕ → List Kind → Option Kind
first_named n [] = None
first_named n (k ∷ ks) = cond (n == kind_number k) (Some k) (first_named n ks)

-- the kind that has the number, if any has
abbrev pub kind_named : ℕ → Option Kind
kind_named n = first_named n all_kinds

-- 4 unless a kind has the number
abbrev pub numbered : ℕ → Result Kind Fault
numbered n = ok_or (kind_named n) (fault_at reason.Kind 0)

-- a kind is one of those that a machine takes
abbrev pub takes : List Kind → Kind → Bool
takes taken kind = list_any (λ k. kind_number k == kind_number kind) taken

-- 3 and 4 on the bytes taken: a whole line, of a kind that is taken
abbrev pub outer_kind : List Kind → List ℕ → Result Kind Fault
outer_kind taken bytes = do
  check (whole bytes) LineSize 0
  kind ← numbered (number_at kind_width kind_at bytes)
  check (takes taken kind) reason.Kind 0
  Ok kind
