-- Check 9: every tag in a line vouches for a text of a party, and a seal is asked for each in turn.
use Rattle.std.specs.Prelude.{ℕ, zero, suc, ◌+◌, Bool, List, [], ◌∷◌, ◌++◌, Ok, Result}
use Rattle.fault.specs.Checks.{check, ◌>>=◌, ◌>>◌}
use Rattle.fault.specs.declared.Fault.{Fault}
use Rattle.fault.specs.declared.Reason.TheVariants.{Tag}
use Rattle.line.specs.AnswerLine as answer
use Rattle.line.specs.CallLine as call
use Rattle.line.specs.CertLine as cert
use Rattle.line.specs.ChargeLine as charge
use Rattle.line.specs.CommittedLine as committed
use Rattle.line.specs.Forms as forms
use Rattle.line.specs.Forms.{Form}
use Rattle.line.specs.Lines as lines
use Rattle.line.specs.Lines.{called, ordered, answered, certified, marked, printed, charged}
use Rattle.line.specs.OrderLine as order
use Rattle.line.specs.SheetLine as sheet
use Rattle.line.specs.declared.kind.Kind.{Kind}
use Rattle.line.specs.declared.pit.Pit.{Pit}
use Rattle.seal.specs.Meaning.{Meaning}

-- a tag, whose it is said to be, what it vouches for, and where it counts as wrong
pub record Voucher : Type 0 where
  pub party : ℕ
  pub text : List ℕ
  pub tag : List ℕ
  pub offset : ℕ

-- the tag of a line that begins at an offset vouches for its text
abbrev pub own : {M : Type 0} → Form M → ℕ → M → Voucher
own form at m = record { party = form.sender m; text = forms.text form m; tag = form.tag m; offset = at }

-- a CALL has one tag
abbrev pub call_vouchers : ℕ → call.Model → List Voucher
call_vouchers at m = own call.form at m ∷ []

-- an ORDER's own tag, then its CALL's
abbrev pub order_vouchers : ℕ → order.Model → List Voucher
order_vouchers at m = own order.form at m ∷ call_vouchers (at + order.call_at) m.call

-- a CHARGE's own tag, then its ORDERs' in turn
abbrev pub charge_vouchers : charge.Model → List Voucher
charge_vouchers m =
    own charge.form 0 m ∷ (order_vouchers charge.first_at m.first ++ order_vouchers charge.second_at m.second)

-- an ANSWER has one tag
abbrev pub answer_vouchers : ℕ → answer.Model → List Voucher
answer_vouchers at m = own answer.form at m ∷ []

-- so many entries, the first of them entry i: a box's tag is that of the ANSWER that it gave
abbrev pub entry_vouchers : cert.Model → ℕ → ℕ → List Voucher
entry_vouchers m i zero = []
entry_vouchers m i (suc n) = answer_vouchers (cert.entry_at i) (cert.entry_answer m i) ++ entry_vouchers m (i + 1) n

-- a CERT's own tag, then its entries'
abbrev pub cert_vouchers : cert.Model → List Voucher
cert_vouchers m = own cert.form 0 m ∷ entry_vouchers m 0 m.count

-- the vouchers of a line, in the order in which they are checked
abbrev pub vouchers : lines.Model → List Voucher
vouchers (called m) = call_vouchers 0 m
vouchers (ordered m) = order_vouchers 0 m
vouchers (answered m) = answer_vouchers 0 m
vouchers (certified m) = cert_vouchers m
vouchers (marked m) = own committed.form 0 m ∷ []
vouchers (printed m) = own sheet.form 0 m ∷ []
vouchers (charged m) = charge_vouchers m

-- the seal accepts a voucher
abbrev pub admits : Meaning → Voucher → Bool
admits seal v = seal.accepts v.party v.text v.tag

-- 9: the first voucher that the seal does not accept is at fault
abbrev pub admitted : Meaning → List Voucher → Result (Unit {0}) Fault
admitted seal [] = Ok tt
admitted seal (v ∷ vs) = do
  check (admits seal v) Tag v.offset
  admitted seal vs

-- what the bytes are to a machine of this pit that takes these kinds and asks this seal: checks 3 to 9
abbrev pub heard : Pit → List Kind → Meaning → List ℕ → Result lines.Model Fault
heard pit taken seal bytes = do
  m ← lines.read pit taken bytes
  admitted seal (vouchers m)
  Ok m
