-- What is known of a CALL that the lead heard: a tablet sent it, and its parts have their widths.
use Rattle.std.proofs.lemmas.Grind.{common_steps}
use Rattle.std.proofs.Common.{◌≡◌, ℕ, true, List, sym, refl, ap, ◌∙◌, subst, arith, Ok, Result}
use Rattle.fault.specs.Checks.{refused, ◌>>=◌}
use Rattle.fault.specs.declared.Fault.{Fault}
use Rattle.fault.specs.declared.Reason.TheVariants as reason
use Rattle.line.specs.lemmas.FormsKept.{reads, read_passes}
use Rattle.line.specs.lemmas.Shows.{call_shows}
use Rattle.std.proofs.lemmas.Bool.{and_parts}
use Rattle.line.proofs.Outer.{line_good}
use Rattle.line.specs.lemmas.Checked.{bind_ok, ok_not_err, ok_same}
use Rattle.line.specs.AnswerLine as answer
use Rattle.line.specs.CallLine as call
use Rattle.line.specs.CertLine as cert
use Rattle.line.specs.ChargeLine as charge
use Rattle.line.specs.CommittedLine as committed
use Rattle.line.specs.Lines as lines
use Rattle.line.specs.Lines.{called, ordered, answered, certified, marked, printed, charged}
use Rattle.line.specs.OrderLine as order
use Rattle.line.specs.SetUp.{is_client}
use Rattle.line.specs.SheetLine as sheet
use Rattle.line.specs.declared.kind.Kind.{Kind}
use Rattle.line.specs.declared.kind.Kind.TheVariants.{Call, Order, Answer, Cert, Committed, Sheet, Charge}
use Rattle.line.specs.declared.pit.Pit.{Pit}
use Rattle.seal.specs.Meaning.{Meaning}
use Rattle.lead.specs.Leading.{as_call, hears}

as_call_good : (l : lines.Model) (m : call.Model) → as_call l ≡ Ok m → l ≡ called m
as_call_good (called n) m e = ap called (ok_same n m e)
as_call_good (ordered n) m e = absurd (ok_not_err m _ (sym e))
as_call_good (answered n) m e = absurd (ok_not_err m _ (sym e))
as_call_good (certified n) m e = absurd (ok_not_err m _ (sym e))
as_call_good (marked n) m e = absurd (ok_not_err m _ (sym e))
as_call_good (printed n) m e = absurd (ok_not_err m _ (sym e))
as_call_good (charged n) m e = absurd (ok_not_err m _ (sym e))

module _ (pit : Pit) (bs : List ℕ) where
  -- of all kinds only a CALL is read as one
  other_kind : {A : Type 0} (v : Result A Fault) (make : A → lines.Model) (m : call.Model) → ((a : A) → as_call (make a) ≡ refused reason.Kind 0) → v >>= (λ a. Ok (make a)) ≡ Ok (called m) → ⊥
  other_kind v make m apart e = let a = bind_ok v (λ x. Ok (make x)) (called m) e in ok_not_err m _ (sym (ap as_call (ok_same _ _ a.2)) ∙ apart a.0)

  call_from : (k : Kind) (m : call.Model) → lines.read_as pit bs k ≡ Ok (called m) → call.read pit 0 bs ≡ Ok m
  call_from Call m e = grind (arith, common_steps, bind_ok, ok_same)
  call_from Order m e = absurd (other_kind (order.read pit 0 bs) ordered m (λ n. refl) e)
  call_from Answer m e = absurd (other_kind (answer.read pit 0 bs) answered m (λ n. refl) e)
  call_from Cert m e = absurd (other_kind (cert.read pit 0 bs) certified m (λ n. refl) e)
  call_from Committed m e = absurd (other_kind (committed.read pit 0 bs) marked m (λ n. refl) e)
  call_from Sheet m e = absurd (other_kind (sheet.read pit 0 bs) printed m (λ n. refl) e)
  call_from Charge m e = absurd (other_kind (charge.read pit 0 bs) charged m (λ n. refl) e)

-- checks 3 to 8 passed
pub hears_reads : (pit : Pit) (seal : Meaning) (bs : List ℕ) (room : ℕ) (m : call.Model) → hears pit seal bs room ≡ Ok m → call.read pit 0 bs ≡ Ok m
hears_reads pit seal bs room m e = grind (arith, common_steps, as_call_good, line_good, call_from)

-- a tablet sent it, and its parts have their widths
pub record Sound (m : call.Model) : Type 0 where
  pub client : is_client m.sender ≡ true
  pub whole : call.shaped m ≡ true

pub hears_sound : (pit : Pit) (seal : Meaning) (bs : List ℕ) (room : ℕ) (m : call.Model) → hears pit seal bs room ≡ Ok m → Sound m
hears_sound pit seal bs room m e =
    let read = hears_reads pit seal bs room m e in
    let r = reads call.form call_shows pit 0 bs m read in
    let full = r.full in
    record {
      client = subst (λ (n : call.Model). is_client n.sender ≡ true) r.says r.sent;
      whole = (and_parts (call.shaped m) _ (read_passes call.form call_shows pit 0 bs m (omega arith) read)).0;
    }
