-- What a line of any kind that reads tells.
use Rattle.std.proofs.Common.{◌≡◌, ℕ, ◌^◌, ◌<◌, true, cond, eqb, List, [], ◌∷◌, length, get_or, Some, None, Option, sym, refl, ap, ◌∙◌, subst, ⊎_elim, arith, Ok}
use Rattle.std.proofs.lemmas.Bool.{and_parts, eqb-true, cases_Bool}
use Rattle.std.specs.Option.{ok_or}
use Rattle.fault.specs.Checks.{check, fault_at, ◌>>=◌, ◌>>◌}
use Rattle.fault.specs.declared.Reason.TheVariants as reason
use Rattle.fault.specs.declared.Reason.TheVariants.{LineSize}
use Rattle.line.specs.Laws.{Bytes, Shows}
use Rattle.line.specs.lemmas.FormsKept.{told_size, told_small, read_passes}
use Rattle.line.specs.Forms.{Form, read, shaped}
use Rattle.line.specs.lemmas.Shows.{call_shows, order_shows, answer_shows, cert_shows, committed_shows, sheet_shows, charge_shows}
use Rattle.line.specs.lemmas.Checked.{bind_ok, check_ok, ok_not_err, ok_same}
use Rattle.line.specs.AnswerLine as answer
use Rattle.line.specs.CallLine as call
use Rattle.line.specs.CertLine as cert
use Rattle.line.specs.ChargeLine as charge
use Rattle.line.specs.CommittedLine as committed
use Rattle.line.specs.Kinds.{kind_number, first_named, all_kinds, kind_named, numbered, takes, outer_kind}
use Rattle.line.specs.Layout.{number_at}
use Rattle.line.specs.Lines as lines
use Rattle.line.specs.Lines.{called, ordered, answered, certified, marked, printed, charged}
use Rattle.line.specs.OrderLine as order
use Rattle.line.specs.Rules.{whole}
use Rattle.line.specs.SheetLine as sheet
use Rattle.line.specs.declared.kind.Kind.{Kind}
use Rattle.line.specs.declared.kind.Kind.TheVariants.{Call, Order, Answer, Cert, Committed, Sheet, Charge}
use Rattle.line.specs.declared.pit.Pit.{Pit}

named_number : (n : ℕ) (ks : List Kind) (k : Kind) → first_named n ks ≡ Some k → n ≡ kind_number k
named_number n [] k e = let z : ◌≡◌ {A = ℕ} 0 1 = cc in absurd (omega arith)
named_number n (x ∷ xs) k e =
    ⊎_elim
    (λ same. let x_is : Some x ≡ Some k = ap (λ b. cond b (Some x) (first_named n xs)) (sym same) ∙ e in
    let x_is' : x ≡ k = cc in eqb-true n (kind_number x) same ∙ ap kind_number x_is')
    (λ other. named_number n xs k (ap (λ b. cond b (Some x) (first_named n xs)) (sym other) ∙ e))
    (cases_Bool (eqb n (kind_number x)))

named_kind : (o : Option Kind) (k : Kind) → ok_or o (fault_at reason.Kind 0) ≡ Ok k → o ≡ Some k
named_kind None k e = absurd (ok_not_err k _ (sym e))
named_kind (Some x) k e = ap Some (ok_same x k e)

-- checks 3 and 4 have passed, and the kind's own checks too
pub record LineGood (pit : Pit) (bs : List ℕ) (m : lines.Model) : Type 0 where
  pub tells : whole bs ≡ true
  pub kind : Kind
  pub named : number_at 2 2 bs ≡ kind_number kind
  pub reads : lines.read_as pit bs kind ≡ Ok m

pub line_good : (pit : Pit) (t : List Kind) (bs : List ℕ) (m : lines.Model) → lines.read pit t bs ≡ Ok m → LineGood pit bs m
line_good pit t bs m e =
    let n = number_at 2 2 bs in
    let a = bind_ok (outer_kind t bs) (λ k. lines.read_as pit bs k) m e in
    let b = check_ok (whole bs) LineSize 0 (numbered n >>= (λ k. check (takes t k) reason.Kind 0 >> Ok k)) a.0 a.1 in
    let c = bind_ok (numbered n) (λ k. check (takes t k) reason.Kind 0 >> Ok k) a.0 b.1 in
    let d = check_ok (takes t c.0) reason.Kind 0 (Ok c.0) a.0 c.2 in
    record {
      tells = b.0;
      kind = a.0;
      named = named_number n all_kinds a.0 (named_kind (kind_named n) a.0 (c.1 ∙ d.1));
      reads = a.2;
    }

module _ (pit : Pit) (bs : List ℕ) (bytes : Bytes bs) (w : whole bs ≡ true) where
  little : length bs < 256 ^ 2
  little = let t = told_size bs w in told_small bs bytes t.0 t.1

  shaped_as : {M : Type 0} (form : Form M) (shows : Shows form) (says : M → lines.Model) (m : lines.Model)
      → ((x : M) → lines.shaped (says x) ≡ shaped form x) → read form pit 0 bs >>= (λ x. Ok (says x)) ≡ Ok m → lines.shaped m ≡ true
  shaped_as form shows says m same e =
      let a = bind_ok (read form pit 0 bs) (λ x. Ok (says x)) m e in
      let p = read_passes form shows pit 0 bs a.0 little a.1 in
      subst (λ x. lines.shaped x ≡ true) (ok_same _ _ a.2) (same a.0 ∙ (and_parts (shaped form a.0) _ p).0)

  read_as_shaped : (k : Kind) (m : lines.Model) → lines.read_as pit bs k ≡ Ok m → lines.shaped m ≡ true
  read_as_shaped Call m e = shaped_as call.form call_shows called m (λ x. refl) e
  read_as_shaped Order m e = shaped_as order.form order_shows ordered m (λ x. refl) e
  read_as_shaped Answer m e = shaped_as answer.form answer_shows answered m (λ x. refl) e
  read_as_shaped Cert m e = shaped_as cert.form cert_shows certified m (λ x. refl) e
  read_as_shaped Committed m e = shaped_as committed.form committed_shows marked m (λ x. refl) e
  read_as_shaped Sheet m e = shaped_as sheet.form sheet_shows printed m (λ x. refl) e
  read_as_shaped Charge m e = shaped_as charge.form charge_shows charged m (λ x. refl) e

-- the parts of a line that reads have their widths
pub line_shaped : (pit : Pit) (t : List Kind) (bs : List ℕ) (m : lines.Model) → ((i : ℕ) → get_or bs i 0 < 256) → lines.read pit t bs ≡ Ok m → lines.shaped m ≡ true
line_shaped pit t bs m bytes e = let g = line_good pit t bs m e in read_as_shaped pit bs bytes g.tells g.kind m g.reads

shaped_text : (m : lines.Model) → lines.shaped m ≡ true → lines.text_shaped m ≡ true
shaped_text (called m) s = (and_parts _ _ s).0
shaped_text (ordered m) s = (and_parts (order.text_shaped m) _ s).0
shaped_text (answered m) s = (and_parts (answer.text_shaped m) _ s).0
shaped_text (certified m) s = (and_parts (cert.text_shaped m) _ s).0
shaped_text (marked m) s = (and_parts _ _ s).0
shaped_text (printed m) s = (and_parts (sheet.text_shaped m) _ s).0
shaped_text (charged m) s = (and_parts (charge.text_shaped m) _ s).0

pub line_text_shaped : (pit : Pit) (t : List Kind) (bs : List ℕ) (m : lines.Model) → ((i : ℕ) → get_or bs i 0 < 256) → lines.read pit t bs ≡ Ok m → lines.text_shaped m ≡ true
line_text_shaped pit t bs m bytes e = shaped_text m (line_shaped pit t bs m bytes e)
