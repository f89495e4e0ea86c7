-- The laws of a line of any kind, from the laws of its kind.
use Rattle.std.proofs.Common.{◌≡◌, ℕ, ◌^◌, ◌<◌, arith, Bool, true, ◌&&◌, eqb, List, ◌++◌, length, Some, sym, refl, ap, ◌∙◌, subst, Ok}
use Rattle.std.proofs.lemmas.Bool.{eqb-true, and_parts, and_from, eq-eqb}
use Rattle.fault.specs.Checks.{◌>>=◌}
use Rattle.line.proofs.Outer.{line_good}
use Rattle.line.specs.AnswerLine as answer
use Rattle.line.specs.Laws.{Bytes, Held, Shows}
use Rattle.line.specs.CallLine as call
use Rattle.line.specs.CertLine as cert
use Rattle.line.specs.ChargeLine as charge
use Rattle.line.specs.CommittedLine as committed
use Rattle.line.specs.Forms as forms
use Rattle.line.specs.Forms.{Form}
use Rattle.line.specs.lemmas.FormsKept.{comes_back, is_written, enters, reads, read_passes}
use Rattle.line.specs.Kinds.{kind_number, kind_named, takes}
use Rattle.line.specs.Layout.{number_at}
use Rattle.line.specs.Lines as lines
use Rattle.line.specs.Lines.{passes, called, ordered, answered, certified, marked, printed, charged}
use Rattle.line.specs.OrderLine as order
use Rattle.line.specs.Rules.{whole}
use Rattle.line.specs.SheetLine as sheet
use Rattle.line.specs.lemmas.Shows.{call_shows, order_shows, answer_shows, cert_shows, committed_shows, sheet_shows, charge_shows}
use Rattle.line.specs.lemmas.Checked.{entered_good, ok_same, bind_ok}
use Rattle.line.specs.declared.kind.Kind.{Kind}
use Rattle.line.specs.declared.kind.Kind.TheVariants.{Call, Order, Answer, Cert, Committed, Sheet, Charge}
use Rattle.line.specs.declared.pit.Pit.{Pit}
use Rattle.line_laws.specs.Laws.{everything, retagged}

-- a whole line of a kind is read as that kind
read_outer : {M : Type 0} (pit : Pit) (form : Form M) (says : M → lines.Model) (k : Kind) (bs : List ℕ) (m : M)
    → kind_named form.kind ≡ Some k → takes everything k ≡ true
    → lines.read_as pit bs k ≡ forms.read form pit 0 bs >>= (λ x. Ok (says x))
    → forms.read_inside form pit 0 bs ≡ Ok m → lines.read pit everything bs ≡ Ok (says m)
read_outer pit form says k bs m named taken as_kind e =
    let g = entered_good 0 bs (λ n. eqb n form.kind) (forms.read form pit 0 bs) m e in
    rw (g.0.tells, eqb-true _ _ g.0.taken, named) (rw taken (as_kind ∙ ap (λ v. v >>= (λ x. Ok (says x))) g.1))

module _ (pit : Pit) (held : Held pit) where
  back_by : {M : Type 0} (form : Form M) (shows : Shows form) (says : M → lines.Model) (k : Kind) (m : M)
      → kind_named form.kind ≡ Some k → takes everything k ≡ true
      → ((bs : List ℕ) → lines.read_as pit bs k ≡ forms.read form pit 0 bs >>= (λ x. Ok (says x)))
      → forms.passes form pit m ≡ true → lines.read pit everything (forms.line form m) ≡ Ok (says m)
  back_by form shows says k m named taken as_kind h =
      let bs = forms.line form m in
      read_outer pit form says k bs m named taken (as_kind bs) (comes_back form shows pit 0 m held h)

  pub comes_back_line : (m : lines.Model) → passes pit m ≡ true → lines.read pit everything (lines.line m) ≡ Ok m
  comes_back_line (called m) h = back_by call.form call_shows called Call m refl refl (λ bs. refl) h
  comes_back_line (ordered m) h = back_by order.form order_shows ordered Order m refl refl (λ bs. refl) h
  comes_back_line (answered m) h = back_by answer.form answer_shows answered Answer m refl refl (λ bs. refl) h
  comes_back_line (certified m) h = back_by cert.form cert_shows certified Cert m refl refl (λ bs. refl) h
  comes_back_line (marked m) h = back_by committed.form committed_shows marked Committed m refl refl (λ bs. refl) h
  comes_back_line (printed m) h = back_by sheet.form sheet_shows printed Sheet m refl refl (λ bs. refl) h
  comes_back_line (charged m) h = back_by charge.form charge_shows charged Charge m refl refl (λ bs. refl) h

module _ (pit : Pit) (bs : List ℕ) (h : Bytes bs) (w : whole bs ≡ true) where
  -- what is known of a line that reads
  Written : lines.Model → Type 0
  Written m = (lines.line m ≡ bs) × (passes pit m ≡ true)

  written_by : {M : Type 0} (form : Form M) (shows : Shows form) (says : M → lines.Model) (m : lines.Model)
      → ((x : M) → lines.line (says x) ≡ forms.line form x) → ((x : M) → passes pit (says x) ≡ forms.passes form pit x)
      → number_at 2 2 bs ≡ form.kind → forms.read form pit 0 bs >>= (λ x. Ok (says x)) ≡ Ok m → Written m
  unfolding Written
  written_by form shows says m lined passing named e =
      let a = bind_ok (forms.read form pit 0 bs) (λ x. Ok (says x)) m e in
      let g = is_written form shows pit 0 bs a.0 h (enters form.kind 0 bs (forms.read form pit 0 bs) w named ∙ a.1) in
      subst (λ x. (lines.line x ≡ bs) × (passes pit x ≡ true)) (ok_same _ _ a.2) (lined a.0 ∙ g.0, passing a.0 ∙ g.1)

  written_as : (k : Kind) (m : lines.Model) → number_at 2 2 bs ≡ kind_number k → lines.read_as pit bs k ≡ Ok m → Written m
  written_as Call m n e = written_by call.form call_shows called m (λ x. refl) (λ x. refl) n e
  written_as Order m n e = written_by order.form order_shows ordered m (λ x. refl) (λ x. refl) n e
  written_as Answer m n e = written_by answer.form answer_shows answered m (λ x. refl) (λ x. refl) n e
  written_as Cert m n e = written_by cert.form cert_shows certified m (λ x. refl) (λ x. refl) n e
  written_as Committed m n e = written_by committed.form committed_shows marked m (λ x. refl) (λ x. refl) n e
  written_as Sheet m n e = written_by sheet.form sheet_shows printed m (λ x. refl) (λ x. refl) n e
  written_as Charge m n e = written_by charge.form charge_shows charged m (λ x. refl) (λ x. refl) n e

pub is_written_line : (pit : Pit) (t : List Kind) (bs : List ℕ) (m : lines.Model) → Bytes bs → lines.read pit t bs ≡ Ok m
    → (lines.line m ≡ bs) × (passes pit m ≡ true)
unfolding Written
is_written_line pit t bs m h e = let g = line_good pit t bs m e in written_as pit bs h g.tells g.kind m g.named g.reads

module _ (pit : Pit) (bs : List ℕ) where
  passes_by : {M : Type 0} (form : Form M) (shows : Shows form) (says : M → lines.Model) (m : lines.Model)
      → ((x : M) → passes pit (says x) ≡ forms.passes form pit x) → forms.size_in form pit < 256 ^ 2
      → (forms.read form pit 0 bs >>= (λ x. Ok (says x))) ≡ Ok m → passes pit m ≡ true
  passes_by form shows says m passing little e =
      let a = bind_ok (forms.read form pit 0 bs) (λ x. Ok (says x)) m e in
      let short : length bs < 256 ^ 2 = rw (reads form shows pit 0 bs a.0 a.1).full little in
      subst (λ x. passes pit x ≡ true) (ok_same _ _ a.2) (passing a.0 ∙ read_passes form shows pit 0 bs a.0 short a.1)

  passes_as : (k : Kind) (m : lines.Model) → Held pit → lines.read_as pit bs k ≡ Ok m → passes pit m ≡ true
  passes_as Call m held e = passes_by call.form call_shows called m (λ x. refl) (omega arith) e
  passes_as Order m held e = passes_by order.form order_shows ordered m (λ x. refl) (omega arith) e
  passes_as Answer m held e = passes_by answer.form answer_shows answered m (λ x. refl) (omega arith) e
  passes_as Cert m held e = passes_by cert.form cert_shows certified m (λ x. refl) (omega (arith, held.0)) e
  passes_as Committed m held e = passes_by committed.form committed_shows marked m (λ x. refl) (omega arith) e
  passes_as Sheet m held e = passes_by sheet.form sheet_shows printed m (λ x. refl) (omega arith) e
  passes_as Charge m held e = passes_by charge.form charge_shows charged m (λ x. refl) (omega arith) e

-- what a pit reads whose numbers its memory can hold passes, whatever the elements
pub reads_pass : (pit : Pit) (t : List Kind) (bs : List ℕ) (m : lines.Model) → Held pit → lines.read pit t bs ≡ Ok m → passes pit m ≡ true
reads_pass pit t bs m held e = let g = line_good pit t bs m e in passes_as pit bs g.kind m held g.reads

-- a record with another tag of the right width passes as well
retag : (a b w r : Bool) → ((a && b) && r) ≡ true → w ≡ true → ((a && w) && r) ≡ true
retag a b w r h e =
    let p = and_parts (a && b) r h in
    and_from (a && w) r (and_from a w (and_parts a b p.0).0 e) p.1

module _ (pit : Pit) (t : List ℕ) (long : length t ≡ 32) where
  wide : eqb (length t) 32 ≡ true
  wide = eq-eqb _ _ long

  pub retagged_passes : (m : lines.Model) → passes pit m ≡ true → passes pit (retagged t m) ≡ true
  retagged_passes (called m) h = retag (call.text_shaped m) (eqb (length m.tag) 32) (eqb (length t) 32) _ h wide
  retagged_passes (ordered m) h = retag (order.text_shaped m) (eqb (length m.tag) 32) (eqb (length t) 32) _ h wide
  retagged_passes (answered m) h = retag (answer.text_shaped m) (eqb (length m.tag) 32) (eqb (length t) 32) _ h wide
  retagged_passes (certified m) h = retag (cert.text_shaped m) (eqb (length m.tag) 32) (eqb (length t) 32) _ h wide
  retagged_passes (marked m) h = retag (committed.text_shaped m) (eqb (length m.tag) 32) (eqb (length t) 32) _ h wide
  retagged_passes (printed m) h = retag (sheet.text_shaped m) (eqb (length m.tag) 32) (eqb (length t) 32) _ h wide
  retagged_passes (charged m) h = retag (charge.text_shaped m) (eqb (length m.tag) 32) (eqb (length t) 32) _ h wide

-- a tag is no part of the text
retagged_line : (t : List ℕ) (m : lines.Model) → lines.line (retagged t m) ≡ lines.text m ++ t
unfolding forms.text
retagged_line t (called m) = refl
retagged_line t (ordered m) = refl
retagged_line t (answered m) = refl
retagged_line t (certified m) = refl
retagged_line t (marked m) = refl
retagged_line t (printed m) = refl
retagged_line t (charged m) = refl

tag_wide : (a b r : Bool) → ((a && b) && r) ≡ true → b ≡ true
tag_wide a b r h = (and_parts a b (and_parts (a && b) r h).0).1

passing_tag : (pit : Pit) (m : lines.Model) → passes pit m ≡ true → length (lines.tag m) ≡ 32
passing_tag pit (called m) h = eqb-true _ _ (tag_wide (call.text_shaped m) (eqb (length m.tag) 32) _ h)
passing_tag pit (ordered m) h = eqb-true _ _ (tag_wide (order.text_shaped m) (eqb (length m.tag) 32) _ h)
passing_tag pit (answered m) h = eqb-true _ _ (tag_wide (answer.text_shaped m) (eqb (length m.tag) 32) _ h)
passing_tag pit (certified m) h = eqb-true _ _ (tag_wide (cert.text_shaped m) (eqb (length m.tag) 32) _ h)
passing_tag pit (marked m) h = eqb-true _ _ (tag_wide (committed.text_shaped m) (eqb (length m.tag) 32) _ h)
passing_tag pit (printed m) h = eqb-true _ _ (tag_wide (sheet.text_shaped m) (eqb (length m.tag) 32) _ h)
passing_tag pit (charged m) h = eqb-true _ _ (tag_wide (charge.text_shaped m) (eqb (length m.tag) 32) _ h)

pub text_tells : (pit : Pit) (m n : lines.Model) → Held pit → passes pit m ≡ true → passes pit n ≡ true → lines.text m ≡ lines.text n → m ≡ retagged (lines.tag m) n
text_tells pit m n f h i e =
    let t = lines.tag m in
    let other = retagged t n in
    let same : lines.line m ≡ lines.line other = ap (λ x. x ++ t) e ∙ sym (retagged_line t n) in
    ok_same m other
    (sym (comes_back_line pit f m h) ∙ ap (lines.read pit everything) same ∙ comes_back_line pit f other (retagged_passes pit t (passing_tag pit m h) n i))
