-- Lemmas, for the checker alone: the laws of every kind of lines, from what each kind shows of its form.
use Rattle.std.proofs.Common.{◌≡◌, ℕ, ◌^◌, ◌<◌, ◌≤◌, Bool, true, eqb, leb, List, [], ◌++◌, length, take, drop, sym, refl, ap, ◌∙◌, subst, arith, length-append, length-drop}
use Rattle.std.proofs.lemmas.List.{drop_at, take_all, take-append-drop}
use Rattle.std.proofs.lemmas.Bool.{and_parts, and_from, eqb-true, eq-eqb, le-leb, leb-true}
use Rattle.fault.specs.Checks.{◌>>◌}
use Rattle.fault.specs.declared.Fault.{Fault}
use Rattle.line.specs.Laws.{Bytes, ComesBack, EndsAtTag, Held, IsWritten, Shows}
use Rattle.line.specs.lemmas.Bytes.{number_below, part_long}
use Rattle.line.specs.Forms.{Form, all_parts, tag_at, size_of, all_values, text, line, shaped, fields, size_in, fields_in, read, read_inside, passes}
use Rattle.line.specs.Layout.{part, number_at}
use Rattle.line.specs.Parts.{Values, followed_by, values_at}
use Rattle.line.specs.lemmas.PartsKept.{values_long, values_back, values_forth, end_after}
use Rattle.line.specs.Rules.{whole, entered, sized, ruled}
use Rattle.line.specs.lemmas.Checked.{entered_good, passed_good, then_ok, ok_same}
use Rattle.line.specs.declared.pit.Pit.{Pit}
use Rattle.std.specs.Prelude.{Ok, Result}

-- a line whose own checks hold goes on to what comes then
goes_on : {A : Type 0} (size at : ℕ) (bs : List ℕ) (pit : Pit) (seen : ℕ) (may ranged : Bool) (w : Result A Fault)
    → length bs ≡ size → seen ≡ pit.view → may ≡ true → ranged ≡ true → (sized size at bs >> (ruled pit at seen may ranged >> w)) ≡ w
goes_on size at bs pit seen may ranged w a b c d = rw (eq-eqb _ _ a, eq-eqb _ _ b, c, d)

-- and so does a whole line of the kind that stands here
pub enters : {A : Type 0} (k at : ℕ) (bs : List ℕ) (w : Result A Fault) → whole bs ≡ true → number_at 2 2 bs ≡ k → (entered at bs (λ n. eqb n k) >> w) ≡ w
enters k at bs w a b = rw (a, eq-eqb _ _ b)

whole_by : (bs : List ℕ) → 10 ≤ length bs → number_at 2 0 bs ≡ length bs → whole bs ≡ true
whole_by bs room told = and_from (leb 10 (length bs)) (eqb (number_at 2 0 bs) (length bs)) (le-leb 10 (length bs) room) (eq-eqb _ _ told)

-- the size field tells how many bytes there are, and it has but two
pub told_size : (bs : List ℕ) → whole bs ≡ true → (10 ≤ length bs) × (number_at 2 0 bs ≡ length bs)
told_size bs w = let p = and_parts (leb 10 (length bs)) _ w in (leb-true 10 (length bs) p.0, eqb-true _ _ p.1)

pub told_small : (bs : List ℕ) → Bytes bs → 10 ≤ length bs → number_at 2 0 bs ≡ length bs → length bs < 256 ^ 2
told_small bs h room told = rw (← told) (number_below 0 2 bs h (omega arith))

unit_good : (v : Result (Unit {0}) Fault) → (a : Unit {0}) × (v ≡ Ok a) → v ≡ Ok tt
unit_good v p = p.1

same_values : {A : Type 0} (a b c d e f g i : ℕ) (x y : A) → a ≡ e → b ≡ f → c ≡ g → d ≡ i → x ≡ y
    → ◌≡◌ {A = ℕ × (ℕ × (ℕ × (ℕ × A)))} (a, (b, (c, (d, x)))) (e, (f, (g, (i, y))))
same_values a b c d e f g i x y p q r s t = rw (p, q, r, s, t)

module _ {M : Type 0} (form : Form M) (shows : Shows form) where
  -- a text whose parts have their widths ends where its tag begins
  pub ends_at_tag : EndsAtTag form
  unfolding text
  ends_at_tag m s = values_long (form.count m) (all_parts form) (all_values form m) [] 0 refl (tt, (tt, (tt, (tt, shows.wide m s))))

  pub line_long : (m : M) → shaped form m ≡ true → length (line form m) ≡ size_of form (form.count m)
  line_long m s =
      let p = and_parts (form.text_shaped m) _ s in
      length-append (text form m) (form.tag m) ∙ rw (ends_at_tag m p.0, eqb-true (length (form.tag m)) 32 p.1)

  -- the tests that a record passes
  pub record Tests (pit : Pit) (m : M) : Type 0 where
    pub shape : shaped form m ≡ true
    pub viewed : form.view m ≡ pit.view
    pub sent : form.may_send pit (form.sender m) ≡ true
    pub within : form.in_range pit m ≡ true
    pub inner : form.inside_passes pit m ≡ true

  pub tests : (pit : Pit) (m : M) → passes form pit m ≡ true → Tests pit m
  tests pit m h =
      let a = and_parts (shaped form m) _ h in
      let b = and_parts (eqb (form.view m) pit.view) _ a.1 in
      let c = and_parts (form.may_send pit (form.sender m)) _ b.1 in
      let d = and_parts (form.in_range pit m) _ c.1 in
      record { shape = a.0; viewed = eqb-true _ _ b.0; sent = c.0; within = d.0; inner = d.1 }

  tested : (pit : Pit) (m : M) → Tests pit m → passes form pit m ≡ true
  tested pit m t = rw (t.shape, eq-eqb _ _ t.viewed, t.sent, t.within, t.inner)

  -- the values of a line are read from it again
  line_values : (pit : Pit) (m : M) → Held pit → Tests pit m → values_at (form.count m) (all_parts form) 0 (line form m) ≡ all_values form m
  unfolding text
  line_values pit m held t =
      let s = (and_parts (form.text_shaped m) _ t.shape).0 in
      values_back (form.count m) (all_parts form) (all_values form m) [] (form.tag m) 0 refl (tt, (tt, (tt, (tt, shows.wide m s))))
      (shows.size_fits m s, (shows.kind_fits, (shows.sender_fits pit (form.sender m) held t.sent, (rw t.viewed held.1, shows.small pit m held t.within))))

  line_tag : (m : M) → shaped form m ≡ true → part (tag_at form (form.count m)) 32 (line form m) ≡ form.tag m
  line_tag m s =
      let p = and_parts (form.text_shaped m) _ s in
      ap (λ bs. take 32 bs) (drop_at (text form m) (form.tag m) (tag_at form (form.count m)) (ends_at_tag m p.0))
      ∙ take_all 32 (form.tag m) (let e = eqb-true (length (form.tag m)) 32 p.1 in omega arith)

  same_record : (a b s v : ℕ) (xs vs : Values form.parts) (u t : List ℕ) → a ≡ s → b ≡ v → xs ≡ vs → u ≡ t → form.record_of a b xs u ≡ form.record_of s v vs t
  same_record a b s v xs vs u t e f g h = rw (e, f, g, h)

  pub fields_back : (pit : Pit) (m : M) → Held pit → passes form pit m ≡ true → fields_in form pit (line form m) ≡ m
  fields_back pit m held h =
      let t = tests pit m h in
      let n = form.count m in
      let bs = line form m in
      let vs = line_values pit m held t in
      ap (λ k. fields form k bs) (sym (shows.counted pit m t.within))
      ∙ same_record (number_at 2 4 bs) (number_at 4 6 bs) (form.sender m) (form.view m) (values_at n form.parts 10 bs) (form.values m) (part (tag_at form n) 32 bs) (form.tag m)
      (ap (λ x. x.1.1.0) vs) (ap (λ x. x.1.1.1.0) vs) (ap (λ x. x.1.1.1.1) vs) (line_tag m t.shape)
      ∙ shows.says pit m held t.inner

  -- a record that passes, written and read, comes back
  pub read_back : (pit : Pit) (at : ℕ) (m : M) → Held pit → passes form pit m ≡ true → read form pit at (line form m) ≡ Ok m
  read_back pit at m held h =
      let t = tests pit m h in
      let bs = line form m in
      let vs = line_values pit m held t in
      let same = fields_back pit m held h in
      let full : length bs ≡ size_in form pit = line_long m t.shape ∙ ap (size_of form) (shows.counted pit m t.within) in
      let sent : form.may_send pit (number_at 2 4 bs) ≡ true = ap (form.may_send pit) (ap (λ x. x.1.1.0) vs) ∙ t.sent in
      let viewed : number_at 4 6 bs ≡ pit.view = ap (λ x. x.1.1.1.0) vs ∙ t.viewed in
      let within : form.in_range pit (fields_in form pit bs) ≡ true = ap (form.in_range pit) same ∙ t.within in
      goes_on (size_in form pit) at bs pit (number_at 4 6 bs) (form.may_send pit (number_at 2 4 bs)) (form.in_range pit (fields_in form pit bs)) (form.inside pit at bs >> Ok (fields_in form pit bs)) full viewed sent within
      ∙ ap (λ v. v >> Ok (fields_in form pit bs)) (shows.inside_back pit at m bs held t.inner (ap (λ x. x.1.1.1.1) vs)) ∙ ap Ok same

  pub comes_back : ComesBack form
  comes_back pit at m held h =
      let t = tests pit m h in
      let bs = line form m in
      let vs = line_values pit m held t in
      let told : number_at 2 0 bs ≡ length bs = ap (λ x. x.0) vs ∙ sym (line_long m t.shape) in
      let long : 10 ≤ length bs = let e = line_long m t.shape in let past = end_after (form.count m) 10 form.parts in omega arith in
      enters form.kind at bs (read form pit at bs) (whole_by bs long told) (ap (λ x. x.1.0) vs) ∙ read_back pit at m held h

  -- what reads says what its bytes say, and its record passes
  pub record Reads (pit : Pit) (at : ℕ) (bs : List ℕ) (m : M) : Type 0 where
    pub full : length bs ≡ size_in form pit
    pub viewed : number_at 4 6 bs ≡ pit.view
    pub sent : form.may_send pit (number_at 2 4 bs) ≡ true
    pub within : form.in_range pit (fields_in form pit bs) ≡ true
    pub inner : form.inside pit at bs ≡ Ok tt
    pub says : fields_in form pit bs ≡ m

  pub reads : (pit : Pit) (at : ℕ) (bs : List ℕ) (m : M) → read form pit at bs ≡ Ok m → Reads pit at bs m
  reads pit at bs m e =
      let inner = form.inside pit at bs in
      let n = fields_in form pit bs in
      let p = passed_good (size_in form pit) at bs pit (number_at 4 6 bs) (form.may_send pit (number_at 2 4 bs)) (form.in_range pit n) (inner >> Ok n) m e in
      let q = then_ok inner (Ok n) m p.1 in
      record { full = p.0.full; viewed = p.0.viewed; sent = p.0.sent; within = p.0.within; inner = unit_good inner q.0; says = ok_same n m q.1 }

  pub read_passes : (pit : Pit) (at : ℕ) (bs : List ℕ) (m : M) → length bs < 256 ^ 2 → read form pit at bs ≡ Ok m → passes form pit m ≡ true
  read_passes pit at bs m little e =
      let r = reads pit at bs m e in
      let n = fields_in form pit bs in
      let count = form.count_in pit in
      let sender = number_at 2 4 bs in
      let view = number_at 4 6 bs in
      let vs = values_at count form.parts 10 bs in
      let tag = part (tag_at form count) 32 bs in
      let past = end_after count 10 form.parts in
      let shape : form.text_shaped n ≡ true = shows.shaped_said pit at bs r.full little r.within r.inner in
      let wide : length (form.tag n) ≡ 32 = ap length (shows.tag_said sender view vs tag) ∙ part_long (tag_at form count) 32 bs (let f = r.full in omega arith) in
      subst (λ x. passes form pit x ≡ true) r.says (tested pit n (record {
        shape = and_from (form.text_shaped n) _ shape (eq-eqb _ _ wide);
        viewed = shows.view_said sender view vs tag ∙ r.viewed;
        sent = ap (form.may_send pit) (shows.sender_said sender view vs tag) ∙ r.sent;
        within = r.within;
        inner = shows.inside_said pit at bs r.full r.inner;
      }))

  -- a line that reads is the line that its record writes
  pub read_whole : (pit : Pit) (at : ℕ) (bs : List ℕ) (m : M) → Bytes bs → number_at 2 0 bs ≡ length bs → number_at 2 2 bs ≡ form.kind
      → read form pit at bs ≡ Ok m → line form m ≡ bs
  unfolding text
  read_whole pit at bs m h told named e =
      let r = reads pit at bs m e in
      let n = fields_in form pit bs in
      let count = form.count_in pit in
      let sender = number_at 2 4 bs in
      let view = number_at 4 6 bs in
      let vs = values_at count form.parts 10 bs in
      let tag = part (tag_at form count) 32 bs in
      let counted = shows.counted pit n r.within in
      let all = all_parts form in
      let values : all_values form n ≡ values_at count all 0 bs =
      same_values _ _ _ _ _ _ _ _ _ _ (ap (size_of form) counted ∙ sym r.full ∙ sym told) (sym named) (shows.sender_said sender view vs tag) (shows.view_said sender view vs tag) (shows.values_said pit at bs h r.full r.inner) in
      subst (λ x. line form x ≡ bs) r.says
      (ap (λ t. text form n ++ t) (shows.tag_said sender view vs tag)
      ∙ ap (λ x. followed_by [] all x ++ tag) values
      ∙ ap (λ x. x ++ tag) (values_forth count all 0 bs h (let f = r.full in omega arith))
      ∙ ap (λ x. take (tag_at form count) bs ++ x) (take_all 32 (drop (tag_at form count) bs) (let f = r.full in simp length-drop (omega arith)))
      ∙ take-append-drop (tag_at form count) bs)

  pub is_written : IsWritten form
  is_written pit at bs m h e =
      let g = entered_good at bs (λ k. eqb k form.kind) (read form pit at bs) m e in
      let t = told_size bs g.0.tells in
      (read_whole pit at bs m h t.1 (eqb-true _ _ g.0.taken) g.1, read_passes pit at bs m (told_small bs h t.0 t.1) g.1)

  -- of a line inside another that reads: what its bytes say passes, and it is the line of that
  pub inner_passes : (pit : Pit) (at : ℕ) (bs : List ℕ) (m : M) → size_in form pit < 256 ^ 2 → read_inside form pit at bs ≡ Ok m
      → passes form pit (fields_in form pit bs) ≡ true
  inner_passes pit at bs m little e =
      let read_on = (entered_good at bs (λ k. eqb k form.kind) (read form pit at bs) m e).1 in
      let r = reads pit at bs m read_on in
      ap (passes form pit) r.says ∙ read_passes pit at bs m (rw r.full little) read_on

  pub inner_whole : (pit : Pit) (at : ℕ) (bs : List ℕ) (m : M) → Bytes bs → read_inside form pit at bs ≡ Ok m → line form (fields_in form pit bs) ≡ bs
  inner_whole pit at bs m h e =
      let r = reads pit at bs m (entered_good at bs (λ k. eqb k form.kind) (read form pit at bs) m e).1 in
      ap (line form) r.says ∙ (is_written pit at bs m h e).0
