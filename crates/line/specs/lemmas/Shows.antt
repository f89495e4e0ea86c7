-- Lemmas, for the checker alone: what each kind shows of its form.
use Rattle.std.proofs.Common.{◌≡◌, ℕ, ◌+◌, ◌*◌, ◌%◌, ◌^◌, ◌<◌, ◌≤◌, true, ◌&&◌, eqb, ltb, leb, List, length, refl, sym, ap, ◌∙◌, mod-lt, arith}
use Rattle.std.proofs.lemmas.Bool.{and_parts, and_from, eqb-true, eq-eqb, leb-true, le-leb, ltb-true}
use Rattle.fault.specs.Checks.{◌>>◌}
use Rattle.line.specs.AnswerLine as answer
use Rattle.line.specs.lemmas.Bytes.{bytes_cut, part_long}
use Rattle.line.specs.CallLine as call
use Rattle.line.specs.CertLine as cert
use Rattle.line.specs.ChargeLine as charge
use Rattle.line.specs.CommittedLine as committed
use Rattle.line.specs.Laws.{Held, Shows}
use Rattle.line.specs.lemmas.FormsKept.{inner_passes, inner_whole, fields_back, comes_back, line_long}
use Rattle.line.specs.Layout.{part}
use Rattle.line.specs.OrderLine as order
use Rattle.line.specs.Rules.{in_numbers, in_clients}
use Rattle.line.specs.SetUp.{is_client, is_replica, is_lead, client_party, replicas_of, quorum_of}
use Rattle.line.specs.SheetLine as sheet
use Rattle.line.specs.lemmas.Checked.{then_ok}
use Rattle.line.specs.declared.pit.Pit.{Pit}
use Rattle.std.specs.Prelude.{Ok}

-- the numbers that pass fit their widths
numbers_fit : (n : ℕ) → in_numbers n ≡ true → n < 256 ^ 4
numbers_fit n h = omega (arith, leb-true n 1000000 (and_parts (leb 1 n) (leb n 1000000) h).1)

clients_fit : (n : ℕ) → in_clients n ≡ true → n < 256 ^ 2
clients_fit n h = omega (arith, ltb-true n 16 h)

replica_fits : (pit : Pit) (n : ℕ) → Held pit → is_replica pit n ≡ true → n < 256 ^ 2
replica_fits pit n f h = omega (arith, ltb-true n (3 * pit.f + 1) h, f.0)

client_fits : (pit : Pit) (n : ℕ) → Held pit → is_client n ≡ true → n < 256 ^ 2
client_fits pit n f h = omega (arith, ltb-true n 272 (and_parts (leb 256 n) (ltb n 272) h).1)

lead_fits : (pit : Pit) (n : ℕ) → Held pit → is_lead pit n ≡ true → n < 256 ^ 2
lead_fits pit n f h =
    let small : pit.view % (3 * pit.f + 1) < 3 * pit.f + 1 = mod-lt pit.view (omega arith) in
    omega (arith, eqb-true n (pit.view % (3 * pit.f + 1)) h, f.0)

pub call_shows : Shows call.form
call_shows = record {
  kind_fits = omega arith;
  sender_fits = client_fits;
  size_fits = λ m s. omega arith;
  counted = λ pit m r. refl;
  wide = λ m s. (tt, (eqb-true (length m.body) 16 s, tt));
  small = λ pit m held r. (numbers_fit m.stamp r, (tt, tt));
  says = λ pit m h i. refl;
  inside_back = λ pit at m bs h i vs. refl;
  sender_said = λ s v vs t. refl;
  view_said = λ s v vs t. refl;
  tag_said = λ s v vs t. refl;
  values_said = λ pit at bs h full i. refl;
  shaped_said = λ pit at bs full little r i. eq-eqb _ _ (part_long 14 16 bs (omega arith));
  inside_said = λ pit at bs full i. refl;
}

pub answer_shows : Shows answer.form
answer_shows = record {
  kind_fits = omega arith;
  sender_fits = replica_fits;
  size_fits = λ m s. omega arith;
  counted = λ pit m r. refl;
  wide = λ m s. let p = and_parts (eqb (length m.history) 32) _ s in (tt, (eqb-true _ _ p.0, (tt, (tt, (eqb-true _ _ p.1, tt)))));
  small = λ pit m held r.
      let p = and_parts (in_numbers m.place && in_numbers m.stamp) (in_clients m.client) r in
      let q = and_parts (in_numbers m.place) (in_numbers m.stamp) p.0 in
      (numbers_fit m.place q.0, (tt, (clients_fit m.client p.1, (numbers_fit m.stamp q.1, (tt, tt)))));
  says = λ pit m h i. refl;
  inside_back = λ pit at m bs h i vs. refl;
  sender_said = λ s v vs t. refl;
  view_said = λ s v vs t. refl;
  tag_said = λ s v vs t. refl;
  values_said = λ pit at bs h full i. refl;
  shaped_said = λ pit at bs full little r i. and_from _ _ (eq-eqb _ _ (part_long 14 32 bs (omega arith))) (eq-eqb _ _ (part_long 52 8 bs (omega arith)));
  inside_said = λ pit at bs full i. refl;
}

pub committed_shows : Shows committed.form
committed_shows = record {
  kind_fits = omega arith;
  sender_fits = replica_fits;
  size_fits = λ m s. omega arith;
  counted = λ pit m r. refl;
  wide = λ m s. (tt, (eqb-true (length m.history) 32 s, (tt, (tt, tt))));
  small = λ pit m held r.
      let p = and_parts (in_numbers m.place && in_numbers m.stamp) (in_clients m.client) r in
      let q = and_parts (in_numbers m.place) (in_numbers m.stamp) p.0 in
      (numbers_fit m.place q.0, (tt, (clients_fit m.client p.1, (numbers_fit m.stamp q.1, tt))));
  says = λ pit m h i. refl;
  inside_back = λ pit at m bs h i vs. refl;
  sender_said = λ s v vs t. refl;
  view_said = λ s v vs t. refl;
  tag_said = λ s v vs t. refl;
  values_said = λ pit at bs h full i. refl;
  shaped_said = λ pit at bs full little r i. eq-eqb _ _ (part_long 14 32 bs (omega arith));
  inside_said = λ pit at bs full i. refl;
}

pub sheet_shows : Shows sheet.form
sheet_shows = record {
  kind_fits = omega arith;
  sender_fits = replica_fits;
  size_fits = λ m s. omega arith;
  counted = λ pit m r. refl;
  wide = λ m s. let p = and_parts (eqb (length m.history) 32) _ s in (tt, (eqb-true _ _ p.0, (eqb-true _ _ p.1, tt)));
  small = λ pit m held r. (numbers_fit m.place (and_parts (in_numbers m.place) _ r).0, (tt, (tt, tt)));
  says = λ pit m h i. refl;
  inside_back = λ pit at m bs h i vs. refl;
  sender_said = λ s v vs t. refl;
  view_said = λ s v vs t. refl;
  tag_said = λ s v vs t. refl;
  values_said = λ pit at bs h full i. refl;
  shaped_said = λ pit at bs full little r i. and_from _ _ (eq-eqb _ _ (part_long 14 32 bs (omega arith))) (eq-eqb _ _ (part_long 46 32 bs (omega arith)));
  inside_said = λ pit at bs full i. refl;
}

-- the CALL inside an ORDER is read
inner_call : (pit : Pit) (at : ℕ) (bs : List ℕ) → order.inside pit at bs ≡ Ok tt
    → (m : call.Model) × (call.read_inside pit (at + 46) (part 46 62 bs) ≡ Ok m)
inner_call pit at bs e = (then_ok (call.read_inside pit (at + 46) (part 46 62 bs)) (Ok (tt {0})) tt e).0

call_passes : (pit : Pit) (at : ℕ) (bs : List ℕ) → order.inside pit at bs ≡ Ok tt → call.passes pit (call.fields (part 46 62 bs)) ≡ true
call_passes pit at bs e = let c = inner_call pit at bs e in inner_passes call.form call_shows pit (at + 46) (part 46 62 bs) c.0 (omega arith) c.1

pub order_shows : Shows order.form
order_shows = record {
  kind_fits = omega arith;
  sender_fits = lead_fits;
  size_fits = λ m s. omega arith;
  counted = λ pit m r. refl;
  wide = λ m s. let p = and_parts (eqb (length m.history) 32) _ s in (tt, (eqb-true _ _ p.0, (line_long call.form call_shows m.call p.1, tt)));
  small = λ pit m held r. (numbers_fit m.place r, (tt, (tt, tt)));
  says = λ pit m held i. rw (fields_back call.form call_shows pit m.call held i);
  inside_back = λ pit at m bs held i vs.
      ap (λ x. call.read_inside pit (at + 46) x >> Ok (tt {0})) (ap (λ x. x.1.1.0) vs)
      ∙ ap (λ v. v >> Ok (tt {0})) (comes_back call.form call_shows pit (at + 46) m.call held i);
  sender_said = λ s v vs t. refl;
  view_said = λ s v vs t. refl;
  tag_said = λ s v vs t. refl;
  values_said = λ pit at bs h full i.
      let c = inner_call pit at bs i in
      rw (inner_whole call.form call_shows pit (at + 46) (part 46 62 bs) c.0 (bytes_cut 46 62 bs h) c.1);
  shaped_said = λ pit at bs full little r i.
      and_from _ _ (eq-eqb _ _ (part_long 14 32 bs (omega arith))) (and_parts (call.shaped (call.fields (part 46 62 bs))) _ (call_passes pit at bs i)).0;
  inside_said = λ pit at bs full i. call_passes pit at bs i;
}

-- the ORDERs inside a CHARGE are read
inner_orders : (pit : Pit) (at : ℕ) (bs : List ℕ) → charge.inside pit at bs ≡ Ok tt
    → ((m : order.Model) × (order.read_inside pit (at + 10) (part 10 140 bs) ≡ Ok m))
    × ((m : order.Model) × (order.read_inside pit (at + 150) (part 150 140 bs) ≡ Ok m))
inner_orders pit at bs e =
    let second = order.read_inside pit (at + 150) (part 150 140 bs) in
    let a = then_ok (order.read_inside pit (at + 10) (part 10 140 bs)) (second >> Ok (tt {0})) tt e in
    (a.0, (then_ok second (Ok (tt {0})) tt a.1).0)

orders_pass : (pit : Pit) (at : ℕ) (bs : List ℕ) → charge.inside pit at bs ≡ Ok tt
    → (order.passes pit (order.fields (part 10 140 bs)) ≡ true) × (order.passes pit (order.fields (part 150 140 bs)) ≡ true)
orders_pass pit at bs e =
    let o = inner_orders pit at bs e in (
      inner_passes order.form order_shows pit (at + 10) (part 10 140 bs) o.0.0 (omega arith) o.0.1,
      inner_passes order.form order_shows pit (at + 150) (part 150 140 bs) o.1.0 (omega arith) o.1.1,
    )

pub charge_shows : Shows charge.form
charge_shows = record {
  kind_fits = omega arith;
  sender_fits = client_fits;
  size_fits = λ m s. omega arith;
  counted = λ pit m r. refl;
  wide = λ m s. let p = and_parts (order.shaped m.first) _ s in (line_long order.form order_shows m.first p.0, (line_long order.form order_shows m.second p.1, tt));
  small = λ pit m held r. (tt, (tt, tt));
  says = λ pit m held i.
      let p = and_parts (order.passes pit m.first) _ i in
      rw (fields_back order.form order_shows pit m.first held p.0, fields_back order.form order_shows pit m.second held p.1);
  inside_back = λ pit at m bs held i vs.
      let p = and_parts (order.passes pit m.first) _ i in
      let second = order.read_inside pit (at + 150) (part 150 140 bs) in
      ap (λ x. order.read_inside pit (at + 10) x >> second >> Ok (tt {0})) (ap (λ x. x.0) vs)
      ∙ ap (λ v. v >> second >> Ok (tt {0})) (comes_back order.form order_shows pit (at + 10) m.first held p.0)
      ∙ ap (λ x. order.read_inside pit (at + 150) x >> Ok (tt {0})) (ap (λ x. x.1.0) vs)
      ∙ ap (λ v. v >> Ok (tt {0})) (comes_back order.form order_shows pit (at + 150) m.second held p.1);
  sender_said = λ s v vs t. refl;
  view_said = λ s v vs t. refl;
  tag_said = λ s v vs t. refl;
  values_said = λ pit at bs h full i.
      let o = inner_orders pit at bs i in
      rw (
        inner_whole order.form order_shows pit (at + 10) (part 10 140 bs) o.0.0 (bytes_cut 10 140 bs h) o.0.1,
        inner_whole order.form order_shows pit (at + 150) (part 150 140 bs) o.1.0 (bytes_cut 150 140 bs h) o.1.1,
      );
  shaped_said = λ pit at bs full little r i.
      let o = orders_pass pit at bs i in
      and_from _ _ (and_parts (order.shaped (order.fields (part 10 140 bs))) _ o.0).0 (and_parts (order.shaped (order.fields (part 150 140 bs))) _ o.1).0;
  inside_said = λ pit at bs full i. let o = orders_pass pit at bs i in and_from _ _ o.0 o.1;
}

-- the parts of a CERT's range check
pub record CertRanges (pit : Pit) (m : cert.Model) : Type 0 where
  pub placed : in_numbers m.place ≡ true
  pub stamped : in_numbers m.stamp ≡ true
  pub known : in_clients m.client ≡ true
  pub from_itself : m.sender ≡ client_party m.client
  pub counted : m.count ≡ quorum_of pit
  pub rises : cert.rising 0 (replicas_of pit) (cert.voters (quorum_of pit) m.entries) ≡ true

pub cert_ranges : (pit : Pit) (m : cert.Model) → cert.in_range pit m ≡ true → CertRanges pit m
cert_ranges pit m r =
    let a = and_parts (in_numbers m.place) _ r in
    let b = and_parts (in_numbers m.stamp) _ a.1 in
    let c = and_parts (in_clients m.client) _ b.1 in
    let d = and_parts (eqb m.sender (client_party m.client)) _ c.1 in
    let e = and_parts (eqb m.count (quorum_of pit)) _ d.1 in
    record { placed = a.0; stamped = b.0; known = c.0; from_itself = eqb-true _ _ d.0; counted = eqb-true _ _ e.0; rises = e.1 }

-- the widths of a CERT's parts
record CertWidths (m : cert.Model) : Type 0 where
  pub history : length m.history ≡ 32
  pub reply : length m.reply ≡ 8
  pub entries : length m.entries ≡ 34 * m.count
  pub told : cert.size_of m.count ≤ 65535

cert_widths : (m : cert.Model) → cert.text_shaped m ≡ true → CertWidths m
cert_widths m s =
    let a = and_parts (eqb (length m.history) 32) _ s in
    let b = and_parts (eqb (length m.reply) 8) _ a.1 in
    let c = and_parts (eqb (length m.entries) (cert.entries_size m.count)) (leb (cert.size_of m.count) 65535) b.1 in
    record { history = eqb-true _ _ a.0; reply = eqb-true _ _ b.0; entries = eqb-true _ _ c.0; told = leb-true (cert.size_of m.count) 65535 c.1 }

pub cert_shows : Shows cert.form
cert_shows = record {
  kind_fits = omega arith;
  sender_fits = client_fits;
  size_fits = λ m s. let w = (cert_widths m s).told in omega arith;
  counted = λ pit m r. (cert_ranges pit m r).counted;
  wide = λ m s. let w = cert_widths m s in (tt, (w.history, (tt, (tt, (w.reply, (tt, (w.entries, tt)))))));
  small = λ pit m held r.
      let k = cert_ranges pit m r in
      let few : m.count < 256 ^ 2 = let c = k.counted in omega (arith, held.0) in
      (numbers_fit m.place k.placed, (tt, (clients_fit m.client k.known, (numbers_fit m.stamp k.stamped, (tt, (few, (tt, tt)))))));
  says = λ pit m h i. refl;
  inside_back = λ pit at m bs h i vs. refl;
  sender_said = λ s v vs t. refl;
  view_said = λ s v vs t. refl;
  tag_said = λ s v vs t. refl;
  values_said = λ pit at bs h full i. refl;
  shaped_said = λ pit at bs full little r i.
      let q = quorum_of pit in
      let n = cert.fields pit bs in
      let count = (cert_ranges pit n r).counted in
      let wide : length n.entries ≡ cert.entries_size n.count = part_long 62 (34 * q) bs (omega arith) ∙ ap (λ k. 34 * k) (sym count) in
      let told : cert.size_of n.count ≤ 65535 = rw count (omega arith) in
      and_from _ _ (eq-eqb _ _ (part_long 14 32 bs (omega arith)))
      (and_from _ _ (eq-eqb _ _ (part_long 52 8 bs (omega arith))) (and_from _ _ (eq-eqb _ _ wide) (le-leb _ _ told)));
  inside_said = λ pit at bs full i. refl;
}
