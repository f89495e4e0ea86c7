-- What holds of a lead and of all ORDERs that it sent, kept by every take.
use Rattle.std.proofs.lemmas.Grind.{common_steps}
use Rattle.std.proofs.Common.{◌≡◌, ℕ, ◌+◌, ◌-◌, ◌<◌, ◌≤◌, true, leb, ◌⊎◌, List, [], ◌∷◌, ◌++◌, length, get_or, set, sym, refl, ap, ◌∙◌, subst, inl, inr, ⊎_elim, arith}
use Rattle.std.proofs.lemmas.List.{get_or-replicate, get_or-set_other, get_or-set_same, length-set}
use Rattle.std.proofs.lemmas.Bool.{and_parts, cases_eq, leb-true, ltb-true}
use Rattle.line.specs.lemmas.Bytes.{number_bytes}
use Rattle.line.specs.CallLine as call
use Rattle.line.specs.Forms as forms
use Rattle.line.specs.Layout.{bytes_of, number_at}
use Rattle.line.specs.OrderLine as order
use Rattle.line.specs.Rules.{in_numbers}
use Rattle.line.specs.SetUp.{is_client, lead_of}
use Rattle.line.specs.declared.pit.Pit.{Pit}
use Rattle.step.specs.Histories.{link, no_history}
use Rattle.lead.proofs.Takes.{Known, Outcome, idle, again, fresh, taken}
use Rattle.lead.specs.Leading.{client_of, holding, new_lead, next_row, no_row, order_of, row_of}
use Rattle.lead.specs.Runs.{Agree, Among, Gapless, Linked, Taking, last_place, lead_after, lead_next, orders, sent}
use Rattle.lead.specs.declared.Assignment.TheVariants.{Fresh}
use Rattle.lead.specs.declared.Lead.{Lead}
use Rattle.lead.specs.declared.Row.{Row}

-- a CALL and an ORDER but for their tags
abbrev bare : call.Model → call.Model
bare m = record { sender = m.sender; view = m.view; stamp = m.stamp; body = m.body; tag = [] }

abbrev untagged : order.Model → order.Model
untagged o = record { sender = o.sender; view = o.view; place = o.place; history = o.history; call = bare o.call; tag = [] }

-- an ORDER that is that one but for its tags was sent
abbrev Sent : List order.Model → order.Model → Type 0
Sent [] k = ⊥
Sent (o ∷ os) k = (untagged o ≡ k) ⊎ Sent os k

-- a tag is no part of the text, and the text tells tablet and stamp
bare_text : (m : call.Model) → call.text (bare m) ≡ call.text m
unfolding forms.text
bare_text m = refl

client_bounds : (n : ℕ) → is_client n ≡ true → (256 ≤ n) × (n < 272)
client_bounds n h = let p = and_parts (leb 256 n) _ h in (leb-true 256 n p.0, ltb-true n 272 p.1)

number_bounds : (n : ℕ) → in_numbers n ≡ true → (1 ≤ n) × (n ≤ 1000000)
number_bounds n h = let p = and_parts (leb 1 n) _ h in (leb-true 1 n p.0, leb-true n 1000000 p.1)

text_sender : (m : call.Model) → is_client m.sender ≡ true → number_at 2 4 (call.text m) ≡ m.sender
unfolding forms.text bytes_of
text_sender m h = let b = client_bounds m.sender h in number_bytes 2 m.sender (omega (arith, b.1))

text_stamp : (m : call.Model) → in_numbers m.stamp ≡ true → number_at 4 10 (call.text m) ≡ m.stamp
unfolding forms.text bytes_of
text_stamp m h = let b = number_bounds m.stamp h in number_bytes 4 m.stamp (omega (arith, b.1))

-- a tablet's row, and the ORDER that it keeps
abbrev blank : Row
blank = record { stamp = 0; place = 0; history = []; body = [] }

abbrev row_at : List Row → ℕ → Row
row_at rows c = get_or rows c blank

abbrev kept : Pit → ℕ → Row → order.Model
kept pit party row = record {
  sender = lead_of pit;
  view = pit.view;
  place = row.place;
  history = row.history;
  call = record { sender = party; view = pit.view; stamp = row.stamp; body = row.body; tag = [] };
  tag = [];
}

kept_is : (pit : Pit) (m : call.Model) (row : Row) → m.view ≡ pit.view → m.stamp ≡ row.stamp → m.body ≡ row.body
    → kept pit m.sender row ≡ untagged (order_of pit m row)
kept_is pit m row v s b = grind (arith, common_steps)

-- what one ORDER sent has to do with the lead
record Fits (lead : Lead) (k : order.Model) : Type 0 where
  low : 1 ≤ k.place
  high : k.place ≤ lead.place
  client : is_client k.call.sender ≡ true
  numbered : in_numbers k.call.stamp ≡ true
  older : k.call.stamp ≤ (row_at lead.rows (k.call.sender - 256)).stamp
  last : k.place ≡ lead.place → k.history ≡ lead.history
  first : k.place ≡ 1 → k.history ≡ link no_history (call.text k.call)

-- what two ORDERs sent have to do with each other
record Pair (k l : order.Model) : Type 0 where
  by_place : k.place ≡ l.place → k ≡ l
  by_call : k.call.sender ≡ l.call.sender → k.call.stamp ≡ l.call.stamp → k ≡ l
  further : k.place ≡ l.place + 1 → k.history ≡ link l.history (call.text k.call)

record Ordered (lead : Lead) (os : List order.Model) : Type 0 where
  wide : length lead.rows ≡ 16
  opening : lead.place ≡ 0 → lead.history ≡ no_history
  fits : (k : order.Model) → Sent os k → Fits lead k
  pair : (k l : order.Model) → Sent os k → Sent os l → Pair k l
  rows : (party : ℕ) → is_client party ≡ true → ((row_at lead.rows (party - 256)).stamp ≡ 0) ⊎ Sent os (kept lead.pit party (row_at lead.rows (party - 256)))
  every : (n : ℕ) → 1 ≤ n → n ≤ lead.place → (k : order.Model) × Sent os k × (k.place ≡ n)

at_opening : (pit : Pit) → Ordered (new_lead pit) []
at_opening pit = record {
  wide = refl;
  opening = λ _. refl;
  fits = λ k s. absurd s;
  pair = λ k l s _. absurd s;
  rows = λ party h. let b = client_bounds party h in
      inl (ap (λ (r : Row). r.stamp) (get_or-replicate 16 (party - 256) no_row blank (omega (arith, b.0, b.1))));
  every = λ n low high. absurd (omega arith);
}

-- an ORDER sent again adds nothing but a tag
no_new : (os : List order.Model) (o k : order.Model) → Sent os (untagged o) → Sent (o ∷ os) k → Sent os k
no_new os o k was (inl e) = subst (Sent os) e was
no_new os o k was (inr s) = s

after_again : (lead : Lead) (os : List order.Model) (o : order.Model) → Ordered lead os → Sent os (untagged o) → Ordered lead (o ∷ os)
after_again lead os o inv was = record {
  wide = inv.wide;
  opening = inv.opening;
  fits = λ k s. inv.fits k (no_new os o k was s);
  pair = λ k l s t. inv.pair k l (no_new os o k was s) (no_new os o l was t);
  rows = λ party h. ⊎_elim inl (λ s. inr (inr s)) (inv.rows party h);
  every = λ n low high. let e = inv.every n low high in (e.0, inr e.1, e.2);
}

was_sent : (lead : Lead) (os : List order.Model) (m : call.Model) → Ordered lead os → Known lead.pit m
    → m.stamp ≡ (row_of lead m).stamp → m.body ≡ (row_of lead m).body → Sent os (untagged (order_of lead.pit m (row_of lead m)))
was_sent lead os m inv known s b =
    ⊎_elim
    (λ none. let n = number_bounds m.stamp known.numbered in absurd (omega (arith, n.0, s, none)))
    (λ is. subst (Sent os) (kept_is lead.pit m (row_of lead m) known.viewed s b) is)
    (inv.rows m.sender known.client)

-- a row that is replaced by a newer one
stamp_grows : (rows : List Row) (c d : ℕ) (row : Row) → c < length rows → (row_at rows c).stamp ≤ row.stamp → (row_at rows d).stamp ≤ (row_at (set rows c row) d).stamp
stamp_grows rows c d row inside newer =
    ⊎_elim
    (λ (same : d ≡ c). rw (same, get_or-set_same rows c row blank inside) newer)
    (λ (other : d ≡ c → ⊥). rw (get_or-set_other rows c d row blank other) (omega arith))
    (cases_eq d c)

-- the next place is given
module _ (lead : Lead) (os : List order.Model) (m : call.Model) (inv : Ordered lead os) (known : Known lead.pit m) (newer : (row_of lead m).stamp < m.stamp) where
  abbrev next : Lead
  next = holding lead m (Fresh (next_row lead m))

  abbrev new : order.Model
  new = order_of lead.pit m (next_row lead m)

  inside : client_of m < length lead.rows
  inside = let b = client_bounds m.sender known.client in omega (arith, b.0, b.1, inv.wide)

  new_row : row_at (set lead.rows (client_of m) (next_row lead m)) (client_of m) ≡ next_row lead m
  new_row = get_or-set_same lead.rows (client_of m) (next_row lead m) blank inside

  new_fits : Fits next (untagged new)
  new_fits = record {
    low = omega arith;
    high = omega arith;
    client = known.client;
    numbered = known.numbered;
    older = rw new_row (omega arith);
    last = λ _. refl;
    first = λ e. let at : lead.place ≡ 0 = omega arith in
        ap (λ h. link h (call.text m)) (inv.opening at) ∙ ap (λ x. link no_history x) (sym (bare_text m));
  }

  old_fits : (k : order.Model) → Fits lead k → Fits next k
  old_fits k f = record {
    low = f.low;
    high = omega (arith, f.high);
    client = f.client;
    numbered = f.numbered;
    older = let grown = stamp_grows lead.rows (client_of m) (k.call.sender - 256) (next_row lead m) inside (omega (arith, newer)) in
        omega (arith, f.older, grown);
    last = λ e. absurd (omega (arith, f.high));
    first = f.first;
  }

  new_old : (l : order.Model) → Fits lead l → Pair (untagged new) l
  new_old l f = record {
    by_place = λ e. absurd (omega (arith, f.high));
    by_call = λ e s. absurd (let h : m.stamp ≤ (row_of lead m).stamp = subst (λ x. m.stamp ≤ (row_at lead.rows (x - 256)).stamp) (sym e) (omega (arith, f.older, s)) in omega (arith, newer));
    further = λ e. let at : l.place ≡ lead.place = omega arith in
        ap (λ h. link h (call.text m)) (sym (f.last at)) ∙ ap (λ x. link l.history x) (sym (bare_text m));
  }

  old_new : (k : order.Model) → Fits lead k → Pair k (untagged new)
  old_new k f = record {
    by_place = λ e. sym ((new_old k f).by_place (sym e));
    by_call = λ e s. sym ((new_old k f).by_call (sym e) (sym s));
    further = λ e. absurd (omega (arith, f.high));
  }

  new_new : Pair (untagged new) (untagged new)
  new_new = record { by_place = λ _. refl; by_call = λ _ _. refl; further = λ e. absurd (omega arith) }

  pairs : (k l : order.Model) → Sent (new ∷ os) k → Sent (new ∷ os) l → Pair k l
  pairs k l (inl e) (inl f) = subst (λ x. Pair x l) e (subst (λ x. Pair (untagged new) x) f new_new)
  pairs k l (inl e) (inr t) = subst (λ x. Pair x l) e (new_old l (inv.fits l t))
  pairs k l (inr s) (inl f) = subst (λ x. Pair k x) f (old_new k (inv.fits k s))
  pairs k l (inr s) (inr t) = inv.pair k l s t

  fit : (k : order.Model) → Sent (new ∷ os) k → Fits next k
  fit k (inl e) = subst (λ x. Fits next x) e new_fits
  fit k (inr s) = old_fits k (inv.fits k s)

  all_rows : (party : ℕ) → is_client party ≡ true
      → ((row_at next.rows (party - 256)).stamp ≡ 0) ⊎ Sent (new ∷ os) (kept lead.pit party (row_at next.rows (party - 256)))
  all_rows party h =
      ⊎_elim
      (λ (same : party ≡ m.sender). subst (λ x. ((row_at next.rows (x - 256)).stamp ≡ 0) ⊎ Sent (new ∷ os) (kept lead.pit x (row_at next.rows (x - 256)))) (sym same)
      (inr (inl (sym (ap (λ r. kept lead.pit m.sender r) new_row ∙ kept_is lead.pit m (next_row lead m) known.viewed refl refl)))))
      (λ (other : party ≡ m.sender → ⊥).
      let b = client_bounds party h in
      let c = client_bounds m.sender known.client in
      let apart : party - 256 ≡ client_of m → ⊥ = λ e. other (omega (arith, b.0, c.0)) in
      let stays : row_at next.rows (party - 256) ≡ row_at lead.rows (party - 256) = get_or-set_other lead.rows (client_of m) (party - 256) (next_row lead m) blank apart in
      subst (λ r. (r.stamp ≡ 0) ⊎ Sent (new ∷ os) (kept lead.pit party r)) (sym stays) (⊎_elim inl (λ s. inr (inr s)) (inv.rows party h)))
      (cases_eq party m.sender)

  all_places : (n : ℕ) → 1 ≤ n → n ≤ lead.place + 1 → (k : order.Model) × Sent (new ∷ os) k × (k.place ≡ n)
  all_places n low high =
      ⊎_elim
      (λ (same : n ≡ lead.place + 1). (untagged new, inl refl, sym same))
      (λ (other : n ≡ lead.place + 1 → ⊥). let e = inv.every n low (grind (arith, other)) in (e.0, inr e.1, e.2))
      (cases_eq n (lead.place + 1))

  after_fresh : Ordered next (new ∷ os)
  after_fresh = record {
    wide = length-set lead.rows (client_of m) (next_row lead m) ∙ inv.wide;
    opening = λ e. absurd (omega arith);
    fits = fit;
    pair = pairs;
    rows = all_rows;
    every = all_places;
  }

-- a take keeps it
take_keeps : (lead after : Lead) (os out : List order.Model) → Ordered lead os → Outcome lead after out → Ordered after (out ++ os)
take_keeps lead after os out inv (idle h s) = subst (λ x. Ordered x (out ++ os)) (sym h) (subst (λ x. Ordered lead (x ++ os)) (sym s) inv)
take_keeps lead after os out inv (again r) =
    subst (λ x. Ordered x (out ++ os)) (sym r.holds) (subst (λ x. Ordered lead (x ++ os)) (sym r.sends)
    (after_again lead os (order_of lead.pit r.call (row_of lead r.call)) inv (was_sent lead os r.call inv r.known r.stamp r.body)))
take_keeps lead after os out inv (fresh g) =
    subst (λ x. Ordered x (out ++ os)) (sym g.holds) (subst (λ x. Ordered (holding lead g.call (Fresh (next_row lead g.call))) (x ++ os)) (sym g.sends)
    (after_fresh lead os g.call inv g.known g.newer))

ordered : (pit : Pit) (ts : List Taking) → Ordered (lead_after pit ts) (orders pit ts)
unfolding lead_after orders
ordered pit [] = at_opening pit
ordered pit (t ∷ ts) = take_keeps (lead_after pit ts) (lead_next (lead_after pit ts) t) (orders pit ts) (sent (lead_after pit ts) t) (ordered pit ts) (taken (lead_after pit ts) t)

-- ORDERs, and ORDERs but for their tags
among_sent : (os : List order.Model) (o : order.Model) → Among o os → Sent os (untagged o)
among_sent (p ∷ ps) o (inl e) = inl (ap untagged (sym e))
among_sent (p ∷ ps) o (inr a) = inr (among_sent ps o a)
among_sent [] o a = absurd a

sent_among : (os : List order.Model) (k : order.Model) → Sent os k → (o : order.Model) × Among o os × (untagged o ≡ k)
sent_among (p ∷ ps) k (inl e) = (p, inl refl, e)
sent_among (p ∷ ps) k (inr s) = let r = sent_among ps k s in (r.0, inr r.1, r.2)
sent_among [] k s = absurd s

place_rises : (lead after : Lead) (out : List order.Model) → Outcome lead after out → (after.place ≡ lead.place) ⊎ (after.place ≡ lead.place + 1)
place_rises lead after out (idle h s) = inl (ap (λ (x : Lead). x.place) h)
place_rises lead after out (again r) = inl (ap (λ (x : Lead). x.place) r.holds)
place_rises lead after out (fresh g) = inr (ap (λ (x : Lead). x.place) g.holds)

next_place : (pit : Pit) (ts : List Taking) (t : Taking) → (last_place pit (t ∷ ts) ≡ last_place pit ts) ⊎ (last_place pit (t ∷ ts) ≡ last_place pit ts + 1)
unfolding lead_after
next_place pit ts t = grind (arith, common_steps, place_rises, taken)

pub gapless : (pit : Pit) (ts : List Taking) → Gapless pit ts
gapless pit ts = record {
  rises = next_place pit ts;
  within = λ o a. let f = (ordered pit ts).fits (untagged o) (among_sent (orders pit ts) o a) in (f.low, f.high);
  every = λ n low high.
      let e = (ordered pit ts).every n low high in
      let r = sent_among (orders pit ts) e.0 e.1 in
      (r.0, r.1, ap (λ (x : order.Model). x.place) r.2 ∙ e.2);
}

pub agree : (pit : Pit) (ts : List Taking) (o p : order.Model) → Among o (orders pit ts) → Among p (orders pit ts) → Agree o p
agree pit ts o p a b =
    let s = among_sent (orders pit ts) o a in
    let t = among_sent (orders pit ts) p b in
    let f = (ordered pit ts).fits (untagged o) s in
    let g = (ordered pit ts).fits (untagged p) t in
    let both = (ordered pit ts).pair (untagged o) (untagged p) s t in
    record {
      one_history = λ e. ap (λ (x : order.Model). x.history) (both.by_place e);
      one_call = λ e. sym (bare_text o.call) ∙ (ap (λ (x : order.Model). call.text x.call) (both.by_place e) ∙ bare_text p.call);
      one_place = λ e. ap (λ (x : order.Model). x.place) (both.by_call
          (sym (text_sender o.call f.client) ∙ (ap (number_at 2 4) e ∙ text_sender p.call g.client))
          (sym (text_stamp o.call f.numbered) ∙ (ap (number_at 4 10) e ∙ text_stamp p.call g.numbered)));
    }

pub linked : (pit : Pit) (ts : List Taking) (o p : order.Model) → Among o (orders pit ts) → Among p (orders pit ts) → Linked o p
linked pit ts o p a b =
    let s = among_sent (orders pit ts) o a in
    let t = among_sent (orders pit ts) p b in
    record {
      first = λ e. ((ordered pit ts).fits (untagged o) s).first e ∙ ap (λ x. link no_history x) (bare_text o.call);
      further = λ e. ((ordered pit ts).pair (untagged o) (untagged p) s t).further e ∙ ap (λ x. link p.history x) (bare_text o.call);
    }
