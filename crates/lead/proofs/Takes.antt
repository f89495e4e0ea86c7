-- What a take comes to: nothing, an ORDER sent again, or the next place given.
use Rattle.std.proofs.Common.{◌≡◌, ℕ, ◌<◌, Bool, true, false, cond, not, ◌&&◌, eqb, ltb, leb, ◌⊎◌, List, [], ◌∷◌, ◌++◌, Ok, Err, Result, sym, refl, ap, ◌∙◌, subst, inl, inr, ⊎_elim, arith}
use Rattle.fault.specs.Checks.{◌>>=◌}
use Rattle.fault.specs.declared.Fault.{Fault}
use Rattle.fault.specs.declared.Reason.TheVariants.{Stamp, Full}
use Rattle.line.specs.lemmas.FormsKept.{reads}
use Rattle.line.specs.lemmas.Shows.{call_shows}
use Rattle.line.specs.lemmas.Checked.{check_ok, ok_same}
use Rattle.line.specs.CallLine as call
use Rattle.line.specs.OrderLine as order
use Rattle.line.specs.Rules.{in_numbers, last_number}
use Rattle.line.specs.SetUp.{is_client, lead_of}
use Rattle.line.specs.declared.pit.Pit.{Pit}
use Rattle.seal.specs.Meaning.{may_stamp}
use Rattle.std.proofs.lemmas.Slice.Eq.{bytes_eq-Decides}
use Rattle.std.proofs.lemmas.Bool.{eqb-true, leb-false, le-leb}
use Rattle.std.specs.Str.{bytes_eq}
use Rattle.std.proofs.lemmas.List.{append-nil}
use Rattle.step.specs.Outbox.{over_front}
use Rattle.step.specs.Calls.{Decision, settle, send, World, Carried}
use Rattle.lead.proofs.Hearing.{hears_reads}
use Rattle.step.proofs.Carrying.{carried_steps}
use Rattle.step.specs.Steps.{left_by}
use Rattle.lead.specs.Leading.{assigned, hears, holding, lead_acts, next_row, order_of, outdated, placed, row_in, row_of}
use Rattle.lead.specs.Runs.{RunsAreTakes, Taking, OrdersWritten, decided, lead_next, order_for, sent, sent_if_stamped, taking}
use Rattle.lead.specs.declared.Assignment.{Assignment}
use Rattle.lead.specs.declared.Assignment.TheVariants.{Repeat, Fresh}
use Rattle.lead.specs.declared.Lead.{Lead}

-- what is known of a CALL that was heard
pub record Known (pit : Pit) (m : call.Model) : Type 0 where
  pub client : is_client m.sender ≡ true
  pub numbered : in_numbers m.stamp ≡ true
  pub viewed : m.view ≡ pit.view

hears_known : (pit : Pit) (t : Taking) (m : call.Model) → hears pit t.seal t.bytes t.room ≡ Ok m → Known pit m
hears_known pit t m e =
    let r = reads call.form call_shows pit 0 t.bytes m (hears_reads pit t.seal t.bytes t.room m e) in
    subst (λ (n : call.Model). Known pit n) r.says (record { client = r.sent; numbered = r.within; viewed = r.viewed })

-- the call is the last one of its tablet
pub record Repeats (lead next : Lead) (os : List order.Model) : Type 0 where
  pub call : call.Model
  pub known : Known lead.pit call
  pub stamp : (call).stamp ≡ (row_of lead call).stamp
  pub body : (call).body ≡ (row_of lead call).body
  pub sends : os ≡ order_of lead.pit call (row_of lead call) ∷ []
  pub holds : next ≡ lead

-- the call is newer than the last one of its tablet
pub record Gives (lead next : Lead) (os : List order.Model) : Type 0 where
  pub call : call.Model
  pub known : Known lead.pit call
  pub newer : (row_of lead call).stamp < (call).stamp
  pub sends : os ≡ order_of lead.pit call (next_row lead call) ∷ []
  pub holds : next ≡ holding lead call (Fresh (next_row lead call))

pub data Outcome (lead next : Lead) (os : List order.Model) : Type 0 where
  idle : next ≡ lead → os ≡ [] → Outcome lead next os
  again : Repeats lead next os → Outcome lead next os
  fresh : Gives lead next os → Outcome lead next os

placed_cases : (b : Bool) (lead : Lead) (m : call.Model) (a : Assignment) → placed b lead m ≡ Ok a
    → ((b ≡ true) × (a ≡ Repeat (row_of lead m))) ⊎ ((b ≡ false) × (a ≡ Fresh (next_row lead m)))
placed_cases true lead m a e = inl (refl, sym (ok_same _ _ e))
placed_cases false lead m a e = inr (refl, sym (ok_same _ _ (check_ok (ltb lead.place last_number) Full 0 (Ok (Fresh (next_row lead m))) a e).1))

-- a call that is not outdated has the last stamp and body, or a newer stamp
last_body : (le same b : Bool) → le ≡ true → same ≡ true → not (le && not (same && b)) ≡ true → b ≡ true
last_body le same true l s h = refl
last_body le same false l s h = sym (ap (λ x. not (x && not (same && false))) l ∙ ap (λ x. not (true && not (x && false))) s) ∙ h

newer_stamp : (le same b : Bool) → same ≡ false → not (le && not (same && b)) ≡ true → le ≡ false
newer_stamp true same b s h = sym (sym (ap (λ x. not (true && not (x && b))) s) ∙ h)
newer_stamp false same b s h = refl

module _ (lead : Lead) (t : Taking) where
  -- a take that the seal does not stamp comes to nothing
  stamped_or_not : (b : Bool) (next : Lead) (o : order.Model) → Outcome lead next (o ∷ []) → Outcome lead (cond b next lead) (cond b (o ∷ []) [])
  stamped_or_not true next o out = out
  stamped_or_not false next o out = idle refl refl

  ResultOf : call.Model → Result Assignment Fault → Type 0
  ResultOf m w = Outcome lead
      (left_by t.seal (lead_of lead.pit) lead (w >>= (λ a. Ok (send (holding lead m a) (order.text (order_of lead.pit m (row_in a))) []))))
      (sent_if_stamped t.seal (lead_of lead.pit) (w >>= (λ a. Ok (order_of lead.pit m (row_in a)))))

  given_one : (m : call.Model) (a : Assignment) → Outcome lead (holding lead m a) (order_of lead.pit m (row_in a) ∷ []) → ResultOf m (Ok a)
  unfolding ResultOf
  given_one m a out = stamped_or_not (may_stamp t.seal (lead_of lead.pit) (order.text (order_of lead.pit m (row_in a)))) _ _ out

  on_call : (m : call.Model) → Known lead.pit m → (w : Result Assignment Fault) → assigned lead m ≡ w → ResultOf m w
  unfolding ResultOf
  on_call m k (Err f) e = idle refl refl
  on_call m k (Ok a) e =
      let row = row_of lead m in
      let passed = check_ok (not (outdated row m)) Stamp 0 (placed (eqb m.stamp row.stamp) lead m) a e in
      ⊎_elim
      (λ last. let same : m.stamp ≡ row.stamp = eqb-true _ _ last.0 in
      given_one m a (subst (λ x. Outcome lead (holding lead m x) (order_of lead.pit m (row_in x) ∷ [])) (sym last.1)
      (again (record {
        call = m;
        known = k;
        stamp = same;
        sends = refl;
        holds = refl;
        body = (bytes_eq-Decides m.body row.body).0
            (last_body (leb m.stamp row.stamp) (eqb m.stamp row.stamp) (bytes_eq m.body row.body) (le-leb _ _ (omega arith)) last.0 passed.0);
      }))))
      (λ new. given_one m a (subst (λ x. Outcome lead (holding lead m x) (order_of lead.pit m (row_in x) ∷ [])) (sym new.1)
      (fresh (record {
        call = m;
        known = k;
        sends = refl;
        holds = refl;
        newer = leb-false m.stamp row.stamp
            (newer_stamp (leb m.stamp row.stamp) (eqb m.stamp row.stamp) (bytes_eq m.body row.body) new.0 passed.0);
      }))))
      (placed_cases (eqb m.stamp row.stamp) lead m a passed.1)

  on_bytes : (v : Result call.Model Fault) → hears lead.pit t.seal t.bytes t.room ≡ v → Outcome lead
      (left_by t.seal (lead_of lead.pit) lead (v >>= (lead_acts lead)))
      (sent_if_stamped t.seal (lead_of lead.pit) (v >>= (λ m. assigned lead m >>= (λ a. Ok (order_of lead.pit m (row_in a))))))
  unfolding ResultOf
  on_bytes (Err f) e = idle refl refl
  on_bytes (Ok m) e = on_call m (hears_known lead.pit t m e) (assigned lead m) refl

  pub taken : Outcome lead (lead_next lead t) (sent lead t)
  unfolding lead_next sent
  taken = on_bytes (hears lead.pit t.seal t.bytes t.room) refl

-- a decision to send goes with the ORDER whose text it sends, and a refusal with that refusal
Says : Decision Lead → Result order.Model Fault → Type 0
Says (Err fault) v = v ≡ Err fault
Says (Ok (settle next)) v = ⊥
Says (Ok (send next text rest)) v = (o : order.Model) × (v ≡ Ok o) × (text ≡ order.text o) × (rest ≡ [])

says : (lead : Lead) (t : Taking) → Says (decided lead t) (order_for lead t)
unfolding Says
says lead t = on_heard (hears lead.pit t.seal t.bytes t.room)
  where
    on_assigned : (m : call.Model) (w : Result Assignment Fault)
        → Says (w >>= (λ a. Ok (send (holding lead m a) (order.text (order_of lead.pit m (row_in a))) []))) (w >>= (λ a. Ok (order_of lead.pit m (row_in a))))
    on_assigned m (Err f) = refl
    on_assigned m (Ok a) = (order_of lead.pit m (row_in a), refl, refl, refl)

    on_heard : (v : Result call.Model Fault) → Says (v >>= (lead_acts lead)) (v >>= (λ m. assigned lead m >>= (λ a. Ok (order_of lead.pit m (row_in a)))))
    on_heard (Err f) = refl
    on_heard (Ok m) = on_assigned m (assigned lead m)

-- what a decision sends is what its being carried out writes
writes : (d : Decision Lead) (v : Result order.Model Fault) (party : ℕ) (before after : World Lead) (r : Result ℕ Fault) → Says d v → Carried party d before after r
    → OrdersWritten (sent_if_stamped before.seal party v) before.out after.out
unfolding Says
writes (Err f) v party before after r said h =
    subst (λ x. OrdersWritten (sent_if_stamped before.seal party x) before.out after.out) (sym said) (ap (λ (w : World Lead). w.out) h.1)
writes (Ok (settle next)) v party before after r said h = absurd said
writes (Ok (send next text rest)) v party before after (Ok count) said h =
    let o = said.0 in
    let stamps : may_stamp before.seal party (order.text o) ≡ true = subst (λ x. may_stamp before.seal party x ≡ true) said.2 h.allowed in
    let out : after.out ≡ over_front (order.text o ++ h.tag) before.out =
    h.writes ∙ (ap (λ x. over_front (x ++ (h.tag ++ rest)) before.out) said.2
    ∙ ap (λ x. over_front (order.text o ++ x) before.out) (ap (λ x. h.tag ++ x) said.3 ∙ append-nil h.tag)) in
    subst (λ x. OrdersWritten (sent_if_stamped before.seal party x) before.out after.out) (sym said.1)
    (subst (λ b. OrdersWritten (cond b (o ∷ []) []) before.out after.out) (sym stamps) (h.tag, h.tag_fits, out))
writes (Ok (send next text rest)) v party before after (Err fault) said h =
    let o = said.0 in
    let none : may_stamp before.seal party (order.text o) ≡ false = subst (λ x. may_stamp before.seal party x ≡ false) said.2 h.0 in
    subst (λ x. OrdersWritten (sent_if_stamped before.seal party x) before.out after.out) (sym said.1)
    (subst (λ b. OrdersWritten (cond b (o ∷ []) []) before.out after.out) (sym none) (ap (λ (w : World Lead). w.out) h.1.1))

pub stepped : RunsAreTakes
unfolding lead_next sent
stepped before after bytes r h =
    let t = taking before bytes in
    record {
      holds = (carried_steps Lead (lead_of before.state.pit) (decided before.state t) before after r h).holds;
      wrote = writes (decided before.state t) (order_for before.state t) (lead_of before.state.pit) before after r (says before.state t) h;
    }
