-- A decision that was carried out is a step of a run.
use Rattle.std.proofs.Common.{cond, is_ok, Some, None, Ok, Err, sym, ap, ◌∙◌, subst}
use Rattle.step.specs.Calls.{settle, send, World}
use Rattle.step.specs.Steps.{Wrote, CallsAreSteps}

pub carried_steps : (S : Type 0) → CallsAreSteps S
carried_steps S party (Err f) before after r h = record { holds = ap (λ (w : World S). w.state) h.1; answers = ap is_ok h.0; wrote = ap (λ (w : World S). w.out) h.1 }
carried_steps S party (Ok (settle next)) before after r h = record { holds = ap (λ (w : World S). w.state) h.1; answers = ap is_ok h.0; wrote = ap (λ (w : World S). w.out) h.1 }
carried_steps S party (Ok (send next text rest)) before after (Ok count) h = record {
  holds = h.holds ∙ rw h.allowed;
  answers = sym h.allowed;
  wrote = subst (λ b. Wrote (cond b (Some text) None) before.out after.out) (sym h.allowed) (h.tag, rest, h.tag_fits, h.writes);
}
carried_steps S party (Ok (send next text rest)) before after (Err fault) h = record {
  holds = ap (λ (w : World S). w.state) h.1.1 ∙ rw h.0;
  answers = sym h.0;
  wrote = subst (λ b. Wrote (cond b (Some text) None) before.out after.out) (sym h.0) (ap (λ (w : World S). w.out) h.1.1);
}
