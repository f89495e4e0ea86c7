-- Votes that agree where their claims are equal.
use Rattle.std.specs.Prelude.{◌≡◌, Bool}
use Rattle.std.specs.Cmp.{IsEquivalence}
use Rattle.std.proofs.Common.{sym, ◌∙◌}

-- to agree in what each claims is an equivalence where to be equal is one, and is the same
pub equivalence_of : {V C : Type 0} (claim : V → C) (equal agree : C → C → Bool) → IsEquivalence equal
    → ((v w : C) → equal v w ≡ agree v w) → IsEquivalence (λ (v w : V). agree (claim v) (claim w))
equivalence_of claim equal agree laws same = record {
  refl = λ v. sym (same _ _) ∙ laws.refl (claim v);
  symm = λ v w. sym (same _ _) ∙ laws.symm (claim v) (claim w) ∙ same _ _;
  congr = λ v w x e. sym (same _ _) ∙ laws.congr (claim v) (claim w) (claim x) (same _ _ ∙ e) ∙ same _ _;
}
