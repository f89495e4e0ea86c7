-- One voucher after another.
use Rattle.std.proofs.Common.{◌≡◌, ℕ, suc, ◌+◌, ◌-◌, ◌<◌, List, [], ◌∷◌, ◌++◌, refl, ap, ◌∙◌, arith, Ok, Err, Result}
use Rattle.fault.specs.Checks.{check, ◌>>◌}
use Rattle.fault.specs.declared.Fault.{Fault}
use Rattle.fault.specs.declared.Reason.TheVariants.{Tag}
use Rattle.hear.specs.Vouchers.{Voucher, admitted, entry_vouchers, answer_vouchers}
use Rattle.line.specs.CertLine as cert
use Rattle.seal.specs.Meaning.{Meaning}

-- three in turn
then_assoc : {A B C : Type 0} (u : Result A Fault) (v : Result B Fault) (w : Result C Fault) → (u >> (v >> w)) ≡ ((u >> v) >> w)
then_assoc (Ok a) v w = refl
then_assoc (Err f) v w = refl

pub admitted_append : (s : Meaning) (xs ys : List Voucher) → admitted s (xs ++ ys) ≡ (admitted s xs >> admitted s ys)
admitted_append s [] ys = refl
admitted_append s (v ∷ vs) ys =
    let test = check (s.accepts v.party v.text v.tag) Tag v.offset in
    ap (λ r. test >> r) (admitted_append s vs ys) ∙ then_assoc test (admitted s vs) (admitted s ys)

-- what is left after i entries begins with entry i
pub entries_more : (s : Meaning) (m : cert.Model) (n i : ℕ) → i < n
    → admitted s (entry_vouchers m i (n - i))
    ≡ (admitted s (answer_vouchers (cert.entry_at i) (cert.entry_answer m i)) >> admitted s (entry_vouchers m (i + 1) (n - (i + 1))))
entries_more s m n i h =
    let e : n - i ≡ suc (n - (i + 1)) = omega arith in
    rw e (admitted_append s (answer_vouchers (cert.entry_at i) (cert.entry_answer m i)) (entry_vouchers m (i + 1) (n - (i + 1))))
