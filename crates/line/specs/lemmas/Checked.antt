-- Lemmas, for the checker alone: what a result tells of the tests before it.
use Rattle.std.proofs.Common.{◌≡◌, ℕ, Bool, true, false, eqb, List, length, Ok, Err, Result, sym, refl, arith}
use Rattle.std.proofs.lemmas.Bool.{eqb-true}
use Rattle.fault.specs.Checks.{check, ◌>>=◌, ◌>>◌}
use Rattle.fault.specs.declared.Fault.{Fault}
use Rattle.fault.specs.declared.Reason.{Reason}
use Rattle.fault.specs.declared.Reason.TheVariants as reason
use Rattle.fault.specs.declared.Reason.TheVariants.{LineSize, KindSize, View, Sender, Range}
use Rattle.line.specs.Layout.{number_at}
use Rattle.line.specs.Rules.{whole, entered, sized, ruled}
use Rattle.line.specs.declared.pit.Pit.{Pit}

-- no result is both
pub ok_not_err : {A : Type 0} (x : A) (f : Fault) → Ok x ≡ Err f → ⊥
ok_not_err x f e = let z : ◌≡◌ {A = ℕ} 0 1 = cc in omega arith

pub ok_same : {A : Type 0} (x y : A) → ◌≡◌ {A = Result A Fault} (Ok x) (Ok y) → x ≡ y
ok_same x y e = cc

-- where one result after another is a value, each is
pub bind_ok : {A B : Type 0} (v : Result A Fault) (k : A → Result B Fault) (x : B) → (v >>= k) ≡ Ok x → (a : A) × (v ≡ Ok a) × (k a ≡ Ok x)
bind_ok (Ok a) k x e = (a, refl, e)
bind_ok (Err f) k x e = absurd (ok_not_err x f (sym e))

pub then_ok : {A B : Type 0} (v : Result A Fault) (w : Result B Fault) (x : B) → (v >> w) ≡ Ok x
    → ((a : A) × (v ≡ Ok a)) × (w ≡ Ok x)
then_ok (Ok a) w x e = ((a, refl), e)
then_ok (Err f) w x e = absurd (ok_not_err x f (sym e))

-- a test before a value has passed
pub test_ok : (b : Bool) (r : Reason) (o : ℕ) (x : Unit {0}) → check b r o ≡ Ok x → b ≡ true
test_ok true r o x e = refl
test_ok false r o x e = absurd (ok_not_err x _ (sym e))

pub check_ok : {A : Type 0} (b : Bool) (r : Reason) (o : ℕ) (v : Result A Fault) (x : A) → (check b r o >> v) ≡ Ok x
    → (b ≡ true) × (v ≡ Ok x)
check_ok true r o v x e = (refl, e)
check_ok false r o v x e = absurd (ok_not_err x _ (sym e))

-- what checks 3 and 4 tell
pub record Entered (bytes : List ℕ) (takes : ℕ → Bool) : Type 0 where
  pub tells : whole bytes ≡ true
  pub taken : takes (number_at 2 2 bytes) ≡ true

pub entered_good : {A : Type 0} (at : ℕ) (bytes : List ℕ) (takes : ℕ → Bool) (w : Result A Fault) (x : A)
    → (entered at bytes takes >> w) ≡ Ok x → Entered bytes takes × (w ≡ Ok x)
entered_good at bytes takes w x e =
    let a = then_ok (entered at bytes takes) w x e in
    let b = check_ok (whole bytes) LineSize at _ _ a.0.1 in
    (record { tells = b.0; taken = test_ok (takes (number_at 2 2 bytes)) reason.Kind at _ b.1 }, a.1)

-- what checks 5 to 8 tell
pub record Passed (size : ℕ) (bytes : List ℕ) (pit : Pit) (seen : ℕ) (may : Bool) (ranged : Bool) : Type 0 where
  pub full : length bytes ≡ size
  pub viewed : seen ≡ pit.view
  pub sent : may ≡ true
  pub within : ranged ≡ true

pub passed_good : {A : Type 0} (size at : ℕ) (bytes : List ℕ) (pit : Pit) (seen : ℕ) (may ranged : Bool) (w : Result A Fault) (x : A)
    → (sized size at bytes >> (ruled pit at seen may ranged >> w)) ≡ Ok x
    → Passed size bytes pit seen may ranged × (w ≡ Ok x)
passed_good size at bytes pit seen may ranged w x e =
    let a = check_ok (eqb (length bytes) size) KindSize at (ruled pit at seen may ranged >> w) x e in
    let b = then_ok (ruled pit at seen may ranged) w x a.1 in
    let viewed = check_ok (eqb seen pit.view) View at _ _ b.0.1 in
    let sent = check_ok may Sender at _ _ viewed.1 in
    (record { full = eqb-true _ _ a.0; viewed = eqb-true _ _ viewed.0; sent = sent.0; within = test_ok ranged Range at _ sent.1 }, b.1)

-- past a result that is a value
pub then_goes : {A B : Type 0} (v : Result A Fault) (w : Result B Fault) (a : A) → Ok a ≡ v → w ≡ (v >> w)
then_goes v w a e = rw (← e)

-- at a refusal
pub then_stops : {A B : Type 0} (v : Result A Fault) (w : Result B Fault) (f : Fault) → Err f ≡ v → Err f ≡ (v >> w)
then_stops v w f e = rw (← e)
