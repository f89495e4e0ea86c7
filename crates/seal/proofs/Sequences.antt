-- Sequences of requests for stamps: what a seal accepts after them.
use Rattle.std.proofs.Common.{◌≡◌, ℕ, Bool, true, leb, ◌⊎◌, List, [], ◌∷◌, length, Ok, Err, Result, sym, ap, ◌∙◌, subst, inl, inr, ⊎_elim, arith}
use Rattle.fault.specs.declared.Fault.{Fault}
use Rattle.std.proofs.lemmas.Bool.{and_parts, false≢true, or_cases, or_left, or_right}
use Rattle.seal.specs.Meaning.{Meaning, Stamping, longest_text, ready_for, same_triple, some_left}
use Rattle.seal.specs.Promises.{AcceptedStays, OnlyStampsAreNew, OwnStampsCheck, RegisterAcceptsTheStamped, StampsForItsParties}
use Rattle.seal.specs.Rows.{register_meaning}
use Rattle.seal.specs.Triples.{same_self, same_triples}

abbrev accepts_at : Meaning → ℕ → List ℕ → List ℕ → Bool
accepts_at m p x t = m.accepts p x t

abbrev parties_of : Meaning → ℕ → Bool
parties_of m = m.parties

-- one request keeps what was accepted
kept :
    (answer : Result (List ℕ) Fault) (m n : Meaning) (q : ℕ) (y : List ℕ)
    → Stamping m n q y answer
    → (p : ℕ) (x t : List ℕ) → m.accepts p x t ≡ true → n.accepts p x t ≡ true
kept (Ok tag) m n q y did p x t h =
    ap (λ o. accepts_at o p x t) did.becomes ∙ or_right (same_triple p x t q y tag) (m.accepts p x t) h
kept (Err fault) m n q y did p x t h = ap (λ o. accepts_at o p x t) did.same ∙ h

-- a stamp that was given is accepted
gained :
    (answer : Result (List ℕ) Fault) (m n : Meaning) (p : ℕ) (x t : List ℕ)
    → Stamping m n p x answer
    → answer ≡ Ok t
    → n.accepts p x t ≡ true
gained (Ok tag) m n p x t did e =
    let same : t ≡ tag = cc in
    ap (λ o. accepts_at o p x t) did.becomes
    ∙ or_left (same_triple p x t p x tag) (m.accepts p x t) (ap (λ u. same_triple p x t p x u) (sym same) ∙ same_self p x t)
gained (Err fault) m n p x t did e = let z : ◌≡◌ {A = ℕ} 0 1 = cc in absurd (omega arith)

-- nothing else becomes accepted
only :
    (answer : Result (List ℕ) Fault) (m n : Meaning) (q : ℕ) (y : List ℕ)
    → Stamping m n q y answer
    → (p : ℕ) (x t : List ℕ)
    → n.accepts p x t ≡ true
    → ((q ≡ p) × (y ≡ x) × (answer ≡ Ok t)) ⊎ (m.accepts p x t ≡ true)
only (Ok tag) m n q y did p x t h =
    ⊎_elim
    (λ same. let e = same_triples p x t q y tag same in inl (sym e.0, sym e.1, ap Ok (sym e.2)))
    inr
    (or_cases (same_triple p x t q y tag) (m.accepts p x t) (sym (ap (λ o. accepts_at o p x t) did.becomes) ∙ h))
only (Err fault) m n q y did p x t h = inr (sym (ap (λ o. accepts_at o p x t) did.same) ∙ h)

pub accepted_stays : AcceptedStays
accepted_stays before after [] led p x t h = ap (λ o. accepts_at o p x t) led ∙ h
accepted_stays before after (r ∷ rs) led p x t h =
    accepted_stays led.0 after rs led.2 p x t (kept r.answer before led.0 r.party r.text led.1 p x t h)

pub own_stamps_check : OwnStampsCheck
own_stamps_check before after [] led p x t h = absurd h
own_stamps_check before after (r ∷ rs) led p x t h =
    ⊎_elim
    (λ this. accepted_stays led.0 after rs led.2 p x t
    (gained r.answer before led.0 p x t
    (subst (λ q. Stamping before led.0 q x r.answer) this.0
    (subst (λ y. Stamping before led.0 r.party y r.answer) this.1 led.1))
    this.2))
    (own_stamps_check led.0 after rs led.2 p x t)
    h

pub only_stamps_are_new : OnlyStampsAreNew
only_stamps_are_new before after [] led p x t h = inr (sym (ap (λ o. accepts_at o p x t) led) ∙ h)
only_stamps_are_new before after (r ∷ rs) led p x t h =
    ⊎_elim
    (λ later. inl (inr later))
    (λ here. ⊎_elim (λ this. inl (inl this)) inr (only r.answer before led.0 r.party r.text led.1 p x t here))
    (only_stamps_are_new led.0 after rs led.2 p x t h)

same_parties :
    (answer : Result (List ℕ) Fault) (m n : Meaning) (q : ℕ) (y : List ℕ) → Stamping m n q y answer → n.parties ≡ m.parties
same_parties (Ok tag) m n q y did = ap (λ o. parties_of o) did.becomes
same_parties (Err fault) m n q y did = ap (λ o. parties_of o) did.same

-- a stamp was given to one of the parties
for_party :
    (answer : Result (List ℕ) Fault) (m n : Meaning) (q : ℕ) (y t : List ℕ)
    → Stamping m n q y answer
    → answer ≡ Ok t
    → m.parties q ≡ true
for_party (Ok tag) m n q y t did e =
    (and_parts (m.parties q) (some_left m.left)
    (and_parts (ready_for m q) (leb (length y) longest_text) did.allowed).0).0
for_party (Err fault) m n q y t did e = let z : ◌≡◌ {A = ℕ} 0 1 = cc in absurd (omega arith)

pub stamps_for_its_parties : StampsForItsParties
stamps_for_its_parties before after [] led = (ap (λ o. parties_of o) led, λ p x t none. absurd none)
stamps_for_its_parties before after (r ∷ rs) led =
    let rest = stamps_for_its_parties led.0 after rs led.2 in
    let same = same_parties r.answer before led.0 r.party r.text led.1 in (
      rest.0 ∙ same,
      λ p x t. ⊎_elim
          (λ this. ap before.parties (sym this.0) ∙ for_party r.answer before led.0 r.party r.text t led.1 this.2)
          (λ later. sym (ap (λ f. f p) same) ∙ rest.1 p x t later),
    )

pub register_accepts_the_stamped : RegisterAcceptsTheStamped
register_accepts_the_stamped rows after requests led p x t h =
    ⊎_elim (λ stamped. stamped) (λ none. absurd (false≢true none))
    (only_stamps_are_new (register_meaning rows []) after requests led p x t h)
