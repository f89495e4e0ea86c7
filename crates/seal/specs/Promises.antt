-- What follows for every seal, over every sequence of requests for stamps.
use Rattle.std.specs.Prelude.{◌≡◌, ℕ, Bool, true, ◌⊎◌, List, [], ◌∷◌, Ok, Err, Result}
use Rattle.fault.specs.declared.Fault.{Fault}
use Rattle.seal.specs.Meaning.{Meaning, Given, Denied, Stamping}
use Rattle.seal.specs.Rows.{register_meaning}

-- a request for a stamp, with its answer
pub record Request : Type 0 where
  pub party : ℕ
  pub text : List ℕ
  pub answer : Result (List ℕ) Fault

-- the requests, in this order, led from one meaning to the other
abbrev pub Led : Meaning → List Request → Meaning → Type 0
Led before [] after = after ≡ before
Led before (r ∷ rs) after = (between : Meaning) × Stamping before between r.party r.text r.answer × Led between rs after

-- one of the requests was for this party and text, and this tag was the answer
abbrev pub StampedIn : List Request → ℕ → List ℕ → List ℕ → Type 0
StampedIn [] p x t = ⊥
StampedIn (r ∷ rs) p x t = ((r.party ≡ p) × (r.text ≡ x) × (r.answer ≡ Ok t)) ⊎ StampedIn rs p x t

-- a seal accepts each stamp that it gave
abbrev pub OwnStampsCheck : Type 0
OwnStampsCheck =
    (before after : Meaning) (requests : List Request)
    → Led before requests after
    → (p : ℕ) (x t : List ℕ) → StampedIn requests p x t → after.accepts p x t ≡ true

-- what a seal accepted it goes on accepting
abbrev pub AcceptedStays : Type 0
AcceptedStays =
    (before after : Meaning) (requests : List Request)
    → Led before requests after
    → (p : ℕ) (x t : List ℕ) → before.accepts p x t ≡ true → after.accepts p x t ≡ true

-- what a seal comes to accept it has stamped
abbrev pub OnlyStampsAreNew : Type 0
OnlyStampsAreNew =
    (before after : Meaning) (requests : List Request)
    → Led before requests after
    → (p : ℕ) (x t : List ℕ) → after.accepts p x t ≡ true → StampedIn requests p x t ⊎ (before.accepts p x t ≡ true)

-- a seal stamps for its parties alone, and these stay the same
abbrev pub StampsForItsParties : Type 0
StampsForItsParties =
    (before after : Meaning) (requests : List Request)
    → Led before requests after
    → (after.parties ≡ before.parties) × ((p : ℕ) (x t : List ℕ) → StampedIn requests p x t → before.parties p ≡ true)

-- whatever a register accepts was stamped by it since it was opened
abbrev pub RegisterAcceptsTheStamped : Type 0
RegisterAcceptsTheStamped =
    (rows : ℕ) (after : Meaning) (requests : List Request)
    → Led (register_meaning rows []) requests after
    → (p : ℕ) (x t : List ℕ) → after.accepts p x t ≡ true → StampedIn requests p x t

-- a stamp was given and its own check said this, or it was refused
abbrev pub Checked : Meaning → Meaning → ℕ → List ℕ → Result (List ℕ × Bool) Fault → Type 0
Checked before after party text (Ok answer) = Given before after party text answer.0 × (answer.1 ≡ true)
Checked before after party text (Err fault) = Denied before after party text fault
