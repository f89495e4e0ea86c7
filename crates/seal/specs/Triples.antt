-- Triples of party, text and tag that are the same or differ.
use Rattle.std.specs.Prelude.{◌≡◌, ℕ, true, false, ◌&&◌, List, ◌==◌, ◌≢◌, refl}
use Rattle.std.proofs.Common.{⊎_elim}
use Rattle.std.proofs.lemmas.Slice.Eq.{bytes_eq-Decides}
use Rattle.std.proofs.lemmas.Bool.{and_from, and_parts, and_right, cases_Bool, eq-eqb, eqb-true}
use Rattle.std.specs.Str.{bytes_eq}
use Rattle.seal.specs.Meaning.{same_triple}

pub same_bytes : (xs : List ℕ) → bytes_eq xs xs ≡ true
same_bytes xs = (bytes_eq-Decides xs xs).1 refl

pub same_self : (p : ℕ) (x t : List ℕ) → same_triple p x t p x t ≡ true
same_self p x t =
    and_from (p == p) (bytes_eq x x && bytes_eq t t) (eq-eqb p p refl) (and_from (bytes_eq x x) (bytes_eq t t) (same_bytes x) (same_bytes t))

pub same_triples :
    (p : ℕ) (x t : List ℕ) (q : ℕ) (y u : List ℕ) → same_triple p x t q y u ≡ true → (p ≡ q) × (x ≡ y) × (t ≡ u)
same_triples p x t q y u h =
    let one = and_parts (p == q) (bytes_eq x y && bytes_eq t u) h in
    let two = and_parts (bytes_eq x y) (bytes_eq t u) one.1 in
    (eqb-true p q one.0, (bytes_eq-Decides x y).0 two.0, (bytes_eq-Decides t u).0 two.1)

pub other_bytes : (x y : List ℕ) → (x ≢ y) → bytes_eq x y ≡ false
other_bytes x y differ = ⊎_elim (λ e. absurd (differ ((bytes_eq-Decides x y).0 e))) (λ e. e) (cases_Bool (bytes_eq x y))

pub other_tag : (p : ℕ) (x t : List ℕ) (q : ℕ) (y u : List ℕ) → (t ≢ u) → same_triple p x t q y u ≡ false
other_tag p x t q y u differ =
    and_right (p == q) (bytes_eq x y && bytes_eq t u) (and_right (bytes_eq x y) (bytes_eq t u) (other_bytes t u differ))
