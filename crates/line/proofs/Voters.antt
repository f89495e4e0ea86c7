-- The entries of a CERT, one after another.
use Rattle.std.proofs.Common.{◌≡◌, ℕ, suc, ◌/◌, List, ◌∷◌, ◌++◌, length, ap, arith}
use Rattle.std.proofs.lemmas.List.{drop_at, length-append, take-append-le}
use Rattle.line.specs.CertLine.{voters}
use Rattle.line.specs.Layout.{number, number_at}

-- behind the first entry lie the others
pub voters_next : (entry rest : List ℕ) → length entry ≡ 34
    → voters (length (entry ++ rest) / 34) (entry ++ rest) ≡ number_at 2 0 entry ∷ voters (length rest / 34) rest
voters_next entry rest long =
    let more : length (entry ++ rest) / 34 ≡ suc (length rest / 34) = omega (arith, length-append entry rest, long) in
    rw (more, drop_at entry rest 34 long)
    (ap (λ xs. number xs ∷ voters (length rest / 34) rest) (take-append-le 2 entry rest (omega (arith, long))))
