-- Two votes that disagree share no row, so they cannot both have most of the rows.
use Rattle.std.proofs.Common.{◌≡◌, ℕ, suc, ◌+◌, ◌≤◌, Bool, true, false, cond, List, [], ◌∷◌, length, Some, None, Option, refl, ⊎_elim, ◌∙◌, arith}
use Rattle.std.proofs.lemmas.Bool.{cases_Bool, both_ways}
use Rattle.std.specs.Cmp.{IsEquivalence}
use Rattle.vote.specs.Counting.{row_agrees, voters_from, OneQuorum}

-- one box's row counts for at most one of them
sharing : (s t : Bool) (x y m n k : ℕ) → (s ≡ true → t ≡ true → ⊥) → m + n ≤ k
    → x ≡ cond s (suc m) m → y ≡ cond t (suc n) n → x + y ≤ suc k
sharing true true x y m n k apart few e h = absurd (apart refl refl)
sharing true false x y m n k apart few e h = omega arith
sharing false true x y m n k apart few e h = omega arith
sharing false false x y m n k apart few e h = omega arith

length_cond : (s : Bool) (b : ℕ) (bs : List ℕ) → length (cond s (b ∷ bs) bs) ≡ cond s (suc (length bs)) (length bs)
length_cond true b bs = refl
length_cond false b bs = refl

module _ {V : Type 0} (agree : V → V → Bool) (same : IsEquivalence agree) where
  -- no row agrees with both
  never_both : (v w : V) → agree v w ≡ false → (row : Option V) → row_agrees agree v row ≡ true → row_agrees agree w row ≡ true → ⊥
  never_both v w apart None e h = both_ways false refl e
  never_both v w apart (Some x) e h = both_ways (agree v w) apart (same.congr v x w e ∙ same.symm x w ∙ h)

  -- so both together have at most all rows
  disjoint : (v w : V) → agree v w ≡ false → (rows : List (Option V)) (box : ℕ)
      → length (voters_from agree v box rows) + length (voters_from agree w box rows) ≤ length rows
  disjoint v w apart [] box = omega arith
  disjoint v w apart (row ∷ rows) box =
      sharing (row_agrees agree v row) (row_agrees agree w row) _ _ _ _ _ (never_both v w apart row) (disjoint v w apart rows (suc box))
      (length_cond (row_agrees agree v row) box (voters_from agree v (suc box) rows)) (length_cond (row_agrees agree w row) box (voters_from agree w (suc box) rows))

  pub one_quorum : OneQuorum agree
  one_quorum f rows v w all many more =
      ⊎_elim (λ same. same) (λ apart. absurd (omega (arith, disjoint v w apart rows 0))) (cases_Bool (agree v w))
