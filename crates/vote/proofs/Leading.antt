-- The first row with which enough boxes agree.
use Rattle.std.proofs.lemmas.Grind.{common_steps}
use Rattle.std.proofs.Common.{◌≡◌, ℕ, zero, suc, ◌<◌, ◌≤◌, Bool, true, false, cond, leb, List, [], ◌∷◌, get_or, Some, None, Option, sym, refl, subst, ⊎_elim, arith}
use Rattle.std.proofs.lemmas.Bool.{cases_Bool, leb-true}
use Rattle.std.specs.Option.{option_flatten}
use Rattle.std.specs.List.{find}
use Rattle.vote.specs.Counting.{leads, first_leading, leading_of, count_of, Lowest}

module _ {V : Type 0} (agree : V → V → Bool) (n : ℕ) where
  -- `Lowest` of some of the rows
  abbrev Low : List (Option V) → List (Option V) → Option V → Type 0
  Low all rows None = (box : ℕ) → leads agree n all (get_or rows box None) ≡ false
  Low all rows (Some v) =
      (box : ℕ) × (get_or rows box None ≡ Some v) × (n ≤ count_of agree v all) × ((lower : ℕ) → lower < box → leads agree n all (get_or rows lower None) ≡ false)

  -- one row more in front, which does not lead
  past_front : (all rows : List (Option V)) (row : Option V) → leads agree n all row ≡ false → (box : ℕ)
      → ((lower : ℕ) → lower < box → leads agree n all (get_or rows lower None) ≡ false)
      → (lower : ℕ) → lower < suc box → leads agree n all (get_or (row ∷ rows) lower None) ≡ false
  past_front all rows row not_it box before zero below = not_it
  past_front all rows row not_it box before (suc lower) below = before lower (omega arith)

  none_in : (all rows : List (Option V)) (row : Option V) → leads agree n all row ≡ false → Low all rows None → Low all (row ∷ rows) None
  none_in all rows row not_it before zero = not_it
  none_in all rows row not_it before (suc box) = before box

  shift : (all rows : List (Option V)) (row found : Option V) → leads agree n all row ≡ false → Low all rows found → Low all (row ∷ rows) found
  shift all rows row None not_it low = none_in all rows row not_it low
  shift all rows row (Some v) not_it low = (suc low.0, low.1, low.2, past_front all rows row not_it low.0 low.3)

  first_lowest : (all rows : List (Option V)) → Low all rows (first_leading agree n all rows)
  first_lowest all [] = λ box. refl
  first_lowest all (None ∷ rows) = shift all rows None _ refl (first_lowest all rows)
  first_lowest all (Some v ∷ rows) =
      ⊎_elim
      (λ e. subst (λ t. Low all (Some v ∷ rows) (cond t (Some v) (first_leading agree n all rows))) (sym e)
      (0, refl, leb-true n (count_of agree v all) e, λ lower below. absurd (omega arith)))
      (λ e. subst (λ t. Low all (Some v ∷ rows) (cond t (Some v) (first_leading agree n all rows))) (sym e)
      (shift all rows (Some v) (first_leading agree n all rows) e (first_lowest all rows)))
      (cases_Bool (leb n (count_of agree v all)))

  same_low : (rows : List (Option V)) (found : Option V) → Low rows rows found → Lowest agree n rows found
  same_low rows None low = low
  same_low rows (Some v) low = low

  -- the row found is the lowest box's that leads
  pub leading_lowest : (rows : List (Option V)) (found : Option V) → found ≡ leading_of agree n rows → Lowest agree n rows found
  leading_lowest rows found e = grind (arith, common_steps, same_low, first_lowest)

  -- the first row that leads is the row found
  flatten_cond : (t : Bool) (row : Option V) (found : Option (Option V)) (rest : Option V) → option_flatten found ≡ rest → option_flatten (cond t (Some row) found) ≡ cond t row rest
  flatten_cond true row found rest e = refl
  flatten_cond false row found rest e = e

  pub found_leads : (all rows : List (Option V)) → option_flatten (find (leads agree n all) rows) ≡ first_leading agree n all rows
  found_leads all [] = refl
  found_leads all (row ∷ rows) = flatten_cond (leads agree n all row) row (find (leads agree n all) rows) (first_leading agree n all rows) (found_leads all rows)
