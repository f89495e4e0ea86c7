-- The boxes whose row agrees with a vote.
use Rattle.std.proofs.Common.{◌≡◌, ℕ, zero, suc, ◌+◌, ◌<◌, ◌≤◌, Bool, true, false, cond, eqb, count_by, List, [], ◌∷◌, length, get_or, None, Option, sym, refl, ap, ◌∙◌, arith}
use Rattle.line.specs.CertLine.{rising}
use Rattle.std.proofs.lemmas.List.Sums.{sum_by-cons}
use Rattle.std.proofs.lemmas.Bool.{and_from, eq-eqb, le-leb, lt-ltb, ne_eqb}
use Rattle.vote.specs.Counting.{row_agrees, voters_from, voters_of, times, CountedOnce}

module _ {V : Type 0} (agree : V → V → Bool) (v : V) where
  -- their number is the number of rows that agree
  pub length_voters : (rows : List (Option V)) (box : ℕ) → length (voters_from agree v box rows) ≡ count_by (row_agrees agree v) rows
  length_voters [] box = refl
  length_voters (row ∷ rows) box =
      elim (row_agrees agree v row) as (λ t. length (cond t (box ∷ voters_from agree v (suc box) rows) (voters_from agree v (suc box) rows)) ≡ cond t 1 0 + count_by (row_agrees agree v) rows) [
        | true ↦ (let e = length_voters rows (suc box) in omega arith)
        | false ↦ (let e = length_voters rows (suc box) in omega arith)
      ]
      ∙ sym (sum_by-cons (λ r. cond (row_agrees agree v r) 1 0) row rows)

  -- they rise
  pub voters_rise : (rows : List (Option V)) (low box end : ℕ) → low ≤ box → box + length rows ≤ end
      → rising low end (voters_from agree v box rows) ≡ true
  voters_rise [] low box end at fits = refl
  voters_rise (row ∷ rows) low box end at fits =
      elim (row_agrees agree v row) as (λ t. rising low end (cond t (box ∷ voters_from agree v (suc box) rows) (voters_from agree v (suc box) rows)) ≡ true) [
        | true ↦ and_from _ _ (le-leb low box at) (and_from _ _ (lt-ltb box end (omega arith)) (voters_rise rows (box + 1) (suc box) end (omega arith) (omega arith)))
        | false ↦ voters_rise rows low (suc box) end (omega arith) (omega arith)
      ]

  -- no lower box is among them
  none_below : (rows : List (Option V)) (box from : ℕ) → box < from → times box (voters_from agree v from rows) ≡ 0
  none_below [] box from low = refl
  none_below (row ∷ rows) box from low =
      elim (row_agrees agree v row) as (λ t. times box (cond t (from ∷ voters_from agree v (suc from) rows) (voters_from agree v (suc from) rows)) ≡ 0) [
        | true ↦ sum_by-cons (λ b. cond (eqb box b) 1 0) from (voters_from agree v (suc from) rows)
            ∙ ap (λ t. cond t 1 0 + times box (voters_from agree v (suc from) rows)) (ne_eqb box from (λ e. omega arith))
            ∙ ap (λ n. 0 + n) (none_below rows box (suc from) (omega arith))
        | false ↦ none_below rows box (suc from) (omega arith)
      ]

  -- each box stands among them once if its row agrees, else not at all
  voters_once : (rows : List (Option V)) (from k : ℕ)
      → times (from + k) (voters_from agree v from rows) ≡ cond (row_agrees agree v (get_or rows k None)) 1 0
  voters_once [] from k = refl
  voters_once (row ∷ rows) from zero =
      elim (row_agrees agree v row) as (λ t. times (from + 0) (cond t (from ∷ voters_from agree v (suc from) rows) (voters_from agree v (suc from) rows)) ≡ cond t 1 0) [
        | true ↦ sum_by-cons (λ b. cond (eqb (from + 0) b) 1 0) from (voters_from agree v (suc from) rows)
            ∙ ap (λ t. cond t 1 0 + times (from + 0) (voters_from agree v (suc from) rows)) (eq-eqb (from + 0) from (omega arith))
            ∙ ap (λ n. 1 + n) (none_below rows (from + 0) (suc from) (omega arith))
        | false ↦ none_below rows (from + 0) (suc from) (omega arith)
      ]
  voters_once (row ∷ rows) from (suc k) =
      let next : from + suc k ≡ suc from + k = omega arith in
      let rest : times (from + suc k) (voters_from agree v (suc from) rows) ≡ cond (row_agrees agree v (get_or rows k None)) 1 0
      = ap (λ b. times b (voters_from agree v (suc from) rows)) next ∙ voters_once rows (suc from) k in
      elim (row_agrees agree v row) as (λ t. times (from + suc k) (cond t (from ∷ voters_from agree v (suc from) rows) (voters_from agree v (suc from) rows)) ≡ cond (row_agrees agree v (get_or rows k None)) 1 0) [
        | true ↦ sum_by-cons (λ b. cond (eqb (from + suc k) b) 1 0) from (voters_from agree v (suc from) rows)
            ∙ ap (λ t. cond t 1 0 + times (from + suc k) (voters_from agree v (suc from) rows)) (ne_eqb (from + suc k) from (λ e. omega arith))
            ∙ (let e = rest in omega arith)
        | false ↦ rest
      ]

  pub counted_once : (rows : List (Option V)) → CountedOnce agree v rows
  counted_once rows = record {
    rises = voters_rise rows 0 0 (length rows) (omega arith) (omega arith);
    once = λ box. let at : box ≡ 0 + box = omega arith in ap (λ b. times b (voters_of agree v rows)) at ∙ voters_once rows 0 box;
  }
