-- Rows of votes, one for each box, and how they are counted. A kind of vote is told by its agreement.
use Rattle.std.specs.Prelude.{◌≡◌, ℕ, suc, ◌+◌, ◌*◌, ◌<◌, ◌≤◌, Bool, true, false, cond, not, ◌&&◌, List, [], ◌∷◌, ◌++◌, length, take, drop, replicate, is_some, Some, None, count_by, Option, nat_eq, nat_le, nat_lt, slice_index_or, slice_set, Result}
use Rattle.fault.specs.Checks.{check, ◌>>◌}
use Rattle.fault.specs.declared.Fault.{Fault}
use Rattle.fault.specs.declared.Reason.TheVariants.{Room, Sender, Twice, NoQuorum}
use Rattle.line.specs.CertLine.{rising}

-- the row of a box; a box past the rows has none
abbrev pub row_of : {V : Type 0} → List (Option V) → ℕ → Option V
row_of rows box = slice_index_or rows box None

-- whether a box has a row
abbrev pub has_row : {V : Type 0} → List (Option V) → ℕ → Bool
has_row rows box = is_some (row_of rows box)

-- what replacing a box's row answers: 7 where no row is meant for the box
abbrev pub replaced : {V : Type 0} → List (Option V) → ℕ → Result (Unit {0}) Fault
replaced rows box = check (nat_lt box (length rows)) Sender 0

-- the rows then: the box's row is the vote, and all else is as it was; past the rows nothing is set
abbrev pub rows_replaced : {V : Type 0} → List (Option V) → ℕ → V → List (Option V)
rows_replaced rows box v = slice_set rows box (Some v)

-- what adding a vote of a box answers: 22 where the box has a row already
abbrev pub added : {V : Type 0} → List (Option V) → ℕ → Result (Unit {0}) Fault
added rows box = do
  check (not (has_row rows box)) Twice 0
  replaced rows box

-- the rows then: a row that was there stays
abbrev pub rows_added : {V : Type 0} → List (Option V) → ℕ → V → List (Option V)
rows_added rows box v = cond (has_row rows box) rows (rows_replaced rows box v)

-- a row that is there and agrees with the vote
abbrev pub row_agrees : {V : Type 0} → (V → V → Bool) → V → Option V → Bool
row_agrees agree v None = false
row_agrees agree v (Some w) = agree v w

-- of the boxes from a number on, those whose row agrees with the vote, rising
abbrev pub voters_from : {V : Type 0} → (V → V → Bool) → V → ℕ → List (Option V) → List ℕ
voters_from agree v box [] = []
voters_from agree v box (row ∷ rows) =
    cond (row_agrees agree v row) (box ∷ voters_from agree v (suc box) rows) (voters_from agree v (suc box) rows)

-- the boxes whose row agrees with the vote, rising
abbrev pub voters_of : {V : Type 0} → (V → V → Bool) → V → List (Option V) → List ℕ
voters_of agree v rows = voters_from agree v 0 rows

-- how many boxes agree with the vote
abbrev pub count_of : {V : Type 0} → (V → V → Bool) → V → List (Option V) → ℕ
count_of agree v rows = length (voters_of agree v rows)

-- how often a box stands in a list of boxes
abbrev pub times : ℕ → List ℕ → ℕ
times box boxes = count_by (nat_eq box) boxes

-- no box is counted twice: the boxes that agree rise strictly, and each stands among them once if its row agrees, else not at all
pub record CountedOnce {V : Type 0} (agree : V → V → Bool) (v : V) (rows : List (Option V)) : Type 0 where
  pub rises : rising 0 (length rows) (voters_of agree v rows) ≡ true
  pub once : (box : ℕ) → times box (voters_of agree v rows) ≡ cond (row_agrees agree v (row_of rows box)) 1 0

-- at least n boxes agree with the vote
abbrev pub enough : {V : Type 0} → (V → V → Bool) → V → ℕ → List (Option V) → Bool
enough agree v n rows = nat_le n (count_of agree v rows)

-- a row that is there and with which at least n boxes agree
abbrev pub leads : {V : Type 0} → (V → V → Bool) → ℕ → List (Option V) → Option V → Bool
leads agree n rows None = false
leads agree n rows (Some v) = enough agree v n rows

-- the first of some rows that leads among all
abbrev pub first_leading : {V : Type 0} → (V → V → Bool) → ℕ → List (Option V) → List (Option V) → Option V
first_leading agree n all [] = None
first_leading agree n all (row ∷ rows) = cond (leads agree n all row) row (first_leading agree n all rows)

-- the row of the lowest box with which at least n boxes agree
abbrev pub leading_of : {V : Type 0} → (V → V → Bool) → ℕ → List (Option V) → Option V
leading_of agree n rows = first_leading agree n rows rows

-- none means that no box's row leads; a row found is a box's, it leads, and no lower box's row does
abbrev pub Lowest : {V : Type 0} → (V → V → Bool) → ℕ → List (Option V) → Option V → Type 0
Lowest agree n rows None = (box : ℕ) → leads agree n rows (row_of rows box) ≡ false
Lowest agree n rows (Some v) =
    (box : ℕ) × (row_of rows box ≡ Some v) × (n ≤ count_of agree v rows) × ((lower : ℕ) → lower < box → leads agree n rows (row_of rows lower) ≡ false)

-- box numbers have 16 bits
abbrev pub most_boxes : ℕ
most_boxes = 65536

-- there is room for n box numbers, and every box's number fits
abbrev pub roomy : {V : Type 0} → ℕ → List (Option V) → List ℕ → Bool
roomy n rows out = nat_le n (length out) && nat_le (length rows) most_boxes

-- what asking for the n lowest boxes that agree answers: 2 where they have no room, 23 where fewer agree
abbrev pub listed : {V : Type 0} → (V → V → Bool) → V → ℕ → List (Option V) → List ℕ → Result (Unit {0}) Fault
listed agree v n rows out = do
  check (roomy n rows out) Room 0
  check (enough agree v n rows) NoQuorum 0

-- what the memory holds then: these boxes in front, rising, and the rest as it was; all as it was where it is refused
abbrev pub memory_listed : {V : Type 0} → (V → V → Bool) → V → ℕ → List (Option V) → List ℕ → List ℕ
memory_listed agree v n rows out =
    cond (roomy n rows out && enough agree v n rows) (take n (voters_of agree v rows) ++ drop n out) out

-- of 3f+1 rows, no two votes that disagree have 2f+1 each
abbrev pub OneQuorum : {V : Type 0} → (V → V → Bool) → Type 0
OneQuorum {V} agree =
    (f : ℕ) (rows : List (Option V)) (v w : V) → length rows ≡ 3 * f + 1
    → 2 * f + 1 ≤ count_of agree v rows → 2 * f + 1 ≤ count_of agree w rows → agree v w ≡ true

-- every row is the vote of its own box
abbrev pub Seated : {V : Type 0} → (V → ℕ) → List (Option V) → Type 0
Seated {V} origin rows = (box : ℕ) (v : V) → row_of rows box ≡ Some v → origin v ≡ box

-- that is so of empty rows, and adding and replacing keep it
pub record SeatsKept {V : Type 0} (origin : V → ℕ) : Type 0 where
  pub empty : (n : ℕ) → Seated origin (replicate n None)
  pub added : (rows : List (Option V)) (v : V) → Seated origin rows → Seated origin (rows_added rows (origin v) v)
  pub replaced : (rows : List (Option V)) (v : V) → Seated origin rows → Seated origin (rows_replaced rows (origin v) v)
