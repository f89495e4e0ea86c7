-- What a register accepts: by the row whose number a tag has, and after one row more.
use Rattle.std.proofs.lemmas.Grind.{common_steps}
use Rattle.std.specs.Prelude.{◌≡◌, ℕ, zero, suc, ◌+◌, ◌-◌, ◌*◌, ◌/◌, ◌%◌, ◌^◌, ◌<◌, ◌≤◌, min, Bool, true, false, ◌||◌, List, [], ◌∷◌, ◌++◌, length, get_or, take, replicate, ◌≢◌, nat_le, slice_index, slice_index_or, refl}
use Rattle.std.proofs.Common.{lit<, ⊎_elim, sym, ap, ◌∙◌, add-zero, mod-eq_of_lt, zero-add, arith}
use Rattle.std.proofs.Math.Nat.{div-div-eq-div-mul}
use Rattle.std.proofs.lemmas.Nat.{div-add-mod', div_below}
use Rattle.std.proofs.lemmas.Slice.Eq.{bytes_eq-Decides}
use Rattle.std.proofs.lemmas.List.{get_or-map, length-map, length_push, length-take, map_push, take_at}
use Rattle.std.proofs.lemmas.Bool.{and_parts, false≢true, leb-true, ltb-true, or_cases, or_from}
use Rattle.seal.specs.Meaning.{Discerning, limited, longest_text, may_stamp, ready_for, same_triple, stamped, tag_size}
use Rattle.seal.specs.Parties.{known_party}
use Rattle.seal.specs.Rows.{Entry, entries_of, register_meaning, row_bytes, row_entry, row_tag, told_from}
use Rattle.seal.specs.Triples.{other_tag}

-- lemmas on tests and sums
or_false : (b : Bool) → (b || false) ≡ b
or_false true = refl
or_false false = refl

or_swap : (a b c : Bool) → (a || (b || c)) ≡ (b || (a || c))
or_swap true true c = refl
or_swap true false c = refl
or_swap false true c = refl
or_swap false false c = refl

next : (at k : ℕ) → suc at + k ≡ at + suc k
next at k = omega arith

four_parts :
    (n a b c r s t u : ℕ)
    → a * 256 + r ≡ n
    → b * 256 + s ≡ a
    → c * 256 + t ≡ b
    → u ≡ c
    → r + s * 256 + t * 65536 + u * 16777216 ≡ n
four_parts n a b c r s t u e f g h = omega arith

digit : (n k l : ℕ) → n / k / 256 ≡ n / l → n / l * 256 + n / k % 256 ≡ n / k
digit n k l e = ap (λ q. q * 256 + n / k % 256) (sym e) ∙ div-add-mod' (n / k) 256

party_back : (p : ℕ) → p < 2 ^ 16 → p % 256 + p / 256 % 256 * 256 ≡ p
party_back p small = omega arith

text_back :
    (x : List ℕ)
    → length x ≤ 300
    → take (min (length x % 256 + length x / 256 % 256 * 256) longest_text) (x ++ replicate (longest_text - length x) 0) ≡ x
text_back x short = take_at x (replicate (longest_text - length x) 0) _ (omega arith)

-- the row number in a tag
abbrev pub tag_number : List ℕ → ℕ
tag_number t = slice_index t 0 + slice_index t 1 * 256 + slice_index t 2 * 65536 + slice_index t 3 * 16777216

pub number_of_tag : (n : ℕ) → n < 2 ^ 32 → tag_number (row_tag n) ≡ n
number_of_tag n small =
    four_parts n (n / 256) (n / 65536) (n / 16777216) (n % 256) (n / 256 % 256) (n / 65536 % 256) (n / 16777216 % 256)
    (div-add-mod' n 256) (digit n 256 65536 (div-div-eq-div-mul n 256 256)) (digit n 65536 16777216 (div-div-eq-div-mul n 65536 256))
    (mod-eq_of_lt (div_below n 16777216 256 (lit< tt) small))

-- no row has the tag
pub untold :
    (es : List Entry) (at p : ℕ) (x t : List ℕ)
    → ((k : ℕ) → at ≤ k → k < at + length es → t ≢ row_tag k)
    → told_from at es p x t ≡ false
untold [] at p x t none = refl
untold (e ∷ es) at p x t none =
    or_from (same_triple p x t e.party e.text (row_tag at)) (told_from (suc at) es p x t)
    (other_tag p x t e.party e.text (row_tag at) (none at (omega arith) (omega arith)))
    (untold es (suc at) p x t (λ k low high. none k (omega arith) (omega arith)))

-- the one row that has the tag tells
pub told_at :
    (es : List Entry) (at k p : ℕ) (x t : List ℕ) (d : Entry)
    → k < length es
    → ((j : ℕ) → at ≤ j → j < at + length es → t ≡ row_tag j → j ≡ at + k)
    → told_from at es p x t ≡ same_triple p x t (get_or es k d).party (get_or es k d).text (row_tag (at + k))
told_at [] at k p x t d small only = absurd (omega arith)
told_at (e ∷ es) at zero p x t d small only =
    ap (λ b. same_triple p x t e.party e.text (row_tag at) || b)
    (untold es (suc at) p x t (λ k low high same. let far : k ≡ at + 0 = only k (omega arith) (omega arith) same in omega arith))
    ∙ or_false (same_triple p x t e.party e.text (row_tag at))
    ∙ ap (λ n. same_triple p x t e.party e.text (row_tag n)) (sym (add-zero at))
told_at (e ∷ es) at (suc k) p x t d small only =
    ap (λ b. b || told_from (suc at) es p x t)
    (other_tag p x t e.party e.text (row_tag at)
    (λ same. let far : at ≡ at + suc k = only at (omega arith) (omega arith) same in omega arith))
    ∙ told_at es (suc at) k p x t d (omega arith)
    (λ j low high same. let where_to : j ≡ at + suc k = only j (omega arith) (omega arith) same in omega arith)
    ∙ ap (λ n. same_triple p x t (get_or es k d).party (get_or es k d).text (row_tag n)) (next at k)

-- one row more at the end
pub told_push :
    (es : List Entry) (at p : ℕ) (x t : List ℕ) (e : Entry)
    → told_from at (es ++ e ∷ []) p x t ≡ (same_triple p x t e.party e.text (row_tag (at + length es)) || told_from at es p x t)
told_push [] at p x t e = ap (λ n. same_triple p x t e.party e.text (row_tag n) || false) (sym (add-zero at))
told_push (f ∷ es) at p x t e =
    ap (λ b. same_triple p x t f.party f.text (row_tag at) || b) (told_push es (suc at) p x t e)
    ∙ or_swap (same_triple p x t f.party f.text (row_tag at)) (same_triple p x t e.party e.text (row_tag (suc at + length es)))
    (told_from (suc at) es p x t)
    ∙ ap (λ n. same_triple p x t e.party e.text (row_tag n) || (same_triple p x t f.party f.text (row_tag at) || told_from (suc at) es p x t))
    (next at (length es))

-- a row tells what was written into it
pub entry_of_row : (p : ℕ) (x : List ℕ) → p < 2 ^ 16 → length x ≤ 300 → row_entry (row_bytes p x) ≡ record { party = p; text = x }
entry_of_row p x small short =
    λ i. record { party = party_back p small i; text = text_back x short i }

pushed :
    (rows p : ℕ) (x : List ℕ) (es : List Entry) (n : ℕ)
    → length es ≡ n
    → register_meaning rows (es ++ record { party = p; text = x } ∷ []) ≡ stamped (register_meaning rows es) p x (row_tag n)
pushed rows p x es n e =
    λ i. record {
      parties = known_party;
      left = limited (left_less i);
      accepts = λ q y t. accepted q y t i;
    }
  where
    left_less : rows - length (es ++ record { party = p; text = x } ∷ []) ≡ rows - length es - 1
    left_less = simp length_push (omega arith)

    accepted :
        (q : ℕ) (y t : List ℕ)
        → told_from 0 (es ++ record { party = p; text = x } ∷ []) q y t ≡ (same_triple q y t p x (row_tag n) || told_from 0 es q y t)
    accepted q y t =
        told_push es 0 q y t (record { party = p; text = x })
        ∙ ap (λ k. same_triple q y t p x (row_tag k) || told_from 0 es q y t) (zero-add (length es) ∙ e)

-- the meaning of a register with one row more
pub register_stamped :
    (rows p : ℕ) (x : List ℕ) (items after : List (List ℕ))
    → p < 2 ^ 16
    → length x ≤ 300
    → after ≡ items ++ row_bytes p x ∷ []
    → register_meaning rows (entries_of after) ≡ stamped (register_meaning rows (entries_of items)) p x (row_tag (length items))
register_stamped rows p x items after small short e =
    let told : (entries_of after ≡ entries_of items ++ record { party = p; text = x } ∷ []) =
    ap entries_of e
    ∙ map_push row_entry items (row_bytes p x)
    ∙ ap (λ f. entries_of items ++ f ∷ []) (entry_of_row p x small short) in
    ap (register_meaning rows) told ∙ pushed rows p x (entries_of items) (length items) (length-map items row_entry)

-- what a row tells has at most 300 bytes, and its tag has 32
row_sized :
    (row : List ℕ) (n p : ℕ) (x t : List ℕ)
    → same_triple p x t (row_entry row).party (row_entry row).text (row_tag n) ≡ true
    → (length x ≤ longest_text) × (length t ≡ tag_size)
row_sized row n p x t h = grind (arith, common_steps, and_parts, bytes_eq-Decides, length-take)

told_sized :
    (rows : List (List ℕ)) (at p : ℕ) (x t : List ℕ)
    → told_from at (entries_of rows) p x t ≡ true
    → (length x ≤ longest_text) × (length t ≡ tag_size)
told_sized [] at p x t h = absurd (false≢true h)
told_sized (row ∷ rows) at p x t h =
    ⊎_elim (row_sized row at p x t) (told_sized rows (suc at) p x t)
    (or_cases (same_triple p x t (row_entry row).party (row_entry row).text (row_tag at)) (told_from (suc at) (entries_of rows) p x t) h)

-- a tag of all ones is no row's
pub register_discerns : (rows : ℕ) (items : List (List ℕ)) → Discerning (register_meaning rows (entries_of items))
register_discerns rows items =
    record {
      sized = told_sized items 0;
      refuses = λ p x. (
        replicate 32 255,
        refl,
        untold (entries_of items) 0 p x (replicate 32 255)
            (λ k low high same. let last : ◌≡◌ {A = ℕ} 255 0 = ap (λ tag. slice_index tag 31) same in omega arith),
      );
    }

-- the ways of a check: a tag of another length, one of a number past the rows, and one of a row
pub other_length : (es : List Entry) (p : ℕ) (x t : List ℕ) → (length t ≢ 32) → false ≡ told_from 0 es p x t
other_length es p x t long = sym (untold es 0 p x t (λ k low high same. long (ap length same)))

pub past_rows :
    (items : List (List ℕ)) (p : ℕ) (x t : List ℕ)
    → length items ≤ 100000
    → length items ≤ tag_number t
    → false ≡ told_from 0 (entries_of items) p x t
past_rows items p x t few past =
    sym (untold (entries_of items) 0 p x t
    (λ k low high same. let number : tag_number t ≡ k = ap tag_number same ∙ number_of_tag k (omega (arith, length-map items row_entry)) in omega (arith, length-map items row_entry)))

pub at_row :
    (items : List (List ℕ)) (row : List ℕ) (p : ℕ) (x t : List ℕ) (n : ℕ)
    → n ≡ tag_number t
    → length items ≤ 100000
    → n < length items
    → row ≡ slice_index_or items n row
    → same_triple p x t (row_entry row).party (row_entry row).text (row_tag n) ≡ told_from 0 (entries_of items) p x t
at_row items row p x t n e few within read =
    sym (told_at (entries_of items) 0 n p x t (row_entry row) (omega (arith, length-map items row_entry))
    (λ j low high same. let number : tag_number t ≡ j = ap tag_number same ∙ number_of_tag j (omega (arith, length-map items row_entry)) in omega arith)
    ∙ ap (λ m. same_triple p x t (get_or (entries_of items) n (row_entry row)).party (get_or (entries_of items) n (row_entry row)).text (row_tag m)) (zero-add n)
    ∙ ap (λ f. same_triple p x t f.party f.text (row_tag n)) (get_or-map row_entry items n row (row_entry row) within ∙ ap row_entry (sym read)))

-- a register that may stamp a text has a row left for it
pub row_left :
    (rows p : ℕ) (x : List ℕ) (items : List (List ℕ))
    → true ≡ may_stamp (register_meaning rows (entries_of items)) p x
    → (length items < rows) × (length x ≤ longest_text) × (may_stamp (register_meaning rows (entries_of items)) p x ≡ true)
row_left rows p x items e =
    let both = and_parts (ready_for (register_meaning rows (entries_of items)) p) (nat_le (length x) longest_text) (sym e) in
    let left = ltb-true 0 (rows - length (entries_of items)) (and_parts (known_party p) _ both.0).1 in
    (omega (arith, left, length-map items row_entry), leb-true (length x) longest_text both.1, sym e)
