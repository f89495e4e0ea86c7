-- The register: rows that tell which party stamped which text, and what it accepts by them.
use Rattle.std.specs.Prelude.{ℕ, suc, ◌+◌, ◌-◌, ◌*◌, ◌/◌, ◌%◌, min, Bool, false, ◌||◌, List, [], ◌∷◌, ◌++◌, map, length, take, drop, replicate, slice_index}
use Rattle.seal.specs.Meaning.{Meaning, limited, longest_text, same_triple}
use Rattle.seal.specs.Parties.{known_party}

-- what a row tells: this party stamped this text
pub record Entry : Type 0 where
  pub party : ℕ
  pub text : List ℕ

-- the most rows that a register can have
abbrev pub most_rows : ℕ
most_rows = 100000

-- a number in two bytes and in four, the low byte first
abbrev pub two_bytes : ℕ → List ℕ
two_bytes n = (n % 256) ∷ (n / 256 % 256) ∷ []

abbrev pub four_bytes : ℕ → List ℕ
four_bytes n = (n % 256) ∷ (n / 256 % 256) ∷ (n / 65536 % 256) ∷ (n / 16777216 % 256) ∷ []

-- the 304 bytes of a row: party, length of the text, the text, zeros
abbrev pub row_bytes : ℕ → List ℕ → List ℕ
row_bytes party text = two_bytes party ++ (two_bytes (length text) ++ (text ++ replicate (longest_text - length text) 0))

-- what the bytes of a row tell
abbrev pub row_entry : List ℕ → Entry
row_entry row =
    record { party = slice_index row 0 + slice_index row 1 * 256; text = take (min (slice_index row 2 + slice_index row 3 * 256) longest_text) (drop 4 row) }

-- the tag of a row: its number from 0 in four bytes, then zeros
abbrev pub row_tag : ℕ → List ℕ
row_tag number = four_bytes number ++ replicate 28 0

-- does the row of that number, or one after it, tell the party and the text under that tag?
abbrev pub told_from : ℕ → List Entry → ℕ → List ℕ → List ℕ → Bool
told_from number [] p x t = false
told_from number (e ∷ es) p x t = same_triple p x t e.party e.text (row_tag number) || told_from (suc number) es p x t

-- a register of that many rows in all, these of them written
abbrev pub register_meaning : ℕ → List Entry → Meaning
register_meaning rows entries =
    record { parties = known_party; left = limited (rows - length entries); accepts = told_from 0 entries }

abbrev pub entries_of : List (List ℕ) → List Entry
entries_of rows = map row_entry rows
