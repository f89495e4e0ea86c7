-- How values lie in a line, one part behind another.
use Rattle.std.specs.Prelude.{ℕ, ◌+◌, ◌*◌, List, [], ◌∷◌, ◌++◌}
use Rattle.line.specs.Layout.{part, number_at, bytes_of}

-- a part of a line: a number of a width, bytes of a width, or as many entries of a width as the line has
pub data Part : Type 0 where
  numeric : ℕ → Part
  plain : ℕ → Part
  listed : ℕ → Part

-- what lies in a part
abbrev pub Value : Part → Type 0
Value (numeric w) = ℕ
Value (plain w) = List ℕ
Value (listed w) = List ℕ

-- what lies in parts, one behind another
abbrev pub Values : List Part → Type 0
Values [] = Unit {0}
Values (p ∷ ps) = Value p × Values ps

-- the bytes of what lies in a part
abbrev pub value_bytes : (p : Part) → Value p → List ℕ
value_bytes (numeric w) n = bytes_of w n
value_bytes (plain w) bytes = bytes
value_bytes (listed w) bytes = bytes

-- some bytes, and behind them what lies in parts
abbrev pub followed_by : List ℕ → (ps : List Part) → Values ps → List ℕ
followed_by front [] vs = front
followed_by front (p ∷ ps) vs = followed_by (front ++ value_bytes p vs.0) ps vs.1

-- how wide a part is in a line of so many entries
abbrev pub width : ℕ → Part → ℕ
width count (numeric w) = w
width count (plain w) = w
width count (listed w) = w * count

-- where parts end that begin at an offset
abbrev pub end_of : ℕ → ℕ → List Part → ℕ
end_of count at [] = at
end_of count at (p ∷ ps) = end_of count (at + width count p) ps

-- what bytes say at an offset
abbrev pub value_at : ℕ → (p : Part) → ℕ → List ℕ → Value p
value_at count (numeric w) at bytes = number_at w at bytes
value_at count (plain w) at bytes = part at w bytes
value_at count (listed w) at bytes = part at (w * count) bytes

-- what they say in parts
abbrev pub values_at : ℕ → (ps : List Part) → ℕ → List ℕ → Values ps
values_at count [] at bytes = tt
values_at count (p ∷ ps) at bytes = (value_at count p at bytes, values_at count ps (at + width count p) bytes)
