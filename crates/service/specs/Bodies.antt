-- What a body's 16 bytes hold: operation 2, a 2, b 2, w 4, then a tail of six.
use Rattle.std.specs.Prelude.{ℕ, Bool, ◌&&◌, List, take, drop, ◌==◌}
use Rattle.std.specs.List.{list_all}
use Rattle.service.specs.Numbers.{two_at, four_at}
use Rattle.service.specs.declared.body.Fields.{Fields}
use Rattle.service.specs.declared.body.Uses.{Uses}
use Rattle.service.specs.declared.body.Uses.TheVariants.{OnlyA, AAndB, AAndW, All}

-- whether every byte is zero
abbrev pub all_zero : List ℕ → Bool
all_zero bytes = list_all (λ byte. byte == 0) bytes

-- the fields of a body
abbrev pub fields_of : List ℕ → Fields
fields_of body = record { operation = two_at 0 body; a = two_at 2 body; b = two_at 4 body; w = four_at 6 body; padded = all_zero (take 6 (drop 10 body)) }

-- whether all that an operation does not use is zero: b and w as the case may be, and always the tail
abbrev pub unused_zero : Uses → Fields → Bool
unused_zero OnlyA f = f.b == 0 && (f.w == 0 && f.padded)
unused_zero AAndB f = f.w == 0 && f.padded
unused_zero AAndW f = f.b == 0 && f.padded
unused_zero All f = f.padded
