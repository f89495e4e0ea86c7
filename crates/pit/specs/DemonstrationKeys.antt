-- The keys of demonstrations: everybody can work them out.
use Rattle.std.specs.Prelude.{◌≡◌, ℕ, ◌+◌, ◌-◌, ◌<◌, cond, List, [], Ok, Err, Result, nat_lt, slice_index_or}
use Rattle.digest.specs.Sha256.{sha256_of}
use Rattle.fault.specs.declared.Fault.{Fault}
use Rattle.seal.specs.Parties.{boxes, first_tablet, tablets}
use Rattle.seal.specs.Rows.{two_bytes}

-- the party that stands at a place among the 26
abbrev pub party_at : ℕ → ℕ
party_at place = cond (nat_lt place boxes) place (first_tablet + (place - boxes))

-- each key is SHA-256 of its party's number in two bytes
abbrev pub DemonstrationKeys : List (List ℕ) → ℕ → Type 0
DemonstrationKeys keys count = (place : ℕ) → place < count → slice_index_or keys place [] ≡ sha256_of (two_bytes (party_at place))

-- there they are, all of them, and nothing was refused
abbrev pub AllMade : Result (List (List ℕ)) Fault → Type 0
AllMade (Ok keys) = DemonstrationKeys keys (boxes + tablets)
AllMade (Err fault) = ⊥
