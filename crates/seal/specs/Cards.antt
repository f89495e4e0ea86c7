-- The card: the keys of all 26 parties, in the hands of one of them.
use Rattle.std.specs.Prelude.{ℕ, Bool, cond, ◌&&◌, List, [], length, Some, None, Option, ◌==◌, nat_le, slice_index_or}
use Rattle.digest.specs.Hmac.{hmac_sha256_of}
use Rattle.std.specs.Str.{bytes_eq}
use Rattle.seal.specs.Meaning.{Meaning, unlimited, longest_text, tag_size}
use Rattle.seal.specs.Parties.{known_party, place_of}

abbrev pub key_of : List (List ℕ) → ℕ → List ℕ
key_of keys party = slice_index_or keys (place_of party) []

-- the tag of a text under a key, where the text is not too long
abbrev pub tag_under : List ℕ → List ℕ → Option (List ℕ)
tag_under key text = cond (nat_le (length text) longest_text) (Some (hmac_sha256_of key text)) None

-- the tag of a text under the key of the party, where it is one of the 26
abbrev pub card_tag : List (List ℕ) → ℕ → List ℕ → Option (List ℕ)
card_tag keys party text = cond (known_party party) (tag_under (key_of keys party) text) None

-- is it this tag, of 32 bytes?
abbrev pub is_tag : List ℕ → List ℕ → Bool
is_tag right tag = length tag == tag_size && bytes_eq tag right

-- a card accepts just the tags under the parties' keys
abbrev pub card_accepts : List (List ℕ) → ℕ → List ℕ → List ℕ → Bool
card_accepts keys p x t = known_party p && (nat_le (length x) longest_text && is_tag (hmac_sha256_of (key_of keys p) x) t)

-- it stamps without limit for its owner only, if that is one of the 26
abbrev pub card_meaning : ℕ → List (List ℕ) → Meaning
card_meaning owner keys =
    record { parties = λ p. (p == owner) && known_party owner; left = unlimited; accepts = card_accepts keys }
