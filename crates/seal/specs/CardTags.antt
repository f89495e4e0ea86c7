-- What a card accepts: a tag that it gave was accepted before.
use Rattle.std.specs.Prelude.{◌≡◌, ℕ, Bool, true, false, cond, ◌&&◌, ◌||◌, List, length, replicate, Some, None, ◌==◌, nat_le, slice_index, refl}
use Rattle.std.proofs.Common.{⊎_elim, sym, ap, ◌∙◌, arith}
use Rattle.digest.specs.Hmac.{hmac_sha256_of}
use Rattle.std.proofs.lemmas.Slice.Eq.{bytes_eq-Decides}
use Rattle.std.proofs.lemmas.Bool.{and_from, and_parts, and_right, cases_Bool, eq-eqb, eqb-true, leb-true}
use Rattle.std.specs.Str.{bytes_eq}
use Rattle.seal.specs.Cards.{card_accepts, card_meaning, card_tag, is_tag, key_of}
use Rattle.seal.specs.Meaning.{Discerning, longest_text, same_triple, stamped, tag_size, unlimited}
use Rattle.seal.specs.Parties.{known_party}
use Rattle.seal.specs.Triples.{other_bytes, same_bytes, same_triples}

-- what a tag that was made tells
made_by :
    (known short : Bool) (tag right : List ℕ)
    → Some tag ≡ cond known (cond short (Some right) None) None
    → (known ≡ true) × (short ≡ true) × (tag ≡ right)
made_by true true tag right e = (refl, refl, cc)
made_by true false tag right e = let z : ◌≡◌ {A = ℕ} 0 1 = cc in absurd (omega arith)
made_by false short tag right e = let z : ◌≡◌ {A = ℕ} 0 1 = cc in absurd (omega arith)

accepts_made :
    (keys : List (List ℕ)) (p : ℕ) (x tag : List ℕ)
    → (known_party p ≡ true) × (nat_le (length x) longest_text ≡ true) × (tag ≡ hmac_sha256_of (key_of keys p) x)
    → length tag ≡ 32
    → card_accepts keys p x tag ≡ true
accepts_made keys p x tag made long =
    let right = hmac_sha256_of (key_of keys p) x in
    let same : bytes_eq tag right ≡ true = ap (λ u. bytes_eq tag u) (sym made.2) ∙ same_bytes tag in
    and_from (known_party p) _ made.0
    (and_from (nat_le (length x) longest_text) _ made.1 (and_from (length tag == tag_size) _ (eq-eqb (length tag) tag_size long) same))

absorbed : (a b : Bool) → (a ≡ true → b ≡ true) → b ≡ (a || b)
absorbed true b h = h refl
absorbed false b h = refl

-- a stamp changes nothing in what a card means
pub card_stamped :
    (owner : ℕ) (keys : List (List ℕ)) (p : ℕ) (x tag : List ℕ)
    → Some tag ≡ card_tag keys p x
    → length tag ≡ 32
    → card_meaning owner keys ≡ stamped (card_meaning owner keys) p x tag
card_stamped owner keys p x tag made long =
    λ i. record {
      parties = λ q. (q == owner) && known_party owner;
      left = unlimited;
      accepts = λ q y t. kept q y t i;
    }
  where
    kept : (q : ℕ) (y t : List ℕ) → card_accepts keys q y t ≡ (same_triple q y t p x tag || card_accepts keys q y t)
    kept q y t =
        absorbed (same_triple q y t p x tag) (card_accepts keys q y t)
        (λ same. let e = same_triples q y t p x tag same in
        (λ i. card_accepts keys (e.0 i) (e.1 i) (e.2 i)) ∙ accepts_made keys p x tag
        (made_by (known_party p) (nat_le (length x) longest_text) tag (hmac_sha256_of (key_of keys p) x) made) long)

pub card_allows :
    (keys : List (List ℕ)) (p : ℕ) (x tag : List ℕ) → Some tag ≡ card_tag keys p x → nat_le (length x) longest_text ≡ true
card_allows keys p x tag made =
    (made_by (known_party p) (nat_le (length x) longest_text) tag (hmac_sha256_of (key_of keys p) x) made).1

-- of the tags of all zeros and of all ones, one is not the right one
wrong_tag : (right : List ℕ) → (t : List ℕ) × (length t ≡ tag_size) × (is_tag right t ≡ false)
wrong_tag right =
    ⊎_elim
    (λ same. (
      replicate 32 1,
      refl,
      other_bytes (replicate 32 1) right
          (λ e. let first : ◌≡◌ {A = ℕ} 1 0 = ap (λ tag. slice_index tag 0) (e ∙ sym ((bytes_eq-Decides (replicate 32 0) right).0 same)) in omega arith),
    ))
    (λ other. (replicate 32 0, refl, other))
    (cases_Bool (bytes_eq (replicate 32 0) right))

pub card_discerns : (owner : ℕ) (keys : List (List ℕ)) → Discerning (card_meaning owner keys)
card_discerns owner keys =
    record {
      sized = λ p x t h.
          let one = and_parts (known_party p) (nat_le (length x) longest_text && is_tag (hmac_sha256_of (key_of keys p) x) t) h in
          let two = and_parts (nat_le (length x) longest_text) (is_tag (hmac_sha256_of (key_of keys p) x) t) one.1 in
          let three = and_parts (length t == tag_size) (bytes_eq t (hmac_sha256_of (key_of keys p) x)) two.1 in
          (leb-true (length x) longest_text two.0, eqb-true (length t) tag_size three.0);
      refuses = λ p x.
          let wrong = wrong_tag (hmac_sha256_of (key_of keys p) x) in (
            wrong.0,
            wrong.1,
            and_right (known_party p) (nat_le (length x) longest_text && is_tag (hmac_sha256_of (key_of keys p) x) wrong.0)
                (and_right (nat_le (length x) longest_text) (is_tag (hmac_sha256_of (key_of keys p) x) wrong.0) wrong.2),
          );
    }
