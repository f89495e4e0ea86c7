-- Pages in buffers, and the ledger's page: what is written is read again.
use Rattle.std.proofs.lemmas.Grind.{common_steps}
use Rattle.std.specs.Prelude.{◌≡◌, ℕ, suc, ◌+◌, ◌*◌, ◌/◌, ◌%◌, ◌<◌, ◌≤◌, List, [], ◌∷◌, ◌++◌, length, take, drop, slice_index, refl}
use Rattle.std.proofs.Math.Nat.{div-add-mod, div-div-eq-div-mul}
use Rattle.std.proofs.Common.{mod-eq_of_lt, arith, ap, sym, ◌∙◌}
use Rattle.std.proofs.lemmas.List.{append_assoc, drop_at, drop-drop, flat_map_more, take_at, take_more, length-take-le}
use Rattle.service.specs.Bodies.{fields_of}
use Rattle.service.specs.Ledgers.{Within, ledger, ledger_rule, page_of, piles_of}
use Rattle.service.specs.Meaning.{answered, over_front, performed}
use Rattle.service.specs.Numbers.{four, four_bytes}
use Rattle.service.specs.Replies.{Reply, reply_bytes}
use Rattle.service.specs.declared.body.Fields.{Fields}

-- the front of a buffer that a page was written over
pub front_of : (page buffer after : List ℕ) (n : ℕ) → n ≡ length page → after ≡ over_front page buffer → take n after ≡ page
front_of page buffer after n size was = ap (take n) was ∙ take_at page (drop (length page) buffer) n (sym size)

pub length_page : (piles : List ℕ) → length (page_of piles) ≡ 4 * length piles
length_page [] = refl
length_page (p ∷ piles) = let more = length_page piles in omega arith

four_again : (n : ℕ) → n ≤ 1000000000 → four (n % 256) (n / 256 % 256) (n / 65536 % 256) (n / 16777216 % 256) ≡ n
four_again n h = grind (arith, common_steps, div-add-mod, div-div-eq-div-mul, mod-eq_of_lt)

-- the piles of a page are those that it was written from
pub piles_again : (piles : List ℕ) → Within piles → piles_of (page_of piles) ≡ piles
piles_again [] within = refl
piles_again (p ∷ piles) within =
    let first = four_again p (within 0) in
    let others = piles_again piles (λ k. within (suc k)) in
    cc

-- a buffer with bytes written over it from a place on
abbrev over_at : ℕ → List ℕ → List ℕ → List ℕ
over_at place bytes buffer = take place buffer ++ (bytes ++ drop (place + length bytes) buffer)

-- one pile more is written behind those that were written
pub write_more : (piles buffer : List ℕ) (k : ℕ) → k < length piles → over_at (4 * k) (four_bytes (slice_index piles k)) (page_of (take k piles) ++ drop (4 * k) buffer) ≡ page_of (take (k + 1) piles) ++ drop (4 * (k + 1)) buffer
write_more piles buffer k h =
    let done = page_of (take k piles) in
    let rest = drop (4 * k) buffer in
    let bytes = four_bytes (slice_index piles k) in
    let size : length done ≡ 4 * k = length_page (take k piles) ∙ ap (λ n. 4 * n) (length-take-le k piles (omega arith)) in
    let front : take (4 * k) (done ++ rest) ≡ done = take_at done rest (4 * k) size in
    let back : drop (4 * k + 4) (done ++ rest) ≡ drop (4 * k + 4) buffer = (sym (drop-drop 4 (4 * k) (done ++ rest)) ∙ ap (drop 4) (drop_at done rest (4 * k) size)) ∙ drop-drop 4 (4 * k) buffer in
    let step : 4 * k + 4 ≡ 4 * (k + 1) = omega arith in
    let longer : page_of (take (k + 1) piles) ≡ done ++ bytes = ap page_of (take_more piles k 0 h) ∙ sym (flat_map_more four_bytes [] (take k piles) (slice_index piles k)) in
    let together : (done ++ bytes) ++ drop (4 * (k + 1)) buffer ≡ done ++ (bytes ++ drop (4 * (k + 1)) buffer) = append_assoc done bytes (drop (4 * (k + 1)) buffer) in
    cc

-- the same at what a turn of the loop finds and leaves
pub written : (piles buffer before after bytes : List ℕ) (k : ℕ) → k < length piles → before ≡ page_of (take k piles) ++ drop (4 * k) buffer → bytes ≡ four_bytes (slice_index piles k) → after ≡ over_at (4 * k) bytes before → after ≡ page_of (take (k + 1) piles) ++ drop (4 * (k + 1)) buffer
written piles buffer before after bytes k h was these put = let more = write_more piles buffer k h in cc

-- the rule on the piles is the rule on the pages
at_pages : (piles : List ℕ) (f : Fields) (body : List ℕ) → Within piles → f ≡ fields_of body → ledger_rule piles f ≡ ledger_rule (piles_of (page_of piles)) (fields_of body)
at_pages piles f body within read = let again = piles_again piles within in cc

pub performs : (piles after : List ℕ) (reply : Reply) (f : Fields) (tablet : ℕ) (body : List ℕ) → Within piles → f ≡ fields_of body → (after, reply) ≡ ledger_rule piles f → ledger after ≡ performed (ledger piles) tablet body
performs piles after reply f tablet body within read did = ap (λ (out : List ℕ × Reply). ledger out.0) (did ∙ at_pages piles f body within read)

pub answers : (piles after : List ℕ) (reply : Reply) (f : Fields) (tablet : ℕ) (body : List ℕ) → Within piles → f ≡ fields_of body → (after, reply) ≡ ledger_rule piles f → reply_bytes reply ≡ answered (ledger piles) tablet body
answers piles after reply f tablet body within read did = ap (λ (out : List ℕ × Reply). reply_bytes out.1) (did ∙ at_pages piles f body within read)
