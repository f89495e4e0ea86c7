-- Lemmas, for the checker alone: what lies in parts is read from them again, and what is read from them lies so.
use Rattle.std.proofs.Common.{◌≡◌, ℕ, ◌+◌, ◌*◌, ◌≤◌, List, [], ◌∷◌, ◌++◌, length, take, refl, ap, ◌∙◌, arith, length-append}
use Rattle.std.proofs.lemmas.List.{append_assoc, take_at, drop_at, take-append-drop, take-take, drop-take}
use Rattle.line.specs.Layout.{part, number, bytes_of}
use Rattle.line.specs.Parts.{Part, numeric, plain, listed, Value, Values, value_bytes, followed_by, width, end_of, value_at, values_at}
use Rattle.line.specs.Laws.{AllSmall, AllWide, Bytes, Small, Wide}
use Rattle.line.specs.lemmas.Bytes.{number_bytes, bytes_part, length_bytes_of, part_long}

value_long : (count : ℕ) (p : Part) (v : Value p) → Wide count p v → length (value_bytes p v) ≡ width count p
value_long count (numeric w) v wide = length_bytes_of w v
value_long count (plain w) v wide = wide
value_long count (listed w) v wide = wide

pub values_long : (count : ℕ) (ps : List Part) (vs : Values ps) (front : List ℕ) (at : ℕ) → length front ≡ at → AllWide count ps vs
    → length (followed_by front ps vs) ≡ end_of count at ps
values_long count [] vs front at long wide = long
values_long count (p ∷ ps) vs front at long wide =
    values_long count ps vs.1 (front ++ value_bytes p vs.0) (at + width count p)
    (length-append front (value_bytes p vs.0) ∙ rw (long, value_long count p vs.0 wide.0)) wide.1

-- what stands in front stays there
front_stays : (ps : List Part) (vs : Values ps) (front rest : List ℕ) → (tail : List ℕ) × (followed_by front ps vs ++ rest ≡ front ++ tail)
front_stays [] vs front rest = (rest, refl)
front_stays (p ∷ ps) vs front rest =
    let more = front_stays ps vs.1 (front ++ value_bytes p vs.0) rest in
    (value_bytes p vs.0 ++ more.0, more.1 ∙ append_assoc front (value_bytes p vs.0) more.0)

value_back : (count : ℕ) (p : Part) (v : Value p) (front tail : List ℕ) (at : ℕ) → length front ≡ at → Wide count p v → Small p v
    → value_at count p at ((front ++ value_bytes p v) ++ tail) ≡ v
value_back count (numeric w) v front tail at long wide small =
    let here : part at w ((front ++ bytes_of w v) ++ tail) ≡ bytes_of w v =
    ap (λ bs. part at w bs) (append_assoc front (bytes_of w v) tail)
    ∙ ap (λ bs. take w bs) (drop_at front (bytes_of w v ++ tail) at long) ∙ take_at (bytes_of w v) tail w (length_bytes_of w v) in
    ap number here ∙ number_bytes w v small
value_back count (plain w) v front tail at long wide small =
    ap (λ bs. part at w bs) (append_assoc front v tail)
    ∙ ap (λ bs. take w bs) (drop_at front (v ++ tail) at long) ∙ take_at v tail w wide
value_back count (listed w) v front tail at long wide small =
    ap (λ bs. part at (w * count) bs) (append_assoc front v tail)
    ∙ ap (λ bs. take (w * count) bs) (drop_at front (v ++ tail) at long) ∙ take_at v tail (w * count) wide

-- what lies in parts is read from them again
pub values_back : (count : ℕ) (ps : List Part) (vs : Values ps) (front rest : List ℕ) (at : ℕ) → length front ≡ at → AllWide count ps vs → AllSmall ps vs
    → values_at count ps at (followed_by front ps vs ++ rest) ≡ vs
values_back count [] vs front rest at long wide small = refl
values_back count (p ∷ ps) vs front rest at long wide small =
    let tail = front_stays ps vs.1 (front ++ value_bytes p vs.0) rest in
    let first : value_at count p at (followed_by front (p ∷ ps) vs ++ rest) ≡ vs.0 =
    ap (λ bs. value_at count p at bs) tail.1 ∙ value_back count p vs.0 front tail.0 at long wide.0 small.0 in
    let others = values_back count ps vs.1 (front ++ value_bytes p vs.0) rest (at + width count p)
    (length-append front (value_bytes p vs.0) ∙ rw (long, value_long count p vs.0 wide.0)) wide.1 small.1 in
    rw (first, others)

take_more : (at w : ℕ) (bs : List ℕ) → take at bs ++ part at w bs ≡ take (at + w) bs
take_more at w bs =
    rw (← (take-take at (at + w) bs (omega arith)), ← (drop-take at w bs)) (take-append-drop at (take (at + w) bs))

value_forth : (count : ℕ) (p : Part) (at : ℕ) (bs : List ℕ) → Bytes bs → at + width count p ≤ length bs
    → value_bytes p (value_at count p at bs) ≡ part at (width count p) bs
value_forth count (numeric w) at bs h room = bytes_part at w bs h room
value_forth count (plain w) at bs h room = refl
value_forth count (listed w) at bs h room = refl

pub end_after : (count at : ℕ) (ps : List Part) → at ≤ end_of count at ps
end_after count at [] = omega arith
end_after count at (p ∷ ps) = let more = end_after count (at + width count p) ps in omega arith

-- what is read from parts lies so
pub values_forth : (count : ℕ) (ps : List Part) (at : ℕ) (bs : List ℕ) → Bytes bs → end_of count at ps ≤ length bs
    → followed_by (take at bs) ps (values_at count ps at bs) ≡ take (end_of count at ps) bs
values_forth count [] at bs h room = refl
values_forth count (p ∷ ps) at bs h room =
    let past = end_after count (at + width count p) ps in
    ap (λ front. followed_by front ps (values_at count ps (at + width count p) bs))
    (ap (λ x. take at bs ++ x) (value_forth count p at bs h (omega arith)) ∙ take_more at (width count p) bs)
    ∙ values_forth count ps (at + width count p) bs h room

value_wide : (count : ℕ) (p : Part) (at : ℕ) (bs : List ℕ) → at + width count p ≤ length bs → Wide count p (value_at count p at bs)
value_wide count (numeric w) at bs room = tt
value_wide count (plain w) at bs room = part_long at w bs room
value_wide count (listed w) at bs room = part_long at (w * count) bs room

-- what is read has the widths of the parts
pub values_wide : (count : ℕ) (ps : List Part) (at : ℕ) (bs : List ℕ) → end_of count at ps ≤ length bs → AllWide count ps (values_at count ps at bs)
values_wide count [] at bs room = tt
values_wide count (p ∷ ps) at bs room =
    let past = end_after count (at + width count p) ps in
    (value_wide count p at bs (omega arith), values_wide count ps (at + width count p) bs room)
