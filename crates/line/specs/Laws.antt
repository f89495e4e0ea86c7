-- The laws of lines of one kind, and what a kind shows of its form so that they hold.
use Rattle.std.specs.Prelude.{◌≡◌, ℕ, ◌*◌, ◌^◌, ◌<◌, true, List, [], ◌∷◌, length, get_or, Ok}
use Rattle.line.specs.Forms.{Form, tag_at, size_of, text, line, size_in, fields_in, read_inside, passes}
use Rattle.line.specs.Layout.{header_size}
use Rattle.line.specs.Parts.{Part, numeric, plain, listed, Value, Values, values_at}
use Rattle.line.specs.declared.pit.Pit.{Pit}

-- every element is a byte
abbrev pub Bytes : List ℕ → Type 0
Bytes bs = (i : ℕ) → get_or bs i 0 < 256

-- the numbers of a pit are ones that its memory can hold
abbrev pub Held : Pit → Type 0
Held pit = (pit.f < 256) × (pit.view < 2 ^ 32)

-- a record that passes checks 3 to 8, written and read, comes back
abbrev pub ComesBack : {M : Type 0} → Form M → Type 0
ComesBack {M} form = (pit : Pit) (at : ℕ) (m : M) → Held pit → passes form pit m ≡ true → read_inside form pit at (line form m) ≡ Ok m

-- a line that reads is the line that its record writes, and its record passes
abbrev pub IsWritten : {M : Type 0} → Form M → Type 0
IsWritten {M} form = (pit : Pit) (at : ℕ) (bytes : List ℕ) (m : M) → Bytes bytes → read_inside form pit at bytes ≡ Ok m
    → (line form m ≡ bytes) × (passes form pit m ≡ true)

-- a text whose parts have their widths ends where its tag begins
abbrev pub EndsAtTag : {M : Type 0} → Form M → Type 0
EndsAtTag {M} form = (m : M) → form.text_shaped m ≡ true → length (text form m) ≡ tag_at form (form.count m)

-- What follows is for the proof of these laws: nothing that a caller is promised rests on it.

-- bytes have the width of their part
abbrev pub Wide : ℕ → (p : Part) → Value p → Type 0
Wide count (numeric w) n = Unit {0}
Wide count (plain w) bytes = length bytes ≡ w
Wide count (listed w) bytes = length bytes ≡ w * count

abbrev pub AllWide : ℕ → (ps : List Part) → Values ps → Type 0
AllWide count [] vs = Unit {0}
AllWide count (p ∷ ps) vs = Wide count p vs.0 × AllWide count ps vs.1

-- a number fits the width of its part
abbrev pub Small : (p : Part) → Value p → Type 0
Small (numeric w) n = n < 256 ^ w
Small (plain w) bytes = Unit {0}
Small (listed w) bytes = Unit {0}

abbrev pub AllSmall : (ps : List Part) → Values ps → Type 0
AllSmall [] vs = Unit {0}
AllSmall (p ∷ ps) vs = Small p vs.0 × AllSmall ps vs.1

-- what a kind shows of its form, for a record and for bytes
pub record Shows {M : Type 0} (form : Form M) : Type 0 where
  pub kind_fits : form.kind < 256 ^ 2
  pub sender_fits : (pit : Pit) (party : ℕ) → Held pit → form.may_send pit party ≡ true → party < 256 ^ 2
  pub size_fits : (m : M) → form.text_shaped m ≡ true → size_of form (form.count m) < 256 ^ 2
  pub counted : (pit : Pit) (m : M) → form.in_range pit m ≡ true → form.count m ≡ form.count_in pit
  pub wide : (m : M) → form.text_shaped m ≡ true → AllWide (form.count m) form.parts (form.values m)
  pub small : (pit : Pit) (m : M) → Held pit → form.in_range pit m ≡ true → AllSmall form.parts (form.values m)
  pub says : (pit : Pit) (m : M) → Held pit → form.inside_passes pit m ≡ true → form.record_of (form.sender m) (form.view m) (form.values m) (form.tag m) ≡ m
  pub inside_back : (pit : Pit) (at : ℕ) (m : M) (bs : List ℕ) → Held pit → form.inside_passes pit m ≡ true
      → values_at (form.count m) form.parts header_size bs ≡ form.values m → form.inside pit at bs ≡ Ok tt
  pub sender_said : (s v : ℕ) (vs : Values form.parts) (t : List ℕ) → form.sender (form.record_of s v vs t) ≡ s
  pub view_said : (s v : ℕ) (vs : Values form.parts) (t : List ℕ) → form.view (form.record_of s v vs t) ≡ v
  pub tag_said : (s v : ℕ) (vs : Values form.parts) (t : List ℕ) → form.tag (form.record_of s v vs t) ≡ t
  pub values_said : (pit : Pit) (at : ℕ) (bs : List ℕ) → Bytes bs → length bs ≡ size_in form pit → form.inside pit at bs ≡ Ok tt
      → form.values (fields_in form pit bs) ≡ values_at (form.count_in pit) form.parts header_size bs
  pub shaped_said : (pit : Pit) (at : ℕ) (bs : List ℕ) → length bs ≡ size_in form pit → length bs < 256 ^ 2
      → form.in_range pit (fields_in form pit bs) ≡ true → form.inside pit at bs ≡ Ok tt → form.text_shaped (fields_in form pit bs) ≡ true
  pub inside_said : (pit : Pit) (at : ℕ) (bs : List ℕ) → length bs ≡ size_in form pit → form.inside pit at bs ≡ Ok tt → form.inside_passes pit (fields_in form pit bs) ≡ true
