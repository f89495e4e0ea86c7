-- What is the same for every kind of lines: how its records lie in bytes, and checks 3 to 8.
use Rattle.std.specs.Prelude.{ℕ, ◌+◌, Bool, ◌&&◌, List, [], ◌∷◌, ◌++◌, length, ◌==◌, nat_eq, Ok, Result}
use Rattle.fault.specs.Checks.{◌>>◌}
use Rattle.fault.specs.declared.Fault.{Fault}
use Rattle.line.specs.Layout.{part, number_at, header_size, kind_width, sender_at, sender_width, size_width, tag_width, view_at, view_width}
use Rattle.line.specs.Parts.{Part, numeric, Values, followed_by, end_of, values_at}
use Rattle.line.specs.Rules.{entered, sized, ruled, written, memory_after}
use Rattle.line.specs.declared.pit.Pit.{Pit}

-- a kind of lines, whose lines say an M
pub record Form (M : Type 0) : Type 0 where
  -- the number of the kind, and the parts between header and tag
  pub kind : ℕ
  pub parts : List Part
  -- how many entries a record has, and what lies where
  pub count : M → ℕ
  pub sender : M → ℕ
  pub view : M → ℕ
  pub values : M → Values parts
  pub tag : M → List ℕ
  -- the record that says all that: sender, view, values, tag
  pub record_of : ℕ → ℕ → Values parts → List ℕ → M
  -- whether the parts of the text have their widths
  pub text_shaped : M → Bool
  -- in a pit: how many entries a line has, who may send it, whether every field is in its range
  pub count_in : Pit → ℕ
  pub may_send : Pit → ℕ → Bool
  pub in_range : Pit → M → Bool
  -- checks 3 to 8 on the lines inside one that begins at an offset, and whether a record's inner ones pass them
  pub inside : Pit → ℕ → List ℕ → Result (Unit {0}) Fault
  pub inside_passes : Pit → M → Bool

module _ {M : Type 0} (form : Form M) where
  -- header and parts
  abbrev pub all_parts : List Part
  all_parts = numeric size_width ∷ numeric kind_width ∷ numeric sender_width ∷ numeric view_width ∷ form.parts

  -- where the tag begins behind so many entries
  abbrev pub tag_at : ℕ → ℕ
  tag_at count = end_of count 0 all_parts

  -- the size of a line with so many entries
  abbrev pub size_of : ℕ → ℕ
  size_of count = tag_at count + tag_width

  -- what lies in header and parts
  abbrev pub all_values : M → Values all_parts
  all_values m = (size_of (form.count m), (form.kind, (form.sender m, (form.view m, form.values m))))

  -- what is stamped
  unfoldable pub text : M → List ℕ
  text m = followed_by [] all_parts (all_values m)

  -- what is sent
  abbrev pub line : M → List ℕ
  line m = text m ++ form.tag m

  -- the parts of the text have their widths, and so has the tag
  abbrev pub shaped : M → Bool
  shaped m = form.text_shaped m && length (form.tag m) == tag_width

  -- what the bytes of a line with so many entries say
  abbrev pub fields : ℕ → List ℕ → M
  fields count bytes =
      form.record_of (number_at sender_width sender_at bytes) (number_at view_width view_at bytes)
      (values_at count form.parts header_size bytes) (part (tag_at count) tag_width bytes)

  -- the size of a line in a pit, and what its bytes say
  abbrev pub size_in : Pit → ℕ
  size_in pit = size_of (form.count_in pit)

  abbrev pub fields_in : Pit → List ℕ → M
  fields_in pit bytes = fields (form.count_in pit) bytes

  -- checks 6 to 8 on a line that begins at an offset
  abbrev pub judged : Pit → ℕ → List ℕ → Result (Unit {0}) Fault
  judged pit at bytes =
      ruled pit at (number_at view_width view_at bytes) (form.may_send pit (number_at sender_width sender_at bytes))
      (form.in_range pit (fields_in pit bytes))

  -- checks 5 to 8 on the line itself
  abbrev pub checked : Pit → ℕ → List ℕ → Result (Unit {0}) Fault
  checked pit at bytes = do
    sized (size_in pit) at bytes
    judged pit at bytes

  -- checks 5 to 8, and then 3 to 8 on the lines inside
  abbrev pub read : Pit → ℕ → List ℕ → Result M Fault
  read pit at bytes = do
    sized (size_in pit) at bytes
    judged pit at bytes
    form.inside pit at bytes
    Ok (fields_in pit bytes)

  -- checks 3 to 8 on a line of this kind inside another
  abbrev pub read_inside : Pit → ℕ → List ℕ → Result M Fault
  read_inside pit at bytes = do
    entered at bytes (λ k. nat_eq k form.kind)
    read pit at bytes

  -- a record passes checks 3 to 8
  abbrev pub passes : Pit → M → Bool
  passes pit m =
      shaped m && (form.view m == pit.view && (form.may_send pit (form.sender m)
      && (form.in_range pit m && form.inside_passes pit m)))

  -- what writing a record's text answers, and what the memory holds then
  abbrev pub text_written : M → List ℕ → Result ℕ Fault
  text_written m out = written (form.text_shaped m) (tag_at (form.count m)) out

  abbrev pub text_memory : M → List ℕ → List ℕ
  text_memory m out = memory_after (form.text_shaped m) (tag_at (form.count m)) (text m) out

  -- what writing its line answers, and what the memory holds then
  abbrev pub line_written : M → List ℕ → Result ℕ Fault
  line_written m out = written (shaped m) (size_of (form.count m)) out

  abbrev pub line_memory : M → List ℕ → List ℕ
  line_memory m out = memory_after (shaped m) (size_of (form.count m)) (line m) out
