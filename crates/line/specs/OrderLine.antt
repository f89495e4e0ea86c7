-- ORDER: the lead gives a CALL its place, and tells the history with it.
use Rattle.std.specs.Prelude.{ℕ, ◌+◌, Bool, ◌&&◌, List, [], ◌∷◌, length, take, ◌==◌, Ok, Result}
use Rattle.fault.specs.Checks.{◌>>◌}
use Rattle.fault.specs.declared.Fault.{Fault}
use Rattle.line.specs.Forms as forms
use Rattle.line.specs.Forms.{Form}
use Rattle.line.specs.CallLine as call
use Rattle.line.specs.Layout.{part, header_size, place_width, history_width}
use Rattle.line.specs.Parts.{Part, numeric, plain, end_of}
use Rattle.line.specs.Rules.{in_numbers}
use Rattle.line.specs.SetUp.{is_lead}
use Rattle.line.specs.declared.order.Order.{Order}
use Rattle.line.specs.declared.pit.Pit.{Pit}

-- what an ORDER says
pub record Model : Type 0 where
  pub sender : ℕ
  pub view : ℕ
  pub place : ℕ
  pub history : List ℕ
  pub call : call.Model
  pub tag : List ℕ

-- what the record shows
abbrev pub shown : Order → Model
shown r = record {
  sender = r.sender;
  view = r.view;
  place = r.place;
  history = r.history.now;
  call = call.shown r.call;
  tag = r.tag.now;
}

-- every field in its range
abbrev pub in_range : Model → Bool
in_range m = in_numbers m.place

-- the parts of the text have their widths
abbrev pub text_shaped : Model → Bool
text_shaped m = length m.history == history_width && call.shaped m.call

-- what lies between header and tag: place 10, history 14, CALL 46, tag 108
abbrev pub parts : List Part
parts = numeric place_width ∷ plain history_width ∷ plain call.size ∷ []

-- where the CALL begins, behind two parts
abbrev pub call_at : ℕ
call_at = end_of 0 header_size (take 2 parts)

-- 3 to 8 on the CALL
abbrev pub inside : Pit → ℕ → List ℕ → Result (Unit {0}) Fault
inside pit at bytes = do
  call.read_inside pit (at + call_at) (part call_at call.size bytes)
  Ok tt

-- the kind
abbrev pub form : Form Model
form = record {
  kind = 2;
  parts = parts;
  count = λ m. 0;
  sender = λ m. m.sender;
  view = λ m. m.view;
  values = λ m. (m.place, (m.history, (call.line m.call, tt)));
  tag = λ m. m.tag;
  record_of = λ sender view vs tag. record {
    sender = sender;
    view = view;
    place = vs.0;
    history = vs.1.0;
    call = call.fields vs.1.1.0;
    tag = tag;
  };
  text_shaped = text_shaped;
  count_in = λ pit. 0;
  may_send = is_lead;
  in_range = λ pit m. in_range m;
  inside = inside;
  inside_passes = λ pit m. call.passes pit m.call;
}

-- by their names
abbrev pub read : Pit → ℕ → List ℕ → Result Model Fault
read pit at bytes = forms.read form pit at bytes

abbrev pub shaped : Model → Bool
shaped m = forms.shaped form m

abbrev pub text : Model → List ℕ
text m = forms.text form m

abbrev pub line : Model → List ℕ
line m = forms.line form m

abbrev pub size : ℕ
size = forms.size_of form 0

abbrev pub fields : List ℕ → Model
fields bytes = forms.fields form 0 bytes

abbrev pub read_inside : Pit → ℕ → List ℕ → Result Model Fault
read_inside pit at bytes = forms.read_inside form pit at bytes

abbrev pub passes : Pit → Model → Bool
passes pit m = forms.passes form pit m
