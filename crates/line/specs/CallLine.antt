-- CALL: a tablet asks for an operation, under a stamp of its own.
use Rattle.std.specs.Prelude.{ℕ, Bool, true, List, [], ◌∷◌, length, ◌==◌, Ok, Result}
use Rattle.fault.specs.declared.Fault.{Fault}
use Rattle.line.specs.Forms as forms
use Rattle.line.specs.Forms.{Form}
use Rattle.line.specs.Layout.{stamp_width, body_width}
use Rattle.line.specs.Parts.{Part, numeric, plain}
use Rattle.line.specs.Rules.{in_numbers}
use Rattle.line.specs.SetUp.{is_client}
use Rattle.line.specs.declared.call.Call.{Call}
use Rattle.line.specs.declared.pit.Pit.{Pit}

-- what a CALL says
pub record Model : Type 0 where
  pub sender : ℕ
  pub view : ℕ
  pub stamp : ℕ
  pub body : List ℕ
  pub tag : List ℕ

-- what the record shows
abbrev pub shown : Call → Model
shown r = record {
  sender = r.sender;
  view = r.view;
  stamp = r.stamp;
  body = r.body.now;
  tag = r.tag.now;
}

-- every field in its range
abbrev pub in_range : Model → Bool
in_range m = in_numbers m.stamp

-- the parts of the text have their widths
abbrev pub text_shaped : Model → Bool
text_shaped m = length m.body == body_width

-- what lies between header and tag: stamp 10, body 14, tag 30
abbrev pub parts : List Part
parts = numeric stamp_width ∷ plain body_width ∷ []

-- the kind
abbrev pub form : Form Model
form = record {
  kind = 1;
  parts = parts;
  count = λ m. 0;
  sender = λ m. m.sender;
  view = λ m. m.view;
  values = λ m. (m.stamp, (m.body, tt));
  tag = λ m. m.tag;
  record_of = λ sender view vs tag. record {
    sender = sender;
    view = view;
    stamp = vs.0;
    body = vs.1.0;
    tag = tag;
  };
  text_shaped = text_shaped;
  count_in = λ pit. 0;
  may_send = λ pit party. is_client party;
  in_range = λ pit m. in_range m;
  inside = λ pit at bytes. Ok tt;
  inside_passes = λ pit m. true;
}

-- by their names
abbrev pub read : Pit → ℕ → List ℕ → Result Model Fault
read pit at bytes = forms.read form pit at bytes

abbrev pub shaped : Model → Bool
shaped m = forms.shaped form m

abbrev pub text : Model → List ℕ
text m = forms.text form m

abbrev pub line : Model → List ℕ
line m = forms.line form m

abbrev pub size : ℕ
size = forms.size_of form 0

abbrev pub fields : List ℕ → Model
fields bytes = forms.fields form 0 bytes

abbrev pub read_inside : Pit → ℕ → List ℕ → Result Model Fault
read_inside pit at bytes = forms.read_inside form pit at bytes

abbrev pub passes : Pit → Model → Bool
passes pit m = forms.passes form pit m
