-- CHARGE: a tablet shows two ORDERs of the lead that do not go together.
use Rattle.std.specs.Prelude.{ℕ, ◌+◌, Bool, true, ◌&&◌, List, [], ◌∷◌, take, Ok, Result}
use Rattle.fault.specs.Checks.{◌>>◌}
use Rattle.fault.specs.declared.Fault.{Fault}
use Rattle.line.specs.Forms as forms
use Rattle.line.specs.Forms.{Form}
use Rattle.line.specs.Layout.{part, header_size}
use Rattle.line.specs.OrderLine as order
use Rattle.line.specs.Parts.{Part, plain, end_of}
use Rattle.line.specs.SetUp.{is_client}
use Rattle.line.specs.declared.charge.Charge.{Charge}
use Rattle.line.specs.declared.pit.Pit.{Pit}

-- what a CHARGE says
pub record Model : Type 0 where
  pub sender : ℕ
  pub view : ℕ
  pub first : order.Model
  pub second : order.Model
  pub tag : List ℕ

-- what the record shows
abbrev pub shown : Charge → Model
shown r = record {
  sender = r.sender;
  view = r.view;
  first = order.shown r.first;
  second = order.shown r.second;
  tag = r.tag.now;
}

-- the ORDERs have their widths
abbrev pub text_shaped : Model → Bool
text_shaped m = order.shaped m.first && order.shaped m.second

-- what lies between header and tag: first ORDER 10, second 150, tag 290
abbrev pub parts : List Part
parts = plain order.size ∷ plain order.size ∷ []

-- where the ORDERs begin: right behind the header, and behind one part
abbrev pub first_at : ℕ
first_at = header_size

abbrev pub second_at : ℕ
second_at = end_of 0 header_size (take 1 parts)

-- 3 to 8 on the ORDERs in turn
abbrev pub inside : Pit → ℕ → List ℕ → Result (Unit {0}) Fault
inside pit at bytes = do
  order.read_inside pit (at + first_at) (part first_at order.size bytes)
  order.read_inside pit (at + second_at) (part second_at order.size bytes)
  Ok tt

-- the kind
abbrev pub form : Form Model
form = record {
  kind = 7;
  parts = parts;
  count = λ m. 0;
  sender = λ m. m.sender;
  view = λ m. m.view;
  values = λ m. (order.line m.first, (order.line m.second, tt));
  tag = λ m. m.tag;
  record_of = λ sender view vs tag. record {
    sender = sender;
    view = view;
    first = order.fields vs.0;
    second = order.fields vs.1.0;
    tag = tag;
  };
  text_shaped = text_shaped;
  count_in = λ pit. 0;
  may_send = λ pit party. is_client party;
  in_range = λ pit m. true;
  inside = inside;
  inside_passes = λ pit m. order.passes pit m.first && order.passes pit m.second;
}

-- by their names
abbrev pub read : Pit → ℕ → List ℕ → Result Model Fault
read pit at bytes = forms.read form pit at bytes

abbrev pub shaped : Model → Bool
shaped m = forms.shaped form m

abbrev pub text : Model → List ℕ
text m = forms.text form m

abbrev pub line : Model → List ℕ
line m = forms.line form m

abbrev pub size : ℕ
size = forms.size_of form 0
