-- ANSWER: a box tells a tablet its call's place, the history up to there, and the reply.
use Rattle.std.specs.Prelude.{ℕ, Bool, true, ◌&&◌, List, [], ◌∷◌, length, ◌==◌, Ok, Result}
use Rattle.fault.specs.declared.Fault.{Fault}
use Rattle.line.specs.Forms as forms
use Rattle.line.specs.Forms.{Form}
use Rattle.line.specs.Layout.{place_width, history_width, client_width, stamp_width, reply_width}
use Rattle.line.specs.Parts.{Part, numeric, plain}
use Rattle.line.specs.Rules.{in_numbers, in_clients}
use Rattle.line.specs.SetUp.{is_replica}
use Rattle.line.specs.declared.answer.Answer.{Answer}
use Rattle.line.specs.declared.pit.Pit.{Pit}

-- what an ANSWER says
pub record Model : Type 0 where
  pub sender : ℕ
  pub view : ℕ
  pub place : ℕ
  pub history : List ℕ
  pub client : ℕ
  pub stamp : ℕ
  pub reply : List ℕ
  pub tag : List ℕ

-- what the record shows
abbrev pub shown : Answer → Model
shown r = record {
  sender = r.sender;
  view = r.view;
  place = r.place;
  history = r.history.now;
  client = r.client;
  stamp = r.stamp;
  reply = r.reply.now;
  tag = r.tag.now;
}

-- every field in its range
abbrev pub in_range : Model → Bool
in_range m = in_numbers m.place && in_numbers m.stamp && in_clients m.client

-- the parts of the text have their widths
abbrev pub text_shaped : Model → Bool
text_shaped m = length m.history == history_width && length m.reply == reply_width

-- what lies between header and tag: place 10, history 14, client 46, stamp 48, reply 52, tag 60
abbrev pub parts : List Part
parts = numeric place_width ∷ plain history_width ∷ numeric client_width ∷ numeric stamp_width ∷ plain reply_width ∷ []

-- the kind
abbrev pub form : Form Model
form = record {
  kind = 3;
  parts = parts;
  count = λ m. 0;
  sender = λ m. m.sender;
  view = λ m. m.view;
  values = λ m. (m.place, (m.history, (m.client, (m.stamp, (m.reply, tt)))));
  tag = λ m. m.tag;
  record_of = λ sender view vs tag. record {
    sender = sender;
    view = view;
    place = vs.0;
    history = vs.1.0;
    client = vs.1.1.0;
    stamp = vs.1.1.1.0;
    reply = vs.1.1.1.1.0;
    tag = tag;
  };
  text_shaped = text_shaped;
  count_in = λ pit. 0;
  may_send = is_replica;
  in_range = λ pit m. in_range m;
  inside = λ pit at bytes. Ok tt;
  inside_passes = λ pit m. true;
}

-- by their names
abbrev pub read : Pit → ℕ → List ℕ → Result Model Fault
read pit at bytes = forms.read form pit at bytes

abbrev pub shaped : Model → Bool
shaped m = forms.shaped form m

abbrev pub text : Model → List ℕ
text m = forms.text form m

abbrev pub line : Model → List ℕ
line m = forms.line form m

abbrev pub size : ℕ
size = forms.size_of form 0
