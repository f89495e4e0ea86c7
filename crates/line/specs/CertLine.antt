-- CERT: a tablet shows that a quorum of boxes gave one ANSWER.
use Rattle.std.specs.Prelude.{ℕ, zero, suc, ◌+◌, ◌*◌, Bool, true, cond, ◌&&◌, List, [], ◌∷◌, length, take, drop, Some, None, Option, ◌==◌, nat_le, nat_lt, Ok, Result}
use Rattle.fault.specs.declared.Fault.{Fault}
use Rattle.line.specs.Forms as forms
use Rattle.line.specs.Forms.{Form}
use Rattle.line.specs.AnswerLine as answer
use Rattle.line.specs.Layout.{part, number_at, most_size, header_size, tag_width, place_width, history_width, client_width, stamp_width, reply_width, count_width, replica_width}
use Rattle.line.specs.Parts.{Part, numeric, plain, listed, end_of}
use Rattle.line.specs.Rules.{in_numbers, in_clients}
use Rattle.line.specs.SetUp.{is_client, client_party, replicas_of, quorum_of}
use Rattle.line.specs.declared.cert.Cert.{Cert}
use Rattle.line.specs.declared.pit.Pit.{Pit}

-- what a CERT says; the entries are left as they lie
pub record Model : Type 0 where
  pub sender : ℕ
  pub view : ℕ
  pub place : ℕ
  pub history : List ℕ
  pub client : ℕ
  pub stamp : ℕ
  pub reply : List ℕ
  pub count : ℕ
  pub entries : List ℕ
  pub tag : List ℕ

-- an entry is a box's number and that box's tag
abbrev pub entry_size : ℕ
entry_size = replica_width + tag_width

-- where the tag begins in an entry
abbrev pub entry_tag_at : ℕ
entry_tag_at = replica_width

-- so many bytes have the entries of so many boxes
abbrev pub entries_size : ℕ → ℕ
entries_size count = entry_size * count

-- what lies between header and tag: place 10, history 14, client 46, stamp 48, reply 52, count 60, entries 62, and the tag behind them
abbrev pub parts : List Part
parts = numeric place_width ∷ plain history_width ∷ numeric client_width ∷ numeric stamp_width ∷ plain reply_width ∷ numeric count_width ∷ listed entry_size ∷ []

-- where the entries begin, behind six parts
abbrev pub entries_at : ℕ
entries_at = end_of 0 header_size (take 6 parts)

-- where the tag begins behind so many entries
abbrev pub tag_at : ℕ → ℕ
tag_at count = end_of count header_size parts

-- the size of a line with so many entries
abbrev pub size_of : ℕ → ℕ
size_of count = tag_at count + tag_width

-- what the record shows
abbrev pub shown : Cert → Model
shown r = record {
  sender = r.sender;
  view = r.view;
  place = r.place;
  history = r.history.now;
  client = r.client;
  stamp = r.stamp;
  reply = r.reply.now;
  count = r.count;
  entries = r.entries.now;
  tag = r.tag.now;
}

-- where entry i begins in the line
abbrev pub entry_at : ℕ → ℕ
entry_at i = entries_at + entry_size * i

-- the ANSWER that entry i stands for: that box's, with what the CERT says
abbrev pub entry_answer : Model → ℕ → answer.Model
entry_answer m i = record {
  sender = number_at replica_width (entry_size * i) m.entries;
  view = m.view;
  place = m.place;
  history = m.history;
  client = m.client;
  stamp = m.stamp;
  reply = m.reply;
  tag = part (entry_size * i + entry_tag_at) tag_width m.entries;
}

-- the same, where there is such an entry
abbrev pub answer_of : Model → ℕ → Option answer.Model
answer_of m i = cond (nat_le (entry_size * i + entry_size) (length m.entries)) (Some (entry_answer m i)) None

-- the box numbers of so many entries
abbrev pub voters : ℕ → List ℕ → List ℕ
voters zero entries = []
voters (suc n) entries = number_at replica_width 0 entries ∷ voters n (drop entry_size entries)

-- numbers that rise strictly, the first at least `low`, the last below `end`
abbrev pub rising : ℕ → ℕ → List ℕ → Bool
rising low end [] = true
rising low end (n ∷ ns) = nat_le low n && (nat_lt n end && rising (n + 1) end ns)

-- every field in its range
abbrev pub in_range : Pit → Model → Bool
in_range pit m =
    in_numbers m.place && (in_numbers m.stamp && (in_clients m.client && (m.sender == client_party m.client
    && (m.count == quorum_of pit && rising 0 (replicas_of pit) (voters (quorum_of pit) m.entries)))))

-- the parts of the text have their widths, and the size field can tell the size
abbrev pub text_shaped : Model → Bool
text_shaped m =
    (length m.history == history_width) && (length m.reply == reply_width
    && (length m.entries == entries_size m.count && nat_le (size_of m.count) most_size))

-- the kind
abbrev pub form : Form Model
form = record {
  kind = 4;
  parts = parts;
  count = λ m. m.count;
  sender = λ m. m.sender;
  view = λ m. m.view;
  values = λ m. (m.place, (m.history, (m.client, (m.stamp, (m.reply, (m.count, (m.entries, tt)))))));
  tag = λ m. m.tag;
  record_of = λ sender view vs tag. record {
    sender = sender;
    view = view;
    place = vs.0;
    history = vs.1.0;
    client = vs.1.1.0;
    stamp = vs.1.1.1.0;
    reply = vs.1.1.1.1.0;
    count = vs.1.1.1.1.1.0;
    entries = vs.1.1.1.1.1.1.0;
    tag = tag;
  };
  text_shaped = text_shaped;
  count_in = quorum_of;
  may_send = λ pit party. is_client party;
  in_range = in_range;
  inside = λ pit at bytes. Ok tt;
  inside_passes = λ pit m. true;
}

-- by their names
abbrev pub read : Pit → ℕ → List ℕ → Result Model Fault
read pit at bytes = forms.read form pit at bytes

abbrev pub shaped : Model → Bool
shaped m = forms.shaped form m

abbrev pub text : Model → List ℕ
text m = forms.text form m

abbrev pub line : Model → List ℕ
line m = forms.line form m

abbrev pub fields : Pit → List ℕ → Model
fields pit bytes = forms.fields_in form pit bytes
