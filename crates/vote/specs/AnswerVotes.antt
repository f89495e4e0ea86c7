-- ANSWERs as votes.
use Rattle.std.specs.Prelude.{ℕ, List, Bool, ◌&&◌, ◌==◌, Ok, Result}
use Rattle.fault.specs.Checks.{check, ◌>>◌}
use Rattle.fault.specs.declared.Fault.{Fault}
use Rattle.fault.specs.declared.Reason.TheVariants.{Room}
use Rattle.line.specs.AnswerLine.{Model, shaped}
use Rattle.std.specs.Str.{bytes_eq}
use Rattle.vote.specs.declared.Ballot.{Ballot}
use Rattle.vote.specs.declared.answer.AnswerClaim.{AnswerClaim}

-- the vote that an ANSWER of the right shape is
abbrev pub answer_row : Model → Ballot AnswerClaim (List ℕ)
answer_row m = record {
  sender = m.sender;
  claim = record { place = m.place; history = m.history; reply = m.reply };
  tag = m.tag;
}

-- the vote that an ANSWER is, or refusal 2 where a part has not its width
abbrev pub answer_vote : Model → Result (Ballot AnswerClaim (List ℕ)) Fault
answer_vote m = check (shaped m) Room 0 >> Ok (answer_row m)

-- two ANSWERs agree in place, history and reply; the tag does not count
abbrev pub answers_agree : AnswerClaim → AnswerClaim → Bool
answers_agree v w = (v.place == w.place) && (bytes_eq v.history w.history && bytes_eq v.reply w.reply)
