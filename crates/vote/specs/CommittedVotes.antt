-- COMMITTEDs as votes.
use Rattle.std.specs.Prelude.{Bool, ◌&&◌, ◌==◌, Ok, Result}
use Rattle.fault.specs.Checks.{check, ◌>>◌}
use Rattle.fault.specs.declared.Fault.{Fault}
use Rattle.fault.specs.declared.Reason.TheVariants.{Room}
use Rattle.line.specs.CommittedLine.{Model, shaped}
use Rattle.std.specs.Str.{bytes_eq}
use Rattle.vote.specs.declared.Ballot.{Ballot}
use Rattle.vote.specs.declared.committed.CommittedClaim.{CommittedClaim}

-- the vote that a COMMITTED of the right shape is
abbrev pub committed_row : Model → Ballot CommittedClaim (Unit {0})
committed_row m = record {
  sender = m.sender;
  claim = record { place = m.place; history = m.history; client = m.client; stamp = m.stamp };
  tag = tt;
}

-- the vote that a COMMITTED is, or refusal 2 where a part has not its width
abbrev pub committed_vote : Model → Result (Ballot CommittedClaim (Unit {0})) Fault
committed_vote m = check (shaped m) Room 0 >> Ok (committed_row m)

-- two COMMITTEDs agree in all that stands between header and tag: place, history, tablet and stamp
abbrev pub committeds_agree : CommittedClaim → CommittedClaim → Bool
committeds_agree v w = (v.place == w.place) && (bytes_eq v.history w.history && ((v.client == w.client) && (v.stamp == w.stamp)))
