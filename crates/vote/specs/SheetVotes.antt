-- SHEETs as votes.
use Rattle.std.specs.Prelude.{Bool, ◌&&◌, ◌==◌, Ok, Result}
use Rattle.fault.specs.Checks.{check, ◌>>◌}
use Rattle.fault.specs.declared.Fault.{Fault}
use Rattle.fault.specs.declared.Reason.TheVariants.{Room}
use Rattle.line.specs.SheetLine.{Model, shaped}
use Rattle.std.specs.Str.{bytes_eq}
use Rattle.vote.specs.declared.Ballot.{Ballot}
use Rattle.vote.specs.declared.sheet.SheetClaim.{SheetClaim}

-- the vote that a SHEET of the right shape is
abbrev pub sheet_row : Model → Ballot SheetClaim (Unit {0})
sheet_row m = record {
  sender = m.sender;
  claim = record { place = m.place; history = m.history; print = m.print };
  tag = tt;
}

-- the vote that a SHEET is, or refusal 2 where a part has not its width
abbrev pub sheet_vote : Model → Result (Ballot SheetClaim (Unit {0})) Fault
sheet_vote m = check (shaped m) Room 0 >> Ok (sheet_row m)

-- two SHEETs agree in all that stands between header and tag: place, history and print
abbrev pub sheets_agree : SheetClaim → SheetClaim → Bool
sheets_agree v w = (v.place == w.place) && (bytes_eq v.history w.history && bytes_eq v.print w.print)
