-- Each refusal's number, and what it means in a few words. docs/REFUSALS.md has the whole rule of each.
use Rattle.std.specs.Prelude.{ℕ, List, ◌++◌, codes, decimal}
use Rattle.fault.specs.declared.Fault.{Fault}
use Rattle.fault.specs.declared.Reason.{Reason}
use Rattle.fault.specs.declared.Reason.TheVariants.{SetUp, Room, LineSize, Kind, KindSize, View, Sender, Range, Tag, Halted, Outdated, SealNotReady, Gap, History, Stamp, Window, Full, NoSheet, NoConflict, Phase, Foreign, Twice, NoQuorum, NotFinished}

-- the number by which a refusal is known on the radio, in the traces and in the documents
abbrev pub number_of : Reason → ℕ
number_of SetUp = 1
number_of Room = 2
number_of LineSize = 3
number_of Kind = 4
number_of KindSize = 5
number_of View = 6
number_of Sender = 7
number_of Range = 8
number_of Tag = 9
number_of Halted = 10
number_of Outdated = 11
number_of SealNotReady = 12
number_of Gap = 13
number_of History = 14
number_of Stamp = 15
number_of Window = 16
number_of Full = 17
number_of NoSheet = 18
number_of NoConflict = 19
number_of Phase = 20
number_of Foreign = 21
number_of Twice = 22
number_of NoQuorum = 23
number_of NotFinished = 24

-- what a person is told of a refusal
abbrev pub meaning_of : Reason → List ℕ
meaning_of SetUp = codes "no such set-up"
meaning_of Room = codes "memory of a size that is not allowed"
meaning_of LineSize = codes "the line's size field is wrong"
meaning_of Kind = codes "a kind that is not taken here"
meaning_of KindSize = codes "not the size of its kind"
meaning_of View = codes "another view"
meaning_of Sender = codes "a sender that may not send this"
meaning_of Range = codes "a field out of its range"
meaning_of Tag = codes "a tag that the seal does not accept"
meaning_of Halted = codes "this box has stood down"
meaning_of Outdated = codes "outdated"
meaning_of SealNotReady = codes "the seal refuses to stamp"
meaning_of Gap = codes "an earlier place is missing"
meaning_of History = codes "another history"
meaning_of Stamp = codes "the stamp is not new"
meaning_of Window = codes "too far ahead of the base"
meaning_of Full = codes "all numbers are used up"
meaning_of NoSheet = codes "no sheet yet"
meaning_of NoConflict = codes "the two orders do not conflict"
meaning_of Phase = codes "not in this state of the tablet"
meaning_of Foreign = codes "not of the present call"
meaning_of Twice = codes "this box was counted already"
meaning_of NoQuorum = codes "too few boxes agree"
meaning_of NotFinished = codes "the call has not finished"

-- how a fault is printed: `refusal 9 at byte 46: a tag that the seal does not accept`
abbrev pub printed : Fault → List ℕ
printed f = codes "refusal " ++ (decimal (number_of f.reason) ++ (codes " at byte " ++ (decimal f.offset ++ (codes ": " ++ meaning_of f.reason))))
