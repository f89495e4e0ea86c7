-- The memory lent to a call for what it writes: how much it needs, and what a call leaves in it.
use Rattle.std.specs.Prelude.{ℕ, List, ◌++◌, length, drop}
use Rattle.line.specs.CertLine as cert

-- the memory with bytes written over its front, the rest left as it was
abbrev pub over_front : List ℕ → List ℕ → List ℕ
over_front bytes out = bytes ++ drop (length bytes) out

-- 2f+1 for the largest f
abbrev pub largest_quorum : ℕ
largest_quorum = 7

-- every call that may write asks for room for the largest line that any call writes: a CERT of the largest pit
abbrev pub least_room : ℕ
least_room = cert.size_of largest_quorum
