-- How calls are linked into histories.
use Rattle.std.specs.Prelude.{ℕ, List, ◌++◌, replicate}
use Rattle.digest.specs.Sha256.{sha256_of}

-- the history before place 1
abbrev pub no_history : List ℕ
no_history = replicate 32 0

-- the input to a history: the former one, and the CALL's text
abbrev pub link_input : List ℕ → List ℕ → List ℕ
link_input history call_text = history ++ call_text

-- the history after one more CALL, by the CALL's text
abbrev pub link : List ℕ → List ℕ → List ℕ
link history call_text = sha256_of (link_input history call_text)
