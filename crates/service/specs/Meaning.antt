-- What a service is to the machines above it.
use Rattle.std.specs.Prelude.{◌≡◌, ℕ, ◌≤◌, List, ◌++◌, length, drop}

-- the page that it holds now, the page that it starts with, and the rule that turns a page, a tablet's number and a body into the next page and a reply
pub record Meaning : Type 0 where
  pub page : List ℕ
  pub start : List ℕ
  pub rule : List ℕ → ℕ → List ℕ → (List ℕ × List ℕ)

-- the service after a tablet's body: the page follows the rule, and nothing else changes
abbrev pub performed : Meaning → ℕ → List ℕ → Meaning
performed m tablet body = record { page = (m.rule m.page tablet body).0; start = m.start; rule = m.rule }

-- what a tablet's body is answered
abbrev pub answered : Meaning → ℕ → List ℕ → List ℕ
answered m tablet body = (m.rule m.page tablet body).1

-- a buffer with the page written over its front
abbrev pub over_front : List ℕ → List ℕ → List ℕ
over_front page buffer = page ++ drop (length page) buffer

-- pages stay within 256 bytes, and each reply has 8 bytes
pub record Sound (m : Meaning) : Type 0 where
  pub start_fits : length m.start ≤ 256
  pub page_fits : (page : List ℕ) (tablet : ℕ) (body : List ℕ) → length page ≤ 256 → length (m.rule page tablet body).0 ≤ 256
  pub reply_fits : (page : List ℕ) (tablet : ℕ) (body : List ℕ) → length (m.rule page tablet body).1 ≡ 8
