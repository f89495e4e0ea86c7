-- What a seal is to those who use it: for whom it stamps, how often still, and what it accepts.
use Rattle.std.specs.Prelude.{◌≡◌, ℕ, ◌-◌, ◌≤◌, Bool, true, false, ◌&&◌, ◌||◌, List, length, Ok, Err, Result, ◌==◌, nat_le, nat_lt}
use Rattle.fault.specs.Checks.{fault_at}
use Rattle.fault.specs.declared.Fault.{Fault}
use Rattle.std.specs.Str.{bytes_eq}
use Rattle.fault.specs.declared.Reason.TheVariants.{SealNotReady}

-- how many stamps are left
pub data Left : Type 0 where
  limited : ℕ → Left
  unlimited : Left

pub record Meaning : Type 0 where
  pub parties : ℕ → Bool
  pub left : Left
  -- party, text, tag
  pub accepts : ℕ → List ℕ → List ℕ → Bool

-- the longest text that is stamped, in bytes
abbrev pub longest_text : ℕ
longest_text = 300

-- the bytes of a tag
abbrev pub tag_size : ℕ
tag_size = 32

abbrev pub some_left : Left → Bool
some_left (limited n) = nat_lt 0 n
some_left unlimited = true

abbrev pub one_less : Left → Left
one_less (limited n) = limited (n - 1)
one_less unlimited = unlimited

-- it stamps for the party, and a stamp is left
abbrev pub ready_for : Meaning → ℕ → Bool
ready_for m party = m.parties party && some_left m.left

abbrev pub may_stamp : Meaning → ℕ → List ℕ → Bool
may_stamp m party text = ready_for m party && nat_le (length text) longest_text

-- are these two triples of party, text and tag the same?
abbrev pub same_triple : ℕ → List ℕ → List ℕ → ℕ → List ℕ → List ℕ → Bool
same_triple p x t q y u = p == q && (bytes_eq x y && bytes_eq t u)

-- the seal after a stamp: one stamp less, and one triple more that it accepts
abbrev pub stamped : Meaning → ℕ → List ℕ → List ℕ → Meaning
stamped m party text tag =
    record { parties = m.parties; left = one_less m.left; accepts = λ p x t. same_triple p x t party text tag || m.accepts p x t }

-- no seal accepts all: only tags of 32 bytes for texts that may be stamped, and never every tag for a text
pub record Discerning (m : Meaning) : Type 0 where
  pub sized : (p : ℕ) (x t : List ℕ) → m.accepts p x t ≡ true → (length x ≤ longest_text) × (length t ≡ tag_size)
  pub refuses : (p : ℕ) (x : List ℕ) → (t : List ℕ) × (length t ≡ tag_size) × (m.accepts p x t ≡ false)

-- a stamp was given, and this tag is it
pub record Given (before after : Meaning) (party : ℕ) (text tag : List ℕ) : Type 0 where
  pub allowed : may_stamp before party text ≡ true
  pub size : length tag ≡ tag_size
  pub becomes : after ≡ stamped before party text tag

-- 12 at 0: a stamp was refused, and the seal is what it was
pub record Denied (before after : Meaning) (party : ℕ) (text : List ℕ) (fault : Fault) : Type 0 where
  pub disallowed : may_stamp before party text ≡ false
  pub refusal : fault ≡ fault_at SealNotReady 0
  pub same : after ≡ before

-- what a request for a stamp did to the seal and answered
abbrev pub Stamping : Meaning → Meaning → ℕ → List ℕ → Result (List ℕ) Fault → Type 0
Stamping before after party text (Ok tag) = Given before after party text tag
Stamping before after party text (Err fault) = Denied before after party text fault
