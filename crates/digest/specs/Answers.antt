-- What the public functions answer: which sizes are refused, with 2 at offset 0, and else the digest.
use Rattle.std.specs.Prelude.{ℕ, ◌+◌, List, ◌++◌, length, ◌==◌, nat_le, Ok, Result}
use Rattle.digest.specs.Hmac.{hmac_sha256_of}
use Rattle.digest.specs.Sha256.{sha256_of}
use Rattle.fault.specs.Checks.{check, ◌>>◌}
use Rattle.fault.specs.declared.Fault.{Fault}
use Rattle.fault.specs.declared.Reason.TheVariants.{Room}

-- a message of at most 1,000,000 bytes has its digest
abbrev pub sha256_answer : List ℕ → Result (List ℕ) Fault
sha256_answer message = check (nat_le (length message) 1000000) Room 0 >> Ok (sha256_of message)

-- two parts of together at most 1,000,000 bytes have the digest of the one followed by the other
abbrev pub sha256_two_answer : List ℕ → List ℕ → Result (List ℕ) Fault
sha256_two_answer first second = check (nat_le (length first + length second) 1000000) Room 0 >> Ok (sha256_of (first ++ second))

-- a work block of 64 bytes, a key of at most 131 and a text of at most 300
abbrev pub hmac_answer : List ℕ → List ℕ → ℕ → Result (List ℕ) Fault
hmac_answer key text work_length = do
  check (work_length == 64) Room 0
  check (nat_le (length key) 131) Room 0
  check (nat_le (length text) 300) Room 0
  Ok (hmac_sha256_of key text)
