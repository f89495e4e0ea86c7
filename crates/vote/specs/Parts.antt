-- Parts of a line, taken as they are where they have their width.
use Rattle.std.specs.Prelude.{ℕ, List, length, ◌==◌, Ok, Result}
use Rattle.fault.specs.Checks.{check, ◌>>◌}
use Rattle.fault.specs.declared.Fault.{Fault}
use Rattle.fault.specs.declared.Reason.TheVariants.{Room}

-- the bytes themselves, or refusal 2 where they have another width
abbrev pub taken : ℕ → List ℕ → Result (List ℕ) Fault
taken width bytes = check (length bytes == width) Room 0 >> Ok bytes
