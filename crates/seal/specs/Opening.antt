-- How a register opens: with no row written, or not at all.
use Rattle.std.specs.Prelude.{◌≡◌, ℕ, ◌<◌, ◌≤◌, [], Ok, Err, vec_items, Result}
use Rattle.seal.specs.declared.register.Register.{Register}
use Rattle.seal.specs.declared.register.Unopened.{Unopened}
use Rattle.seal.specs.declared.register.Unopened.TheVariants.{TooManyRows, NoMemory}
use Rattle.seal.specs.Rows.{entries_of, most_rows, register_meaning}

abbrev pub Opening : ℕ → Result Register Unopened → Type 0
Opening rows (Ok register) =
    (rows ≤ most_rows) × (register_meaning register.limit (entries_of (vec_items register.rows)) ≡ register_meaning rows [])
Opening rows (Err TooManyRows) = most_rows < rows
Opening rows (Err NoMemory) = rows ≤ most_rows
