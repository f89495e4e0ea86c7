use Rattle.std.proofs.Common.{arith, rules}
use Rattle.std.proofs.lemmas.List.{places}
use Rattle.std.proofs.lemmas.Bool.Decides.{nat_tests}
use Rattle.digest.proofs.message.overlay.Goals as goal

pub returns-then-from-to : goal.returns-then-from-to
returns-then-from-to c = record { same_length = search (rules, places); bytes = λ k h. grind (arith, nat_tests, places) }
