use Rattle.std.proofs.Common.{arith, List, ℕ, ap, ◌∙◌}
use Rattle.digest.specs.Sha256.{padded, nth_block}
use Rattle.digest.proofs.Blocks.{lent, lent_first, lent_second}
use Rattle.digest.proofs.message.Message.lent_block.Goals as goal

pub returns-in_ok-get-in-None : goal.returns-in_ok-get-in-None
returns-in_ok-get-in-None c =
    let found = c.in_ok-get-in-None.ensures.lookup.0 in
    lent c.in_ok-get-in-None.field-0.now _ c.first_chunk.result c.first_chunk.ensures.cases
    (λ h. lent_first c.self.inside.first.now c.self.inside.second.now _ c.args.i c.in_ok-start.start (omega arith) (cc) h
    ∙ ap (λ (m : List ℕ). nth_block (padded m) c.args.i) c.self.view_is)

pub returns-in_ok-get-in-Some : goal.returns-in_ok-get-in-Some
returns-in_ok-get-in-Some c =
    let found = c.in_ok-get-in-Some.ensures.lookup.0 in
    lent c.in_ok-get-in-Some.field-0.now _ c.first_chunk-in-Some.result c.first_chunk-in-Some.ensures.cases
    (λ h. lent_second c.self.inside.first.now c.self.inside.second.now _ c.args.i c.in-Some.at (omega arith) (cc) h
    ∙ ap (λ (m : List ℕ). nth_block (padded m) c.args.i) c.self.view_is)
