use Rattle.std.proofs.Common.{ap, ◌∙◌}
use Rattle.seal.proofs.Writing.{three_writes, written}
use Rattle.seal.proofs.register.rows.row_of.Goals as goal

pub returns : goal.returns
returns c =
    three_writes _ _ _ _ c.args.text.now c.put.new.out c.put-2.new.out c.put-3.new.out
    (c.put.ensures ∙ ap (λ bytes. written _ 0 bytes) c.to_le_bytes.ensures)
    (c.put-2.ensures ∙ ap (λ bytes. written c.put.new.out 2 bytes) c.to_le_bytes-2.ensures)
    c.put-3.ensures
