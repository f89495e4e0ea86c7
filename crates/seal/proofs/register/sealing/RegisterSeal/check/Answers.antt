use Rattle.std.proofs.Common.{vec_items, ◌∙◌, arith}
use Rattle.std.proofs.lemmas.Bool.{le-ltb}
use Rattle.seal.specs.Told.{at_row, other_length, past_rows}
use Rattle.seal.proofs.register.sealing.RegisterSeal.check.Goals as goal

pub returns-then-tag-ne-TAG_SIZE : goal.returns-then-tag-ne-TAG_SIZE
returns-then-tag-ne-TAG_SIZE c =
    other_length _ c.args.party c.args.text.now c.args.tag.now c.if-tag-ne-TAG_SIZE.true

pub returns-then-at-len : goal.returns-then-at-len
returns-then-at-len c =
    c.tells.ensures
    ∙ at_row (vec_items c.args.self.now.rows) c.index.result.now c.args.party c.args.text.now c.args.tag.now
    c.from_le_bytes-number.result c.from_le_bytes-number.ensures (omega (arith, c.args.self.now.rows.ok.0))
    (omega (arith, c.args.self.now.rows.ok.0)) c.index.ensures

pub returns-else-at-len : goal.returns-else-at-len
returns-else-at-len c =
    le-ltb c.from_le_bytes-number.result c.len.result c.if-at-len.false
    ∙ past_rows (vec_items c.args.self.now.rows) c.args.party c.args.text.now c.args.tag.now
    (omega (arith, c.args.self.now.rows.ok.0)) (omega (arith, c.args.self.now.rows.ok.0))
