use Rattle.std.proofs.Common.{[], ◌∷◌, ◌++◌, length, vec_items, sym, ap, ◌∙◌, arith}
use Rattle.seal.specs.Meaning.{stamped}
use Rattle.seal.specs.Rows.{entries_of, register_meaning, row_tag}
use Rattle.seal.specs.Told.{register_stamped, row_left}
use Rattle.seal.proofs.register.sealing.RegisterSeal.stamp.Goals as goal

pub returns : goal.returns
returns c =
    let left = row_left c.args.self.now.limit c.args.party c.args.text.now (vec_items c.args.self.now.rows) c.if-not-may_stamp.ensures in
    record {
      allowed = left.2;
      size = ap length c.row_tag.ensures;
      becomes =
          register_stamped c.args.self.now.limit c.args.party c.args.text.now (vec_items c.args.self.now.rows) (vec_items c.push_reserved.new.self)
          (omega arith) left.1 (c.push_reserved.ensures.items ∙ ap (λ row. vec_items c.args.self.now.rows ++ row ∷ []) c.row_of.ensures)
          ∙ ap (stamped (register_meaning c.args.self.now.limit (entries_of (vec_items c.args.self.now.rows))) c.args.party c.args.text.now)
          (ap row_tag (sym c.args.self.now.rows.ok.0 ∙ sym c.len-number.ensures) ∙ sym c.row_tag.ensures);
    }
