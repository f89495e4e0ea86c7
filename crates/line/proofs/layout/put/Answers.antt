-- Only the part that is written changes.
use Rattle.std.proofs.Common.{length, refl}
use Rattle.line.proofs.Puts.{behind_laid}
use Rattle.line.proofs.layout.put.Goals as goal

pub returns-clause-behind : goal.returns-clause-behind
returns-clause-behind c =
    behind_laid c.args.bytes.now c.copy_from_slice.new.self c.args.out.now c.args.at (length c.args.bytes.now) c.copy_from_slice.ensures.after refl c.requires
