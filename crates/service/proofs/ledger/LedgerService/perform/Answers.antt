-- What `apply` did to the piles, seen at the pages.
use Rattle.std.proofs.Common.{◌∙◌}
use Rattle.service.specs.Pages.{performs, answers}
use Rattle.service.proofs.ledger.LedgerService.perform.Goals as goal

pub returns : goal.returns
returns c = record {
  after = performs c.args.self.now.piles c.apply.new.self.piles c.apply.result c.from.result c.args._tablet c.args.body.now c.args.self.now.within c.from.ensures c.apply.ensures;
  answer = c.bytes.ensures ∙ answers c.args.self.now.piles c.apply.new.self.piles c.apply.result c.from.result c.args._tablet c.args.body.now c.args.self.now.within c.from.ensures c.apply.ensures;
}
