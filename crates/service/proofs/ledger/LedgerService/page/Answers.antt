-- Sixteen piles are 64 bytes.
use Rattle.std.proofs.Common.{◌≡◌, ℕ, length, arith}
use Rattle.service.specs.Pages.{front_of, length_page}
use Rattle.service.specs.Ledgers.{page_of}
use Rattle.service.proofs.ledger.LedgerService.page.Goals as goal

pub returns : goal.returns
returns c =
    let size : ◌≡◌ {A = ℕ} 64 (length (page_of c.args.self.now.piles)) = omega (arith, length_page c.args.self.now.piles) in
    record {
      len = size;
      bound = omega arith;
      after = c.write.ensures;
      front = front_of (page_of c.args.self.now.piles) c.args.buffer.now c.write.new.buffer 64 size c.write.ensures;
    }
