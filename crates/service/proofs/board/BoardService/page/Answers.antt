-- Sixty-four bytes stand in front of what the buffer held.
use Rattle.std.proofs.Common.{◌≡◌, ℕ, ◌++◌, length, drop, rules}
use Rattle.service.specs.Pages.{front_of}
use Rattle.service.specs.Meaning.{over_front}
use Rattle.service.proofs.board.BoardService.page.Goals as goal

pub returns : goal.returns
returns c =
    let size : ◌≡◌ {A = ℕ} 64 (length c.args.self.now.spots) = search rules in
    let was : c.copy_from_slice.new.self ++ drop 64 c.args.buffer.now ≡ over_front c.args.self.now.spots c.args.buffer.now = search rules in
    record {
      len = size;
      bound = search rules;
      after = was;
      front = front_of c.args.self.now.spots c.args.buffer.now (c.copy_from_slice.new.self ++ drop 64 c.args.buffer.now) 64 size was;
    }
