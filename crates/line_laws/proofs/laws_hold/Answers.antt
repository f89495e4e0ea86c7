-- The laws are proved in the file beside.
use Rattle.line_laws.proofs.Returns.{comes_back_line, is_written_line, text_tells}
use Rattle.line_laws.proofs.laws_hold.Goals as goal

pub returns : goal.returns
returns c = record {
  comes_back = λ pit m held h. comes_back_line pit held m h;
  is_written = is_written_line;
  text_tells = text_tells;
}
