-- Each word's bytes stand behind those of the words before it.
use Rattle.std.proofs.Common.{◌≡◌, ℕ, List, ◌++◌, sym, ap, ◌∙◌, arith}
use Rattle.std.proofs.lemmas.List.{take_all}
use Rattle.digest.specs.Sha256.{digest_bytes}
use Rattle.digest.proofs.hash.Words.write.Goals as goal

behind : {x y z : List ℕ} (more : List ℕ) → x ≡ y ++ more → y ≡ z → x ≡ z ++ more
behind more e f = e ∙ ap (λ (l : List ℕ). l ++ more) f

pub returns : goal.returns
unfolding digest_bytes
returns c =
    sym (take_all 32 c.put_word-8.new.bytes (omega arith))
    ∙ behind _ c.put_word-8.ensures (behind _ c.put_word-7.ensures (behind _ c.put_word-6.ensures (behind _ c.put_word-5.ensures (behind _ c.put_word-4.ensures (behind _ c.put_word-3.ensures (behind _ c.put_word-2.ensures c.put_word.ensures))))))
