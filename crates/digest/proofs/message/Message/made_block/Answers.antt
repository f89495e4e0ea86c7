use Rattle.std.proofs.Common.{◌≡◌, ℕ, ◌+◌, ◌-◌, ◌*◌, ◌≤◌, List, [], ◌∷◌, length, subst, subst₂, ◌∙◌, ap, sym}
use Rattle.std.proofs.lemmas.List.{length-append}
use Rattle.digest.specs.Padding.{Overlaid, padded_length}
use Rattle.digest.specs.Sha256.{padded, nth_block, long_bytes}
use Rattle.digest.proofs.Blocks.{assembled}
use Rattle.digest.proofs.message.Message.made_block.Goals as goal

pub returns : goal.returns
returns c =
    let both : length c.args.self.now ≡ length c.self.inside.first.now + length c.self.inside.second.now = ap length (sym c.self.view_is) ∙ length-append _ _ in
    let len : c.len-len.result ≡ length c.self.inside.first.now + length c.self.inside.second.now = c.len-len.ensures.len ∙ both in
    assembled c.self.inside.first.now c.self.inside.second.now c.args.i c.overlay.new.block c.overlay-2.new.block c.overlay-3.new.block c.overlay-4.new.block
    (subst (λ (n : ℕ). 64 * c.args.i + 64 ≤ padded_length n) both c.requires) c.overlay.ensures c.overlay-2.ensures
    (subst (λ (n : ℕ). Overlaid (64 * c.args.i) (0x80 ∷ []) n c.overlay-2.new.block c.overlay-3.new.block) len c.overlay-3.ensures)
    (subst₂ (λ (part : List ℕ) (at : ℕ). Overlaid (64 * c.args.i) part at c.overlay-3.new.block c.overlay-4.new.block)
    (c.to_be_bytes.ensures ∙ ap (λ (n : ℕ). long_bytes (8 * n)) len) (ap (λ (n : ℕ). n - 8) (c.padded_len.ensures ∙ ap padded_length both)) c.overlay-4.ensures)
    ∙ ap (λ (m : List ℕ). nth_block (padded m) c.args.i) c.self.view_is
