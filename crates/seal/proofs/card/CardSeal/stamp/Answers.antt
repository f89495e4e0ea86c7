use Rattle.std.proofs.Common.{◌≡◌, Option, IfSome, List, ℕ, length, sym, subst, ◌∙◌}
use Rattle.std.proofs.lemmas.Bool.{and_from}
use Rattle.seal.specs.CardTags.{card_allows, card_stamped}
use Rattle.seal.specs.Meaning.{tag_size}
use Rattle.seal.proofs.card.CardSeal.stamp.Goals as goal

pub returns : goal.returns
returns c =
    let made = sym c.in_ok-tag.ensures.ok_part ∙ c.tag_of.ensures.value in
    let long = subst (λ (o : Option (List ℕ)). IfSome o (λ tag. length tag ≡ tag_size)) c.in_ok-tag.ensures.ok_part c.tag_of.ensures.size in
    record {
      allowed = and_from _ _ (sym c.if-not-ready.ensures) (card_allows c.args.self.now.keys c.args.party c.args.text.now c.in_ok-tag.tag made);
      size = long;
      becomes = card_stamped c.args.self.now.owner c.args.self.now.keys c.args.party c.args.text.now c.in_ok-tag.tag made long;
    }
