-- What `find` finds is the first row that leads.
use Rattle.std.proofs.Common.{◌≡◌, rules, ap, ◌∙◌}
use Rattle.std.proofs.lemmas.Iterator.{YieldsList-from_slice}
use Rattle.std.proofs.lemmas.Iterator.Search.{find_from_yields_List}
use Rattle.std.specs.List.{find}
use Rattle.std.specs.Option.{option_copied, option_flatten}
use borrow.Author.Tests.{tests}
use Rattle.vote.specs.Counting.{leads}
use Rattle.vote.proofs.Leading.{found_leads}
use Rattle.vote.proofs.tally.first_leading.Goals as goal

pub returns : goal.returns
returns g c =
    let found : option_copied c.find.result ≡ find (leads g.V.Vote.agree c.args.n c.args.rows.now) c.args.rows.now =
    find_from_yields_List (leads g.V.Vote.agree c.args.n c.args.rows.now) _ _ c.find.result c.find.ensures.ran (YieldsList-from_slice c.args.rows.now cc) (λ x b q k. search (rules, tests)) in
    c.flatten.ensures ∙ ap option_flatten (c.copied.ensures ∙ found) ∙ found_leads g.V.Vote.agree c.args.n c.args.rows.now c.args.rows.now
