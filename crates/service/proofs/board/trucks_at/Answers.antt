-- There are 64 trucks, and each counts one at most.
use Rattle.std.proofs.Common.{rules, arith, ◌≤◌, ◌^◌, length}
use Rattle.std.proofs.lemmas.Iterator.{YieldsList-from_slice}
use Rattle.std.proofs.lemmas.Iterator.Adapters.{fits_from_length, at_most_from_yields_List}
use Rattle.service.proofs.board.trucks_at.Goals as goal

pub sum-requires-clause-fits : goal.sum-requires-clause-fits
sum-requires-clause-fits c =
    let few : length c.args.spots.now ≤ 64 = search rules in
    fits_from_length _ _ 64 (2 ^ 8) (at_most_from_yields_List (YieldsList-from_slice c.args.spots.now cc) few) c.map.ensures.closure (omega arith) (λ x r q k. search rules)
