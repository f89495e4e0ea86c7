-- Any agreement that is an equivalence has it.
use Rattle.vote.proofs.Quorum as quorum
use Rattle.vote.proofs.tally.one_quorum.Goals as goal

pub returns : goal.returns
returns g c = quorum.one_quorum g.V.Vote.agree g.met.V.Vote.equivalence
