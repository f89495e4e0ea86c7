use Rattle.std.proofs.Common.{ℕ, [], ◌∷◌, length, drop, refl, ap, ◌∙◌, sym, arith, rules}
use Rattle.std.proofs.lemmas.List.{length-append, length-drop}
use Rattle.digest.specs.Sha256.{K, rounds}
use Rattle.digest.proofs.Rounds.{rounds_more, next_of}
use Rattle.digest.proofs.hash.Words.rounds.Goals as goal

pub loop-k-init : goal.loop-k-init
unfolding rounds
loop-k-init c = record { within = omega arith; constants = search rules; words = search rules; done = refl }

pub loop-k-preserved : goal.loop-k-preserved
loop-k-preserved c =
    let i = c.loop-k.invariant in
    let steps = c.in-Some.ensures.steps in
    let constant = next_of K (length c.loop-k.yielded) c.in-Some.k.now c.next.new.self.a.rest.now _ i.constants steps.0 in
    let word = next_of c.args.schedule.now (length c.loop-k.yielded) c.in-Some.w.now c.next.new.self.b.rest.now _ i.words steps.1 in
    let more = rounds_more c.args.schedule.now c.args.self (length c.loop-k.yielded) in
    let longer = length-append c.loop-k.yielded ((c.in-Some.k, c.in-Some.w) ∷ []) in
    record {
      within = omega (arith, ap length steps.0, ap length i.constants, length-drop (length c.loop-k.yielded) K);
      constants = constant.1 ∙ ap (λ (n : ℕ). drop n K) (sym longer);
      words = word.1 ∙ ap (λ (n : ℕ). drop n c.args.schedule.now) (sym longer);
      done = cc;
    }
