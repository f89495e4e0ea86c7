use Rattle.std.proofs.Common.{◌≡◌, get_or, ◌≤◌, ◌<◌, [], ◌∷◌, length, ap, ⊎_elim, arith}
use Rattle.std.proofs.lemmas.List.{length-append, length-drop, drop_more}
use Rattle.seal.proofs.Bytewise.{gathered_more, gathered_all}
use Rattle.seal.proofs.card.difference.Goals as goal

pub loop-x-preserved : goal.loop-x-preserved
loop-x-preserved c =
    let i = c.loop-x.invariant in
    let steps = c.in-Some.ensures.steps in
    let longer = length-append c.loop-x.yielded ((c.in-Some.x, c.in-Some.y) ∷ []) in
    let inside : length c.loop-x.yielded < 32 = omega (arith, ap length steps.0, ap length i.first, length-drop (length c.loop-x.yielded) c.args.a.now) in
    let more = gathered_more c.loop-x.difference (length c.loop-x.yielded) c.args.a.now c.args.b.now (omega arith) (omega arith) i.gathered in
    let x = drop_more c.args.a.now (length c.loop-x.yielded) 0 (omega arith) in
    let y = drop_more c.args.b.now (length c.loop-x.yielded) 0 (omega arith) in
    let this : c.in-Some.x.now ≡ get_or c.args.a.now (length c.loop-x.yielded) 0 = cc in
    let that : c.in-Some.y.now ≡ get_or c.args.b.now (length c.loop-x.yielded) 0 = cc in
    record { within = omega (arith, longer); first = cc; second = cc; gathered = rw (longer, this, that) more }

pub returns : goal.returns
returns c =
    let i = c.loop-x.invariant in
    let all : 32 ≤ length c.loop-x.yielded =
    ⊎_elim (λ none. omega (arith, none.1.0, ap length i.first, length-drop (length c.loop-x.yielded) c.args.a.now))
    (λ none. omega (arith, none.1.0, ap length i.second, length-drop (length c.loop-x.yielded) c.args.b.now)) c.in-None.ensures.steps
    in
    gathered_all c.loop-x.difference (length c.loop-x.yielded) c.args.a.now c.args.b.now (omega (arith, i.within)) (omega (arith, i.within)) i.gathered
