use Rattle.std.proofs.Common.{◌≡◌, ◌∙◌, ◌&&◌, ◌+◌, ◌∷◌, [], ℕ, Bool, List, not, length, sym, ap, subst, arith}
use Rattle.graph.specs.Links.{links_of}
use Rattle.judge.specs.Dues.{due_at}
use Rattle.reasons.specs.Why.{AreCommands}
use Rattle.reasons.proofs.Telling.{commands_more, one_longer}
use Rattle.reasons.proofs.flags.commands_due.Goals as goal

pub loop-place-preserved : goal.loop-place-preserved
loop-place-preserved c =
    let graph = c.args.graph.now in
    let due = c.args.due.now in
    let place = c.loop-place.place in
    let flags = c.loop-place.flags.items in
    let flag = c.is_command.result in
    let is : flag ≡ (due_at due place && not ((links_of graph).phony place)) = c.is_command.ensures ∙ ap (λ (e : ℕ). due_at due e && not ((links_of graph).phony e)) c.edge-edge.ensures in
    record {
      fits = ap length c.in_ok-push.ensures.items ∙ one_longer flags flag place c.loop-place.invariant.fits;
      flags = subst (AreCommands graph due (place + 1)) (sym {A = List Bool} c.in_ok-push.ensures.items) (commands_more graph due flags place flag c.loop-place.invariant.fits c.loop-place.invariant.flags is);
    }

pub returns-clause-flags : goal.returns-clause-flags
returns-clause-flags c = subst (λ (n : ℕ). AreCommands c.args.graph.now c.args.due.now n c.loop-place.flags.items) (omega arith) c.loop-place.invariant.flags
