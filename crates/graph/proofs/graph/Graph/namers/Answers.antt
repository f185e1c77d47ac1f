use Rattle.std.proofs.Common.{◌≡◌, ◌∙◌, ◌<◌, ℕ, List, [], length, get_or, sym, subst}
use Rattle.std.proofs.lemmas.List.{get_or_default}
use Rattle.graph.specs.declared.choice.Choice.{Choice}
use Rattle.graph.proofs.Naming.{AreNamersOf, namers_none, namers_next, namers_all, user_within}
use Rattle.graph.proofs.graph.Graph.namers.Goals as goal

pub loop-user-init : goal.loop-user-init
loop-user-init c = subst (AreNamersOf c.args.self.now c.args.file []) (sym {A = List Choice} c.new-chosen.ensures.items) (namers_none c.args.self.now c.args.file)

pub join_namer-requires-clause-edge : goal.join_namer-requires-clause-edge
join_namer-requires-clause-edge c =
    let graph = c.args.self.now in
    let users = c.users-user-items.result.now in
    let place = c.loop-user.user-index in
    let at : c.user-item.result ≡ get_or users place 0 = c.user-item.is ∙ get_or_default users place c.user-item.result 0 c.loop-user-test.true in
    subst (λ (n : ℕ). n < length graph.manifest.lines) (sym at) (user_within graph c.args.file users c.users-user-items.ensures.counted place c.loop-user-test.true)

pub loop-user-preserved : goal.loop-user-preserved
loop-user-preserved c =
    namers_next c.args.self.now c.args.file c.users-user-items.result.now c.loop-user.user-index c.user-item.result c.loop-user.chosen.items c.join_namer.new.chosen.items c.loop-user-test.true c.user-item.is c.in_ok-join_namer.ensures c.loop-user.invariant

pub returns : goal.returns
returns c = record {
  namers = namers_all c.args.self.now c.args.file c.users-user-items.result.now c.users-user-items.ensures.counted c.loop-user.user-index c.loop-user.chosen.items c.loop-user-test.false c.loop-user.invariant;
  none = c.loop-user.invariant.none;
}
