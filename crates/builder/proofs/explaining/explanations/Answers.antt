use Rattle.std.proofs.Common.{◌<◌, ◌++◌, ◌∷◌, [], List, get_or, take, length, sym, subst, arith}
use Rattle.std.proofs.lemmas.List.{take_more, take_all}
use Rattle.builder.specs.declared.explained.Explanation.{Explanation}
use Rattle.builder.specs.Explained.{AreSaid, IsSaid}
use Rattle.reasons.specs.declared.told.DueCommand.{DueCommand}
use Rattle.builder.proofs.Said.{one_more}
use Rattle.builder.proofs.explaining.explanations.Goals as goal

pub loop-command-init : goal.loop-command-init
loop-command-init c = subst (λ (all : List Explanation). AreSaid c.args.graph.now [] all) (sym {A = List Explanation} c.new-all.ensures.items) tt

pub explanation-requires : goal.explanation-requires
explanation-requires c =
    subst (λ (command : DueCommand). command.edge < length c.args.graph.now.manifest.lines) (sym {A = DueCommand} c.command-item.is)
    (c.requires c.loop-command.command-index c.command-item.result c.loop-command-test.true)

pub loop-command-preserved : goal.loop-command-preserved
loop-command-preserved c =
    let graph = c.args.graph.now in
    let told = c.args.told.now in
    let place = c.loop-command.command-index in
    let item = c.command-item.result in
    let said = c.in_ok-explanation.field-0 in
    let one : IsSaid graph (get_or told place item) said = subst (λ (command : DueCommand). IsSaid graph command said) c.command-item.is c.in_ok-explanation.ensures in
    subst (λ (commands : List DueCommand). AreSaid graph commands c.push.new.self.items) (sym {A = List DueCommand} (take_more told place item c.loop-command-test.true))
    (subst (λ (all : List Explanation). AreSaid graph (take place told ++ get_or told place item ∷ []) all) (sym {A = List Explanation} c.in_ok-push.ensures.items)
    (one_more (IsSaid graph) (take place told) c.loop-command.all.items (get_or told place item) said c.loop-command.invariant one))

pub returns : goal.returns
returns c =
    subst (λ (commands : List DueCommand). AreSaid c.args.graph.now commands c.loop-command.all.items) (take_all c.loop-command.command-index c.args.told.now (omega arith)) c.loop-command.invariant
