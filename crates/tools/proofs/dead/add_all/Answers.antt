use Rattle.std.proofs.Common.{◌≡◌, [], ℕ, List, map, subst, true}
use Rattle.std.proofs.lemmas.Bool.{false≢true}
use Rattle.std.proofs.lemmas.List.{take_all}
use Rattle.std.specs.Map.Iter.{deref}
use denote.Ref.{Bor}
use Rattle.model.specs.Graph.{has}
use Rattle.tools.specs.Dead.{AddsLeft}
use Rattle.tools.proofs.Adding.{IsHad}
use Rattle.tools.proofs.Burying.{left_more, left_none}
use Rattle.tools.proofs.dead.add_all.Goals as goal

pub loop-output-init : goal.loop-output-init
loop-output-init c = left_none c.args.declared.now.graph.manifest c.args.listed.now (IsHad []) c.args.found.now (λ t is unnamed. false≢true is)

pub loop-output-preserved : goal.loop-output-preserved
loop-output-preserved c =
    left_more c.args.declared.now.graph.manifest c.args.listed.now c.args.outputs.now c.loop-output.output-index _ c.args.found.now c.loop-output.found c.add.new.found c.loop-output-test.true c.loop-output.invariant c.in_ok-add.ensures

pub returns : goal.returns
returns c =
    subst (λ (l : List (Bor (List ℕ))). AddsLeft c.args.declared.now.graph.manifest c.args.listed.now (λ text. has (map deref l) text ≡ true) c.args.found.now c.loop-output.found)
    (take_all c.loop-output.output-index c.args.outputs.now c.loop-output-test.false) c.loop-output.invariant
