use Rattle.std.proofs.Common.{ℕ, List, sym, subst, take}
use Rattle.std.proofs.lemmas.List.{take_all}
use Rattle.tools.specs.Answers.{AreMakers, AreMet}
use Rattle.tools.proofs.Making.{met_first}
use Rattle.tools.proofs.Putting.{take_item}
use Rattle.tools.proofs.command_lines.makers.Goals as goal

pub loop-path-init : goal.loop-path-init
loop-path-init c =
    met_first c.args.graph.now c.edges.result c.in_ok-met.met.items c.new-edges.result.items (c.in_ok-met.ensures.items_if_clones_equal (λ y h. h)) c.edges.ensures c.new-edges.ensures.items

pub loop-path-preserved : goal.loop-path-preserved
loop-path-preserved c =
    let paths = c.args.paths.now in
    let place = c.loop-path.path-index in
    subst (λ (l : List ℕ). AreMet c.args.graph.now l c.meet.new.met.items c.meet.new.edges.items) (sym (take_item paths place c.path-item.result c.loop-path-test.true c.path-item.is))
    (c.in_ok-meet.ensures (take place paths) c.loop-path.invariant)

pub returns : goal.returns
returns c =
    subst (λ (l : List ℕ). AreMakers c.args.graph.now l c.loop-path.edges.items) (take_all c.loop-path.path-index c.args.paths.now c.loop-path-test.false) c.loop-path.invariant.makers
