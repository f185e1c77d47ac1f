use Rattle.std.proofs.Common.{List, subst}
use Rattle.std.proofs.lemmas.List.{take_all}
use Rattle.tools.specs.Missing.{AddsDeps, IsUnmarked}
use Rattle.tools.specs.declared.missing.MissingDep.{MissingDep}
use Rattle.tools.proofs.Lacking.{unmarked_more, unmarked_start}
use Rattle.tools.proofs.missing.push_unmarked.Goals as goal

pub loop-dep-init : goal.loop-dep-init
loop-dep-init c = unmarked_start c.args.marks.now c.args.missing.now.items

pub loop-dep-preserved : goal.loop-dep-preserved
loop-dep-preserved c =
    unmarked_more c.args.marks.now c.args.made.now c.loop-dep.dep-index c.dep-item.result c.args.missing.now.items c.loop-dep.missing.items c.push_if_unmarked.new.missing.items c.loop-dep-test.true c.dep-item.is c.loop-dep.invariant c.in_ok-push_if_unmarked.ensures

pub returns : goal.returns
returns c =
    subst (λ (l : List MissingDep). AddsDeps c.args.missing.now.items c.loop-dep.missing.items (IsUnmarked c.args.marks.now l)) (take_all c.loop-dep.dep-index c.args.made.now c.loop-dep-test.false) c.loop-dep.invariant
