use Rattle.std.proofs.Common.{◌≡◌, ℕ, List, true, take, ap, ◌∙◌, sym, subst}
use Rattle.std.proofs.lemmas.List.{take_all}
use Rattle.model.specs.Graph.{has_number}
use Rattle.tools.specs.Above.{AreNamedMade}
use Rattle.tools.specs.Clean.{AddsJust, MayCleanPath}
use Rattle.tools.proofs.Adding.{adds_listed, listed_start}
use Rattle.tools.proofs.Cleans.{named_adds}
use Rattle.tools.proofs.cleaning.add_targets.Goals as goal

pub loop-output-preserved : goal.loop-output-preserved
loop-output-preserved c =
    adds_listed (MayCleanPath c.args.declared.now c.args.generated) c.as_slice-output-items.result.now c.loop-output.output-index c.output-item.result c.args.paths.now c.loop-output.paths c.add_target.new.paths c.loop-output-test.true c.output-item.is c.loop-output.invariant c.in_ok-add_target.ensures

pub loop-output-init : goal.loop-output-init
loop-output-init c = listed_start (MayCleanPath c.args.declared.now c.args.generated) c.args.paths.now

pub returns : goal.returns
returns c =
    let declared = c.args.declared.now in
    let targets = c.args.targets.now in
    let items = c.as_slice-output-items.result.now in
    let old = c.args.paths.now in
    let new = c.loop-output.paths in
    named_adds declared targets items c.args.generated old new (subst (AreNamedMade declared.graph targets) (sym c.as_slice-output-items.ensures.value) c.in_ok-outputs.ensures)
    (subst (λ (l : List ℕ). AddsJust old new (λ t. (p : ℕ) × (has_number l p ≡ true) × MayCleanPath declared c.args.generated p t)) (take_all c.loop-output.output-index items c.loop-output-test.false) c.loop-output.invariant)
