use Rattle.std.proofs.Common.{[], ℕ, List, subst, sym}
use Rattle.std.proofs.lemmas.List.{take_all}
use Rattle.tools.specs.Above.{AreNamedMade}
use Rattle.tools.specs.Missing.{AddsDeps}
use Rattle.tools.specs.declared.missing.MissingDep.{MissingDep}
use Rattle.tools.proofs.Lacking.{IsMissingOf, all_made, missing_all, missing_more, missing_start}
use Rattle.tools.proofs.missing.missing_deps.Goals as goal

pub loop-output-init : goal.loop-output-init
loop-output-init c = λ rs ds known.
    let graph = c.args.logged.declared.now.graph in
    subst (λ (l : List MissingDep). AddsDeps [] l (IsMissingOf graph ds c.args.file.now [])) (sym c.new.ensures.items) (missing_start graph ds c.args.file.now [])

pub add_missing-requires : goal.add_missing-requires
add_missing-requires c =
    let graph = c.args.logged.declared.now.graph in
    let paths = c.args.paths.now in
    all_made graph paths c.as_slice-output-items.result.now c.loop-output.output-index c.output-item.result (subst (AreNamedMade graph paths) (sym c.as_slice-output-items.ensures.value) c.in_ok-outputs.ensures) c.loop-output-test.true c.output-item.is

pub loop-output-preserved : goal.loop-output-preserved
loop-output-preserved c = λ rs ds known.
    missing_more c.args.logged.declared.now.graph ds c.args.file.now c.as_slice-output-items.result.now c.loop-output.output-index c.output-item.result [] c.loop-output.found.missing.items c.add_missing.new.missing.items
    c.loop-output-test.true c.output-item.is (c.loop-output.invariant rs ds known) (c.in_ok-add_missing.ensures rs ds known)

pub returns : goal.returns
returns c = λ rs ds known.
    let graph = c.args.logged.declared.now.graph in
    let outputs = c.as_slice-output-items.result.now in
    let found = c.loop-output.found.missing.items in
    missing_all graph ds c.args.file.now c.args.paths.now outputs found (subst (AreNamedMade graph c.args.paths.now) (sym c.as_slice-output-items.ensures.value) c.in_ok-outputs.ensures)
    (subst (λ (l : List ℕ). AddsDeps [] found (IsMissingOf graph ds c.args.file.now l)) (take_all c.loop-output.output-index outputs c.loop-output-test.false) (c.loop-output.invariant rs ds known))
