use Rattle.std.proofs.Common.{refl, subst, sym}
use Rattle.tools.specs.Clean.{AddsJust, IsCleanedOutput}
use Rattle.tools.specs.declared.cleaning.Cleaning.{Cleaning}
use Rattle.tools.proofs.Cleans.{all_adds, rules_adds, targets_adds}
use Rattle.tools.proofs.cleaning.add_asked.Goals as goal

pub returns-in_ok-add_all-in-All : goal.returns-in_ok-add_all-in-All
returns-in_ok-add_all-in-All c =
    let declared = c.args.declared.now in
    subst (λ (which : Cleaning). AddsJust c.args.paths.now c.add_all.new.paths (IsCleanedOutput declared which c.args.generated)) (sym c.in-All.is)
    (all_adds declared declared.graph.making c.args.generated c.args.paths.now c.add_all.new.paths c.in_ok-add_all-in-All.ensures)

pub returns-in_ok-add_targets-in-Targets : goal.returns-in_ok-add_targets-in-Targets
returns-in_ok-add_targets-in-Targets c =
    let declared = c.args.declared.now in
    subst (λ (which : Cleaning). AddsJust c.args.paths.now c.add_targets.new.paths (IsCleanedOutput declared which c.args.generated)) (sym c.in-Targets.is)
    (targets_adds declared declared.graph.making c.args.generated c.args.paths.now c.add_targets.new.paths c.in-Targets.targets.now c.in-Targets.targets refl c.in_ok-add_targets-in-Targets.ensures)

pub returns-in_ok-add_rules-in-Rules : goal.returns-in_ok-add_rules-in-Rules
returns-in_ok-add_rules-in-Rules c =
    let declared = c.args.declared.now in
    subst (λ (which : Cleaning). AddsJust c.args.paths.now c.add_rules.new.paths (IsCleanedOutput declared which c.args.generated)) (sym c.in-Rules.is)
    (rules_adds declared declared.graph.making c.args.generated c.args.paths.now c.add_rules.new.paths c.in-Rules.rules.now c.in-Rules.rules refl c.in_ok-add_rules-in-Rules.ensures)
