use Rattle.std.proofs.Common.{IfOk, string_bytes, subst, sym}
use Rattle.tools.specs.Answers.{PrintsTargets}
use Rattle.tools.specs.declared.listing.Wanted.{Wanted}
use Rattle.tools.proofs.listing.targets.Goals as goal

pub returns-in-Depth : goal.returns-in-Depth
returns-in-Depth c = subst (λ (wanted : Wanted). IfOk c.by_depth.result (λ told. PrintsTargets c.args.declared.now wanted (string_bytes told))) (sym c.in-Depth.is) c.by_depth.ensures

pub returns-in_ok-of_rule-in-Rule : goal.returns-in_ok-of_rule-in-Rule
returns-in_ok-of_rule-in-Rule c = subst (λ (wanted : Wanted). PrintsTargets c.args.declared.now wanted (string_bytes c.in_ok-of_rule-in-Rule.field-0)) (sym c.in-Rule.is) c.in_ok-of_rule-in-Rule.ensures

pub returns-in_ok-sources-in-Sources : goal.returns-in_ok-sources-in-Sources
returns-in_ok-sources-in-Sources c = subst (λ (wanted : Wanted). PrintsTargets c.args.declared.now wanted (string_bytes c.in_ok-sources-in-Sources.field-0)) (sym c.in-Sources.is) c.in_ok-sources-in-Sources.ensures

pub returns-in_ok-all-in-All : goal.returns-in_ok-all-in-All
returns-in_ok-all-in-All c = subst (λ (wanted : Wanted). PrintsTargets c.args.declared.now wanted (string_bytes c.in_ok-all-in-All.field-0)) (sym c.in-All.is) c.in_ok-all-in-All.ensures
