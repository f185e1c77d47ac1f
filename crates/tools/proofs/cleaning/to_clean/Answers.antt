use Rattle.std.proofs.Common.{ℕ, List, subst}
use Rattle.tools.specs.Clean.{AddsJust, IsCleanedOutput}
use Rattle.tools.proofs.Cleans.{cleaned_all}
use Rattle.tools.proofs.cleaning.to_clean.Goals as goal

pub returns : goal.returns
returns c = λ t.
    let asked = IsCleanedOutput c.args.declared.now c.args.cleaning c.args.generated in
    cleaned_all c.add_asked.new.paths c.in_ok-without.field-0 c.args.file.now asked (subst (λ (l : List (List ℕ)). AddsJust l c.add_asked.new.paths asked) c.new-paths.ensures c.in_ok-add_asked.ensures) c.in_ok-without.ensures t
