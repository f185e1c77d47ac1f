use Rattle.std.proofs.Common.{◌∙◌, List, ℕ, subst}
use Rattle.graph.specs.Namings.{AllAreFree, FindsLowest}
use Rattle.graph.proofs.side_files.first_occupied.Goals as goal

pub returns-then-not-may_be_occupied : goal.returns-then-not-may_be_occupied
returns-then-not-may_be_occupied c =
    subst (λ (s : List ℕ). AllAreFree s c.args.manifest.now) (c.as_bytes.ensures.value ∙ c.in_ok-start.ensures) (c.may_be_occupied.ensures c.if-not-may_be_occupied.true)

pub returns : goal.returns
returns c = subst (λ (s : List ℕ). FindsLowest s c.args.manifest.now c.lowest_occupied.result) (c.as_bytes-2.ensures.value ∙ c.in_ok-start.ensures) c.lowest_occupied.ensures
