use Rattle.std.proofs.Common.{◌++◌, List, ℕ, sym, ap, ◌∙◌}
use Rattle.manifest.proofs.fronts.rest_of.Goals as goal

pub returns-in-Ok : goal.returns-in-Ok
returns-in-Ok c =
    let front = c.args.front.now in
    sym c.as_bytes-2.ensures.value
    ∙ (c.in_ok-rest.ensures.found
    ∙ (ap (λ (xs : List ℕ). xs ++ c.in_ok-rest.rest.now) (c.as_bytes.ensures.value ∙ c.as_str.ensures) ∙ ap (λ (xs : List ℕ). front ++ xs) (sym c.in-Ok.ensures.cases.0)))
