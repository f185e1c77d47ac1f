use Rattle.std.proofs.Common.{ℕ, List, string_bytes, subst}
use Rattle.tools.specs.Found.{IsNamedBy}
use Rattle.tools.proofs.Putting.{if_ok_then}
use Rattle.tools.proofs.found.target.Goals as goal

pub returns-in-Ok : goal.returns-in-Ok
returns-in-Ok c =
    if_ok_then c.named.result c.named.ensures (λ p is. (string_bytes c.in-Ok.path, c.in-Ok.ensures.found, subst (λ (l : List ℕ). IsNamedBy c.args.graph.now l p) c.as_str.ensures.value is))
