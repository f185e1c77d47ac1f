use Rattle.std.proofs.Common.{List, ℕ, subst}
use Rattle.manifest.specs.Edges.{IsPathOrNone}
use Rattle.manifest.proofs.FlagLemmas.{settled_or_none}
use Rattle.manifest.proofs.made.path_or_none.Goals as goal

pub returns-then-is_settled-clause-path : goal.returns-then-is_settled-clause-path
returns-then-is_settled-clause-path c = subst (λ (text : List ℕ). IsPathOrNone text text) c.as_str.ensures (settled_or_none c.as_str.result.now (c.is_settled.ensures c.if-is_settled.true))
