use Rattle.std.proofs.Common.{List, ℕ, ap, ◌∙◌, get_or}
use Rattle.graph.proofs.Rounded.{get_or-nought}
use Rattle.graph.proofs.path_set.lengthen.Goals as goal

pub loop-rounds-preserved : goal.loop-rounds-preserved
loop-rounds-preserved c = λ k. ap (λ (l : List ℕ). get_or l k 0) c.in_ok-push.ensures.items ∙ (get_or-nought c.loop-rounds.rounds.items k ∙ c.loop-rounds.invariant k)

pub returns-in_err-push-clause-same : goal.returns-in_err-push-clause-same
returns-in_err-push-clause-same c = λ k. ap (λ (l : List ℕ). get_or l k 0) c.in_err-push.ensures.items ∙ c.loop-rounds.invariant k
