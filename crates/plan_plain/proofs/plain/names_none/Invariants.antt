use Rattle.std.proofs.Common.{◌≡◌, ◌<◌, ℕ, None}
use Rattle.graph.specs.Extended.{dyndep_at}
use Rattle.plan_plain.proofs.plain.names_none.Given as goal

abbrev pub invariant-loop-place : goal.invariant-loop-place
invariant-loop-place l = (e : ℕ) → e < l.place → dyndep_at l.graph e ≡ None
