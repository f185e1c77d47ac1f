use Rattle.std.proofs.Common.{◌≡◌, ℕ, cond, nat_lt, length}
use Rattle.paths.specs.Lists.{line_at, line_inputs}
use Rattle.graph.specs.Held.{list_at, times}
use Rattle.graph.proofs.build.use_inputs.Given as goal

abbrev pub invariant-loop-place : goal.invariant-loop-place
invariant-loop-place l = record {
  fits : length l.users ≡ length l.manifest.paths;
  counted : (p e : ℕ) → times (list_at l.users p) e ≡ cond (nat_lt e l.place) (times (line_inputs (line_at l.manifest.lines e)) p) 0;
}
