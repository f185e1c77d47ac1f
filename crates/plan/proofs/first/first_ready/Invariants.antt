use Rattle.std.proofs.Common.{◌≡◌, take, length}
use Rattle.plan.specs.Plan.{IsReady}
use Rattle.plan.proofs.first.first_ready.Given as goal

abbrev pub invariant-loop-place : goal.invariant-loop-place
invariant-loop-place l = record {
  sets : IsReady (take l.place l.standings) l.left l.ready l.pending;
  room : length l.ready ≡ length l.fn.ready;
  rest : length l.pending ≡ length l.fn.pending;
}
