use Rattle.std.proofs.Common.{arith, inl, inr}
use Rattle.std.proofs.lemmas.Bool.{cases_lt}
use Rattle.depfile.proofs.Stops.{plain_past, plain_stops}
use Rattle.depfile.proofs.runs.plain_end.Goals as goal

pub loop-at-init : goal.loop-at-init
loop-at-init c = (omega arith, λ k lt. absurd (omega arith))

pub loop-at-preserved : goal.loop-at-preserved
loop-at-preserved c = (
  omega arith,
  plain_past c.args.bytes.now c.loop-at.at c.stops_of-stops.result (omega arith) c.loop-at.invariant.1 c.stops_of-stops.ensures c.if-stops-ne0.false,
)

pub returns-then-stops-ne0 : goal.returns-then-stops-ne0
returns-then-stops-ne0 c =
    plain_stops c.args.bytes.now c.loop-at.at c.stops_of-stops.result (omega arith) c.loop-at.invariant.1 c.stops_of-stops.ensures (omega arith)

pub returns : goal.returns
returns c = (
  omega arith,
  c.run_end.ensures.1,
  λ k _ lt. elim (cases_lt k c.loop-at.at) [ inl early ↦ c.loop-at.invariant.1 k early | inr late ↦ c.run_end.ensures.2 k late lt ],
  c.run_end.ensures.3,
)
