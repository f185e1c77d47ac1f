use Rattle.std.proofs.Common.{drop}
use Rattle.scopes.specs.Use.{opened}
use Rattle.scopes.specs.Steps.{AllDone}
use Rattle.scopes.proofs.order.Walk.first_unlisted.Given as goal

abbrev pub invariant-loop-part : goal.invariant-loop-part
invariant-loop-part l = AllDone (opened l.self.at.now) l.self.order.items (drop l.part-index l.template.parts) → AllDone (opened l.self.at.now) l.self.order.items l.template.parts
