use Rattle.std.proofs.Common.{rules}
use Rattle.scopes.specs.Use.{opened}
use Rattle.scopes.proofs.Walking.{waiting}
use Rattle.scopes.proofs.order.Walk.first_unlisted.Goals as goal

pub returns-in-Some : goal.returns-in-Some
returns-in-Some c = waiting (opened c.args.self.now.at.now) c.args.self.now.order.items c.args.template.now.parts c.loop-part.part-index _ c.in-Some.next.now (search rules) (search rules) c.in-Some.ensures
