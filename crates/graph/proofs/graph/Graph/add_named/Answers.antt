use Rattle.std.proofs.Common.{sym, subst}
use Rattle.graph.specs.declared.graph.Graph.{Graph}
use Rattle.graph.specs.Grown.{HasNumbered}
use Rattle.graph.proofs.graph.Graph.add_named.Goals as goal

pub returns-clause-added : goal.returns-clause-added
returns-clause-added c = subst (λ (g : Graph). HasNumbered c.args.self.now g c.args.path.now c.in_ok-number.number) (sym {A = Graph} c.make_room.ensures) c.in_ok-number.ensures.added
