use Rattle.std.proofs.Common.{◌∙◌, ℕ, Option, ap, subst}
use Rattle.graph.specs.Chosen.{choice_in}
use Rattle.graph.specs.Extended.{dyndep_at}
use Rattle.graph.specs.Statements.{owner_for, IsGiven}
use Rattle.graph.proofs.Choosing.{is_at}
use Rattle.graph.proofs.Naming.{owner_named, passed_none}
use Rattle.graph.proofs.graph.Graph.choose.Goals as goal

pub give-requires-clause-there : goal.give-requires-clause-there
give-requires-clause-there c =
    let graph = c.args.self.now in
    let edge = c.in-Some.edge in
    c.requires.namers.are edge ∙ is_at (dyndep_at graph edge) c.args.file (owner_named graph c.args.file edge c.args.addition.now.output c.requires.file (c.in-Some.ensures.owner ∙ ap (owner_for graph c.args.file) c.as_str.ensures))

pub returns-in-Some-clause-given : goal.returns-in-Some-clause-given
returns-in-Some-clause-given c = subst (λ (o : Option ℕ). IsGiven c.give.result o c.args.place (choice_in c.args.chosen.now) (choice_in c.give.new.chosen)) (c.in-Some.ensures.owner ∙ ap (owner_for c.args.self.now c.args.file) c.as_str.ensures) c.give.ensures.given

pub returns-in-None-clause-given : goal.returns-in-None-clause-given
returns-in-None-clause-given c = passed_none (owner_for c.args.self.now c.args.file c.args.addition.now.output) (choice_in c.args.chosen.now) (c.in-None.ensures.owner ∙ ap (owner_for c.args.self.now c.args.file) c.as_str.ensures)
