use Rattle.std.proofs.Common.{◌<◌, List, All, length, sym, subst}
use Rattle.reasons.specs.declared.told.DueCommand.{DueCommand}
use Rattle.builder.specs.Explained.{AreSaid}
use Rattle.builder.proofs.explaining.explain_due.Goals as goal

pub explained_of-requires-clause-edges : goal.explained_of-requires-clause-edges
explained_of-requires-clause-edges g c =
    subst (λ (l : List DueCommand). All (λ command. command.edge < length c.args.state.now.graph.manifest.lines) l) (sym {A = List DueCommand} c.deref.ensures.value) c.in_ok-told.ensures.within

pub returns-clause-says : goal.returns-clause-says
returns-clause-says g c = record {
  told = c.in_ok-told.told.items;
  why = c.in_ok-told.ensures.told;
  said_of = subst (λ (l : List DueCommand). AreSaid c.args.state.now.graph l c.in_ok-explained.explained.commands.items) c.deref.ensures.value c.in_ok-explained.ensures;
}
