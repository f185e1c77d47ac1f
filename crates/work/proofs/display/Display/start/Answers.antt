use Rattle.std.proofs.Common.{List, Bool, suc}
use Rattle.status.specs.declared.part.Part.{Part}
use Rattle.model.specs.Graph.{edge_at}
use Rattle.graph.specs.Told.{declared_by}
use Rattle.work.specs.Shown.{command_line}
use Rattle.work.proofs.ShownSteps.{counted_at_start, held_behind}
use Rattle.work.proofs.display.Display.start.Goals as goal

pub returns-clause-console : goal.returns-clause-console
returns-clause-console g c = λ console.
    record {
      counts = c.counts-counts.result;
      are = counted_at_start c.args.self.now _ c.self.view_is c.saturating_sub-self-inside.result c.saturating_sub-self-inside.ensures c.args.progress c.with_one_more.result c.counts-counts.result c.with_one_more.ensures c.counts-counts.ensures;
      after =
          held_behind c.args.self.now _ c.self.view_is c.saturating_sub-self-inside.result c.saturating_sub-self-inside.ensures
          (λ (pattern : List Part) (verbose : Bool). command_line pattern verbose c.counts-counts.result (edge_at (declared_by c.args.graph.now).edges (suc c.args.edge)))
          c.in_ok-line.line.items _ c.hand_in.new.self c.hold.new.self c.in_ok-line.ensures c.self-2.view_is c.in_ok-shown.ensures.after c.hold.ensures;
    }
