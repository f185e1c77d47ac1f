use Rattle.std.proofs.Common.{◌∙◌, sym, subst, suc}
use Rattle.model.specs.Graph.{edge_at}
use Rattle.graph.specs.Told.{declared_by}
use Rattle.work.specs.Shown.{Showing, AreCounts}
use Rattle.work.proofs.ShownSteps.{both_ok, ends_at_terminal, ends_among_others, silent_ends}
use Rattle.work.proofs.display.Display.ended.Goals as goal

pub returns-then-has_terminal-clause-ok : goal.returns-then-has_terminal-clause-ok
returns-then-has_terminal-clause-ok c =
    both_ok c.release.result c.release.ensures.ok c.release.ensures.after (λ shown now after.
    ends_at_terminal c.args.progress (edge_at (declared_by c.args.graph.now).edges (suc c.args.edge)) c.args.finished.now.ok c.args.depfile c.args.finished.now.output c.args.self.now c.release.new.self c.counts-counts.result
    (subst (λ (view : Showing). AreCounts c.args.progress view.unstarted c.counts-counts.result) c.self.view_is c.counts-counts.ensures)
    c.as_slice.result.now (c.as_slice.ensures.value ∙ c.in_ok-text.ensures) shown.items (sym c.has_terminal.ensures ∙ c.if-has_terminal.true) now after)

pub returns-else-has_terminal-clause-ok : goal.returns-else-has_terminal-clause-ok
returns-else-has_terminal-clause-ok c =
    both_ok c.hand_in.result c.hand_in.ensures.shown c.hand_in.ensures.after (λ shown now after.
    ends_among_others c.args.progress (edge_at (declared_by c.args.graph.now).edges (suc c.args.edge)) c.args.finished.now.ok c.args.depfile c.args.finished.now.output c.args.self.now c.hand_in.new.self c.counts-counts.result
    (subst (λ (view : Showing). AreCounts c.args.progress view.unstarted c.counts-counts.result) c.self.view_is c.counts-counts.ensures)
    c.in_ok-text.text.items c.in_ok-text.ensures shown.items (sym c.has_terminal.ensures ∙ c.if-has_terminal.false) now after)

-- what is to be shown in silence is nothing
pub returns-then-has_terminal-clause-silent : goal.returns-then-has_terminal-clause-silent
returns-then-has_terminal-clause-silent c =
    silent_ends c.args.progress (edge_at (declared_by c.args.graph.now).edges (suc c.args.edge)) c.args.finished.now.ok c.args.depfile c.args.finished.now.output c.args.self.now c.release.new.self c.release.result (returns-then-has_terminal-clause-ok c)

pub returns-else-has_terminal-clause-silent : goal.returns-else-has_terminal-clause-silent
returns-else-has_terminal-clause-silent c =
    silent_ends c.args.progress (edge_at (declared_by c.args.graph.now).edges (suc c.args.edge)) c.args.finished.now.ok c.args.depfile c.args.finished.now.output c.args.self.now c.hand_in.new.self c.hand_in.result (returns-else-has_terminal-clause-ok c)
