use Rattle.std.proofs.Common.{Bool, sym, ◌∙◌, suc, refl, subst}
use Rattle.std.proofs.lemmas.Bool.{and_left, and_right}
use Rattle.model.specs.Graph.{edge_at}
use Rattle.model.specs.Schedule.{Ended as Finished}
use Rattle.graph.specs.Told.{declared_by}
use Rattle.plan.specs.Planned.{TakesStep}
use Rattle.work.proofs.Comparing.{ended_compared, ended_all}
use Rattle.work.proofs.Results.{ok_then₃}
use Rattle.work.proofs.state.Work.note_end.Goals.{else-ok-via-then-ok+else-has_restat, else-ok-via-else-ok}
use Rattle.work.proofs.state.Work.note_end.Goals as goal

pub returns-then-has_restat-clause-ended : goal.returns-then-has_restat-clause-ended
returns-then-has_restat-clause-ended g c =
    ok_then₃ c.note_compared.result c.note_compared.ensures.changed c.note_compared.ensures.unchanged c.note_compared.ensures.anew (λ changed unchanged anew.
    ended_compared g.S.Texts.tells c.args.self.now.graph c.args.edge c.args.ok (g.S.Texts.world c.args.site.now) (g.S.Texts.world c.note_compared.new.site) c.args.self.now c.note_compared.new.self c.note_compared.ensures.beside unchanged
    c.if-ok.true (sym c.has_restat.ensures ∙ c.if-has_restat.true) changed anew)

pub returns-then-has_restat-clause-planned : goal.returns-then-has_restat-clause-planned
returns-then-has_restat-clause-planned g c =
    subst (λ (b : Bool). TakesStep c.args.self.now.graph c.args.self.now.plan c.note_compared.new.self.plan (Finished (suc c.args.edge) b)) (sym c.if-ok.true) c.note_compared.ensures.planned

pub returns-in_ok-note_all-clause-ended : goal.returns-in_ok-note_all-clause-ended
returns-in_ok-note_all-clause-ended g c =
    let graph = c.args.self.now.graph in
    let restat = (edge_at (declared_by graph).edges (suc c.args.edge)).restat in
    ended_all g.S.Texts.tells graph c.args.edge c.args.ok (g.S.Texts.world c.args.site.now) (g.S.Texts.world c.args.site.now) c.args.self.now c.note_all.new.self c.note_all.ensures.beside c.note_all.ensures.flags.others
    (elim c.else-ok.branch [
      | else-ok-via-then-ok+else-has_restat w ↦ and_right c.args.ok restat (sym w.has_restat.ensures ∙ w.if-has_restat.false)
      | else-ok-via-else-ok w ↦ and_left c.args.ok restat w.if-ok.false
    ])
    refl c.note_all.ensures.flags.set c.note_all.ensures.forgets
