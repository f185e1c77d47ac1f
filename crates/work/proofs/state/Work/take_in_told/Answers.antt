use Rattle.std.proofs.Common.{suc, None, refl, sym, subst, ◌∙◌, ap}
use Rattle.graph.specs.declared.graph.Graph.{Graph}
use Rattle.graph.specs.Told.{declared_by}
use Rattle.model.specs.Graph.{edge_at}
use Rattle.work.specs.Starting.{IsTakenInSo, RecordsOn, CutsRecord}
use Rattle.work.specs.Telling.{RemovesIfWell}
use Rattle.work.proofs.Ends.{cut_looking}
use Rattle.work.proofs.Finishing.{ending_stands, ending_command, ending_cut, ending_taken}
use Rattle.work.proofs.Keeping.{on_looks}
use Rattle.work.proofs.Recording.{on_shown}
use Rattle.work.proofs.Removing.{removing_then, removing_after}
use Rattle.work.proofs.Results.{on_ok, on_err, ok_by, err_by}
use Rattle.work.proofs.After.{after_then, after_looks}
use Rattle.judge.specs.declared.looks.Looks.{Looks}
use Rattle.plan.specs.declared.plan.Plan.{Plan}
use Rattle.judge.specs.Lasting.{KeepsUnmade}
use Rattle.work.proofs.Unmade.{ended_keeps}
use Rattle.work.proofs.state.Work.take_in_told.Goals as goal

pub note_end-requires-clause-running : goal.note_end-requires-clause-running
note_end-requires-clause-running g c =
    ending_stands g.S.Texts.tells c.requires.ending.0 c.args.self.now.graph c.requires.ending.1 c.args.self.now (g.S.Texts.world c.args.site.now) c.args.edge c.args.finished.ok c.ended-finished.result.ok c.args.told.now c.ended-finished.ensures.ok c.one_answer.ensures c.requires.ending.2

pub note_end-requires-clause-command : goal.note_end-requires-clause-command
note_end-requires-clause-command g c =
    ending_command g.S.Texts.tells c.requires.ending.0 c.args.self.now.graph c.requires.ending.1 c.args.self.now (g.S.Texts.world c.args.site.now) c.args.edge c.args.finished.ok c.ended-finished.result.ok c.args.told.now c.ended-finished.ensures.ok c.one_answer.ensures c.requires.ending.2

pub note_end-requires-clause-fits : goal.note_end-requires-clause-fits
note_end-requires-clause-fits g c = c.requires.ending.2.on.room.looks

pub returns-in_err-map_err-clause-cut : goal.returns-in_err-map_err-clause-cut
returns-in_err-map_err-clause-cut g c =
    on_err c.from_residual.result (λ course suits ending. ending_cut g.S.Texts.tells course c.args.self.now.graph suits c.args.self.now (g.S.Texts.world c.args.site.now) c.args.edge c.args.finished.ok c.ended-finished.result.ok c.args.told.now c.ended-finished.ensures.ok c.one_answer.ensures ending (g.S.Texts.world c.note_end.new.site) c.note_end.ensures.looks c.note_end.new.self.plan c.note_end.ensures.planned)

pub record_end-requires-clause-taken_in : goal.record_end-requires-clause-taken_in
record_end-requires-clause-taken_in g c =
    subst (λ (graph : Graph). IsTakenInSo g.S.Texts.tells graph c.args.edge c.ended-finished.result.ok c.args.told.now c.note_end.new.self (g.S.Texts.world c.note_end.new.site)) (sym {A = Graph} c.note_end.ensures.graph)
    (c.requires.ending.0, c.requires.ending.1, (ending_taken g.S.Texts.tells c.requires.ending.0 c.args.self.now.graph c.requires.ending.1 c.args.self.now (g.S.Texts.world c.args.site.now) c.args.edge c.args.finished.ok c.ended-finished.result.ok c.args.told.now c.ended-finished.ensures.ok c.one_answer.ensures c.requires.ending.2 c.lists_stand.ensures (g.S.Texts.world c.note_end.new.site) c.note_end.new.self (ok_by c.note_end.result c.map_err.result _ c.map_err.ensures.variant c.in_ok-map_err.was c.note_end.ensures.ended) c.log_stays.ensures c.none_while_running.ensures c.note_end.ensures.planned (ok_by c.note_end.result c.map_err.result _ c.map_err.ensures.variant c.in_ok-map_err.was c.note_end.ensures.noted)))

pub returns-in_err-map_err-2-clause-cut : goal.returns-in_err-map_err-2-clause-cut
returns-in_err-map_err-2-clause-cut g c =
    on_err c.from_residual-in_err-map_err-2.result (λ course suits ending.
    err_by c.record_end.result c.map_err-2.result _ c.map_err-2.ensures.variant c.in_err-map_err-2.was (subst (λ (graph : Graph). CutsRecord g.S.Texts.tells g.S.Texts.world c.note_end.new.site c.record_end.new.site graph c.args.edge c.ended-finished.result.ok c.args.told.now c.note_end.new.self c.record_end.new.self c.record_end.result) c.note_end.ensures.graph c.record_end.ensures.cut) course suits
    (ending_taken g.S.Texts.tells course c.args.self.now.graph suits c.args.self.now (g.S.Texts.world c.args.site.now) c.args.edge c.args.finished.ok c.ended-finished.result.ok c.args.told.now c.ended-finished.ensures.ok c.one_answer.ensures ending c.lists_stand.ensures (g.S.Texts.world c.note_end.new.site) c.note_end.new.self (ok_by c.note_end.result c.map_err.result _ c.map_err.ensures.variant c.in_ok-map_err.was c.note_end.ensures.ended) c.log_stays.ensures c.none_while_running.ensures c.note_end.ensures.planned (ok_by c.note_end.result c.map_err.result _ c.map_err.ensures.variant c.in_ok-map_err.was c.note_end.ensures.noted)))

pub returns-clause-removed : goal.returns-clause-removed
returns-clause-removed g c =
    on_ok c.map_err-3.result (λ went.
    let act = (edge_at (declared_by c.args.self.now.graph).edges (suc c.args.edge)).act in
    removing_then g.S.Texts.tells act (g.S.Texts.world c.args.site.now) (g.S.Texts.world c.record_end.new.site) (g.S.Texts.world c.show_end.new.site)
    (removing_after g.S.Texts.tells act (g.S.Texts.world c.args.site.now) (g.S.Texts.world c.note_end.new.site) (g.S.Texts.world c.record_end.new.site)
    (λ tell.
    let seen = c.note_end.ensures.looks.history tell in
    (seen.more, seen.grows)) ((ok_by c.record_end.result c.map_err-2.result _ c.map_err-2.ensures.variant c.in_ok-map_err-2.was (subst (λ (graph : Graph). RemovesIfWell g.S.Texts.tells g.S.Texts.world c.note_end.new.site c.record_end.new.site graph c.args.edge c.ended-finished.result.ok c.record_end.result) c.note_end.ensures.graph c.record_end.ensures.removed)) (c.ended-finished.ensures.ok ∙ went)))
    c.show_end.ensures.looks)

pub returns-clause-on : goal.returns-clause-on
returns-clause-on g c =
    on_ok c.map_err-3.result (λ course suits ending.
    on_shown g.S.Texts.tells course c.args.self.now.graph None c.record_end.new.self c.end-shown.new.self (g.S.Texts.world c.show_end.new.site)
    (on_looks g.S.Texts.tells course c.args.self.now.graph c.log_stays.ensures None c.record_end.new.self (g.S.Texts.world c.record_end.new.site) (g.S.Texts.world c.show_end.new.site)
    ((ok_by c.record_end.result c.map_err-2.result _ c.map_err-2.ensures.variant c.in_ok-map_err-2.was (subst (λ (graph : Graph). RecordsOn g.S.Texts.tells g.S.Texts.world c.note_end.new.site c.record_end.new.site graph c.args.edge c.ended-finished.result.ok c.args.told.now c.note_end.new.self c.record_end.new.self c.record_end.result) c.note_end.ensures.graph c.record_end.ensures.on)) course suits
    (ending_taken g.S.Texts.tells course c.args.self.now.graph suits c.args.self.now (g.S.Texts.world c.args.site.now) c.args.edge c.args.finished.ok c.ended-finished.result.ok c.args.told.now c.ended-finished.ensures.ok c.one_answer.ensures ending c.lists_stand.ensures (g.S.Texts.world c.note_end.new.site) c.note_end.new.self (ok_by c.note_end.result c.map_err.result _ c.map_err.ensures.variant c.in_ok-map_err.was c.note_end.ensures.ended) c.log_stays.ensures c.none_while_running.ensures c.note_end.ensures.planned (ok_by c.note_end.result c.map_err.result _ c.map_err.ensures.variant c.in_ok-map_err.was c.note_end.ensures.noted))) suits.once c.show_end.ensures.looks))

pub returns-clause-cut : goal.returns-clause-cut
returns-clause-cut g c =
    on_err c.map_err-3.result (λ course suits ending.
    cut_looking g.S.Texts.tells course c.args.self.now.graph (g.S.Texts.world c.record_end.new.site) c.record_end.new.self c.record_end.new.self.plan (g.S.Texts.world c.show_end.new.site) refl c.show_end.ensures.looks
    ((ok_by c.record_end.result c.map_err-2.result _ c.map_err-2.ensures.variant c.in_ok-map_err-2.was (subst (λ (graph : Graph). RecordsOn g.S.Texts.tells g.S.Texts.world c.note_end.new.site c.record_end.new.site graph c.args.edge c.ended-finished.result.ok c.args.told.now c.note_end.new.self c.record_end.new.self c.record_end.result) c.note_end.ensures.graph c.record_end.ensures.on)) course suits
    (ending_taken g.S.Texts.tells course c.args.self.now.graph suits c.args.self.now (g.S.Texts.world c.args.site.now) c.args.edge c.args.finished.ok c.ended-finished.result.ok c.args.told.now c.ended-finished.ensures.ok c.one_answer.ensures ending c.lists_stand.ensures (g.S.Texts.world c.note_end.new.site) c.note_end.new.self (ok_by c.note_end.result c.map_err.result _ c.map_err.ensures.variant c.in_ok-map_err.was c.note_end.ensures.ended) c.log_stays.ensures c.none_while_running.ensures c.note_end.ensures.planned (ok_by c.note_end.result c.map_err.result _ c.map_err.ensures.variant c.in_ok-map_err.was c.note_end.ensures.noted))))

pub returns-in_err-map_err-clause-grows : goal.returns-in_err-map_err-clause-grows
returns-in_err-map_err-clause-grows g c = after_looks g.S.Texts.tells (g.S.Texts.world c.args.site.now) (g.S.Texts.world c.note_end.new.site) c.note_end.ensures.looks

pub returns-in_err-map_err-2-clause-grows : goal.returns-in_err-map_err-2-clause-grows
returns-in_err-map_err-2-clause-grows g c = after_then g.S.Texts.tells (g.S.Texts.world c.args.site.now) (g.S.Texts.world c.note_end.new.site) (g.S.Texts.world c.record_end.new.site) (after_looks g.S.Texts.tells (g.S.Texts.world c.args.site.now) (g.S.Texts.world c.note_end.new.site) c.note_end.ensures.looks) c.record_end.ensures.grows

pub returns-clause-grows : goal.returns-clause-grows
returns-clause-grows g c = after_then g.S.Texts.tells (g.S.Texts.world c.args.site.now) (g.S.Texts.world c.record_end.new.site) (g.S.Texts.world c.show_end.new.site) (after_then g.S.Texts.tells (g.S.Texts.world c.args.site.now) (g.S.Texts.world c.note_end.new.site) (g.S.Texts.world c.record_end.new.site) (after_looks g.S.Texts.tells (g.S.Texts.world c.args.site.now) (g.S.Texts.world c.note_end.new.site) c.note_end.ensures.looks) c.record_end.ensures.grows) (after_looks g.S.Texts.tells (g.S.Texts.world c.record_end.new.site) (g.S.Texts.world c.show_end.new.site) c.show_end.ensures.looks)

pub returns-clause-kept : goal.returns-clause-kept
returns-clause-kept g c =
    let graph = c.args.self.now.graph in
    let flags = c.args.self.now.plan.changed.items in
    let seen = c.args.self.now.looks.seen.items in
    let noted = c.note_end.new.self in
    let command = ending_command g.S.Texts.tells c.requires.ending.0 graph c.requires.ending.1 c.args.self.now (g.S.Texts.world c.args.site.now) c.args.edge c.args.finished.ok c.ended-finished.result.ok c.args.told.now c.ended-finished.ensures.ok c.one_answer.ensures c.requires.ending.2 in
    let kept = ended_keeps g.S.Texts.tells graph c.args.edge c.ended-finished.result.ok (g.S.Texts.world c.args.site.now) (g.S.Texts.world c.note_end.new.site) c.args.self.now noted (c.lists_stand.ensures.phony_is c.args.edge ∙ command)
    (ok_by c.note_end.result c.map_err.result _ c.map_err.ensures.variant c.in_ok-map_err.was c.note_end.ensures.ended) in
    on_ok c.map_err-3.result
    (subst (λ (plan : Plan). KeepsUnmade graph flags seen plan.changed.items c.record_end.new.self.looks.seen.items) (sym c.record_end.ensures.plan)
    (subst (λ (looks : Looks). KeepsUnmade graph flags seen noted.plan.changed.items looks.seen.items) (sym c.record_end.ensures.looks) kept))

pub returns-clause-sums : goal.returns-clause-sums
returns-clause-sums g c = on_ok c.map_err-3.result (ap (λ (looks : Looks). looks.sums) c.record_end.ensures.looks ∙ c.note_end.ensures.sums)

pub returns-in_err-map_err-2-clause-graph : goal.returns-in_err-map_err-2-clause-graph
returns-in_err-map_err-2-clause-graph g c = c.record_end.ensures.graph ∙ c.note_end.ensures.graph

pub returns-clause-graph : goal.returns-clause-graph
returns-clause-graph g c = c.record_end.ensures.graph ∙ c.note_end.ensures.graph
