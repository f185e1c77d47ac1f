use Rattle.std.proofs.Common.{◌≡◌, ◌≢◌, ◌<◌, ℕ, suc, length, [], ◌∙◌, None, get_or, ap, refl, sym, subst, arith}
use Rattle.model.specs.declared.act.Act.{Act}
use Rattle.model.specs.declared.graph.Deps.TheVariants.{Gcc}
use Rattle.model.specs.Calls.{Writes, WritesOrNot}
use Rattle.theory.proofs.SiteCalls.{unrefused_call, unrefused_then, cause_then}
use Rattle.theory.proofs.Writing.{writes_or_not_at}
use Rattle.graph.specs.declared.graph.Graph.{Graph}
use Rattle.graph.specs.Told.{declared_by}
use Rattle.model.specs.Graph.{IsCommand, IsMadeOnce, edge_at, outputs}
use Rattle.work.specs.Course.{Suits, IsOn}
use Rattle.work.specs.Going.{IsCut}
use Rattle.work.specs.Starting.{MayBeDone}
use Rattle.work.proofs.Keeping.{with_records}
use Rattle.work.proofs.Places.{read_item}
use Rattle.work.specs.Removing.{EndsByRemoving}
use Rattle.work.proofs.Results.{ok_then, on_err}
use Rattle.work.proofs.Removing.{grew_thrice, ends_by_removing}
use Rattle.work.proofs.Recording.{taken_command, taken_some, taken_once, taken_within, taken_stamped, taken_under, cut_recording, cut_clearing, removed, cut_removing}
use Rattle.work.proofs.After.{after_then, after_removal, after_writes, after_same}
use Rattle.work.proofs.state.Work.record_end.Goals as goal

pub index-start-requires : goal.index-start-requires
index-start-requires g c =
    let taken = c.requires.taken_in in
    let lt = taken_stamped g.S.Texts.tells taken.0 c.args.self.now.graph taken.1 c.args.self.now (g.S.Texts.world c.args.site.now) c.args.edge (get_or c.args.self.now.starts.items c.args.edge 0) c.args.ok c.if-not-ok.false c.args.told.now taken.2 in
    omega (arith, lt, c.index.ensures.place)

pub report-requires-clause-taken_in : goal.report-requires-clause-taken_in
report-requires-clause-taken_in g c =
    let taken = c.requires.taken_in in
    let lt = taken_stamped g.S.Texts.tells taken.0 c.args.self.now.graph taken.1 c.args.self.now (g.S.Texts.world c.args.site.now) c.args.edge (get_or c.args.self.now.starts.items c.args.edge 0) c.args.ok c.if-not-ok.false c.args.told.now taken.2 in
    (taken.0, taken.1, taken_under g.S.Texts.tells taken.0 c.args.self.now.graph taken.1 c.args.self.now (g.S.Texts.world c.args.site.now) c.args.edge (get_or c.args.self.now.starts.items c.args.edge 0) c.args.ok c.if-not-ok.false c.args.told.now taken.2 c.index-start.result.now (read_item c.args.self.now.starts.items c.index.result c.index-start.result.now c.index-start.ensures (omega (arith, lt, c.index.ensures.place)) ∙ ap (λ (k : ℕ). get_or c.args.self.now.starts.items k 0) c.index.ensures.place))

pub done-requires-clause-within : goal.done-requires-clause-within
done-requires-clause-within g c =
    let taken = c.requires.taken_in in
    subst (λ (of : Graph). c.args.edge < length of.manifest.lines) (sym {A = Graph} c.report.ensures.graph)
    (taken_within g.S.Texts.tells taken.0 c.args.self.now.graph taken.1 c.args.self.now (g.S.Texts.world c.args.site.now) c.args.edge (get_or c.args.self.now.starts.items c.args.edge 0) c.args.ok c.if-not-ok.false c.args.told.now taken.2)

pub done-requires-clause-once : goal.done-requires-clause-once
done-requires-clause-once g c =
    let taken = c.requires.taken_in in
    subst (λ (of : Graph). IsMadeOnce (declared_by of).edges) (sym {A = Graph} c.report.ensures.graph)
    (taken_once g.S.Texts.tells taken.0 c.args.self.now.graph taken.1 c.args.self.now (g.S.Texts.world c.args.site.now) c.args.edge (get_or c.args.self.now.starts.items c.args.edge 0) c.args.ok c.if-not-ok.false c.args.told.now taken.2)

pub done-requires-clause-some : goal.done-requires-clause-some
done-requires-clause-some g c =
    let taken = c.requires.taken_in in
    subst (λ (of : Graph). outputs (edge_at (declared_by of).edges (suc c.args.edge)) ≢ []) (sym {A = Graph} c.report.ensures.graph)
    (taken_some g.S.Texts.tells taken.0 c.args.self.now.graph taken.1 c.args.self.now (g.S.Texts.world c.args.site.now) c.args.edge (get_or c.args.self.now.starts.items c.args.edge 0) c.args.ok c.if-not-ok.false c.args.told.now taken.2)

pub done-requires-clause-command : goal.done-requires-clause-command
done-requires-clause-command g c =
    let taken = c.requires.taken_in in
    subst (λ (of : Graph). IsCommand (declared_by of).edges (suc c.args.edge)) (sym {A = Graph} c.report.ensures.graph)
    (taken_command g.S.Texts.tells taken.0 c.args.self.now.graph taken.1 c.args.self.now (g.S.Texts.world c.args.site.now) c.args.edge (get_or c.args.self.now.starts.items c.args.edge 0) c.args.ok c.if-not-ok.false c.args.told.now taken.2)

pub command-requires : goal.command-requires
command-requires g c =
    let taken = c.requires.taken_in in
    subst (λ (of : Graph). IsCommand (declared_by of).edges (suc c.args.edge)) (sym {A = Graph} c.report.ensures.graph)
    (taken_command g.S.Texts.tells taken.0 c.args.self.now.graph taken.1 c.args.self.now (g.S.Texts.world c.args.site.now) c.args.edge (get_or c.args.self.now.starts.items c.args.edge 0) c.args.ok c.if-not-ok.false c.args.told.now taken.2)

pub act-requires : goal.act-requires
act-requires g c =
    let taken = c.requires.taken_in in
    subst (λ (of : Graph). IsCommand (declared_by of).edges (suc c.args.edge)) (sym {A = Graph} c.report.ensures.graph)
    (taken_command g.S.Texts.tells taken.0 c.args.self.now.graph taken.1 c.args.self.now (g.S.Texts.world c.args.site.now) c.args.edge (get_or c.args.self.now.starts.items c.args.edge 0) c.args.ok c.if-not-ok.false c.args.told.now taken.2)

pub returns-in_err-report-clause-cut : goal.returns-in_err-report-clause-cut
returns-in_err-report-clause-cut g c =
    on_err c.from_residual.result (λ course suits taken.
    let lt = taken_stamped g.S.Texts.tells course c.args.self.now.graph suits c.args.self.now (g.S.Texts.world c.args.site.now) c.args.edge (get_or c.args.self.now.starts.items c.args.edge 0) c.args.ok c.if-not-ok.false c.args.told.now taken in
    c.in_err-report.ensures.cut course suits (taken_under g.S.Texts.tells course c.args.self.now.graph suits c.args.self.now (g.S.Texts.world c.args.site.now) c.args.edge (get_or c.args.self.now.starts.items c.args.edge 0) c.args.ok c.if-not-ok.false c.args.told.now taken c.index-start.result.now (read_item c.args.self.now.starts.items c.index.result c.index-start.result.now c.index-start.ensures (omega (arith, lt, c.index.ensures.place)) ∙ ap (λ (k : ℕ). get_or c.args.self.now.starts.items k 0) c.index.ensures.place)))

pub returns-in_err-done-clause-cut : goal.returns-in_err-done-clause-cut
returns-in_err-done-clause-cut g c =
    on_err c.from_residual-in_err-done.result (λ course suits taken.
    let lt = taken_stamped g.S.Texts.tells course c.args.self.now.graph suits c.args.self.now (g.S.Texts.world c.args.site.now) c.args.edge (get_or c.args.self.now.starts.items c.args.edge 0) c.args.ok c.if-not-ok.false c.args.told.now taken in
    subst (λ (of : Graph). IsCut g.S.Texts.tells course of c.report.new.self.plan (g.S.Texts.world c.done.new.site)) c.report.ensures.graph
    (cut_recording g.S.Texts.tells course c.report.new.self.graph (subst (Suits course) (sym {A = Graph} c.report.ensures.graph) suits) c.report.new.self (g.S.Texts.world c.report.new.site) c.args.edge c.index-start.result.now
    (subst (λ (of : Graph). MayBeDone g.S.Texts.tells course of (suc c.args.edge) c.index-start.result.now c.report.new.self (g.S.Texts.world c.report.new.site)) (sym {A = Graph} c.report.ensures.graph)
    (c.in_ok-report.ensures.on course suits (taken_under g.S.Texts.tells course c.args.self.now.graph suits c.args.self.now (g.S.Texts.world c.args.site.now) c.args.edge (get_or c.args.self.now.starts.items c.args.edge 0) c.args.ok c.if-not-ok.false c.args.told.now taken c.index-start.result.now (read_item c.args.self.now.starts.items c.index.result c.index-start.result.now c.index-start.ensures (omega (arith, lt, c.index.ensures.place)) ∙ ap (λ (k : ℕ). get_or c.args.self.now.starts.items k 0) c.index.ensures.place))))
    (g.S.Texts.world c.done.new.site) c.done.ensures.writes c.index-start.result.now refl c.in_err-done.ensures.err))

pub returns-in_err-remove_read_depfile-clause-cut : goal.returns-in_err-remove_read_depfile-clause-cut
returns-in_err-remove_read_depfile-clause-cut g c =
    on_err c.from_residual-in_err-remove_read_depfile.result (λ course suits taken.
    let lt = taken_stamped g.S.Texts.tells course c.args.self.now.graph suits c.args.self.now (g.S.Texts.world c.args.site.now) c.args.edge (get_or c.args.self.now.starts.items c.args.edge 0) c.args.ok c.if-not-ok.false c.args.told.now taken in
    subst (λ (of : Graph). IsCut g.S.Texts.tells course of c.report.new.self.plan (g.S.Texts.world c.remove_read_depfile.new.site)) c.report.ensures.graph
    (cut_clearing g.S.Texts.tells course c.report.new.self.graph (subst (Suits course) (sym {A = Graph} c.report.ensures.graph) suits) c.report.new.self (g.S.Texts.world c.report.new.site) c.args.edge c.index-start.result.now
    (subst (λ (of : Graph). MayBeDone g.S.Texts.tells course of (suc c.args.edge) c.index-start.result.now c.report.new.self (g.S.Texts.world c.report.new.site)) (sym {A = Graph} c.report.ensures.graph)
    (c.in_ok-report.ensures.on course suits (taken_under g.S.Texts.tells course c.args.self.now.graph suits c.args.self.now (g.S.Texts.world c.args.site.now) c.args.edge (get_or c.args.self.now.starts.items c.args.edge 0) c.args.ok c.if-not-ok.false c.args.told.now taken c.index-start.result.now (read_item c.args.self.now.starts.items c.index.result c.index-start.result.now c.index-start.ensures (omega (arith, lt, c.index.ensures.place)) ∙ ap (λ (k : ℕ). get_or c.args.self.now.starts.items k 0) c.index.ensures.place))))
    (g.S.Texts.world c.done.new.site) c.done.ensures.writes c.index-start.result.now refl
    c.done.new.self c.done.ensures.same c.done.ensures.places c.done.ensures.deps_places c.in_ok-done.ensures.ok c.log_stays.ensures c.command.result.now.act c.command.ensures.act c.command.result.now.deps c.command.ensures.deps (g.S.Texts.world c.remove_read_depfile.new.site) c.remove_read_depfile.ensures.at (λ other. (c.remove_read_depfile.ensures.stays other).1)))

pub returns-clause-on : goal.returns-clause-on
returns-clause-on g c =
    ok_then c.remove_response.result c.remove_response.ensures.removed (λ gone course suits taken.
    let lt = taken_stamped g.S.Texts.tells course c.args.self.now.graph suits c.args.self.now (g.S.Texts.world c.args.site.now) c.args.edge (get_or c.args.self.now.starts.items c.args.edge 0) c.args.ok c.if-not-ok.false c.args.told.now taken in
    subst (λ (of : Graph). IsOn g.S.Texts.tells course of None (with_records g.S.Texts.tells course of c.report.new.self c.done.new.self) (g.S.Texts.world c.remove_response.new.site)) c.report.ensures.graph
    (removed g.S.Texts.tells course c.report.new.self.graph (subst (Suits course) (sym {A = Graph} c.report.ensures.graph) suits) c.report.new.self (g.S.Texts.world c.report.new.site) c.args.edge c.index-start.result.now
    (subst (λ (of : Graph). MayBeDone g.S.Texts.tells course of (suc c.args.edge) c.index-start.result.now c.report.new.self (g.S.Texts.world c.report.new.site)) (sym {A = Graph} c.report.ensures.graph)
    (c.in_ok-report.ensures.on course suits (taken_under g.S.Texts.tells course c.args.self.now.graph suits c.args.self.now (g.S.Texts.world c.args.site.now) c.args.edge (get_or c.args.self.now.starts.items c.args.edge 0) c.args.ok c.if-not-ok.false c.args.told.now taken c.index-start.result.now (read_item c.args.self.now.starts.items c.index.result c.index-start.result.now c.index-start.ensures (omega (arith, lt, c.index.ensures.place)) ∙ ap (λ (k : ℕ). get_or c.args.self.now.starts.items k 0) c.index.ensures.place))))
    (g.S.Texts.world c.done.new.site) c.done.ensures.writes c.index-start.result.now refl
    c.done.new.self c.done.ensures.same c.done.ensures.places c.done.ensures.deps_places c.in_ok-done.ensures.ok c.log_stays.ensures c.act.result.now c.act.ensures c.command.result.now.deps c.command.ensures.deps (g.S.Texts.world c.remove_read_depfile.new.site)
    (subst (λ (a : Act). WritesOrNot g.S.Texts.tells a.depfile None (g.S.Texts.world c.done.new.site) (g.S.Texts.world c.remove_read_depfile.new.site)) (c.command.ensures.act ∙ sym c.act.ensures) c.remove_read_depfile.ensures.at) (λ other. (c.remove_read_depfile.ensures.stays other).1) (g.S.Texts.world c.remove_response.new.site) c.remove_response.ensures.at
    (subst (λ (a : Act). c.command.result.now.deps ≡ Gcc → a.depfile ≢ [] → Writes g.S.Texts.tells a.depfile None (g.S.Texts.world c.done.new.site) (g.S.Texts.world c.remove_read_depfile.new.site)) (c.command.ensures.act ∙ sym c.act.ensures) c.in_ok-remove_read_depfile.ensures.removed) gone))

pub returns-clause-cut : goal.returns-clause-cut
returns-clause-cut g c =
    on_err c.remove_response.result (λ course suits taken.
    let lt = taken_stamped g.S.Texts.tells course c.args.self.now.graph suits c.args.self.now (g.S.Texts.world c.args.site.now) c.args.edge (get_or c.args.self.now.starts.items c.args.edge 0) c.args.ok c.if-not-ok.false c.args.told.now taken in
    subst (λ (of : Graph). IsCut g.S.Texts.tells course of c.report.new.self.plan (g.S.Texts.world c.remove_response.new.site)) c.report.ensures.graph
    (cut_removing g.S.Texts.tells course c.report.new.self.graph (subst (Suits course) (sym {A = Graph} c.report.ensures.graph) suits) c.report.new.self (g.S.Texts.world c.report.new.site) c.args.edge c.index-start.result.now
    (subst (λ (of : Graph). MayBeDone g.S.Texts.tells course of (suc c.args.edge) c.index-start.result.now c.report.new.self (g.S.Texts.world c.report.new.site)) (sym {A = Graph} c.report.ensures.graph)
    (c.in_ok-report.ensures.on course suits (taken_under g.S.Texts.tells course c.args.self.now.graph suits c.args.self.now (g.S.Texts.world c.args.site.now) c.args.edge (get_or c.args.self.now.starts.items c.args.edge 0) c.args.ok c.if-not-ok.false c.args.told.now taken c.index-start.result.now (read_item c.args.self.now.starts.items c.index.result c.index-start.result.now c.index-start.ensures (omega (arith, lt, c.index.ensures.place)) ∙ ap (λ (k : ℕ). get_or c.args.self.now.starts.items k 0) c.index.ensures.place))))
    (g.S.Texts.world c.done.new.site) c.done.ensures.writes c.index-start.result.now refl
    c.done.new.self c.done.ensures.same c.done.ensures.places c.done.ensures.deps_places c.in_ok-done.ensures.ok c.log_stays.ensures c.act.result.now c.act.ensures c.command.result.now.deps c.command.ensures.deps (g.S.Texts.world c.remove_read_depfile.new.site)
    (subst (λ (a : Act). WritesOrNot g.S.Texts.tells a.depfile None (g.S.Texts.world c.done.new.site) (g.S.Texts.world c.remove_read_depfile.new.site)) (c.command.ensures.act ∙ sym c.act.ensures) c.remove_read_depfile.ensures.at) (λ other. (c.remove_read_depfile.ensures.stays other).1) (g.S.Texts.world c.remove_response.new.site) c.remove_response.ensures.at))

pub returns-clause-cause : goal.returns-clause-cause
returns-clause-cause g c =
    cause_then (g.S.Texts.world c.args.site.now) (g.S.Texts.world c.remove_read_depfile.new.site) (g.S.Texts.world c.remove_response.new.site) c.remove_response.result
    (unrefused_then (g.S.Texts.world c.args.site.now) (g.S.Texts.world c.done.new.site) (g.S.Texts.world c.remove_read_depfile.new.site)
    (unrefused_then (g.S.Texts.world c.args.site.now) (g.S.Texts.world c.report.new.site) (g.S.Texts.world c.done.new.site)
    (unrefused_call (g.S.Texts.world c.args.site.now) (g.S.Texts.world c.report.new.site) _ c.in_ok-report.ensures.cause)
    (unrefused_call (g.S.Texts.world c.report.new.site) (g.S.Texts.world c.done.new.site) _ c.in_ok-done.ensures.cause))
    (unrefused_call (g.S.Texts.world c.done.new.site) (g.S.Texts.world c.remove_read_depfile.new.site) _ c.in_ok-remove_read_depfile.ensures.cause))
    c.remove_response.ensures.cause

pub returns-clause-removed : goal.returns-clause-removed
returns-clause-removed g c =
    ok_then c.remove_response.result c.remove_response.ensures.removed (λ removed went.
    subst (λ (a : Act). EndsByRemoving g.S.Texts.tells a (g.S.Texts.world c.args.site.now) (g.S.Texts.world c.remove_response.new.site)) (c.act.ensures ∙ ap (λ (of : Graph). (edge_at (declared_by of).edges (suc c.args.edge)).act) c.report.ensures.graph)
    (ends_by_removing g.S.Texts.tells c.act.result.now (g.S.Texts.world c.args.site.now) (g.S.Texts.world c.remove_read_depfile.new.site) (g.S.Texts.world c.remove_response.new.site)
    (grew_thrice g.S.Texts.tells c.args.self.now.records.logs.deps_log.path c.report.new.self.records.logs.build_log.path c.command.result.now.act.depfile (g.S.Texts.world c.args.site.now) (g.S.Texts.world c.report.new.site) (g.S.Texts.world c.done.new.site) (g.S.Texts.world c.remove_read_depfile.new.site)
    c.report.ensures.writes c.done.ensures.writes (writes_or_not_at g.S.Texts.tells c.command.result.now.act.depfile None (g.S.Texts.world c.done.new.site) (g.S.Texts.world c.remove_read_depfile.new.site) c.remove_read_depfile.ensures.at))
    removed))

pub returns-in_err-remove_read_depfile-clause-events : goal.returns-in_err-remove_read_depfile-clause-events
returns-in_err-remove_read_depfile-clause-events g c =
    (writes_or_not_at g.S.Texts.tells c.command.result.now.act.depfile None (g.S.Texts.world c.done.new.site) (g.S.Texts.world c.remove_read_depfile.new.site) c.remove_read_depfile.ensures.at).events ∙ (c.done.ensures.writes.events ∙ c.report.ensures.writes.events)

pub returns-clause-events : goal.returns-clause-events
returns-clause-events g c =
    c.remove_response.ensures.at.events ∙ ((writes_or_not_at g.S.Texts.tells c.command.result.now.act.depfile None (g.S.Texts.world c.done.new.site) (g.S.Texts.world c.remove_read_depfile.new.site) c.remove_read_depfile.ensures.at).events ∙ (c.done.ensures.writes.events ∙ c.report.ensures.writes.events))

pub returns-in_err-remove_read_depfile-clause-at_start : goal.returns-in_err-remove_read_depfile-clause-at_start
returns-in_err-remove_read_depfile-clause-at_start g c =
    (writes_or_not_at g.S.Texts.tells c.command.result.now.act.depfile None (g.S.Texts.world c.done.new.site) (g.S.Texts.world c.remove_read_depfile.new.site) c.remove_read_depfile.ensures.at).at_start ∙ (c.done.ensures.writes.at_start ∙ c.report.ensures.writes.at_start)

pub returns-clause-at_start : goal.returns-clause-at_start
returns-clause-at_start g c =
    c.remove_response.ensures.at.at_start ∙ ((writes_or_not_at g.S.Texts.tells c.command.result.now.act.depfile None (g.S.Texts.world c.done.new.site) (g.S.Texts.world c.remove_read_depfile.new.site) c.remove_read_depfile.ensures.at).at_start ∙ (c.done.ensures.writes.at_start ∙ c.report.ensures.writes.at_start))

pub returns-in_err-report-clause-grows : goal.returns-in_err-report-clause-grows
returns-in_err-report-clause-grows g c = after_writes g.S.Texts.tells c.args.self.now.records.logs.deps_log.path (g.S.Texts.world c.args.site.now) (g.S.Texts.world c.report.new.site) c.report.ensures.writes

pub returns-in_err-done-clause-grows : goal.returns-in_err-done-clause-grows
returns-in_err-done-clause-grows g c = after_then g.S.Texts.tells (g.S.Texts.world c.args.site.now) (g.S.Texts.world c.report.new.site) (g.S.Texts.world c.done.new.site) (after_writes g.S.Texts.tells c.args.self.now.records.logs.deps_log.path (g.S.Texts.world c.args.site.now) (g.S.Texts.world c.report.new.site) c.report.ensures.writes) (after_writes g.S.Texts.tells c.report.new.self.records.logs.build_log.path (g.S.Texts.world c.report.new.site) (g.S.Texts.world c.done.new.site) c.done.ensures.writes)

pub returns-in_err-remove_read_depfile-clause-grows : goal.returns-in_err-remove_read_depfile-clause-grows
returns-in_err-remove_read_depfile-clause-grows g c = after_then g.S.Texts.tells (g.S.Texts.world c.args.site.now) (g.S.Texts.world c.done.new.site) (g.S.Texts.world c.remove_read_depfile.new.site) (after_then g.S.Texts.tells (g.S.Texts.world c.args.site.now) (g.S.Texts.world c.report.new.site) (g.S.Texts.world c.done.new.site) (after_writes g.S.Texts.tells c.args.self.now.records.logs.deps_log.path (g.S.Texts.world c.args.site.now) (g.S.Texts.world c.report.new.site) c.report.ensures.writes) (after_writes g.S.Texts.tells c.report.new.self.records.logs.build_log.path (g.S.Texts.world c.report.new.site) (g.S.Texts.world c.done.new.site) c.done.ensures.writes)) (after_removal g.S.Texts.tells c.command.result.now.act.depfile None (g.S.Texts.world c.done.new.site) (g.S.Texts.world c.remove_read_depfile.new.site) c.remove_read_depfile.ensures.at)

pub returns-clause-grows : goal.returns-clause-grows
returns-clause-grows g c = after_then g.S.Texts.tells (g.S.Texts.world c.args.site.now) (g.S.Texts.world c.remove_read_depfile.new.site) (g.S.Texts.world c.remove_response.new.site) (after_then g.S.Texts.tells (g.S.Texts.world c.args.site.now) (g.S.Texts.world c.done.new.site) (g.S.Texts.world c.remove_read_depfile.new.site) (after_then g.S.Texts.tells (g.S.Texts.world c.args.site.now) (g.S.Texts.world c.report.new.site) (g.S.Texts.world c.done.new.site) (after_writes g.S.Texts.tells c.args.self.now.records.logs.deps_log.path (g.S.Texts.world c.args.site.now) (g.S.Texts.world c.report.new.site) c.report.ensures.writes) (after_writes g.S.Texts.tells c.report.new.self.records.logs.build_log.path (g.S.Texts.world c.report.new.site) (g.S.Texts.world c.done.new.site) c.done.ensures.writes)) (after_removal g.S.Texts.tells c.command.result.now.act.depfile None (g.S.Texts.world c.done.new.site) (g.S.Texts.world c.remove_read_depfile.new.site) c.remove_read_depfile.ensures.at)) (after_writes g.S.Texts.tells c.act.result.now.response_path (g.S.Texts.world c.remove_read_depfile.new.site) (g.S.Texts.world c.remove_response.new.site) c.remove_response.ensures.at)

pub returns-then-not-ok-clause-grows : goal.returns-then-not-ok-clause-grows
returns-then-not-ok-clause-grows g c = after_same g.S.Texts.tells (g.S.Texts.world c.args.site.now)
