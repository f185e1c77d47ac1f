use Rattle.std.proofs.Common.{ℕ, ◌<◌, List, slice_set, Err, subst, ap, sym, ◌∙◌, None}
use Rattle.std.specs.Vec.{with_items}
use Rattle.std.proofs.lemmas.Result.{err_from_is_err_and}
use Rattle.model.specs.World.{runs}
use Rattle.theory.proofs.SiteCalls.{unrefused_call, unrefused_then, cause_then}
use Rattle.plan.specs.declared.step.Standing.{Standing}
use Rattle.work.specs.Going.{work_left}
use Rattle.work.proofs.Cutting.{cause_err}
use Rattle.work.proofs.Results.{on_err, ok_then}
use Rattle.work.proofs.WorkLeft.{started_less}
use Rattle.work.proofs.Launched.{err_then, one_set, start_told, cut_clearing, cut_writing, ticks_at, ticks_or_not_at, cut_ticking, starts_idle, launch_on, launch_cut}
use Rattle.work.proofs.After.{after_then, after_removal, after_writes, after_tick, after_tick_or_not, after_start_result, some_after, one_started, after_start}
use Rattle.work.proofs.state.Work.launch.Goals as goal

pub returns-in_err-remove_old_depfile-clause-cut : goal.returns-in_err-remove_old_depfile-clause-cut
returns-in_err-remove_old_depfile-clause-cut g c =
    on_err c.from_residual.result (λ course suits begun.
    cut_clearing g.S.Texts.tells course c.args.self.now.graph c.log_stays.ensures suits c.args.self.now (g.S.Texts.world c.args.site.now) (g.S.Texts.world c.remove_old_depfile.new.site) c.args.edge c.act-act.result.now
    c.act-act.ensures begun c.remove_old_depfile.ensures.at)

pub returns-in_err-write_response-clause-cut : goal.returns-in_err-write_response-clause-cut
returns-in_err-write_response-clause-cut g c =
    on_err c.from_residual-in_err-write_response.result (λ course suits begun.
    cut_writing g.S.Texts.tells course c.args.self.now.graph c.log_stays.ensures suits c.args.self.now (g.S.Texts.world c.args.site.now) (g.S.Texts.world c.remove_old_depfile.new.site) c.args.edge c.act-act.result.now
    c.act-act.ensures begun c.remove_old_depfile.ensures.at (g.S.Texts.world c.write_response.new.site) c.write_response.ensures.at)

pub returns-in_err-stamp-clause-cause : goal.returns-in_err-stamp-clause-cause
returns-in_err-stamp-clause-cause g c =
    let failed = err_from_is_err_and c.from_residual-in_err-stamp.result c.from_residual-in_err-stamp.ensures.1 in
    rw (failed.1, failed.2)
    (cause_then (g.S.Texts.world c.args.site.now) (g.S.Texts.world c.write_response.new.site) (g.S.Texts.world c.tick.new.self) (Err c.in_err-stamp.field-0.0)
    (unrefused_then (g.S.Texts.world c.args.site.now) (g.S.Texts.world c.remove_old_depfile.new.site) (g.S.Texts.world c.write_response.new.site)
    (unrefused_call (g.S.Texts.world c.args.site.now) (g.S.Texts.world c.remove_old_depfile.new.site) _ c.in_ok-remove_old_depfile.ensures.cause)
    (unrefused_call (g.S.Texts.world c.remove_old_depfile.new.site) (g.S.Texts.world c.write_response.new.site) _ c.in_ok-write_response.ensures.cause))
    (cause_err (g.S.Texts.world c.write_response.new.site) (g.S.Texts.world c.tick.new.self) c.in_err-stamp.field-0.0 c.in_err-stamp.ensures.cause))

pub returns-in_err-write_response-clause-cause : goal.returns-in_err-write_response-clause-cause
returns-in_err-write_response-clause-cause g c =
    let failed = err_from_is_err_and c.from_residual-in_err-write_response.result c.from_residual-in_err-write_response.ensures.1 in
    rw (failed.1, failed.2)
    (cause_then (g.S.Texts.world c.args.site.now) (g.S.Texts.world c.remove_old_depfile.new.site) (g.S.Texts.world c.write_response.new.site) (Err c.in_err-write_response.field-0.0)
    (unrefused_call (g.S.Texts.world c.args.site.now) (g.S.Texts.world c.remove_old_depfile.new.site) _ c.in_ok-remove_old_depfile.ensures.cause)
    (cause_err (g.S.Texts.world c.remove_old_depfile.new.site) (g.S.Texts.world c.write_response.new.site) c.in_err-write_response.field-0.0 c.in_err-write_response.ensures.cause))

pub returns-clause-cause : goal.returns-clause-cause
returns-clause-cause g c =
    cause_then (g.S.Texts.world c.args.site.now) (g.S.Texts.world c.tick.new.self) (g.S.Texts.world c.start-result.new.self) c.start-result.result
    (unrefused_then (g.S.Texts.world c.args.site.now) (g.S.Texts.world c.write_response.new.site) (g.S.Texts.world c.tick.new.self)
    (unrefused_then (g.S.Texts.world c.args.site.now) (g.S.Texts.world c.remove_old_depfile.new.site) (g.S.Texts.world c.write_response.new.site)
    (unrefused_call (g.S.Texts.world c.args.site.now) (g.S.Texts.world c.remove_old_depfile.new.site) _ c.in_ok-remove_old_depfile.ensures.cause)
    (unrefused_call (g.S.Texts.world c.remove_old_depfile.new.site) (g.S.Texts.world c.write_response.new.site) _ c.in_ok-write_response.ensures.cause))
    (unrefused_call (g.S.Texts.world c.write_response.new.site) (g.S.Texts.world c.tick.new.self) _ c.in_ok-stamp.ensures.cause))
    c.start-result.ensures.cause

pub returns-in_err-stamp-clause-cut : goal.returns-in_err-stamp-clause-cut
returns-in_err-stamp-clause-cut g c =
    on_err c.from_residual-in_err-stamp.result (λ course suits begun.
    cut_ticking g.S.Texts.tells course c.args.self.now.graph c.log_stays.ensures suits c.args.self.now (g.S.Texts.world c.args.site.now) (g.S.Texts.world c.remove_old_depfile.new.site) c.args.edge c.act-act.result.now
    c.act-act.ensures begun c.remove_old_depfile.ensures.at (g.S.Texts.world c.write_response.new.site) c.write_response.ensures.at (g.S.Texts.world c.tick.new.self) (ticks_or_not_at g.S.Texts.tells (g.S.Texts.world c.write_response.new.site) (g.S.Texts.world c.tick.new.self) c.as_str.result.now c.args.self.now.tick c.as_str.ensures c.in_err-stamp.ensures.err))

pub start-result-requires : goal.start-result-requires
start-result-requires g c =
    let course = c.requires.begun.course in
    ap (λ (n : ℕ). runs n (g.S.Texts.world c.tick.new.self).events) c.job.ensures
    ∙ starts_idle g.S.Texts.tells course c.args.self.now.graph c.log_stays.ensures c.requires.begun.suits c.args.self.now (g.S.Texts.world c.args.site.now) (g.S.Texts.world c.remove_old_depfile.new.site) c.args.edge c.act-act.result.now
    c.act-act.ensures c.requires.begun.begun c.remove_old_depfile.ensures.at (g.S.Texts.world c.write_response.new.site) c.write_response.ensures.at (g.S.Texts.world c.tick.new.self) c.in_ok-stamp.stamp (ticks_at g.S.Texts.tells c.in_ok-stamp.stamp (g.S.Texts.world c.write_response.new.site) (g.S.Texts.world c.tick.new.self) c.as_str.result.now c.args.self.now.tick c.as_str.ensures c.in_ok-stamp.ensures.ticks)

pub returns-clause-nearer : goal.returns-clause-nearer
returns-clause-nearer g c =
    ok_then c.start-result.result
    (start_told c.start-result.result g.S.Texts.tells c.job.result c.act-act.result.now (g.S.Texts.world c.tick.new.self) (g.S.Texts.world c.start-result.new.self) c.events-known.result.now c.events.result.now
    c.events-known.ensures c.events.ensures c.start-result.ensures.cause.earlier c.start-result.ensures.starts)
    (λ told. subst (λ (l : List Standing). work_left l < work_left c.args.self.now.plan.standings.items) (sym (c.note_start.ensures.stands told)) (started_less c.args.self.now.plan c.args.edge c.requires.offered))

pub returns-clause-on : goal.returns-clause-on
returns-clause-on g c =
    ok_then c.start-result.result c.start-result.ensures.starts (λ made course suits begun.
    launch_on g.S.Texts.tells course c.args.self.now.graph c.log_stays.ensures suits c.args.self.now (g.S.Texts.world c.args.site.now) (g.S.Texts.world c.remove_old_depfile.new.site) c.args.edge c.act-act.result.now
    c.act-act.ensures begun c.remove_old_depfile.ensures.at (g.S.Texts.world c.write_response.new.site) c.write_response.ensures.at (g.S.Texts.world c.tick.new.self) c.in_ok-stamp.stamp (ticks_at g.S.Texts.tells c.in_ok-stamp.stamp (g.S.Texts.world c.write_response.new.site) (g.S.Texts.world c.tick.new.self) c.as_str.result.now c.args.self.now.tick c.as_str.ensures c.in_ok-stamp.ensures.ticks)
    (g.S.Texts.world c.start-result.new.self) c.job.result c.job.ensures (with_items c.args.self.now.starts c.note_stamp.new.starts) (one_set c.args.self.now.starts c.note_stamp.new.starts c.args.edge c.in_ok-stamp.stamp (c.note_stamp.ensures ∙ ap (λ (l : List ℕ). slice_set l c.args.edge c.in_ok-stamp.stamp) c.deref_mut.ensures.value)) c.note_start.new.plan c.in_ok-remove_old_depfile.ensures.removed c.in_ok-write_response.ensures.written
    c.events-known.result.now c.events.result.now c.events-known.ensures c.events.ensures c.start-result.ensures.cause.earlier c.note_start.ensures.still c.note_start.ensures.planned c.note_start.ensures.flags made)

pub returns-clause-cut : goal.returns-clause-cut
returns-clause-cut g c =
    err_then c.start-result.result c.start-result.ensures.err (λ made course suits begun.
    launch_cut g.S.Texts.tells course c.args.self.now.graph c.log_stays.ensures suits c.args.self.now (g.S.Texts.world c.args.site.now) (g.S.Texts.world c.remove_old_depfile.new.site) c.args.edge c.act-act.result.now
    c.act-act.ensures begun c.remove_old_depfile.ensures.at (g.S.Texts.world c.write_response.new.site) c.write_response.ensures.at (g.S.Texts.world c.tick.new.self) c.in_ok-stamp.stamp (ticks_at g.S.Texts.tells c.in_ok-stamp.stamp (g.S.Texts.world c.write_response.new.site) (g.S.Texts.world c.tick.new.self) c.as_str.result.now c.args.self.now.tick c.as_str.ensures c.in_ok-stamp.ensures.ticks)
    (g.S.Texts.world c.start-result.new.self) c.job.result c.job.ensures (with_items c.args.self.now.starts c.note_stamp.new.starts) (one_set c.args.self.now.starts c.note_stamp.new.starts c.args.edge c.in_ok-stamp.stamp (c.note_stamp.ensures ∙ ap (λ (l : List ℕ). slice_set l c.args.edge c.in_ok-stamp.stamp) c.deref_mut.ensures.value)) c.note_start.new.plan c.in_ok-remove_old_depfile.ensures.removed c.in_ok-write_response.ensures.written
    c.events-known.result.now c.events.result.now c.events-known.ensures c.events.ensures c.start-result.ensures.cause.earlier c.note_start.ensures.still c.note_start.ensures.planned c.note_start.ensures.flags made)

pub returns-in_err-remove_old_depfile-clause-grows : goal.returns-in_err-remove_old_depfile-clause-grows
returns-in_err-remove_old_depfile-clause-grows g c = after_removal g.S.Texts.tells c.act-act.result.now.depfile None (g.S.Texts.world c.args.site.now) (g.S.Texts.world c.remove_old_depfile.new.site) c.remove_old_depfile.ensures.at

pub returns-in_err-write_response-clause-grows : goal.returns-in_err-write_response-clause-grows
returns-in_err-write_response-clause-grows g c = after_then g.S.Texts.tells (g.S.Texts.world c.args.site.now) (g.S.Texts.world c.remove_old_depfile.new.site) (g.S.Texts.world c.write_response.new.site) (after_removal g.S.Texts.tells c.act-act.result.now.depfile None (g.S.Texts.world c.args.site.now) (g.S.Texts.world c.remove_old_depfile.new.site) c.remove_old_depfile.ensures.at) (after_writes g.S.Texts.tells c.act-act.result.now.response_path (g.S.Texts.world c.remove_old_depfile.new.site) (g.S.Texts.world c.write_response.new.site) c.write_response.ensures.at)

pub returns-in_err-stamp-clause-grows : goal.returns-in_err-stamp-clause-grows
returns-in_err-stamp-clause-grows g c = after_then g.S.Texts.tells (g.S.Texts.world c.args.site.now) (g.S.Texts.world c.write_response.new.site) (g.S.Texts.world c.tick.new.self) (after_then g.S.Texts.tells (g.S.Texts.world c.args.site.now) (g.S.Texts.world c.remove_old_depfile.new.site) (g.S.Texts.world c.write_response.new.site) (after_removal g.S.Texts.tells c.act-act.result.now.depfile None (g.S.Texts.world c.args.site.now) (g.S.Texts.world c.remove_old_depfile.new.site) c.remove_old_depfile.ensures.at) (after_writes g.S.Texts.tells c.act-act.result.now.response_path (g.S.Texts.world c.remove_old_depfile.new.site) (g.S.Texts.world c.write_response.new.site) c.write_response.ensures.at)) (after_tick_or_not g.S.Texts.tells c.as_str.result.now (g.S.Texts.world c.write_response.new.site) (g.S.Texts.world c.tick.new.self) c.in_err-stamp.ensures.err)

pub returns-clause-grows : goal.returns-clause-grows
returns-clause-grows g c = after_then g.S.Texts.tells (g.S.Texts.world c.args.site.now) (g.S.Texts.world c.tick.new.self) (g.S.Texts.world c.start-result.new.self) (after_then g.S.Texts.tells (g.S.Texts.world c.args.site.now) (g.S.Texts.world c.write_response.new.site) (g.S.Texts.world c.tick.new.self) (after_then g.S.Texts.tells (g.S.Texts.world c.args.site.now) (g.S.Texts.world c.remove_old_depfile.new.site) (g.S.Texts.world c.write_response.new.site) (after_removal g.S.Texts.tells c.act-act.result.now.depfile None (g.S.Texts.world c.args.site.now) (g.S.Texts.world c.remove_old_depfile.new.site) c.remove_old_depfile.ensures.at) (after_writes g.S.Texts.tells c.act-act.result.now.response_path (g.S.Texts.world c.remove_old_depfile.new.site) (g.S.Texts.world c.write_response.new.site) c.write_response.ensures.at)) (after_tick g.S.Texts.tells c.as_str.result.now c.in_ok-stamp.stamp (g.S.Texts.world c.write_response.new.site) (g.S.Texts.world c.tick.new.self) c.in_ok-stamp.ensures.ticks)) (after_start_result g.S.Texts.tells c.start-result.result c.job.result c.act-act.result.now (g.S.Texts.world c.tick.new.self) (g.S.Texts.world c.start-result.new.self) c.start-result.ensures.starts c.start-result.ensures.err)

pub returns-clause-some : goal.returns-clause-some
returns-clause-some g c = ok_then c.start-result.result c.start-result.ensures.starts (λ made. some_after g.S.Texts.tells (g.S.Texts.world c.args.site.now) (g.S.Texts.world c.tick.new.self) (g.S.Texts.world c.start-result.new.self) (after_then g.S.Texts.tells (g.S.Texts.world c.args.site.now) (g.S.Texts.world c.write_response.new.site) (g.S.Texts.world c.tick.new.self) (after_then g.S.Texts.tells (g.S.Texts.world c.args.site.now) (g.S.Texts.world c.remove_old_depfile.new.site) (g.S.Texts.world c.write_response.new.site) (after_removal g.S.Texts.tells c.act-act.result.now.depfile None (g.S.Texts.world c.args.site.now) (g.S.Texts.world c.remove_old_depfile.new.site) c.remove_old_depfile.ensures.at) (after_writes g.S.Texts.tells c.act-act.result.now.response_path (g.S.Texts.world c.remove_old_depfile.new.site) (g.S.Texts.world c.write_response.new.site) c.write_response.ensures.at)) (after_tick g.S.Texts.tells c.as_str.result.now c.in_ok-stamp.stamp (g.S.Texts.world c.write_response.new.site) (g.S.Texts.world c.tick.new.self) c.in_ok-stamp.ensures.ticks)) (one_started g.S.Texts.tells c.job.result c.act-act.result.now (g.S.Texts.world c.tick.new.self) (g.S.Texts.world c.start-result.new.self) made) (after_start g.S.Texts.tells c.job.result c.act-act.result.now (g.S.Texts.world c.tick.new.self) (g.S.Texts.world c.start-result.new.self) made))
