use Rattle.std.proofs.Common.{◌≡◌, ℕ, suc, None, Vec, Global, inl, refl, sym, ◌∙◌, ap, subst, arith}
use Rattle.graph.specs.Told.{declared_by}
use Rattle.model.specs.declared.act.Act.{Act}
use Rattle.model.specs.declared.graph.BuildGraph.{BuildGraph}
use Rattle.model.specs.Calls.{Finishes}
use Rattle.model.specs.Graph.{edge_at}
use Rattle.model.specs.SingleBuild.{task_of}
use Rattle.theory.proofs.SiteCalls.{unrefused_call, unrefused_then}
use Rattle.plan.specs.Standing.{standing_at}
use Rattle.work.proofs.Cutting.{some_still, cause_err, cuts_then}
use Rattle.work.proofs.Ends.{cut_looking}
use Rattle.work.proofs.Finishing.{end_unread, ending_of, not_failed}
use Rattle.work.proofs.Launched.{err_then}
use Rattle.work.proofs.Onward.{may_take}
use Rattle.work.proofs.Removing.{taken_by_removing}
use Rattle.work.proofs.Results.{ok_then, ok_both, on_ok}
use Rattle.work.proofs.Running.{some_runs, running_edge}
use Rattle.work.proofs.After.{after_then, after_looks, after_finish, one_ended}
use Rattle.work.proofs.state.Work.take_in.Goals as goal

pub wait_any-requires : goal.wait_any-requires
wait_any-requires g c =
    let going = c.requires.going.going in
    some_runs g.S.Texts.tells going.course c.args.self.now.graph None c.args.self.now (g.S.Texts.world c.args.site.now) going.on (c.requires.going.may.runs (task_of going.course.asked going.course.store) c.args.self.now.graph going.on.steps going.on.planned going.on.taken)

pub edge-edge-requires : goal.edge-edge-requires
edge-edge-requires g c =
    let going = c.requires.going.going in
    let runs = running_edge g.S.Texts.tells going.course c.args.self.now.graph None c.args.self.now (g.S.Texts.world c.args.site.now) going.on c.in-Ok.finished.job c.in-Ok.ensures.finishes.ran in
    omega (arith, runs.is, runs.within)

pub take_in_told-requires-clause-ending : goal.take_in_told-requires-clause-ending
take_in_told-requires-clause-ending g c =
    let going = c.requires.going.going in
    let runs = running_edge g.S.Texts.tells going.course c.args.self.now.graph None c.args.self.now (g.S.Texts.world c.args.site.now) going.on c.in-Ok.finished.job c.in-Ok.ensures.finishes.ran in
    let job_is : c.in-Ok.finished.job ≡ suc c.edge-edge.result = omega (arith, runs.is, c.edge-edge.ensures) in (
      going.course,
      going.suits,
      ending_of g.S.Texts.tells going.course c.args.self.now.graph going.suits c.args.self.now (g.S.Texts.world c.args.site.now) (g.S.Texts.world c.wait_any.new.self) (g.S.Texts.world c.read_told.new.site) c.in-Ok.finished.job c.edge-edge.result c.in-Ok.finished.ok c.in-Ok-read_told.told c.act.result.now job_is going.on (may_take going.course c.args.self.now.graph c.args.self.now.plan going.on.steps c.requires.going.goes going.is going.on.planned going.on.taken c.requires.going.may) c.in-Ok.ensures.finishes c.read_told.ensures.looks
          c.act.ensures c.in-Ok-read_told.ensures.read,
    )

pub note_unread-requires-clause-running : goal.note_unread-requires-clause-running
note_unread-requires-clause-running g c =
    let going = c.requires.going.going in
    let runs = running_edge g.S.Texts.tells going.course c.args.self.now.graph None c.args.self.now (g.S.Texts.world c.args.site.now) going.on c.in-Ok.finished.job c.in-Ok.ensures.finishes.ran in
    let same : c.edge-edge.result ≡ runs.edge = omega (arith, runs.is, c.edge-edge.ensures) in
    ap (standing_at c.args.self.now.plan.standings.items) same ∙ runs.stands

pub returns-in-Ok-read_told-clause-cuts : goal.returns-in-Ok-read_told-clause-cuts
returns-in-Ok-read_told-clause-cuts g c =
    cuts_then (g.S.Texts.world c.args.site.now) (g.S.Texts.world c.read_told.new.site) (g.S.Texts.world c.take_in_told.new.site) c.take_in_told.result
    (unrefused_then (g.S.Texts.world c.args.site.now) (g.S.Texts.world c.wait_any.new.self) (g.S.Texts.world c.read_told.new.site) (unrefused_call (g.S.Texts.world c.args.site.now) (g.S.Texts.world c.wait_any.new.self) _ c.in-Ok.ensures.cause) (unrefused_call (g.S.Texts.world c.wait_any.new.self) (g.S.Texts.world c.read_told.new.site) _ c.in-Ok-read_told.ensures.cause))
    (c.read_told.ensures.looks.at_start ∙ c.in-Ok.ensures.finishes.at_start) c.take_in_told.ensures.cuts

pub returns-in-Ok-read_told-clause-removed : goal.returns-in-Ok-read_told-clause-removed
returns-in-Ok-read_told-clause-removed g c =
    let going = c.requires.going.going in
    let runs = running_edge g.S.Texts.tells going.course c.args.self.now.graph None c.args.self.now (g.S.Texts.world c.args.site.now) going.on c.in-Ok.finished.job c.in-Ok.ensures.finishes.ran in
    let job_is : c.in-Ok.finished.job ≡ suc c.edge-edge.result = omega (arith, runs.is, c.edge-edge.ensures) in
    ok_both c.take_in_told.result c.take_in_told.ensures.noted c.take_in_told.ensures.removed (λ noted removed i is failed.
    taken_by_removing g.S.Texts.tells (declared_by c.args.self.now.graph).edges (suc c.edge-edge.result) c.in-Ok.finished.ok (g.S.Texts.world c.args.site.now) (g.S.Texts.world c.wait_any.new.self) (g.S.Texts.world c.read_told.new.site) (g.S.Texts.world c.take_in_told.new.site)
    (subst (λ (n : ℕ). Finishes g.S.Texts.tells n c.in-Ok.finished.ok (g.S.Texts.world c.args.site.now) (g.S.Texts.world c.wait_any.new.self)) job_is c.in-Ok.ensures.finishes) c.read_told.ensures.looks c.take_in_told.ensures.events
    (λ went. removed (not_failed c.args.self.now.failed.items c.edge-edge.result _ (sym (ap (λ (v : Vec ℕ Global). v.items) failed) ∙ noted))) i is)

pub returns-in-Ok-read_told-clause-on : goal.returns-in-Ok-read_told-clause-on
returns-in-Ok-read_told-clause-on g c =
    ok_then c.take_in_told.result c.take_in_told.ensures.on (λ so goes may course suits is on.
    let turn = may_take course c.args.self.now.graph c.args.self.now.plan on.steps goes is on.planned on.taken may in
    let runs = running_edge g.S.Texts.tells course c.args.self.now.graph None c.args.self.now (g.S.Texts.world c.args.site.now) on c.in-Ok.finished.job c.in-Ok.ensures.finishes.ran in
    let job_is : c.in-Ok.finished.job ≡ suc c.edge-edge.result = omega (arith, runs.is, c.edge-edge.ensures) in
    so course suits (ending_of g.S.Texts.tells course c.args.self.now.graph suits c.args.self.now (g.S.Texts.world c.args.site.now) (g.S.Texts.world c.wait_any.new.self) (g.S.Texts.world c.read_told.new.site) c.in-Ok.finished.job c.edge-edge.result c.in-Ok.finished.ok c.in-Ok-read_told.told c.act.result.now job_is on turn c.in-Ok.ensures.finishes c.read_told.ensures.looks
    c.act.ensures c.in-Ok-read_told.ensures.read))

pub returns-in-Ok-read_told-clause-cut : goal.returns-in-Ok-read_told-clause-cut
returns-in-Ok-read_told-clause-cut g c =
    err_then c.take_in_told.result c.take_in_told.ensures.cut (λ so goes may course suits is on.
    let turn = may_take course c.args.self.now.graph c.args.self.now.plan on.steps goes is on.planned on.taken may in
    let runs = running_edge g.S.Texts.tells course c.args.self.now.graph None c.args.self.now (g.S.Texts.world c.args.site.now) on c.in-Ok.finished.job c.in-Ok.ensures.finishes.ran in
    let job_is : c.in-Ok.finished.job ≡ suc c.edge-edge.result = omega (arith, runs.is, c.edge-edge.ensures) in
    so course suits (ending_of g.S.Texts.tells course c.args.self.now.graph suits c.args.self.now (g.S.Texts.world c.args.site.now) (g.S.Texts.world c.wait_any.new.self) (g.S.Texts.world c.read_told.new.site) c.in-Ok.finished.job c.edge-edge.result c.in-Ok.finished.ok c.in-Ok-read_told.told c.act.result.now job_is on turn c.in-Ok.ensures.finishes c.read_told.ensures.looks
    c.act.ensures c.in-Ok-read_told.ensures.read))

pub returns-in-Err-read_told-clause-cut : goal.returns-in-Err-read_told-clause-cut
returns-in-Err-read_told-clause-cut g c goes may course suits is on =
    let turn = may_take course c.args.self.now.graph c.args.self.now.plan on.steps goes is on.planned on.taken may in
    let runs = running_edge g.S.Texts.tells course c.args.self.now.graph None c.args.self.now (g.S.Texts.world c.args.site.now) on c.in-Ok.finished.job c.in-Ok.ensures.finishes.ran in
    let job_is : c.in-Ok.finished.job ≡ suc c.edge-edge.result = omega (arith, runs.is, c.edge-edge.ensures) in
    end_unread g.S.Texts.tells course c.args.self.now.graph suits c.args.self.now (g.S.Texts.world c.args.site.now) (g.S.Texts.world c.wait_any.new.self) (g.S.Texts.world c.read_told.new.site) c.edge-edge.result c.in-Ok.finished.ok on turn
    (subst (λ (n : ℕ). Finishes g.S.Texts.tells n c.in-Ok.finished.ok (g.S.Texts.world c.args.site.now) (g.S.Texts.world c.wait_any.new.self)) job_is c.in-Ok.ensures.finishes) c.read_told.ensures.looks
    (λ none. c.in-Err-read_told.ensures.named (ap (λ (a : Act). a.depfile) c.act.ensures ∙ (ap (λ (b : BuildGraph). (edge_at b.edges (suc c.edge-edge.result)).act.depfile) (sym suits.same) ∙ none)))
    c.note_unread.new.self.plan c.note_unread.ensures.planned

pub returns-in-Err-clause-cuts : goal.returns-in-Err-clause-cuts
returns-in-Err-clause-cuts g c =
    let going = c.requires.going.going in
    record {
      cause = cause_err (g.S.Texts.world c.args.site.now) (g.S.Texts.world c.wait_any.new.self) c.in-Err.fault c.in-Err.ensures.cause;
      starts = inl c.in-Err.ensures.err.at_start;
      waits = record {
        some = some_still g.S.Texts.tells (g.S.Texts.world c.args.site.now) (g.S.Texts.world c.wait_any.new.self)
            (some_runs g.S.Texts.tells going.course c.args.self.now.graph None c.args.self.now (g.S.Texts.world c.args.site.now) going.on (c.requires.going.may.runs (task_of going.course.asked going.course.store) c.args.self.now.graph going.on.steps going.on.planned going.on.taken)) c.in-Err.ensures.err;
        noted = ((g.S.Texts.world c.args.site.now).failures, c.in-Err.ensures.waits c.requires.running);
      };
    }

pub returns-in-Err-clause-cut : goal.returns-in-Err-clause-cut
returns-in-Err-clause-cut g c goes may course suits is on =
    cut_looking g.S.Texts.tells course c.args.self.now.graph (g.S.Texts.world c.args.site.now) c.args.self.now c.args.self.now.plan (g.S.Texts.world c.wait_any.new.self) refl c.in-Err.ensures.err on

pub returns-in-Ok-read_told-clause-grows : goal.returns-in-Ok-read_told-clause-grows
returns-in-Ok-read_told-clause-grows g c = after_then g.S.Texts.tells (g.S.Texts.world c.args.site.now) (g.S.Texts.world c.read_told.new.site) (g.S.Texts.world c.take_in_told.new.site) (after_then g.S.Texts.tells (g.S.Texts.world c.args.site.now) (g.S.Texts.world c.wait_any.new.self) (g.S.Texts.world c.read_told.new.site) (after_finish g.S.Texts.tells c.in-Ok.finished.job c.in-Ok.finished.ok (g.S.Texts.world c.args.site.now) (g.S.Texts.world c.wait_any.new.self) c.in-Ok.ensures.finishes) (after_looks g.S.Texts.tells (g.S.Texts.world c.wait_any.new.self) (g.S.Texts.world c.read_told.new.site) c.read_told.ensures.looks)) c.take_in_told.ensures.grows

pub returns-in-Ok-read_told-clause-some : goal.returns-in-Ok-read_told-clause-some
returns-in-Ok-read_told-clause-some g c = on_ok c.take_in_told.result (λ same. one_ended g.S.Texts.tells c.in-Ok.finished.job c.in-Ok.finished.ok (g.S.Texts.world c.args.site.now) (g.S.Texts.world c.wait_any.new.self) c.in-Ok.ensures.finishes (sym c.read_told.ensures.looks.events ∙ (sym c.take_in_told.ensures.events ∙ same)))

pub returns-in-Err-read_told-clause-grows : goal.returns-in-Err-read_told-clause-grows
returns-in-Err-read_told-clause-grows g c = after_then g.S.Texts.tells (g.S.Texts.world c.args.site.now) (g.S.Texts.world c.wait_any.new.self) (g.S.Texts.world c.read_told.new.site) (after_finish g.S.Texts.tells c.in-Ok.finished.job c.in-Ok.finished.ok (g.S.Texts.world c.args.site.now) (g.S.Texts.world c.wait_any.new.self) c.in-Ok.ensures.finishes) (after_looks g.S.Texts.tells (g.S.Texts.world c.wait_any.new.self) (g.S.Texts.world c.read_told.new.site) c.read_told.ensures.looks)

pub returns-in-Err-clause-grows : goal.returns-in-Err-clause-grows
returns-in-Err-clause-grows g c = after_looks g.S.Texts.tells (g.S.Texts.world c.args.site.now) (g.S.Texts.world c.wait_any.new.self) c.in-Err.ensures.err
