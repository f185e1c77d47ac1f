use Rattle.std.proofs.Common.{◌≡◌, length, vec_len, arith, refl, sym, ◌∙◌, ap, subst}
use Rattle.graph.specs.declared.graph.Graph.{Graph}
use Rattle.plan.specs.Planned.{IsPlanOver}
use Rattle.work.specs.declared.state.Work.{Work}
use Rattle.work.specs.Clean.{StaysKnowing}
use Rattle.work.specs.Course.{Course}
use Rattle.work.specs.Going.{IsCut}
use Rattle.work.specs.Standing.{HasSourcesAt, IfFault, StoppedThere, task_over}
use Rattle.work.proofs.Asking.{order_within, same_edges, under}
use Rattle.work.proofs.Faults.{well_looks}
use Rattle.work.proofs.Halting.{with_sources, stands_looked}
use Rattle.work.proofs.KnownClean.{knows_clean, sources_judged}
use Rattle.work.proofs.Stopping.{sources_at, lacking_there, lacking_met, lacking_stop}
use Rattle.work.proofs.state.Work.ask_for_sources.Goals as goal

pub check_sources-requires-clause-fits : goal.check_sources-requires-clause-fits
check_sources-requires-clause-fits g c = c.requires.begins.3.stands.on.room.looks

pub check_sources-requires-clause-order : goal.check_sources-requires-clause-order
check_sources-requires-clause-order g c =
    let begins = c.requires.begins in
    order_within c.args.self.now.graph c.lists_stand.ensures.fits c.args.self.now.cone begins.1 _ _ (same_edges g.S.Texts.tells begins.0 begins.1 begins.2 c.args.self.now.graph c.args.self.now (g.S.Texts.world c.args.site.now) begins.3.stands) begins.3.stands.on.cone.listed

pub check_sources-requires-clause-targets : goal.check_sources-requires-clause-targets
check_sources-requires-clause-targets g c = c.requires.begins.3.stands.on.cone.within

pub given_up-requires-clause-met : goal.given_up-requires-clause-met
given_up-requires-clause-met g c =
    let begins = c.requires.begins in
    subst (λ (s : Work). IfFault c.in-Err.stop (λ fault. (of : Course) × (at : Graph) × IsCut g.S.Texts.tells of at s.plan (g.S.Texts.world c.check_sources.new.site))) (sym {A = Work} c.check_sources.ensures.beside)
    (lacking_met g.S.Texts.tells begins.0 begins.1 begins.2 c.args.self.now.graph c.args.self.now (g.S.Texts.world c.args.site.now) begins.3 c.log_stays.ensures (g.S.Texts.world c.check_sources.new.site) c.check_sources.new.self.looks c.check_sources.ensures.looked c.requires.made c.in-Err.stop c.in-Err.ensures.lacking)

pub given_up-requires-clause-stop : goal.given_up-requires-clause-stop
given_up-requires-clause-stop g c = (g.S.Texts.world c.args.site.now, lacking_stop g.S.Texts.tells c.args.self.now.graph c.args.self.now.records c.args.self.now.cone c.args.self.now.plan (g.S.Texts.world c.args.site.now) (g.S.Texts.world c.check_sources.new.site) c.args.self.now.looks c.in-Err.stop c.check_sources.ensures.looked.looks c.in-Err.ensures.lacking)

pub returns-in-Err-clause-stop : goal.returns-in-Err-clause-stop
returns-in-Err-clause-stop g c =
    c.given_up.ensures.stop (g.S.Texts.world c.args.site.now) (lacking_stop g.S.Texts.tells c.args.self.now.graph c.args.self.now.records c.args.self.now.cone c.args.self.now.plan (g.S.Texts.world c.args.site.now) (g.S.Texts.world c.check_sources.new.site) c.args.self.now.looks c.in-Err.stop c.check_sources.ensures.looked.looks c.in-Err.ensures.lacking)

pub returns-in-Err-clause-halted : goal.returns-in-Err-clause-halted
returns-in-Err-clause-halted g c course edges phases begins =
    c.given_up.ensures.halted course edges c.args.self.now.graph c.check_sources.new.self refl
    (subst (λ (s : Work). StoppedThere g.S.Texts.tells course edges c.args.self.now.graph s (g.S.Texts.world c.check_sources.new.site) c.in-Err.stop) (sym {A = Work} c.check_sources.ensures.beside)
    (lacking_there g.S.Texts.tells course edges phases c.args.self.now.graph c.args.self.now (g.S.Texts.world c.args.site.now) begins c.log_stays.ensures (g.S.Texts.world c.check_sources.new.site) c.check_sources.new.self.looks c.check_sources.ensures.looked c.requires.made c.in-Err.stop c.in-Err.ensures.lacking))

pub returns-in-Ok-clause-well : goal.returns-in-Ok-clause-well
returns-in-Ok-clause-well g c = well_looks g.S.Texts.tells (g.S.Texts.world c.args.site.now) (g.S.Texts.world c.check_sources.new.site) c.check_sources.ensures.looked.looks c.in-Ok.ensures.passed

pub judge_clean-requires : goal.judge_clean-requires
judge_clean-requires g c =
    subst (λ (s : Work). IsPlanOver s.graph s.plan) (sym {A = Work} c.check_sources.ensures.beside) c.requires.begins.3.stands.on.planned.over

pub returns-in-Ok-clause-asked : goal.returns-in-Ok-clause-asked
returns-in-Ok-clause-asked g c course edges phases begins =
    let tells = g.S.Texts.tells in
    let graph = c.args.self.now.graph in
    let state = c.args.self.now in
    let now = g.S.Texts.world c.args.site.now in
    let new = g.S.Texts.world c.check_sources.new.site in
    let looks = c.check_sources.new.self.looks in
    let looked = c.check_sources.ensures.looked in
    subst (λ (s : Work).
    (after : Work) → after.looks ≡ s.looks
    → StaysKnowing s.graph (record { alloc = s.alloc; graph = s.graph; cone = s.cone; plan = s.plan; looks = s.looks; records = s.records; display = c.recount.new.self; tick = s.tick; due = c.in-Ok.due; starts = s.starts; failed = s.failed }) after
    → HasSourcesAt tells course edges phases graph after new)
    (sym {A = Work} c.check_sources.ensures.beside)
    (λ after same stay.
    sources_judged tells course edges phases graph (with_sources tells course edges phases graph state now begins.stands c.log_stays.ensures new looks looked c.recount.new.self c.in-Ok.due) new
    (stands_looked tells course edges phases graph state now begins.stands c.log_stays.ensures new looks looked c.recount.new.self c.in-Ok.due) after
    (sources_at tells course edges phases graph state now begins c.log_stays.ensures new looks looked c.recount.new.self c.in-Ok.due c.in-Ok.ensures.sources) same
    (knows_clean tells course edges phases graph state now begins.stands c.log_stays.ensures new looked.looks c.in-Ok.due.items c.in-Ok.ensures.due) stay)
    c.judge_clean.new.self c.judge_clean.ensures.looks c.judge_clean.ensures.on

pub still_unstarted-unstarted-requires-clause-fits : goal.still_unstarted-unstarted-requires-clause-fits
still_unstarted-unstarted-requires-clause-fits g c =
    subst (λ (s : Work). length c.deref.result.now ≡ length s.graph.manifest.lines) (sym {A = Work} c.check_sources.ensures.beside) (ap length c.deref.ensures.value ∙ c.in-Ok.ensures.due.fits)

pub still_unstarted-unstarted-requires-clause-plan : goal.still_unstarted-unstarted-requires-clause-plan
still_unstarted-unstarted-requires-clause-plan g c =
    let standings = c.args.self.now.plan.standings in
    let size : vec_len standings ≡ length standings.items = omega (arith, standings.ok.0) in
    subst (λ (s : Work). vec_len s.plan.standings ≡ length s.graph.manifest.lines) (sym {A = Work} c.check_sources.ensures.beside) (size ∙ c.requires.begins.3.stands.on.planned.over.over.edges)

pub returns-in-Ok-clause-graph : goal.returns-in-Ok-clause-graph
returns-in-Ok-clause-graph g c = c.judge_clean.ensures.graph ∙ ap (λ (s : Work). s.graph) c.check_sources.ensures.beside

pub returns-in-Err-clause-graph : goal.returns-in-Err-clause-graph
returns-in-Err-clause-graph g c = ap (λ (s : Work). s.graph) c.check_sources.ensures.beside

-- what is noted of due edges, and judged by it, changes nothing of that
pub returns-in-Ok-clause-known : goal.returns-in-Ok-clause-known
returns-in-Ok-clause-known g c = c.judge_clean.ensures.kept c.in-Ok.ensures.flags (record { known = c.check_sources.ensures.known.known; kept = c.check_sources.ensures.known.kept })

pub check_sources-requires-clause-placed : goal.check_sources-requires-clause-placed
check_sources-requires-clause-placed g c =
    let begins = c.requires.begins in
    let state = c.args.self.now in
    let stands = begins.3.stands in
    c.dues_follow.ensures.placed state.graph c.lists_stand.ensures state.records state.cone state.plan begins.0.store (task_over begins.0 begins.1).targets stands.on.steps
    (under g.S.Texts.tells begins.0 begins.1 begins.2 state.graph state (g.S.Texts.world c.args.site.now) stands)
