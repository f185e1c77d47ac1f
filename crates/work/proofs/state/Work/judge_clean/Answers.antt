use Rattle.std.proofs.Common.{Bool, Vec, Global, suc, false, refl, sym, ◌∙◌, ap, subst}
use Rattle.model.specs.Schedule.{Judged}
use Rattle.graph.specs.declared.graph.Graph.{Graph}
use Rattle.plan.specs.declared.step.Verdict.TheVariants as verdict
use Rattle.plan.specs.Planned.{TakesStep}
use Rattle.work.proofs.KnownClean.{judged_clean, still_unjudged}
use Rattle.plan.specs.declared.step.Standing.TheVariants.{Clean}
use Rattle.judge.specs.declared.looks.Looks.{Looks}
use Rattle.work.specs.Answered.{HasKeptFlags}
use Rattle.work.proofs.StillKept.{judged_kept}
use Rattle.work.proofs.WorkLeft.{judged_less}
use Rattle.work.proofs.state.Work.judge_clean.Goals as goal

pub loop-edge-init : goal.loop-edge-init
loop-edge-init c = record { over = c.requires; graph = refl; looks = refl; records = refl; due = refl; kept = λ counts right. right; fresh = λ e unjudged. unjudged; on = λ tells now course suits goes on knows. on }

pub next_clean-requires : goal.next_clean-requires
next_clean-requires c = c.loop-edge.invariant.over

pub judged-requires-clause-over : goal.judged-requires-clause-over
judged-requires-clause-over c = c.loop-edge.invariant.over

pub judged-requires-clause-ready : goal.judged-requires-clause-ready
judged-requires-clause-ready c = c.in-Some.ensures.next.offered

pub loop-edge-smaller : goal.loop-edge-smaller
loop-edge-smaller c = judged_less c.loop-edge.self.plan c.judged.new.self.standings.items c.in-Some.edge verdict.Clean c.in-Some.ensures.next.offered c.judged.ensures.stands

pub loop-edge-preserved : goal.loop-edge-preserved
loop-edge-preserved c =
    let was = c.loop-edge.invariant in
    record {
      over = c.judged.ensures.over;
      graph = was.graph;
      looks = was.looks;
      records = was.records;
      due = was.due;
      kept = λ counts right.
          let now = was.kept counts right in
          let here : HasKeptFlags c.loop-edge.self = λ on.
          ap (λ (looks : Looks). looks.sums.answers.dues.flags.items) was.looks ∙ (counts (sym (ap (λ (looks : Looks). looks.sums.answers.dues.known) was.looks) ∙ on) ∙ ap (λ (due : Vec Bool Global). due.items) (sym was.due)) in
          record { known = now.known; kept = judged_kept c.dues_follow.ensures c.loop-edge.self c.judged.new.self c.in-Some.edge Clean c.judged.ensures.stands refl c.in-Some.ensures.was.flag here now };
      fresh = still_unjudged c.args.self.now.plan c.loop-edge.self.plan.standings.items c.judged.new.self.standings.items c.in-Some.edge c.judged.ensures.stands was.fresh;
      on = λ tells now course suits goes on knows.
          judged_clean tells course c.args.self.now.graph c.log_stays.ensures suits c.args.self.now c.loop-edge.self now c.in-Some.edge (was.on tells now course suits goes on knows) goes c.in-Some.ensures was.due was.fresh knows
          c.judged.new.self (subst (λ (graph : Graph). TakesStep graph c.loop-edge.self.plan c.judged.new.self (Judged (suc c.in-Some.edge) false)) was.graph c.judged.ensures.planned) c.judged.ensures.flags;
    }

pub returns-clause-kept : goal.returns-clause-kept
returns-clause-kept c = c.loop-edge.invariant.kept

pub returns-clause-graph : goal.returns-clause-graph
returns-clause-graph c = c.loop-edge.invariant.graph

pub returns-clause-looks : goal.returns-clause-looks
returns-clause-looks c = c.loop-edge.invariant.looks

pub returns-clause-on : goal.returns-clause-on
returns-clause-on c = c.loop-edge.invariant.on

pub returns-clause-records : goal.returns-clause-records
returns-clause-records c = c.loop-edge.invariant.records
