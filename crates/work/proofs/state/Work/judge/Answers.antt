use Rattle.std.proofs.Common.{suc, true, List, Bool, sym, ap, ◌∙◌, subst}
use Rattle.model.specs.declared.record.Record.{Record}
use Rattle.model.specs.declared.record.DepsRecord.{DepsRecord}
use Rattle.model.specs.SingleBuild.{task_of}
use Rattle.graph.specs.Told.{declared_by}
use Rattle.judge.specs.Seen.{IfKept}
use Rattle.plan.specs.Planned.{is_stale}
use Rattle.records.specs.Known.{AreKnown}
use Rattle.judge.specs.declared.sums.Sums.{Sums}
use Rattle.judge.specs.Lasting.{AreMarked}
use Rattle.judge.specs.Summed.{AreSums}
use Rattle.judge.specs.Judged.{IsAnswer, KeepsDepfile}
use Rattle.work.proofs.WorkLeft.{judged_less}
use Rattle.work.proofs.Noticed.{with_looks, on_looked}
use Rattle.work.proofs.Unmade.{sums_asked, marks_asked}
use Rattle.work.proofs.StillKept.{told_settled}
use Rattle.work.proofs.Judging.{judged_on, judged_command, asked_outputs}
use Rattle.work.proofs.state.Work.judge.Goals as goal

pub reason-requires-clause-command : goal.reason-requires-clause-command
reason-requires-clause-command g c =
    let going = c.requires.going in
    let graph = c.args.self.now.graph in
    judged_command going.course graph going.suits c.args.edge (c.requires.next.lawful (task_of going.course.asked going.course.store) graph going.on.steps going.on.planned going.on.taken true).0.command

pub returns-in_err-reason-clause-looked : goal.returns-in_err-reason-clause-looked
returns-in_err-reason-clause-looked g c = (c.looks_follow.ensures.follow g.S.Texts.tells (g.S.Texts.world c.args.site.now) (g.S.Texts.world c.ask_before.new.site) (g.S.Texts.world c.reason.new.site)).looked c.args.self.now.graph c.args.self.now.looks c.ask_before.new.looks c.reason.new.self c.ask_before.ensures.looked c.reason.ensures.looked

pub returns-clause-looked : goal.returns-clause-looked
returns-clause-looked g c = (c.looks_follow.ensures.follow g.S.Texts.tells (g.S.Texts.world c.args.site.now) (g.S.Texts.world c.ask_before.new.site) (g.S.Texts.world c.reason.new.site)).looked c.args.self.now.graph c.args.self.now.looks c.ask_before.new.looks c.reason.new.self c.ask_before.ensures.looked c.reason.ensures.looked

-- asking before leaves the sums as they are, and so right by what was seen then
pub reason-requires-clause-summed : goal.reason-requires-clause-summed
reason-requires-clause-summed g c =
    let state = c.args.self.now in
    let asked = c.ask_before.new.looks in
    subst (λ (flags : List Bool). AreSums c.args.self.now.graph flags asked.seen.items asked.sums) (sym {A = List Bool} c.deref.ensures.value)
    (sums_asked c.sums_follow.ensures c.args.self.now.graph state.plan.changed.items state.looks asked c.ask_before.ensures.looked.stays c.ask_before.ensures.sums c.requires.summed)

pub returns-in_err-ask_before-clause-summed : goal.returns-in_err-ask_before-clause-summed
returns-in_err-ask_before-clause-summed g c =
    let state = c.args.self.now in
    sums_asked c.sums_follow.ensures c.args.self.now.graph state.plan.changed.items state.looks c.ask_before.new.looks c.ask_before.ensures.looked.stays c.ask_before.ensures.sums c.requires.summed

pub returns-in_err-reason-clause-summed : goal.returns-in_err-reason-clause-summed
returns-in_err-reason-clause-summed g c =
    subst (λ (flags : List Bool). AreSums c.args.self.now.graph flags c.reason.new.self.seen.items c.reason.new.self.sums) c.deref.ensures.value c.reason.ensures.summed

pub returns-clause-summed : goal.returns-clause-summed
returns-clause-summed g c =
    subst (λ (flags : List Bool). AreSums c.args.self.now.graph flags c.reason.new.self.seen.items c.reason.new.self.sums)
    (c.deref.ensures.value ∙ sym (ap (λ (it : _). it.items) c.judged.ensures.flags)) c.reason.ensures.summed

-- the marks are right by what was seen before the judgement
pub returns-in_err-ask_before-clause-marked : goal.returns-in_err-ask_before-clause-marked
returns-in_err-ask_before-clause-marked g c =
    let state = c.args.self.now in
    marks_asked c.sums_follow.ensures c.args.self.now.graph state.plan.changed.items state.looks c.ask_before.new.looks c.ask_before.ensures.looked.stays c.ask_before.ensures.sums c.requires.marked

pub returns-in_err-reason-clause-marked : goal.returns-in_err-reason-clause-marked
returns-in_err-reason-clause-marked g c =
    let state = c.args.self.now in
    let graph = c.args.self.now.graph in
    let asked = c.ask_before.new.looks in
    subst (λ (flags : List Bool). AreMarked graph flags c.reason.new.self.seen.items c.reason.new.self.sums) c.deref.ensures.value
    (c.reason.ensures.marked (subst (λ (flags : List Bool). AreMarked graph flags asked.seen.items asked.sums) (sym {A = List Bool} c.deref.ensures.value)
    (marks_asked c.sums_follow.ensures graph state.plan.changed.items state.looks asked c.ask_before.ensures.looked.stays c.ask_before.ensures.sums c.requires.marked)))

pub returns-clause-marked : goal.returns-clause-marked
returns-clause-marked g c =
    let state = c.args.self.now in
    let graph = c.args.self.now.graph in
    let asked = c.ask_before.new.looks in
    subst (λ (flags : List Bool). AreMarked graph flags c.reason.new.self.seen.items c.reason.new.self.sums) (c.deref.ensures.value ∙ sym (ap (λ (it : _). it.items) c.judged.ensures.flags))
    (c.reason.ensures.marked (subst (λ (flags : List Bool). AreMarked graph flags asked.seen.items asked.sums) (sym {A = List Bool} c.deref.ensures.value)
    (marks_asked c.sums_follow.ensures graph state.plan.changed.items state.looks asked c.ask_before.ensures.looked.stays c.ask_before.ensures.sums c.requires.marked)))

pub returns-clause-nearer : goal.returns-clause-nearer
returns-clause-nearer g c = judged_less c.args.self.now.plan c.judged.new.self.standings.items c.args.edge c.verdict_of-verdict.result c.requires.next.offered c.judged.ensures.stands

pub returns-clause-on : goal.returns-clause-on
returns-clause-on g c course suits goes on =
    let tells = g.S.Texts.tells in
    let graph = c.args.self.now.graph in
    let state = c.args.self.now in
    let mid = g.S.Texts.world c.ask_before.new.site in
    judged_on tells course graph c.log_stays.ensures suits (with_looks tells course graph state c.ask_before.new.looks) mid (g.S.Texts.world c.reason.new.site) c.args.edge
    (on_looked tells course graph c.log_stays.ensures suits state (g.S.Texts.world c.args.site.now) mid c.ask_before.new.looks c.ask_before.ensures.looked on) goes c.requires.next
    c.reason.ensures.looked.looks c.reason.new.self c.in_ok-reason.reason (is_stale c.verdict_of-verdict.result) c.verdict_of-verdict.ensures c.reason.ensures.looked
    c.lists_stand.ensures (asked_outputs course graph suits c.args.edge c.ask_before.new.looks c.in_ok-ask_before.ensures.asked)
    (subst
    (λ (flags : List Bool). (rs : List Record) (ds : List DepsRecord) → AreKnown graph rs ds state.records
    → KeepsDepfile tells (declared_by graph).edges mid (g.S.Texts.world c.reason.new.site) (suc c.args.edge)
    → IfKept tells graph.manifest.paths mid (g.S.Texts.world c.reason.new.site) c.ask_before.new.looks.seen.items (IsAnswer graph rs ds flags c.args.edge c.in_ok-reason.reason))
    c.deref.ensures.value c.in_ok-reason.ensures.reason)
    c.judged.new.self c.judged-2.new.self c.judged.ensures.planned c.judged.ensures.flags

-- the answers that are kept are left alone
pub returns-in_err-ask_before-clause-answers : goal.returns-in_err-ask_before-clause-answers
returns-in_err-ask_before-clause-answers g c = ap (λ (s : Sums). s.answers) c.ask_before.ensures.sums

pub returns-in_err-reason-clause-answers : goal.returns-in_err-reason-clause-answers
returns-in_err-reason-clause-answers g c = c.reason.ensures.answers ∙ ap (λ (s : Sums). s.answers) c.ask_before.ensures.sums

-- the plan tells of other edges what it told
pub returns-clause-told : goal.returns-clause-told
returns-clause-told g c = told_settled c.args.self.now.graph c.args.self.now.plan c.judged.new.self c.args.edge _ c.judged.ensures.stands

pub returns-clause-answers : goal.returns-clause-answers
returns-clause-answers g c = c.reason.ensures.answers ∙ ap (λ (s : Sums). s.answers) c.ask_before.ensures.sums
