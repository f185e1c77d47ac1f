use Rattle.std.proofs.Common.{List, Ok, refl, sym, subst}
use Rattle.model.specs.SingleBuild.{asked_with}
use Rattle.paths.specs.Told.{text_at}
use Rattle.dyndep.specs.declared.addition.Addition.{Addition as Statement}
use Rattle.work.specs.Standing.{RefusesAt, StopsAt, IsStopThere, IfRefused, task_over}
use Rattle.work.specs.Joined.{WasHeld}
use Rattle.graph.specs.declared.cone.Cone.{Cone}
use Rattle.graph.specs.Told.{declared_by}
use Rattle.judge.specs.Answers.{StandBoth, AreKnownStill}
use Rattle.judge.specs.KeptDues.{AreKeptRight}
use Rattle.judge.specs.UnderWay.{IsUnderWay}
use Rattle.work.proofs.Asking.{under}
use Rattle.work.specs.Loads.{IsSaying}
use Rattle.work.proofs.LoadEnds.{load_stop, load_stop_by, stops_undone, refuses_undone}
use Rattle.work.proofs.Loading.{may_join, stand_inside, unread_cause, unjoined_cause, has_begun, under_grown, fewer_by}
use Rattle.work.proofs.Results.{on_err}
use Rattle.work.proofs.StopCases.{refused_then, passed}
use Rattle.work.proofs.state.Work.load.Goals as goal

-- ---- the file was not read

pub returns-in_err-additions-clause-stop : goal.returns-in_err-additions-clause-stop
returns-in_err-additions-clause-stop g c =
    let old = g.S.Texts.world c.args.site.now in
    let new = g.S.Texts.world c.additions_in.new.site in
    passed (λ s. IsStopThere old new s) c.in_err-additions.field-0.0 c.from_residual.result c.from_residual.ensures.1
    (load_stop g.S.Texts.tells old new c.in_err-additions.field-0.0 c.additions_in.ensures.looks c.additions_in.ensures.earlier c.in_err-additions.ensures.calm c.in_err-additions.ensures.met c.in_err-additions.ensures.stop)

pub returns-in_err-additions-clause-undone : goal.returns-in_err-additions-clause-undone
returns-in_err-additions-clause-undone g c =
    on_err c.from_residual.result (record { graph_is = refl; state = record { cone = refl; plan = refl; looks = refl; logs = refl; tick = refl; starts = refl; failed = refl }; known = λ rs ds known. known })

pub returns-in_err-additions-clause-refused : goal.returns-in_err-additions-clause-refused
returns-in_err-additions-clause-refused g c =
    let tells = g.S.Texts.tells in
    let graph = c.args.self.now.graph in
    let state = c.args.self.now in
    let file = c.args.file in
    let old = g.S.Texts.world c.args.site.now in
    let new = g.S.Texts.world c.additions_in.new.site in
    passed (λ s. IfRefused s (RefusesAt tells file graph state old graph state new)) c.in_err-additions.field-0.0 c.from_residual.result c.from_residual.ensures.1
    (refused_then c.in_err-additions.field-0.0 c.in_err-additions.ensures.refused (λ refusal unread course edges phases stands to_load.
    refuses_undone tells course edges phases graph state file old stands to_load c.log_stays.ensures new c.additions_in.ensures.looks state graph
    (record { graph_is = refl; state = record { cone = refl; plan = refl; looks = refl; logs = refl; tick = refl; starts = refl; failed = refl }; known = λ rs ds known. known })
    refusal (unread_cause tells course edges phases graph state old stands file to_load c.log_stays.ensures new c.additions_in.ensures.looks refusal unread)))

pub returns-in_err-additions-clause-halted : goal.returns-in_err-additions-clause-halted
returns-in_err-additions-clause-halted g c =
    let tells = g.S.Texts.tells in
    let graph = c.args.self.now.graph in
    let state = c.args.self.now in
    let file = c.args.file in
    let old = g.S.Texts.world c.args.site.now in
    let new = g.S.Texts.world c.additions_in.new.site in
    passed (λ s. StopsAt tells file graph state old graph state new s) c.in_err-additions.field-0.0 c.from_residual.result c.from_residual.ensures.1 (λ course edges phases at.
    stops_undone tells course edges phases graph state file old at c.log_stays.ensures new c.additions_in.ensures.looks state graph
    (record { graph_is = refl; state = record { cone = refl; plan = refl; looks = refl; logs = refl; tick = refl; starts = refl; failed = refl }; known = λ rs ds known. known })
    c.in_err-additions.field-0.0
    (refused_then c.in_err-additions.field-0.0 c.in_err-additions.ensures.refused (λ refusal unread.
    unread_cause tells course edges phases graph state old at.stands file at.next c.log_stays.ensures new c.additions_in.ensures.looks refusal unread)))

-- ---- it was

pub join-joined-requires-clause-may : goal.join-joined-requires-clause-may
join-joined-requires-clause-may g c =
    let course = c.requires.at.0 in
    let edges = c.requires.at.1 in
    let phases = c.requires.at.2 in
    (asked_with course.asked edges, course.store, may_join g.S.Texts.tells course edges phases c.args.self.now.graph c.args.self.now (g.S.Texts.world c.args.site.now) c.requires.at.3 c.args.file c.requires.at.4)

pub join-joined-requires-clause-inside : goal.join-joined-requires-clause-inside
join-joined-requires-clause-inside g c =
    stand_inside g.S.Texts.tells c.requires.at.0 c.requires.at.1 c.requires.at.2 c.args.self.now.graph c.args.self.now (g.S.Texts.world c.args.site.now) c.requires.at.3 c.args.file c.requires.at.4

pub join-joined-requires-clause-places : goal.join-joined-requires-clause-places
join-joined-requires-clause-places g c on =
    let kept = c.requires.known.kept on in
    record { marks = kept.but.room.marks; room = kept.but.room.room }

pub returns-in-Ok-clause-begun : goal.returns-in-Ok-clause-begun
returns-in-Ok-clause-begun g c course edges phases at =
    let tells = g.S.Texts.tells in
    let graph = c.args.self.now.graph in
    let state = c.args.self.now in
    let file = c.args.file in
    let old = g.S.Texts.world c.args.site.now in
    let new = g.S.Texts.world c.additions_in.new.site in
    let adds = c.as_slice.result.now in
    let read = subst (λ (l : List Statement). WasHeld tells (text_at graph.manifest.paths file) (IsSaying (Ok l)) old new) (sym {A = List Statement} c.as_slice.ensures) c.in_ok-additions.ensures.read in
    let gone = c.in-Ok.ensures.goes (asked_with course.asked edges) course.store (may_join tells course edges phases graph state old at.stands file at.next) in
    has_begun tells course edges phases graph state old at.stands file at.next c.log_stays.ensures new c.additions_in.ensures.looks c.one_answer.ensures adds read c.join-joined.new.self.graph c.join-joined.new.self gone c.lists_stand.ensures c.lists_stand-2.ensures c.task_of.ensures at.asked
    c.in-Ok.ensures.room c.in-Ok.ensures.known c.in-Ok.ensures.logs

pub returns-in-Ok-clause-fewer : goal.returns-in-Ok-clause-fewer
returns-in-Ok-clause-fewer g c =
    let course = c.requires.at.0 in
    let edges = c.requires.at.1 in
    let phases = c.requires.at.2 in
    let stands = c.requires.at.3 in
    let to_load = c.requires.at.4 in
    let tells = g.S.Texts.tells in
    let graph = c.args.self.now.graph in
    let state = c.args.self.now in
    let old = g.S.Texts.world c.args.site.now in
    let gone = c.in-Ok.ensures.goes (asked_with course.asked edges) course.store (may_join tells course edges phases graph state old stands c.args.file to_load) in
    fewer_by tells course edges phases graph state old stands c.args.file to_load c.join-joined.new.self.graph _ gone.joined

pub returns-clause-stop : goal.returns-clause-stop
returns-clause-stop g c =
    load_stop_by g.S.Texts.tells (g.S.Texts.world c.args.site.now) (g.S.Texts.world c.additions_in.new.site) c.in-Err.stop c.additions_in.ensures.looks c.in_ok-additions.ensures.unrefused c.in-Err.ensures.memory

pub returns-clause-undone : goal.returns-clause-undone
returns-clause-undone g c = c.in-Err.ensures.undone

pub returns-clause-refused : goal.returns-clause-refused
returns-clause-refused g c =
    let tells = g.S.Texts.tells in
    let graph = c.args.self.now.graph in
    let state = c.args.self.now in
    let file = c.args.file in
    let old = g.S.Texts.world c.args.site.now in
    let new = g.S.Texts.world c.additions_in.new.site in
    let adds = c.as_slice.result.now in
    let read = subst (λ (l : List Statement). WasHeld tells (text_at graph.manifest.paths file) (IsSaying (Ok l)) old new) (sym {A = List Statement} c.as_slice.ensures) c.in_ok-additions.ensures.read in
    refused_then c.in-Err.stop c.in-Err.ensures.cause (λ refusal cause course edges phases stands to_load.
    refuses_undone tells course edges phases graph state file old stands to_load c.log_stays.ensures new c.additions_in.ensures.looks c.join-joined.new.self c.join-joined.new.self.graph c.in-Err.ensures.undone
    refusal (unjoined_cause tells course edges phases graph state old stands file to_load c.log_stays.ensures new c.additions_in.ensures.looks c.one_answer.ensures adds read refusal
    (cause (asked_with course.asked edges) course.store (may_join tells course edges phases graph state old stands file to_load))))

pub returns-clause-halted : goal.returns-clause-halted
returns-clause-halted g c course edges phases at =
    let tells = g.S.Texts.tells in
    let graph = c.args.self.now.graph in
    let state = c.args.self.now in
    let file = c.args.file in
    let old = g.S.Texts.world c.args.site.now in
    let new = g.S.Texts.world c.additions_in.new.site in
    let adds = c.as_slice.result.now in
    let read = subst (λ (l : List Statement). WasHeld tells (text_at graph.manifest.paths file) (IsSaying (Ok l)) old new) (sym {A = List Statement} c.as_slice.ensures) c.in_ok-additions.ensures.read in
    stops_undone tells course edges phases graph state file old at c.log_stays.ensures new c.additions_in.ensures.looks c.join-joined.new.self c.join-joined.new.self.graph c.in-Err.ensures.undone c.in-Err.stop
    (refused_then c.in-Err.stop c.in-Err.ensures.cause (λ refusal cause.
    unjoined_cause tells course edges phases graph state old at.stands file at.next c.log_stays.ensures new c.additions_in.ensures.looks c.one_answer.ensures adds read refusal
    (cause (asked_with course.asked edges) course.store (may_join tells course edges phases graph state old at.stands file at.next))))

-- what was found of other edges is right after the load, and so are their flags
pub returns-in-Ok-clause-known : goal.returns-in-Ok-clause-known
returns-in-Ok-clause-known g c =
    let tells = g.S.Texts.tells in
    let course = c.requires.at.0 in
    let edges = c.requires.at.1 in
    let phases = c.requires.at.2 in
    let stands = c.requires.at.3 in
    let to_load = c.requires.at.4 in
    let state = c.args.self.now in
    let after = c.join-joined.new.self in
    let file = c.args.file in
    let old = g.S.Texts.world c.args.site.now in
    let new = g.S.Texts.world c.additions_in.new.site in
    let left = c.in-Ok.ensures.left in
    let may = may_join tells course edges phases state.graph state old stands file to_load in
    let both : StandBoth state.graph after.graph = record { before = c.lists_stand.ensures; after = c.lists_stand-2.ensures } in
    let still : AreKnownStill state.graph after.graph state.records after.records = record { rs = course.store.records; ds = course.store.deps; known = may.known; stay = c.in-Ok.ensures.known } in
    record {
      known =
          c.answers_follow.ensures.stay after.graph after.records state.looks.seen.items after.looks.seen.items (λ p asked. c.in-Ok.ensures.room.looks p) after.looks.sums.answers
          (c.answers_follow.ensures.loaded left.edges state.graph after.graph left.grown both state.records after.records still state.looks.seen.items state.looks.sums.answers after.looks.sums.answers left.forgets c.requires.known.known);
      kept = λ on.
          let notes = left.notes on in
          let adds = c.as_slice.result.now in
          let read = subst (λ (l : List Statement). WasHeld tells (text_at state.graph.manifest.paths file) (IsSaying (Ok l)) old new) (sym {A = List Statement} c.as_slice.ensures) c.in_ok-additions.ensures.read in
          let gone = c.in-Ok.ensures.goes (asked_with course.asked edges) course.store may in
          let way = under tells course edges phases state.graph state old stands in
          let way_then =
          under_grown tells course edges phases state.graph state old stands file to_load c.log_stays.ensures new c.additions_in.ensures.looks c.one_answer.ensures adds read after.graph after gone c.lists_stand.ensures c.lists_stand-2.ensures c.task_of.ensures
          c.in-Ok.ensures.room c.in-Ok.ensures.known c.in-Ok.ensures.logs in
          let right =
          c.dues_follow.ensures.loaded left.edges state.graph after.graph left.grown both state.records after.records still state.cone state.plan after.plan course.store course.store (task_over course edges).targets (task_over course (declared_by after.graph).edges).targets
          stands.on.steps way (subst (λ (cone : Cone). IsUnderWay after.graph after.records cone after.plan course.store (task_over course (declared_by after.graph).edges).targets stands.on.steps) notes.cone way_then)
          state.looks.sums.answers.dues after.looks.sums.answers.dues notes.noted state.looks.seen.items (c.requires.known.kept notes.known) in
          subst (λ (cone : Cone). AreKeptRight after.graph after.records cone after.plan after.looks.seen.items after.looks.sums.answers.dues) (sym {A = Cone} notes.cone)
          (c.dues_follow.ensures.stay after.graph after.records state.cone after.plan state.looks.seen.items after.looks.seen.items (λ p asked. c.in-Ok.ensures.room.looks p) after.looks.sums.answers.dues right);
    }
