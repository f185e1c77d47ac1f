use Rattle.std.proofs.Common.{◌≡◌, ◌<◌, ◌∷◌, [], Bool, true, Vec, Global, vec_len, sym, ◌∙◌, ap, subst, arith}
use Rattle.std.proofs.lemmas.Bool.{false≢true}
use Rattle.graph.specs.declared.cone.Cone.{Cone}
use Rattle.judge.specs.declared.dues.Dues.{Dues}
use Rattle.judge.specs.declared.sums.Sums.{Sums}
use Rattle.judge.specs.KeptDues.{AreKeptRight, HasPlaces, NotesEdges}
use Rattle.work.proofs.KnownClean.{offered_within}
use Rattle.work.proofs.Seeing.{saw_sums}
use Rattle.judge.specs.declared.looks.Looks.{Looks}
use Rattle.judge.specs.Lasting.{AreMarked}
use Rattle.judge.specs.Summed.{AreSums}
use Rattle.judge.specs.Answers.{AreAnswers, KnowsRight}
use Rattle.judge.specs.declared.answers.Answers.{Answers}
use Rattle.graph.specs.declared.graph.Graph.{Graph}
use Rattle.records.specs.declared.records.Records.{Records}
use Rattle.work.proofs.Results.{on_err, ok_by, err_by}
use Rattle.work.proofs.Ends.{cut_looking, at_load, at_end}
use Rattle.work.proofs.Noticed.{on_summed}
use Rattle.work.proofs.Onward.{may_wait}
use Rattle.work.proofs.After.{after_same, after_looks}
use Rattle.work.proofs.state.Work.go_on.Goals as goal

pub judge-requires-clause-next : goal.judge-requires-clause-next
judge-requires-clause-next g c = record { offered = c.in-Judge.ensures.offered; lawful = c.in-Judge.ensures.lawful; loads = c.in-Judge.ensures.loads }

pub start_edge-requires-clause-next : goal.start_edge-requires-clause-next
start_edge-requires-clause-next g c = record { offered = c.in-Start.ensures.offered; lawful = c.in-Start.ensures.lawful; loads = c.in-Start.ensures.loads }

pub take_in-requires-clause-going : goal.take_in-requires-clause-going
take_in-requires-clause-going g c = record {
  goes = true;
  may = may_wait c.args.self.now.plan (record { offered = c.in-Wait.ensures.offered; lawful = c.in-Wait.ensures.lawful; loads = c.in-Wait.ensures.loads });
  going = c.requires.going;
}

pub returns-in_err-map_err-in-Judge-clause-cut : goal.returns-in_err-map_err-in-Judge-clause-cut
returns-in_err-map_err-in-Judge-clause-cut g c = on_err c.from_residual.result (λ course suits goes on.
    cut_looking g.S.Texts.tells course c.args.self.now.graph (g.S.Texts.world c.args.site.now) c.args.self.now c.judge.new.self.plan (g.S.Texts.world c.judge.new.site)
    (err_by c.judge.result c.map_err.result _ c.map_err.ensures.variant c.in_err-map_err-in-Judge.was c.judge.ensures.plan) c.judge.ensures.looked.looks on)

pub returns-in_err-map_err-in-Start-clause-cut : goal.returns-in_err-map_err-in-Start-clause-cut
returns-in_err-map_err-in-Start-clause-cut g c = on_err c.from_residual-in_err-map_err-in-Start.result
    (err_by c.start_edge.result c.map_err-in-Start.result _ c.map_err-in-Start.ensures.variant c.in_err-map_err-in-Start.was c.start_edge.ensures.cut)

pub returns-in_err-take_in-in-Wait-clause-cut : goal.returns-in_err-take_in-in-Wait-clause-cut
returns-in_err-take_in-in-Wait-clause-cut g c = on_err c.from_residual-in_err-take_in-in-Wait.result
    (c.in_err-take_in-in-Wait.ensures.cut true (may_wait c.args.self.now.plan (record { offered = c.in-Wait.ensures.offered; lawful = c.in-Wait.ensures.lawful; loads = c.in-Wait.ensures.loads })))

pub returns-in_ok-map_err-in-Judge-clause-on : goal.returns-in_ok-map_err-in-Judge-clause-on
returns-in_ok-map_err-in-Judge-clause-on g c course suits goes on =
    let sums = c.judge.new.self.looks.sums in
    on_summed g.S.Texts.tells course c.args.self.now.graph c.log_stays.ensures suits c.judge.new.self (g.S.Texts.world c.judge.new.site)
    (record { alloc = sums.alloc; by_edge = sums.by_edge; passing = sums.passing; answers = record { known = sums.answers.known; dues = c.note_judged.new.self } })
    (ok_by c.judge.result c.map_err.result _ c.map_err.ensures.variant c.in_ok-map_err-in-Judge.was c.judge.ensures.on course suits goes on)

pub returns-in_ok-map_err-in-Start-clause-on : goal.returns-in_ok-map_err-in-Start-clause-on
returns-in_ok-map_err-in-Start-clause-on g c course suits goes on =
    let sums = c.start_edge.new.self.looks.sums in
    on_summed g.S.Texts.tells course c.args.self.now.graph c.log_stays.ensures suits c.start_edge.new.self (g.S.Texts.world c.start_edge.new.site)
    (record { alloc = sums.alloc; by_edge = sums.by_edge; passing = sums.passing; answers = record { known = sums.answers.known; dues = c.forget.new.self } })
    (ok_by c.start_edge.result c.map_err-in-Start.result _ c.map_err-in-Start.ensures.variant c.in_ok-map_err-in-Start.was c.start_edge.ensures.on course suits goes on)

pub returns-in_ok-take_in-in-Wait-clause-on : goal.returns-in_ok-take_in-in-Wait-clause-on
returns-in_ok-take_in-in-Wait-clause-on g c course suits goes on =
    on_summed g.S.Texts.tells course c.args.self.now.graph c.log_stays.ensures suits c.take_in.new.self (g.S.Texts.world c.take_in.new.site) c.forget_made.new.self
    (c.in_ok-take_in-in-Wait.ensures.on true (may_wait c.args.self.now.plan (record { offered = c.in-Wait.ensures.offered; lawful = c.in-Wait.ensures.lawful; loads = c.in-Wait.ensures.loads })) course suits goes on)

pub returns-in-Load-clause-on : goal.returns-in-Load-clause-on
returns-in-Load-clause-on g c course suits goes =
    at_load g.S.Texts.tells course c.args.self.now.graph (g.S.Texts.world c.args.site.now) c.args.self.now c.in-Load.file
    (record { offered = c.in-Load.ensures.offered; lawful = c.in-Load.ensures.lawful; loads = c.in-Load.ensures.loads })

pub returns-in-Ended-clause-on : goal.returns-in-Ended-clause-on
returns-in-Ended-clause-on g c course suits =
    at_end g.S.Texts.tells course c.args.self.now.graph (g.S.Texts.world c.args.site.now) c.args.self.now _
    (record { offered = c.in-Ended.ensures.offered; lawful = c.in-Ended.ensures.lawful; loads = c.in-Ended.ensures.loads })

pub returns-in_err-map_err-in-Judge-clause-grows : goal.returns-in_err-map_err-in-Judge-clause-grows
returns-in_err-map_err-in-Judge-clause-grows g c = after_looks g.S.Texts.tells (g.S.Texts.world c.args.site.now) (g.S.Texts.world c.judge.new.site) c.judge.ensures.looked.looks

pub returns-in_ok-map_err-in-Judge-clause-grows : goal.returns-in_ok-map_err-in-Judge-clause-grows
returns-in_ok-map_err-in-Judge-clause-grows g c = after_looks g.S.Texts.tells (g.S.Texts.world c.args.site.now) (g.S.Texts.world c.judge.new.site) c.judge.ensures.looked.looks

pub returns-in_ok-map_err-in-Judge-clause-looked : goal.returns-in_ok-map_err-in-Judge-clause-looked
returns-in_ok-map_err-in-Judge-clause-looked g c same =
    let new = c.judge.new.self.looks in
    let at = g.S.Texts.world c.judge.new.site in
    let sums : Sums = record { alloc = new.sums.alloc; by_edge = new.sums.by_edge; passing = new.sums.passing; answers = record { known = new.sums.answers.known; dues = c.note_judged.new.self } } in
    (c.looks_follow.ensures.follow g.S.Texts.tells (g.S.Texts.world c.args.site.now) at at).looked c.args.self.now.graph c.args.self.now.looks new (record { seen = new.seen; sums = sums }) c.judge.ensures.looked
    (saw_sums g.S.Texts.tells c.args.self.now.graph at new sums)

pub returns-in_ok-map_err-in-Start-clause-looked : goal.returns-in_ok-map_err-in-Start-clause-looked
returns-in_ok-map_err-in-Start-clause-looked g c same = absurd (ok_by c.start_edge.result c.map_err-in-Start.result _ c.map_err-in-Start.ensures.variant c.in_ok-map_err-in-Start.was c.start_edge.ensures.some same)

pub returns-in_ok-take_in-in-Wait-clause-looked : goal.returns-in_ok-take_in-in-Wait-clause-looked
returns-in_ok-take_in-in-Wait-clause-looked g c same = absurd (c.in_ok-take_in-in-Wait.ensures.some same)

pub returns-in-Load-clause-grows : goal.returns-in-Load-clause-grows
returns-in-Load-clause-grows g c = after_same g.S.Texts.tells (g.S.Texts.world c.args.site.now)

pub returns-in-Load-clause-looked : goal.returns-in-Load-clause-looked
returns-in-Load-clause-looked g c same = (c.looks_follow.ensures.follow g.S.Texts.tells (g.S.Texts.world c.args.site.now) (g.S.Texts.world c.args.site.now) (g.S.Texts.world c.args.site.now)).none c.args.self.now.graph c.args.self.now.looks

pub returns-in-Ended-clause-grows : goal.returns-in-Ended-clause-grows
returns-in-Ended-clause-grows g c = after_same g.S.Texts.tells (g.S.Texts.world c.args.site.now)

pub returns-in-Ended-clause-looked : goal.returns-in-Ended-clause-looked
returns-in-Ended-clause-looked g c same = (c.looks_follow.ensures.follow g.S.Texts.tells (g.S.Texts.world c.args.site.now) (g.S.Texts.world c.args.site.now) (g.S.Texts.world c.args.site.now)).none c.args.self.now.graph c.args.self.now.looks

-- a start changes nothing of what the sums are of
pub returns-in_ok-map_err-in-Start-clause-summed : goal.returns-in_ok-map_err-in-Start-clause-summed
returns-in_ok-map_err-in-Start-clause-summed g c =
    let graph = c.args.self.now.graph in
    let new = c.start_edge.new.self in
    subst (λ (flags : Vec Bool Global). AreSums graph flags.items new.looks.seen.items new.looks.sums) (sym c.start_edge.ensures.changed)
    (subst (λ (looks : Looks). AreSums graph c.args.self.now.plan.changed.items looks.seen.items looks.sums) (sym c.start_edge.ensures.looks) c.requires.summed)

pub returns-in_ok-map_err-in-Start-clause-marked : goal.returns-in_ok-map_err-in-Start-clause-marked
returns-in_ok-map_err-in-Start-clause-marked g c =
    let graph = c.args.self.now.graph in
    let new = c.start_edge.new.self in
    subst (λ (flags : Vec Bool Global). AreMarked graph flags.items new.looks.seen.items new.looks.sums) (sym c.start_edge.ensures.changed)
    (subst (λ (looks : Looks). AreMarked graph c.args.self.now.plan.changed.items looks.seen.items looks.sums) (sym c.start_edge.ensures.looks) c.requires.marked)

-- an end keeps what no command makes
pub returns-in_ok-take_in-in-Wait-clause-summed : goal.returns-in_ok-take_in-in-Wait-clause-summed
returns-in_ok-take_in-in-Wait-clause-summed g c =
    let graph = c.args.self.now.graph in
    let flags = c.args.self.now.plan.changed.items in
    let seen = c.args.self.now.looks.seen.items in
    let new = c.take_in.new.self in
    c.sums_follow.ensures.last_sums graph flags new.plan.changed.items seen new.looks.seen.items c.in_ok-take_in-in-Wait.ensures.kept c.forget_made.new.self
    (c.forget_made.ensures.lasting graph flags seen (subst (AreMarked graph flags seen) (sym c.in_ok-take_in-in-Wait.ensures.sums) c.requires.marked))

pub returns-in_ok-take_in-in-Wait-clause-marked : goal.returns-in_ok-take_in-in-Wait-clause-marked
returns-in_ok-take_in-in-Wait-clause-marked g c =
    let graph = c.args.self.now.graph in
    let flags = c.args.self.now.plan.changed.items in
    let seen = c.args.self.now.looks.seen.items in
    let new = c.take_in.new.self in
    c.sums_follow.ensures.last_marks graph flags new.plan.changed.items seen new.looks.seen.items c.in_ok-take_in-in-Wait.ensures.kept c.forget_made.new.self
    (c.forget_made.ensures.lasting graph flags seen (subst (AreMarked graph flags seen) (sym c.in_ok-take_in-in-Wait.ensures.sums) c.requires.marked))

-- a judgement asks for more, a start changes nothing of what answers are of, and after an end none is kept
pub returns-in_ok-map_err-in-Judge-clause-known : goal.returns-in_ok-map_err-in-Judge-clause-known
returns-in_ok-map_err-in-Judge-clause-known g c =
    let state = c.args.self.now in
    let new = c.judge.new.self in
    let edge = c.in-Judge.edge in
    let seen = new.looks.seen.items in
    let noted = c.note_judged.new.self in
    let same : new.looks.sums.answers.dues ≡ state.looks.sums.answers.dues = ap (λ (a : Answers). a.dues) c.judge.ensures.answers in
    record {
      known =
          subst (λ (graph : Graph). KnowsRight graph new.records new.looks) (sym {A = Graph} c.judge.ensures.graph)
          (subst (λ (records : Records). KnowsRight state.graph records new.looks) (sym {A = Records} c.judge.ensures.records)
          (subst (λ (answers : Answers). AreAnswers state.graph state.records seen answers) (sym {A = Answers} c.judge.ensures.answers)
          (c.answers_follow.ensures.stay state.graph state.records state.looks.seen.items seen c.judge.ensures.looked.stays state.looks.sums.answers c.requires.known.known)));
      kept = λ on.
          let was_on : state.looks.sums.answers.dues.known ≡ true = sym (c.note_judged.ensures.known ∙ ap (λ (d : Dues). d.known) same) ∙ on in
          let then_on : new.looks.sums.answers.dues.known ≡ true = ap (λ (d : Dues). d.known) same ∙ was_on in
          let kept = c.dues_follow.ensures.stay state.graph state.records state.cone state.plan state.looks.seen.items seen c.judge.ensures.looked.stays state.looks.sums.answers.dues (c.requires.known.kept was_on) in
          let before = subst (λ (d : Dues). AreKeptRight state.graph state.records state.cone state.plan seen d) (sym {A = Dues} same) kept in
          let notes = subst (λ (cone : Cone). NotesEdges cone (edge ∷ []) new.looks.sums.answers.dues noted) c.judge.ensures.cone (c.note_judged.ensures.noted then_on) in
          let told = ok_by c.judge.result c.map_err.result _ c.map_err.ensures.variant c.in_ok-map_err-in-Judge.was c.judge.ensures.told in
          let right = c.dues_follow.ensures.judged state.graph state.records state.cone state.plan new.plan edge told seen new.looks.sums.answers.dues noted notes before in
          subst (λ (graph : Graph). AreKeptRight graph new.records new.cone new.plan seen noted) (sym {A = Graph} c.judge.ensures.graph)
          (subst (λ (records : Records). AreKeptRight state.graph records new.cone new.plan seen noted) (sym {A = Records} c.judge.ensures.records)
          (subst (λ (cone : Cone). AreKeptRight state.graph state.records cone new.plan seen noted) (sym {A = Cone} c.judge.ensures.cone) right));
    }

-- the edge has a place among the marks, where flags are kept
pub note_judged-requires-clause-within : goal.note_judged-requires-clause-within
note_judged-requires-clause-within g c on =
    let state = c.args.self.now in
    let new = c.judge.new.self in
    let same : new.looks.sums.answers.dues ≡ state.looks.sums.answers.dues = ap (λ (a : Answers). a.dues) c.judge.ensures.answers in
    let kept = c.requires.known.kept (sym (ap (λ (d : Dues). d.known) same) ∙ on) in
    let low = offered_within state.graph state.plan c.requires.going.on.planned.over c.in-Judge.edge c.in-Judge.ensures.offered in
    subst (λ (cone : Cone). c.in-Judge.edge < vec_len cone.marks) (sym {A = Cone} c.judge.ensures.cone) (omega (arith, low, kept.but.room.sized))

pub note_judged-requires-clause-places : goal.note_judged-requires-clause-places
note_judged-requires-clause-places g c on =
    let state = c.args.self.now in
    let new = c.judge.new.self in
    let same : new.looks.sums.answers.dues ≡ state.looks.sums.answers.dues = ap (λ (a : Answers). a.dues) c.judge.ensures.answers in
    let kept = c.requires.known.kept (sym (ap (λ (d : Dues). d.known) same) ∙ on) in
    subst (λ (cone : Cone). HasPlaces cone new.looks.sums.answers.dues) (sym {A = Cone} c.judge.ensures.cone)
    (subst (λ (d : Dues). HasPlaces state.cone d) (sym {A = Dues} same) (record { marks = kept.but.room.marks; room = kept.but.room.room }))

pub returns-in_ok-map_err-in-Start-clause-known : goal.returns-in_ok-map_err-in-Start-clause-known
returns-in_ok-map_err-in-Start-clause-known g c =
    let state = c.args.self.now in
    let new = c.start_edge.new.self in
    record {
      known =
          subst (λ (graph : Graph). KnowsRight graph new.records new.looks) (sym {A = Graph} c.start_edge.ensures.graph)
          (subst (λ (looks : Looks). KnowsRight state.graph new.records looks) (sym {A = Looks} c.start_edge.ensures.looks)
          (c.answers_follow.ensures.told state.graph state.records new.records c.start_edge.ensures.told state.looks.seen.items state.looks.sums.answers c.requires.known.known));
      kept = λ on. absurd (false≢true (sym c.forget.ensures ∙ on));
    }

pub returns-in_ok-take_in-in-Wait-clause-known : goal.returns-in_ok-take_in-in-Wait-clause-known
returns-in_ok-take_in-in-Wait-clause-known g c =
    let new = c.take_in.new.self in
    record {
      known = c.answers_follow.ensures.none new.graph new.records new.looks.seen.items c.forget_made.new.self.answers c.forget_made.ensures.answers;
      kept = λ on. absurd (false≢true (sym c.forget_made.ensures.dues ∙ on));
    }

pub returns-in-Load-clause-known : goal.returns-in-Load-clause-known
returns-in-Load-clause-known g c = c.requires.known

pub returns-in-Ended-clause-known : goal.returns-in-Ended-clause-known
returns-in-Ended-clause-known g c = c.requires.known
