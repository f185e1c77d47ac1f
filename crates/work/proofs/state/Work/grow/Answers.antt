use Rattle.std.proofs.Common.{◌≡◌, List, refl, sym, ◌∙◌, ap, subst}
use Rattle.graph.specs.declared.back.LoadedEdge.{LoadedEdge}
use Rattle.graph.specs.LoadedEdges.{numbers_in}
use Rattle.judge.specs.Answers.{KnowsOthers}
use Rattle.judge.specs.declared.dues.Dues.{Dues}
use Rattle.judge.specs.declared.sums.Sums.{Sums}
use Rattle.judge.specs.KeptDues.{HasPlaces}
use Rattle.work.specs.Answered.{NotesStill}
use Rattle.work.proofs.Results.{on_err}
use Rattle.work.proofs.state.Work.grow.Goals as goal

pub returns-in_err-grow-clause-beside : goal.returns-in_err-grow-clause-beside
returns-in_err-grow-clause-beside c = record { logs = refl; tick = refl; starts = refl; failed = refl }

pub returns-in_err-grow-clause-looks : goal.returns-in_err-grow-clause-looks
returns-in_err-grow-clause-looks c = c.grow.ensures.front

pub returns-in_err-extend_plan-clause-beside : goal.returns-in_err-extend_plan-clause-beside
returns-in_err-extend_plan-clause-beside c = record { logs = refl; tick = refl; starts = refl; failed = refl }

pub returns-in_err-extend_plan-clause-plan : goal.returns-in_err-extend_plan-clause-plan
returns-in_err-extend_plan-clause-plan c = on_err c.from_residual-in_err-extend_plan.result c.in_err-extend_plan.ensures.err

pub returns-in_err-extend_plan-clause-looks : goal.returns-in_err-extend_plan-clause-looks
returns-in_err-extend_plan-clause-looks c = c.grow.ensures.front

pub returns-clause-planned : goal.returns-clause-planned
returns-clause-planned c = c.in_ok-extend_plan.ensures.planned

pub returns-clause-room : goal.returns-clause-room
returns-clause-room c = record { fits = c.in_ok-grow.ensures.fits; looks = c.in_ok-grow.ensures.same; changed = c.in_ok-extend_plan.ensures.flags; tick = refl; starts = refl; failed = refl }

pub returns-clause-beside : goal.returns-clause-beside
returns-clause-beside c = record { logs = refl; tick = refl; starts = refl; failed = refl }

pub returns-clause-looks : goal.returns-clause-looks
returns-clause-looks c = c.grow.ensures.front

pub returns-clause-answers : goal.returns-clause-answers
returns-clause-answers c =
    let others =
    subst (λ (l : List LoadedEdge). KnowsOthers (numbers_in l) c.args.self.now.looks.sums.answers c.forget.new.self) c.deref.ensures.value
    (subst (λ (s : Sums). KnowsOthers (numbers_in c.deref.result.now) s.answers c.forget.new.self) c.grow.ensures.sums c.forget.ensures.others) in
    record { gone = others.gone; others = others.others }

-- ---- flags that are kept

pub note_load-requires-clause-places : goal.note_load-requires-clause-places
note_load-requires-clause-places c on =
    let same : c.forget.new.self.dues ≡ c.args.self.now.looks.sums.answers.dues = c.forget.ensures.dues ∙ ap (λ (s : Sums). s.answers.dues) c.grow.ensures.sums in
    subst (λ (d : Dues). HasPlaces c.args.self.now.cone d) (sym {A = Dues} same) (c.requires.places (sym (ap (λ (d : Dues). d.known) same) ∙ on))

pub returns-clause-notes : goal.returns-clause-notes
returns-clause-notes c on =
    let state = c.args.self.now in
    let same : c.forget.new.self.dues ≡ state.looks.sums.answers.dues = c.forget.ensures.dues ∙ ap (λ (s : Sums). s.answers.dues) c.grow.ensures.sums in
    subst (λ (d : Dues). NotesStill state.graph state.cone c.args.grown.now (numbers_in c.args.before.now.edges.items) d c.note_load.new.dues) same (c.note_load.ensures on)
