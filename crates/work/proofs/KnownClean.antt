-- Edges that were found not to be due are judged clean, rightly, as long as no command has ended well.
use Rattle.std.proofs.Common.{◌≡◌, inl, inr, ℕ, zero, suc, ◌<◌, ◌==◌, cond, Bool, true, false, List, [], ◌∷◌, map, length, Vec, Global, Option, None, refl, sym, ◌∙◌, ap, subst, arith}
use Rattle.std.proofs.lemmas.Bool.{false≢true, or_cases, or_left, or_right, and_parts, cases_Bool, eqb-true, eq-eqb}
use Rattle.model.specs.declared.event.Event.{Event}
use Rattle.model.specs.declared.event.Moment.{Moment}
use Rattle.model.specs.declared.graph.Edge.{Edge}
use Rattle.model.specs.declared.reason.Reason.{Reason}
use Rattle.model.specs.declared.record.Record.{Record}
use Rattle.model.specs.declared.record.DepsRecord.{DepsRecord}
use Rattle.model.specs.World.{World, runs}
use Rattle.model.specs.Calls.{OnlyLooks}
use Rattle.model.specs.Graph.{has_number, IsCommand}
use Rattle.model.specs.Phases.{Phase}
use Rattle.model.specs.Reading.{IsInCone}
use Rattle.model.specs.Schedule.{Judged, clean_in, out_of_date_in, running_in, started_in, well_in, failed_in}
use Rattle.model.specs.SingleBuild.{task_of}
use Rattle.theory.proofs.SiteCalls.{looks_none}
use Rattle.theory.proofs.Runs.{running_now}
use Rattle.graph.specs.declared.graph.Graph.{Graph}
use Rattle.judge.specs.declared.looks.Looks.{Looks}
use Rattle.judge.specs.Dues.{due_at}
use Rattle.judge.specs.Judged.{IsAnswer, KeepsDepfile}
use Rattle.judge.specs.Lacks.{HasDue}
use Rattle.judge.specs.Looking.{HasLooked}
use Rattle.plan.specs.declared.plan.Plan.{Plan}
use Rattle.plan.specs.declared.step.Standing.{Standing}
use Rattle.plan.specs.declared.step.Standing.TheVariants.{Outside, Unjudged, Clean, OutOfDate, Running, Well, Failed, Alias, Known}
use Rattle.plan.specs.declared.step.Step.TheVariants.{Judge}
use Rattle.plan.specs.Plan.{IsSettling}
use Rattle.plan.specs.Planned.{IsPlanOver, TakesStep, IsOffered}
use Rattle.plan.specs.Standing.{standing_at, is_unjudged, is_outside, is_phony}
use Rattle.records.specs.Laws.{LogStays}
use Rattle.work.specs.declared.state.Work.{Work}
use Rattle.work.specs.Clean.{IsClean, KnowsClean, StaysKnowing, IsCleanNext}
use Rattle.work.specs.Course.{Course, Suits, goes_on, is_quiet, IsOn}
use Rattle.work.specs.Standing.{grown_course, StandsAt, HasSourcesAt}
use Rattle.work.proofs.After.{after_same}
use Rattle.work.proofs.Asking.{known, quietly, keeps_unstarted, same_edges}
use Rattle.work.proofs.Halting.{stands_on}
use Rattle.work.proofs.Judging.{clean_on, judged_command}
use Rattle.work.proofs.Quiet.{files_then, quiet_less}
use Rattle.work.proofs.Seeing.{saw_none}

-- ---- where less is quiet, less is asked

pub answer_less : (graph : Graph) (rs : List Record) (ds : List DepsRecord) (flags : List Bool) (e : ℕ) (reason : Option Reason) (few many : List ℕ → Bool) (files : List Moment) → ((p : List ℕ) → few p ≡ true → many p ≡ true)
    → IsAnswer graph rs ds flags e reason many files → IsAnswer graph rs ds flags e reason few files
answer_less graph rs ds flags e reason few many files more so = (
  (λ store ran old may. so.0 store ran old (record {
    records = may.records;
    deps = may.deps;
    recorded = may.recorded;
    untouched = may.untouched;
    depfile = may.depfile;
    flagged = may.flagged;
    paths = record { made = λ p h. more p (may.paths.made p h); read = λ p read. more p (may.paths.read p read); recorded = λ p h. more p (may.paths.recorded p h) };
  })),
  (λ store old may. so.1 store old (record { records = may.records; deps = may.deps; untouched = may.untouched; depfile = may.depfile; made = λ p h. more p (may.made p h) })),
)

-- ---- standings

-- an edge that stands unjudged was not started
unstarted_by : (well failed started out clean : Bool) → cond well Well (cond failed Failed (cond started Running (cond out OutOfDate (cond clean Clean Unjudged)))) ≡ Unjudged → started ≡ false
unstarted_by true failed started out clean is = absurd (false≢true (ap is_unjudged is))
unstarted_by false true started out clean is = absurd (false≢true (ap is_unjudged is))
unstarted_by false false true out clean is = absurd (false≢true (ap is_unjudged is))
unstarted_by false false false out clean is = refl

stands_unjudged : (s : Standing) → is_unjudged s ≡ true → s ≡ Unjudged
stands_unjudged Outside is = absurd (false≢true is)
stands_unjudged Unjudged is = refl
stands_unjudged Clean is = absurd (false≢true is)
stands_unjudged OutOfDate is = absurd (false≢true is)
stands_unjudged Running is = absurd (false≢true is)
stands_unjudged Well is = absurd (false≢true is)
stands_unjudged Failed is = absurd (false≢true is)
stands_unjudged Alias is = absurd (false≢true is)
stands_unjudged Known is = absurd (false≢true is)

-- an edge that is judged next stands so
pub offered_unjudged : (plan : Plan) (e : ℕ) → IsOffered plan (Judge e) → standing_at plan.standings.items e ≡ Unjudged
offered_unjudged plan e offered = stands_unjudged (standing_at plan.standings.items e) (and_parts _ _ (sym (plan.sets.ready e) ∙ offered)).0

-- and is one of the graph
pub offered_within : (graph : Graph) (plan : Plan) → IsPlanOver graph plan → (e : ℕ) → IsOffered plan (Judge e) → e < length graph.manifest.lines
offered_within graph plan over e offered =
    let many = over.over.edges in
    let lt = inside plan.standings.items e (ap is_outside (offered_unjudged plan e offered)) in
    omega (arith, lt, many)
  where
    inside : (standings : List Standing) (k : ℕ) → is_outside (standing_at standings k) ≡ false → k < length standings
    inside [] k is = absurd (false≢true (sym is))
    inside (s ∷ standings) zero is = omega arith
    inside (s ∷ standings) (suc k) is = let lt = inside standings k is in omega (arith, lt)

-- what stands so later stood so before
abbrev pub StayUnjudged : Plan → Plan → Type 0
StayUnjudged old new = (e : ℕ) → standing_at new.standings.items e ≡ Unjudged → standing_at old.standings.items e ≡ Unjudged

-- behind a judgement, too
pub still_unjudged : (first : Plan) (old new : List Standing) (e : ℕ) → IsSettling old new e Clean → ((k : ℕ) → standing_at old k ≡ Unjudged → standing_at first.standings.items k ≡ Unjudged)
    → (k : ℕ) → standing_at new k ≡ Unjudged → standing_at first.standings.items k ≡ Unjudged
still_unjudged first old new e settling so_far k unjudged = elim (cases_Bool (k == e)) [
  | inl is ↦ absurd (false≢true (ap is_unjudged (sym settling.here ∙ (ap (standing_at new) (sym (eqb-true k e is)) ∙ unjudged))))
  | inr not_here ↦ elim (settling.others k (λ is. false≢true (sym not_here ∙ eq-eqb k e is))) [
    | inl same ↦ so_far k (sym same ∙ unjudged)
    | inr settled ↦ absurd (false≢true (ap is_unjudged (sym settled.1 ∙ unjudged)))
  ]
]

-- ---- numbers

pub listed_suc : (xs : List ℕ) (e : ℕ) → has_number (map suc xs) (suc e) ≡ true → has_number xs e ≡ true
listed_suc [] e h = absurd (false≢true h)
listed_suc (x ∷ xs) e h = elim (or_cases (suc x == suc e) (has_number (map suc xs) (suc e)) h) [
  | inl here ↦ or_left (x == e) (has_number xs e) (eq-eqb x e (omega (arith, eqb-true (suc x) (suc e) here)))
  | inr later ↦ or_right (x == e) (has_number xs e) (listed_suc xs e later)
]

nothing_in : (xs : List ℕ) → 0 ≡ length xs → xs ≡ []
nothing_in [] is = refl
nothing_in (x ∷ xs) is = absurd (omega (arith, is))

-- ---- where sources were asked for

module _ (tells : Bool) (course : Course) (edges : List Edge) (phases : List Phase) (graph : Graph) (state : Work) (now : World) (stands : StandsAt tells course edges phases graph state now) where
  abbrev here : Course
  here = grown_course course edges phases

  module _ (stays : LogStays) (new : World) (looks : OnlyLooks tells now new) (flags : List Bool) (has : HasDue tells graph state.records state.cone state.plan now new state.looks flags) where
    -- what is not due, and was not judged, is clean
    pub knows_clean : (e : ℕ) → due_at flags e ≡ false → standing_at state.plan.standings.items e ≡ Unjudged → IsClean tells here graph e new
    knows_clean e flag unjudged tell files steps running =
        let quiet = quietly tells course edges phases graph state now stands stays new looks tell files in
        answer_less graph course.store.records course.store.deps [] e None (is_quiet files.free course.own edges steps) (is_quiet files.free course.own edges stands.on.steps) new.history
        (quiet_less files.free course.own edges stands.on.steps steps more)
        (has.clean e listed flag (judged_command here graph stands.suits e command, unjudged) new (looks_none tells new) course.store.records course.store.deps
        (known tells course edges phases graph state now stands).known
        (subst (λ (es : List Edge). KeepsDepfile tells es now new (suc e)) (same_edges tells course edges phases graph state now stands) (keeps_unstarted tells course edges phases graph state now stands stays new looks tell files (suc e) command unstarted))
        tell (is_quiet files.free course.own edges stands.on.steps) quiet.1 (stands.on.seen tell (files_then course.own edges course.entry now new quiet.0 files)))
      where
        inside : is_outside (standing_at state.plan.standings.items e) ≡ false
        inside = ap is_outside unjudged

        cone : IsInCone edges (task_of here.asked here.store).recorded (task_of here.asked here.store).targets (suc e)
        cone = stands.on.planned.within e inside

        command : IsCommand edges (suc e)
        command = sym (stands.on.planned.kinds e inside) ∙ ap is_phony unjudged

        listed : has_number state.cone.order.items e ≡ true
        listed = listed_suc state.cone.order.items e (stands.on.cone.listed.all (suc e) cone)

        unstarted : has_number (started_in stands.on.steps) (suc e) ≡ false
        unstarted =
            unstarted_by (has_number (well_in stands.on.steps) (suc e)) (has_number (failed_in stands.on.steps) (suc e)) (has_number (started_in stands.on.steps) (suc e)) (has_number (out_of_date_in stands.on.steps) (suc e))
            (has_number (clean_in stands.on.steps) (suc e)) (sym (stands.on.planned.stands e cone command) ∙ unjudged)

        more : (job : ℕ) → has_number (running_in stands.on.steps) job ≡ true → has_number (running_in steps) job ≡ true
        more job runs_so =
            sym (running job)
            ∙ (ap (λ (events : List Event). runs job events) looks.events
            ∙ (running_now tells here.own (task_of here.asked here.store) here.entry stands.on.steps now stands.on.carried.beside.idle stands.on.carried.run job ∙ runs_so))

  -- and where such edges were judged, sources were asked for still
  pub sources_judged : (after : Work) → HasSourcesAt tells course edges phases graph state now → after.looks ≡ state.looks → KnowsClean tells here graph state now → StaysKnowing graph state after → HasSourcesAt tells course edges phases graph after now
  sources_judged after at same knows stay = record {
    stands = stands_on tells course edges phases graph state now at.stands after now (after_same tells now)
        (λ none. subst (λ (l : Looks). HasLooked tells graph now now state.looks l) (sym {A = Looks} same) (saw_none tells graph now state.looks)) (stay tells now here at.stands.suits at.stands.goes at.stands.on knows);
    asked = at.asked;
  }

-- ---- one of them is judged

module _ (tells : Bool) (course : Course) (graph : Graph) (stays : LogStays) (suits : Suits course graph) (first state : Work) (now : World) (e : ℕ) (on : IsOn tells course graph None state now) (goes : goes_on course ≡ true)
    (next : IsCleanNext state e) (same : state.due ≡ first.due) (fresh : StayUnjudged first.plan state.plan) (knows : KnowsClean tells course graph first now)
  where
    calm : well_in on.steps ≡ []
    calm = nothing_in (well_in on.steps) (next.was.calm (task_of course.asked course.store) graph on.steps on.planned on.taken)

    flag : due_at first.due.items e ≡ false
    flag = sym (ap (λ (due : Vec Bool Global). due_at due.items e) same) ∙ next.was.flag

    pub judged_clean : (plan : Plan) → TakesStep graph state.plan plan (Judged (suc e) false) → plan.changed ≡ state.plan.changed
        → IsOn tells course graph None (record { alloc = state.alloc; graph = state.graph; cone = state.cone; plan = plan; looks = state.looks; records = state.records; display = state.display; tick = state.tick; due = state.due; starts = state.starts; failed = state.failed }) now
    judged_clean plan takes flags_same =
        clean_on tells course graph stays suits state now now e on goes next.next (looks_none tells now) calm (saw_none tells graph now state.looks)
        (λ tell files. knows e flag (fresh e (offered_unjudged state.plan e next.next.offered)) tell files on.steps
        (running_now tells course.own (task_of course.asked course.store) course.entry on.steps now on.carried.beside.idle on.carried.run)) plan takes flags_same
