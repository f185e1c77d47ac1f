-- What is found of sources where a phase begins is so right behind the last start or finish of the steps so far.
use Rattle.std.proofs.Common.{◌≡◌, inl, inr, ℕ, zero, suc, ◌<◌, Bool, true, false, IsTrue, List, [], ◌∷◌, ◌++◌, length, slice_index_or, All, arith, None, bytes_eq, refl, sym, ◌∙◌, ap, subst, append_assoc}
use Rattle.std.specs.List.{AllByRecursion}
use Rattle.std.proofs.lemmas.List.{append-nil}
use Rattle.std.proofs.lemmas.Bool.{false≢true, false_from_ne_true, not-true, not_from_false}
use Rattle.model.specs.declared.event.Moment.{Moment}
use Rattle.model.specs.declared.graph.BuildGraph.{BuildGraph}
use Rattle.model.specs.declared.graph.Edge.{Edge}
use Rattle.model.specs.declared.record.Record.{Record}
use Rattle.model.specs.declared.record.DepsRecord.{DepsRecord}
use Rattle.model.specs.World.{World, file_at, IsRunning}
use Rattle.model.specs.Calls.{OnlyLooks}
use Rattle.model.specs.Graph.{has, has_number, edge_at, inputs, IsCommand}
use Rattle.model.specs.OutOfDate.{NothingIsMissing}
use Rattle.model.specs.Phases.{Phase, steps_of, IsPointAfter, AreAskedApart, NothingNeededIsFree, NoDepfileIsFree, IsNothingMissing, WasNothingMissing, WasNothingMissingIn}
use Rattle.model.specs.Premises.{FilesAreKept, OnlyFreeIsEdited, IsWithinEdge, IsNoEdit}
use Rattle.model.specs.Records.{OwnFiles, Store, recorded_inputs}
use Rattle.model.specs.SingleBuild.{asked_with}
use Rattle.model.specs.Schedule.{Task, Step as Done, judged_in, started_in}
use Rattle.theory.specs.Run.{IsRun}
use Rattle.theory.proofs.SiteCalls.{looks_then}
use Rattle.theory.proofs.Files.{IsElsewhere}
use Rattle.theory.proofs.Lists.{has-left, has-right, same_bytes}
use Rattle.theory.proofs.Looks.{kept_before, edits_before, looks_keep_file}
use Rattle.theory.proofs.Makers.{maker_is}
use Rattle.theory.proofs.Orderly.{IsKept, kept_orderly}
use Rattle.theory.proofs.Runs.{rest_begins}
use Rattle.theory.proofs.Starting.{OthersRun, since, private_elsewhere}
use Rattle.theory.specs.Ledger.{IsPhased}
use Rattle.theory.proofs.Ledger.{others_run}
use Rattle.graph.specs.declared.cone.Cone.{Cone}
use Rattle.graph.specs.declared.graph.Graph.{Graph}
use Rattle.graph.specs.Cone.{mark_at, is_listed}
use Rattle.graph.specs.Linked.{IsConeOf}
use Rattle.graph.specs.declared.cone.Mark.{Mark}
use Rattle.work.proofs.Noting.{item_has}
use Rattle.graph.specs.Told.{declared_by, recorded_by}
use Rattle.judge.specs.Seen.{AreKept, AreSeenOf}
use Rattle.records.specs.Known.{AreKnown}
use Rattle.records.specs.Laws.{LogStays}
use Rattle.judge.specs.Judged.{KeepsDepfile}
use Rattle.judge.specs.Quiet.{HasPathsFor, KeepsDepfiles, AreAlike, IfQuiet}
use Rattle.judge.specs.Stores.{IsStoreOf}
use Rattle.judge.specs.UnderWay.{IsUnderWay}
use Rattle.work.proofs.Callers.{under_way}
use Rattle.work.proofs.Points.{HasQuiet, IsSpared, paths_for, points_alike}
use Rattle.work.specs.declared.state.Work.{Work}
use Rattle.work.specs.After.{ComesAfter}
use Rattle.work.specs.Course.{Course, is_quiet}
use Rattle.work.proofs.Keeping.{looks_carried, looks_quiet}
use Rattle.work.proofs.Quiet.{Grew, files_then, all_kept, quiet_parts, quiet_from}
use Rattle.work.specs.Standing.{grown_course, task_over, is_bound, StandsAt, IsUnstarted, HasAsked, HadAsked}
use Rattle.work.proofs.LoadPoints.{asked_later, had_asked_later}
use Rattle.work.proofs.Unedited.{bound_kept}

module _ (own : OwnFiles) (task : Task) (store : Store) (old now : List Moment) where
  -- whatever steps the last phase has
  missing_in : (before : List Done) (phases : List Phase) (last : List Done) → WasNothingMissing own task store old now before phases → WasNothingMissingIn own task store old now before phases last
  missing_in before [] [] nothing = tt
  missing_in before [] (step ∷ last) nothing = nothing
  missing_in before (phase ∷ phases) last nothing = (nothing.0, missing_in (before ++ phase.steps) phases last nothing.1)

  -- where the last phase was asked for, too
  missing_also : (before : List Done) (phases : List Phase) → WasNothingMissingIn own task store old now before phases [] → IsNothingMissing own task store (before ++ steps_of phases) old now → WasNothingMissing own task store old now before phases
  missing_also before [] nothing also = subst (λ (l : List Done). IsNothingMissing own task store l old now) (append-nil before) also
  missing_also before (phase ∷ phases) nothing also = (
    nothing.0,
    missing_also (before ++ phase.steps) phases nothing.1 (subst (λ (l : List Done). IsNothingMissing own task store l old now) (sym (append_assoc before phase.steps (steps_of phases))) also),
  )

-- ---- where the history has grown

module _ (tells : Bool) (course : Course) (edges : List Edge) (phases : List Phase) (steps : List Done) (now : World) (run : IsRun tells course.own (task_over course edges) steps course.entry now)
    (phased : IsPhased tells course.behaviour course.own (asked_with course.asked edges) course.store phases steps course.entry now)
  where
    abbrev task : Task
    task = task_over course edges

    pub whole : steps ≡ steps_of phases ++ (phased.build.last ++ phased.build.taken_in)
    whole = subst (λ (earlier : List Phase). steps ≡ steps_of earlier ++ (phased.build.last ++ phased.build.taken_in)) phased.so phased.build.whole

    -- where no step of the last phase was taken, the steps are those of the phases before
    pub fresh_steps : phased.build.last ≡ [] → phased.build.taken_in ≡ [] → steps ≡ steps_of phases
    fresh_steps fresh none =
        whole ∙ (ap (λ (l : List Done). steps_of phases ++ (l ++ phased.build.taken_in)) fresh ∙ (ap (λ (l : List Done). steps_of phases ++ l) none ∙ append-nil (steps_of phases)))

    module _ (new : World) (after : ComesAfter tells now new) where
      abbrev files_before : (tell : IsTrue tells) → FilesAreKept course.own edges course.entry.history new.history → FilesAreKept course.own edges course.entry.history now.history
      files_before tell files = kept_before course.own edges course.entry.history now.history new.history (after.history tell).0 (after.history tell).1 files

      pub asked_on : HasAsked tells course edges phases now → HasAsked tells course edges phases new
      asked_on asked tell files needed =
          asked_later tells course.own task steps course.entry now run tell (after.history tell).0 new.history (after.history tell).1 phases (phased.build.last ++ phased.build.taken_in) whole task course.store
          (asked tell (files_before tell files) needed)

      pub had_asked_on : (last : List Done) → HadAsked tells course edges phases last now → HadAsked tells course edges phases last new
      had_asked_on last asked tell files needed =
          had_asked_later tells course.own task steps course.entry now run tell (after.history tell).0 new.history (after.history tell).1 phases (phased.build.last ++ phased.build.taken_in) whole task course.store last
          (asked tell (files_before tell files) needed)

    -- whatever steps the last phase has
    pub asked_in : (last : List Done) (at : World) → HasAsked tells course edges phases at → HadAsked tells course edges phases last at
    asked_in last at asked tell files needed = missing_in course.own task course.store course.entry.history at.history [] phases last (asked tell files needed)

    -- where a phase begins, and nothing is missing
    pub asked_also : (at : World) → phased.build.last ≡ [] → phased.build.taken_in ≡ [] → HadAsked tells course edges phases [] at
        → (IsTrue tells → (files : FilesAreKept course.own edges course.entry.history at.history) → NothingNeededIsFree files.free task → IsNothingMissing course.own task course.store steps course.entry.history at.history) → HasAsked tells course edges phases at
    asked_also at fresh none had nothing tell files needed =
        missing_also course.own task course.store course.entry.history at.history [] phases (had tell files needed)
        (subst (λ (l : List Done). IsNothingMissing course.own task course.store l course.entry.history at.history) (fresh_steps fresh none) (nothing tell files needed))

-- ---- what is found where the build stands

module _ (tells : Bool) (course : Course) (edges : List Edge) (phases : List Phase) (graph : Graph) (state : Work) (now : World) (stands : StandsAt tells course edges phases graph state now) where
  abbrev here : Course
  here = grown_course course edges phases

  abbrev steps : List Done
  steps = stands.on.steps

  pub same_edges : edges ≡ (declared_by graph).edges
  same_edges = ap (λ (b : BuildGraph). b.edges) stands.suits.same

  pub known : IsStoreOf graph state.records course.store
  known = record {
    known = subst (λ (rs : List Record). AreKnown graph rs course.store.deps state.records) (sym stands.on.told.same.0) (subst (λ (ds : List DepsRecord). AreKnown graph stands.on.told.records ds state.records) (sym stands.on.told.same.1) stands.on.told.known);
    in_use = λ i. subst (λ (es : List Edge). (p : List ℕ) → has (recorded_inputs course.store es i) p ≡ has (recorded_by graph i) p) same_edges (λ p. stands.suits.recorded i p);
  }

  -- they are the steps of a build under way
  pub under : IsUnderWay graph state.records state.cone state.plan course.store (task_over course edges).targets steps
  under =
      under_way graph state.records state.cone state.plan course.store known (task_over course edges).targets (task_over course edges) same_edges (ap (λ (es : List Edge). recorded_inputs course.store es) same_edges) refl steps stands.on.planned stands.on.taken
      (subst (λ (es : List Edge). IsConeOf es (recorded_inputs course.store es) (task_over course edges).targets state.cone.order.items state.cone.marks.items) same_edges stands.on.cone.listed) stands.on.cone.numbers

  -- ---- where nothing was started, whatever the program's own files are named like

  module _ (new : World) (looks : OnlyLooks tells now new) (tell : IsTrue tells) (none : started_in steps ≡ []) (free : List ℕ → Bool) (edits : OnlyFreeIsEdited free course.entry.history new.history) where
    untouched : IsUnstarted tells course graph state now
    untouched = stands.unstarted none

    -- paths that are not free keep their files from the entry on
    bound_still : AreKept (is_bound free) now.history new.history
    bound_still = bound_kept tells course.own course.entry now new stands.suits.idle untouched.looks looks tell free edits

    bound_seen : AreSeenOf (is_bound free) graph.manifest.paths now.history state.looks.seen.items
    bound_seen = let call = looks.history tell in untouched.seen tell free (edits_before free course.entry.history now.history new.history call.more call.grows edits)

    bound_same : (p : List ℕ) → free p ≡ false → file_at course.entry.history p ≡ file_at new.history p
    bound_same p bound = sym (looks_keep_file tells course.own edges course.entry new stands.suits.idle (looks_then tells course.entry now new untouched.looks looks) tell free edits p bound)

    bound_paths : NothingNeededIsFree free (task_over course edges) → HasPathsFor edges course.store (task_over course edges).targets steps (is_bound free)
    bound_paths needed = record {
      made = λ i p fresh h. not_from_false (free p) (needed.2 i p h);
      named = λ i p h unmade. not_from_false (free p) (needed.0 i p (has-left (inputs (edge_at edges i)) (recorded_inputs course.store edges i) p h));
      recorded = λ i p h unmade. not_from_false (free p) (needed.0 i p (has-right (inputs (edge_at edges i)) (recorded_inputs course.store edges i) p h));
      requested = λ p h source. not_from_false (free p) (needed.1 p h);
    }

    bound_depfiles : NoDepfileIsFree free edges → KeepsDepfiles tells edges steps now new
    bound_depfiles apart i command fresh told named p is earlier later splits =
        subst (λ (q : List ℕ). file_at (now.history ++ earlier) q ≡ file_at now.history q) (same_bytes (edge_at edges i).act.depfile p is)
        (bound_still (edge_at edges i).act.depfile (not_from_false (free (edge_at edges i).act.depfile) (apart i command named)) earlier later splits)

    bound_alike : NoDepfileIsFree free edges → AreAlike edges steps (is_bound free) new.history course.entry.history
    bound_alike apart = record {
      paths = λ p is. bound_same p (not-true (free p) is);
      depfiles = λ i command fresh named. bound_same (edge_at edges i).act.depfile (apart i command named);
    }

    -- what was found is so of the entry
    pub found_at_entry : (So : List Moment → Type 0) → IfQuiet tells graph course.store (task_over course edges).targets steps now new state.looks So
        → NothingNeededIsFree free (task_over course edges) → NoDepfileIsFree free edges → So course.entry.history
    found_at_entry So found needed apart =
        found (subst (λ (es : List Edge). KeepsDepfiles tells es steps now new) same_edges (bound_depfiles apart)) tell (is_bound free) bound_still bound_seen
        (subst (λ (es : List Edge). HasPathsFor es course.store (task_over course edges).targets steps (is_bound free)) same_edges (bound_paths needed)) course.entry.history
        (subst (λ (es : List Edge). AreAlike es steps (is_bound free) new.history course.entry.history) same_edges (bound_alike apart))

  module _ (stays : LogStays) (new : World) (looks : OnlyLooks tells now new) (tell : IsTrue tells) (files : FilesAreKept course.own edges course.entry.history new.history) where
    kept : IsKept edges steps
    kept = kept_orderly edges steps stands.on.carried.run.orderly

    -- quiet paths kept their files
    pub quietly : Grew now new × AreKept (is_quiet files.free course.own edges steps) now.history new.history
    quietly = looks_quiet tells here graph stays None state now new stands.on looks tell files

    pub run_new : IsRun tells course.own (task_over course edges) steps course.entry new
    run_new = (looks_carried tells here graph stays None state now new stands.on looks).run

    -- ---- the depfiles of commands that were not judged

    pub keeps_unstarted : (i : ℕ) → IsCommand edges i → has_number (started_in steps) i ≡ false → KeepsDepfile tells edges now new i
    keeps_unstarted i command unstarted told named =
        let call = looks.history told in
        let so_far = stands.on.carried.run.history told in
        all_kept (bytes_eq (edge_at edges i).act.depfile) now.history call.more new.history call.grows (λ p is.
        subst (λ (q : List ℕ). AllByRecursion (IsElsewhere q) call.more) (same_bytes (edge_at edges i).act.depfile p is)
        (private_elsewhere course.own edges files.own_files files.free files.free_apart i command (edge_at edges i).act.depfile (record { named = named; is = inl refl }) (IsRunning now.events) others call.more call.all
        (since (IsWithinEdge files.free edges) course.entry.history so_far.more now.history call.more new.history so_far.grows call.grows files.commands)
        (since (IsNoEdit files.free) course.entry.history so_far.more now.history call.more new.history so_far.grows call.grows files.edits)))
      where
        others : OthersRun edges i (IsRunning now.events)
        others = others_run tells here.behaviour here.format here.own here.asked here.store here.entry steps now stands.on.carried.beside.idle
            (rest_begins tells here.own (task_over course edges) here.entry steps now stands.on.carried.run) i unstarted

    keeps_depfile : (i : ℕ) → IsCommand edges i → has_number (judged_in steps) i ≡ false → KeepsDepfile tells edges now new i
    keeps_depfile i command fresh = keeps_unstarted i command (false_from_ne_true (has_number (started_in steps) i) (λ started. false≢true (sym fresh ∙ kept.out_of_date i (kept.started i started))))

    -- ---- quiet paths are those that may be looked at

    all_quiet : HasQuiet files.free course.own edges steps (is_quiet files.free course.own edges steps)
    all_quiet p bound outside unmade = quiet_from files.free course.own edges steps p (record {
      bound = bound;
      foreign = false_from_ne_true (course.own.files p) (λ mine. false≢true (sym outside ∙ files.own_files.within p mine));
      private = λ i command named. elim named [
        | inl is ↦ false≢true (sym outside ∙ (ap course.own.set is ∙ (files.own_files.depfiles i command).0))
        | inr is ↦ false≢true (sym outside ∙ (ap course.own.set is ∙ (files.own_files.responses i command).0))
      ];
      rests = λ i runs made. unmade i (maker_is edges p i stands.suits.once made) runs;
    })

    spared : (p : List ℕ) → is_quiet files.free course.own edges steps p ≡ true → IsSpared files.free course.own edges steps p
    spared p quiet =
        let parts = quiet_parts files.free course.own edges steps p quiet in
        record { bound = parts.bound; foreign = parts.foreign; private = λ j out is. parts.private j (kept.judged j (kept.out_of_date j out)) is; rests = parts.rests }

    -- ---- what was found is so of each point

    module _ (So : List Moment → Type 0) (found : IfQuiet tells graph course.store (task_over course edges).targets steps now new state.looks So) where
      found_over : KeepsDepfiles tells edges steps now new → (set : List ℕ → Bool) → AreKept set now.history new.history → AreSeenOf set graph.manifest.paths now.history state.looks.seen.items
          → HasPathsFor edges course.store (task_over course edges).targets steps set → (at : List Moment) → AreAlike edges steps set new.history at → So at
      found_over keeps set kept_so seen paths at alike =
          found (subst (λ (es : List Edge). KeepsDepfiles tells es steps now new) same_edges keeps) tell set kept_so seen (subst (λ (es : List Edge). HasPathsFor es course.store (task_over course edges).targets steps set) same_edges paths) at
          (subst (λ (es : List Edge). AreAlike es steps set new.history at) same_edges alike)

      pub found_at : NothingNeededIsFree files.free (task_over course edges) → AreAskedApart course.own (task_over course edges) steps → (at : List Moment) → IsPointAfter steps course.entry.history new.history at → So at
      found_at needed (inl none) at point = subst So (sym (point.entry none)) (found_at_entry new looks tell none files.free files.edits So found needed
          (λ i command named. files.free_apart.set (edge_at edges i).act.depfile (files.own_files.depfiles i command).0))
      found_at needed (inr apart) at point =
          found_over keeps_depfile (is_quiet files.free course.own edges steps) quietly.1 (stands.on.seen tell (files_then course.own edges course.entry now new quietly.0 files))
          (paths_for course.own edges course.store (task_over course edges).targets steps kept files.own_files apart.0 stands.suits.once (λ p h source. apart.1 p h) files.free needed.2 needed.0 needed.1
          (is_quiet files.free course.own edges steps) all_quiet) at
          (points_alike tells course.own (task_over course edges) steps course.entry new stands.suits.idle run_new tell files (is_quiet files.free course.own edges steps) spared at point)

    -- nothing is missing at each point of these steps, where that was found
    pub nothing_missing_now : IfQuiet tells graph course.store (task_over course edges).targets steps now new state.looks (λ at. NothingIsMissing (declared_by graph).edges course.store steps at (task_over course edges).targets)
        → NothingNeededIsFree files.free (task_over course edges) → IsNothingMissing course.own (task_over course edges) course.store steps course.entry.history new.history
    nothing_missing_now found needed loaded apart at point =
        subst (λ (es : List Edge). NothingIsMissing es course.store steps at (task_over course edges).targets) (sym same_edges)
        (found_at (λ at. NothingIsMissing (declared_by graph).edges course.store steps at (task_over course edges).targets) found needed apart at point)

-- ---- the edges of a cone

listed_below : (marks : List Mark) (e : ℕ) → is_listed (mark_at marks e) ≡ true → e < length marks
listed_below [] e listed = absurd (false≢true listed)
listed_below (mark ∷ marks) zero listed = omega arith
listed_below (mark ∷ marks) (suc e) listed = let less = listed_below marks e listed in omega (arith, less)

-- they are edges of the graph
pub order_within : (graph : Graph) → length (declared_by graph).edges ≡ length graph.manifest.lines → (cone : Cone) (edges : List Edge) (recorded : ℕ → List (List ℕ)) (targets : List (List ℕ)) → edges ≡ (declared_by graph).edges → IsConeOf edges recorded targets cone.order.items cone.marks.items
    → All (λ e. e < length graph.manifest.lines) cone.order.items
order_within graph size cone edges recorded targets same listed k d lt =
    let e = slice_index_or cone.order.items k d in
    let less = listed_below cone.marks.items e (listed.marked e ∙ item_has cone.order.items k d lt) in
    let many = ap (λ (es : List Edge). length es) same in
    let fits = listed.fits in
    omega (arith, less, many, fits, size)
