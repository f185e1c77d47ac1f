-- What a run has come to: each command that ended well left its outputs, and each file is accounted for.
use Rattle.std.proofs.Common.{◌≡◌, ◌⊎◌, inl, inr, ℕ, zero, suc, ◌+◌, ◌<◌, length, ◌==◌, Bool, true, false, IsTrue, List, [], ◌∷◌, ◌++◌, refl, sym, ◌∙◌, ap, subst, append_assoc, length-append}
use Rattle.std.specs.List.{AllByRecursion}
use Rattle.std.proofs.lemmas.List.{append-nil}
use native.Mathlib.Omega.{arith}
use Rattle.std.proofs.lemmas.Bool.{false≢true, false_from_ne_true, eq-eqb, eqb-true, cond-true, or_left, or_from}
use Rattle.model.specs.declared.act.Act.{Act}
use Rattle.model.specs.declared.graph.Edge.{Edge}
use Rattle.model.specs.declared.event.Event.{Event}
use Rattle.model.specs.declared.event.Event.TheVariants.{Start, Finish}
use Rattle.model.specs.declared.event.Moment.{Moment}
use Rattle.model.specs.declared.event.Moment.TheVariants.{Wrote, Happened}
use Rattle.model.specs.declared.event.Writer.TheVariants.{Program, Command, Someone}
use Rattle.model.specs.World.{World, file_at, content_of, view_of, runs, IsIdle, events_in}
use Rattle.model.specs.Outcome.{Behaviour, given, listed, depfile_in}
use Rattle.model.specs.Clean.{clean_build}
use Rattle.model.specs.Graph.{has, has_number, edge_at, outputs, IsMadeOnce, IsCommand}
use Rattle.model.specs.Records.{OwnFiles}
use Rattle.model.specs.Schedule.{Task, Step, Judged, Started, Ended, judged_in, clean_in, started_in, ended_in, out_of_date_in, well_in, done_in, IsSettled, AreEventsOf}
use Rattle.model.specs.Premises.{FilesAreKept, OutputsAreKept, KeepToOutputs, OnlyFreeIsEdited, OwnFilesApart, LiesIn, Premises, EndedAt, Matters, IsWithinEdge, IsNoEdit}
use Rattle.model.specs.SingleBuild.{IsOwnWrite, IsOfBuild, MayChange, IsMadeBy, IsFrame}
use Rattle.model.specs.Phases.{happened_in, EndsInEvent, IsPointAfter}
use Rattle.theory.specs.Order.{settled_in, LeftAsNow, LeaveAsNow, IsExplained, IsOrderlyFrom, IsOrderly, AreReadFirst}
use Rattle.theory.specs.Run.{starts_in, AreOfRun, IsToldBy, IsRunOrRest, AreStartsReady, EndOf}
use Rattle.theory.proofs.Lists.{same_rest, all_has, all_from_has, all_parts, has_number-cases, has_number-left, has_number-right, has_number-one}
use Rattle.theory.proofs.Steps.{running_parts, started-append, in_right, settled_done, done_settled}
use Rattle.theory.proofs.Orderly.{IsKept, kept_orderly, orderly_parts, started_once, started_before, reading_order}
use Rattle.theory.proofs.Events.{starts-append, starts_of_steps, starts_of_all, as_many, IsCutBehind, cut_behind, IsCutAt, cut_at_end, well_step, runs_push, no_starts}
use Rattle.theory.proofs.Moments.{until_first, of_build, of_run_parts, quiet, IsMomentOf, moment_of, events_in-append}
use Rattle.theory.proofs.Makers.{maker_is, one_maker}
use Rattle.theory.proofs.Settled.{settled_command}
use Rattle.theory.proofs.Only.{only, only_has, has_only, only_order}
use Rattle.theory.proofs.Rounds.{clean_by_order}
use Rattle.theory.proofs.Files.{IsElsewhere, file_stays, outputs_apart, all_elsewhere, stays_or_may_change}

-- ---- a start comes once

pub distinct_from : (edges : List Edge) (before steps : List Step) → IsOrderlyFrom edges before steps → (xs ys : List ℕ) (i : ℕ) → started_in steps ≡ xs ++ i ∷ ys → has_number xs i ≡ false
distinct_from edges before [] lawful [] ys i is = refl
distinct_from edges before [] lawful (x ∷ xs) ys i is = cc
distinct_from edges before (Judged j b ∷ steps) lawful xs ys i is = distinct_from edges (before ++ Judged j b ∷ []) steps lawful.1 xs ys i is
distinct_from edges before (Ended j w ∷ steps) lawful xs ys i is = distinct_from edges (before ++ Ended j w ∷ []) steps lawful.1 xs ys i is
distinct_from edges before (Started j ∷ steps) lawful [] ys i is = refl
distinct_from edges before (Started j ∷ steps) lawful (x ∷ xs) ys i is =
    let head : j ≡ x = cc in
    let tail : started_in steps ≡ xs ++ i ∷ ys = cc in
    let rest = distinct_from edges (before ++ Started j ∷ []) steps lawful.1 xs ys i tail in
    or_from (x == i) (has_number xs i) (false_from_ne_true (x == i) (λ same. twice (head ∙ eqb-true x i same) tail)) rest
  where
    twice : j ≡ i → started_in steps ≡ xs ++ i ∷ ys → ⊥
    twice same tail =
        let none = started_before edges (before ++ Started j ∷ []) steps j lawful.1 (in_right started_in started-append before (Started j ∷ []) j (has_number-one j)) in
        false≢true (sym none ∙ (ap (λ (n : ℕ). has_number (started_in steps) n) same ∙ (ap (λ (l : List ℕ). has_number l i) tail ∙ has_number-right xs (i ∷ ys) i (or_left (i == i) (has_number ys i) (eq-eqb i i refl)))))

-- ---- up to an event

abbrev pub take_events : ℕ → List Moment → List Moment
take_events zero ms = []
take_events (suc n) [] = []
take_events (suc n) (Wrote by path content stamp ∷ ms) = Wrote by path content stamp ∷ take_events (suc n) ms
take_events (suc n) (Happened event ∷ ms) = Happened event ∷ take_events n ms

abbrev pub drop_events : ℕ → List Moment → List Moment
drop_events zero ms = ms
drop_events (suc n) [] = []
drop_events (suc n) (Wrote by path content stamp ∷ ms) = drop_events (suc n) ms
drop_events (suc n) (Happened event ∷ ms) = drop_events n ms

pub taken_dropped : (n : ℕ) (ms : List Moment) → take_events n ms ++ drop_events n ms ≡ ms
taken_dropped zero ms = refl
taken_dropped (suc n) [] = refl
taken_dropped (suc n) (Wrote by path content stamp ∷ ms) = ap (λ (l : List Moment). Wrote by path content stamp ∷ l) (taken_dropped (suc n) ms)
taken_dropped (suc n) (Happened event ∷ ms) = ap (λ (l : List Moment). Happened event ∷ l) (taken_dropped n ms)

pub taken_events : (es fs : List Event) (ms : List Moment) → events_in ms ≡ es ++ fs → events_in (take_events (length es) ms) ≡ es
taken_events [] fs ms is = refl
taken_events (e ∷ es) fs [] is = cc
taken_events (e ∷ es) fs (Wrote by path content stamp ∷ ms) is = taken_events (e ∷ es) fs ms is
taken_events (e ∷ es) fs (Happened event ∷ ms) is =
    let head : event ≡ e = cc in
    let tail : events_in ms ≡ es ++ fs = cc in
    ap (λ (x : Event). x ∷ events_in (take_events (length es) ms)) head ∙ ap (λ (l : List Event). e ∷ l) (taken_events es fs ms tail)

-- nothing is taken behind the last of these events
pub taken_behind : (es fs : List Event) (ms : List Moment) → events_in ms ≡ es ++ fs → EndsInEvent (take_events (length es) ms)
taken_behind [] fs ms is = tt
taken_behind (e ∷ es) fs [] is = cc
taken_behind (e ∷ es) fs (Wrote by path content stamp ∷ ms) is = (some_taken ms is, taken_behind (e ∷ es) fs ms is)
  where
    some_taken : (ms : List Moment) → events_in ms ≡ e ∷ (es ++ fs) → take_events (suc (length es)) ms ≡ [] → ⊥
    some_taken [] is none = cc
    some_taken (Wrote by path content stamp ∷ ms) is none = cc
    some_taken (Happened event ∷ ms) is none = cc
taken_behind (e ∷ es) fs (Happened event ∷ ms) is = let tail : events_in ms ≡ es ++ fs = cc in taken_behind es fs ms tail

happened_are : (ms : List Moment) → happened_in ms ≡ length (events_in ms)
happened_are [] = refl
happened_are (Wrote by path content stamp ∷ ms) = happened_are ms
happened_are (Happened event ∷ ms) = ap (λ (n : ℕ). suc n) (happened_are ms)

-- up to the last event of the first steps, the run is one of the first steps
pub cut_run : (own : OwnFiles) (edges : List Edge) (xs ys : List Step) (before es : List Event) → AreEventsOf edges xs es → (so_far : List Event) (n : ℕ) (ms : List Moment) → length so_far + n ≡ length es
    → AreOfRun own edges (xs ++ ys) before so_far ms → AreOfRun own edges xs before so_far (take_events n ms)
cut_run own edges xs ys before es of_steps so_far zero ms count a = tt
cut_run own edges xs ys before es of_steps so_far (suc n) [] count a = tt
cut_run own edges xs ys before es of_steps so_far (suc n) (Wrote Program path content stamp ∷ ms) count a = (
  subst (λ (l : List Step). IsOwnWrite own edges l path content) (until_first edges xs ys es (length so_far) of_steps (below (length so_far) n (length es) count)) a.0,
  cut_run own edges xs ys before es of_steps so_far (suc n) ms count a.1,
)
  where
    below : (k n m : ℕ) → k + suc n ≡ m → k < m
    below k n m is = omega arith
cut_run own edges xs ys before es of_steps so_far (suc n) (Wrote (Command job) path content stamp ∷ ms) count a = (a.0, cut_run own edges xs ys before es of_steps so_far (suc n) ms count a.1)
cut_run own edges xs ys before es of_steps so_far (suc n) (Wrote Someone path content stamp ∷ ms) count a = cut_run own edges xs ys before es of_steps so_far (suc n) ms count a
cut_run own edges xs ys before es of_steps so_far (suc n) (Happened event ∷ ms) count a =
    cut_run own edges xs ys before es of_steps (so_far ++ event ∷ []) n ms
    (ap (λ (k : ℕ). k + n) (length-append so_far (event ∷ [])) ∙ (one_more (length so_far) n ∙ count)) a
  where
    one_more : (k n : ℕ) → (k + 1) + n ≡ k + suc n
    one_more k n = omega arith

-- while an edge is not judged, nothing that it makes may change
module _ (own : OwnFiles) (edges : List Edge) (before : List Step) (kept : IsKept edges before) (apart : OwnFilesApart own edges) (once : IsMadeOnce edges) (i : ℕ) (command : IsCommand edges i)
    (fresh : has_number (judged_in before) i ≡ false) where
  out_command : (j : ℕ) → has_number (out_of_date_in before) j ≡ true → IsCommand edges j
  out_command j out = kept.judged j (kept.out_of_date j out)

  not_this : (j : ℕ) → has_number (out_of_date_in before) j ≡ true → j ≡ i → ⊥
  not_this j out same = false≢true (sym fresh ∙ (ap (λ (n : ℕ). has_number (judged_in before) n) (sym same) ∙ kept.out_of_date j out))

  in_set : (p : List ℕ) → own.set p ≡ false → own.set p ≡ true → ⊥
  in_set p apart_from within = false≢true (sym apart_from ∙ within)

  lies : (p q : List ℕ) → LiesIn own q → p ≡ q → own.set p ≡ true
  lies p q within same = ap own.set same ∙ within.0

  pub may_not : (p : List ℕ) → IsMadeBy (edge_at edges i) p → MayChange own edges before p → ⊥
  may_not p (inl output) (inl mine) = in_set p (apart.outputs i p output) (apart.within p mine)
  may_not p (inl output) (inr (inl (j, started, made))) = not_this j (kept.started j started) (one_maker edges p j i once made output)
  may_not p (inl output) (inr (inr (inl (j, out, is)))) = in_set p (apart.outputs i p output) (lies p (edge_at edges j).act.depfile (apart.depfiles j (out_command j out)) is)
  may_not p (inl output) (inr (inr (inr (j, out, is)))) = in_set p (apart.outputs i p output) (lies p (edge_at edges j).act.response_path (apart.responses j (out_command j out)) is)
  may_not p (inr (named, is)) (inl mine) = false≢true (sym (apart.depfiles i command).1 ∙ (ap own.files (sym is) ∙ mine))
  may_not p (inr (named, is)) (inr (inl (j, started, made))) = in_set p (apart.outputs j p made) (lies p (edge_at edges i).act.depfile (apart.depfiles i command) is)
  may_not p (inr (named, is)) (inr (inr (inl (j, out, same)))) =
      (apart.apart i j command (out_command j out) (λ e. not_this j out (sym e))).0 (λ none. named (is ∙ none)) (sym is ∙ same)
  may_not p (inr (named, is)) (inr (inr (inr (j, out, same)))) =
      (apart.apart i j command (out_command j out) (λ e. not_this j out (sym e))).2 (λ none. named (is ∙ none)) (sym is ∙ same)

module _ (tells : Bool) (own : OwnFiles) (task : Task) (steps : List Step) (old now : World) (idle : IsIdle old.events) (rest : IsRunOrRest tells own task steps old now) (tell : IsTrue tells) where
  pub kept : IsKept task.graph.edges steps
  kept = kept_orderly task.graph.edges steps rest.orderly

  pub told : IsToldBy own task.graph.edges steps old.events (rest.first ++ rest.later) old.history now.history
  told = rest.history tell

  starts_are : starts_in (events_in told.more) ≡ started_in steps
  starts_are =
      ap starts_in told.happened
      ∙ (starts_of_all task.graph.edges steps rest.first (old.events ++ rest.first) rest.later rest.of_steps rest.finishes)

  -- what was written was written by the program where it may, by a started command, or by others
  pub all_of_build : AllByRecursion (IsOfBuild own task.graph.edges steps) told.more
  all_of_build = of_build own task.graph.edges steps old.events [] told.more idle told.all
      (λ j h. subst (λ (l : List ℕ). has_number l j ≡ true) starts_are h)

  -- ---- what a command left

  -- a command that ended well has written nothing since then
  pub end_of : (i : ℕ) → has_number (well_in steps) i ≡ true → EndOf own task.graph.edges steps i old.history now.history
  end_of i well = by_step (well_step steps i well).before (well_step steps i well).after (well_step steps i well).splits
    where
      by_step : (xs ys : List Step) → steps ≡ xs ++ Ended i true ∷ ys → EndOf own task.graph.edges steps i old.history now.history
      by_step xs ys splits = record {
        before = moment.earlier;
        after = moment.later;
        grows = told.grows ∙ ap (λ (l : List Moment). old.history ++ l) moment.splits;
        others = quiet own task.graph.edges steps i old.events (events_in moment.earlier ++ Finish i true ∷ []) moment.later ended none
            (of_run_parts own task.graph.edges steps old.events [] moment.earlier (Happened (Finish i true) ∷ moment.later) (subst (λ (l : List Moment). AreOfRun own task.graph.edges steps old.events [] l) moment.splits told.all)).1
            (all_parts (IsOfBuild own task.graph.edges steps) moment.earlier (Happened (Finish i true) ∷ moment.later) (subst (λ (l : List Moment). AllByRecursion (IsOfBuild own task.graph.edges steps) l) moment.splits all_of_build)).1.1;
      }
        where
          lawful : IsOrderly task.graph.edges (xs ++ Ended i true ∷ ys)
          lawful = subst (λ (l : List Step). IsOrderly task.graph.edges l) splits rest.orderly

          cut : IsCutAt task.graph.edges xs i ys rest.first
          cut = cut_at_end task.graph.edges xs i ys rest.first (subst (λ (l : List Step). AreEventsOf task.graph.edges l rest.first) splits rest.of_steps)

          moment : IsMomentOf cut.before (Finish i true) (cut.after ++ rest.later) told.more
          moment = moment_of cut.before (Finish i true) (cut.after ++ rest.later) told.more
              (told.happened ∙ (ap (λ (l : List Event). l ++ rest.later) cut.splits ∙ append_assoc cut.before (Finish i true ∷ cut.after) rest.later))

          ended : runs i (old.events ++ (events_in moment.earlier ++ Finish i true ∷ [])) ≡ false
          ended =
              ap (λ (l : List Event). runs i l) (sym (append_assoc old.events (events_in moment.earlier) (Finish i true ∷ [])))
              ∙ (runs_push i (old.events ++ events_in moment.earlier) (Finish i true) ∙ cond-true (i == i) false (runs i (old.events ++ events_in moment.earlier)) (eq-eqb i i refl))

          was_started : has_number (started_in xs) i ≡ true
          was_started = (running_parts xs i (orderly_parts task.graph.edges [] xs (Ended i true ∷ ys) lawful).1.0).0

          none : has_number (starts_in (events_in moment.later)) i ≡ false
          none =
              ap (λ (l : List Event). has_number (starts_in l) i) moment.events_after
              ∙ (ap (λ (l : List ℕ). has_number l i) (starts-append cut.after rest.later)
              ∙ (ap (λ (l : List ℕ). has_number (starts_in cut.after ++ l) i) (no_starts (old.events ++ rest.first) rest.later rest.finishes)
              ∙ (ap (λ (l : List ℕ). has_number l i) (append-nil (starts_in cut.after))
              ∙ (ap (λ (l : List ℕ). has_number l i) (starts_of_steps task.graph.edges ys cut.after cut.second)
              ∙ started_once task.graph.edges xs (Ended i true ∷ ys) i lawful was_started))))

  commands : (i : ℕ) → has_number (out_of_date_in steps) i ≡ true → IsCommand task.graph.edges i
  commands i h = kept.judged i (kept.out_of_date i h)

  -- since a command ended well its outputs were not written
  pub output_unwritten : (once : IsMadeOnce task.graph.edges) → FilesAreKept own task.graph.edges old.history now.history → (i : ℕ) → IsCommand task.graph.edges i → (o : List ℕ) → has (outputs (edge_at task.graph.edges i)) o ≡ true
      → (end : EndOf own task.graph.edges steps i old.history now.history) → AllByRecursion (IsElsewhere o) end.after
  output_unwritten once files i command o is_output end =
      all_elsewhere own task.graph.edges steps files.free (outputs_apart own task.graph.edges files.free files.own_files files.free_apart) commands kept.started once i command o is_output end.after end.others
      (all_parts (IsWithinEdge files.free task.graph.edges) end.before (Happened (Finish i true) ∷ end.after) (files.commands (end.before ++ Happened (Finish i true) ∷ end.after) end.grows)).1.1
      (all_parts (IsNoEdit files.free) end.before (Happened (Finish i true) ∷ end.after) (files.edits (end.before ++ Happened (Finish i true) ∷ end.after) end.grows)).1.1

  -- what an edge's outputs were when its command ended well, they still are
  pub output_stays : (once : IsMadeOnce task.graph.edges) → FilesAreKept own task.graph.edges old.history now.history → (i : ℕ) → IsCommand task.graph.edges i → (o : List ℕ) → has (outputs (edge_at task.graph.edges i)) o ≡ true
      → (end : EndOf own task.graph.edges steps i old.history now.history) → file_at now.history o ≡ file_at (old.history ++ end.before) o
  output_stays once files i command o is_output end =
      ap (λ (h : List Moment). file_at h o) (end.grows ∙ sym (append_assoc old.history end.before (Happened (Finish i true) ∷ end.after)))
      ∙ file_stays o (old.history ++ end.before) (Happened (Finish i true) ∷ end.after) (tt, output_unwritten once files i command o is_output end)

  -- ---- contents

  -- each output of a command that ended well is explained
  pub explained : (B : Behaviour) (declared : List Edge) → IsMadeOnce task.graph.edges → (premises : Premises B own declared task.graph.edges task.recorded steps old.history now.history) → LeaveAsNow B premises.files.quiet task.graph.edges steps old.history now.history
      → (i : ℕ) (o : List ℕ) → premises.files.quiet i ≡ true → has_number (well_in steps) i ≡ true → has (outputs (edge_at task.graph.edges i)) o ≡ true → IsExplained B task.graph.edges (Matters B task.graph.edges task.recorded steps old.history now.history) (view_of now.history) i o
  explained B declared once premises lefts i o is_quiet well is_output = by_left left
    where
      end : EndOf own task.graph.edges steps i old.history now.history
      end = end_of i well

      ended_at : EndedAt i old.history now.history (old.history ++ end.before)
      ended_at = record { before = end.before; after = end.after; is = refl; splits = end.grows }

      left : LeftAsNow B task.graph.edges (view_of now.history) (view_of (old.history ++ end.before)) i
      left = lefts i (old.history ++ end.before) is_quiet ended_at well

      by_left : LeftAsNow B task.graph.edges (view_of now.history) (view_of (old.history ++ end.before)) i → IsExplained B task.graph.edges (Matters B task.graph.edges task.recorded steps old.history now.history) (view_of now.history) i o
      by_left left = record {
        seen = left.seen;
        well = left.well;
        reading = left.reading;
        reports = left.reports;
        told = subst (λ (ps : List (List ℕ)). AllByRecursion (Matters B task.graph.edges task.recorded steps old.history now.history i) ps) (ap listed left.depfile)
            (all_from_has (Matters B task.graph.edges task.recorded steps old.history now.history i) (listed (depfile_in B (edge_at task.graph.edges i).act (view_of (old.history ++ end.before))))
            (λ p h. inr (inr (record { at = old.history ++ end.before; ended = ended_at; well = well; told = h }))));
        gives = ap content_of (output_stays once premises.files.kept i (commands i (kept.started i (kept.ended i (kept.well i well)))) o is_output end)
            ∙ all_has (λ p. view_of (old.history ++ end.before) p ≡ given B (edge_at task.graph.edges i).act left.seen p) (outputs (edge_at task.graph.edges i)) o left.contents is_output;
      }

  -- Each output of a command edge that is settled holds what the clean build gives, where those judged clean are explained.
  pub clean_where_explained : (B : Behaviour) (declared : List Edge) → IsMadeOnce task.graph.edges
      → (premises : Premises B own declared task.graph.edges task.recorded steps old.history now.history) → LeaveAsNow B premises.files.quiet task.graph.edges steps old.history now.history
      → AreReadFirst task.graph.edges (Matters B task.graph.edges task.recorded steps old.history now.history) steps
      → ((i : ℕ) (o : List ℕ) → premises.files.quiet i ≡ true → has_number (clean_in steps) i ≡ true → has (outputs (edge_at task.graph.edges i)) o ≡ true → IsExplained B task.graph.edges (Matters B task.graph.edges task.recorded steps old.history now.history) (view_of now.history) i o)
      → (i : ℕ) (o : List ℕ) → premises.files.quiet i ≡ true → IsCommand task.graph.edges i → IsSettled task.graph.edges (done_in steps) i → has (outputs (edge_at task.graph.edges i)) o ≡ true
      → view_of now.history o ≡ clean_build B task.graph.edges (view_of now.history) o
  clean_where_explained B declared once premises lefts first cleans i o is_quiet command settled is_output =
      clean_by_order B task.graph.edges (view_of now.history) (Matters B task.graph.edges task.recorded steps old.history now.history) (λ j p read. inl read) (only premises.files.quiet (settled_in steps))
      (only_order task.graph.edges (Matters B task.graph.edges task.recorded steps old.history now.history) premises.files.quiet premises.files.alone.above [] (settled_in steps)
      (reading_order task.graph.edges (Matters B task.graph.edges task.recorded steps old.history now.history) steps rest.orderly first))
      (λ j h. (premises.one_outcome j (only_has premises.files.quiet (settled_in steps) j h).0 (judged_of j (only_has premises.files.quiet (settled_in steps) j h).1), λ p is_out. explained_of j p is_out (only_has premises.files.quiet (settled_in steps) j h).0 (only_has premises.files.quiet (settled_in steps) j h).1))
      i o (has_only premises.files.quiet (settled_in steps) i (done_settled steps i (settled_command task.graph.edges (done_in steps) i command settled)) is_quiet) (maker_is task.graph.edges o i once is_output)
    where
      judged_of : (j : ℕ) → has_number (settled_in steps) j ≡ true → has_number (judged_in steps) j ≡ true
      judged_of j h = elim (has_number-cases (clean_in steps) (well_in steps) j (settled_done steps j h)) [
        | inl clean ↦ kept.clean j clean
        | inr well ↦ kept.out_of_date j (kept.started j (kept.ended j (kept.well j well)))
      ]

      explained_of : (j : ℕ) (p : List ℕ) → has (outputs (edge_at task.graph.edges j)) p ≡ true → premises.files.quiet j ≡ true → has_number (settled_in steps) j ≡ true
          → IsExplained B task.graph.edges (Matters B task.graph.edges task.recorded steps old.history now.history) (view_of now.history) j p
      explained_of j p is_out quiet_j h = elim (has_number-cases (clean_in steps) (well_in steps) j (settled_done steps j h)) [
        | inl clean ↦ cleans j p quiet_j clean is_out
        | inr well ↦ explained B declared once premises lefts j p quiet_j well is_out
      ]

  -- ---- the frame

  -- when an edge is judged, its outputs and its depfile are as at the entry
  until_judged : IsMadeOnce task.graph.edges → FilesAreKept own task.graph.edges old.history now.history → (before after : List Step) (i : ℕ) (out_of_date : Bool) → steps ≡ before ++ Judged i out_of_date ∷ after
      → (at : List Moment) × IsPointAfter before old.history now.history at × ((p : List ℕ) → IsMadeBy (edge_at task.graph.edges i) p → file_at at p ≡ file_at old.history p)
  until_judged once files before after i out_of_date splits = (
    old.history ++ so_far,
    record { so_far = so_far; later = drop_events (length cut.before) told.more; is = refl; grows = grows; happened = happened; entry = entry; behind = behind },
    (λ p made. file_stays p old.history so_far (elsewhere p made)),
  )
    where
      lawful : IsOrderly task.graph.edges (before ++ Judged i out_of_date ∷ after)
      lawful = subst (λ (l : List Step). IsOrderly task.graph.edges l) splits rest.orderly

      earlier : IsOrderly task.graph.edges before
      earlier = (orderly_parts task.graph.edges [] before (Judged i out_of_date ∷ after) lawful).0

      turn : IsCommand task.graph.edges i × (has_number (judged_in before) i ≡ false)
      turn = (orderly_parts task.graph.edges [] before (Judged i out_of_date ∷ after) lawful).1.0

      kept_by_then : IsKept task.graph.edges before
      kept_by_then = kept_orderly task.graph.edges before earlier

      cut : IsCutBehind task.graph.edges before (Judged i out_of_date ∷ after) rest.first
      cut = cut_behind task.graph.edges before (Judged i out_of_date ∷ after) rest.first (subst (λ (l : List Step). AreEventsOf task.graph.edges l rest.first) splits rest.of_steps)

      so_far : List Moment
      so_far = take_events (length cut.before) told.more

      events_split : events_in told.more ≡ cut.before ++ (cut.after ++ rest.later)
      events_split = told.happened ∙ (ap (λ (l : List Event). l ++ rest.later) cut.splits ∙ append_assoc cut.before cut.after rest.later)

      events_are : events_in so_far ≡ cut.before
      events_are = taken_events cut.before (cut.after ++ rest.later) told.more events_split

      behind : EndsInEvent so_far
      behind = taken_behind cut.before (cut.after ++ rest.later) told.more events_split

      grows : now.history ≡ (old.history ++ so_far) ++ drop_events (length cut.before) told.more
      grows =
          told.grows ∙ (ap (λ (l : List Moment). old.history ++ l) (sym (taken_dropped (length cut.before) told.more))
          ∙ sym (append_assoc old.history so_far (drop_events (length cut.before) told.more)))

      happened : happened_in so_far ≡ length (started_in before ++ ended_in before)
      happened = happened_are so_far ∙ (ap (λ (l : List Event). length l) events_are ∙ as_many task.graph.edges before cut.before cut.first)

      none_ended : (started ended : List ℕ) → started ≡ [] → ((j : ℕ) → has_number ended j ≡ true → has_number started j ≡ true) → length (started ++ ended) ≡ 0
      none_ended started [] none all = rw none refl
      none_ended started (j ∷ ended) none all = absurd (false≢true (ap (λ (l : List ℕ). has_number l j) (sym none) ∙ all j (or_left (j == j) (has_number ended j) (eq-eqb j j refl))))

      entry : started_in before ≡ [] → old.history ++ so_far ≡ old.history
      entry none =
          nothing_taken (length cut.before) (as_many task.graph.edges before cut.before cut.first ∙ none_ended (started_in before) (ended_in before) none (λ j h. kept_by_then.ended j h)) told.more
        where
          nothing_taken : (n : ℕ) → n ≡ 0 → (ms : List Moment) → old.history ++ take_events n ms ≡ old.history
          nothing_taken n is ms = ap (λ (k : ℕ). old.history ++ take_events k ms) is ∙ append-nil old.history

      of_build_by_then : AllByRecursion (IsOfBuild own task.graph.edges before) so_far
      of_build_by_then = of_build own task.graph.edges before old.events [] so_far idle
          (cut_run own task.graph.edges before (Judged i out_of_date ∷ after) old.events cut.before cut.first [] (length cut.before) told.more (from_zero (length cut.before))
          (subst (λ (l : List Step). AreOfRun own task.graph.edges l old.events [] told.more) splits told.all))
          (λ j h. subst (λ (l : List ℕ). has_number l j ≡ true) (ap starts_in events_are ∙ starts_of_steps task.graph.edges before cut.before cut.first) h)
        where
          from_zero : (n : ℕ) → 0 + n ≡ n
          from_zero n = omega arith

      elsewhere : (p : List ℕ) → IsMadeBy (edge_at task.graph.edges i) p → AllByRecursion (IsElsewhere p) so_far
      elsewhere p made = elim (stays_or_may_change own task.graph.edges before files.free kept_by_then.started p so_far of_build_by_then
          (all_parts (IsWithinEdge files.free task.graph.edges) so_far (drop_events (length cut.before) told.more) (files.commands (so_far ++ drop_events (length cut.before) told.more) whole)).0
          (all_parts (IsNoEdit files.free) so_far (drop_events (length cut.before) told.more) (files.edits (so_far ++ drop_events (length cut.before) told.more) whole)).0) [
            | inl stays ↦ stays
            | inr (inl may) ↦ absurd (may_not own task.graph.edges before kept_by_then files.own_files once i turn.0 turn.1 p made may)
            | inr (inr is_free) ↦ absurd (false≢true (sym (bound made) ∙ is_free))
          ]
        where
          bound : IsMadeBy (edge_at task.graph.edges i) p → files.free p ≡ false
          bound (inl output) = files.free_apart.outputs i p (inl turn.0) output
          bound (inr (named, is)) = files.free_apart.set p (ap own.set is ∙ (files.own_files.depfiles i turn.0).0)

          whole : now.history ≡ old.history ++ (so_far ++ drop_events (length cut.before) told.more)
          whole = told.grows ∙ ap (λ (l : List Moment). old.history ++ l) (sym (taken_dropped (length cut.before) told.more))

  -- a file that changes is one that the build may change
  pub unwritten_or : (free : List ℕ → Bool) → KeepToOutputs free task.graph.edges old.history now.history → OnlyFreeIsEdited free old.history now.history
      → (p : List ℕ) → AllByRecursion (IsElsewhere p) told.more ⊎ MayChange own task.graph.edges steps p ⊎ (free p ≡ true)
  unwritten_or free within edits p = stays_or_may_change own task.graph.edges steps free kept.started p told.more all_of_build (within told.more told.grows) (edits told.more told.grows)

  pub unchanged : (free : List ℕ → Bool) → KeepToOutputs free task.graph.edges old.history now.history → OnlyFreeIsEdited free old.history now.history
      → (p : List ℕ) → (file_at now.history p ≡ file_at old.history p) ⊎ MayChange own task.graph.edges steps p ⊎ (free p ≡ true)
  unchanged free within edits p = elim (unwritten_or free within edits p) [
    | inl stays ↦ inl (ap (λ (h : List Moment). file_at h p) told.grows ∙ file_stays p old.history told.more stays)
    | inr may ↦ inr may
  ]

  -- nothing writes an edge's outputs until its start
  pub unwritten_until : IsMadeOnce task.graph.edges → OutputsAreKept own task.graph.edges old.history now.history → (i stamp : ℕ) (act : Act) (o : List ℕ) (before after : List Moment)
      → now.history ≡ old.history ++ (before ++ Happened (Start i act stamp) ∷ after) → has (outputs (edge_at task.graph.edges i)) o ≡ true → AllByRecursion (IsElsewhere o) before
  unwritten_until once files i stamp act o before after grows is_output =
      all_elsewhere own task.graph.edges steps files.free files.apart commands kept.started once i (commands i (kept.started i was_started)) o is_output before
      (quiet own task.graph.edges steps i old.events [] before (ap (λ (l : List Event). runs i l) (append-nil old.events) ∙ idle i) none
      (of_run_parts own task.graph.edges steps old.events [] before (Happened (Start i act stamp) ∷ after) (subst (λ (l : List Moment). AreOfRun own task.graph.edges steps old.events [] l) splits told.all)).0
      (all_parts (IsOfBuild own task.graph.edges steps) before (Happened (Start i act stamp) ∷ after) (subst (λ (l : List Moment). AllByRecursion (IsOfBuild own task.graph.edges steps) l) splits all_of_build)).0)
      (all_parts (IsWithinEdge files.free task.graph.edges) before (Happened (Start i act stamp) ∷ after) (files.commands (before ++ Happened (Start i act stamp) ∷ after) grows)).0
      (all_parts (IsNoEdit files.free) before (Happened (Start i act stamp) ∷ after) (files.edits (before ++ Happened (Start i act stamp) ∷ after) grows)).0
    where
      splits : told.more ≡ before ++ Happened (Start i act stamp) ∷ after
      splits = same_rest old.history told.more (before ++ Happened (Start i act stamp) ∷ after) (sym told.grows ∙ grows)

      starts : started_in steps ≡ starts_in (events_in before) ++ i ∷ starts_in (events_in after)
      starts =
          sym starts_are ∙ (ap (λ (l : List Moment). starts_in (events_in l)) splits
          ∙ (ap starts_in (events_in-append before (Happened (Start i act stamp) ∷ after))
          ∙ starts-append (events_in before) (Start i act stamp ∷ events_in after)))

      was_started : has_number (started_in steps) i ≡ true
      was_started = ap (λ (l : List ℕ). has_number l i) starts
          ∙ has_number-right (starts_in (events_in before)) (i ∷ starts_in (events_in after)) i (has_number-left (i ∷ []) (starts_in (events_in after)) i (has_number-one i))

      none : has_number (starts_in (events_in before)) i ≡ false
      none = distinct_from task.graph.edges [] steps rest.orderly (starts_in (events_in before)) (starts_in (events_in after)) i starts

  -- an edge's outputs are as at the entry until its start
  pub until_start : IsMadeOnce task.graph.edges → OutputsAreKept own task.graph.edges old.history now.history → (i stamp : ℕ) (act : Act) (o : List ℕ) (before after : List Moment)
      → now.history ≡ old.history ++ (before ++ Happened (Start i act stamp) ∷ after) → has (outputs (edge_at task.graph.edges i)) o ≡ true → file_at (old.history ++ before) o ≡ file_at old.history o
  until_start once files i stamp act o before after grows is_output = file_stays o old.history before (unwritten_until once files i stamp act o before after grows is_output)

  -- No file changes but those that the build may change, each at its time; and starts are ready, if that was seen to.
  pub frame : (once : IsMadeOnce task.graph.edges) → AreStartsReady own task.graph.edges old.history now.history → IsFrame own task.graph.edges steps old.history now.history
  frame once ready = record {
    more = told.more;
    grows = told.grows;
    writes = all_of_build;
    unchanged = unchanged;
    until_start = λ files i stamp act o before after splits is_output. until_start once files i stamp act o before after (told.grows ∙ ap (λ (l : List Moment). old.history ++ l) splits) is_output;
    until_judged = until_judged once;
    at_start = λ files i stamp act before after splits. ready files i stamp act before after (told.grows ∙ ap (λ (l : List Moment). old.history ++ l) splits);
  }
