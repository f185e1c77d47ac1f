-- A store that was faithful at the entry of a run is faithful at each point of it.
use Rattle.std.proofs.Common.{◌≡◌, ◌⊎◌, inl, inr, ℕ, ◌≤◌, ◌<◌, Bool, true, false, IsTrue, List, [], ◌++◌, Option, Some, None, refl, sym, ◌∙◌, ap, subst, arith, append_assoc}
use Rattle.std.proofs.lemmas.Bool.{false≢true, cases_Bool, false_from_ne_true}
use Rattle.model.specs.declared.event.Event.{Event}
use Rattle.model.specs.declared.event.Moment.{Moment}
use Rattle.model.specs.declared.graph.Edge.{Edge}
use Rattle.model.specs.World.{World, File, file_at, content_of, view_of, next_stamp, runs, IsIdle}
use Rattle.model.specs.Graph.{has, has_number, edge_at, outputs, IsMadeOnce}
use Rattle.model.specs.Outcome.{Behaviour, given, reports_of, depfile_in, listed}
use Rattle.model.specs.Records.{Told, OwnFiles, LogFormat, Store, Made, store_in, in_force, deps_in_force, ListsOnce}
use Rattle.model.specs.Schedule.{Step, started_in, well_in, running_in}
use Rattle.model.specs.Premises.{KeepsFaith, EndedAt, LeftOutcome, StartsAreTicked}
use Rattle.model.specs.SingleBuild.{Asked, task_of}
use Rattle.model.specs.Faithful.{IsFaithfulRecord, IsFaithfulStore}
use Rattle.theory.specs.Run.{starts_in, IsRunOrRest, IsToldBy, EndOf}
use Rattle.theory.proofs.Lists.{all_has, same_some, some_none}
use Rattle.theory.proofs.Makers.{one_maker}
use Rattle.theory.proofs.Steps.{running_parts}
use Rattle.theory.proofs.Orderly.{IsKept, kept_orderly}
use Rattle.theory.proofs.Events.{starts_of_all, no_starts, runs_since, runs_never, runs_now}
use Rattle.theory.proofs.Exit.{end_of, output_stays}
use Rattle.theory.specs.Logged.{KeepsBoth, HasNew, HasNewDeps, IsLogged, AreReadable}
use Rattle.theory.proofs.Stamps.{file_was, next_later, stamp_lies}
use Rattle.theory.proofs.Explained.{some_or_none}
use Rattle.theory.proofs.Starts.{StartsAt, start_at, was_stamped}
use Rattle.theory.proofs.Once.{one_end}
use Rattle.theory.proofs.Ticked.{unwritten_since}
use Rattle.model.specs.Kept.{StartedUnder}
use Rattle.theory.proofs.Kept as kept

module _ (tells : Bool) (B : Behaviour) (format : LogFormat) (own : OwnFiles) (asked : Asked) (entry : Store) (steps : List Step) (hand : Option ℕ) (old now : World)
    (tell : IsTrue tells) (idle : IsIdle old.events) (rest : IsRunOrRest tells own (task_of asked entry) steps old now)
    (once : IsMadeOnce asked.graph.edges)
    (found : entry ≡ store_in format own (view_of old.history)) (faithful : IsFaithfulStore B format own asked.graph.edges old)
    (ticked : StartsAreTicked old.history now.history)
    (keeps : KeepsFaith B own asked.graph.edges entry steps old.history now.history) where
  abbrev edges : List Edge
  edges = asked.graph.edges

  told : IsToldBy own asked.graph.edges steps old.events (rest.first ++ rest.later) old.history now.history
  told = rest.history tell

  all : IsKept asked.graph.edges steps
  all = kept_orderly asked.graph.edges steps rest.orderly

  -- ---- which commands run

  started_now : (job : ℕ) → runs job now.events ≡ true → has_number (started_in steps) job ≡ true
  started_now job is = subst (λ (l : List ℕ). has_number l job ≡ true) starts_are
      (runs_since job old.events (rest.first ++ rest.later) idle (subst (λ (l : List Event). runs job l ≡ true) rest.grows is))
    where
      starts_are : starts_in (rest.first ++ rest.later) ≡ started_in steps
      starts_are =
          starts_of_all asked.graph.edges steps rest.first (old.events ++ rest.first) rest.later rest.of_steps rest.finishes

  -- a command that ended well runs no more
  well_idle : (job : ℕ) → has_number (well_in steps) job ≡ true → runs job now.events ≡ false
  well_idle job well =
      ap (λ (l : List Event). runs job l) (rest.grows ∙ sym (append_assoc old.events rest.first rest.later))
      ∙ runs_never job (old.events ++ rest.first) rest.later
      (runs_now (task_of asked entry) steps old.events rest.first idle rest.orderly rest.of_steps job
      ∙ false_from_ne_true (has_number (running_in steps) job) (λ running. false≢true (sym (running_parts steps job running).1 ∙ all.well job well)))
      (ap (λ (l : List ℕ). has_number l job) (no_starts (old.events ++ rest.first) rest.later rest.finishes))

  -- ---- a record of the entry

  -- no record is of a free path
  bound : (o : List ℕ) (made : Made) → in_force (store_in format own (view_of old.history)).records o ≡ Some made → keeps.kept.free o ≡ false
  bound o made force = elim (cases_Bool (keeps.kept.free o)) [
    | inl is_free ↦ absurd (some_none made (sym force ∙ (ap (λ (s : Store). in_force s.records o) (sym found) ∙ keeps.unrecorded o is_free)))
    | inr not ↦ not
  ]

  kept_record : (store : Store) (o : List ℕ) (made : Made) → KeepsBoth asked.graph.edges steps entry store o → in_force store.records o ≡ Some made
      → IsFaithfulRecord B store now.history o made × (own.set o ≡ false)
  kept_record store o made same_both force = by_faith (faithful.records o made was)
    where
      was : in_force (store_in format own (view_of old.history)).records o ≡ Some made
      was = subst (λ (s : Store). in_force s.records o ≡ Some made) found (sym same_both.records ∙ force)

      by_faith : IsFaithfulRecord B (store_in format own (view_of old.history)) old.history o made × (own.set o ≡ false) → IsFaithfulRecord B store now.history o made × (own.set o ≡ false)
      by_faith (faith, outside) = (
        record {
          seen = faith.seen;
          well = faith.well;
          holds = λ content is. faith.holds content (ap content_of (sym (kept.path_stays tells own (task_of asked entry) steps old now idle rest tell once keeps.kept o outside (bound o made was) same_both.unstarted)) ∙ is);
          reports = λ deps is same. faith.reports deps (ap (λ (s : Store). deps_in_force s.deps o) (sym found) ∙ (sym same_both.deps ∙ is)) same;
          older = λ p file is early. faith.older p file (file_was old.history now.history told.more told.grows keeps.stamps p file is (omega (arith, early, faith.clock))) early;
          clock = omega (arith, faith.clock, next_later old.history now.history told.more told.grows);
        },
        outside,
      )

  -- ---- a record of this run

  -- what its command left, which ended well and was started under this stamp
  module _ (i stamp : ℕ) (at : List Moment) (started : StartedUnder i stamp old now) (ended : EndedAt i old.history now.history at) (well : has_number (well_in steps) i ≡ true) where
    start : StartsAt i stamp old.history now.history
    start = start_at tells own (task_of asked entry) steps old now rest tell i stamp started

    left : LeftOutcome B asked.graph.edges start.after now.history at i
    left = keeps.left_outcomes i at ended well start.before start.after start.act stamp start.splits

    end : EndOf own asked.graph.edges steps i old.history now.history
    end = end_of tells own (task_of asked entry) steps old now idle rest tell i well

    same_end : old.history ++ end.before ≡ at
    same_end = one_end tells own (task_of asked entry) steps old now idle rest tell i (old.history ++ end.before) at (record { before = end.before; after = end.after; is = refl; splits = end.grows }) ended

    holds_now : (o : List ℕ) → has (outputs (edge_at asked.graph.edges i)) o ≡ true → view_of now.history o ≡ given B (edge_at asked.graph.edges i).act left.seen o
    holds_now o is_output =
        ap content_of (output_stays tells own (task_of asked entry) steps old now idle rest tell once keeps.kept i (all.judged i (all.out_of_date i (all.started i (all.ended i (all.well i well))))) o is_output end)
        ∙ (ap (λ (h : List Moment). view_of h o) same_end
        ∙ all_has (λ p. view_of at p ≡ given B (edge_at asked.graph.edges i).act left.seen p) (outputs (edge_at asked.graph.edges i)) o left.contents is_output)

    older_now : (p : List ℕ) (file : File) → file_at now.history p ≡ Some file → file.stamp ≤ stamp → left.seen p ≡ Some file.content
    older_now p file is early = left.unwritten p (unwritten_since old.history now.history start.before start.after i start.act stamp start.splits keeps.stamps p file is early) ∙ ap content_of is

  new_record : (store : Store) (o : List ℕ) (made : Made) → IsLogged B asked.graph.edges steps hand entry store old now
      → HasNew B asked.graph.edges steps store old now o → in_force store.records o ≡ Some made → IsFaithfulRecord B store now.history o made × (own.set o ≡ false)
  new_record store o made logged new force = (
    subst (λ (m : Made). IsFaithfulRecord B store now.history o m) (same_some (record { act = (edge_at asked.graph.edges new.edge).act; start = new.stamp }) made (sym new.recorded.done ∙ force)) faith,
    keeps.kept.own_files.outputs new.edge o new.makes,
  )
    where
      lies : (next_stamp old.history ≤ new.stamp) × (new.stamp < next_stamp now.history)
      lies = stamp_lies new.stamp old.history now.history (was_stamped tells own (task_of asked entry) steps old now rest tell ticked new.edge new.stamp new.started) keeps.stamps

      this : LeftOutcome B asked.graph.edges (start new.edge new.stamp new.at new.started new.ended new.well).after now.history new.at new.edge
      this = left new.edge new.stamp new.at new.started new.ended new.well

      lists : (deps : Told) → deps_in_force store.deps o ≡ Some deps → deps.start ≡ new.stamp → ListsOnce deps.paths (reports_of B (edge_at asked.graph.edges new.edge).act this.seen)
      lists deps is start = some_or_none (edge_at asked.graph.edges new.edge).act.depfile
          (λ none. absurd (by_deps none (logged.deps o)))
          (λ some. by_record (new.recorded.deps some))
        where
          by_deps : (edge_at asked.graph.edges new.edge).act.depfile ≡ [] → (deps_in_force store.deps o ≡ deps_in_force entry.deps o) ⊎ HasNewDeps asked.graph.edges store old now o → ⊥
          by_deps none (inl same) =
              let early = faithful.deps o deps (ap (λ (s : Store). deps_in_force s.deps o) (sym found) ∙ (sym same ∙ is)) in
              omega (arith, early, start, lies.0)
          by_deps none (inr other) =
              other.depfile (ap (λ (k : ℕ). (edge_at asked.graph.edges k).act.depfile) (one_maker asked.graph.edges o other.edge new.edge once other.makes new.makes) ∙ none)

          reports_are : listed (depfile_in B (edge_at asked.graph.edges new.edge).act (view_of new.at)) ≡ reports_of B (edge_at asked.graph.edges new.edge).act this.seen
          reports_are = ap listed this.depfile

          by_record : (found : Told) × (deps_in_force store.deps o ≡ Some found) × (found.start ≡ new.stamp) × ListsOnce found.paths (listed (depfile_in B (edge_at asked.graph.edges new.edge).act (view_of new.at)))
              → ListsOnce deps.paths (reports_of B (edge_at asked.graph.edges new.edge).act this.seen)
          by_record (found, there, of, once_each) =
              subst (λ (d : Told). ListsOnce d.paths (reports_of B (edge_at asked.graph.edges new.edge).act this.seen)) (same_some found deps (sym there ∙ is))
              (subst (λ (ps : List (List ℕ)). ListsOnce found.paths ps) reports_are once_each)

      faith : IsFaithfulRecord B store now.history o (record { act = (edge_at asked.graph.edges new.edge).act; start = new.stamp })
      faith = record {
        seen = this.seen;
        well = this.well;
        holds = λ content is. sym (holds_now new.edge new.stamp new.at new.started new.ended new.well o new.makes) ∙ is;
        reports = lists;
        older = older_now new.edge new.stamp new.at new.started new.ended new.well;
        clock = lies.1;
      }

  -- ---- together

  module _ (readable : AreReadable format own now.history) (logged : IsLogged B asked.graph.edges steps hand entry (store_in format own (view_of now.history)) old now) where
    each_record : (o : List ℕ) (made : Made) → in_force (store_in format own (view_of now.history)).records o ≡ Some made
        → IsFaithfulRecord B (store_in format own (view_of now.history)) now.history o made × (own.set o ≡ false)
    each_record o made force = elim (logged.records o) [
      | inl same_both ↦ kept_record (store_in format own (view_of now.history)) o made same_both force
      | inr other ↦ elim other [
        | inl none ↦ absurd (no_record none.none)
        | inr new ↦ new_record (store_in format own (view_of now.history)) o made logged new force
      ]
    ]
      where
        differ : Some made ≡ None → ⊥
        differ is = cc

        no_record : in_force (store_in format own (view_of now.history)).records o ≡ None → ⊥
        no_record none = differ (sym force ∙ none)

    none_running : (job : ℕ) (o : List ℕ) → runs job now.events ≡ true → has (outputs (edge_at asked.graph.edges job)) o ≡ true → in_force (store_in format own (view_of now.history)).records o ≡ None
    none_running job o running makes = elim (logged.records o) [
      | inl same_both ↦ absurd (same_both.unstarted job (started_now job running) makes)
      | inr other ↦ elim other [
        | inl none ↦ none.none
        | inr new ↦ absurd (false≢true (sym (well_idle new.edge new.well)
            ∙ (ap (λ (k : ℕ). runs k now.events) (one_maker asked.graph.edges o new.edge job once new.makes makes) ∙ running)))
      ]
    ]

    deps_early : (o : List ℕ) (deps : Told) → deps_in_force (store_in format own (view_of now.history)).deps o ≡ Some deps → deps.start < next_stamp now.history
    deps_early o deps is = elim (logged.deps o) [
      | inl same ↦
          let early = faithful.deps o deps (ap (λ (s : Store). deps_in_force s.deps o) (sym found) ∙ (sym same ∙ is)) in
          omega (arith, early, next_later old.history now.history told.more told.grows)
      | inr new ↦ by_new new
    ]
      where
        by_new : HasNewDeps asked.graph.edges (store_in format own (view_of now.history)) old now o → deps.start < next_stamp now.history
        by_new new =
            subst (λ (d : Told). d.start < next_stamp now.history) (same_some new.deps deps (sym new.is ∙ is))
            (stamp_lies new.deps.start old.history now.history (was_stamped tells own (task_of asked entry) steps old now rest tell ticked new.edge new.deps.start new.started) keeps.stamps).1

    pub faithful_now : IsFaithfulStore B format own asked.graph.edges now
    faithful_now = record {
      build_log = readable.build_log;
      deps_log = readable.deps_log;
      records = each_record;
      deps = deps_early;
      running = none_running;
    }
