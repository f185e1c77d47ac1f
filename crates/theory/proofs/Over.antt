-- Over a history: each move keeps the store faithful, and a build that comes next is as claimed.
use Rattle.std.proofs.Common.{◌≡◌, ℕ, Bool, true, IsTrue, List, [], ◌∷◌, ◌++◌, Option, Some, None, refl, sym, ◌∙◌, ap, subst}
use Rattle.std.specs.List.{AllByRecursion}
use Rattle.std.proofs.lemmas.Bool.{false≢true}
use Rattle.model.specs.declared.event.Event.{Event}
use Rattle.model.specs.declared.graph.Edge.{Edge}
use Rattle.model.specs.World.{World, view_of, runs}
use Rattle.model.specs.Graph.{has_number, IsCommand}
use Rattle.model.specs.Outcome.{Behaviour}
use Rattle.model.specs.Records.{OwnFiles, LogFormat, read_log, store_in, in_force, deps_in_force}
use Rattle.model.specs.Schedule.{started_in}
use Rattle.model.specs.Premises.{OwnFilesApart, HaveEnded}
use Rattle.model.specs.SingleBuild.{Asked, Answer, SingleBuild, task_of}
use Rattle.model.specs.History.{Visit, Edited, Built, Unread, Restarted, Keeps, EndsThese, entry_of, exit_of, edges_after, last_edges, IsHistoryFrom, world_after, IsAsClaimed, IsNextAsClaimed}
use Rattle.theory.specs.Run.{starts_in}
use Rattle.theory.proofs.Orderly.{IsKept, kept_orderly}
use Rattle.theory.proofs.Loads.{build_is_orderly}
use Rattle.theory.proofs.Events.{starts_of_all, runs_since}
use Rattle.model.specs.Faithful.{IsFaithfulStore}
use Rattle.theory.specs.Histories.{HasHeadline, HistoriesAreAsClaimed, HistoriesGrow, NoLogsAreFaithful}
use Rattle.theory.proofs.Edits.{nothing_keeps, edit_keeps, restarted_idle, restart_keeps}

same_world_events : (world new : World) → new.events ≡ world.events → (job : ℕ) → runs job new.events ≡ true → runs job world.events ≡ true
same_world_events world new same job is = subst (λ (l : List Event). runs job l ≡ true) same is

module _ (tells : Bool) (B : Behaviour) (format : LogFormat) (own : OwnFiles) (tell : IsTrue tells) where
  -- the store is faithful, and each running command is of an edge whose files are apart
  abbrev IsKeptSo : List Edge → World → Type 0
  IsKeptSo edges world = IsFaithfulStore B format own edges world × ((job : ℕ) → runs job world.events ≡ true → IsCommand edges job × OwnFilesApart own edges)

  -- where no command runs, the edges do not matter
  for_others : (edges others : List Edge) (world : World) → HaveEnded world → IsFaithfulStore B format own edges world → IsFaithfulStore B format own others world
  for_others edges others world ended believed = record {
    build_log = believed.build_log;
    deps_log = believed.deps_log;
    records = believed.records;
    deps = believed.deps;
    running = λ job o is makes. absurd (false≢true (sym (ended job) ∙ is));
  }

  -- what runs at the exit of a build is of a command edge
  command_runs : (asked : Asked) (old new : World) (answer : Answer) (build : SingleBuild tells B format own asked old new answer) → HaveEnded old → (job : ℕ) → runs job new.events ≡ true → IsCommand asked.graph.edges job
  command_runs asked old new answer build ended job is =
      let s = build.schedule in
      let all : IsKept asked.graph.edges build.steps = kept_orderly asked.graph.edges build.steps (build_is_orderly B.dyndep build.texts asked.declared (task_of asked build.store) build.store build.steps s.lawful) in
      let starts : starts_in (s.first ++ s.later) ≡ started_in build.steps =
      starts_of_all asked.graph.edges build.steps s.first (old.events ++ s.first) s.later s.of_steps s.finishes in
      let started : has_number (started_in build.steps) job ≡ true = subst (λ (l : List ℕ). has_number l job ≡ true) starts
      (runs_since job old.events (s.first ++ s.later) ended (subst (λ (l : List Event). runs job l ≡ true) s.grows is)) in
      all.judged job (all.out_of_date job (all.started job started))

  step : (edges : List Edge) (v : Visit tells B format) → EndsThese edges v → IsKeptSo edges (entry_of v) → Keeps own v → HasHeadline v → IsKeptSo (edges_after edges v) (exit_of v)
  step edges (Edited path content old new edit) ends kept (ended, stamps, edits, leaves) claimed =
      (edit_keeps B format own edges old new kept.0 stamps edit.events ended edits tells tell path content edit leaves, λ job is. kept.1 job (same_world_events old new edit.events job is))
  step edges (Built asked old new answer build) ends kept (ended, (fits, premises)) claimed = (
    (claimed own fits).stays tell (for_others edges asked.graph.edges old ended kept.0) premises,
    λ job is. (command_runs asked old new answer (build own fits) ended job is, premises.kept.own_files),
  )
  step edges (Unread old new answer cause) ends kept (ended, between) claimed = (
    for_others [] edges new (λ job. ap (λ (l : List Event). runs job l) cause.looks.events ∙ ended job)
        (nothing_keeps B format own [] old new (for_others edges [] old ended kept.0) cause.looks.events ended between (cause.looks.history tell)),
    λ job is. kept.1 job (same_world_events old new cause.looks.events job is),
  )
  step edges (Restarted others old new restart) same kept between claimed = (
    for_others others edges new (restarted_idle tells old new restart)
        (restart_keeps tells B format own others old new (λ job is. subst (λ (es : List Edge). IsCommand es job × OwnFilesApart own es) (sym same) (kept.1 job is)) restart tell between
        (subst (λ (es : List Edge). IsFaithfulStore B format own es old) (sym same) kept.0)),
    λ job is. absurd (false≢true (sym (restarted_idle tells old new restart job) ∙ is)),
  )

  -- the next build is as claimed
  next : (edges : List Edge) (v : Visit tells B format) → IsKeptSo edges (entry_of v) → HasHeadline v → IsAsClaimed own v
  next edges (Edited path content old new edit) kept claimed = tt
  next edges (Built asked old new answer build) kept claimed = λ ended fits premises. (
    (claimed own fits).stale tell premises.files.kept premises.files.recorded_apart premises.files.dyndep.inputs,
    λ success. (claimed own fits).clean tell (for_others edges asked.graph.edges old ended kept.0) premises success,
  )
  next edges (Unread old new answer cause) kept claimed = tt
  next edges (Restarted others old new restart) kept claimed = tt

  over : (edges : List Edge) (before after : List (Visit tells B format)) (first last : World) → IsHistoryFrom edges (before ++ after) first last → AllByRecursion HasHeadline (before ++ after) → AllByRecursion (λ v. Keeps own v) before
      → IsKeptSo edges first → IsFaithfulStore B format own (last_edges edges before) (world_after first before) × IsNextAsClaimed own after
  over edges [] [] first last history claimed keeps kept = (kept.0, tt)
  over edges [] (v ∷ vs) first last history claimed keeps kept =
      (kept.0, next edges v (subst (λ (w : World). IsKeptSo edges w) (sym history.0) kept) claimed.0)
  over edges (v ∷ before) after first last history claimed keeps kept =
      over (edges_after edges v) before after (exit_of v) last history.2 claimed.1 keeps.1
      (step edges v history.1 (subst (λ (w : World). IsKeptSo edges w) (sym history.0) kept) keeps.0 claimed.0)

pub histories_are_as_claimed : HistoriesAreAsClaimed
histories_are_as_claimed tells B format visits first last history claimed own tell faithful before after splits keeps =
    over tells B format own tell [] before after first last
    (subst (λ (vs : List (Visit tells B format)). IsHistoryFrom [] vs first last) splits history.1)
    (subst (λ (vs : List (Visit tells B format)). AllByRecursion HasHeadline vs) splits claimed)
    keeps (faithful, λ job is. absurd (false≢true (sym (history.0 job) ∙ is)))

-- ---- a history goes on

grows_from : (tells : Bool) (B : Behaviour) (format : LogFormat) (edges : List Edge) (visits : List (Visit tells B format)) (first last : World) (v : Visit tells B format)
    → IsHistoryFrom edges visits first last → entry_of v ≡ last → EndsThese (last_edges edges visits) v → IsHistoryFrom edges (visits ++ v ∷ []) first (exit_of v)
grows_from tells B format edges [] first last v same entry ends = (entry ∙ same, ends, refl)
grows_from tells B format edges (u ∷ visits) first last v history entry ends =
    (history.0, history.1, grows_from tells B format (edges_after edges u) visits (exit_of u) last v history.2 entry ends)

pub histories_grow : HistoriesGrow
histories_grow tells B format visits first last v history entry ends = (history.0, grows_from tells B format [] visits first last v history.1 entry ends)

-- ---- no logs

pub no_logs_are_faithful : NoLogsAreFaithful
no_logs_are_faithful B format own edges world no_build_log no_deps_log = record {
  build_log = λ content is. absurd (none_is content (sym no_build_log ∙ is));
  deps_log = λ content is. absurd (none_is content (sym no_deps_log ∙ is));
  records = λ o made is. absurd (none_is made (sym (none_made o) ∙ is));
  deps = λ o deps is. absurd (none_is deps (sym (none_deps o) ∙ is));
  running = λ job o runs_job made. none_made o;
}
  where
    none_is : {X : Type 0} (x : X) → None ≡ Some x → ⊥
    none_is x is = cc

    none_made : (o : List ℕ) → in_force (store_in format own (view_of world.history)).records o ≡ None
    none_made o = ap (λ (held : Option (List ℕ)). in_force (read_log format.records held) o) no_build_log

    none_deps : (o : List ℕ) → deps_in_force (store_in format own (view_of world.history)).deps o ≡ None
    none_deps o = ap (λ (held : Option (List ℕ)). deps_in_force (read_log format.deps held) o) no_deps_log
