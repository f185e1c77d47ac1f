-- The points of a run at which just some steps were done: nobody wrote a quiet path between them and the present.
use Rattle.std.proofs.Common.{◌≡◌, ◌≢◌, ◌⊎◌, inl, inr, ℕ, suc, ◌+◌, Bool, true, false, IsTrue, List, [], ◌∷◌, ◌++◌, Option, None, Some, bytes_eq, length, refl, sym, ◌∙◌, ap, subst, append_assoc, arith}
use Rattle.std.specs.List.{AllByRecursion}
use Rattle.std.proofs.lemmas.Bool.{false≢true, false_from_ne_true}
use Rattle.std.proofs.lemmas.List.{append-nil, length-append}
use Rattle.model.specs.declared.event.Event.{Event}
use Rattle.model.specs.declared.event.Event.TheVariants.{Start, Finish}
use Rattle.model.specs.declared.event.Moment.{Moment}
use Rattle.model.specs.declared.event.Moment.TheVariants.{Wrote, Happened}
use Rattle.model.specs.declared.event.Writer.TheVariants.{Program, Command, Someone}
use Rattle.model.specs.declared.graph.Edge.{Edge}
use Rattle.model.specs.World.{World, file_at, runs, IsIdle, events_in}
use Rattle.model.specs.Graph.{has, has_number, edge_at, maker, inputs, outputs, IsCommand, IsMadeOnce}
use Rattle.model.specs.Phases.{happened_in, IsPointAfter}
use Rattle.model.specs.Premises.{FilesAreKept, OwnFilesApart, RecordedApart, IsWithinEdge, IsNoEdit}
use Rattle.model.specs.Reading.{needs}
use Rattle.model.specs.Records.{OwnFiles, Store, recorded_inputs}
use Rattle.model.specs.Schedule.{Task, Step, Judged, Started, Ended, judged_in, out_of_date_in, started_in, ended_in, running_in, AreEventsOf}
use Rattle.model.specs.SingleBuild.{IsOwnWrite}
use Rattle.theory.specs.Run.{steps_until, AreOfRun, IsToldBy, IsRun}
use Rattle.theory.proofs.Files.{IsElsewhere, file_stays}
use Rattle.theory.proofs.Lists.{has-left, has-right, same_bytes, same_rest, same_some, some_none}
use Rattle.theory.proofs.Makers.{maker_is}
use Rattle.theory.proofs.Moments.{events_in-append, until_within, of_run_parts}
use Rattle.theory.proofs.Orderly.{IsKept, kept_orderly}
use Rattle.theory.proofs.Starting.{since}
use Rattle.theory.proofs.RunLawsStated.{running_is_as_told}
use Rattle.theory.proofs.Steps.{running_parts}
use Rattle.judge.specs.Quiet.{HasPathsFor, AreAlike}

-- ---- which paths may be looked at

-- a path that is not free and outside the program's set, which no running command makes, is in the set
abbrev pub HasQuiet : (List ℕ → Bool) → OwnFiles → List Edge → List Step → (List ℕ → Bool) → Type 0
HasQuiet free own edges before set = (p : List ℕ) → free p ≡ false → own.set p ≡ false → ((j : ℕ) → maker edges p ≡ Some j → has_number (running_in before) j ≡ true → ⊥) → set p ≡ true

-- such a set has all paths that may be looked at, where own files are apart from these, and nothing that an edge needs or names as an
-- output is free, and no target
pub paths_for : (own : OwnFiles) (edges : List Edge) (store : Store) (targets : List (List ℕ)) (before : List Step) → IsKept edges before → OwnFilesApart own edges → RecordedApart own (recorded_inputs store edges) → IsMadeOnce edges
    → ((p : List ℕ) → has targets p ≡ true → maker edges p ≡ None → own.set p ≡ false) → (free : List ℕ → Bool) → ((i : ℕ) (p : List ℕ) → has (outputs (edge_at edges i)) p ≡ true → free p ≡ false)
    → ((i : ℕ) (p : List ℕ) → has (needs edges (recorded_inputs store edges) i) p ≡ true → free p ≡ false) → ((p : List ℕ) → has targets p ≡ true → free p ≡ false)
    → (set : List ℕ → Bool) → HasQuiet free own edges before set → HasPathsFor edges store targets before set
paths_for own edges store targets before kept apart recorded_apart once requested free named_bound needed wanted set quiet = record {
  made = λ i p fresh h. quiet p (named_bound i p h) (apart.outputs i p h) (λ j is runs.
      let same = same_some j i (sym is ∙ maker_is edges p i once h) in
      false≢true (sym fresh ∙ subst (λ (n : ℕ). has_number (out_of_date_in before) n ≡ true) same (stale j runs)));
  named = λ i p h unmade. quiet p (needed i p (has-left (inputs (edge_at edges i)) (recorded_inputs store edges i) p h)) (apart.inputs i p h) (λ j is runs. false≢true (sym (unmade j is) ∙ stale j runs));
  recorded = λ i p h unmade. quiet p (needed i p (has-right (inputs (edge_at edges i)) (recorded_inputs store edges i) p h)) (recorded_apart i p h) (λ j is runs. false≢true (sym (unmade j is) ∙ stale j runs));
  requested = λ p h source. quiet p (wanted p h) (requested p h source) (λ j is runs. some_none j (sym is ∙ source));
}
  where
    stale : (j : ℕ) → has_number (running_in before) j ≡ true → has_number (out_of_date_in before) j ≡ true
    stale j runs = kept.started j (running_parts before j runs).0

-- ---- starts and finishes

-- the path is not free, the program writes it for no edge that was judged out of date, and no running command makes it
pub record IsSpared (free : List ℕ → Bool) (own : OwnFiles) (edges : List Edge) (before : List Step) (p : List ℕ) : Type 0 where
  pub bound : free p ≡ false
  pub foreign : own.files p ≡ false
  pub private : (j : ℕ) → has_number (out_of_date_in before) j ≡ true → (p ≡ (edge_at edges j).act.depfile) ⊎ (p ≡ (edge_at edges j).act.response_path) → ⊥
  pub rests : (j : ℕ) → has_number (running_in before) j ≡ true → has (outputs (edge_at edges j)) p ≡ true → ⊥

happened_is : (ms : List Moment) → happened_in ms ≡ length (events_in ms)
happened_is [] = refl
happened_is (Wrote by path content stamp ∷ ms) = happened_is ms
happened_is (Happened event ∷ ms) = ap suc (happened_is ms)

count_events : (edges : List Edge) (steps : List Step) (es : List Event) → AreEventsOf edges steps es → length es ≡ length (started_in steps) + length (ended_in steps)
count_events edges [] [] all = refl
count_events edges [] (e ∷ es) all = absurd all
count_events edges (Judged i b ∷ steps) es all = count_events edges steps es all
count_events edges (Started i ∷ steps) [] all = absurd all
count_events edges (Started i ∷ steps) (Start job act stamp ∷ es) all = let rest = count_events edges steps es all.2 in omega (arith, rest)
count_events edges (Started i ∷ steps) (Finish job ok ∷ es) all = absurd all
count_events edges (Ended i w ∷ steps) [] all = absurd all
count_events edges (Ended i w ∷ steps) (Start job act stamp ∷ es) all = absurd all
count_events edges (Ended i w ∷ steps) (Finish job ok ∷ es) all = let rest = count_events edges steps es all.2 in omega (arith, rest)

nothing_by : {X : Type 0} (xs : List X) → length xs ≡ 0 → xs ≡ []
nothing_by [] is = refl
nothing_by {X} (x ∷ xs) is = let long : length (x ∷ xs) ≡ 0 = is in absurd (omega (arith, long))

module _ (tells : Bool) (own : OwnFiles) (task : Task) (before : List Step) (old now : World) (idle : IsIdle old.events) (run : IsRun tells own task before old now) (tell : IsTrue tells)
    (files : FilesAreKept own task.graph.edges old.history now.history)
  where
    abbrev edges : List Edge
    edges = task.graph.edges

    kept : IsKept edges before
    kept = kept_orderly edges before run.orderly

    told : IsToldBy own edges before old.events run.events old.history now.history
    told = run.history tell

    -- what runs is running by the steps
    running : (j : ℕ) → runs j (old.events ++ run.events) ≡ true → has_number (running_in before) j ≡ true
    running j is = sym ((running_is_as_told tells own task before old now idle run).0 j) ∙ (ap (runs j) run.grows ∙ is)

    stale : (j : ℕ) → has_number (running_in before) j ≡ true → has_number (out_of_date_in before) j ≡ true
    stale j is = kept.started j (running_parts before j is).0

    -- since the last start or finish nobody wrote a path that is spared
    module _ (p : List ℕ) (spared : IsSpared files.free own edges before p) where
      by_program : (path : List ℕ) (content : Option (List ℕ)) → path ≡ p → IsOwnWrite own edges (steps_until before (length run.events)) path content → ⊥
      by_program path content same (inl mine) = false≢true (sym spared.foreign ∙ (ap own.files (sym same) ∙ mine))
      by_program path content same (inr (inl (i, out, is, gone))) = spared.private i (until_within before (length run.events) i out) (inl (sym same ∙ is))
      by_program path content same (inr (inr (i, out, is))) = spared.private i (until_within before (length run.events) i out) (inr (sym same ∙ is))

      by_free : (path : List ℕ) → path ≡ p → files.free path ≡ true → ⊥
      by_free path same scratch = false≢true (sym spared.bound ∙ (ap files.free (sym same) ∙ scratch))

      by_command : (job : ℕ) (path : List ℕ) → path ≡ p → has_number (running_in before) job ≡ true → (has (outputs (edge_at edges job)) path ≡ true) ⊎ (path ≡ (edge_at edges job).act.depfile) ⊎ (files.free path ≡ true) → ⊥
      by_command job path same is (inl makes) = spared.rests job is (subst (λ (q : List ℕ). has (outputs (edge_at edges job)) q ≡ true) same makes)
      by_command job path same is (inr (inl leaves)) = spared.private job (stale job is) (inl (sym same ∙ leaves))
      by_command job path same is (inr (inr scratch)) = by_free path same scratch

      elsewhere : (ms : List Moment) → happened_in ms ≡ 0 → AreOfRun own edges before old.events run.events ms → AllByRecursion (IsWithinEdge files.free edges) ms → AllByRecursion (IsNoEdit files.free) ms → AllByRecursion (IsElsewhere p) ms
      elsewhere [] none all within edits = tt
      elsewhere (Wrote Program path content stamp ∷ ms) none all within edits =
          (false_from_ne_true (bytes_eq path p) (λ here. by_program path content (same_bytes path p here) all.0), elsewhere ms none all.1 within.1 edits.1)
      elsewhere (Wrote (Command job) path content stamp ∷ ms) none all within edits =
          (false_from_ne_true (bytes_eq path p) (λ here. by_command job path (same_bytes path p here) (running job all.0) within.0), elsewhere ms none all.1 within.1 edits.1)
      elsewhere (Wrote Someone path content stamp ∷ ms) none all within edits =
          (false_from_ne_true (bytes_eq path p) (λ here. by_free path (same_bytes path p here) edits.0), elsewhere ms none all within.1 edits.1)
      elsewhere (Happened event ∷ ms) none all within edits = let some : suc (happened_in ms) ≡ 0 = none in absurd (omega (arith, some))

      file_at_point : (at : List Moment) → IsPointAfter before old.history now.history at → file_at at p ≡ file_at now.history p
      file_at_point at point =
          sym (ap (λ (h : List Moment). file_at h p) point.grows ∙ file_stays p at point.later
          (elsewhere point.later none_later of_later
          (since (IsWithinEdge files.free edges) old.history point.so_far at point.later now.history point.is point.grows files.commands)
          (since (IsNoEdit files.free) old.history point.so_far at point.later now.history point.is point.grows files.edits)))
        where
          whole : told.more ≡ point.so_far ++ point.later
          whole =
              same_rest old.history told.more (point.so_far ++ point.later)
              (sym told.grows ∙ (point.grows ∙ (ap (λ (h : List Moment). h ++ point.later) point.is ∙ append_assoc old.history point.so_far point.later)))

          events_are : events_in point.so_far ++ events_in point.later ≡ run.events
          events_are = sym (events_in-append point.so_far point.later) ∙ (ap events_in (sym whole) ∙ told.happened)

          none_later : happened_in point.later ≡ 0
          none_later =
              let counted = ap length events_are in
              let both = length-append (events_in point.so_far) (events_in point.later) in
              let all = count_events edges before run.events run.of_steps in
              let first = point.happened in
              let lists = length-append (started_in before) (ended_in before) in
              let so_far = happened_is point.so_far in
              let later = happened_is point.later in
              omega (arith, counted, both, all, first, lists, so_far, later)

          none_told : events_in point.later ≡ []
          none_told = nothing_by (events_in point.later) (sym (happened_is point.later) ∙ none_later)

          so_far_told : events_in point.so_far ≡ run.events
          so_far_told = sym (append-nil (events_in point.so_far)) ∙ (ap (λ (l : List Event). events_in point.so_far ++ l) (sym none_told) ∙ events_are)

          of_later : AreOfRun own edges before old.events run.events point.later
          of_later =
              subst (λ (l : List Event). AreOfRun own edges before old.events l point.later) so_far_told
              (of_run_parts own edges before old.events [] point.so_far point.later (subst (λ (l : List Moment). AreOfRun own edges before old.events [] l) whole told.all)).1

    -- the depfile of a command that was not judged
    depfile_spared : (i : ℕ) → IsCommand edges i → has_number (judged_in before) i ≡ false → (edge_at edges i).act.depfile ≢ [] → IsSpared files.free own edges before (edge_at edges i).act.depfile
    depfile_spared i command fresh named = record {
      bound = files.free_apart.set (edge_at edges i).act.depfile (files.own_files.depfiles i command).0;
      foreign = (files.own_files.depfiles i command).1;
      private = λ j out is.
          let other : i ≢ j = (λ same. false≢true (sym fresh ∙ subst (λ (n : ℕ). has_number (judged_in before) n ≡ true) (sym same) (kept.out_of_date j out))) in
          let apart = files.own_files.apart i j command (kept.judged j (kept.out_of_date j out)) other in
          elim is [ inl one ↦ apart.0 named one | inr one ↦ apart.2 named one ];
      rests = λ j runs made. false≢true (sym (files.own_files.outputs j (edge_at edges i).act.depfile made) ∙ (files.own_files.depfiles i command).0);
    }

    -- the files of a point are those of now at the paths of a set that are spared, and at the depfiles of commands that were not judged
    pub points_alike : (set : List ℕ → Bool) → ((p : List ℕ) → set p ≡ true → IsSpared files.free own edges before p) → (at : List Moment) → IsPointAfter before old.history now.history at → AreAlike edges before set now.history at
    points_alike set spared at point = record {
      paths = λ p is. file_at_point p (spared p is) at point;
      depfiles = λ i command fresh named. file_at_point (edge_at edges i).act.depfile (depfile_spared i command fresh named) at point;
    }
