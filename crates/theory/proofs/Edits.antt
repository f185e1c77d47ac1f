-- Edits, and commands that end at a restart, keep a store faithful.
use Rattle.std.proofs.Common.{◌≡◌, ◌⊎◌, inl, inr, ℕ, cond, Bool, true, false, IsTrue, List, [], ◌∷◌, ◌++◌, Option, Some, None, bytes_eq, refl, sym, ◌∙◌, ap, subst}
use Rattle.std.specs.List.{AllByRecursion}
use Rattle.std.proofs.lemmas.List.{append-nil}
use Rattle.std.proofs.lemmas.Bool.{false≢true, cases_Bool, cond-true, cond-false}
use Rattle.model.specs.declared.event.Event.{Event}
use Rattle.model.specs.declared.event.Moment.{Moment}
use Rattle.model.specs.declared.event.Moment.TheVariants.{Wrote}
use Rattle.model.specs.declared.event.Writer.TheVariants.{Program}
use Rattle.model.specs.declared.graph.Edge.{Edge}
use Rattle.model.specs.declared.record.Record.{Record}
use Rattle.model.specs.declared.record.DepsRecord.{DepsRecord}
use Rattle.model.specs.World.{World, View, file_at, written, content_of, view_of, runs, IsRunning}
use Rattle.model.specs.Calls.{AllByOthers, OthersWrote, Adds, IsRestart}
use Rattle.model.specs.Graph.{has, edge_at, outputs, IsCommand}
use Rattle.model.specs.Outcome.{Behaviour}
use Rattle.model.specs.Records.{Told, OwnFiles, LogFormat, Made, read_log, store_in, in_force, deps_in_force}
use Rattle.model.specs.Premises.{OwnFilesApart, StampsGrow, NothingIsEdited, IsNoEdit, none_free, HaveEnded}
use Rattle.model.specs.Faithful.{IsReadable, IsFaithfulStore}
use Rattle.model.specs.History.{IsKeptBetween, IsLeftBy, IsEdit, LeavesOutputs}
use Rattle.theory.proofs.Lists.{same_bytes, all_parts, some_none}
use Rattle.theory.proofs.Looks.{none_wrote}
use Rattle.theory.proofs.Files.{file_from-append, file_stays, others_elsewhere}
use Rattle.theory.proofs.Less.{IsLess, nothing_from, NoneRunning, believed_less, store_same, readable_same, less_same}

-- ---- one write

content_written : (content : Option (List ℕ)) (stamp : ℕ) → content_of (written content stamp) ≡ content
content_written None stamp = refl
content_written (Some content) stamp = refl

-- a file that is as it was, or gone
abbrev IsOrGone : View → View → List ℕ → Type 0
IsOrGone old new p = (new p ≡ old p) ⊎ (new p ≡ None)

readable_or_gone : {A : Type 0} (reading : List ℕ → Option (List A)) (old new : Option (List ℕ)) → (new ≡ old) ⊎ (new ≡ None) → IsReadable reading old → IsReadable reading new
readable_or_gone reading old new (inl same) readable content is = readable content (sym same ∙ is)
readable_or_gone reading old new (inr gone) readable content is = absurd (some_none content (sym is ∙ gone))

records_or_gone : (reading : List ℕ → Option (List Record)) (old new : Option (List ℕ)) → (new ≡ old) ⊎ (new ≡ None) → (o : List ℕ) (made : Made) → in_force (read_log reading new) o ≡ Some made → in_force (read_log reading old) o ≡ Some made
records_or_gone reading old new (inl same) o made is = subst (λ (held : Option (List ℕ)). in_force (read_log reading held) o ≡ Some made) same is
records_or_gone reading old new (inr gone) o made is =
    absurd (some_none made (sym is ∙ ap (λ (held : Option (List ℕ)). in_force (read_log reading held) o) gone))

deps_or_gone : (reading : List ℕ → Option (List DepsRecord)) (old new : Option (List ℕ)) → (new ≡ old) ⊎ (new ≡ None) → (o : List ℕ) (deps : Told) → deps_in_force (read_log reading new) o ≡ Some deps → deps_in_force (read_log reading old) o ≡ Some deps
deps_or_gone reading old new (inl same) o deps is = subst (λ (held : Option (List ℕ)). deps_in_force (read_log reading held) o ≡ Some deps) same is
deps_or_gone reading old new (inr gone) o deps is =
    absurd (some_none deps (sym is ∙ ap (λ (held : Option (List ℕ)). deps_in_force (read_log reading held) o) gone))

none_running_less : (format : LogFormat) (own : OwnFiles) (edges : List Edge) (old new : World) → IsLess (store_in format own (view_of new.history)) (store_in format own (view_of old.history)) → new.events ≡ old.events
    → NoneRunning format own edges old → NoneRunning format own edges new
none_running_less format own edges old new less events running job o is makes =
    nothing_from (in_force (store_in format own (view_of new.history)).records o)
    (λ made force. some_none made (sym (less.records o made force) ∙ running job o (subst (λ (l : List Event). runs job l ≡ true) events is) makes))

module _ (B : Behaviour) (format : LogFormat) (own : OwnFiles) (edges : List Edge) (old new : World) (believed : IsFaithfulStore B format own edges old) (stamps : StampsGrow old.history new.history) (events : new.events ≡ old.events) where
  -- nothing was written
  unwritten : new.history ≡ old.history → IsFaithfulStore B format own edges new
  unwritten same =
      let is : (p : List ℕ) → view_of new.history p ≡ view_of old.history p = λ p. ap (λ (h : List Moment). view_of h p) same in
      let less = less_same (store_in format own (view_of new.history)) (store_in format own (view_of old.history)) (store_same format own old.history new.history (is own.build_log) (is own.deps_log)) in
      believed_less B format own edges edges old new [] (same ∙ sym (append-nil old.history)) stamps
      (readable_same format own old.history new.history (is own.build_log) (is own.deps_log) (record { build_log = believed.build_log; deps_log = believed.deps_log }))
      less (λ o made outside force. inl (is o)) (none_running_less format own edges old new less events believed.running) believed

  -- a path was deleted, or one was written that is no log and has no record in force
  written_by : (path : List ℕ) (content : Option (List ℕ)) (stamp : ℕ) → new.history ≡ old.history ++ Wrote Program path content stamp ∷ []
      → (content ≡ None) ⊎ ((in_force (store_in format own (view_of old.history)).records path ≡ None) × (path ≡ own.build_log → ⊥) × (path ≡ own.deps_log → ⊥))
      → IsFaithfulStore B format own edges new
  written_by path content stamp grows harmless =
      believed_less B format own edges edges old new (Wrote Program path content stamp ∷ []) grows stamps
      (record {
        build_log = readable_or_gone format.records (view_of old.history own.build_log) (view_of new.history own.build_log) build_log believed.build_log;
        deps_log = readable_or_gone format.deps (view_of old.history own.deps_log) (view_of new.history own.deps_log) deps_log believed.deps_log;
      })
      less recorded (none_running_less format own edges old new less events believed.running) believed
    where
      view_is : (p : List ℕ) → (view_of new.history p ≡ view_of old.history p) ⊎ ((path ≡ p) × (view_of new.history p ≡ content))
      view_is p =
          let after : file_at new.history p ≡ cond (bytes_eq path p) (written content stamp) (file_at old.history p) =
          ap (λ (h : List Moment). file_at h p) grows ∙ file_from-append p None old.history (Wrote Program path content stamp ∷ []) in
          elim (cases_Bool (bytes_eq path p)) [
            | inl here ↦ inr (same_bytes path p here, ap content_of (after ∙ cond-true (bytes_eq path p) (written content stamp) (file_at old.history p) here) ∙ content_written content stamp)
            | inr there ↦ inl (ap content_of (after ∙ cond-false (bytes_eq path p) (written content stamp) (file_at old.history p) there))
          ]

      is_or_gone : (p : List ℕ) → (content ≡ None) ⊎ (path ≡ p → ⊥) → IsOrGone (view_of old.history) (view_of new.history) p
      is_or_gone p how = elim (view_is p) [
        | inl same ↦ inl same
        | inr here ↦ elim how [
          | inl gone ↦ inr (here.1 ∙ gone)
          | inr other ↦ absurd (other here.0)
        ]
      ]

      build_log : IsOrGone (view_of old.history) (view_of new.history) own.build_log
      build_log = is_or_gone own.build_log (elim harmless [ inl gone ↦ inl gone | inr other ↦ inr other.1 ])

      deps_log : IsOrGone (view_of old.history) (view_of new.history) own.deps_log
      deps_log = is_or_gone own.deps_log (elim harmless [ inl gone ↦ inl gone | inr other ↦ inr other.2 ])

      less : IsLess (store_in format own (view_of new.history)) (store_in format own (view_of old.history))
      less = record {
        records = records_or_gone format.records (view_of old.history own.build_log) (view_of new.history own.build_log) build_log;
        deps = deps_or_gone format.deps (view_of old.history own.deps_log) (view_of new.history own.deps_log) deps_log;
      }

      recorded : (o : List ℕ) (made : Made) → own.set o ≡ false → in_force (store_in format own (view_of old.history)).records o ≡ Some made → (view_of new.history o ≡ view_of old.history o) ⊎ (view_of new.history o ≡ None)
      recorded o made outside force = is_or_gone o (elim harmless [
        | inl gone ↦ inl gone
        | inr other ↦ inr (λ same. some_none made (sym force ∙ subst (λ (p : List ℕ). in_force (store_in format own (view_of old.history)).records p ≡ None) same other.0))
      ])

  -- ---- an edit, while no command runs and nobody else edits

  module _ (ended : HaveEnded old) (edits : NothingIsEdited old.history new.history) where
    nothing_more : (ms : List Moment) → AllByOthers (IsRunning old.events) ms → AllByRecursion (IsNoEdit none_free) ms → ms ≡ []
    nothing_more ms all none = none_wrote (IsRunning old.events) ms (λ job runs. false≢true (sym (ended job) ∙ runs)) all none

    only_looked : OthersWrote (IsRunning old.events) old.history new.history → new.history ≡ old.history
    only_looked wrote = wrote.grows ∙ (ap (λ (l : List Moment). old.history ++ l) (nothing_more wrote.more wrote.all (edits wrote.more wrote.grows)) ∙ append-nil old.history)

    only_wrote : (path : List ℕ) (content : Option (List ℕ)) (stamp : ℕ) → Adds (IsRunning old.events) (IsRunning old.events) (Wrote Program path content stamp) old.history new.history
        → new.history ≡ old.history ++ Wrote Program path content stamp ∷ []
    only_wrote path content stamp adds =
        let parts = all_parts (IsNoEdit none_free) adds.earlier (Wrote Program path content stamp ∷ adds.later) (edits (adds.earlier ++ Wrote Program path content stamp ∷ adds.later) adds.grows) in
        adds.grows
        ∙ (ap (λ (l : List Moment). old.history ++ (l ++ Wrote Program path content stamp ∷ adds.later)) (nothing_more adds.earlier adds.all_earlier parts.0)
        ∙ ap (λ (l : List Moment). old.history ++ Wrote Program path content stamp ∷ l) (nothing_more adds.later adds.all_later parts.1.1))

    looked_keeps : OthersWrote (IsRunning old.events) old.history new.history → IsFaithfulStore B format own edges new
    looked_keeps wrote = unwritten (only_looked wrote)

    pub edit_keeps : (tells : Bool) → IsTrue tells → (path : List ℕ) (content : Option (List ℕ)) → IsEdit tells path content old new → LeavesOutputs format own path content old → IsFaithfulStore B format own edges new
    edit_keeps tells tell path content edit leaves = elim (edit.does tell) [
      | inl done ↦ written_by path content done.0 (only_wrote path content done.0 done.1) (harmless content leaves)
      | inr refused ↦ by_refusal content leaves refused.1
    ]
      where
        harmless : (c : Option (List ℕ)) → LeavesOutputs format own path c old
            → (c ≡ None) ⊎ ((in_force (store_in format own (view_of old.history)).records path ≡ None) × (path ≡ own.build_log → ⊥) × (path ≡ own.deps_log → ⊥))
        harmless None leaves = inl refl
        harmless (Some c) leaves = inr leaves

        by_refusal : (c : Option (List ℕ)) → LeavesOutputs format own path c old → IsLeftBy path c old new → IsFaithfulStore B format own edges new
        by_refusal None leaves (inl same) = looked_keeps same
        by_refusal None leaves (inr done) = written_by path None done.0 (only_wrote path None done.0 done.1) (inl refl)
        by_refusal (Some c) leaves (inl same) = looked_keeps same
        by_refusal (Some c) leaves (inr (other, done)) = written_by path (Some other) done.0 (only_wrote path (Some other) done.0 done.1) (inr leaves)

-- ---- what running commands write

-- a log is no output and no depfile of a command edge
pub log_apart : (own : OwnFiles) (edges : List Edge) (log : List ℕ) → OwnFilesApart own edges → own.files log ≡ true → (job : ℕ) → IsCommand edges job
    → (has (outputs (edge_at edges job)) log ≡ true → ⊥) × (log ≡ (edge_at edges job).act.depfile → ⊥)
log_apart own edges log apart mine job command = (
  (λ makes. false≢true (sym (apart.outputs job log makes) ∙ apart.within log mine)),
  (λ is. false≢true (sym (apart.depfiles job command).1 ∙ (ap own.files (sym is) ∙ mine))),
)

-- after a restart no command runs
pub restarted_idle : (tells : Bool) (old new : World) → IsRestart tells old new → HaveEnded new
restarted_idle tells old new restart job = ap (λ (l : List Event). runs job l) restart.events

-- While others write, as edges with a command whose files are apart, or free paths, the store stays faithful, if no command runs then.
pub others_keep : (B : Behaviour) (format : LogFormat) (own : OwnFiles) (edges : List Edge) (old new : World) → ((job : ℕ) → runs job old.events ≡ true → IsCommand edges job × OwnFilesApart own edges)
    → OthersWrote (IsRunning old.events) old.history new.history → HaveEnded new → IsKeptBetween format own edges old new
    → IsFaithfulStore B format own edges old → IsFaithfulStore B format own edges new
others_keep B format own edges old new running wrote idle between believed =
    believed_less B format own edges edges old new wrote.more wrote.grows between.stamps
    (readable_same format own old.history new.history build_log deps_log (record { build_log = believed.build_log; deps_log = believed.deps_log }))
    (less_same (store_in format own (view_of new.history)) (store_in format own (view_of old.history)) (store_same format own old.history new.history build_log deps_log))
    (λ o made outside force. inl (stays o (bound o made force)
    (λ job is makes. some_none made (sym force ∙ believed.running job o is makes))
    (λ job is same. false≢true (sym outside ∙ (ap own.set same ∙ ((running job is).1.depfiles job (running job is).0).0)))))
    (λ job o is makes. absurd (false≢true (sym (idle job) ∙ is))) believed
  where
    bound : (o : List ℕ) (made : Made) → in_force (store_in format own (view_of old.history)).records o ≡ Some made → between.free o ≡ false
    bound o made force = elim (cases_Bool (between.free o)) [
      | inl is_free ↦ absurd (some_none made (sym force ∙ between.unrecorded o is_free))
      | inr not ↦ not
    ]

    stays : (p : List ℕ) → between.free p ≡ false → ((job : ℕ) → IsRunning old.events job → has (outputs (edge_at edges job)) p ≡ true → ⊥) → ((job : ℕ) → IsRunning old.events job → p ≡ (edge_at edges job).act.depfile → ⊥)
        → view_of new.history p ≡ view_of old.history p
    stays p free outs deps =
        ap content_of (ap (λ (h : List Moment). file_at h p) wrote.grows
        ∙ file_stays p old.history wrote.more (others_elsewhere between.free edges (IsRunning old.events) p free outs deps wrote.more wrote.all (between.commands wrote.more wrote.grows) (between.edits wrote.more wrote.grows)))

    log_stays : (log : List ℕ) → between.free log ≡ false → ((job : ℕ) → IsRunning old.events job → own.files log ≡ true) → view_of new.history log ≡ view_of old.history log
    log_stays log free mine = stays log free
        (λ job is makes. (log_apart own edges log (running job is).1 (mine job is) job (running job is).0).0 makes)
        (λ job is same. (log_apart own edges log (running job is).1 (mine job is) job (running job is).0).1 same)

    build_log : view_of new.history own.build_log ≡ view_of old.history own.build_log
    build_log = log_stays own.build_log between.logs.0 (λ job is. (running job is).1.build_log)

    deps_log : view_of new.history own.deps_log ≡ view_of old.history own.deps_log
    deps_log = log_stays own.deps_log between.logs.1 (λ job is. (running job is).1.deps_log)

-- Commands that end at a restart keep it so.
pub restart_keeps : (tells : Bool) (B : Behaviour) (format : LogFormat) (own : OwnFiles) (edges : List Edge) (old new : World) → ((job : ℕ) → runs job old.events ≡ true → IsCommand edges job × OwnFilesApart own edges)
    → IsRestart tells old new → IsTrue tells → IsKeptBetween format own edges old new
    → IsFaithfulStore B format own edges old → IsFaithfulStore B format own edges new
restart_keeps tells B format own edges old new running restart tell between believed =
    others_keep B format own edges old new running (restart.history tell) (restarted_idle tells old new restart) between believed

-- where no command runs, a call that only looks keeps it
pub nothing_keeps : (B : Behaviour) (format : LogFormat) (own : OwnFiles) (edges : List Edge) (old new : World) → IsFaithfulStore B format own edges old → new.events ≡ old.events → HaveEnded old
    → IsKeptBetween format own edges old new → OthersWrote (IsRunning old.events) old.history new.history → IsFaithfulStore B format own edges new
nothing_keeps B format own edges old new believed events ended between wrote =
    others_keep B format own edges old new (λ job is. absurd (false≢true (sym (ended job) ∙ is))) wrote (λ job. ap (λ (l : List Event). runs job l) events ∙ ended job) between believed
