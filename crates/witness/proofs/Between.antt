-- What the logs tell between the moves, what the commands told, and the premises of each build.
use Rattle.std.proofs.Common.{◌≡◌, inl, inr, ℕ, true, false, List, [], ◌∷◌, ◌++◌, Option, take, refl, arith}
use Rattle.std.specs.Prelude.{codes}
use Rattle.model.specs.World.{view_of}
use Rattle.model.specs.Graph.{Addition}
use Rattle.model.specs.Outcome.{Behaviour}
use Rattle.model.specs.Records.{Store, LogFormat, OwnFiles, IsOwnIn, store_in, recorded_inputs}
use Rattle.model.specs.Schedule.{Step, Judged, Started, Ended}
use Rattle.model.specs.Premises.{Premises, KeepsFaith}
use Rattle.log_text.specs.declared.form.Version.TheVariants.{Two}
use Rattle.log_text.specs.Form.{HaveLines}
use Rattle.log_text.specs.BuildRecord.{forms as record_forms}
use Rattle.log_text.specs.DepsRecordLine.{forms as deps_forms}
use Rattle.log_text.specs.DepsFormat.{ReadsLogs}
use Rattle.witness.specs.Scanning.{edges, toys, own, told, store_of}
use Rattle.witness.specs.Worlds.{failed_log, stopped_log, built_log, last_log, failing, stopping, succeeding, again, named, failed, edited, stopped, restarted_world, built, edited_again, last}
use Rattle.witness.proofs.Given.{ReadsNames, h_is_name, k_is_name}
use Rattle.witness.proofs.Logs.{begun_line, copied_line, scanned_line, told_line, log_read, deps_read, store_is}
use Rattle.witness.proofs.Outcomes.{one_copied, one_scanned, left_copy, left_scan}
use Rattle.witness.proofs.TwoBuilt.{AtEach, EndsIn, EndsTelling, LeavesAt, premises_of}

-- ---- what the logs tell between the moves

abbrev pub no_store : Store
no_store = store_of [] []

abbrev pub failed_store : Store
failed_store = store_of failed_log []

abbrev pub stopped_store : Store
stopped_store = store_of stopped_log []

abbrev pub built_store : Store
built_store = store_of built_log (told 20 ∷ [])

abbrev pub last_store : Store
last_store = store_of last_log (told 20 ∷ told 34 ∷ [])

failed_lines : HaveLines (record_forms Two) failed_log
failed_lines = (begun_line (codes "h") refl, (copied_line 6 (omega arith), (begun_line (codes "b") refl, tt)))

stopped_lines : HaveLines (record_forms Two) stopped_log
stopped_lines = (begun_line (codes "h") refl, (copied_line 6 (omega arith), (begun_line (codes "b") refl, (begun_line (codes "b") refl, tt))))

built_lines : HaveLines (record_forms Two) built_log
built_lines = (begun_line (codes "h") refl, (copied_line 6 (omega arith), (begun_line (codes "b") refl, (begun_line (codes "b") refl, (begun_line (codes "b") refl, (scanned_line 20 (omega arith), tt))))))

last_lines : HaveLines (record_forms Two) last_log
last_lines = (begun_line (codes "h") refl, (copied_line 6 (omega arith), (begun_line (codes "b") refl, (begun_line (codes "b") refl, (begun_line (codes "b") refl, (scanned_line 20 (omega arith), (begun_line (codes "h") refl, (copied_line 29 (omega arith), (begun_line (codes "b") refl, (scanned_line 34 (omega arith), tt))))))))))

built_told : HaveLines (deps_forms Two) (told 20 ∷ [])
built_told = (told_line 20 (omega arith), tt)

last_told : HaveLines (deps_forms Two) (told 20 ∷ told 34 ∷ [])
last_told = (told_line 20 (omega arith), (told_line 34 (omega arith), tt))

module _ (format : LogFormat) (reads_logs : ReadsLogs format) (all : OwnFiles) (fits : IsOwnIn all []) where
  pub at_named : no_store ≡ store_in format all (view_of named.history)
  at_named = store_is format all fits (view_of named.history) [] [] refl refl

  pub at_failed : failed_store ≡ store_in format all (view_of failed.history)
  at_failed = store_is format all fits (view_of failed.history) failed_log [] (log_read format reads_logs failed_log failed_lines) refl

  pub at_edited : failed_store ≡ store_in format all (view_of edited.history)
  at_edited = store_is format all fits (view_of edited.history) failed_log [] (log_read format reads_logs failed_log failed_lines) refl

  pub at_stopped : stopped_store ≡ store_in format all (view_of stopped.history)
  at_stopped = store_is format all fits (view_of stopped.history) stopped_log [] (log_read format reads_logs stopped_log stopped_lines) refl

  pub at_built : built_store ≡ store_in format all (view_of built.history)
  at_built = store_is format all fits (view_of built.history) built_log (told 20 ∷ []) (log_read format reads_logs built_log built_lines) (deps_read format reads_logs (told 20 ∷ []) built_told)

  pub at_edited_again : built_store ≡ store_in format all (view_of edited_again.history)
  at_edited_again = store_is format all fits (view_of edited_again.history) built_log (told 20 ∷ []) (log_read format reads_logs built_log built_lines) (deps_read format reads_logs (told 20 ∷ []) built_told)

  pub at_last : last_store ≡ store_in format all (view_of last.history)
  at_last = store_is format all fits (view_of last.history) last_log (told 20 ∷ told 34 ∷ []) (log_read format reads_logs last_log last_lines) (deps_read format reads_logs (told 20 ∷ told 34 ∷ []) last_told)

-- ---- steps

-- both commands run, and the second fails
abbrev pub failing_steps : List Step
failing_steps = Judged 1 true ∷ Started 1 ∷ Ended 1 true ∷ Judged 2 true ∷ Started 2 ∷ Ended 2 false ∷ []

-- the first is not out of date, and the second runs
abbrev pub stopping_steps : List Step
stopping_steps = Judged 1 false ∷ Judged 2 true ∷ Started 2 ∷ []

abbrev pub good_steps : List Step
good_steps = Judged 1 false ∷ Judged 2 true ∷ Started 2 ∷ Ended 2 true ∷ []

-- both run
abbrev pub all_steps : List Step
all_steps = Judged 1 true ∷ Started 1 ∷ Ended 1 true ∷ Judged 2 true ∷ Started 2 ∷ Ended 2 true ∷ []

-- ---- what the commands told at their ends, and the premises of each build

module _ (reading : List ℕ → Option (List (List ℕ))) (dyndep : List ℕ → Option (List Addition)) (reads : ReadsNames reading) where
  abbrev B : Behaviour
  B = toys reading dyndep

  pub failing_ends : AtEach (EndsIn (EndsTelling reading dyndep no_store [] refl refl tt named.history failing_steps)) [] failing
  failing_ends = (tt, (tt, (tt, (tt, (tt, ((refl, refl), (tt, (tt, (tt, (tt, (tt, (tt, tt))))))))))))

  pub stopping_ends : AtEach (EndsIn (EndsTelling reading dyndep failed_store [] refl refl tt edited.history stopping_steps)) [] stopping
  stopping_ends = (tt, (tt, (tt, (tt, (tt, (tt, tt))))))

  pub succeeding_ends : AtEach (EndsIn (EndsTelling reading dyndep stopped_store [] refl refl tt restarted_world.history good_steps)) [] succeeding
  succeeding_ends = (tt, (tt, (tt, (tt, (tt, (tt, ((refl, reads.h), (tt, (tt, (tt, (tt, tt)))))))))))

  pub again_ends : AtEach (EndsIn (EndsTelling reading dyndep built_store (codes "h" ∷ []) refl refl (refl, tt) edited_again.history all_steps)) [] again
  again_ends = (tt, (tt, (tt, (tt, ((refl, refl), (tt, (tt, (tt, (tt, (tt, (tt, (tt, ((refl, reads.h), (tt, (tt, (tt, tt))))))))))))))))

  failing_copy : LeavesAt reading dyndep no_store [] refl refl tt named.history failed.history 1 (take 5 failing)
  failing_copy = λ since. left_copy reading dyndep since failed.history (named.history ++ take 5 failing) (codes "x") refl refl

  pub failing_keeps : Premises B own edges edges (recorded_inputs no_store edges) failing_steps named.history failed.history × KeepsFaith B own edges no_store failing_steps named.history failed.history
  failing_keeps =
      premises_of reading dyndep no_store [] refl refl tt failing_steps named.history failing (λ i h. h)
      (one_copied reading dyndep (view_of failed.history)) (one_scanned reading dyndep (codes "k") k_is_name reads.k (view_of failed.history) refl)
      (tt, (tt, (tt, (tt, (inl refl, (tt, (tt, (tt, (tt, (tt, (tt, (tt, tt))))))))))))
      (tt, (tt, (tt, (tt, (tt, (tt, (tt, (tt, (tt, (tt, (tt, (tt, tt))))))))))))
      (omega arith, (omega arith, (omega arith, (omega arith, (omega arith, (omega arith, (omega arith, (omega arith, tt))))))))
      failing_ends
      (tt, (tt, (tt, (tt, (tt, (failing_copy, (tt, (tt, (tt, (tt, (tt, (tt, tt))))))))))))

  pub stopping_keeps : Premises B own edges edges (recorded_inputs failed_store edges) stopping_steps edited.history stopped.history × KeepsFaith B own edges failed_store stopping_steps edited.history stopped.history
  stopping_keeps =
      premises_of reading dyndep failed_store [] refl refl tt stopping_steps edited.history stopping (λ i h. h)
      (one_copied reading dyndep (view_of stopped.history)) (one_scanned reading dyndep (codes "h") h_is_name reads.h (view_of stopped.history) refl)
      (tt, (tt, (tt, (tt, (inl refl, (inr (inl refl), tt))))))
      (tt, (tt, (tt, (tt, (tt, (tt, tt))))))
      (omega arith, (omega arith, (omega arith, (omega arith, (omega arith, tt)))))
      stopping_ends
      (tt, (tt, (tt, (tt, (tt, (tt, tt))))))

  succeeding_scan : LeavesAt reading dyndep stopped_store [] refl refl tt restarted_world.history built.history 2 (take 6 succeeding)
  succeeding_scan = λ since. left_scan reading dyndep (codes "h") h_is_name reads.h since built.history (restarted_world.history ++ take 6 succeeding) (codes "x") refl refl refl refl

  pub succeeding_keeps : Premises B own edges edges (recorded_inputs stopped_store edges) good_steps restarted_world.history built.history × KeepsFaith B own edges stopped_store good_steps restarted_world.history built.history
  succeeding_keeps =
      premises_of reading dyndep stopped_store [] refl refl tt good_steps restarted_world.history succeeding (λ i h. h)
      (one_copied reading dyndep (view_of built.history)) (one_scanned reading dyndep (codes "h") h_is_name reads.h (view_of built.history) refl)
      (tt, (tt, (tt, (tt, (inl refl, (inr (inl refl), (tt, (tt, (tt, (tt, (tt, tt)))))))))))
      (tt, (tt, (tt, (tt, (tt, (tt, (tt, (tt, (tt, (tt, (tt, tt)))))))))))
      (omega arith, (omega arith, (omega arith, (omega arith, (omega arith, (omega arith, (omega arith, (omega arith, (omega arith, tt)))))))))
      succeeding_ends
      (tt, (tt, (tt, (tt, (tt, (tt, (succeeding_scan, (tt, (tt, (tt, (tt, tt)))))))))))

  again_copy : LeavesAt reading dyndep built_store (codes "h" ∷ []) refl refl (refl, tt) edited_again.history last.history 1 (take 4 again)
  again_copy = λ since. left_copy reading dyndep since last.history (edited_again.history ++ take 4 again) (codes "y") refl refl

  again_scan : LeavesAt reading dyndep built_store (codes "h" ∷ []) refl refl (refl, tt) edited_again.history last.history 2 (take 12 again)
  again_scan = λ since. left_scan reading dyndep (codes "h") h_is_name reads.h since last.history (edited_again.history ++ take 12 again) (codes "y") refl refl refl refl

  pub again_keeps : Premises B own edges edges (recorded_inputs built_store edges) all_steps edited_again.history last.history × KeepsFaith B own edges built_store all_steps edited_again.history last.history
  again_keeps =
      premises_of reading dyndep built_store (codes "h" ∷ []) refl refl (refl, tt) all_steps edited_again.history again (λ i h. h)
      (one_copied reading dyndep (view_of last.history)) (one_scanned reading dyndep (codes "h") h_is_name reads.h (view_of last.history) refl)
      (tt, (tt, (tt, (inl refl, (tt, (tt, (tt, (tt, (tt, (tt, (inl refl, (inr (inl refl), (tt, (tt, (tt, (tt, tt))))))))))))))))
      (tt, (tt, (tt, (tt, (tt, (tt, (tt, (tt, (tt, (tt, (tt, (tt, (tt, (tt, (tt, (tt, tt))))))))))))))))
      (omega arith, (omega arith, (omega arith, (omega arith, (omega arith, (omega arith, (omega arith, (omega arith, (omega arith, (omega arith, (omega arith, (omega arith, tt))))))))))))
      again_ends
      (tt, (tt, (tt, (tt, (again_copy, (tt, (tt, (tt, (tt, (tt, (tt, (tt, (again_scan, (tt, (tt, (tt, tt))))))))))))))))
