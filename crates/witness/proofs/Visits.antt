-- The history of the site in memory meets the premises of the headline.
use Rattle.std.proofs.Common.{◌≡◌, inl, inr, ℕ, true, false, List, [], ◌∷◌, ◌++◌, Option, Some, None, Result, refl, sym, ◌∙◌, ap, subst, bytes_eq, arith}
use Rattle.std.proofs.lemmas.Bool.{false≢true}
use Rattle.std.proofs.lemmas.List.{append_cancel_left}
use Rattle.std.specs.Prelude.{codes}
use Rattle.std.specs.List.{AllByRecursion}
use Rattle.model.specs.declared.event.Moment.{Moment}
use Rattle.model.specs.declared.fault.SiteFault.TheVariants.{Stopped}
use Rattle.model.specs.declared.moves.Move.{Move}
use Rattle.model.specs.declared.moves.Move.TheVariants.{Write, Build}
use Rattle.model.specs.World.{World, view_of, next_stamp}
use Rattle.model.specs.Graph.{Addition}
use Rattle.model.specs.Outcome.{Behaviour}
use Rattle.model.specs.Records.{Store, LogFormat, file_in, build_log_name, store_in, in_force, recorded_inputs}
use Rattle.model.specs.Kept.{KeepsRecords, LeavesNothing}
use Rattle.model.specs.Premises.{Increases, StampsGrow, IsNoEdit, NothingIsEdited, IsWithinEdge, KeepToOutputs, none_free}
use Rattle.model.specs.SingleBuild.{Success, Failed, Fault}
use Rattle.model.specs.Faithful.{IsFaithfulStore}
use Rattle.model.specs.History.{Visit, Edited, Built, Unread, Restarted, IsEdit, LeavesOutputs, Keeps}
use Rattle.model.specs.Driven.{CarriesOut, HasLogs}
use Rattle.depfile.specs.Depfile.{IsRead}
use Rattle.depfile.specs.declared.fault.DepFault.{DepFault}
use Rattle.log_text.specs.DepsFormat.{ReadsLogs}
use Rattle.witness.specs.Scanning.{edges, asked, file_text, naming, toys, own}
use Rattle.witness.specs.Worlds.{put, moves, first, declared, sourced, named, failed, edited, stopped, restarted_world, built, edited_again, last}
use Rattle.witness.specs.Met.{one_graph, IsInFolder, Meets, HistoryIsMet}
use Rattle.witness.proofs.MetLists.{none_some, bytes_same}
use Rattle.witness.proofs.Given.{ReadsNames, reads_names, h_is_name}
use Rattle.witness.proofs.Outcomes.{reports_view}
use Rattle.witness.proofs.OfSim.{of_sim}
use Rattle.witness.proofs.Called.{called}
use Rattle.witness.proofs.TwoBuilt.{own_fits}
use Rattle.witness.proofs.Between.{no_store, failed_store, stopped_store, built_store, at_failed, at_stopped, at_built, at_edited_again, at_last, failing_steps, stopping_steps, good_steps, all_steps, failing_keeps, stopping_keeps, succeeding_keeps, again_keeps}
use Rattle.witness.proofs.FourBuilds.{ended, both_ended, failing_build, stopping_build, succeeding_build, building_again}
use Rattle.witness.proofs.KeptLogs.{failing_logs, stopping_logs, succeeding_logs, again_logs, nothing_left, nothing_left_again}

-- ---- edits and the restart

edits : (path content : List ℕ) (old new : World) (stamp : ℕ) → new.events ≡ old.events → new.earlier ≡ old.earlier → new.history ≡ old.history ++ put path content stamp ∷ []
    → IsEdit true path (Some content) old new
edits path content old new stamp events earlier grows = record {
  events = events;
  earlier = earlier;
  does = λ told. inl (stamp, record { earlier = []; later = []; grows = grows; all_earlier = tt; all_later = tt });
}

none_left : (move : Move) (rest : List Move) → move ∷ rest ≡ [] → ⊥
none_left move rest e = cc

stamps : (old more : List Moment) → Increases (next_stamp old) more → StampsGrow old (old ++ more)
stamps old more grow added is = subst (Increases (next_stamp old)) (append_cancel_left old more added is) grow

unedited : (old more : List Moment) → AllByRecursion (IsNoEdit none_free) more → NothingIsEdited old (old ++ more)
unedited old more edits added is = subst (AllByRecursion (IsNoEdit none_free)) (append_cancel_left old more added is) edits

to_outputs : (old more : List Moment) → AllByRecursion (IsWithinEdge none_free edges) more → KeepToOutputs none_free edges old (old ++ more)
to_outputs old more within added is = subst (AllByRecursion (IsWithinEdge none_free edges)) (append_cancel_left old more added is) within

differ : (p q : List ℕ) → bytes_eq p q ≡ false → p ≡ q → ⊥
differ p q differs same = false≢true (sym differs ∙ subst (λ (r : List ℕ). bytes_eq p r ≡ true) same (bytes_same p))

is_left : (format : LogFormat) (path content : List ℕ) (old : World) → in_force (store_in format own (view_of old.history)).records path ≡ None
    → bytes_eq path own.build_log ≡ false → bytes_eq path own.deps_log ≡ false → LeavesOutputs format own path (Some content) old
is_left format path content old none no_log no_deps = (none, differ path own.build_log no_log, differ path own.deps_log no_deps)

-- ---- another folder

other_log : own.build_log ≡ file_in (codes "out") build_log_name → ⊥
other_log same = false≢true (ap (λ (p : List ℕ). bytes_eq (file_in (codes "out") build_log_name) p) same)

one_folder : {B : Behaviour} {format : LogFormat} (v : Visit true B format) → IsInFolder (codes "out") v → Keeps own v → ⊥
one_folder (Edited path content old new change) is kept = is
one_folder (Built wanted old new answer build) is kept = other_log (subst (λ (folder : List ℕ). own.build_log ≡ file_in folder build_log_name) is kept.1.0.build_log)
one_folder (Unread old new answer cause) is kept = is
one_folder (Restarted others old new restart) is kept = is

-- ---- the history

module _ (reading : List ℕ → Option (List (List ℕ))) (dyndep : List ℕ → Option (List Addition)) (reads : ReadsNames reading) (format : LogFormat) (reads_logs : ReadsLogs format) where
  abbrev B : Behaviour
  B = toys reading dyndep

  abbrev visits : List (Visit true B format)
  visits =
      Edited (codes "build.ninja") (Some file_text) first declared (edits (codes "build.ninja") file_text first declared 1 refl refl refl)
      ∷ Edited (codes "g") (Some (codes "x")) declared sourced (edits (codes "g") (codes "x") declared sourced 2 refl refl refl)
      ∷ Edited (codes "a") (Some (naming (codes "k"))) sourced named (edits (codes "a") (naming (codes "k")) sourced named 3 refl refl refl)
      ∷ Built asked named failed (Failed (codes "b" ∷ [])) (failing_build reading dyndep reads format reads_logs)
      ∷ Edited (codes "a") (Some (naming (codes "h"))) failed edited (edits (codes "a") (naming (codes "h")) failed edited 12 refl refl refl)
      ∷ Built asked edited stopped (Fault Stopped) (stopping_build reading dyndep reads format reads_logs)
      ∷ Restarted edges stopped restarted_world (record { earlier = refl; events = refl; stopped = refl; waits = refl; history = λ told. record { more = []; grows = refl; all = tt } })
      ∷ Built asked restarted_world built (Success 1) (succeeding_build reading dyndep reads format reads_logs)
      ∷ Edited (codes "g") (Some (codes "y")) built edited_again (edits (codes "g") (codes "y") built edited_again 27 refl refl refl)
      ∷ Built asked edited_again last (Success 2) (building_again reading dyndep reads format reads_logs)
      ∷ []

  abbrev eighth : List Move
  eighth = Write (codes "g") (codes "y") ∷ Build [] ∷ []

  abbrev fifth : List Move
  fifth = Write (codes "a") (naming (codes "h")) ∷ Build [] ∷ Build [] ∷ eighth

  abbrev second : List Move
  second = Write (codes "g") (codes "x") ∷ Write (codes "a") (naming (codes "k")) ∷ Build [] ∷ fifth

  carries : CarriesOut one_graph moves visits
  carries = inr (
    Write (codes "build.ninja") file_text,
    second,
    refl,
    (refl, refl),
    inr (
      Write (codes "g") (codes "x"),
      Write (codes "a") (naming (codes "k")) ∷ Build [] ∷ fifth,
      refl,
      (refl, refl),
      inr (
        Write (codes "a") (naming (codes "k")),
        Build [] ∷ fifth,
        refl,
        (refl, refl),
        inr (
          Build [],
          fifth,
          refl,
          (refl, refl),
          inr (
            Write (codes "a") (naming (codes "h")),
            Build [] ∷ Build [] ∷ eighth,
            refl,
            (refl, refl),
            inr (
              Build [],
              Build [] ∷ eighth,
              refl,
              (refl, refl),
              inl (
                refl,
                none_left (Build []) eighth,
                inr (
                  Build [],
                  eighth,
                  refl,
                  (refl, refl),
                  inr (Write (codes "g") (codes "y"), Build [] ∷ [], refl, (refl, refl), inr (Build [], [], refl, (refl, refl), refl)),
                ),
              ),
            ),
          ),
        ),
      ),
    ),
  )

  none_in_force : (store : Store) (old : World) (path : List ℕ) → store ≡ store_in format own (view_of old.history) → in_force store.records path ≡ None
      → in_force (store_in format own (view_of old.history)).records path ≡ None
  none_in_force store old path same none = subst (λ (s : Store). in_force s.records path ≡ None) same none

  keeps : AllByRecursion (λ (v : Visit true B format). Keeps own v) visits
  keeps = (
    (
      λ job. refl,
      stamps [] (put (codes "build.ninja") file_text 1 ∷ []) (omega arith, tt),
      unedited [] (put (codes "build.ninja") file_text 1 ∷ []) (tt, tt),
      is_left format (codes "build.ninja") file_text first refl refl refl,
    ),
    (
      (
        λ job. refl,
        stamps declared.history (put (codes "g") (codes "x") 2 ∷ []) (omega arith, tt),
        unedited declared.history (put (codes "g") (codes "x") 2 ∷ []) (tt, tt),
        is_left format (codes "g") (codes "x") declared refl refl refl,
      ),
      (
        (
          λ job. refl,
          stamps sourced.history (put (codes "a") (naming (codes "k")) 3 ∷ []) (omega arith, tt),
          unedited sourced.history (put (codes "a") (naming (codes "k")) 3 ∷ []) (tt, tt),
          is_left format (codes "a") (naming (codes "k")) sourced refl refl refl,
        ),
        (
          (λ job. refl, (own_fits, (failing_keeps reading dyndep reads).1)),
          (
            (
              both_ended 6 11 false,
              stamps failed.history (put (codes "a") (naming (codes "h")) 12 ∷ []) (omega arith, tt),
              unedited failed.history (put (codes "a") (naming (codes "h")) 12 ∷ []) (tt, tt),
              is_left format (codes "a") (naming (codes "h")) failed (none_in_force failed_store failed (codes "a") (at_failed format reads_logs own own_fits) refl) refl refl,
            ),
            (
              (both_ended 6 11 false, (own_fits, (stopping_keeps reading dyndep reads).1)),
              (
                (record {
                  free = none_free;
                  free_apart = record { set = λ p is. refl; outputs = λ i p makes is. refl };
                  unrecorded = λ p is. absurd (false≢true is);
                  logs = (refl, refl);
                  stamps = stamps stopped.history [] tt;
                  commands = to_outputs stopped.history [] tt;
                  edits = unedited stopped.history [] tt;
                }),
                (
                  (λ job. refl, (own_fits, (succeeding_keeps reading dyndep reads).1)),
                  (
                    (
                      ended 2 20 true,
                      stamps built.history (put (codes "g") (codes "y") 27 ∷ []) (omega arith, tt),
                      unedited built.history (put (codes "g") (codes "y") 27 ∷ []) (tt, tt),
                      is_left format (codes "g") (codes "y") built (none_in_force built_store built (codes "g") (at_built format reads_logs own own_fits) refl) refl refl,
                    ),
                    ((ended 2 20 true, (own_fits, (again_keeps reading dyndep reads).1)), tt),
                  ),
                ),
              ),
            ),
          ),
        ),
      ),
    ),
  )

  logs : AllByRecursion HasLogs visits
  logs = (
    tt,
    (
      tt,
      (
        tt,
        (
          λ all fits. record {
            records = λ tells kept. subst (λ (s : Store). KeepsRecords B asked no_store s failing_steps None named failed) (at_failed format reads_logs all fits) (failing_logs reading dyndep reads);
            settled = λ tells success. absurd success;
          },
          (
            tt,
            (
              λ all fits. record {
                records = λ tells kept. subst (λ (s : Store). KeepsRecords B asked failed_store s stopping_steps None edited stopped) (at_stopped format reads_logs all fits) (stopping_logs reading dyndep reads);
                settled = λ tells success. absurd success;
              },
              (
                tt,
                (
                  λ all fits. record {
                    records = λ tells kept. subst (λ (s : Store). KeepsRecords B asked stopped_store s good_steps None restarted_world built) (at_built format reads_logs all fits) (succeeding_logs reading dyndep reads);
                    settled = λ tells success start files.
                        subst (λ (s : Store). LeavesNothing files.quiet asked stopped_store s good_steps restarted_world.history built.history) (at_built format reads_logs all fits) (nothing_left files.quiet);
                  },
                  (
                    tt,
                    (
                      λ all fits. record {
                        records = λ tells kept. subst (λ (s : Store). KeepsRecords B asked built_store s all_steps None edited_again last) (at_last format reads_logs all fits) (again_logs reading dyndep reads);
                        settled = λ tells success start files.
                            subst (λ (s : Store). LeavesNothing files.quiet asked built_store s all_steps edited_again.history last.history) (at_last format reads_logs all fits) (nothing_left_again files.quiet);
                      },
                      tt,
                    ),
                  ),
                ),
              ),
            ),
          ),
        ),
      ),
    ),
  )

  faithful : IsFaithfulStore B format own [] first
  faithful = record {
    build_log = λ content is. absurd (none_some content is);
    deps_log = λ content is. absurd (none_some content is);
    records = λ o made is. absurd (none_some made is);
    deps = λ o told is. absurd (none_some told is);
    running = λ job o is h. absurd (false≢true is);
  }

  meets : Meets B format
  meets = record {
    visits = visits;
    history = (λ job. refl, (refl, tt, (refl, tt, (refl, tt, (refl, tt, (refl, tt, (refl, tt, (refl, refl, (refl, tt, (refl, tt, (refl, tt, refl)))))))))));
    carries = carries;
    restarts = (refl, (refl, (refl, (refl, (refl, (refl, (refl, (refl, (refl, (refl, tt))))))))));
    answers = refl;
    exits = refl;
    faithful = faithful;
    keeps = keeps;
    logs = logs;
    reports = reports_view reading dyndep (codes "h") h_is_name reads.h (view_of last.history) (codes "y") refl refl;
    above = refl;
    recorded = subst (λ (s : Store). recorded_inputs s edges 2 ≡ codes "h" ∷ []) (at_edited_again format reads_logs own own_fits) refl;
    one_folder = one_folder;
  }

pub history_met : ((bytes : List ℕ) (a b : Result (List (List ℕ)) DepFault) → IsRead bytes a → IsRead bytes b → a ≡ b) → HistoryIsMet
history_met one = record { of_sim = of_sim; called = called; meets = λ depfile dyndep format is_reading reads_logs. meets depfile dyndep (reads_names one depfile is_reading) format reads_logs }
