-- One command from the entry to the exit, call by call: how the lemmas of a run are put together. Nothing cites it.
use Rattle.std.proofs.Common.{◌≡◌, ◌≢◌, inl, inr, ℕ, Bool, true, IsTrue, List, [], ◌∷◌, Option, Some, None, refl}
use Rattle.model.specs.World.{World, view_of, IsIdle, file_at, content_of}
use Rattle.model.specs.Calls.{OnlyLooks, Ticks, Writes, Starts, Finishes, Sees}
use Rattle.model.specs.Graph.{has_number, edge_at, IsMadeOnce}
use Rattle.model.specs.Outcome.{Behaviour, depfile_in, is_accepted}
use Rattle.model.specs.Records.{Store, LogFormat, OwnFiles, store_in, recorded_inputs}
use Rattle.model.specs.OutOfDate.{ReadsNoFree, IsVerdict}
use Rattle.model.specs.Schedule.{Step, Judged, Started, Ended, IsLawfulStep, NoneMayBeJudged, NoneMayStart}
use Rattle.model.specs.Phases.{NoLoadIsDue}
use Rattle.model.specs.Premises.{FilesAreKept, RecordedApart}
use Rattle.model.specs.SingleBuild.{NamesOther, Asked, task_of}
use Rattle.theory.specs.Builds.{IsRunOf}
use Rattle.theory.specs.Logged.{IsLoggedAt}
use Rattle.theory.specs.Writes.{WritesAt}
use Rattle.theory.specs.Ledger.{IsCarried, IsReadyToStart, HasNoRecord}
use Rattle.theory.proofs.Looks.{looks_nothing, looks_then}
use Rattle.theory.proofs.Ledger as ledger
use Rattle.theory.proofs.Readying as readying
use Rattle.theory.proofs.TakenIn as taken
use Rattle.theory.proofs.Writing as writing

one : (tells : Bool) (B : Behaviour) (format : LogFormat) (own : OwnFiles) (asked : Asked) (store : Store) (old a b c d e f g h j k l m : World) (i stamp : ℕ) (tick : List ℕ) (seen : Option (List ℕ))
    → IsIdle old.events → IsMadeOnce asked.graph.edges → asked.graph.edges ≡ asked.declared → ((file : List ℕ) → NamesOther asked.graph.edges file → ⊥) → ((before : List Step) → NoLoadIsDue (task_of asked store) before)
    → OnlyLooks tells old a → (IsTrue tells → FilesAreKept own asked.graph.edges old.history a.history → store ≡ store_in format own (view_of old.history))
    → IsLawfulStep (task_of asked store) [] (Judged i true)
    → (IsTrue tells → (files : FilesAreKept own asked.graph.edges old.history a.history) → RecordedApart own (recorded_inputs store asked.graph.edges) → ReadsNoFree files.free asked.graph.edges store a.history i → IsVerdict asked.graph.edges store [] old.history a.history i true)
    → own.files tick ≡ true → tick ≢ own.build_log → tick ≢ own.deps_log → own.files own.build_log ≡ true
    → (edge_at asked.graph.edges i).act.depfile ≢ [] → (edge_at asked.graph.edges i).act.response_path ≢ []
    → Ticks tells tick stamp a b
    → Writes tells (edge_at asked.graph.edges i).act.depfile None b c
    → Writes tells (edge_at asked.graph.edges i).act.response_path (Some (edge_at asked.graph.edges i).act.response_content) c d
    → WritesAt tells own.build_log d e
    → (IsTrue tells → FilesAreKept own asked.graph.edges old.history e.history → IsLoggedAt B format own asked.graph.edges (Judged i true ∷ []) (Some i) store old d → IsLoggedAt B format own asked.graph.edges (Judged i true ∷ []) (Some i) store old e)
    → HasNoRecord tells format own asked.graph.edges i old e
    → OnlyLooks tells e f
    → IsLawfulStep (task_of asked store) (Judged i true ∷ []) (Started i)
    → Starts tells i (edge_at asked.graph.edges i).act f g
    → NoneMayBeJudged (task_of asked store) (Judged i true ∷ Started i ∷ []) → NoneMayStart (task_of asked store) (Judged i true ∷ Started i ∷ [])
    → Finishes tells i true g h → OnlyLooks tells h j → OnlyLooks tells j k
    → (IsTrue tells → Sees (λ history. content_of (file_at history (edge_at asked.graph.edges i).act.depfile)) seen h.history j.history)
    → true ≡ is_accepted (depfile_in B (edge_at asked.graph.edges i).act (λ p. seen))
    → WritesAt tells own.build_log k l
    → (IsTrue tells → FilesAreKept own asked.graph.edges old.history l.history → IsLoggedAt B format own asked.graph.edges (Judged i true ∷ Started i ∷ Ended i true ∷ []) (Some i) store old k
    → IsLoggedAt B format own asked.graph.edges (Judged i true ∷ Started i ∷ Ended i true ∷ []) None store old l)
    → IsRunOf tells B format own asked store (Judged i true ∷ Started i ∷ Ended i true ∷ []) None old l
one tells B format own asked store old a b c d e f g h j k l m i stamp tick seen idle once unloaded others no_load looks found judge verdict mine t1 t2 log_mine dep resp ticks removes writes begin begin_log none looks_f start starts no_judge no_start finish looks_j looks_k sees says done done_log =
    ledger.run_of tells B format own asked store old [] (Judged i true ∷ Started i ∷ Ended i true ∷ []) None l
    (ledger.cut_off tells B format own asked store old [] true (Judged i true ∷ Started i ∷ Ended i true ∷ []) None l at_l) (inl once)
  where
    J : List Step
    J = Judged i true ∷ []

    S : List Step
    S = Judged i true ∷ Started i ∷ []

    stale : has_number (i ∷ []) i ≡ true
    stale = start.1.stale

    at_a0 : IsCarried tells B format own asked (store_in format own (view_of old.history)) [] true [] None old a
    at_a0 = ledger.carried_looks tells B format own asked (store_in format own (view_of old.history)) old [] true [] None old a looks (ledger.carried_entry tells B format own asked (store_in format own (view_of old.history)) old unloaded others refl idle)

    at_a : IsCarried tells B format own asked store [] true [] None old a
    at_a = ledger.carried_found tells B format own asked (store_in format own (view_of old.history)) old unloaded others store None a (λ tell files. found tell files) at_a0

    judged : IsCarried tells B format own asked store [] true (Judged i true ∷ []) (Some i) old a
    judged = ledger.carried_hand tells B format own asked store old [] true (Judged i true ∷ []) a i (ledger.carried_judged tells B format own asked store old [] true [] None a i true refl judge (no_load []) verdict (λ tell files stale. refl) at_a)

    at_b : IsCarried tells B format own asked store [] true (Judged i true ∷ []) (Some i) old b
    at_b = ledger.carried_ticks tells B format own asked store old [] true (Judged i true ∷ []) (Some i) a b tick mine t1 t2 stamp ticks judged

    dep_c : WritesAt tells (edge_at asked.graph.edges i).act.depfile b c
    dep_c = writing.writes_at tells (edge_at asked.graph.edges i).act.depfile None b c removes

    at_c : IsCarried tells B format own asked store [] true (Judged i true ∷ []) (Some i) old c
    at_c = ledger.carried_depfile tells B format own asked store old [] true (Judged i true ∷ []) (Some i) b c i stale refl (inr removes) at_b

    resp_d : WritesAt tells (edge_at asked.graph.edges i).act.response_path c d
    resp_d = writing.writes_at tells (edge_at asked.graph.edges i).act.response_path (Some (edge_at asked.graph.edges i).act.response_content) c d writes

    at_d : IsCarried tells B format own asked store [] true (Judged i true ∷ []) (Some i) old d
    at_d = ledger.carried_response tells B format own asked store old [] true (Judged i true ∷ []) (Some i) c d i stale refl resp_d at_c

    at_e : IsCarried tells B format own asked store [] true (Judged i true ∷ []) (Some i) old e
    at_e = ledger.carried_log tells B format own asked store old [] true (Judged i true ∷ []) (Some i) (Some i) d e own.build_log log_mine begin begin_log at_d

    ready_e : IsReadyToStart tells format own asked.graph.edges i old e
    ready_e = record {
      ticked = readying.tick_kept tells B format own asked store old [] true (Judged i true ∷ []) (Some i) d e at_d own.build_log begin
          (readying.tick_kept tells B format own asked store old [] true (Judged i true ∷ []) (Some i) c d at_c (edge_at asked.graph.edges i).act.response_path resp_d
          (readying.tick_kept tells B format own asked store old [] true (Judged i true ∷ []) (Some i) b c at_b (edge_at asked.graph.edges i).act.depfile dep_c
          (readying.tick_given tells B format own asked store old [] true (Judged i true ∷ []) (Some i) a b judged tick stamp ticks)));
      depfile = λ named other. readying.holds_over_own tells B format own asked store old [] true (Judged i true ∷ []) (Some i) d e at_d i stale start.1.once (edge_at asked.graph.edges i).act.depfile (record { named = named; is = inl refl }) None own.build_log log_mine begin.history
          (readying.depfile_over_response tells B format own asked store old [] true (Judged i true ∷ []) (Some i) c d at_c i stale start.1.once named other None resp_d
          (readying.holds_written tells B format own asked store old [] true (Judged i true ∷ []) (Some i) b c at_b i stale start.1.once (edge_at asked.graph.edges i).act.depfile (record { named = named; is = inl refl }) None removes));
      response = λ named. readying.holds_over_own tells B format own asked store old [] true (Judged i true ∷ []) (Some i) d e at_d i stale start.1.once (edge_at asked.graph.edges i).act.response_path (record { named = named; is = inr refl }) (Some (edge_at asked.graph.edges i).act.response_content) own.build_log log_mine begin.history
          (readying.holds_written tells B format own asked store old [] true (Judged i true ∷ []) (Some i) c d at_c i stale start.1.once (edge_at asked.graph.edges i).act.response_path (record { named = named; is = inr refl }) (Some (edge_at asked.graph.edges i).act.response_content) writes);
      begun = none;
    }

    at_f : IsCarried tells B format own asked store [] true (Judged i true ∷ []) (Some i) old f
    at_f = ledger.carried_looks tells B format own asked store old [] true (Judged i true ∷ []) (Some i) e f looks_f at_e

    at_g : IsCarried tells B format own asked store [] true (Judged i true ∷ Started i ∷ []) None old g
    at_g = ledger.carried_starts tells B format own asked store old [] true (Judged i true ∷ []) f g i (edge_at asked.graph.edges i).act refl start (no_load J) refl
        (readying.ready_looking tells B format own asked store old [] true (Judged i true ∷ []) (Some i) e f at_e i stale start.1.once looks_f ready_e) starts at_f

    looks_hk : OnlyLooks tells h k
    looks_hk = looks_then tells h j k looks_j looks_k

    at_k : IsCarried tells B format own asked store [] true (Judged i true ∷ Started i ∷ Ended i true ∷ []) (Some i) old k
    at_k = ledger.carried_well tells B format own asked store old [] true (Judged i true ∷ Started i ∷ []) g h k i true (λ on. (no_judge, no_start, no_load S)) finish looks_hk at_g refl (
      taken.says_seen tells B format own asked store old [] true (Judged i true ∷ Started i ∷ []) g h k i true finish looks_hk at_g refl dep seen h j (looks_nothing tells h) sees looks_k true says,
      taken.read_seen tells B format own asked store old [] true (Judged i true ∷ Started i ∷ []) g h k i true finish looks_hk at_g refl seen h j (looks_nothing tells h) sees looks_k true says,
    )

    at_l : IsCarried tells B format own asked store [] true (Judged i true ∷ Started i ∷ Ended i true ∷ []) None old l
    at_l = ledger.carried_log tells B format own asked store old [] true (Judged i true ∷ Started i ∷ Ended i true ∷ []) (Some i) None k l own.build_log log_mine done done_log at_k
