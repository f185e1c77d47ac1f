-- What a run carries goes on through the load of a dyndep file, over the edges that it gives.
use Rattle.std.proofs.Common.{◌≡◌, ℕ, Bool, true, false, IsTrue, List, [], ◌∷◌, ◌++◌, Option, Some, None, is_some, refl, sym, subst}
use Rattle.std.proofs.lemmas.Bool.{true≢false}
use Rattle.model.specs.declared.act.Act.{Act}
use Rattle.model.specs.declared.event.Moment.{Moment}
use Rattle.model.specs.declared.graph.Edge.{Edge}
use Rattle.model.specs.World.{World, view_of}
use Rattle.model.specs.Graph.{has_number, edge_at, Addition}
use Rattle.model.specs.Outcome.{Behaviour, depfile_in, is_accepted}
use Rattle.model.specs.Judgement.{reason_of}
use Rattle.model.specs.OutOfDate.{IsStaleByOutputs, made_facts}
use Rattle.model.specs.Records.{Store, LogFormat, OwnFiles}
use Rattle.model.specs.Schedule.{Step, started_in, well_in}
use Rattle.model.specs.Phases.{Phase, IsGrownBy, IsNextLoad, IsInOrderAt}
use Rattle.model.specs.Premises.{FilesAreKept, SharesNone}
use Rattle.model.specs.SingleBuild.{HeldAt, Asked, asked_with, task_of, EndRightly, EndAsRead, IsReadBehind}
use Rattle.model.specs.Kept.{store_at}
use Rattle.theory.specs.Run.{IsRunOrRest}
use Rattle.theory.proofs.Growth.{HasGrown, grown_by}
use Rattle.theory.proofs.Moved.{run_moved}
use Rattle.theory.proofs.Orderly.{IsKept, kept_orderly}
use Rattle.theory.proofs.Runs.{rest_begins}
use Rattle.theory.specs.Alone.{AreLeftAlone}
use Rattle.theory.specs.Ledger.{IsCarried}
use Rattle.theory.proofs.Grown.{logged_moved}
use Rattle.theory.proofs.PhasesGoOn.{phased_load}
use Rattle.theory.proofs.Turned.{kept_then}

module _ (few many : List Edge) (grown : HasGrown few many) where
  taken_moved : (B : Behaviour) (steps : List Step) (met : Option ℕ) (old now : List Moment) → EndRightly B few steps met old now → EndRightly B many steps met old now
  taken_moved B steps met old now taken = record {
    well = λ i at ended well. subst (λ (a : Act). is_accepted (depfile_in B a (view_of at)) ≡ true) (sym (grown.act i)) (taken.well i at ended well);
    depfiles = λ i at ended has unmet. subst (λ (a : Act). has_number (well_in steps) i ≡ is_accepted (depfile_in B a (view_of at))) (sym (grown.act i)) (taken.depfiles i at ended has unmet);
  }

  read_moved : (B : Behaviour) (steps : List Step) (met : Option ℕ) (old now : List Moment) → EndAsRead B few steps met old now → EndAsRead B many steps met old now
  read_moved B steps met old now read = record {
    well = λ i at ended well. subst (λ (a : Act). IsReadBehind B a i at now true) (sym (grown.act i)) (read.well i at ended well);
    depfiles = λ i at ended has unmet. subst (λ (a : Act). IsReadBehind B a i at now (has_number (well_in steps) i)) (sym (grown.act i)) (read.depfiles i at ended has unmet);
  }

  alone_moved : (old now : List Moment) → AreLeftAlone few old now → AreLeftAlone many old now
  alone_moved old now alone before after path content stamp splits i runs =
      subst (λ (a : Act). SharesNone a.depfile path × SharesNone a.response_path path) (sym (grown.act i)) (alone before after path content stamp splits i runs)

module _ (tells : Bool) (B : Behaviour) (format : LogFormat) (own : OwnFiles) (asked : Asked) (store : Store) (phases : List Phase) (old now : World) (next : List Edge)
    (file content : List ℕ) (additions : List Addition) (grown : IsGrownBy file additions asked.graph.edges next) where
  more : HasGrown asked.graph.edges next
  more = grown_by file additions asked.graph.edges next grown

  -- The file was loaded, which was the next one: it held this then, which can be read, and fits; and the edges are in order with it.
  pub carried_load : (steps : List Step) → (carried : IsCarried tells B format own asked store phases true steps None old now) → IsNextLoad (task_of asked store) steps file → B.dyndep content ≡ Some additions
      → IsInOrderAt store (task_of (asked_with asked next) store) → (IsTrue tells → (files : FilesAreKept own asked.graph.edges old.history now.history) → files.free file ≡ false → view_of now.history file ≡ Some content)
      → (IsTrue tells → HeldAt file (Some content) steps old.history now.history)
      → IsCarried tells B format own (asked_with asked next) store (phases ++ record { edges = asked.graph.edges; steps = carried.phased.build.last } ∷ []) true steps None old now
  carried_load steps carried is_next read order holds held_then = record {
    run = run_moved tells own (task_of asked store) (task_of (asked_with asked next) store) steps old now more carried.run;
    phased = phased_load tells B own asked store phases old now next file content additions grown steps carried.phased (carried.goes refl) is_next read order carried.run carried.beside.idle holds held_then;
    goes = λ on. refl;
    refused = λ off. absurd (true≢false off);
    beside = record {
      idle = carried.beside.idle;
      ready = λ tell files. carried.beside.ready tell (before tell files);
      ticked = carried.beside.ticked;
      clean = λ tell files k h stale. carried.beside.clean tell (before tell files) k h (stale_before k (carried.phased.loaded k (kept.clean k h)) stale);
      taken_in = λ tell files. taken_moved asked.graph.edges next more B steps None old.history now.history (carried.beside.taken_in tell (before tell files));
      read = λ tell. read_moved asked.graph.edges next more B steps None old.history now.history (carried.beside.read tell);
      logged = λ tell files.
          let was = carried.beside.logged tell (before tell files) in
          record { readable = was.readable; logged = logged_moved B asked.graph.edges next more steps loaded (λ i well. kept.ended i (kept.well i well)) None store (store_at format own now) old now was.logged };
      alone = λ tell files. alone_moved asked.graph.edges next more old.history now.history (carried.beside.alone tell (before tell files));
    };
  }
    where
      rest : IsRunOrRest tells own (task_of asked store) steps old now
      rest = rest_begins tells own (task_of asked store) old steps now carried.run

      kept : IsKept asked.graph.edges steps
      kept = kept_orderly asked.graph.edges steps carried.run.orderly

      loaded : (i : ℕ) → has_number (started_in steps) i ≡ true → (edge_at asked.graph.edges i).dyndep ≡ None
      loaded i started = carried.phased.loaded i (kept.out_of_date i (kept.started i started))

      -- an edge whose dyndep file was loaded is as it was
      stale_before : (k : ℕ) → (edge_at asked.graph.edges k).dyndep ≡ None → IsStaleByOutputs next store old.history k → IsStaleByOutputs asked.graph.edges store old.history k
      stale_before k none stale = subst (λ (e : Edge). is_some (reason_of (made_facts e store old.history)) ≡ true) (more.same k none) stale

      before : IsTrue tells → FilesAreKept own next old.history now.history → FilesAreKept own asked.graph.edges old.history now.history
      before tell files = kept_then tells own (task_of asked store) next more steps old now tell carried.beside.idle rest loaded files
