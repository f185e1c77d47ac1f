-- The statements of specs/Laws, proved.
use Rattle.std.proofs.Common.{◌≡◌, inl, inr, ℕ, Option, None, Bool, true, false, IsTrue, List, ◌++◌, Some, sym, subst}
use Rattle.model.specs.World.{World, view_of, IsIdle}
use Rattle.model.specs.Graph.{has, has_number, edge_at, outputs, IsMadeOnce}
use Rattle.model.specs.Outcome.{Behaviour}
use Rattle.model.specs.Records.{OwnFiles, LogFormat, Store, Made, store_in, in_force, recorded_inputs}
use Rattle.model.specs.Schedule.{Step, judged_in, clean_in, done_in, IsSettled, well_in}
use Rattle.model.specs.Premises.{Premises, Matters, StartsAreTicked}
use Rattle.model.specs.SingleBuild.{Asked, task_of, InCone, IsJudged, IsCleanlyBuilt}
use Rattle.model.specs.Faithful.{IsFaithfulRecord, IsFaithfulStore}
use Rattle.theory.specs.Order.{IsExplained, AreReadFirst}
use Rattle.theory.specs.Run.{IsRunOrRest, IsToldBy}
use Rattle.theory.proofs.Orderly.{IsKept, kept_orderly}
use Rattle.theory.proofs.Exit.{clean_where_explained}
use Rattle.theory.proofs.RunLawsStated.{loads_come_first}
use Rattle.theory.specs.LogLaws.{CleanWithLoads, CleanFromFaithful, FaithfulAtExit}
use Rattle.model.specs.OutOfDate.{ReadsNoFree}
use Rattle.theory.proofs.AsNow.{leave_as_now}
use Rattle.theory.proofs.Kept as kept
use Rattle.theory.proofs.Explained as explained
use Rattle.theory.proofs.Stays as stays

module _ (tells : Bool) (B : Behaviour) (format : LogFormat) (own : OwnFiles) (asked : Asked) (store : Store) (steps : List Step) (met : Option ℕ) (old now : World)
    (tell : IsTrue tells) (idle : IsIdle old.events) (rest : IsRunOrRest tells own (task_of asked store) steps old now)
    (once : IsMadeOnce asked.graph.edges)
    (found : store ≡ store_in format own (view_of old.history)) (faithful : IsFaithfulStore B format own asked.graph.edges old)
    (premises : Premises B own asked.declared asked.graph.edges (recorded_inputs store asked.graph.edges) steps old.history now.history) (ticks : StartsAreTicked old.history now.history)
    (loaded : (i : ℕ) → has_number (judged_in steps) i ≡ true → (edge_at asked.graph.edges i).dyndep ≡ None) where
  believed : (o : List ℕ) (made : Made) → in_force store.records o ≡ Some made → IsFaithfulRecord B store old.history o made
  believed o made force =
      subst (λ (s : Store). IsFaithfulRecord B s old.history o made) (sym found)
      (faithful.records o made (subst (λ (s : Store). in_force s.records o ≡ Some made) found force)).0

  unread : (i : ℕ) → premises.files.quiet i ≡ true → ReadsNoFree premises.files.kept.free asked.graph.edges store now.history i
  unread i is_quiet p (inl read) = premises.files.alone.unread i p is_quiet (inl read)
  unread i is_quiet p (inr recorded) = premises.files.alone.unread i p is_quiet (inr (inl recorded))

  cleans : IsJudged B premises.files.kept.free asked store steps met old.history now.history → (i : ℕ) (o : List ℕ) → premises.files.quiet i ≡ true → has_number (clean_in steps) i ≡ true → has (outputs (edge_at asked.graph.edges i)) o ≡ true
      → IsExplained B asked.graph.edges (Matters B asked.graph.edges (recorded_inputs store asked.graph.edges) steps old.history now.history) (view_of now.history) i o
  cleans judged i o is_quiet clean is_output =
      explained.explained_clean B asked.graph.edges store old.history now.history told.more told.grows premises.files.stamps believed
      (well_in judgement.before) i (all.judged i (all.clean i clean)) (loaded i (all.clean i clean)) (judged.verdicts judgement.before judgement.after i false judgement.splits (unread i is_quiet))
      (Matters B asked.graph.edges (recorded_inputs store asked.graph.edges) steps old.history now.history) (λ p recorded. inr (inl recorded)) o is_output
      (kept.clean_stays tells own (task_of asked store) steps old now idle rest tell once premises.files.kept i o clean is_output)
    where
      told : IsToldBy own asked.graph.edges steps old.events (rest.first ++ rest.later) old.history now.history
      told = rest.history tell

      all : IsKept asked.graph.edges steps
      all = kept_orderly asked.graph.edges steps rest.orderly

      judgement : kept.IsJudgedClean steps i
      judgement = kept.clean_step steps i clean

  clean_now : IsJudged B premises.files.kept.free asked store steps met old.history now.history → AreReadFirst asked.graph.edges (Matters B asked.graph.edges (recorded_inputs store asked.graph.edges) steps old.history now.history) steps → ((i : ℕ) → InCone asked store i → IsSettled asked.graph.edges (done_in steps) i) → IsCleanlyBuilt B premises.files.quiet asked store (view_of now.history)
  clean_now judged first settled i o is_quiet within command is_output =
      clean_where_explained tells own (task_of asked store) steps old now idle rest tell B asked.declared
      once premises (leave_as_now tells B own asked store steps old now tell idle rest once ticks premises first) first (λ j p quiet_j clean is_out. cleans judged j p quiet_j clean is_out)
      i o is_quiet command (settled i within) is_output

pub clean_from_faithful : CleanFromFaithful
clean_from_faithful tells B format own asked store steps met old now tell idle rest once loaded found faithful premises ticks judged first settled =
    clean_now tells B format own asked store steps met old now tell idle rest once found faithful premises ticks loaded judged first settled

pub faithful_at_exit : FaithfulAtExit
faithful_at_exit tells B format own asked store steps hand old now tell idle rest once found faithful readable logged ticked premises =
    stays.faithful_now tells B format own asked store steps hand old now tell idle rest once found faithful ticked premises readable logged

pub clean_with_loads : CleanWithLoads
clean_with_loads tells B format own texts asked store steps met old now tell idle rest build once once_last others found faithful premises ticks judged settled =
    let in_order = loads_come_first B texts asked store steps old.history now.history build once once_last others premises.files.dyndep in
    clean_now tells B format own asked store steps met old now tell idle rest once_last found faithful premises ticks in_order.1 judged in_order.2 settled
