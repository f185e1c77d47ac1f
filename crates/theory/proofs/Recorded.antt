-- The records of a build, by what the logs tell of its run.
use Rattle.std.proofs.Common.{◌≡◌, ◌≢◌, ◌⊎◌, inl, inr, ℕ, Bool, true, false, IsTrue, List, Option, Some, None, [], sym, ◌∙◌, ap, subst}
use Rattle.std.proofs.lemmas.Bool.{false≢true}
use Rattle.model.specs.declared.event.Moment.{Moment}
use Rattle.model.specs.World.{World, IsIdle}
use Rattle.model.specs.Graph.{has, has_number, edge_at, outputs, IsMadeOnce}
use Rattle.model.specs.Outcome.{Behaviour}
use Rattle.model.specs.Records.{Store, LogFormat, OwnFiles, in_force, deps_in_force}
use Rattle.model.specs.Schedule.{Step, started_in, well_in}
use Rattle.model.specs.Premises.{EndedAt}
use Rattle.model.specs.SingleBuild.{Asked, task_of}
use Rattle.model.specs.Kept.{StartedUnder, IsRecorded, KeepsDeps, store_at}
use Rattle.theory.specs.Run.{IsRunOrRest}
use Rattle.theory.proofs.Makers.{one_maker}
use Rattle.theory.proofs.Orderly.{IsKept, kept_orderly}
use Rattle.theory.specs.Logged.{KeepsBoth, HasNone, HasNew, HasNewDeps, IsLogged}
use Rattle.theory.specs.LogLaws.{RecordsAreKept}
use Rattle.theory.proofs.Once.{one_stamp, one_end}
use Rattle.theory.proofs.Starts.{was_started}

module _ (tells : Bool) (B : Behaviour) (format : LogFormat) (own : OwnFiles) (asked : Asked) (entry store : Store) (steps : List Step) (hand : Option ℕ) (old now : World)
    (tell : IsTrue tells) (idle : IsIdle old.events) (rest : IsRunOrRest tells own (task_of asked entry) steps old now) (once : IsMadeOnce asked.graph.edges)
    (logged : IsLogged B asked.graph.edges steps hand entry store old now) where
  all : IsKept asked.graph.edges steps
  all = kept_orderly asked.graph.edges steps rest.orderly

  pub well_recorded : (i stamp : ℕ) (at : List Moment) (o : List ℕ) → has_number (well_in steps) i ≡ true → StartedUnder i stamp old now → EndedAt i old.history now.history at → has (outputs (edge_at asked.graph.edges i)) o ≡ true
      → IsRecorded B asked.graph.edges store i stamp at o ⊎ ((hand ≡ Some i) × (in_force store.records o ≡ None))
  well_recorded i stamp at o well started ended makes = by_case (logged.records o)
    where
      by_case : KeepsBoth asked.graph.edges steps entry store o ⊎ HasNone asked.graph.edges steps hand store o ⊎ HasNew B asked.graph.edges steps store old now o → IsRecorded B asked.graph.edges store i stamp at o ⊎ ((hand ≡ Some i) × (in_force store.records o ≡ None))
      by_case (inl keeps) = absurd (keeps.unstarted i (all.ended i (all.well i well)) makes)
      by_case (inr (inl none)) = inr (logged.whole i o well makes none.none, none.none)
      by_case (inr (inr new)) =
          let same : new.edge ≡ i = one_maker asked.graph.edges o new.edge i once new.makes makes in
          let stamps : new.stamp ≡ stamp = one_stamp tells own (task_of asked entry) steps old now idle rest i new.stamp stamp (subst (λ (k : ℕ). StartedUnder k new.stamp old now) same new.started) started in
          let ends : new.at ≡ at = one_end tells own (task_of asked entry) steps old now idle rest tell i new.at at (subst (λ (k : ℕ). EndedAt k old.history now.history new.at) same new.ended) ended in
          inl (subst (λ (h : List Moment). IsRecorded B asked.graph.edges store i stamp h o) ends
          (subst (λ (s : ℕ). IsRecorded B asked.graph.edges store i s new.at o) stamps
          (subst (λ (k : ℕ). IsRecorded B asked.graph.edges store k new.stamp new.at o) same new.recorded)))

  others_none : (i : ℕ) (o : List ℕ) → has_number (started_in steps) i ≡ true → has_number (well_in steps) i ≡ false → has (outputs (edge_at asked.graph.edges i)) o ≡ true → in_force store.records o ≡ None
  others_none i o started not_well makes = by_case (logged.records o)
    where
      by_case : KeepsBoth asked.graph.edges steps entry store o ⊎ HasNone asked.graph.edges steps hand store o ⊎ HasNew B asked.graph.edges steps store old now o → in_force store.records o ≡ None
      by_case (inl keeps) = absurd (keeps.unstarted i started makes)
      by_case (inr (inl none)) = none.none
      by_case (inr (inr new)) = absurd (false≢true (sym not_well ∙ subst (λ (k : ℕ). has_number (well_in steps) k ≡ true) (one_maker asked.graph.edges o new.edge i once new.makes makes) new.well))

  pub kept_both : (o : List ℕ) → ((i : ℕ) → has (outputs (edge_at asked.graph.edges i)) o ≡ true → (has_number (started_in steps) i ≡ false) × (hand ≡ Some i → ⊥))
      → (in_force store.records o ≡ in_force entry.records o) × (deps_in_force store.deps o ≡ deps_in_force entry.deps o)
  kept_both o apart = by_case (logged.records o)
    where
      by_case : KeepsBoth asked.graph.edges steps entry store o ⊎ HasNone asked.graph.edges steps hand store o ⊎ HasNew B asked.graph.edges steps store old now o
          → (in_force store.records o ≡ in_force entry.records o) × (deps_in_force store.deps o ≡ deps_in_force entry.deps o)
      by_case (inl keeps) = (keeps.records, keeps.deps)
      by_case (inr (inl none)) = elim none.begun [
        | inl started ↦ absurd (false≢true (sym (apart none.edge none.makes).0 ∙ started))
        | inr held ↦ absurd ((apart none.edge none.makes).1 held)
      ]
      by_case (inr (inr new)) = absurd (false≢true (sym (apart new.edge new.makes).0 ∙ all.ended new.edge (all.well new.edge new.well)))

  -- what the deps log tells is of the entry or of a run of this edge
  deps_kept : (i : ℕ) (o : List ℕ) → has (outputs (edge_at asked.graph.edges i)) o ≡ true → KeepsDeps asked.graph.edges entry store i old now o
  deps_kept i o makes = elim (logged.deps o) [
    | inl same ↦ inl same
    | inr new ↦
        let same : new.edge ≡ i = one_maker asked.graph.edges o new.edge i once new.makes makes in
        inr (subst (λ (k : ℕ). (edge_at asked.graph.edges k).act.depfile ≢ []) same new.depfile, (new.deps, new.is, subst (λ (k : ℕ). StartedUnder k new.deps.start old now) same new.started))
  ]

  -- where the start of an edge met the fault, its outputs have what they had, or none
  begun_only : (i : ℕ) (o : List ℕ) → has_number (started_in steps) i ≡ false → has (outputs (edge_at asked.graph.edges i)) o ≡ true
      → ((in_force store.records o ≡ in_force entry.records o) ⊎ (in_force store.records o ≡ None)) × (deps_in_force store.deps o ≡ deps_in_force entry.deps o)
  begun_only i o unstarted makes = (by_case (logged.records o), by_deps (logged.deps o))
    where
      by_case : KeepsBoth asked.graph.edges steps entry store o ⊎ HasNone asked.graph.edges steps hand store o ⊎ HasNew B asked.graph.edges steps store old now o
          → (in_force store.records o ≡ in_force entry.records o) ⊎ (in_force store.records o ≡ None)
      by_case (inl keeps) = inl keeps.records
      by_case (inr (inl none)) = inr none.none
      by_case (inr (inr new)) = absurd (false≢true (sym unstarted
          ∙ (ap (λ (k : ℕ). has_number (started_in steps) k) (sym (one_maker asked.graph.edges o new.edge i once new.makes makes)) ∙ all.ended new.edge (all.well new.edge new.well))))

      by_deps : (deps_in_force store.deps o ≡ deps_in_force entry.deps o) ⊎ HasNewDeps asked.graph.edges store old now o → deps_in_force store.deps o ≡ deps_in_force entry.deps o
      by_deps (inl same) = same
      by_deps (inr new) = absurd (false≢true (sym unstarted
          ∙ (ap (λ (k : ℕ). has_number (started_in steps) k) (sym (one_maker asked.graph.edges o new.edge i once new.makes makes))
          ∙ was_started tells own (task_of asked entry) steps old now rest new.edge new.deps.start new.started)))

pub records_are_kept : RecordsAreKept
records_are_kept tells B format own asked entry steps hand old now tell idle rest once logged = record {
  well = λ i stamp at o well started ended makes. well_recorded tells B format own asked entry (store_at format own now) steps hand old now tell idle rest once logged i stamp at o well started ended makes;
  others = λ i o started not_well makes. others_none tells B format own asked entry (store_at format own now) steps hand old now tell idle rest once logged i o started not_well makes;
  begun = λ i o met unstarted makes. begun_only tells B format own asked entry (store_at format own now) steps hand old now tell idle rest once logged i o unstarted makes;
  deps = λ i o makes. deps_kept tells B format own asked entry (store_at format own now) steps hand old now tell idle rest once logged i o makes;
  kept = λ o apart. kept_both tells B format own asked entry (store_at format own now) steps hand old now tell idle rest once logged o apart;
}
