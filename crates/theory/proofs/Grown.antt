-- What the logs tell of a run stands over the edges that a load gives: an edge that was started had its dyndep file loaded.
use Rattle.std.proofs.Common.{◌≡◌, ◌≢◌, inl, inr, ℕ, true, List, [], Option, Some, None, sym, subst}
use Rattle.model.specs.declared.act.Act.{Act}
use Rattle.model.specs.declared.event.Moment.{Moment}
use Rattle.model.specs.declared.graph.Edge.{Edge}
use Rattle.model.specs.World.{World, view_of}
use Rattle.model.specs.Graph.{has, has_number, edge_at, outputs}
use Rattle.model.specs.Outcome.{Behaviour, depfile_in, listed}
use Rattle.model.specs.Records.{Told, Store, in_force, deps_in_force, ListsOnce}
use Rattle.model.specs.Schedule.{Step, started_in, well_in}
use Rattle.model.specs.Kept.{IsRecorded}
use Rattle.theory.proofs.Growth.{HasGrown}
use Rattle.theory.specs.Logged.{IsLogged}

module _ (B : Behaviour) (few many : List Edge) (grown : HasGrown few many) (steps : List Step)
    (loaded : (i : ℕ) → has_number (started_in steps) i ≡ true → (edge_at few i).dyndep ≡ None) (ended : (i : ℕ) → has_number (well_in steps) i ≡ true → has_number (started_in steps) i ≡ true) where
  outputs_back : (i : ℕ) (o : List ℕ) → has_number (started_in steps) i ≡ true → has (outputs (edge_at many i)) o ≡ true → has (outputs (edge_at few i)) o ≡ true
  outputs_back i o started makes = subst (λ (e : Edge). has (outputs e) o ≡ true) (grown.same i (loaded i started)) makes

  recorded_moved : (store : Store) (i stamp : ℕ) (at : List Moment) (o : List ℕ) → IsRecorded B few store i stamp at o → IsRecorded B many store i stamp at o
  recorded_moved store i stamp at o recorded = record {
    done = subst (λ (a : Act). in_force store.records o ≡ Some (record { act = a; start = stamp })) (sym (grown.act i)) recorded.done;
    deps = subst (λ (a : Act). a.depfile ≢ [] → (deps : Told) × (deps_in_force store.deps o ≡ Some deps) × (deps.start ≡ stamp) × ListsOnce deps.paths (listed (depfile_in B a (view_of at))))
        (sym (grown.act i)) recorded.deps;
  }

  pub logged_moved : (hand : Option ℕ) (entry store : Store) (old now : World) → IsLogged B few steps hand entry store old now → IsLogged B many steps hand entry store old now
  logged_moved hand entry store old now logged = record {
    records = λ o. elim (logged.records o) [
      | inl keeps ↦ inl (record { unstarted = λ i started makes. keeps.unstarted i started (outputs_back i o started makes); records = keeps.records; deps = keeps.deps })
      | inr other ↦ elim other [
        | inl none ↦ inr (inl (record { edge = none.edge; makes = grown.outputs none.edge o none.makes; begun = none.begun; none = none.none }))
        | inr new ↦ inr (inr (record {
          edge = new.edge;
          stamp = new.stamp;
          at = new.at;
          makes = grown.outputs new.edge o new.makes;
          well = new.well;
          started = new.started;
          ended = new.ended;
          recorded = recorded_moved store new.edge new.stamp new.at o new.recorded;
        }))
      ]
    ];
    deps = λ o. elim (logged.deps o) [
      | inl same ↦ inl same
      | inr new ↦ inr (record {
        edge = new.edge;
        deps = new.deps;
        makes = grown.outputs new.edge o new.makes;
        depfile = subst (λ (a : Act). a.depfile ≢ []) (sym (grown.act new.edge)) new.depfile;
        started = new.started;
        is = new.is;
      })
    ];
    whole = λ i o well makes none. logged.whole i o well (outputs_back i o (ended i well) makes) none;
  }
