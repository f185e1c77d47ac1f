-- The records that were read, and the cone of what was asked for at the beginning.
use Rattle.std.specs.Prelude.{ℕ, List}
use Rattle.model.specs.Records.{Store, recorded_inputs}
use Rattle.graph.specs.declared.cone.Cone.{Cone}
use Rattle.graph.specs.declared.graph.Graph.{Graph}
use Rattle.graph.specs.Told.{declared_by}
use Rattle.graph.specs.Targets.{IsConeFor}
use Rattle.records.specs.declared.records.Records.{Records}
use Rattle.records.specs.Known.{AreKnown}
use Rattle.judge.specs.Judged.{AreRecordedOf}

-- the store has the records that were read, and the recorded inputs in use are those of the graph
pub record IsStoreOf (graph : Graph) (records : Records) (store : Store) : Type 0 where
  pub known : AreKnown graph store.records store.deps records
  pub in_use : (i : ℕ) → AreRecordedOf graph store i

-- the cone of these targets, by this store
abbrev pub IsConeIn : Graph → Store → List (List ℕ) → Cone → Type 0
IsConeIn graph store targets cone = IsConeFor graph (recorded_inputs store (declared_by graph).edges) targets cone
