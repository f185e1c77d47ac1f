use Rattle.std.proofs.Common.{◌≡◌, ℕ, false, List, take}
use Rattle.model.specs.Graph.{has_number}
use Rattle.model.specs.declared.record.Record.{Record}
use Rattle.model.specs.declared.record.DepsRecord.{DepsRecord}
use Rattle.graph.specs.Held.{list_at}
use Rattle.graph.specs.LoadedEdges.{numbers_in}
use Rattle.records.specs.Known.{AreKnown}
use Rattle.work.specs.Recorded.{HasMorePaths, AreNumbered, AreToJoin, HasJoinedOf, texts_of}
use Rattle.work.proofs.recorded.join_loaded.Given as goal

abbrev pub invariant-loop-loaded : goal.invariant-loop-loaded
invariant-loop-loaded l = record {
  grown : HasMorePaths l.fn.graph l.graph;
  numbered : AreNumbered l.graph (texts_of l.records) l.numbers.known.items;
  others : (e : ℕ) → has_number (numbers_in l.edges) e ≡ false → list_at l.graph.recorded e ≡ list_at l.fn.graph.recorded e;
  joined : (rs : List Record) (ds : List DepsRecord) → AreKnown l.fn.graph rs ds l.records → AreToJoin (numbers_in l.edges) l.fn.graph rs ds → HasJoinedOf (numbers_in (take l.loaded-index l.edges)) l.fn.graph l.graph rs ds;
}
