use Rattle.std.proofs.Common.{List}
use Rattle.model.specs.declared.record.Record.{Record}
use Rattle.model.specs.declared.record.DepsRecord.{DepsRecord}
use Rattle.records.specs.Known.{AreKnown}
use Rattle.work.specs.Recorded.{HasMorePaths, AreNumbered, AreJoined, texts_of, IsUnrecorded}
use Rattle.work.proofs.recorded.join_recorded.Given as goal

abbrev pub invariant-loop-place : goal.invariant-loop-place
invariant-loop-place l = record {
  grown : HasMorePaths l.fn.graph l.graph;
  numbered : AreNumbered l.graph (texts_of l.records) l.numbers.known.items;
  joined : (rs : List Record) (ds : List DepsRecord) → AreKnown l.fn.graph rs ds l.records → IsUnrecorded l.fn.graph → AreJoined l.graph rs ds l.place;
}
