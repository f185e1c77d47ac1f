use Rattle.std.proofs.Common.{List}
use Rattle.model.specs.declared.record.Record.{Record}
use Rattle.model.specs.declared.record.DepsRecord.{DepsRecord}
use Rattle.graph.specs.Links.{links_of}
use Rattle.records.specs.Known.{AreKnown}
use Rattle.work.specs.Recorded.{HasOnlyMorePaths, AreNumbered, HaveJust, named_by, texts_of}
use Rattle.work.proofs.recorded.Numbers.put_inputs.Given as goal

abbrev pub invariant-loop-place : goal.invariant-loop-place
invariant-loop-place l = record {
  grown : HasOnlyMorePaths l.fn.graph l.graph;
  numbered : AreNumbered l.fn.graph (texts_of l.records) l.fn.self.known.items → AreNumbered l.graph (texts_of l.records) l.self.known.items;
  inputs : (rs : List Record) (ds : List DepsRecord) → AreKnown l.fn.graph rs ds l.records → AreNumbered l.fn.graph (texts_of l.records) l.fn.self.known.items
      → HaveJust l.graph l.inputs (named_by l.fn.graph.manifest.paths ds ((links_of l.fn.graph).outputs l.edge) l.place);
}
