use Rattle.std.proofs.Common.{◌≡◌, List, map, take}
use Rattle.model.specs.declared.record.Record.{Record}
use Rattle.model.specs.declared.record.DepsRecord.{DepsRecord}
use Rattle.theory.specs.Seen.{Unrefused}
use Rattle.judge.specs.Answers.{seen_output}
use Rattle.judge.specs.Looking.{HasLooked}
use Rattle.judge.specs.Facts.{AreAsked, AreKnownOf}
use Rattle.judge.specs.Summaries.{AreOutputs}
use Rattle.judge.proofs.looks.Looks.outputs_of.Given as goal

abbrev pub invariant-loop-path : goal.invariant-loop-path
invariant-loop-path g l = record {
  sums : l.self.sums ≡ l.fn.self.sums;
  looked : HasLooked g.S.Texts.tells l.graph (g.S.Texts.world l.fn.site) (g.S.Texts.world l.site) l.fn.self l.self;
  unrefused : Unrefused (g.S.Texts.world l.fn.site) (g.S.Texts.world l.site);
  asked : AreAsked l.self.seen.items (take l.path-index l.paths);
  outputs : (rs : List Record) (ds : List DepsRecord) → AreKnownOf l.graph.manifest.paths l.paths rs ds l.records
      → AreOutputs l.act (map (seen_output l.graph.manifest.paths rs ds l.self.seen.items) (take l.path-index l.paths)) l.outputs;
}
