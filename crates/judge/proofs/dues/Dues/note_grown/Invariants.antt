use Rattle.std.proofs.Common.{take}
use Rattle.graph.specs.LoadedEdges.{numbers_in}
use Rattle.judge.specs.KeptDues.{NotesGrown}
use Rattle.judge.proofs.dues.Dues.note_grown.Given as goal

abbrev pub invariant-loop-loaded : goal.invariant-loop-loaded
invariant-loop-loaded l = record {
  notes : NotesGrown l.graph l.cone (numbers_in (take l.loaded-index l.edges)) l.fn.self l.self;
}
