use Rattle.std.proofs.Common.{take}
use Rattle.judge.specs.KeptDues.{NotesEdges}
use Rattle.judge.proofs.dues.Dues.note_all.Given as goal

abbrev pub invariant-loop-edge : goal.invariant-loop-edge
invariant-loop-edge l = record {
  notes : NotesEdges l.cone (take l.edge-index l.edges) l.fn.self l.self;
}
