use Rattle.std.proofs.Common.{take}
use Rattle.judge.specs.KeptDues.{NotesUsers}
use Rattle.judge.proofs.dues.Dues.note_users.Given as goal

abbrev pub invariant-loop-path : goal.invariant-loop-path
invariant-loop-path l = record {
  notes : NotesUsers l.graph l.cone (take l.path-index l.path-items) l.fn.self l.self;
}
