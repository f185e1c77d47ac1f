use Rattle.std.proofs.Common.{◌+◌, ◌*◌, length}
use Rattle.manifest.proofs.ReadTo.{IsReadTo}
use Rattle.manifest.proofs.reader.+files.Given as goal

abbrev pub decreases-read_bytes : goal.decreases-read_bytes
decreases-read_bytes g l = 6 * l.levels + 5

abbrev pub decreases-read_file : goal.decreases-read_file
decreases-read_file g l = 6 * l.levels + 1

abbrev pub decreases-read_group : goal.decreases-read_group
decreases-read_group g l = 6 * l.levels + 3

abbrev pub decreases-read_lines : goal.decreases-read_lines
decreases-read_lines g l = 6 * l.levels + 4

abbrev pub decreases-read_scope : goal.decreases-read_scope
decreases-read_scope g l = 6 * l.levels + 1

abbrev pub invariant-read_lines-loop-line : goal.invariant-read_lines-loop-line
invariant-read_lines-loop-line g l =
    IsReadTo g.R.Texts.tells (g.R.Texts.world l.fn.texts) (g.R.Texts.world l.texts) l.levels l.file.value l.fault l.lines l.rest l.fn.declared l.declared

abbrev pub decreases-read_lines-loop-line : goal.decreases-read_lines-loop-line
decreases-read_lines-loop-line g l = length l.rest
