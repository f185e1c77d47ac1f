use Rattle.std.proofs.Common.{◌++◌, take}
use Rattle.manifest.specs.InNumbers.{HasNumbers}
use Rattle.manifest.proofs.made.output_set.Given as goal

abbrev pub invariant-loop-path : goal.invariant-loop-path
invariant-loop-path l = HasNumbers l.outputs.keys (take l.path-index l.line.explicit_outputs)

abbrev pub invariant-loop-path-2 : goal.invariant-loop-path-2
invariant-loop-path-2 l = HasNumbers l.outputs.keys (l.line.explicit_outputs ++ take l.path-index l.line.implicit_outputs)
