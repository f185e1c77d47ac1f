use Rattle.std.proofs.Common.{◌≡◌, List, length}
use Rattle.paths.specs.declared.manifest.Action.{Action}
use Rattle.graph.specs.Back.{AreUndoneBy}
use Rattle.graph.proofs.Undoing.{IsUnloadedTo}
use Rattle.graph.proofs.back.unload.Given as goal

abbrev pub invariant-loop-loaded : goal.invariant-loop-loaded
invariant-loop-loaded l = record {
  fits : length l.actions ≡ length l.fn.actions;
  state : (before : List Action) → AreUndoneBy l.file l.edges l.fn.actions before → IsUnloadedTo l.edges l.loaded-index l.fn.actions l.actions before;
}
