use Rattle.std.proofs.Common.{◌++◌, ℕ, List, take}
use Rattle.log_text.specs.Kept.{texts_at as logged_at}
use Rattle.work.specs.Recorded.{HasOnlyMorePaths, AreNumbered, HaveJust, texts_of}
use Rattle.work.proofs.recorded.Numbers.push_inputs.Given as goal

abbrev pub invariant-loop-path : goal.invariant-loop-path
invariant-loop-path l = record {
  grown : HasOnlyMorePaths l.fn.graph l.graph;
  numbered : AreNumbered l.fn.graph (texts_of l.records) l.fn.self.known.items → AreNumbered l.graph (texts_of l.records) l.self.known.items;
  inputs : (paths : List (List ℕ)) → AreNumbered l.fn.graph (texts_of l.records) l.fn.self.known.items → HaveJust l.fn.graph l.fn.inputs paths
      → HaveJust l.graph l.inputs (paths ++ logged_at (texts_of l.records) (take l.path-index l.deps.paths));
}
