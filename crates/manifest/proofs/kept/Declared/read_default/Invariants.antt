use Rattle.std.proofs.Common.{◌≡◌, ◌++◌, List}
use Rattle.std.specs.List.{AllZip}
use Rattle.manifest.specs.Held.{IsDefaultOf}
use Rattle.manifest.specs.Places.{place_of}
use Rattle.manifest.specs.States.{Default}
use Rattle.manifest.proofs.DefaultLemmas.{defaults_at}
use Rattle.manifest.proofs.kept.Declared.read_default.Given as goal

abbrev pub invariant-loop-path : goal.invariant-loop-path
invariant-loop-path l = record {
  scopes : l.self.scopes ≡ l.fn.self.scopes;
  edges : l.self.edges ≡ l.fn.self.edges;
  pools : l.self.pools ≡ l.fn.self.pools;
  paths : l.self.paths ≡ l.fn.self.paths;
  defaults : (said : List Default) → AllZip IsDefaultOf l.fn.self.defaults.items said
      → AllZip IsDefaultOf l.self.defaults.items (said ++ defaults_at (place_of l.place) l.yielded);
}
