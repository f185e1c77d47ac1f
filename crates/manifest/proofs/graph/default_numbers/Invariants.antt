use Rattle.std.proofs.Common.{◌≡◌, ◌<◌, List, ℕ, drop, take, length, map}
use Rattle.std.specs.List.{AllZip, AllByRecursion}
use Rattle.paths.specs.Told.{texts_at}
use Rattle.manifest.specs.declared.kept.ReadDefault.{ReadDefault}
use Rattle.manifest.specs.Held.{IsDefaultOf}
use Rattle.manifest.specs.InNumbers.{AreKeys, IsLonger}
use Rattle.manifest.specs.States.{Default}
use Rattle.manifest.proofs.DefaultsAll.{Defaults}
use Rattle.manifest.proofs.graph.default_numbers.Given as goal

abbrev pub invariant-loop-default : goal.invariant-loop-default
invariant-loop-default l = record {
  said : (known : List (List ℕ)) (paths : List (List ℕ)) (said : List Default) → IsLonger known l.table → l.named ≡ length known → AreKeys known paths → AllZip IsDefaultOf l.defaults said
      → Defaults paths said (drop l.default-index l.defaults);
  texts : texts_at l.table l.numbers ≡ map (λ (default : ReadDefault). default.path) (take l.default-index l.defaults);
  known : AllByRecursion (λ number. number < l.named) l.numbers;
}
