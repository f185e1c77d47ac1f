use Rattle.std.proofs.Common.{◌≡◌, ◌++◌, map, drop}
use Rattle.std.specs.Cow.{cow_str_bytes}
use Rattle.depfile.proofs.listed.Listed.texts.Given as goal

abbrev pub invariant-loop-path : goal.invariant-loop-path
invariant-loop-path l = map (λ text. text.now) l.texts.items ++ map cow_str_bytes (drop l.path-index l.path-items) ≡ map cow_str_bytes l.path-items
