use Rattle.std.proofs.Common.{◌≡◌, ◌++◌, ◌≤◌, List, [], length, string_bytes, take, drop}
use Rattle.scopes.specs.Texts.{expansion, largest_value}
use Rattle.scopes.specs.Moves.{Move}
use Rattle.scopes.specs.Scopes.{IsScopesOf}
use Rattle.scopes.specs.Use.{opened}
use Rattle.scopes.specs.Steps.{AllDone}
use Rattle.scopes.specs.Known.{known_value}
use Rattle.scopes.proofs.at_use.Known.append_alone.Given as goal

abbrev pub invariant-loop-part : goal.invariant-loop-part
invariant-loop-part l =
    (AllDone (opened l.self.at.now) [] (drop l.part-index l.parts) → AllDone (opened l.self.at.now) [] l.parts)
    × ((past : List Move) → IsScopesOf l.self.scopes.now past → string_bytes l.text ≡ string_bytes l.initial.text ++ expansion (known_value l.self past) (take l.part-index l.parts))
    × (length (string_bytes l.initial.text) ≤ largest_value → length (string_bytes l.text) ≤ largest_value)
