use Rattle.std.proofs.Common.{ℕ, List, ◌≡◌, ◌≤◌, ◌++◌, length, string_bytes, take}
use Rattle.std.specs.List.{flat_map}
use denote.Ref.{Bor}
use Rattle.scopes.specs.Texts.{largest_value}
use Rattle.scopes.proofs.buffer.append_joined.Given as goal

abbrev pub invariant-loop-path : goal.invariant-loop-path
invariant-loop-path l = (string_bytes l.text ≡ string_bytes l.initial.text ++ flat_map (λ (next : Bor (List ℕ)). l.separator ++ next.now) (take l.path-index l.rest))
    × (length (string_bytes l.initial.text) ≤ largest_value → length (string_bytes l.text) ≤ largest_value)
