use Rattle.std.proofs.Common.{◌≡◌, List, ℕ, Bor, map, take}
use Rattle.paths.specs.Told.{texts_at}
use Rattle.work.proofs.endings.outputs.Given as goal

-- the texts of the outputs so far
abbrev pub invariant-loop-output : goal.invariant-loop-output
invariant-loop-output l = map (λ (text : Bor (List ℕ)). text.now) l.texts.items ≡ texts_at l.graph.manifest.paths (take l.output-index l.output-items)
