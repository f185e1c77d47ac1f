use Rattle.std.proofs.Common.{◌≡◌, take, true}
use Rattle.model.specs.Graph.{has}
use Rattle.log_text.specs.Kept.{texts_at}
use Rattle.tools.specs.Clean.{AddsJust}
use Rattle.tools.proofs.dead.add_listed.Given as goal

abbrev pub invariant-loop-number : goal.invariant-loop-number
invariant-loop-number l = AddsJust l.initial.listed l.listed (λ text. has (texts_at l.records.logs.deps_log.log.outputs (take l.number-index l.numbers)) text ≡ true)
