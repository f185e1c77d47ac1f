use Rattle.std.proofs.Common.{take}
use Rattle.std.specs.List.{AllZip}
use Rattle.scopes.specs.Texts.{IsPartOf}
use Rattle.scopes.proofs.template.Template.new.Given as goal

abbrev pub invariant-loop-piece : goal.invariant-loop-piece
invariant-loop-piece l = AllZip IsPartOf (take l.piece-index l.value.pieces) l.parts
