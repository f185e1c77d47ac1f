use Rattle.std.proofs.Common.{List, [], map, take}
use Rattle.lexer.specs.Said.{said_of}
use Rattle.manifest.specs.Readings.{Each}
use Rattle.manifest.specs.Readings.Outcome.{Reached}
use Rattle.manifest.specs.Blocks.{RuleText, RuleLine, IsRuleOf, block_lines}
use Rattle.manifest.proofs.rules.read_block.Given as goal

abbrev pub invariant-loop-line : goal.invariant-loop-line
invariant-loop-line l = (texts : List RuleText) × IsRuleOf texts l.rule
    × Each (RuleLine l.place.file.now.value) (block_lines (map said_of (take l.line-index l.block))) [] (Reached texts)
