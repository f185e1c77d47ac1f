use Rattle.std.proofs.Common.{◌++◌, ℕ, List, None, map, ap, string_bytes}
use Rattle.std.specs.Map.Iter.{deref}
use Rattle.std.specs.Option.{option_map}
use Rattle.tools.specs.Answers.{lines}
use Rattle.tools.specs.Showing.{unrepeated}
use Rattle.tools.proofs.Putting.{told_all, told_next}
use Rattle.tools.proofs.listing.unrepeated_lines.Goals as goal

pub loop-text-init : goal.loop-text-init
loop-text-init c = ap (λ (l : List ℕ). l ++ lines (unrepeated None (map deref c.args.texts.now))) c.new-told.ensures.bytes

pub loop-text-preserved : goal.loop-text-preserved
loop-text-preserved c =
    told_next c.args.texts.now c.loop-text.text-index _ (option_map deref c.loop-text.last) (string_bytes c.loop-text.told) (string_bytes c.push_unless_same.new.told) _ c.loop-text-test.true
    c.in_ok-push_unless_same.ensures c.loop-text.invariant

pub returns : goal.returns
returns c = told_all c.args.texts.now c.loop-text.text-index (option_map deref c.loop-text.last) (string_bytes c.loop-text.told) _ c.loop-text-test.false c.loop-text.invariant
