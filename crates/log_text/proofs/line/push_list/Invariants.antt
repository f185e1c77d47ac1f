use Rattle.std.proofs.Common.{◌≡◌, ◌++◌, take, map}
use Rattle.std.specs.List.{flat_map}
use Rattle.log_text.specs.Line.{field_and_tab, AreTexts}
use Rattle.log_text.proofs.line.push_list.Given as goal

abbrev pub invariant-loop-text : goal.invariant-loop-text
invariant-loop-text l = record {
  written : l.line.items ≡ l.initial.line.items ++ flat_map (λ text. field_and_tab text.now) (take l.text-index l.texts);
  utf8 : AreTexts (map (λ text. text.now) (take l.text-index l.texts));
}
