use Rattle.std.proofs.Common.{◌≡◌, ◌<◌, ℕ, List, codes, ◌∷◌, [], get_or, length, map, refl, string_bytes, subst, sym, take}
use Rattle.std.proofs.lemmas.List.{take_all}
use Rattle.graph.specs.Links.{links_of}
use Rattle.tools.specs.Answers.{Puts, path_text, with_rule}
use Rattle.tools.specs.Files.{rule_of}
use Rattle.tools.proofs.Putting.{map_next, puts_none, puts_then, three_parts}
use Rattle.tools.proofs.listing.push_outputs.Goals as goal

pub loop-output-init : goal.loop-output-init
loop-output-init c = puts_none (string_bytes c.args.told.now)

pub loop-output-preserved : goal.loop-output-preserved
loop-output-preserved c =
    let declared = c.args.declared.now in
    let edge = c.args.edge in
    let output = c.output-item.result in
    let outputs = (links_of declared.graph).outputs edge in
    let low : c.loop-output.output-index < length outputs = rw c.outputs_at-output-items.ensures at c.loop-output-test.true in
    let is : output ≡ get_or outputs c.loop-output.output-index output = rw c.outputs_at-output-items.ensures at c.output-item.is in
    let old = string_bytes c.loop-output.told in
    let new = string_bytes c.push_line.new.text in
    let one = three_parts old new c.text_at-text.result.now (codes ": ") c.rule.result.now (path_text declared output) (codes ": ") (rule_of declared edge) c.in_ok-push_line.ensures c.text_at-text.ensures refl c.rule.ensures in
    subst (Puts (string_bytes c.args.told.now) new) (sym (map_next (with_rule declared edge) outputs c.loop-output.output-index output low is)) (puts_then (string_bytes c.args.told.now) old new (map (with_rule declared edge) (take c.loop-output.output-index outputs)) (with_rule declared edge output ∷ []) c.loop-output.invariant one)

pub returns : goal.returns
returns c =
    let declared = c.args.declared.now in
    let edge = c.args.edge in
    let outputs = (links_of declared.graph).outputs edge in
    subst (λ (l : List ℕ). Puts (string_bytes c.args.told.now) (string_bytes c.loop-output.told) (map (with_rule declared edge) l))
    (take_all c.loop-output.output-index outputs (rw c.outputs_at-output-items.ensures at c.loop-output-test.false)) c.loop-output.invariant
