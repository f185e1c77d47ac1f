use Rattle.std.proofs.Common.{◌∷◌, ◌++◌, [], ℕ, List, codes, refl, subst, string_bytes}
use Rattle.graph.specs.Links.{links_of}
use Rattle.paths.specs.Lists.{line_at}
use Rattle.tools.specs.Answers.{Puts, if_some, marked}
use Rattle.tools.specs.Files.{rule_of}
use Rattle.tools.proofs.Putting.{on_ok, puts_then, two_parts}
use Rattle.tools.proofs.asked_paths.push_maker.Goals as goal

pub returns : goal.returns
returns c =
    let declared = c.args.declared.now in
    let edge = c.args.edge in
    let line = line_at declared.graph.manifest.lines edge in
    let start = string_bytes c.args.told.now in
    let one = string_bytes c.push_line.new.text in
    let two = string_bytes c.push_paths.new.told in
    let three = string_bytes c.push_paths-2.new.told in
    let four = string_bytes c.push_paths-3.new.told in
    let five = string_bytes c.push_validations.new.told in
    let head = (codes "  input: " ++ rule_of declared edge) ∷ [] in
    let a = marked declared (codes "    ") line.explicit_inputs in
    let b = marked declared (codes "    | ") line.implicit_inputs in
    let d = marked declared (codes "    || ") line.order_only_inputs in
    let first = two_parts start one (codes "  input: ") c.rule.result.now (codes "  input: ") (rule_of declared edge) c.in_ok-push_line.ensures refl c.rule.ensures in
    let explicit = subst (λ (l : List ℕ). Puts one two (marked declared (codes "    ") l)) c.explicit_inputs.ensures c.in_ok-push_paths.ensures in
    let implicit = subst (λ (l : List ℕ). Puts two three (marked declared (codes "    | ") l)) c.implicit_inputs.ensures c.in_ok-push_paths-2.ensures in
    let order_only = subst (λ (l : List ℕ). Puts three four (marked declared (codes "    || ") l)) c.order_only_inputs.ensures c.in_ok-push_paths-3.ensures in
    on_ok c.push_validations.result
    (λ put.
    let last = if_some line.validations (codes "  validations:" ∷ marked declared (codes "    ") line.validations) in
    let validations = subst (λ (l : List ℕ). Puts four five (if_some l (codes "  validations:" ∷ marked declared (codes "    ") l))) c.validations.ensures put in
    puts_then start four five (((head ++ a) ++ b) ++ d) last (puts_then start three four ((head ++ a) ++ b) d (puts_then start two three (head ++ a) b (puts_then start one two head a first explicit) implicit) order_only) validations)
    c.push_validations.ensures
