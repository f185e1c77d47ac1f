use Rattle.std.proofs.Common.{◌∷◌, [], ◌++◌, ℕ, Option, codes, refl, subst, string_bytes}
use Rattle.tools.specs.Answers.{Puts, path_text, with_rule}
use Rattle.tools.specs.Files.{rule_of}
use Rattle.tools.specs.Showing.{head_line}
use Rattle.tools.proofs.Leveled.{line_indented}
use Rattle.tools.proofs.Putting.{on_ok, one_part, three_parts}
use Rattle.tools.proofs.listing.push_path.Goals as goal

pub returns-in-Some : goal.returns-in-Some
returns-in-Some c =
    let declared = c.args.declared.now in
    let path = c.args.path in
    let edge = c.in-Some.edge in
    let start = string_bytes c.args.told.now in
    let mid = string_bytes c.push_indent.new.told in
    let new = string_bytes c.push_line.new.text in
    on_ok c.push_line.result
    (λ put. subst (λ (o : Option ℕ). Puts start new (head_line declared c.args.level path o ∷ [])) c.in-Some.ensures.value
    (line_indented c.args.level start mid new (with_rule declared edge path) c.in_ok-push_indent.ensures
    (three_parts mid new c.text_at-text.result.now (codes ": ") c.rule.result.now (path_text declared path) (codes ": ") (rule_of declared edge) put c.text_at-text.ensures refl c.rule.ensures)))
    c.push_line.ensures

pub returns-in-None : goal.returns-in-None
returns-in-None c =
    let declared = c.args.declared.now in
    let path = c.args.path in
    let start = string_bytes c.args.told.now in
    let mid = string_bytes c.push_indent.new.told in
    let new = string_bytes c.push_line-in-None.new.text in
    on_ok c.push_line-in-None.result
    (λ put. subst (λ (o : Option ℕ). Puts start new (head_line declared c.args.level path o ∷ [])) c.in-None.ensures.value
    (line_indented c.args.level start mid new (path_text declared path) c.in_ok-push_indent.ensures (one_part mid new c.text_at-text.result.now (path_text declared path) put c.text_at-text.ensures)))
    c.push_line-in-None.ensures
