use Rattle.std.proofs.Common.{refl, ◌++◌, [], ◌∷◌, ℕ, List, ap, subst, sym, string_bytes, get_or}
use Rattle.paths.specs.Commands.{no_action}
use Rattle.tools.specs.Answers.{Puts}
use Rattle.tools.proofs.Making.{command_told, no_command_told}
use Rattle.tools.proofs.Putting.{on_ok, two_parts, puts_none}
use Rattle.tools.proofs.command_lines.push_command.Goals as goal

pub returns-in-Some : goal.returns-in-Some
returns-in-Some c =
    let action = get_or c.args.declared.now.graph.manifest.actions c.args.edge no_action in
    let command = c.in-Some.command.now in
    let old = string_bytes c.args.told.now in
    let new = string_bytes c.push_line.new.text in
    on_ok c.push_line.result
    (λ put. subst (λ (l : List (List ℕ)). Puts old new (l ++ [])) (sym (command_told action command (sym c.in-Some.ensures)))
    (subst (λ (t : List ℕ). Puts old new (t ∷ [])) (sym c.parts.ensures.text) (two_parts old new c.parts.result.0.now c.parts.result.1.now c.parts.result.0.now c.parts.result.1.now put refl refl)))
    c.push_line.ensures

pub returns-in-None : goal.returns-in-None
returns-in-None c =
    let action = get_or c.args.declared.now.graph.manifest.actions c.args.edge no_action in
    let told = string_bytes c.args.told.now in
    subst (λ (l : List (List ℕ)). Puts told told (l ++ [])) (sym (no_command_told action (sym c.in-None.ensures))) (puts_none told)
