use Rattle.std.proofs.Common.{[], ℕ, List, take, append-nil, ap, subst, sym, ◌∙◌, string_bytes, get_or}
use Rattle.std.specs.List.{flat_map}
use Rattle.std.proofs.lemmas.List.{take_all}
use Rattle.paths.specs.Commands.{no_action}
use Rattle.tools.specs.Answers.{Puts, command_in, commands_of, lines}
use Rattle.tools.proofs.Putting.{flat_next, puts_then}
use Rattle.tools.proofs.command_lines.commands.Goals as goal

pub loop-edge-preserved : goal.loop-edge-preserved
loop-edge-preserved c =
    let told = λ (e : ℕ). command_in (get_or c.args.declared.now.graph.manifest.actions e no_action) in
    let edge = c.edge-item.result in
    let items = c.as_slice-edge-items.result.now in
    let old = string_bytes c.loop-edge.told in
    let new = string_bytes c.push_command.new.told in
    let one = subst (λ (l : List (List ℕ)). Puts old new l) (append-nil (told edge)) c.in_ok-push_command.ensures in
    subst (Puts [] new) (sym (flat_next told items c.loop-edge.edge-index edge c.loop-edge-test.true c.edge-item.is))
    (puts_then [] old new (flat_map told (take c.loop-edge.edge-index items)) (told edge) c.loop-edge.invariant one)

pub returns : goal.returns
returns c =
    let told = commands_of c.args.declared.now in (
      c.in_ok-edges.edges.items,
      c.in_ok-edges.ensures,
      c.loop-edge.invariant ∙ ap (λ (l : List ℕ). lines (told l)) (take_all c.loop-edge.edge-index c.as_slice-edge-items.result.now c.loop-edge-test.false ∙ c.as_slice-edge-items.ensures.value),
    )
