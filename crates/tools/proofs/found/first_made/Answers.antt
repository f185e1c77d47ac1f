use Rattle.std.proofs.Common.{ℕ, List, slice_get, ap, sym, ◌∙◌}
use Rattle.tools.proofs.Asking.{made_first}
use Rattle.tools.proofs.found.first_made.Goals as goal

pub returns : goal.returns
returns c =
    made_first c.args.graph.now c.args.path c.in_ok-edge.edge.now c.copied.result (ap (λ (l : List ℕ). slice_get l 0) (sym c.users_at.ensures) ∙ sym c.in_ok-edge.ensures.value)
    (c.copied.ensures ∙ (c.first-2.ensures.value ∙ ap (λ (l : List ℕ). slice_get l 0) c.outputs_at.ensures))
