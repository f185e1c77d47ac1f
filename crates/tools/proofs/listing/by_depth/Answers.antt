use Rattle.std.proofs.Common.{ℕ, List, ap, ◌∙◌}
use Rattle.std.specs.List.{flat_map}
use Rattle.tools.specs.Answers.{lines, tree}
use Rattle.tools.proofs.Leveled.{levels_some}
use Rattle.tools.proofs.listing.by_depth.Goals as goal

pub show_all-requires : goal.show_all-requires
show_all-requires c = levels_some c.args.declared.now c.args.depth c.in_ok-depth.depth c.in_ok-depth.ensures

pub returns : goal.returns
returns c =
    let declared = c.args.declared.now in
    let items = c.in_ok-roots.roots.items in (
      items,
      c.in_ok-roots.ensures,
      c.in_ok-show_all.ensures ∙ (ap (λ (l : List ℕ). lines (flat_map (tree declared c.in_ok-depth.depth 0) l)) c.as_slice.ensures.value ∙ ap (λ (n : ℕ). lines (flat_map (tree declared n 0) items)) c.in_ok-depth.ensures),
    )
