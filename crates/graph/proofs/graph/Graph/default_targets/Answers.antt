use Rattle.std.proofs.Common.{◌≡◌, ◌∙◌, ◌==◌, ℕ, [], Bool, List, false, ap, sym, length, get_or, arith, vec_len}
use Rattle.std.specs.List.{flat_map}
use Rattle.model.specs.Graph.{has_number}
use Rattle.paths.specs.Lists.{line_inputs}
use Rattle.graph.proofs.Asked.{free_within, defaults_some, defaults_none}
use Rattle.graph.proofs.Parts.{if_ok_then, nothing_of}
use Rattle.graph.proofs.graph.Graph.default_targets.Goals as goal

pub returns-then-is_empty-clause-within : goal.returns-then-is_empty-clause-within
returns-then-is_empty-clause-within c = if_ok_then c.outputs_but-then-is_empty.result c.outputs_but-then-is_empty.ensures (λ free is. free_within c.args.self.now [] free.items is)

pub returns-then-is_empty-clause-targets : goal.returns-then-is_empty-clause-targets
returns-then-is_empty-clause-targets c =
    let roots = c.in_ok-roots.roots in
    let size : vec_len roots ≡ length roots.items = omega (arith, roots.ok.0) in
    let needed : (p : ℕ) → get_or c.deref.result.now p false ≡ has_number (flat_map line_inputs c.args.self.now.manifest.lines) p =
    λ p. ap (λ (l : List Bool). get_or l p false) c.deref.ensures.value ∙ c.in_ok-needed.ensures p in
    if_ok_then c.outputs_but-then-is_empty.result c.outputs_but-then-is_empty.ensures (λ all is.
    defaults_none c.args.self.now c.deref.result.now roots.items all.items needed c.in_ok-roots.ensures (nothing_of roots.items (c.if-is_empty.ensures ∙ ap (λ (n : ℕ). n == 0) size)) is)

pub returns-clause-within : goal.returns-clause-within
returns-clause-within c = free_within c.args.self.now c.deref.result.now c.in_ok-roots.roots.items c.in_ok-roots.ensures

pub returns-clause-targets : goal.returns-clause-targets
returns-clause-targets c =
    let roots = c.in_ok-roots.roots in
    let size : vec_len roots ≡ length roots.items = omega (arith, roots.ok.0) in
    let needed : (p : ℕ) → get_or c.deref.result.now p false ≡ has_number (flat_map line_inputs c.args.self.now.manifest.lines) p =
    λ p. ap (λ (l : List Bool). get_or l p false) c.deref.ensures.value ∙ c.in_ok-needed.ensures p in
    defaults_some c.args.self.now c.deref.result.now roots.items needed c.in_ok-roots.ensures (sym (c.if-is_empty.ensures ∙ ap (λ (n : ℕ). n == 0) size))
