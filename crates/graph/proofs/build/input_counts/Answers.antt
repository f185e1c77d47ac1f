use Rattle.std.proofs.Common.{◌≡◌, ◌∙◌, ◌<◌, ℕ, List, ap, sym, subst, length, get_or, arith}
use Rattle.std.specs.Vec.{with_items}
use Rattle.paths.specs.Lists.{line_at, line_inputs}
use Rattle.graph.proofs.Makes.{inputs_within}
use Rattle.graph.proofs.Parts.{all_index}
use Rattle.graph.proofs.build.input_counts.Goals as goal

pub loop-place-init : goal.loop-place-init
loop-place-init c = omega (arith, c.in_ok-counts.counts.ok.0, c.in_ok-counts.ensures.len, c.len.ensures.count)

pub count_paths-requires : goal.count_paths-requires
count_paths-requires c =
    let manifest = c.args.manifest.now in
    let inputs = line_inputs (line_at manifest.lines c.edge-edge.result) in
    let size : length c.deref_mut.result.now ≡ length manifest.paths = ap length c.deref_mut.ensures.value ∙ c.loop-place.invariant in
    subst (λ (l : List ℕ). (k d : ℕ) → k < length l → get_or l k d < length c.deref_mut.result.now) (sym {A = List ℕ} c.inputs.ensures)
    (subst (λ (n : ℕ). (k d : ℕ) → k < length inputs → get_or inputs k d < n) (sym {A = ℕ} size) (all_index (length manifest.paths) inputs (inputs_within manifest c.edge-edge.result)))

pub loop-place-preserved : goal.loop-place-preserved
loop-place-preserved c =
    let now = with_items c.loop-place.counts c.count_paths.new.counts in
    omega (arith, now.ok.0, c.loop-place.counts.ok.0, c.loop-place.invariant)
