use Rattle.std.proofs.Common.{◌≡◌, ◌∙◌, ◌<◌, ℕ, List, ap, sym, subst, length, get_or}
use Rattle.std.specs.List.{AllByRecursion}
use Rattle.paths.specs.Lists.{line_at, line_inputs}
use Rattle.graph.specs.Held.{pushed}
use Rattle.graph.proofs.Lists.{length-pushed}
use Rattle.graph.proofs.Makes.{inputs_within}
use Rattle.graph.proofs.Parts.{all_index}
use Rattle.graph.proofs.Turns.{users_next}
use Rattle.graph.proofs.build.use_inputs.Goals as goal

pub push_all-requires : goal.push_all-requires
push_all-requires c =
    let manifest = c.args.manifest.now in
    let inputs = line_inputs (line_at manifest.lines c.edge-edge.result) in
    subst (λ (l : List ℕ). (k d : ℕ) → k < length l → get_or l k d < length c.loop-place.users) (sym {A = List ℕ} c.inputs.ensures)
    (subst (λ (n : ℕ). (k d : ℕ) → k < length inputs → get_or inputs k d < n) (sym {A = ℕ} c.loop-place.invariant.fits) (all_index (length manifest.paths) inputs (inputs_within manifest c.edge-edge.result)))

pub loop-place-preserved : goal.loop-place-preserved
loop-place-preserved c =
    let manifest = c.args.manifest.now in
    let place = c.loop-place.place in
    let grown : c.push_all.new.self ≡ pushed c.loop-place.users (line_inputs (line_at manifest.lines place)) place =
    c.in_ok-push_all.ensures.ok ∙ (ap (λ (l : List ℕ). pushed c.loop-place.users l c.edge-edge.result) c.inputs.ensures
    ∙ ap (λ (n : ℕ). pushed c.loop-place.users (line_inputs (line_at manifest.lines n)) n) c.edge-edge.ensures) in
    record {
      fits = ap length grown ∙ (length-pushed c.loop-place.users (line_inputs (line_at manifest.lines place)) place ∙ c.loop-place.invariant.fits);
      counted = users_next c.loop-place.users c.push_all.new.self manifest.lines place
          (subst (λ (n : ℕ). AllByRecursion (λ p. p < n) (line_inputs (line_at manifest.lines place))) (sym {A = ℕ} c.loop-place.invariant.fits) (inputs_within manifest place)) grown c.loop-place.invariant.counted;
    }
