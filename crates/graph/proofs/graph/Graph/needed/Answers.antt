use Rattle.std.proofs.Common.{◌≡◌, ◌∙◌, ◌<◌, ◌||◌, ◌++◌, ℕ, Bool, List, false, ap, sym, subst, length, get_or, take, drop, arith}
use Rattle.std.proofs.Math.Seq.{take-append_seam}
use Rattle.model.specs.Graph.{has_number}
use Rattle.paths.specs.Lists.{line_at, line_inputs}
use Rattle.graph.proofs.Makes.{input_below}
use Rattle.graph.proofs.Parts.{all_index}
use Rattle.graph.proofs.Texts.{within_of}
use Rattle.graph.proofs.Turns.{needed_next}
use Rattle.graph.proofs.graph.Graph.needed.Goals as goal

pub mark-requires : goal.mark-requires
mark-requires c =
    let manifest = c.args.self.now.manifest in
    let inputs = line_inputs (line_at manifest.lines c.edge.result) in
    let size : length c.deref_mut.result.now ≡ length manifest.paths = ap length c.deref_mut.ensures.value ∙ c.loop-place.invariant.fits in
    subst (λ (l : List ℕ). (k d : ℕ) → k < length l → get_or l k d < length c.deref_mut.result.now) (sym {A = List ℕ} c.inputs.ensures)
    (subst (λ (n : ℕ). (k d : ℕ) → k < length inputs → get_or inputs k d < n) (sym {A = ℕ} size) (all_index (length manifest.paths) inputs (within_of (length manifest.paths) inputs (input_below manifest c.edge.result))))

pub loop-place-preserved : goal.loop-place-preserved
loop-place-preserved c =
    let manifest = c.args.self.now.manifest in
    let place = c.loop-place.place in
    let old = c.loop-place.needed in
    let marks = c.mark.new.marks in
    let size : length marks ≡ length old.items = c.mark.ensures.fits ∙ ap length c.deref_mut.ensures.value in
    let long : old.len ≡ length marks = omega (arith, old.ok.0, size) in
    let whole : take old.len (marks ++ drop (length marks) old.items) ≡ marks = ap (λ (n : ℕ). take n (marks ++ drop (length marks) old.items)) long ∙ take-append_seam marks (drop (length marks) old.items) in
    let lt : place < length manifest.lines = omega arith in
    record {
      fits = ap length whole ∙ (size ∙ c.loop-place.invariant.fits);
      marked = λ p. ap (λ (l : List Bool). get_or l p false) whole ∙ needed_next manifest.lines place old.items marks lt c.loop-place.invariant.marked
          (λ q. c.mark.ensures.marked q ∙ (ap (λ (l : List Bool). get_or l q false || has_number c.inputs.result.now q) c.deref_mut.ensures.value
          ∙ (ap (λ (l : List ℕ). get_or old.items q false || has_number l q) c.inputs.ensures ∙ ap (λ (n : ℕ). get_or old.items q false || has_number (line_inputs (line_at manifest.lines n)) q) c.edge.ensures))) p;
    }
