use Rattle.std.proofs.Common.{◌≡◌, ◌∙◌, ◌<◌, ℕ, suc, List, ap, sym, subst, arith, length, get_or, ◌+◌}
use Rattle.paths.specs.Lists.{line_at, line_outputs, line_inputs}
use Rattle.graph.specs.declared.side_files.Naming.TheVariants.{More}
use Rattle.graph.specs.Namings.{naming_in, made_too, AreNoted, AreNamingsBelow}
use Rattle.graph.proofs.Beside.{naming_turn, namings_none}
use Rattle.graph.proofs.Makes.{outputs_within, inputs_within, validations_within}
use Rattle.graph.proofs.Parts.{all_index}
use Rattle.graph.proofs.side_files.note_lines.Goals as goal

pub loop-place-init : goal.loop-place-init
loop-place-init c = record { fits = c.requires.fits; below = namings_none c.args.manifest.now.lines c.args.namings.now c.requires.none }

pub note_made-requires : goal.note_made-requires
note_made-requires c =
    let manifest = c.args.manifest.now in
    let paths = line_outputs (line_at manifest.lines c.edge-edge.result) in
    subst (λ (l : List ℕ). (k d : ℕ) → k < length l → get_or l k d < length c.loop-place.namings) (sym {A = List ℕ} c.outputs.ensures)
    (subst (λ (n : ℕ). (k d : ℕ) → k < length paths → get_or paths k d < n) (sym {A = ℕ} c.loop-place.invariant.fits) (all_index (length manifest.paths) paths (outputs_within manifest c.edge-edge.result)))

pub note_more-requires : goal.note_more-requires
note_more-requires c =
    let manifest = c.args.manifest.now in
    let paths = line_inputs (line_at manifest.lines c.edge-edge.result) in
    subst (λ (l : List ℕ). (k d : ℕ) → k < length l → get_or l k d < length c.note_made.new.namings) (sym {A = List ℕ} c.inputs.ensures)
    (subst (λ (n : ℕ). (k d : ℕ) → k < length paths → get_or paths k d < n) (sym {A = ℕ} (c.note_made.ensures.fits ∙ c.loop-place.invariant.fits)) (all_index (length manifest.paths) paths (inputs_within manifest c.edge-edge.result)))

pub note_more-requires-in-loop-place : goal.note_more-requires-in-loop-place
note_more-requires-in-loop-place c =
    let manifest = c.args.manifest.now in
    let paths = (line_at manifest.lines c.edge-edge.result).validations in
    subst (λ (l : List ℕ). (k d : ℕ) → k < length l → get_or l k d < length c.note_more.new.namings) (sym {A = List ℕ} c.validations.ensures)
    (subst (λ (n : ℕ). (k d : ℕ) → k < length paths → get_or paths k d < n) (sym {A = ℕ} (c.note_more.ensures.fits ∙ (c.note_made.ensures.fits ∙ c.loop-place.invariant.fits))) (all_index (length manifest.paths) paths (validations_within manifest c.edge-edge.result)))

pub loop-place-preserved : goal.loop-place-preserved
loop-place-preserved c =
    let manifest = c.args.manifest.now in
    let edge = c.edge-edge.result in
    let next : suc edge ≡ c.loop-place.place + 1 = ap suc c.edge-edge.ensures ∙ omega arith in
    let old = c.loop-place.namings in
    let made = c.note_made.new.namings in
    let named = c.note_more.new.namings in
    let new = c.note_more-in-loop-place.new.namings in
    record {
      fits = c.note_more-in-loop-place.ensures.fits ∙ (c.note_more.ensures.fits ∙ (c.note_made.ensures.fits ∙ c.loop-place.invariant.fits));
      below = subst (AreNamingsBelow manifest.lines new) next (λ p.
          naming_turn manifest.lines edge p (naming_in old p) (naming_in made p) (naming_in named p) (naming_in new p)
          (subst (λ (n : ℕ). AreNamingsBelow manifest.lines old n) (sym {A = ℕ} c.edge-edge.ensures) c.loop-place.invariant.below p)
          (subst (λ (l : List ℕ). AreNoted (made_too edge) l old made) c.outputs.ensures c.note_made.ensures.noted p)
          (subst (λ (l : List ℕ). AreNoted (λ naming. More) l made named) c.inputs.ensures c.note_more.ensures.noted p)
          (subst (λ (l : List ℕ). AreNoted (λ naming. More) l named new) c.validations.ensures c.note_more-in-loop-place.ensures.noted p));
    }

pub returns : goal.returns
returns c = record { fits = c.loop-place.invariant.fits; is = subst (AreNamingsBelow c.args.manifest.now.lines c.loop-place.namings) (omega arith) c.loop-place.invariant.below }
