use Rattle.std.proofs.Common.{List, ℕ, ◌≤◌, ◌+◌, length, refl, sym, ◌∙◌, ap, subst}
use Rattle.std.proofs.lemmas.List.{take_all}
use Rattle.model.specs.Records.{all_paths_in}
use Rattle.paths.specs.declared.line.Line.{Line}
use Rattle.paths.specs.Lists.{line_at, line_outputs}
use Rattle.paths.specs.Told.{texts_at}
use Rattle.graph.specs.Links.{links_of}
use Rattle.judge.specs.Facts.{AreKnownOf}
use Rattle.work.specs.Recorded.{HaveJust, named_by}
use Rattle.work.proofs.Joining.{outputs_known}
use Rattle.work.proofs.Numbering.{only_then, just_is}
use Rattle.work.proofs.Telling.{outputs_are}
use Rattle.work.proofs.recorded.Numbers.put_inputs.Goals as goal

pub returns-in_err-push_inputs_at-clause-numbered : goal.returns-in_err-push_inputs_at-clause-numbered
returns-in_err-push_inputs_at-clause-numbered c are k n is = c.push_inputs_at.ensures.numbered (c.loop-place.invariant.numbered are) k n is

pub loop-place-preserved : goal.loop-place-preserved
loop-place-preserved c =
    let first = c.args.graph.now in
    let now = c.loop-place.graph in
    let new = c.push_inputs_at.new.graph in
    let records = c.args.records.now in
    let edge = c.args.edge in
    let place = c.loop-place.place in
    record {
      grown = only_then first now new c.loop-place.invariant.grown c.push_inputs_at.ensures.grown;
      numbered = λ are. c.push_inputs_at.ensures.numbered (c.loop-place.invariant.numbered are);
      inputs = λ rs ds known are.
          subst (λ (ns : List ℕ). AreKnownOf first.manifest.paths ns rs ds records → HaveJust now c.loop-place.inputs (named_by first.manifest.paths ds ns place) → HaveJust new c.push_inputs_at.new.inputs (named_by first.manifest.paths ds ns (place + 1)))
          (ap (λ (ls : List Line). line_outputs (line_at ls edge)) c.loop-place.invariant.grown.grown.lines)
          (λ of just. c.in_ok-push_inputs_at.ensures.inputs first.manifest.paths rs ds of (c.loop-place.invariant.numbered are) just)
          (outputs_known first rs ds records known edge ((links_of first).outputs edge) refl)
          (c.loop-place.invariant.inputs rs ds known are);
    }

pub returns-clause-inputs : goal.returns-clause-inputs
returns-clause-inputs c rs ds known are =
    let first = c.args.graph.now in
    let edge = c.args.edge in
    just_is c.loop-place.graph c.loop-place.inputs _ _
    (ap (λ (ns : List ℕ). all_paths_in ds (texts_at first.manifest.paths ns)) (take_all c.loop-place.place ((links_of first).outputs edge) (subst (λ (ns : List ℕ). length ns ≤ c.loop-place.place) c.outputs-place-end.ensures c.loop-place-test.false))
    ∙ ap (all_paths_in ds) (sym (outputs_are first.manifest edge)))
    (c.loop-place.invariant.inputs rs ds known are)
