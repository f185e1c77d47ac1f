use Rattle.std.proofs.Common.{◌≡◌, ◌∙◌, ◌<◌, ℕ, List, Option, IfSome, ap, length, refl, subst, sym, take, arith}
use Rattle.std.proofs.lemmas.Bool.{false≢true, true≢false}
use Rattle.std.proofs.lemmas.List.Elements.{All-take}
use Rattle.paths.specs.declared.line.Line.{Line}
use Rattle.graph.specs.declared.choice.Choice.{Choice}
use Rattle.graph.specs.Chosen.{IsWithin}
use Rattle.graph.specs.Gains.{gained_outputs, HaveGained, AreFreed}
use Rattle.graph.specs.InTurn.{lines_given, AreMakersIn, AreOutputsBelow}
use Rattle.graph.specs.Statements.{gain_of}
use Rattle.graph.proofs.Claiming.{makers_with}
use Rattle.graph.proofs.InTurn.{all_chosen, given_push, length-given, take_push}
use Rattle.graph.proofs.Losing.{gained_none, gained_then, gained_with, outputs_push, freed_back}
use Rattle.graph.proofs.loaded.claim_gains.Goals as goal

pub loop-done-init : goal.loop-done-init
loop-done-init c = record { fits = refl; made = λ before within are. are; gained = gained_none c.args.makers.now }

pub claim_gain-requires-clause-outputs : goal.claim_gain-requires-clause-outputs
claim_gain-requires-clause-outputs c = subst (λ (n : ℕ). AreOutputsBelow n c.args.gains.now) (sym c.loop-done.invariant.fits) c.requires.outputs

pub claim_gain-requires-clause-within : goal.claim_gain-requires-clause-within
claim_gain-requires-clause-within c =
    let x = c.index-chosen-done.result in
    subst (λ (y : Choice). IfSome y.statement (λ k. k < length c.args.gains.now)) (sym c.index-chosen-done.is) (c.requires.within.1 c.loop-done.done x c.loop-done-test.true).statement

pub free_gains-requires-clause-outputs : goal.free_gains-requires-clause-outputs
free_gains-requires-clause-outputs c = subst (λ (n : ℕ). AreOutputsBelow n c.args.gains.now) (sym (c.claim_gain.ensures.fits ∙ c.loop-done.invariant.fits)) c.requires.outputs

pub free_gains-requires-clause-within : goal.free_gains-requires-clause-within
free_gains-requires-clause-within c =
    (c.requires.within.0, All-take (IsWithin c.requires.within.0 (length c.args.gains.now)) c.loop-done.done c.args.chosen.now c.requires.within.1)

pub returns-then-not-claim_gain-clause-fits : goal.returns-then-not-claim_gain-clause-fits
returns-then-not-claim_gain-clause-fits c = c.free_gains.ensures.fits ∙ (c.claim_gain.ensures.fits ∙ c.loop-done.invariant.fits)

pub returns-then-not-claim_gain-clause-made : goal.returns-then-not-claim_gain-clause-made
returns-then-not-claim_gain-clause-made c = λ is before within are. absurd (false≢true is)

pub returns-then-not-claim_gain-clause-gained : goal.returns-then-not-claim_gain-clause-gained
returns-then-not-claim_gain-clause-gained c = λ is. absurd (false≢true is)

pub returns-then-not-claim_gain-clause-kept : goal.returns-then-not-claim_gain-clause-kept
returns-then-not-claim_gain-clause-kept c = λ no.
    let outs = gained_outputs c.args.gains.now (take c.loop-done.done c.args.chosen.now) in
    let kept : c.claim_gain.new.makers ≡ c.loop-done.makers = c.claim_gain.ensures.kept c.if-not-claim_gain.true in
    freed_back outs c.args.makers.now c.loop-done.makers c.free_gains.new.makers c.loop-done.invariant.fits c.loop-done.invariant.gained
    (subst (λ (l : List (Option ℕ)). AreFreed outs l c.free_gains.new.makers) kept c.free_gains.ensures)

pub loop-done-preserved : goal.loop-done-preserved
loop-done-preserved c =
    let gains = c.args.gains.now in
    let chosen = c.args.chosen.now in
    let place = c.loop-done.done in
    let x = c.index-chosen-done.result in
    let first = c.args.makers.now in
    let old = c.loop-done.makers in
    let new = c.claim_gain.new.makers in
    let claimed = c.claim_gain.ensures.claimed c.if-not-claim_gain.false in
    record {
      fits = c.claim_gain.ensures.fits ∙ c.loop-done.invariant.fits;
      made = λ before within are.
          let long = length-given gains before (take place chosen) in
          let edge = (subst (IsWithin (length before) (length gains)) (sym c.index-chosen-done.is) (within place x c.loop-done-test.true)).edge in
          subst (λ (l : List Line). AreMakersIn l new) (sym (ap (lines_given gains before) (take_push chosen place x c.loop-done-test.true c.index-chosen-done.is) ∙ given_push gains before (take place chosen) x))
          (makers_with gains (lines_given gains before (take place chosen)) old new x.edge x.statement (omega (arith, edge, long)) (c.loop-done.invariant.made before within are) claimed);
      gained = subst (λ (l : List ℕ). HaveGained l first new) (sym (ap (gained_outputs gains) (take_push chosen place x c.loop-done-test.true c.index-chosen-done.is) ∙ outputs_push gains (take place chosen) x))
          (gained_then (gained_outputs gains (take place chosen)) (gain_of gains x.statement).outputs first old new c.loop-done.invariant.gained (gained_with gains old new x.edge x.statement c.claim_gain.ensures.fits claimed));
    }

pub returns-clause-made : goal.returns-clause-made
returns-clause-made c = λ is before within are.
    subst (λ (l : List Choice). AreMakersIn (lines_given c.args.gains.now before l) c.loop-done.makers) (all_chosen c.args.chosen.now c.loop-done.done c.loop-done-test.false) (c.loop-done.invariant.made before within are)

pub returns-clause-gained : goal.returns-clause-gained
returns-clause-gained c = λ is.
    subst (λ (l : List Choice). HaveGained (gained_outputs c.args.gains.now l) c.args.makers.now c.loop-done.makers) (all_chosen c.args.chosen.now c.loop-done.done c.loop-done-test.false) c.loop-done.invariant.gained

pub returns-clause-kept : goal.returns-clause-kept
returns-clause-kept c = λ no. absurd (true≢false no)
