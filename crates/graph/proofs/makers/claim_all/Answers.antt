use Rattle.std.proofs.Common.{◌≡◌, ◌∙◌, ◌<◌, ◌+◌, ℕ, suc, List, ap, sym, subst, arith, rules, length, get_or, IfErr}
use Rattle.paths.specs.Lists.{line_at, line_outputs}
use Rattle.graph.specs.Making.{AreMakersBelow, HaveClaimed, HaveDyndepsBelow, IsClaimedTwice, IsOtherDyndep}
use Rattle.graph.proofs.Makes.{outputs_within, makers_turn}
use Rattle.graph.proofs.Flaws.{claim_flaw, dyndep_flaw, dyndeps_turn}
use Rattle.graph.proofs.Parts.{all_index, if_err_then}
use Rattle.graph.proofs.makers.claim_all.Goals as goal

pub claim-requires : goal.claim-requires
claim-requires c =
    let manifest = c.args.manifest.now in
    let outputs = line_outputs (line_at manifest.lines c.edge-edge.result) in
    subst (λ (l : List ℕ). (k d : ℕ) → k < length l → get_or l k d < length c.loop-place.makers) (sym {A = List ℕ} c.outputs.ensures)
    (subst (λ (n : ℕ). (k d : ℕ) → k < length outputs → get_or outputs k d < n) (sym {A = ℕ} c.loop-place.invariant.fits) (all_index (length manifest.paths) outputs (outputs_within manifest c.edge-edge.result)))

pub returns-in_err-claim-clause-flaw : goal.returns-in_err-claim-clause-flaw
returns-in_err-claim-clause-flaw c =
    let manifest = c.args.manifest.now in
    let edge = c.edge-edge.result in
    let twice : IfErr c.from_residual.result (IsClaimedTwice c.loop-place.makers c.outputs.result.now) = search rules in
    let low : edge < c.args.count = omega arith in
    let lt : edge < length manifest.lines = omega (arith, low, c.requires.within) in
    if_err_then c.from_residual.result twice (λ flaw is.
    claim_flaw manifest c.loop-place.makers c.args.count edge low lt (subst (AreMakersBelow manifest.lines c.loop-place.makers) (sym {A = ℕ} c.edge-edge.ensures) c.loop-place.invariant.below)
    (subst (HaveDyndepsBelow manifest) (sym {A = ℕ} c.edge-edge.ensures) c.loop-place.invariant.dyndeps) flaw (subst (λ (l : List ℕ). IsClaimedTwice c.loop-place.makers l flaw) c.outputs.ensures is))

pub returns-in_err-check_dyndep-clause-flaw : goal.returns-in_err-check_dyndep-clause-flaw
returns-in_err-check_dyndep-clause-flaw c =
    let manifest = c.args.manifest.now in
    let edge = c.edge-edge.result in
    let other : IfErr c.from_residual-in_err-check_dyndep.result (IsOtherDyndep manifest edge) = search rules in
    let low : edge < c.args.count = omega arith in
    let lt : edge < length manifest.lines = omega (arith, low, c.requires.within) in
    if_err_then c.from_residual-in_err-check_dyndep.result other (λ flaw is.
    dyndep_flaw manifest c.loop-place.makers c.claim.new.makers c.args.count edge low lt (subst (AreMakersBelow manifest.lines c.loop-place.makers) (sym {A = ℕ} c.edge-edge.ensures) c.loop-place.invariant.below)
    (subst (HaveDyndepsBelow manifest) (sym {A = ℕ} c.edge-edge.ensures) c.loop-place.invariant.dyndeps)
    (subst (λ (l : List ℕ). HaveClaimed c.loop-place.makers c.claim.new.makers l edge) c.outputs.ensures c.in_ok-claim.ensures.claimed) flaw is)

pub loop-place-preserved : goal.loop-place-preserved
loop-place-preserved c =
    let manifest = c.args.manifest.now in
    let edge = c.edge-edge.result in
    let lt : edge < length manifest.lines = omega (arith, c.requires.within) in
    let next : suc edge ≡ c.loop-place.place + 1 = ap suc c.edge-edge.ensures ∙ omega arith in
    record {
      fits = c.in_ok-claim.ensures.fits ∙ c.loop-place.invariant.fits;
      below = subst (AreMakersBelow manifest.lines c.claim.new.makers) next
          (makers_turn manifest.lines c.loop-place.makers c.claim.new.makers edge lt (subst (AreMakersBelow manifest.lines c.loop-place.makers) (sym {A = ℕ} c.edge-edge.ensures) c.loop-place.invariant.below)
          (subst (λ (l : List ℕ). HaveClaimed c.loop-place.makers c.claim.new.makers l edge) c.outputs.ensures c.in_ok-claim.ensures.claimed));
      dyndeps = dyndeps_turn manifest c.loop-place.place edge c.edge-edge.ensures c.loop-place.invariant.dyndeps c.in_ok-check_dyndep.ensures.ok;
    }
