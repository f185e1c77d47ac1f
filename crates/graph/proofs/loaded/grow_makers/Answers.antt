use Rattle.std.proofs.Common.{◌≡◌, ◌∙◌, ℕ, List, length, subst, sym, arith}
use Rattle.paths.specs.declared.line.Line.{Line}
use Rattle.graph.specs.InTurn.{AreMakersIn, AreOutputsBelow}
use Rattle.graph.proofs.Claiming.{makers_are}
use Rattle.graph.proofs.loaded.grow_makers.Goals as goal

pub claim_more-requires-clause-fits : goal.claim_more-requires-clause-fits
claim_more-requires-clause-fits c = let fits = c.requires.fits in let count = c.len.ensures.count in omega (arith, fits, count)

pub claim_more-requires-clause-outputs : goal.claim_more-requires-clause-outputs
claim_more-requires-clause-outputs c = subst (λ (n : ℕ). AreOutputsBelow n c.args.gains.now) (sym {A = ℕ} c.len.ensures.count) c.requires.outputs

pub claim_more-requires-clause-within : goal.claim_more-requires-clause-within
claim_more-requires-clause-within c = (length c.requires.grown.before, c.requires.grown.within)

pub returns-then-branch-clause-makers : goal.returns-then-branch-clause-makers
returns-then-branch-clause-makers c =
    let from = c.requires.grown in
    let now = c.claim_more.new.makers in
    let are = subst (λ (l : List Line). AreMakersIn l now) (sym {A = List Line} from.are) (c.in_ok-claim_more.ensures.made c.if-branch.true from.before from.within from.makers_are) in
    let size : length now ≡ length c.args.manifest.now.paths = c.in_ok-claim_more.ensures.fits c.if-branch.true ∙ c.len.ensures.count in
    makers_are c.args.manifest.now now (omega (arith, size)) are

pub returns-then-branch-clause-fits : goal.returns-then-branch-clause-fits
returns-then-branch-clause-fits c = c.in_ok-claim_more.ensures.fits c.if-branch.true ∙ c.len.ensures.count

pub returns-then-branch-clause-gained : goal.returns-then-branch-clause-gained
returns-then-branch-clause-gained c = c.in_ok-claim_more.ensures.gained c.if-branch.true

pub returns-clause-kept : goal.returns-clause-kept
returns-clause-kept c = c.in_ok-claim_more.ensures.kept c.if-branch.false
