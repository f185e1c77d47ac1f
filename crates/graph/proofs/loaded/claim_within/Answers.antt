use Rattle.std.proofs.Common.{◌≡◌, ◌∙◌, ◌++◌, ◌-◌, ℕ, List, Option, None, ap, length, subst, sym, take, arith}
use Rattle.std.specs.Prelude.{replicate}
use Rattle.std.proofs.Math.Seq.{take-append_seam}
use Rattle.std.proofs.lemmas.Bool.{false≢true, true≢false}
use Rattle.std.proofs.lemmas.List.{take_all}
use Rattle.graph.specs.Gains.{gained_outputs, HaveGained}
use Rattle.graph.specs.Held.{maker_in}
use Rattle.graph.specs.InTurn.{lines_given, AreMakersIn, AreOutputsBelow}
use Rattle.graph.proofs.Claiming.{longer_same, makers_same}
use Rattle.graph.proofs.Ends.{some_err}
use Rattle.graph.proofs.Losing.{gained_longer, slice_whole}
use Rattle.graph.proofs.loaded.claim_within.Goals as goal

pub returns-in_err-resize-clause-err : goal.returns-in_err-resize-clause-err
returns-in_err-resize-clause-err c = some_err c.from_residual.result c.in_err-resize.ensures.items

pub claim_gains-requires-clause-outputs : goal.claim_gains-requires-clause-outputs
claim_gains-requires-clause-outputs c =
    let wide = c.resize.new.self in
    let size : length c.as_mut_slice.result.now ≡ c.args.paths = ap (λ (l : List (Option ℕ)). length l) c.as_mut_slice.ensures.value ∙ (sym wide.ok.0 ∙ c.in_ok-resize.ensures.len) in
    subst (λ (n : ℕ). AreOutputsBelow n c.args.gains.now) (sym {A = ℕ} size) c.requires.outputs

pub returns-then-claim_gains-clause-fits : goal.returns-then-claim_gains-clause-fits
returns-then-claim_gains-clause-fits c = λ yes.
    let wide = c.resize.new.self in
    let now = c.claim_gains.new.makers in
    let size : length now ≡ length wide.items = c.claim_gains.ensures.fits ∙ ap (λ (l : List (Option ℕ)). length l) c.as_mut_slice.ensures.value in
    ap (λ (l : List (Option ℕ)). length l) (slice_whole wide.len wide.items now wide.ok.0 size) ∙ (size ∙ (sym wide.ok.0 ∙ c.in_ok-resize.ensures.len))

pub returns-then-claim_gains-clause-made : goal.returns-then-claim_gains-clause-made
returns-then-claim_gains-clause-made c = λ yes before within are.
    let old = c.args.makers.now in
    let wide = c.resize.new.self in
    let now = c.claim_gains.new.makers in
    let size : length now ≡ length wide.items = c.claim_gains.ensures.fits ∙ ap (λ (l : List (Option ℕ)). length l) c.as_mut_slice.ensures.value in
    let all : wide.items ≡ old.items ++ replicate (c.args.paths - old.len) None =
    c.in_ok-resize.ensures.items ∙ ap (λ (l : List (Option ℕ)). l ++ replicate (c.args.paths - old.len) None) (take_all c.args.paths old.items c.requires.fits) in
    let first = makers_same before old.items c.as_mut_slice.result.now (λ p. ap (λ (l : List (Option ℕ)). maker_in l p) (c.as_mut_slice.ensures.value ∙ all) ∙ longer_same old.items (c.args.paths - old.len) p) are in
    subst (λ (l : List (Option ℕ)). AreMakersIn (lines_given c.args.gains.now before c.args.chosen.now) l) (sym {A = List (Option ℕ)} (slice_whole wide.len wide.items now wide.ok.0 size))
    (c.claim_gains.ensures.made c.if-claim_gains.true before within first)

pub returns-then-claim_gains-clause-gained : goal.returns-then-claim_gains-clause-gained
returns-then-claim_gains-clause-gained c = λ yes.
    let old = c.args.makers.now in
    let wide = c.resize.new.self in
    let now = c.claim_gains.new.makers in
    let outs = gained_outputs c.args.gains.now c.args.chosen.now in
    let size : length now ≡ length wide.items = c.claim_gains.ensures.fits ∙ ap (λ (l : List (Option ℕ)). length l) c.as_mut_slice.ensures.value in
    let all : wide.items ≡ old.items ++ replicate (c.args.paths - old.len) None =
    c.in_ok-resize.ensures.items ∙ ap (λ (l : List (Option ℕ)). l ++ replicate (c.args.paths - old.len) None) (take_all c.args.paths old.items c.requires.fits) in
    let long : length c.as_mut_slice.result.now ≡ c.args.paths = ap (λ (l : List (Option ℕ)). length l) c.as_mut_slice.ensures.value ∙ (sym wide.ok.0 ∙ c.in_ok-resize.ensures.len) in
    let fits = c.requires.fits in
    subst (λ (l : List (Option ℕ)). HaveGained outs old.items l) (sym {A = List (Option ℕ)} (slice_whole wide.len wide.items now wide.ok.0 size))
    (gained_longer outs old.items c.as_mut_slice.result.now now (omega (arith, fits, long)) (λ p. ap (λ (l : List (Option ℕ)). maker_in l p) (c.as_mut_slice.ensures.value ∙ all) ∙ longer_same old.items (c.args.paths - old.len) p)
    (c.claim_gains.ensures.gained c.if-claim_gains.true))

pub returns-then-claim_gains-clause-kept : goal.returns-then-claim_gains-clause-kept
returns-then-claim_gains-clause-kept c = λ no. absurd (true≢false no)

pub returns-clause-fits : goal.returns-clause-fits
returns-clause-fits c = λ yes. absurd (false≢true yes)

pub returns-clause-made : goal.returns-clause-made
returns-clause-made c = λ yes. absurd (false≢true yes)

pub returns-clause-gained : goal.returns-clause-gained
returns-clause-gained c = λ yes. absurd (false≢true yes)

pub returns-clause-kept : goal.returns-clause-kept
returns-clause-kept c = λ no.
    let old = c.args.makers.now in
    let wide = c.resize.new.self in
    let now = c.claim_gains.new.makers in
    let size : length now ≡ length wide.items = c.claim_gains.ensures.fits ∙ ap (λ (l : List (Option ℕ)). length l) c.as_mut_slice.ensures.value in
    let all : wide.items ≡ old.items ++ replicate (c.args.paths - old.len) None =
    c.in_ok-resize.ensures.items ∙ ap (λ (l : List (Option ℕ)). l ++ replicate (c.args.paths - old.len) None) (take_all c.args.paths old.items c.requires.fits) in
    let same : now ≡ old.items ++ replicate (c.args.paths - old.len) None = c.claim_gains.ensures.kept c.if-claim_gains.false ∙ (c.as_mut_slice.ensures.value ∙ all) in
    let count : c.len-known.result ≡ length old.items = c.len-known.ensures ∙ old.ok.0 in
    c.truncate.ensures.items ∙ (ap (take c.len-known.result) (slice_whole wide.len wide.items now wide.ok.0 size ∙ same)
    ∙ (ap (λ (n : ℕ). take n (old.items ++ replicate (c.args.paths - old.len) None)) count ∙ take-append_seam old.items (replicate (c.args.paths - old.len) None)))
