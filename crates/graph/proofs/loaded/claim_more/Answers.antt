use Rattle.std.proofs.Common.{◌∙◌, ℕ, List, Option, ap, length, subst, sym, arith}
use Rattle.graph.specs.Gains.{gained_outputs, HaveGained}
use Rattle.graph.specs.InTurn.{ClaimsGains}
use Rattle.graph.proofs.Parts.{if_ok_then, on_err_then}
use Rattle.graph.proofs.loaded.claim_more.Goals as goal

pub claim_within-claimed-requires-clause-fits : goal.claim_within-claimed-requires-clause-fits
claim_within-claimed-requires-clause-fits c =
    let size = ap (λ (l : List (Option ℕ)). length l) (c.into_vec-grown.ensures ∙ c.replace.ensures.value) in
    let fits = c.requires.fits in
    omega (arith, size, fits)

pub returns-clause-fits : goal.returns-clause-fits
returns-clause-fits c = if_ok_then c.claim_within-claimed.result c.claim_within-claimed.ensures.fits (λ is so yes. ap (λ (l : List (Option ℕ)). length l) c.from_vec.ensures ∙ so yes)

pub returns-clause-made : goal.returns-clause-made
returns-clause-made c = if_ok_then c.claim_within-claimed.result c.claim_within-claimed.ensures.made (λ is so yes.
    subst (λ (l : List (Option ℕ)). ClaimsGains c.args.gains.now c.args.chosen.now l c.from_vec.result) (c.into_vec-grown.ensures ∙ c.replace.ensures.value)
    (subst (λ (l : List (Option ℕ)). ClaimsGains c.args.gains.now c.args.chosen.now c.into_vec-grown.result.items l) (sym {A = List (Option ℕ)} c.from_vec.ensures) (so yes)))

pub returns-clause-gained : goal.returns-clause-gained
returns-clause-gained c = if_ok_then c.claim_within-claimed.result c.claim_within-claimed.ensures.gained (λ is so yes.
    subst (λ (l : List (Option ℕ)). HaveGained (gained_outputs c.args.gains.now c.args.chosen.now) l c.from_vec.result) (c.into_vec-grown.ensures ∙ c.replace.ensures.value)
    (subst (λ (l : List (Option ℕ)). HaveGained (gained_outputs c.args.gains.now c.args.chosen.now) c.into_vec-grown.result.items l) (sym {A = List (Option ℕ)} c.from_vec.ensures) (so yes)))

pub returns-clause-kept : goal.returns-clause-kept
returns-clause-kept c = if_ok_then c.claim_within-claimed.result c.claim_within-claimed.ensures.kept (λ is so no. c.from_vec.ensures ∙ (so no ∙ (c.into_vec-grown.ensures ∙ c.replace.ensures.value)))

pub returns-clause-err : goal.returns-clause-err
returns-clause-err c = on_err_then c.claim_within-claimed.result c.claim_within-claimed.ensures.err (λ same. c.from_vec.ensures ∙ (same ∙ (c.into_vec-grown.ensures ∙ c.replace.ensures.value)))
