use Rattle.std.proofs.Common.{◌≡◌, ◌∙◌, ◌<◌, ℕ, List, Option, IfSome, ap, get_or, length, subst, sym}
use Rattle.std.proofs.lemmas.Bool.{true≢false}
use Rattle.std.proofs.lemmas.List.{get_or_default}
use Rattle.graph.specs.declared.loaded.Gain.{Gain}
use Rattle.graph.specs.Making.{HaveClaimed}
use Rattle.graph.specs.InTurn.{ClaimsWith}
use Rattle.graph.specs.Statements.{no_gain, gain_at}
use Rattle.graph.proofs.Parts.{all_index}
use Rattle.graph.proofs.Texts.{within_of}
use Rattle.graph.proofs.loaded.claim_gain.Goals as goal

pub claim_free-requires : goal.claim_free-requires
claim_free-requires c =
    let gains = c.args.gains.now in
    let k = c.in-Some.statement in
    let count = length c.args.makers.now in
    let low : k < length gains = subst (λ o. IfSome o (λ n. n < length gains)) c.in-Some.is c.requires.within in
    let gain = c.index-gains-statement.result in
    let outputs : (gain_at gains k).outputs ≡ c.as_slice.result.now = ap (λ (g : Gain). g.outputs) (sym (get_or_default gains k gain no_gain low)) ∙ sym c.as_slice.ensures in
    subst (λ (l : List ℕ). (j d : ℕ) → j < length l → get_or l j d < count) outputs (all_index count (gain_at gains k).outputs (within_of count (gain_at gains k).outputs (c.requires.outputs k)))

pub returns-in-Some-clause-claimed : goal.returns-in-Some-clause-claimed
returns-in-Some-clause-claimed c = λ is.
    let gains = c.args.gains.now in
    let k = c.in-Some.statement in
    let low : k < length gains = subst (λ o. IfSome o (λ n. n < length gains)) c.in-Some.is c.requires.within in
    let gain = c.index-gains-statement.result in
    let outputs : (gain_at gains k).outputs ≡ c.as_slice.result.now = ap (λ (g : Gain). g.outputs) (sym (get_or_default gains k gain no_gain low)) ∙ sym c.as_slice.ensures in
    subst (λ (o : Option ℕ). ClaimsWith gains c.args.makers.now c.claim_free.new.makers c.args.choice.edge o) (sym c.in-Some.is)
    (subst (λ (l : List ℕ). HaveClaimed c.args.makers.now c.claim_free.new.makers l c.args.choice.edge) (sym {A = List ℕ} outputs) (c.claim_free.ensures.claimed is))

pub returns-in-None-clause-kept : goal.returns-in-None-clause-kept
returns-in-None-clause-kept c = λ no. absurd (true≢false no)
