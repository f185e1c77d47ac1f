use Rattle.std.proofs.Common.{◌≡◌, ◌∙◌, ◌<◌, ℕ, List, IfSome, ap, get_or, length, subst, sym}
use Rattle.std.proofs.lemmas.List.{get_or_default}
use Rattle.graph.specs.declared.loaded.Gain.{Gain}
use Rattle.graph.specs.Statements.{no_gain, gain_at}
use Rattle.graph.proofs.Parts.{all_index}
use Rattle.graph.proofs.Texts.{within_of}
use Rattle.graph.proofs.loaded.use_gain.Goals as goal

pub push_all-requires : goal.push_all-requires
push_all-requires c =
    let gains = c.args.gains.now in
    let k = c.in-Some.statement in
    let low : k < length gains = subst (λ o. IfSome o (λ n. n < length gains)) c.in-Some.is c.requires.within in
    let gain = c.index-gains-statement.result in
    let inputs : (gain_at gains k).inputs ≡ c.as_slice.result.now = ap (λ (g : Gain). g.inputs) (sym (get_or_default gains k gain no_gain low)) ∙ sym c.as_slice.ensures in
    subst (λ (l : List ℕ). (j d : ℕ) → j < length l → get_or l j d < length c.args.users.now) inputs (all_index (length c.args.users.now) (gain_at gains k).inputs (within_of (length c.args.users.now) (gain_at gains k).inputs (c.requires.inputs k)))
