use Rattle.std.proofs.Common.{◌≡◌, ◌∙◌, ◌<◌, ℕ, List, [], Option, IfSome, ap, get_or, length, refl, subst, sym}
use Rattle.std.proofs.lemmas.List.{get_or_default}
use Rattle.graph.specs.declared.loaded.Gain.{Gain}
use Rattle.graph.specs.Fronts.{AreCut}
use Rattle.graph.specs.Held.{times}
use Rattle.graph.specs.Statements.{no_gain, gain_at, gain_of}
use Rattle.graph.proofs.Fronts.{cut_none}
use Rattle.graph.proofs.Parts.{all_index}
use Rattle.graph.proofs.Texts.{within_of}
use Rattle.graph.proofs.loaded.unuse_gain.Goals as goal

pub pop_all-requires : goal.pop_all-requires
pop_all-requires c =
    let gains = c.args.gains.now in
    let k = c.in-Some.statement in
    let low : k < length gains = subst (λ o. IfSome o (λ n. n < length gains)) c.in-Some.is c.requires.within in
    let gain = c.index-gains-statement.result in
    let inputs : (gain_at gains k).inputs ≡ c.as_slice.result.now = ap (λ (g : Gain). g.inputs) (sym (get_or_default gains k gain no_gain low)) ∙ sym c.as_slice.ensures in
    subst (λ (l : List ℕ). (j d : ℕ) → j < length l → get_or l j d < length c.args.users.now) inputs (all_index (length c.args.users.now) (gain_at gains k).inputs (within_of (length c.args.users.now) (gain_at gains k).inputs (c.requires.inputs k)))

pub returns-in-Some : goal.returns-in-Some
returns-in-Some c =
    let gains = c.args.gains.now in
    let k = c.in-Some.statement in
    let low : k < length gains = subst (λ o. IfSome o (λ n. n < length gains)) c.in-Some.is c.requires.within in
    let gain = c.index-gains-statement.result in
    let inputs : (gain_at gains k).inputs ≡ c.as_slice.result.now = ap (λ (g : Gain). g.inputs) (sym (get_or_default gains k gain no_gain low)) ∙ sym c.as_slice.ensures in
    subst (λ (o : Option ℕ). AreCut (times (gain_of gains o).inputs) c.args.users.now c.pop_all.new.self) (sym c.in-Some.is)
    (subst (λ (l : List ℕ). AreCut (times l) c.args.users.now c.pop_all.new.self) (sym {A = List ℕ} inputs) c.pop_all.ensures.cut)

pub returns-in-None : goal.returns-in-None
returns-in-None c =
    subst (λ (o : Option ℕ). AreCut (times (gain_of c.args.gains.now o).inputs) c.args.users.now c.args.users.now) (sym c.in-None.is) (cut_none (times []) c.args.users.now (λ p. refl))
