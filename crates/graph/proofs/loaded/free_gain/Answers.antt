use Rattle.std.proofs.Common.{◌≡◌, ◌∙◌, ◌<◌, ℕ, List, Option, IfSome, ap, get_or, length, subst, sym}
use Rattle.std.proofs.lemmas.List.{get_or_default}
use Rattle.graph.specs.declared.loaded.Gain.{Gain}
use Rattle.graph.specs.Gains.{AreFreed}
use Rattle.graph.specs.Statements.{no_gain, gain_at, gain_of}
use Rattle.graph.proofs.Losing.{freed_none}
use Rattle.graph.proofs.Parts.{all_index}
use Rattle.graph.proofs.Texts.{within_of}
use Rattle.graph.proofs.loaded.free_gain.Goals as goal

pub free-requires : goal.free-requires
free-requires c =
    let gains = c.args.gains.now in
    let k = c.in-Some.statement in
    let count = length c.args.makers.now in
    let low : k < length gains = subst (λ o. IfSome o (λ n. n < length gains)) c.in-Some.is c.requires.within in
    let gain = c.index-gains-statement.result in
    let outputs : (gain_at gains k).outputs ≡ c.as_slice.result.now = ap (λ (g : Gain). g.outputs) (sym (get_or_default gains k gain no_gain low)) ∙ sym c.as_slice.ensures in
    subst (λ (l : List ℕ). (j d : ℕ) → j < length l → get_or l j d < count) outputs (all_index count (gain_at gains k).outputs (within_of count (gain_at gains k).outputs (c.requires.outputs k)))

pub returns-in-Some : goal.returns-in-Some
returns-in-Some c =
    let gains = c.args.gains.now in
    let k = c.in-Some.statement in
    let low : k < length gains = subst (λ o. IfSome o (λ n. n < length gains)) c.in-Some.is c.requires.within in
    let gain = c.index-gains-statement.result in
    let outputs : (gain_at gains k).outputs ≡ c.as_slice.result.now = ap (λ (g : Gain). g.outputs) (sym (get_or_default gains k gain no_gain low)) ∙ sym c.as_slice.ensures in
    subst (λ (o : Option ℕ). AreFreed (gain_of gains o).outputs c.args.makers.now c.free.new.makers) (sym c.in-Some.is)
    (subst (λ (l : List ℕ). AreFreed l c.args.makers.now c.free.new.makers) (sym {A = List ℕ} outputs) c.free.ensures)

pub returns-in-None : goal.returns-in-None
returns-in-None c = subst (λ (o : Option ℕ). AreFreed (gain_of c.args.gains.now o).outputs c.args.makers.now c.args.makers.now) (sym c.in-None.is) (freed_none c.args.makers.now)
