use Rattle.std.proofs.Common.{inr, ℕ, List, sym, subst, ap, ◌∙◌, refl}
use Rattle.log_text.specs.declared.form.Version.TheVariants.{Two}
use Rattle.log_text.specs.Text.{IsLogOf}
use Rattle.records.specs.Held.{Held}
use Rattle.records.proofs.Replacing.{replace_at, replace_ok, replace_anew}
use Rattle.records.proofs.file.LogFile.replace.Goals as goal

pub returns-in_err-replace-clause-anew : goal.returns-in_err-replace-clause-anew
returns-in_err-replace-clause-anew g c own edges first l =
    let k = g.L.Records in
    replace_anew k.forms k.Keeps k.in_force k.compaction g.S.Texts.tells (g.S.Texts.world c.args.site.now) (g.S.Texts.world c.replace.new.self) c.args.self.now c.as_str.result.now c.as_slice.result.now (c.as_str.ensures.value ∙ ap (λ (h : Held _). h.path) c.self.view_is)
    c.keeps_in_force.ensures c.requires.stale (λ rs keeps. subst (λ (t : List ℕ). IsLogOf (k.forms Two) t (k.compaction rs)) (sym c.as_slice.ensures.value) (c.in_ok-text.ensures rs (subst (k.Keeps rs) (ap (λ (h : Held _). h.log) (sym c.self.view_is)) keeps)))
    own edges first l c.in_err-replace.ensures.err

pub returns-clause-writes : goal.returns-clause-writes
returns-clause-writes g c =
    let k = g.L.Records in
    replace_at k.forms k.Keeps k.in_force k.compaction g.S.Texts.tells (g.S.Texts.world c.args.site.now) (g.S.Texts.world c.replace.new.self) c.args.self.now c.as_str.result.now c.as_slice.result.now (c.as_str.ensures.value ∙ ap (λ (h : Held _). h.path) c.self.view_is) c.in_ok-replace.ensures.writes

pub returns-clause-carried : goal.returns-clause-carried
returns-clause-carried g c own edges first l =
    let k = g.L.Records in
    replace_ok k.forms k.Keeps k.in_force k.compaction g.S.Texts.tells (g.S.Texts.world c.args.site.now) (g.S.Texts.world c.replace.new.self) c.args.self.now c.as_str.result.now c.as_slice.result.now (c.as_str.ensures.value ∙ ap (λ (h : Held _). h.path) c.self.view_is)
    c.keeps_in_force.ensures c.requires.stale (λ rs keeps. subst (λ (t : List ℕ). IsLogOf (k.forms Two) t (k.compaction rs)) (sym c.as_slice.ensures.value) (c.in_ok-text.ensures rs (subst (k.Keeps rs) (ap (λ (h : Held _). h.log) (sym c.self.view_is)) keeps)))
    own edges first l _ (ap (λ (h : Held _). h.path) c.self.view_is) (ap (λ (h : Held _). h.log) c.self.view_is) refl c.in_ok-replace.ensures.writes

pub returns-clause-anew : goal.returns-clause-anew
returns-clause-anew g c own edges first l =
    let k = g.L.Records in
    replace_anew k.forms k.Keeps k.in_force k.compaction g.S.Texts.tells (g.S.Texts.world c.args.site.now) (g.S.Texts.world c.replace.new.self) c.args.self.now c.as_str.result.now c.as_slice.result.now (c.as_str.ensures.value ∙ ap (λ (h : Held _). h.path) c.self.view_is)
    c.keeps_in_force.ensures c.requires.stale (λ rs keeps. subst (λ (t : List ℕ). IsLogOf (k.forms Two) t (k.compaction rs)) (sym c.as_slice.ensures.value) (c.in_ok-text.ensures rs (subst (k.Keeps rs) (ap (λ (h : Held _). h.log) (sym c.self.view_is)) keeps)))
    own edges first l (inr c.in_ok-replace.ensures.writes)
