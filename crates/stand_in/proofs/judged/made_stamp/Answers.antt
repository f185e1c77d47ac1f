use Rattle.std.proofs.Common.{ℕ, Bool, true, false, Option, None, Some, Result, Ok, Err, IsSome, ◌≡◌, refl, sym, ap, ◌∙◌}
use Rattle.std.proofs.Common.{subst}
use Rattle.std.proofs.lemmas.Bool.{false≢true}
use Rattle.stand_in.proofs.Calls.{still_err, still_nothing, still_says, still_then, still_unsaid}
use Rattle.stand_in.proofs.judged.made_stamp.Goals as goal

pub loop-output-init : goal.loop-output-init
loop-output-init g c = still_nothing g.S.Texts.tells (g.S.Texts.world c.args.site.now)

pub returns-in_err-stamp : goal.returns-in_err-stamp
returns-in_err-stamp g c = still_err g.S.Texts.tells (λ (o : Option ℕ). IsSome o) (λ (o : Option ℕ). IsSome o) (g.S.Texts.world c.args.site.now) (g.S.Texts.world c.loop-output.site) (g.S.Texts.world c.stamp-in-loop-output.new.site) c.in_err-stamp.field-0.0 c.from_residual.result c.loop-output.invariant c.in_err-stamp.ensures c.from_residual.ensures.1

pub returns-in_default-2 : goal.returns-in_default-2
returns-in_default-2 g c = still_unsaid g.S.Texts.tells (λ (o : Option ℕ). IsSome o) (λ (o : Option ℕ). IsSome o) (g.S.Texts.world c.args.site.now) (g.S.Texts.world c.loop-output.site) (g.S.Texts.world c.stamp-in-loop-output.new.site) c.in_ok-stamp.field-0 None c.loop-output.invariant c.in_ok-stamp.ensures (λ some. false≢true some)

pub loop-output-preserved : goal.loop-output-preserved
loop-output-preserved g c = still_then g.S.Texts.tells (λ (o : Option ℕ). IsSome o) (g.S.Texts.world c.args.site.now) (g.S.Texts.world c.loop-output.site) (g.S.Texts.world c.stamp-in-loop-output.new.site) c.in_ok-stamp.field-0 c.loop-output.invariant c.in_ok-stamp.ensures (subst (λ (o : Option ℕ). IsSome o) (sym c.in-Some-2.is) refl)

pub returns : goal.returns
returns g c = still_says g.S.Texts.tells (λ (o : Option ℕ). IsSome o) (g.S.Texts.world c.args.site.now) (g.S.Texts.world c.loop-output.site) (Some c.loop-output.oldest) c.loop-output.invariant
