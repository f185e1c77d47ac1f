use Rattle.std.proofs.Common.{ℕ, Bool, true, false, Option, None, Some, Result, Ok, Err, IsSome, ◌≡◌, refl, sym, ap, ◌∙◌}
use Rattle.std.proofs.Common.{subst}
use Rattle.std.proofs.lemmas.Bool.{true≢false}
use Rattle.stand_in.proofs.Calls.{asks_err, asks_so}
use Rattle.stand_in.proofs.judged.is_later.Goals as goal

pub returns-in_err-stamp : goal.returns-in_err-stamp
returns-in_err-stamp g c = asks_err g.S.Texts.tells (λ (o : Option ℕ). IsSome o) (λ (b : Bool). b ≡ false) (g.S.Texts.world c.args.site.now) (g.S.Texts.world c.stamp.new.site) c.in_err-stamp.field-0.0 c.from_residual.result c.in_err-stamp.ensures c.from_residual.ensures.1

pub returns-in-None : goal.returns-in-None
returns-in-None g c = asks_so g.S.Texts.tells (λ (o : Option ℕ). IsSome o) (λ (b : Bool). b ≡ false) (g.S.Texts.world c.args.site.now) (g.S.Texts.world c.stamp.new.site) c.in_ok-stamp.field-0 true c.in_ok-stamp.ensures (λ is. absurd (true≢false is))

pub returns-in-Some : goal.returns-in-Some
returns-in-Some g c = asks_so g.S.Texts.tells (λ (o : Option ℕ). IsSome o) (λ (b : Bool). b ≡ false) (g.S.Texts.world c.args.site.now) (g.S.Texts.world c.stamp.new.site) c.in_ok-stamp.field-0 _ c.in_ok-stamp.ensures (λ is. subst (λ (o : Option ℕ). IsSome o) (sym c.in-Some.is) refl)
