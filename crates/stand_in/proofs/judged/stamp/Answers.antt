use Rattle.std.proofs.Common.{ℕ, Bool, true, false, Option, None, Some, Result, Ok, Err, IsSome, ◌≡◌, refl, sym, ap, ◌∙◌}
use Rattle.std.proofs.lemmas.Bool.{false≢true}
use Rattle.stand_in.proofs.Calls.{asks_call, asks_passed, asks_refused}
use Rattle.stand_in.proofs.judged.stamp.Goals as goal

pub returns-in-Ok : goal.returns-in-Ok
returns-in-Ok g c = asks_call g.S.Texts.tells (λ (o : Option ℕ). IsSome o) (g.S.Texts.world c.args.site.now) (g.S.Texts.world c.stat.new.self) (Ok c.in-Ok.found) c.in-Ok.ensures.looks c.in-Ok.ensures.cause

pub returns-in-Err-Device : goal.returns-in-Err-Device
returns-in-Err-Device g c = asks_refused g.S.Texts.tells (λ (o : Option ℕ). IsSome o) (g.S.Texts.world c.args.site.now) (g.S.Texts.world c.stat.new.self) None c.in-Err-Device.ensures.looks (rw c.in-Err-Device.field-0-is at c.in-Err-Device.ensures.cause) (λ some. false≢true some)

pub returns-in-Err : goal.returns-in-Err
returns-in-Err g c = asks_passed g.S.Texts.tells (λ (o : Option ℕ). IsSome o) (g.S.Texts.world c.args.site.now) (g.S.Texts.world c.stat.new.self) c.in-Err.fault c.in-Err.ensures.looks c.in-Err.ensures.cause
