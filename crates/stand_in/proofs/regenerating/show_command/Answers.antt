use Rattle.std.proofs.Common.{ℕ, Bool, true, false, Option, None, Some, Result, Ok, Err, IsSome, ◌≡◌, refl, sym, ap, ◌∙◌}
use Rattle.stand_in.proofs.Calls.{asks_call, still_memory, still_nothing}
use Rattle.stand_in.proofs.regenerating.show_command.Goals as goal

pub returns-in_err-shown : goal.returns-in_err-shown
returns-in_err-shown g c = still_memory g.S.Texts.tells (λ (u : Unit {0}). Unit {0}) (g.S.Texts.world c.args.site.now) (g.S.Texts.world c.args.site.now) c.from_residual.result (still_nothing g.S.Texts.tells (g.S.Texts.world c.args.site.now)) c.from_residual.ensures.1

pub returns-in_err-line : goal.returns-in_err-line
returns-in_err-line g c = still_memory g.S.Texts.tells (λ (u : Unit {0}). Unit {0}) (g.S.Texts.world c.args.site.now) (g.S.Texts.world c.args.site.now) c.from_residual-in_err-line.result (still_nothing g.S.Texts.tells (g.S.Texts.world c.args.site.now)) c.from_residual-in_err-line.ensures.1

pub returns : goal.returns
returns g c = asks_call g.S.Texts.tells (λ (u : Unit {0}). Unit {0}) (g.S.Texts.world c.args.site.now) (g.S.Texts.world c.show.new.self) c.show.result c.show.ensures.looks c.show.ensures.cause
