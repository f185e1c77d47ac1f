use Rattle.std.proofs.Common.{ℕ, Bool, true, false, Option, None, Some, Result, Ok, Err, IsSome, ◌≡◌, refl, sym, ap, ◌∙◌}
use Rattle.stand_in.proofs.Calls.{asks_call, still_nothing}
use Rattle.stand_in.proofs.regenerating.make_folder.Goals as goal

pub returns-in_default : goal.returns-in_default
returns-in_default g c = still_nothing g.S.Texts.tells (g.S.Texts.world c.args.site.now)

pub returns-then-is_empty : goal.returns-then-is_empty
returns-then-is_empty g c = still_nothing g.S.Texts.tells (g.S.Texts.world c.args.site.now)

pub returns : goal.returns
returns g c = asks_call g.S.Texts.tells (λ (u : Unit {0}). Unit {0}) (g.S.Texts.world c.args.site.now) (g.S.Texts.world c.make_dirs.new.self) c.make_dirs.result c.make_dirs.ensures.looks c.make_dirs.ensures.cause
