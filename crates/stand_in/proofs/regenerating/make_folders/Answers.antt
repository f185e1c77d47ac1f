use Rattle.std.proofs.Common.{ℕ, Bool, true, false, Option, None, Some, Result, Ok, Err, IsSome, ◌≡◌, refl, sym, ap, ◌∙◌}
use Rattle.stand_in.proofs.Calls.{still_err, still_nothing, still_then}
use Rattle.stand_in.proofs.regenerating.make_folders.Goals as goal

pub loop-output-init : goal.loop-output-init
loop-output-init g c = still_nothing g.S.Texts.tells (g.S.Texts.world c.args.site.now)

pub returns-in_err-make_folder : goal.returns-in_err-make_folder
returns-in_err-make_folder g c = still_err g.S.Texts.tells (λ (u : Unit {0}). Unit {0}) (λ (u : Unit {0}). Unit {0}) (g.S.Texts.world c.args.site.now) (g.S.Texts.world c.loop-output.site) (g.S.Texts.world c.make_folder.new.site) c.in_err-make_folder.field-0.0 c.from_residual.result c.loop-output.invariant c.in_err-make_folder.ensures c.from_residual.ensures.1

pub loop-output-preserved : goal.loop-output-preserved
loop-output-preserved g c = still_then g.S.Texts.tells (λ (u : Unit {0}). Unit {0}) (g.S.Texts.world c.args.site.now) (g.S.Texts.world c.loop-output.site) (g.S.Texts.world c.make_folder.new.site) tt c.loop-output.invariant c.in_ok-make_folder.ensures tt

pub returns : goal.returns
returns g c = c.loop-output.invariant
