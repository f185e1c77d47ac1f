use Rattle.std.proofs.Common.{ℕ, Bool, true, false, Option, None, Some, Result, Ok, Err, IsSome, ◌≡◌, refl, sym, ap, ◌∙◌}
use Rattle.stand_in.proofs.Calls.{asks_call, asks_err, asks_so, still_err, still_nothing, still_says, still_then}
use Rattle.stand_in.proofs.regenerating.run_one.Goals as goal

pub returns-in_default : goal.returns-in_default
returns-in_default g c = still_says g.S.Texts.tells (λ (b : Bool). Unit {0}) (g.S.Texts.world c.args.site.now) (g.S.Texts.world c.args.site.now) true (still_nothing g.S.Texts.tells (g.S.Texts.world c.args.site.now))

pub returns-in_err-show_line : goal.returns-in_err-show_line
returns-in_err-show_line g c = asks_err g.S.Texts.tells (λ (u : Unit {0}). Unit {0}) (λ (b : Bool). Unit {0}) (g.S.Texts.world c.args.site.now) (g.S.Texts.world c.show_line.new.site) c.in_err-show_line.field-0.0 c.from_residual.result c.in_err-show_line.ensures c.from_residual.ensures.1

pub returns-in_err-make_folders : goal.returns-in_err-make_folders
returns-in_err-make_folders g c = still_err g.S.Texts.tells (λ (u : Unit {0}). Unit {0}) (λ (b : Bool). Unit {0}) (g.S.Texts.world c.args.site.now) (g.S.Texts.world c.show_line.new.site) (g.S.Texts.world c.make_folders.new.site) c.in_err-make_folders.field-0.0 c.from_residual-in_err-make_folders.result (asks_so g.S.Texts.tells (λ (u : Unit {0}). Unit {0}) (λ (u : Unit {0}). Unit {0}) (g.S.Texts.world c.args.site.now) (g.S.Texts.world c.show_line.new.site) tt tt c.in_ok-show_line.ensures (λ any. tt)) c.in_err-make_folders.ensures c.from_residual-in_err-make_folders.ensures.1

pub returns-in_err-ok : goal.returns-in_err-ok
returns-in_err-ok g c = still_err g.S.Texts.tells (λ (b : Bool). Unit {0}) (λ (b : Bool). Unit {0}) (g.S.Texts.world c.args.site.now) (g.S.Texts.world c.make_folders.new.site) (g.S.Texts.world c.run_generator.new.self) c.in_err-ok.field-0.0 c.from_residual-in_err-ok.result (still_then g.S.Texts.tells (λ (u : Unit {0}). Unit {0}) (g.S.Texts.world c.args.site.now) (g.S.Texts.world c.show_line.new.site) (g.S.Texts.world c.make_folders.new.site) tt (asks_so g.S.Texts.tells (λ (u : Unit {0}). Unit {0}) (λ (u : Unit {0}). Unit {0}) (g.S.Texts.world c.args.site.now) (g.S.Texts.world c.show_line.new.site) tt tt c.in_ok-show_line.ensures (λ any. tt)) c.in_ok-make_folders.ensures tt) (asks_call g.S.Texts.tells (λ (b : Bool). Unit {0}) (g.S.Texts.world c.make_folders.new.site) (g.S.Texts.world c.run_generator.new.self) (Err c.in_err-ok.field-0.0) c.in_err-ok.ensures.looks c.in_err-ok.ensures.cause) c.from_residual-in_err-ok.ensures.1

pub returns-then-ok : goal.returns-then-ok
returns-then-ok g c = still_says g.S.Texts.tells (λ (b : Bool). Unit {0}) (g.S.Texts.world c.args.site.now) (g.S.Texts.world c.run_generator.new.self) true (still_then g.S.Texts.tells (λ (b : Bool). Unit {0}) (g.S.Texts.world c.args.site.now) (g.S.Texts.world c.make_folders.new.site) (g.S.Texts.world c.run_generator.new.self) c.in_ok-ok.ok (still_then g.S.Texts.tells (λ (u : Unit {0}). Unit {0}) (g.S.Texts.world c.args.site.now) (g.S.Texts.world c.show_line.new.site) (g.S.Texts.world c.make_folders.new.site) tt (asks_so g.S.Texts.tells (λ (u : Unit {0}). Unit {0}) (λ (u : Unit {0}). Unit {0}) (g.S.Texts.world c.args.site.now) (g.S.Texts.world c.show_line.new.site) tt tt c.in_ok-show_line.ensures (λ any. tt)) c.in_ok-make_folders.ensures tt) (asks_call g.S.Texts.tells (λ (b : Bool). Unit {0}) (g.S.Texts.world c.make_folders.new.site) (g.S.Texts.world c.run_generator.new.self) (Ok c.in_ok-ok.ok) c.in_ok-ok.ensures.looks c.in_ok-ok.ensures.cause) tt)

pub returns-in_err-show_failure : goal.returns-in_err-show_failure
returns-in_err-show_failure g c = still_err g.S.Texts.tells (λ (u : Unit {0}). Unit {0}) (λ (b : Bool). Unit {0}) (g.S.Texts.world c.args.site.now) (g.S.Texts.world c.run_generator.new.self) (g.S.Texts.world c.show_failure.new.site) c.in_err-show_failure.field-0.0 c.from_residual-in_err-show_failure.result (still_then g.S.Texts.tells (λ (b : Bool). Unit {0}) (g.S.Texts.world c.args.site.now) (g.S.Texts.world c.make_folders.new.site) (g.S.Texts.world c.run_generator.new.self) c.in_ok-ok.ok (still_then g.S.Texts.tells (λ (u : Unit {0}). Unit {0}) (g.S.Texts.world c.args.site.now) (g.S.Texts.world c.show_line.new.site) (g.S.Texts.world c.make_folders.new.site) tt (asks_so g.S.Texts.tells (λ (u : Unit {0}). Unit {0}) (λ (u : Unit {0}). Unit {0}) (g.S.Texts.world c.args.site.now) (g.S.Texts.world c.show_line.new.site) tt tt c.in_ok-show_line.ensures (λ any. tt)) c.in_ok-make_folders.ensures tt) (asks_call g.S.Texts.tells (λ (b : Bool). Unit {0}) (g.S.Texts.world c.make_folders.new.site) (g.S.Texts.world c.run_generator.new.self) (Ok c.in_ok-ok.ok) c.in_ok-ok.ensures.looks c.in_ok-ok.ensures.cause) tt) c.in_err-show_failure.ensures c.from_residual-in_err-show_failure.ensures.1

pub returns : goal.returns
returns g c = still_says g.S.Texts.tells (λ (b : Bool). Unit {0}) (g.S.Texts.world c.args.site.now) (g.S.Texts.world c.show_failure.new.site) false (still_then g.S.Texts.tells (λ (u : Unit {0}). Unit {0}) (g.S.Texts.world c.args.site.now) (g.S.Texts.world c.run_generator.new.self) (g.S.Texts.world c.show_failure.new.site) tt (still_then g.S.Texts.tells (λ (b : Bool). Unit {0}) (g.S.Texts.world c.args.site.now) (g.S.Texts.world c.make_folders.new.site) (g.S.Texts.world c.run_generator.new.self) c.in_ok-ok.ok (still_then g.S.Texts.tells (λ (u : Unit {0}). Unit {0}) (g.S.Texts.world c.args.site.now) (g.S.Texts.world c.show_line.new.site) (g.S.Texts.world c.make_folders.new.site) tt (asks_so g.S.Texts.tells (λ (u : Unit {0}). Unit {0}) (λ (u : Unit {0}). Unit {0}) (g.S.Texts.world c.args.site.now) (g.S.Texts.world c.show_line.new.site) tt tt c.in_ok-show_line.ensures (λ any. tt)) c.in_ok-make_folders.ensures tt) (asks_call g.S.Texts.tells (λ (b : Bool). Unit {0}) (g.S.Texts.world c.make_folders.new.site) (g.S.Texts.world c.run_generator.new.self) (Ok c.in_ok-ok.ok) c.in_ok-ok.ensures.looks c.in_ok-ok.ensures.cause) tt) c.in_ok-show_failure.ensures tt)
