use Rattle.std.proofs.Common.{◌∙◌, ap, arith}
use Rattle.audit.specs.declared.standing.Stands.{Stands}
use Rattle.audit.specs.Standing.{put_at}
use Rattle.audit.proofs.Places.{set_past, set_there}
use Rattle.audit.proofs.standing.set.Goals as goal

pub returns-then-place-len : goal.returns-then-place-len
returns-then-place-len c =
    set_there c.args.stands.now.items c.args.place c.turn.new.there (omega (arith, c.if-place-len.true, c.len.ensures))
    ∙ ap (λ (s : Stands). put_at c.args.stands.now.items c.args.place s) c.turn.ensures

pub returns-else-place-len : goal.returns-else-place-len
returns-else-place-len c =
    set_past c.args.stands.now.items c.args.place c.args.new (omega (arith, c.if-place-len.false, c.len.ensures))
