use Rattle.std.proofs.Common.{refl}
use Rattle.ninja_asked.proofs.cleaning.bury.Goals as goal

pub returns : goal.returns
returns g c = record { mid = g.S.Texts.world c.part.new.site; parted = c.in_ok-parted.parted; told = c.in_ok-parted.ensures.parted; kept = refl; removes = c.clean.ensures }
