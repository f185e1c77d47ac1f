use Rattle.std.proofs.Common.{◌∙◌}
use Rattle.host.specs.World.{world_of}
use Rattle.nj_run.proofs.Unstarted.{read_starts}
use Rattle.nj_run.proofs.looked.look_here.Goals as goal

pub returns : goal.returns
returns g c =
    c.look_by.ensures ∙ (c.auditor_of.ensures ∙ read_starts c.read.result c.args.options.now (world_of c.args.host.now) (world_of c.read.new.site) c.read.ensures.read c.read.ensures.unread)
