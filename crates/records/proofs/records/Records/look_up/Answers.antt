use Rattle.records.proofs.Growing.{known_all, known_fits, known_front}
use Rattle.std.proofs.Common.{◌++◌, arith}
use Rattle.records.proofs.records.Records.look_up.Goals as goal

pub returns-clause-all : goal.returns-clause-all
returns-clause-all c before more rs ds grows known =
    let graph = c.args.graph.now in
    let front = known_front graph before more rs ds c.args.self.now grows known in
    let low = known_fits graph before more rs ds c.args.self.now grows known in (
      record {
        keeps = known.known.keeps;
        fits = c.in_ok-look_up.ensures.fits (omega (arith, known.known.fits, low));
        made = c.in_ok-look_up.ensures.made rs known.paths (known.more ++ more) front known.known.fits known.known.keeps known.known.made;
      },
      record {
        keeps = known.told.keeps;
        fits = c.in_ok-look_up-2.ensures.fits (omega (arith, known.told.fits, low));
        told = c.in_ok-look_up-2.ensures.made ds known.paths (known.more ++ more) front known.told.fits known.told.keeps known.told.told;
      },
    )

pub returns-clause-known : goal.returns-clause-known
returns-clause-known c before more rs ds grows known =
    let both = returns-clause-all c before more rs ds grows known in
    known_all c.args.graph.now c.lists_stand.ensures rs ds _ both.0 both.1
