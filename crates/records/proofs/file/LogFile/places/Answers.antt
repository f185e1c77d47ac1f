use Rattle.std.proofs.Common.{[], length, refl, ap, arith}
use Rattle.records.proofs.Places.{placed_none}
use Rattle.records.proofs.file.LogFile.places.Goals as goal

pub returns-clause-made : goal.returns-clause-made
returns-clause-made g c rs keeps =
    let k = g.L.Records in
    c.in_ok-look_up.ensures.made rs [] c.args.graph.now.manifest.paths refl (let size = ap length c.new-places.ensures.items in omega (arith, size)) keeps (placed_none k.told k.in_force rs c.new-places.result.items)
