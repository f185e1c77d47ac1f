use Rattle.std.proofs.Common.{ℕ, bit_or, refl}
use Rattle.std.proofs.lemmas.Simd.{zip2_splat, splat_is_map, zip2_of_maps}
use Rattle.depfile.specs.Runs.{is_stop}
use Rattle.depfile.proofs.Stops.{mask_of_lanes}
use Rattle.depfile.proofs.runs.stops_of.Goals as goal

pub returns : goal.returns
returns c =
    let v = c.args.bytes in
    let long = c.fits-bytes.0 in
    let joined = zip2_splat {Y = ℕ} bit_or v 16 _ long in
    mask_of_lanes _ is_stop v _ long c.fits-bytes.1
    (zip2_of_maps bit_or _ _ v (zip2_of_maps bit_or _ _ v (zip2_of_maps bit_or _ _ v (zip2_of_maps bit_or _ _ v
    (zip2_of_maps _ _ _ v joined (splat_is_map v 16 _ long))
    (zip2_of_maps _ _ _ v joined (splat_is_map v 16 _ long)))
    (zip2_splat _ v 16 _ long)) (zip2_splat _ v 16 _ long)) (zip2_splat _ v 16 _ long)) refl
