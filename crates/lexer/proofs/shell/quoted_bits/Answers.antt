use Rattle.std.proofs.Common.{refl}
use Rattle.std.proofs.lemmas.Simd.{zip2_splat, zip2_of_maps, splat_is_map}
use Rattle.lexer.specs.Bare.{wants_quotes}
use Rattle.lexer.proofs.Lanes.{at_most, mask_is}
use Rattle.lexer.proofs.shell.quoted_bits.Goals as goal

pub returns : goal.returns
returns c =
    let v = c.args.v in
    let long = c.fits-v.0 in
    mask_is wants_quotes _ v _ c.fits-v (zip2_of_maps _ _ _ v (zip2_of_maps _ _ _ v (zip2_of_maps at_most _ _ v (splat_is_map v 16 _ long) (zip2_of_maps _ _ _ v (zip2_splat _ v 16 _ long) (splat_is_map v 16 _ long))) (zip2_of_maps at_most _ _ v (splat_is_map v 16 _ long) (zip2_splat _ v 16 _ long))) (zip2_of_maps _ _ _ v (zip2_splat _ v 16 _ long) (zip2_splat _ v 16 _ long))) refl
