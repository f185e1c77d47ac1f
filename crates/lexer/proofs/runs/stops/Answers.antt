use Rattle.std.proofs.Common.{refl}
use Rattle.std.proofs.lemmas.Simd.{zip2_splat}
use Rattle.lexer.specs.Characters.{is_stop}
use Rattle.lexer.specs.declared.characters.Class.TheVariants.{Space}
use Rattle.lexer.proofs.Lanes.{mask_is}
use Rattle.lexer.proofs.runs.stops.Goals as goal

pub returns-in-Space : goal.returns-in-Space
returns-in-Space c =
    let v = c.args.v in
    rw c.in-Space.is (mask_is (is_stop Space) _ v _ c.fits-v (zip2_splat _ v 16 _ c.fits-v.0) refl)
