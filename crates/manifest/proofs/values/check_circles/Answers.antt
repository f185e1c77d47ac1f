use Rattle.manifest.proofs.EdgeCircles.{no_circles, ok_map}
use Rattle.manifest.proofs.values.check_circles.Goals as goal

pub returns-clause-none : goal.returns-clause-none
returns-clause-none c = ok_map c.check_circle-9.result
    (λ last past of. no_circles _ (c.in_ok-check_circle.ensures.none past of) (c.in_ok-check_circle-2.ensures.none past of)
    (c.in_ok-check_circle-3.ensures.none past of) (c.in_ok-check_circle-4.ensures.none past of) (c.in_ok-check_circle-5.ensures.none past of)
    (c.in_ok-check_circle-6.ensures.none past of) (c.in_ok-check_circle-7.ensures.none past of) (c.in_ok-check_circle-8.ensures.none past of)
    (last past of))
    c.check_circle-9.ensures.none
