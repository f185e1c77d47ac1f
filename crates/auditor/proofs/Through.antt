-- By which path each thing counts, one after another.
use Rattle.std.proofs.Common.{List, [], ◌∷◌, ◌++◌}
use Rattle.std.specs.List.{AllZip}
use Rattle.audit.specs.declared.seen.By.{By}
use Rattle.audit.specs.declared.whole.Whole.{Whole}
use Rattle.auditor.specs.Links.{CountsThrough}

-- one thing more
pub one_more : (wholes : List Whole) (bys : List By) (whole : Whole) (by : By) → AllZip CountsThrough wholes bys → CountsThrough whole by
    → AllZip CountsThrough (wholes ++ whole ∷ []) (bys ++ by ∷ [])
one_more [] [] whole by all is = (is, tt)
one_more [] (b ∷ bys) whole by all is = absurd all
one_more (w ∷ wholes) [] whole by all is = absurd all
one_more (w ∷ wholes) (b ∷ bys) whole by all is = (all.0, one_more wholes bys whole by all.1 is)
