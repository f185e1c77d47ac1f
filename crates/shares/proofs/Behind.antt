-- What is known behind several lines.
use Rattle.std.proofs.Common.{◌≡◌, ℕ, List, [], ◌∷◌, ◌++◌, refl}
use Rattle.shares.specs.declared.families.Families.{Families}
use Rattle.shares.specs.Families.{after, after_all}

pub after_more : (families : Families) (lines : List (List ℕ)) (line : List ℕ) → after_all families (lines ++ line ∷ []) ≡ after (after_all families lines) line
after_more families [] line = refl
after_more families (first ∷ lines) line = after_more (after families first) lines line
