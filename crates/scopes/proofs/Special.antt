-- Names that stand for paths of the edge, by their first byte.
use Rattle.std.proofs.Common.{◌≡◌, ◌||◌, true, false, Bool, cond, ℕ, List, [], ◌∷◌, codes, map, Option, None, Some, unwrap_or, refl, sym, ap}
use Rattle.std.specs.Str.{bytes_eq}
use Rattle.std.specs.Map.Iter.{deref}
use Rattle.std.proofs.lemmas.Bool.{false≢true}
use Rattle.scopes.specs.declared.usage.Paths.{Paths}
use Rattle.scopes.specs.declared.at_use.Known.{Known}
use Rattle.scopes.specs.Texts.{joined}
use Rattle.scopes.specs.Moves.{Move}
use Rattle.scopes.specs.Known.{known_value, other_value}
use Rattle.scopes.specs.Use.{is_special, special_value}

pub no_value : (paths : Paths) (name : List ℕ) → is_special name ≡ false → special_value paths name ≡ None
no_value paths name none = by (bytes_eq name (codes "in")) (bytes_eq name (codes "out")) (bytes_eq name (codes "in_newline")) none
  where
    by : (a b c : Bool) → (a || (b || c)) ≡ false
        → cond a (Some (joined (32 ∷ []) (map deref paths.inputs.now))) (cond b (Some (joined (32 ∷ []) (map deref paths.outputs.now))) (cond c (Some (joined (10 ∷ []) (map deref paths.inputs.now))) None)) ≡ None
    by true b c is = absurd (false≢true (sym is))
    by false true c is = absurd (false≢true (sym is))
    by false false true is = absurd (false≢true (sym is))
    by false false false is = refl

-- what a name stands for that stands for no paths
pub other_is : (known : Known) (past : List Move) (name : List ℕ) → is_special name ≡ false → known_value known past name ≡ other_value known past name
other_is known past name none = ap (λ (o : Option (List ℕ)). unwrap_or o (other_value known past name)) (no_value known.paths name none)
