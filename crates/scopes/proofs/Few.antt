-- Names that are compared one by one.
use Rattle.std.proofs.Common.{◌≡◌, Bool, true, false, ℕ, List, ◌∷◌, String, string_bytes, Some, ap, ◌∙◌}
use Rattle.std.specs.Str.{bytes_eq}
use Rattle.std.specs.Map.{lookup}
use Rattle.std.proofs.lemmas.Map.Entries.{lookup_head, lookup_tail}

abbrev pub is_named : {Y : Type 0} → List ℕ → String Y → Bool
is_named name key = bytes_eq name (string_bytes key)

module _ {K X : Type 0} (test : K → Bool) (entries rest : List (K × X)) (k : K) (v : X) (first : entries ≡ (k, v) ∷ rest) where
  pub passed_over : test k ≡ false → lookup test entries ≡ lookup test rest
  passed_over other = ap (lookup test) first ∙ lookup_tail test (k, v) rest other

  pub found_first : test k ≡ true → lookup test entries ≡ Some v
  found_first same = ap (lookup test) first ∙ lookup_head test (k, v) rest same
