-- What is noted of paths, one path after the other.
use Rattle.std.proofs.Common.{◌≡◌, ◌≢◌, ◌<◌, ◌≤◌, ◌||◌, true, false, ℕ, Bool, List, [], ◌∷◌, ◌++◌, length, Option, Some, refl, sym, ap, subst, ◌∙◌, arith}
use Rattle.std.proofs.Math.Bool.{or-false, or-true, or_assoc}
use Rattle.lexer.specs.Path.{IsCanonical}
use Rattle.lexer.specs.Said.{Fragments}
use Rattle.scopes.specs.Texts.{largest_value}
use Rattle.manifest.specs.declared.path_reader.PathReader.{PathReader}
use Rattle.manifest.specs.Edges.{IsPathOrNone}
use Rattle.manifest.specs.Expansion.{text_of, some_text, is_empty, is_large}
use Rattle.manifest.specs.Flags.{FlagsAfter, IsPathFound}
use Rattle.manifest.proofs.TextLemmas.{large_false, large_true, some_text_append}

left_false : (a b : Bool) → (a || b) ≡ false → a ≡ false
left_false true b e = e
left_false false b e = refl

-- a path that was expanded
pub flags_small : (old new : PathReader) (value : List ℕ → List ℕ) (path : Fragments) (text : List ℕ) → text ≡ text_of value path → length text ≤ largest_value
    → new.has_large ≡ old.has_large → new.has_empty ≡ (old.has_empty || is_empty text) → FlagsAfter old new value (path ∷ [])
flags_small old new value path text same small large empty = record {
  empty = empty ∙ ap (λ (bytes : List ℕ). old.has_empty || is_empty bytes) same ∙ ap (λ (flag : Bool). old.has_empty || flag) (sym (or-false (is_empty (text_of value path))));
  large = large ∙ sym (or-false old.has_large) ∙ ap (λ (flag : Bool). old.has_large || (flag || false)) (sym (large_false _ (subst (λ (bytes : List ℕ). length bytes ≤ largest_value) same small)));
}

-- one that is too large
pub flags_large : (old new : PathReader) (value : List ℕ → List ℕ) (path : Fragments) → largest_value < length (text_of value path)
    → is_empty (text_of value path) ≡ false → new.has_large ≡ true → new.has_empty ≡ old.has_empty → FlagsAfter old new value (path ∷ [])
flags_large old new value path large some noted kept = record {
  empty = kept ∙ sym (or-false old.has_empty) ∙ ap (λ (flag : Bool). old.has_empty || (flag || false)) (sym some);
  large = noted ∙ sym (or-true old.has_large) ∙ ap (λ (flag : Bool). old.has_large || (flag || false)) (sym (large_true _ large));
}

pub large_some : (text : List ℕ) → largest_value < length text → is_empty text ≡ false
large_some [] large = absurd (omega arith)
large_some (b ∷ bytes) large = refl

-- ---- paths one after the other

pub flags_none : (reader : PathReader) (value : List ℕ → List ℕ) → FlagsAfter reader reader value []
flags_none reader value = record { empty = sym (or-false reader.has_empty); large = sym (or-false reader.has_large) }

pub flags_append : (old middle new : PathReader) (value : List ℕ → List ℕ) (front back : List Fragments)
    → FlagsAfter old middle value front → FlagsAfter middle new value back → FlagsAfter old new value (front ++ back)
flags_append old middle new value front back first then = record {
  empty = then.empty ∙ ap (λ (flag : Bool). flag || some_text is_empty value back) first.empty ∙ or_assoc old.has_empty _ _
      ∙ ap (λ (flag : Bool). old.has_empty || flag) (sym (some_text_append is_empty value front back));
  large = then.large ∙ ap (λ (flag : Bool). flag || some_text is_large value back) first.large ∙ or_assoc old.has_large _ _
      ∙ ap (λ (flag : Bool). old.has_large || flag) (sym (some_text_append is_large value front back));
}

-- what is not noted now was not noted before
pub flags_before : (old new : PathReader) (value : List ℕ → List ℕ) (texts : List Fragments) → FlagsAfter old new value texts
    → new.has_empty ≡ false → new.has_large ≡ false → (old.has_empty ≡ false) × (old.has_large ≡ false)
flags_before old new value texts flags empty large = (left_false _ _ (sym flags.empty ∙ empty), left_false _ _ (sym flags.large ∙ large))

pub found_same : (text other : List ℕ) (path : Option (List ℕ)) → text ≡ other → IsPathFound text path → IsPathFound other path
found_same text other path same found = subst (λ (bytes : List ℕ). IsPathFound bytes path) same found

-- ---- a path that is canonical as it stands

not_empty : (text : List ℕ) → text ≢ [] → is_empty text ≡ false
not_empty [] some = absurd (some refl)
not_empty (b ∷ bytes) some = refl

pub flags_settled : (reader : PathReader) (value : List ℕ → List ℕ) (path : Fragments) (text : List ℕ) → text ≡ text_of value path → length text ≤ largest_value
    → text ≢ [] → FlagsAfter reader reader value (path ∷ [])
flags_settled reader value path text same small some =
    flags_small reader reader value path text same small refl (sym (ap (λ (flag : Bool). reader.has_empty || flag) (not_empty text some) ∙ or-false reader.has_empty))

pub found_settled : (text other path : List ℕ) → text ≡ other → path ≡ text → IsCanonical text text → IsPathFound other (Some path)
found_settled text other path same is canonical = subst (λ (bytes : List ℕ). IsCanonical bytes path) same (subst (λ (bytes : List ℕ). IsCanonical text bytes) (sym is) canonical)

pub settled_or_none : (text : List ℕ) → IsCanonical text text → IsPathOrNone text text
settled_or_none [] canonical = refl
settled_or_none (b ∷ bytes) canonical = canonical
