-- What a file names, where it is a text and where it is none.
use Rattle.std.proofs.Common.{◌≡◌, ℕ, Bool, true, false, List, Some, None, refl, ◌∙◌, ap, cond}
use Rattle.std.specs.Str.{IsUtf8, is_utf8}
use Rattle.std.proofs.lemmas.Str.{IsUtf8-from_is_utf8, is_utf8-from_IsUtf8}
use Rattle.sim.specs.Toy.{named, named_in}

pub text_names : (content text : List ℕ) (found : List (List ℕ)) → text ≡ content → IsUtf8 content → found ≡ named text → Some found ≡ named_in (Some content)
text_names content text found same utf8 is = by_test (is_utf8 content) (is_utf8-from_IsUtf8 content utf8)
  where
    by_test : (b : Bool) → b ≡ true → Some found ≡ cond b (Some (named content)) None
    by_test true e = ap Some (is ∙ ap named same)
    by_test false e = let never : ⊥ = cc in absurd never

pub no_text_names : (content : List ℕ) → ¬ (IsUtf8 content) → None ≡ named_in (Some content)
no_text_names content bad = by_test (is_utf8 content) refl
  where
    by_test : (b : Bool) → is_utf8 content ≡ b → None ≡ cond b (Some (named content)) None
    by_test true e = absurd (bad (IsUtf8-from_is_utf8 content e))
    by_test false e = refl
