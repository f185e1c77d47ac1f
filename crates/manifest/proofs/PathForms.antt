-- Canonical paths are not empty, and a build line's paths are such paths.
use Rattle.std.proofs.Common.{◌≢◌, ◌≡◌, ℕ, Bool, cond, true, false, List, [], ◌∷◌, ◌++◌, inl, inr, refl, sym, ◌∙◌, subst}
use Rattle.std.specs.Prelude.{filter, not, ◌==◌}
use Rattle.std.specs.List.{AllByRecursion, slice_split}
use Rattle.lexer.specs.Path.{Part, parent, is_named, is_rooted, Step, Rewrites, done, step, spelled, IsCanonical}
use Rattle.lexer.specs.Said.{Fragments, BuildForm}
use Rattle.manifest.specs.Spelled.{EdgePaths}
use Rattle.manifest.specs.Answer.{IsPath, ArePathsOnly}
use Rattle.manifest.specs.Declarations.{ArePathsOf, PathsOf}
use Rattle.manifest.specs.Held.{HasOutput, ArePathsFormed}
use Rattle.manifest.specs.Readings.{Place}
use Rattle.manifest.specs.Readings.Outcome.{Reached}
use Rattle.manifest.specs.Readings.Unless.{in_order}
use Rattle.manifest.specs.Readings.Where.{with_value}
use Rattle.manifest.specs.Expansion.{ArePaths}
use Rattle.manifest.proofs.TextLemmas.{paths_append}

abbrev IsSome : Part → Type 0
IsSome part = part ≢ []

one_named : (b : ℕ) (rest : List Part) (keep : Bool) → AllByRecursion IsSome rest → AllByRecursion IsSome (cond keep ((b ∷ []) ∷ rest) rest)
one_named b rest true all = (λ e. cc, all)
one_named b rest false all = all

all_named : (parts : List Part) → AllByRecursion IsSome (filter is_named parts)
all_named [] = tt
all_named ([] ∷ parts) = all_named parts
all_named ((b ∷ c ∷ bs) ∷ parts) = (λ e. cc, all_named parts)
all_named ((b ∷ []) ∷ parts) = one_named b (filter is_named parts) (not (b == 46)) (all_named parts)

front_back : (front back : List Part) (part : Part) → AllByRecursion IsSome (front ++ part ∷ parent ∷ back) → AllByRecursion IsSome (front ++ back)
front_back [] back part all = all.1.1
front_back (x ∷ front) back part all = (all.0, front_back front back part all.1)

step_some : (rooted : Bool) (old new : List Part) → Step rooted old new → AllByRecursion IsSome old → AllByRecursion IsSome new
step_some rooted old new s all =
    elim s [
      | inl f ↦ rw f.after (front_back f.front f.back f.part (rw f.before at all))
      | inr c ↦ let both : AllByRecursion IsSome (parent ∷ new) = rw c.before at all in both.1
    ]

rewrites_some : {rooted : Bool} {old new : List Part} → Rewrites rooted old new → AllByRecursion IsSome old → AllByRecursion IsSome new
rewrites_some done all = all
rewrites_some {rooted} {old} {new} (step {new = mid} s r) all = rewrites_some r (step_some rooted old mid s all)

spelled_some : (rooted : Bool) (parts : List Part) → AllByRecursion IsSome parts → spelled rooted parts ≢ []
spelled_some true parts all e = cc
spelled_some false [] all e = cc
spelled_some false (p ∷ []) all e = all.0 e
spelled_some false ([] ∷ q ∷ parts) all e = all.0 refl
spelled_some false ((b ∷ bs) ∷ q ∷ parts) all e = cc

pub is_path : (text path : List ℕ) → IsCanonical text path → IsPath path
is_path text path c = record {
  text = text;
  canonical = c;
  some = λ e. spelled_some (is_rooted text) c.parts (rewrites_some c.rewritten (all_named (slice_split (λ b. b == 47) text))) (sym c.text_is ∙ e);
}

pub are_paths : (value : List ℕ → List ℕ) (texts : List Fragments) (paths : List (List ℕ)) → ArePaths value texts paths → ArePathsOnly paths
are_paths value [] [] all = tt
are_paths value [] (p ∷ paths) all = absurd all
are_paths value (text ∷ texts) [] all = absurd all
are_paths value (text ∷ texts) (p ∷ paths) all = (is_path _ p all.0, are_paths value texts paths all.1)

some_paths : (value : List ℕ → List ℕ) (texts : List Fragments) (paths : List (List ℕ)) → ArePaths value texts paths → texts ≢ [] → paths ≢ []
some_paths value [] paths all some e = some refl
some_paths value (v ∷ values) [] all some e = absurd all
some_paths value (v ∷ values) (p ∷ paths) all some e = cc

pub only_append : (xs ys : List (List ℕ)) → ArePathsOnly xs → ArePathsOnly ys → ArePathsOnly (xs ++ ys)
only_append [] ys one two = two
only_append (x ∷ xs) ys one two = (one.0, only_append xs ys one.1 two)

pub fit_formed : (value : List ℕ → List ℕ) (form : BuildForm) (paths : EdgePaths) → ArePathsOf value form paths → HasOutput form → ArePathsFormed paths
fit_formed value form paths fit some = record {
  made = some_paths value (form.explicit_outputs ++ form.implicit_outputs) (paths.explicit_outputs ++ paths.implicit_outputs) (paths_append value _ _ _ _ fit.explicit_outputs fit.implicit_outputs) some;
  all =
      only_append paths.explicit_outputs _ (are_paths value _ _ fit.explicit_outputs)
      (only_append paths.implicit_outputs _ (are_paths value _ _ fit.implicit_outputs)
      (only_append paths.explicit_inputs _ (are_paths value _ _ fit.explicit_inputs)
      (only_append paths.implicit_inputs _ (are_paths value _ _ fit.implicit_inputs)
      (only_append paths.order_only_inputs _ (are_paths value _ _ fit.order_only_inputs) (are_paths value _ _ fit.validations)))));
}

-- what is read of a build line with an output
pub paths_formed : (place : Place) (value : List ℕ → List ℕ) (form : BuildForm) (paths : EdgePaths) → PathsOf place value form (Reached paths) → HasOutput form → ArePathsFormed paths
paths_formed place value form paths (in_order not_empty (in_order not_large (with_value {value = found} fit same))) some =
    let e : found ≡ paths = cc in fit_formed value form paths (subst (ArePathsOf value form) e fit) some
