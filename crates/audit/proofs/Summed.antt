-- What was done at each path, one thing after another.
use Rattle.std.proofs.Common.{◌≡◌, ℕ, zero, suc, ◌+◌, ◌<◌, ◌≤◌, Bool, true, false, if◌then◌else◌, List, [], ◌∷◌, length, drop, slice_get, slice_index_or, slice_set, refl, sym, ap, ◌∙◌, Some, arith, bytes_eq}
use Rattle.std.proofs.lemmas.Slice.Eq.{bytes_eq-Decides}
use Rattle.model.specs.Graph.{has}
use Rattle.paths.specs.Numbers.{HaveOnePlace}
use Rattle.trace.specs.declared.fact.Deed.{Deed}
use Rattle.audit.specs.declared.used.Use.{Use}
use Rattle.audit.specs.declared.seen.By.{By}
use Rattle.audit.specs.declared.whole.Whole.{Whole}
use Rattle.audit.specs.Uses.{unused, with_deed}
use Rattle.audit.specs.Seen.{Sums, again_at, put_last, use_again, with_all_done, with_done, with_untouched}
use Rattle.audit.proofs.Members.{in_has, next, past_all}

abbrev sums_of : List (List ℕ) → List Use → Sums
sums_of paths uses = record { paths = paths; uses = uses }

others_have : (p : List ℕ) (paths : List (List ℕ)) → HaveOnePlace (p ∷ paths) → HaveOnePlace paths
others_have p paths once = λ i j path at too. let same : suc i ≡ suc j = once (suc i) (suc j) path at too in omega arith

-- the use at a path is that in its place
again : (paths : List (List ℕ)) (uses : List Use) (path : List ℕ) (deed : Deed) (n : ℕ) → HaveOnePlace paths → slice_get paths n ≡ Some path → use_again paths uses path deed ≡ again_at uses n deed
again [] uses path deed n once at = absurd (cc)
again (p ∷ paths) [] path deed n once at = refl
again (p ∷ paths) (u ∷ uses) path deed zero once at =
    let same : p ≡ path = cc in
    ap (λ (b : Bool). if b then with_deed u deed ∷ uses else u ∷ use_again paths uses path deed) ((bytes_eq-Decides p path).1 same)
again (p ∷ paths) (u ∷ uses) path deed (suc n) once at = by (bytes_eq p path) refl (again paths uses path deed n (others_have p paths once) at)
  where
    by : (here : Bool) → bytes_eq p path ≡ here → use_again paths uses path deed ≡ again_at uses n deed → use_again (p ∷ paths) (u ∷ uses) path deed ≡ u ∷ again_at uses n deed
    by true here more = let twice : zero ≡ suc n = once zero (suc n) path (ap (λ (q : List ℕ). Some q) ((bytes_eq-Decides p path).0 here)) at in absurd (omega arith)
    by false here more =
        ap (λ (b : Bool). if b then with_deed u deed ∷ uses else u ∷ use_again paths uses path deed) here
        ∙ ap (λ (us : List Use). u ∷ us) more

-- the use in a place, where there is one
pub again_there : (uses : List Use) (n : ℕ) (deed : Deed) (used new : Use) → n < length uses → used ≡ slice_index_or uses n used → new ≡ with_deed used deed → slice_set uses n new ≡ again_at uses n deed
again_there [] n deed used new less is same = absurd (omega (arith, less))
again_there (u ∷ uses) zero deed used new less is same = ap (λ (x : Use). x ∷ uses) (same ∙ ap (λ (x : Use). with_deed x deed) is)
again_there (u ∷ uses) (suc n) deed used new less is same = ap (λ (us : List Use). u ∷ us) (again_there uses n deed used new (omega (arith, less)) is same)

pub again_past : (uses : List Use) (n : ℕ) (deed : Deed) → length uses ≤ n → uses ≡ again_at uses n deed
again_past [] n deed past = refl
again_past (u ∷ uses) zero deed past = absurd (omega (arith, past))
again_past (u ∷ uses) (suc n) deed past = ap (λ (us : List Use). u ∷ us) (again_past uses n deed (omega (arith, past)))

same_sums : (sums : Sums) (paths : List (List ℕ)) (uses : List Use) → sums.paths ≡ paths → sums.uses ≡ uses → sums ≡ sums_of paths uses
same_sums sums paths uses first second = ap (λ (ps : List (List ℕ)). sums_of ps sums.uses) first ∙ ap (λ (us : List Use). sums_of paths us) second

-- at a path at which something was done before
pub done_again : (old new : Sums) (path : List ℕ) (deed : Deed) (n : ℕ) → HaveOnePlace old.paths → slice_get old.paths n ≡ Some path → new.paths ≡ old.paths → new.uses ≡ again_at old.uses n deed → new ≡ with_done old path deed
done_again old new path deed n once at paths uses =
    same_sums new old.paths (use_again old.paths old.uses path deed) paths (uses ∙ sym (again old.paths old.uses path deed n once at))
    ∙ sym (ap (λ (b : Bool). if b then sums_of old.paths (use_again old.paths old.uses path deed) else put_last old path (with_deed unused deed)) (in_has old.paths n path at))

-- ---- one after another

none_left : (sums : Sums) (wholes : List Whole) → with_all_done sums wholes [] ≡ sums
none_left sums [] = refl
none_left sums (whole ∷ wholes) = refl

pub done_early : (sums : Sums) (wholes : List Whole) (bys : List By) (n : ℕ) → length bys ≤ n → with_all_done sums (drop n wholes) (drop n bys) ≡ sums
done_early sums wholes bys n at = ap (λ (bs : List By). with_all_done sums (drop n wholes) bs) (past_all bys n at) ∙ none_left sums (drop n wholes)

pub touched_next : (sums : Sums) (paths : List (List ℕ)) (n : ℕ) (path : List ℕ) → slice_get paths n ≡ Some path
    → with_untouched sums (drop n paths) ≡ with_untouched (if has sums.paths path then sums else put_last sums path unused) (drop (n + 1) paths)
touched_next sums paths n path at = ap (with_untouched sums) (next paths n path at)
