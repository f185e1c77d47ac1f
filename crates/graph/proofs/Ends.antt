-- Pushes and pops, and what is so of a whole manifest.
use Rattle.std.proofs.Common.{◌≡◌, ℕ, zero, suc, ◌+◌, ◌-◌, ◌<◌, ◌≤◌, true, false, List, [], ◌∷◌, ◌++◌, Option, Some, Result, Ok, Err, OnOk, OnErr, length, take, refl, sym, ◌∙◌, ap, subst, arith, length-append}
use Rattle.std.specs.List.{AllByRecursion, flat_map}
use Rattle.std.specs.Result.{is_err}
use Rattle.std.proofs.Math.ListN.{set, replicate}
use Rattle.std.proofs.Math.Seq.{take-length}
use Rattle.std.proofs.lemmas.Bool.{false≢true, true≢false, false_from_ne_true}
use Rattle.std.proofs.lemmas.List.{length-replicate}
use Rattle.model.specs.Graph.{has_number, IsMadeOnce}
use Rattle.model.specs.SingleBuild.{NamesOther}
use Rattle.paths.specs.declared.line.Line.{Line}
use Rattle.paths.specs.declared.manifest.Manifest.{Manifest}
use Rattle.paths.specs.Numbers.{HaveOnePlace}
use Rattle.paths.specs.Lists.{line_at, line_outputs}
use Rattle.paths.specs.Told.{graph_of}
use Rattle.graph.specs.Held.{list_at, StandOnce, AreMakers, DyndepsAreInputs, AreRecorded, pushed, push_at}
use Rattle.graph.specs.Linked.{AreDistinct, NamesDyndepInput}
use Rattle.graph.specs.Making.{made_below}
use Rattle.graph.proofs.Flaws.{dyndeps_texts}
use Rattle.graph.proofs.Lists.{length-pushed, pushed-append, push_same, once_none, once_append}
use Rattle.graph.proofs.Makes.{below_has, below_next, distinct_texts, output_below}
use Rattle.graph.proofs.Asked.{flat_has}
use Rattle.graph.proofs.Repeats.{made_once, names_no_other}
use Rattle.graph.proofs.Texts.{AreWithin, within_of, all_outputs_of}

pub ok_of : {T E : Type 0} {P : Type 0} (r : Result T E) → is_err r ≡ false → OnOk r P → P
ok_of (Ok x) no_error is = is
ok_of (Err e) no_error is = absurd (true≢false no_error)

pub err_of : {T E : Type 0} {P : Type 0} (r : Result T E) → is_err r ≡ true → OnErr r P → P
err_of (Ok x) error is = absurd (false≢true error)
err_of (Err e) error is = is

-- an error says nothing of what was done, and no error nothing of what was not
pub no_ok : {T E : Type 0} (P : Type 0) (r : Result T E) → is_err r ≡ true → OnOk r P
no_ok P (Ok x) error = absurd (false≢true error)
no_ok P (Err e) error = tt

pub no_err : {T E : Type 0} (P : Type 0) (r : Result T E) → is_err r ≡ false → OnErr r P
no_err P (Ok x) no_error = tt
no_err P (Err e) no_error = absurd (true≢false no_error)

pub on_ok : {T E : Type 0} {P : Type 0} (r : Result T E) → P → OnOk r P
on_ok (Ok x) p = p
on_ok (Err e) p = tt

pub some_err : {T E : Type 0} {P : Type 0} (r : Result T E) → P → OnErr r P
some_err (Ok x) p = tt
some_err (Err e) p = p

pub all_take : (P : ℕ → Type 0) (n : ℕ) (xs : List ℕ) → AllByRecursion P xs → AllByRecursion P (take n xs)
all_take P zero xs all = tt
all_take P (suc n) [] all = tt
all_take P (suc n) (x ∷ xs) all = (all.0, all_take P n xs all.1)

-- ---- a push and a pop

set_back : (ls : List (List ℕ)) (p : ℕ) (y : List ℕ) → set (set ls p y) p (list_at ls p) ≡ ls
set_back [] p y = refl
set_back (l ∷ ls) zero y = refl
set_back (l ∷ ls) (suc p) y = ap (λ (m : List (List ℕ)). l ∷ m) (set_back ls p y)

take_but : (xs : List ℕ) (e : ℕ) → take (length (xs ++ e ∷ []) - 1) (xs ++ e ∷ []) ≡ xs
take_but xs e = let long : length (xs ++ e ∷ []) - 1 ≡ length xs = shorter (length-append xs (e ∷ [])) in ap (λ (n : ℕ). take n (xs ++ e ∷ [])) long ∙ front xs
  where
    shorter : length (xs ++ e ∷ []) ≡ length xs + 1 → length (xs ++ e ∷ []) - 1 ≡ length xs
    shorter is = omega (arith, is)

    front : (ys : List ℕ) → take (length ys) (ys ++ e ∷ []) ≡ ys
    front [] = refl
    front (y ∷ ys) = ap (λ (l : List ℕ). y ∷ l) (front ys)

pub pop_push : (users : List (List ℕ)) (p e : ℕ) → p < length users → set (push_at users p e) p (take (length (list_at (push_at users p e) p) - 1) (list_at (push_at users p e) p)) ≡ users
pop_push users p e lt =
    ap (λ (l : List ℕ). set (push_at users p e) p (take (length l - 1) l)) (push_same users p e lt)
    ∙ (ap (set (push_at users p e) p) (take_but (list_at users p) e) ∙ set_back users p (list_at users p ++ e ∷ []))

-- one path less to pop
pub popped_next : (users now new : List (List ℕ)) (left front : List ℕ) (last e : ℕ) → left ≡ front ++ last ∷ [] → last < length users → now ≡ pushed users left e → new ≡ set now last (take (length (list_at now last) - 1) (list_at now last))
    → new ≡ pushed users front e
popped_next users now new left front last e splits lt was is =
    let whole : now ≡ push_at (pushed users front e) last e = was ∙ (ap (λ (l : List ℕ). pushed users l e) splits ∙ pushed-append users front (last ∷ []) e) in
    let long = length-pushed users front e in
    is ∙ (ap (λ (v : List (List ℕ)). set v last (take (length (list_at v last) - 1) (list_at v last))) whole ∙ pop_push (pushed users front e) last e (omega (arith, lt, long)))

-- ---- a whole manifest

pub nothing_recorded : (manifest : Manifest) (count : ℕ) (recorded : List (List ℕ)) → count ≡ length manifest.lines → recorded ≡ replicate count [] → AreRecorded manifest recorded
nothing_recorded manifest count recorded long is = subst (AreRecorded manifest) (sym is) record {
  fits = length-replicate count [] ∙ long;
  within = λ e p h. absurd (false≢true (sym (ap (λ (l : List ℕ). has_number l p) (nothing count e)) ∙ h));
  once = λ e. subst StandOnce (sym (nothing count e)) once_none;
}
  where
    nothing : (n e : ℕ) → list_at (replicate n []) e ≡ []
    nothing zero e = refl
    nothing (suc n) zero = refl
    nothing (suc n) (suc e) = nothing n e

module _ (manifest : Manifest) (makers : List (Option ℕ)) (are : AreMakers manifest makers) where
  once_below : (k : ℕ) → k ≤ length manifest.lines → StandOnce (made_below manifest.lines k)
  once_below zero low = once_none
  once_below (suc k) low = subst StandOnce (sym (below_next manifest.lines k low)) (once_append (made_below manifest.lines k) (line_outputs (line_at manifest.lines k)) (once_below k (omega (arith, low))) (are.once k) (λ n there. false_from_ne_true (has_number (line_outputs (line_at manifest.lines k)) n) (λ here.
      let edge = below_has manifest.lines k n there in
      let both : Some edge.0 ≡ Some k = sym (are.all n edge.0 edge.2) ∙ are.all n k here in
      let same : edge.0 ≡ k = some_same edge.0 k both in
      absurd (omega (arith, same, edge.1)))))
    where
      some_same : (a b : ℕ) → Some a ≡ Some b → a ≡ b
      some_same a b is = cc

  pub none_twice : HaveOnePlace manifest.paths → IsMadeOnce (graph_of manifest).edges
  none_twice once = made_once (graph_of manifest).edges (subst AreDistinct (sym (all_outputs_of manifest.paths manifest.lines manifest.actions manifest.fits))
      (distinct_texts manifest.paths once (flat_map line_outputs manifest.lines) within
      (subst (λ (l : List Line). StandOnce (flat_map line_outputs l)) (take-length manifest.lines) (once_below (length manifest.lines) (omega arith)))))
    where
      within : AreWithin manifest.paths (flat_map line_outputs manifest.lines)
      within = within_of (length manifest.paths) (flat_map line_outputs manifest.lines) (λ p h. let at = flat_has line_outputs manifest.lines p h in let low = output_below manifest at.0 p at.1 in omega (arith, low, manifest.names))

pub none_other : (manifest : Manifest) → DyndepsAreInputs manifest → (file : List ℕ) → NamesOther (graph_of manifest).edges file → ⊥
none_other manifest inputs = names_no_other (graph_of manifest).edges
    (subst (AllByRecursion NamesDyndepInput) (take-length (graph_of manifest).edges) (dyndeps_texts manifest.paths manifest.lines manifest.actions (length (graph_of manifest).edges) (λ e p lt names. inputs e p names)))
