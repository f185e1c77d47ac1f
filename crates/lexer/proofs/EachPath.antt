-- Each text has a canonical path.
use Rattle.std.proofs.Common.{◌≡◌, ◌≢◌, ◌⊎◌, inl, inr, Bool, true, false, List, [], ◌∷◌, ◌++◌, refl, sym, ◌∙◌, ap, subst, append_assoc, append-nil}
use Rattle.std.specs.Prelude.{bytes_eq}
use Rattle.std.proofs.lemmas.Bool.{false≢true}
use Rattle.std.proofs.lemmas.Slice.Eq.{bytes_eq-Decides}
use Rattle.lexer.specs.Path as path
use Rattle.lexer.specs.Path.{Part, parent, Rewrites, done, step, IsFinal, is_rooted, parts_of, HasCanonical}
use Rattle.lexer.proofs.Folding.{StopsParent, IsFinal-push, IsFinal-front}
use Rattle.lexer.proofs.FoldLoop.{IsFinal-none}

-- a list is empty, or ends in a part
last_cut : (xs : List Part) → (xs ≡ []) ⊎ ((front : List Part) × (last : Part) × (xs ≡ front ++ last ∷ []))
last_cut [] = inl refl
last_cut (x ∷ xs) = elim (last_cut xs) [
  | inl none ↦ inr ([], x, ap (λ (ys : List Part). x ∷ ys) none)
  | inr some ↦ inr (x ∷ some.0, some.1, ap (λ (ys : List Part). x ∷ ys) some.2)
]

-- so far these parts are left, and no step is left in them; with these behind them something is left in the end
abbrev Folded : Bool → List Part → Type 0
Folded rooted parts = (last : List Part) × Rewrites rooted parts last × IsFinal rooted last

-- one part more, where what stands behind it can be folded behind any parts
module _ (rooted : Bool) (part : Part) (parts : List Part) (rest : (kept : List Part) → IsFinal rooted kept → Folded rooted (kept ++ parts)) (kept : List Part) (final : IsFinal rooted kept) where
  stays : (part ≡ parent → StopsParent rooted kept) → Folded rooted (kept ++ part ∷ parts)
  stays stops = subst (λ (ps : List Part). Folded rooted ps) (append_assoc kept (part ∷ []) parts) (rest (kept ++ part ∷ []) (IsFinal-push rooted kept part final stops))

  folds : (front : List Part) (last : Part) → kept ≡ front ++ last ∷ [] → part ≡ parent → last ≢ parent → Folded rooted (kept ++ part ∷ parts)
  folds front last ends is named =
      let more = rest front (IsFinal-front rooted front last (subst (λ (ps : List Part). IsFinal rooted ps) ends final)) in (
        more.0,
        step
            (inl record {
              front = front;
              part = last;
              back = parts;
              named = named;
              before = ap (λ (ps : List Part). ps ++ part ∷ parts) ends ∙ (append_assoc front (last ∷ []) (part ∷ parts) ∙ ap (λ (p : Part). front ++ last ∷ p ∷ parts) is);
              after = refl;
            })
            more.1,
        more.2,
      )

  climbs : (root : Bool) → rooted ≡ root → kept ≡ [] → part ≡ parent → Folded rooted (kept ++ part ∷ parts)
  climbs false is none up = stays (λ _. inl (is, none))
  climbs true is none up =
      let more = rest [] (IsFinal-none rooted) in
      (more.0, step (inr record { root = is; before = ap (λ (ps : List Part). ps ++ part ∷ parts) none ∙ ap (λ (p : Part). p ∷ parts) up }) more.1, more.2)

  by_last : part ≡ parent → (last : Part) (front : List Part) → kept ≡ front ++ last ∷ [] → (is : Bool) → bytes_eq last parent ≡ is → Folded rooted (kept ++ part ∷ parts)
  by_last up last front ends true is = stays (λ _. inr (front, ends ∙ ap (λ (p : Part). front ++ p ∷ []) ((bytes_eq-Decides last parent).0 is)))
  by_last up last front ends false is = folds front last ends up (λ same. false≢true (sym is ∙ (bytes_eq-Decides last parent).1 same))

  by_part : (is : Bool) → bytes_eq part parent ≡ is → Folded rooted (kept ++ part ∷ parts)
  by_part true is =
      let up = (bytes_eq-Decides part parent).0 is in
      elim (last_cut kept) [
        | inl none ↦ climbs rooted refl none up
        | inr some ↦ by_last up some.1 some.0 some.2 (bytes_eq some.1 parent) refl
      ]
  by_part false is = stays (λ same. absurd (false≢true (sym is ∙ (bytes_eq-Decides part parent).1 same)))

fold : (rooted : Bool) (parts kept : List Part) → IsFinal rooted kept → Folded rooted (kept ++ parts)
fold rooted [] kept final = (kept, subst (λ (ps : List Part). Rewrites rooted ps kept) (sym (append-nil kept)) done, final)
fold rooted (part ∷ parts) kept final = by_part rooted part parts (λ k f. fold rooted parts k f) kept final (bytes_eq part parent) refl

pub each_has_one : HasCanonical
each_has_one text =
    let folded = fold (is_rooted text) (parts_of text) [] (IsFinal-none (is_rooted text)) in
    (path.spelled (is_rooted text) folded.0, record { parts = folded.0; rewritten = folded.1; final = folded.2; text_is = refl })
