-- Quoted paths, as they are written and as a shell reads them.
use Rattle.std.proofs.Common.{◌≡◌, ◌≢◌, ℕ, ◌<◌, ◌==◌, Bool, true, false, not, ◌&&◌, eqb, List, [], ◌∷◌, ◌++◌, Some, length, get_or, take, drop, take-append-drop, codes, refl, sym, ap, subst, ◌∙◌, arith}
use Prim.Native.Nat.{zero, suc}
use mathlib.Core.Logic.{inl, inr}
use Rattle.std.specs.List.{flat_map, list_all}
use Rattle.std.proofs.lemmas.Bool.{eqb-true, false≢true, ne_eqb}
use Rattle.std.proofs.lemmas.List.Concat.{flat_map-append}
use Rattle.std.proofs.lemmas.Str.Pattern.{NoCharPasses-char, drop_at_char}
use Rattle.std.specs.Str.Pattern.{FindsChar}
use Rattle.std.specs.Char.{len_utf8}
use Rattle.std.specs.Str.Replace.{ReplacesMatches, ContinuesAfterMatch}
use Rattle.lexer.specs.Quote.{is_bare, is_bare_path, within_quotes, quoted, text_from, IsWordOf, QuotedIsOneWord}
use Rattle.lexer.specs.Quote.Place.{Bare, InQuotes}

-- ---- what a shell reads

-- a bare character is no quote and no backslash
not_bare : (mark b : ℕ) → is_bare mark ≡ false → is_bare b ≡ true → eqb b mark ≡ false
not_bare mark b stops bare = go (eqb b mark) refl
  where
    go : (x : Bool) → eqb b mark ≡ x → x ≡ false
    go false e = refl
    go true e = absurd (false≢true (sym stops ∙ (ap is_bare (sym (eqb-true b mark e)) ∙ bare)))

both : (a b : Bool) → (a && b) ≡ true → (a ≡ true) × (b ≡ true)
both true b e = (refl, e)
both false b e = absurd (false≢true e)

bare_read : (path : List ℕ) → list_all is_bare path ≡ true → text_from Bare path ≡ Some path
bare_read [] e = refl
bare_read (b ∷ path) e =
    let parts = both (is_bare b) (list_all is_bare path) e in
    rw (not_bare 39 b refl parts.0, not_bare 92 b refl parts.0, parts.0, bare_read path parts.1) refl

plain_read : (b : ℕ) (word text : List ℕ) → eqb b 39 ≡ false → text_from InQuotes word ≡ Some text → text_from InQuotes (b ∷ word) ≡ Some (b ∷ text)
plain_read b word text e more = rw (e, more) refl

quotes_read : (path : List ℕ) → text_from InQuotes (flat_map within_quotes path ++ 39 ∷ []) ≡ Some path
quotes_read [] = refl
quotes_read (b ∷ path) = one b path (quotes_read path) (eqb b 39) refl
  where
    one : (b : ℕ) (path : List ℕ) → text_from InQuotes (flat_map within_quotes path ++ 39 ∷ []) ≡ Some path → (x : Bool) → eqb b 39 ≡ x → text_from InQuotes (flat_map within_quotes (b ∷ path) ++ 39 ∷ []) ≡ Some (b ∷ path)
    one b path more true e = rw (eqb-true b 39 e, more) refl
    one b path more false e =
        let plain : within_quotes b ≡ b ∷ [] = rw e refl in
        ap (λ (l : List ℕ). text_from InQuotes ((l ++ flat_map within_quotes path) ++ 39 ∷ [])) plain ∙ plain_read b (flat_map within_quotes path ++ 39 ∷ []) path e more

is_word : (path : List ℕ) → IsWordOf (quoted path) path
is_word path = go (is_bare_path path) refl
  where
    go : (x : Bool) → is_bare_path path ≡ x → IsWordOf (quoted path) path
    go true e = rw e (record { some = λ none. false≢true (ap is_bare_path (sym none) ∙ e); read = bare_read path (both (not (length path == 0)) (list_all is_bare path) e).1 })
    go false e = rw e (record { some = λ none. cc; read = quotes_read path })

pub quoted_is_one_word_law : QuotedIsOneWord
quoted_is_one_word_law path text = (
  λ word. let same : Some text ≡ Some path = sym word.read ∙ (is_word path).read in cc,
  λ same. rw same (is_word path),
)

-- ---- what is written

within_lacks : (text : List ℕ) → ((i : ℕ) → i < length text → get_or text i 0 ≢ 39) → flat_map within_quotes text ≡ text
within_lacks [] lacks = refl
within_lacks (b ∷ text) lacks =
    rw (ne_eqb b 39 (lacks 0 (omega arith)), within_lacks text (λ i l. lacks (suc i) (omega arith))) refl

abbrev Same : ℕ → ℕ → Type 0
Same c d = d ≡ c

abbrev pub IsReplaced : ℕ → ℕ → List ℕ → List ℕ → Type 0
IsReplaced = ReplacesMatches FindsChar Same (codes "'\\''")

-- up to a single quote, that quote, and what comes of the rest
one_more : (path rest : List ℕ) (a b : ℕ) → FindsChar 39 path (Some (a, b)) → rest ≡ flat_map within_quotes (drop b path) → take a path ++ (codes "'\\''" ++ rest) ≡ flat_map within_quotes path
one_more path rest a b finds e =
    let front : flat_map within_quotes (take a path) ≡ take a path = within_lacks (take a path) (λ i l. NoCharPasses-char 39 (take a path) i finds.0 (omega arith) l) in
    let split : path ≡ take a path ++ 39 ∷ drop b path = sym (take-append-drop a path) ∙ ap (λ (l : List ℕ). take a path ++ l) (drop_at_char 39 path a b finds.1 (omega arith)) in
    let whole : flat_map within_quotes path ≡ flat_map within_quotes (take a path) ++ flat_map within_quotes (39 ∷ drop b path) = ap (flat_map within_quotes) split ∙ flat_map-append within_quotes (take a path) (39 ∷ drop b path) in
    ap (λ (l : List ℕ). take a path ++ (codes "'\\''" ++ l)) e ∙ sym (whole ∙ ap (λ (l : List ℕ). l ++ flat_map within_quotes (39 ∷ drop b path)) front)

-- behind a match, which is not empty, the same goes on
goes_on : (n : ℕ) (path rest : List ℕ) (a b : ℕ) → ((s out : List ℕ) → IsReplaced n 39 s out → out ≡ flat_map within_quotes s) → FindsChar 39 path (Some (a, b))
    → ContinuesAfterMatch FindsChar Same (codes "'\\''") (IsReplaced n 39) path a b rest → rest ≡ flat_map within_quotes (drop b path)
goes_on n path rest a b more finds (inl on) = more (drop b path) rest on.1
goes_on n path rest a b more finds (inr ended) =
    let one : len_utf8 39 ≡ 1 = refl in
    absurd (omega (arith, finds.1.ends, one, ended.0))

pub replaced : (n : ℕ) (path out : List ℕ) → IsReplaced n 39 path out → out ≡ flat_map within_quotes path
replaced zero path out h = h.1 ∙ sym (within_lacks path (λ i l. NoCharPasses-char 39 path i h.0 (omega arith) l))
replaced (suc n) path out h =
    let on = subst (λ (q : ℕ). ContinuesAfterMatch FindsChar Same (codes "'\\''") (IsReplaced n q) path h.0 h.1 h.3) h.5 h.6 in
    h.7 ∙ one_more path h.3 h.0 h.1 h.4 (goes_on n path h.3 h.0 h.1 (λ s o r. replaced n s o r) h.4 on)
