-- Paths that begin with one `../` or more, and whose other parts stay as they are.
use Rattle.std.proofs.Common.{◌≡◌, ◌≢◌, ℕ, ◌<◌, Bool, true, false, cond, ◌&&◌, ◌==◌, List, [], ◌∷◌, ◌++◌, length, refl, sym, ap, ◌∙◌, arith, inl, inr, subst, Some, None}
use Rattle.std.specs.List.{list_all, slice_split}
use Rattle.std.proofs.lemmas.Bool.{false≢true, eqb-true}
use Rattle.std.proofs.lemmas.List.Splits.{join_with_byte-slice_split, length-slice_split}
use Rattle.lexer.specs.Path.{Part, parent, is_plain, is_rooted, parts_of, Rewrites, done, IsFinal, IsCanonical, spelled}
use Rattle.lexer.specs.Parents.{is_up, behind_parent, behind_parents}
use Rattle.lexer.proofs.Plain.{slash, both, all_named, plain_final, spelled_parts, unrooted}

-- ---- what stands behind them

pub one_less : (path rest : List ℕ) → Some rest ≡ behind_parent path → (behind_parents path ≡ behind_parents rest) × (length rest < length path)
one_less [] rest e = absurd cc
one_less (a ∷ []) rest e = absurd cc
one_less (a ∷ b ∷ []) rest e = absurd cc
one_less (a ∷ b ∷ c ∷ bytes) rest e = by (is_up a b c) refl e
  where
    by : (t : Bool) → is_up a b c ≡ t → Some rest ≡ cond t (Some bytes) None → (behind_parents (a ∷ b ∷ c ∷ bytes) ≡ behind_parents rest) × (length rest < length (a ∷ b ∷ c ∷ bytes))
    by true is e = let same : rest ≡ bytes = cc in rw (is, same) (refl, omega arith)
    by false is e = absurd cc

pub none_left : (path : List ℕ) → None ≡ behind_parent path → behind_parents path ≡ path
none_left [] e = refl
none_left (a ∷ []) e = refl
none_left (a ∷ b ∷ []) e = refl
none_left (a ∷ b ∷ c ∷ bytes) e = by (is_up a b c) refl e
  where
    by : (t : Bool) → is_up a b c ≡ t → None ≡ cond t (Some bytes) None → behind_parents (a ∷ b ∷ c ∷ bytes) ≡ a ∷ b ∷ c ∷ bytes
    by true is e = absurd cc
    by false is e = rw is refl

-- ---- the path stays as it is

abbrev StaysWhole : List ℕ → Type 0
StaysWhole text = (parts_of text ≡ slice_split slash text) × IsFinal false (slice_split slash text) × (is_rooted text ≡ false)

plain_stays : (text : List ℕ) → list_all is_plain (slice_split slash text) ≡ true → StaysWhole text
plain_stays text plain = (all_named (slice_split slash text) plain, plain_final false (slice_split slash text) plain, unrooted text plain)

-- a parent in front goes with no part
parent_final : (parts : List Part) → IsFinal false parts → IsFinal false (parent ∷ parts)
parent_final parts final next s =
    elim s [
      | inl f ↦ folds f.front f.part f.back f.named f.before
      | inr c ↦ absurd (false≢true c.root)
    ]
  where
    folds : (front : List Part) (part : Part) (back : List Part) → part ≢ parent → parent ∷ parts ≡ front ++ part ∷ parent ∷ back → ⊥
    folds [] part back named e = named cc
    folds (x ∷ front) part back named e = final (front ++ back) (inl (record { front = front; part = part; back = back; named = named; before = cc; after = refl }))

up_is : (a b c : ℕ) → is_up a b c ≡ true → (a ≡ 46) × (b ≡ 46) × (c ≡ 47)
up_is a b c e =
    let first = both (a == 46) (b == 46 && c == 47) e in
    let others = both (b == 46) (c == 47) first.1 in
    (eqb-true a 46 first.0, eqb-true b 46 others.0, eqb-true c 47 others.1)

up_stays : (bytes : List ℕ) → StaysWhole bytes → StaysWhole (46 ∷ 46 ∷ 47 ∷ bytes)
up_stays bytes rest = (ap (λ (parts : List Part). parent ∷ parts) rest.0, parent_final (slice_split slash bytes) rest.1, refl)

one_more : (a b c : ℕ) (bytes : List ℕ) → (list_all is_plain (slice_split slash (behind_parents bytes)) ≡ true → StaysWhole bytes)
    → list_all is_plain (slice_split slash (behind_parents (a ∷ b ∷ c ∷ bytes))) ≡ true → StaysWhole (a ∷ b ∷ c ∷ bytes)
one_more a b c bytes rest plain = by (is_up a b c) refl plain
  where
    by : (t : Bool) → is_up a b c ≡ t → list_all is_plain (slice_split slash (cond t (behind_parents bytes) (a ∷ b ∷ c ∷ bytes))) ≡ true → StaysWhole (a ∷ b ∷ c ∷ bytes)
    by true is e = let bytes_are = up_is a b c is in rw (bytes_are.0, bytes_are.1, bytes_are.2) (up_stays bytes (rest e))
    by false is e = plain_stays (a ∷ b ∷ c ∷ bytes) e

stays : (text : List ℕ) → list_all is_plain (slice_split slash (behind_parents text)) ≡ true → StaysWhole text
stays [] plain = plain_stays [] plain
stays (a ∷ []) plain = plain_stays (a ∷ []) plain
stays (a ∷ b ∷ []) plain = plain_stays (a ∷ b ∷ []) plain
stays (a ∷ b ∷ c ∷ bytes) plain = one_more a b c bytes (stays bytes) plain

whole_canonical : (text : List ℕ) → StaysWhole text → IsCanonical text text
whole_canonical text stays = record {
  parts = slice_split slash text;
  rewritten = subst (λ (parts : List Part). Rewrites (is_rooted text) parts (slice_split slash text)) (sym stays.0) done;
  final = subst (λ (rooted : Bool). IsFinal rooted (slice_split slash text)) (sym stays.2) stays.1;
  text_is = subst (λ (rooted : Bool). text ≡ spelled rooted (slice_split slash text)) (sym stays.2) (sym (spelled_parts (slice_split slash text) some ∙ join_with_byte-slice_split 47 text));
}
  where
    some : slice_split slash text ≢ []
    some none = let long = length-slice_split slash text in let short : length (slice_split slash text) ≡ 0 = ap length none in absurd (omega (arith, long, short))

-- and is its own canonical form
pub parents_canonical : (text : List ℕ) → list_all is_plain (slice_split slash (behind_parents text)) ≡ true → IsCanonical text text
parents_canonical text plain = whole_canonical text (stays text plain)
