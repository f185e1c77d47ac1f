-- Paths whose parts stay as they are.
use Rattle.std.proofs.Common.{◌≡◌, ◌≢◌, ℕ, zero, suc, ◌<◌, ◌≤◌, Bool, true, false, not, cond, eqb, ◌&&◌, ◌||◌, ◌==◌, List, [], ◌∷◌, ◌++◌, length, drop, get_or, refl, sym, ap, ◌∙◌, arith, append_assoc, inl, inr, subst, Option, Some, None, unwrap_or, option_map, Bor}
use Rattle.std.specs.List.{list_all, slice_split, onto_first, filter, join_with_byte}
use Rattle.std.proofs.lemmas.Bool.{false≢true, eqb-true}
use Rattle.std.proofs.lemmas.List.{drop_all}
use Rattle.std.proofs.lemmas.List.Splits.{slice_split-cons_yes, slice_split-cons_no, join_with_byte-slice_split, length-slice_split}
use Rattle.lexer.specs.Path.{Part, parent, is_plain, is_named, is_rooted, Rewrites, done, IsFinal, IsCanonical, spelled}
use Rattle.lexer.specs.Tokens.{behind}

abbrev pub slash : ℕ → Bool
slash b = b == 47

-- the parts of a text are plain, where its first byte begins a part, or goes on with one
abbrev pub plain_from : Bool → List ℕ → Bool
plain_from begins [] = not begins
plain_from begins (b ∷ bs) = not (begins && (b == 47 || b == 46)) && plain_from (b == 47) bs

-- the same of the parts behind the first
abbrev rest_plain : List Part → Bool
rest_plain [] = true
rest_plain (part ∷ parts) = list_all is_plain parts

onto_plain : (b : ℕ) (parts : List Part) → list_all is_plain (onto_first b parts) ≡ (not (b == 46) && rest_plain parts)
onto_plain b [] = refl
onto_plain b (part ∷ parts) = refl

onto_rest : (b : ℕ) (parts : List Part) → rest_plain (onto_first b parts) ≡ rest_plain parts
onto_rest b [] = refl
onto_rest b (part ∷ parts) = refl

abbrev BothPlain : List ℕ → Type 0
BothPlain bs = (plain_from true bs ≡ list_all is_plain (slice_split slash bs)) × (plain_from false bs ≡ rest_plain (slice_split slash bs))

both_plain : (b : ℕ) (bs : List ℕ) → BothPlain bs → BothPlain (b ∷ bs)
both_plain b bs rest = by (b == 47) refl
  where
    by : (t : Bool) → (b == 47) ≡ t → BothPlain (b ∷ bs)
    by true is = rw (slice_split-cons_yes slash b bs is, is) (refl, rest.0)
    by false is = rw (slice_split-cons_no slash b bs is, is, onto_plain b (slice_split slash bs), onto_rest b (slice_split slash bs)) (ap (λ (t : Bool). not (b == 46) && t) rest.1, rest.1)

split_plain : (bs : List ℕ) → BothPlain bs
split_plain [] = (refl, refl)
split_plain (b ∷ bs) = both_plain b bs (split_plain bs)

pub plain_is : (bs : List ℕ) → plain_from true bs ≡ list_all is_plain (slice_split slash bs)
plain_is bs = (split_plain bs).0

-- a part that begins with a dot, or ends where it begins
pub stops_at : (bytes : List ℕ) (i b d : ℕ) → i < length bytes → get_or bytes i d ≡ b → (b == 47 || b == 46) ≡ true → plain_from true (drop i bytes) ≡ false
stops_at [] i b d low is stops = absurd (omega (arith, low))
stops_at (x ∷ bytes) zero b d low is stops = rw (is, stops) refl
stops_at (x ∷ bytes) (suc i) b d low is stops = stops_at bytes i b d (omega (arith, low)) is stops

pub ends_early : (bytes parts : List ℕ) (begins : Bool) (i d : ℕ) → bytes ≡ parts → begins ≡ true → i < length bytes → (get_or bytes i d == 47 || get_or bytes i d == 46) ≡ true
    → plain_from begins (drop i bytes) ≡ plain_from true bytes → false ≡ list_all is_plain (slice_split slash parts)
ends_early bytes parts begins i d same starts low stops kept =
    sym (stops_at bytes i (get_or bytes i d) d low refl stops) ∙ (ap (λ (t : Bool). plain_from t (drop i bytes)) (sym starts) ∙ (kept ∙ (plain_is bytes ∙ ap (λ (l : List ℕ). list_all is_plain (slice_split slash l)) same)))

pub ends_late : (bytes parts : List ℕ) (begins : Bool) (i : ℕ) → bytes ≡ parts → length bytes ≤ i
    → plain_from begins (drop i bytes) ≡ plain_from true bytes → not begins ≡ list_all is_plain (slice_split slash parts)
ends_late bytes parts begins i same high kept =
    ap (plain_from begins) (sym (drop_all i bytes high)) ∙ (kept ∙ (plain_is bytes ∙ ap (λ (l : List ℕ). list_all is_plain (slice_split slash l)) same))

pub both : (a b : Bool) → (a && b) ≡ true → (a ≡ true) × (b ≡ true)
both true b e = (refl, e)
both false b e = absurd (false≢true e)

plain_named : (part : Part) → is_plain part ≡ true → is_named part ≡ true
plain_named [] e = absurd (false≢true e)
plain_named (b ∷ []) e = e
plain_named (b ∷ c ∷ bs) e = refl

pub all_named : (parts : List Part) → list_all is_plain parts ≡ true → filter is_named parts ≡ parts
all_named [] e = refl
all_named (part ∷ parts) e =
    let each = both (is_plain part) (list_all is_plain parts) e in
    rw (plain_named part each.0) (ap (λ (ps : List Part). part ∷ ps) (all_named parts each.1))

no_parent : (front back : List Part) → list_all is_plain (front ++ parent ∷ back) ≡ true → ⊥
no_parent [] back e = absurd (false≢true e)
no_parent (part ∷ front) back e = no_parent front back (both (is_plain part) (list_all is_plain (front ++ parent ∷ back)) e).1

pub plain_final : (rooted : Bool) (parts : List Part) → list_all is_plain parts ≡ true → IsFinal rooted parts
plain_final rooted parts plain next s =
    elim s [
      | inl f ↦ no_parent (f.front ++ f.part ∷ []) f.back (ap (list_all is_plain) (append_assoc f.front (f.part ∷ []) (parent ∷ f.back) ∙ sym f.before) ∙ plain)
      | inr c ↦ no_parent [] next (ap (list_all is_plain) (sym c.before) ∙ plain)
    ]

pub spelled_parts : (parts : List Part) → parts ≢ [] → spelled false parts ≡ join_with_byte 47 parts
spelled_parts [] some = absurd (some refl)
spelled_parts (part ∷ parts) some = refl

-- a text whose parts are all plain does not begin at the root
pub unrooted : (text : List ℕ) → list_all is_plain (slice_split slash text) ≡ true → is_rooted text ≡ false
unrooted [] plain = refl
unrooted (b ∷ bs) plain = by (b == 47) refl
  where
    by : (t : Bool) → (b == 47) ≡ t → t ≡ false
    by true is = let e = ap (list_all is_plain) (sym (slice_split-cons_yes slash b bs is)) ∙ plain in absurd (false≢true e)
    by false is = refl

-- and is its own canonical form
pub plain_canonical : (text : List ℕ) → list_all is_plain (slice_split slash text) ≡ true → IsCanonical text text
plain_canonical text plain = record {
  parts = slice_split slash text;
  rewritten = subst (λ (parts : List Part). Rewrites (is_rooted text) parts (slice_split slash text)) (sym (all_named (slice_split slash text) plain)) done;
  final = plain_final (is_rooted text) (slice_split slash text) plain;
  text_is = subst (λ (rooted : Bool). text ≡ spelled rooted (slice_split slash text)) (sym (unrooted text plain)) (sym (spelled_parts (slice_split slash text) some ∙ join_with_byte-slice_split 47 text));
}
  where
    some : slice_split slash text ≢ []
    some none = let long = length-slice_split slash text in let short : length (slice_split slash text) ≡ 0 = ap length none in absurd (omega (arith, long, short))

-- and so it is behind the root
pub rooted_canonical : (text : List ℕ) → list_all is_plain (slice_split slash text) ≡ true → IsCanonical (47 ∷ text) (47 ∷ text)
rooted_canonical text plain = record {
  parts = slice_split slash text;
  rewritten = rw (all_named (slice_split slash text) plain) done;
  final = plain_final true (slice_split slash text) plain;
  text_is = ap (λ (l : List ℕ). 47 ∷ l) (sym (join_with_byte-slice_split 47 text));
}

pub rooted_behind : (text rest : List ℕ) → Some rest ≡ behind 47 text → list_all is_plain (slice_split slash rest) ≡ true → IsCanonical text text
rooted_behind text rest is plain = subst (λ (path : List ℕ). IsCanonical path path) (sym (stripped_is text is)) (rooted_canonical rest plain)
  where
    stripped_is : (path : List ℕ) → Some rest ≡ behind 47 path → path ≡ 47 ∷ rest
    stripped_is [] e = cc
    stripped_is (b ∷ bs) e = by (eqb b 47) refl e
      where
        by : (t : Bool) → eqb b 47 ≡ t → Some rest ≡ cond t (Some bs) None → b ∷ bs ≡ 47 ∷ rest
        by true is e = let first : b ≡ 47 = eqb-true b 47 is in cc
        by false is e = absurd cc

pub settled : (path : Bor (List ℕ)) (stripped : Option (Bor (List ℕ))) (parts : Bor (List ℕ)) (plain : Bool) → option_map (λ rest. rest.now) stripped ≡ behind 47 path.now → parts ≡ unwrap_or stripped path
    → plain ≡ list_all is_plain (slice_split slash parts.now) → plain ≡ true → IsCanonical path.now path.now
settled path None parts plain is same found so = plain_canonical path.now (ap (λ (p : Bor (List ℕ)). list_all is_plain (slice_split slash p.now)) (sym same) ∙ (sym found ∙ so))
settled path (Some rest) parts plain is same found so =
    rooted_behind path.now rest.now is (ap (λ (p : Bor (List ℕ)). list_all is_plain (slice_split slash p.now)) (sym same) ∙ (sym found ∙ so))
