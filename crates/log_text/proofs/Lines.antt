-- What a line spells.
use Rattle.std.proofs.Common.{◌≡◌, ◌≢◌, ◌≤◌, ℕ, Bool, true, false, eqb, List, [], ◌∷◌, ◌++◌, length, ◌⊎◌, inl, inr, refl, sym, ap, ◌∙◌, subst, append_assoc, arith, map, take, Bor, decimal}
use Rattle.std.proofs.lemmas.Bool.{eqb-false}
use Rattle.std.proofs.lemmas.List.{take_all, length-map}
use Rattle.std.specs.List.{flat_map}
use Rattle.std.specs.Str.{IsUtf8}
use Rattle.text.specs.Marks.{Lacks}
use Rattle.text.specs.Fronts.{IsFront, IsNext}
use Rattle.text.proofs.Fronts.{front_none, front_more, front_stops, front_all}
use Rattle.log_text.specs.Line.{field_text, field_and_tab, escaped, line_text, IsNoLine, SpellsNothing, counted}
use Rattle.log_text.proofs.Bytes.{Lacks-append, has_mark, one_cut}
use Rattle.log_text.proofs.Escapes.{one_text}

-- neither a tab nor a line feed stands in a field
Lacks-escaped : (mark b : ℕ) (rest : List ℕ) → (mark ≡ 9) ⊎ (mark ≡ 10) → Lacks mark rest → Lacks mark (escaped b ++ rest)
Lacks-escaped mark b rest low h = go (eqb b 92) (eqb b 9) (eqb b 10) refl refl refl
  where
    small : (mark ≡ 9) ⊎ (mark ≡ 10) → (mark ≢ 92) × (mark ≢ 116) × (mark ≢ 110)
    small (inl e) = rw e (omega arith, omega arith, omega arith)
    small (inr e) = rw e (omega arith, omega arith, omega arith)

    plain : (mark ≡ 9) ⊎ (mark ≡ 10) → eqb b 9 ≡ false → eqb b 10 ≡ false → b ≢ mark
    plain (inl e) f g = rw e (eqb-false b 9 f)
    plain (inr e) f g = rw e (eqb-false b 10 g)

    go : (x y z : Bool) → eqb b 92 ≡ x → eqb b 9 ≡ y → eqb b 10 ≡ z → Lacks mark (escaped b ++ rest)
    go true y z e f g = rw e (λ s. (small low).0 (sym s), (λ s. (small low).0 (sym s), h))
    go false true z e f g = rw (e, f) (λ s. (small low).0 (sym s), (λ s. (small low).1 (sym s), h))
    go false false true e f g = rw (e, f, g) (λ s. (small low).0 (sym s), (λ s. (small low).2 (sym s), h))
    go false false false e f g = rw (e, f, g) (plain low f g, h)

pub Lacks-field_text : (mark : ℕ) (text : List ℕ) → (mark ≡ 9) ⊎ (mark ≡ 10) → Lacks mark (field_text text)
Lacks-field_text mark [] low = tt
Lacks-field_text mark (b ∷ text) low = Lacks-escaped mark b (field_text text) low (Lacks-field_text mark text low)

-- how far the fields of a line are read: rest is left
abbrev pub IsParted : List ℕ → List (List ℕ) → List ℕ → Type 0
IsParted = IsFront field_and_tab IsUtf8

pub starts : (front : List ℕ) → IsParted front [] front
starts front = front_none field_and_tab IsUtf8 front

some_cut : (rest field after : List ℕ) → rest ≡ field ++ 9 ∷ after → rest ≢ []
some_cut rest [] after e none = let clash : 9 ∷ after ≡ [] = sym e ∙ none in cc
some_cut rest (b ∷ field) after e none = let clash : b ∷ (field ++ 9 ∷ after) ≡ [] = sym e ∙ none in cc

-- the field in front of a tab is a text's only where it is the text's field
pub front_field : (rest field after text others : List ℕ) → rest ≡ field ++ 9 ∷ after → Lacks 9 field → rest ≡ field_and_tab text ++ others → (field ≡ field_text text) × (after ≡ others)
front_field rest field after text others e lacks f =
    one_cut 9 field (field_text text) after others lacks (Lacks-field_text 9 text (inl refl)) (sym e ∙ (f ∙ append_assoc (field_text text) (9 ∷ []) others))

-- a field that spells a text, with a tab behind it
pub next_field : (rest field after text : List ℕ) → rest ≡ field ++ 9 ∷ after → Lacks 9 field → field ≡ field_text text → IsUtf8 text → IsNext field_and_tab IsUtf8 rest text after
next_field rest field after text e lacks is utf8 = record {
  spelled = e ∙ (ap (λ (xs : List ℕ). xs ++ 9 ∷ after) is ∙ sym (append_assoc (field_text text) (9 ∷ []) after));
  fits = utf8;
  only = λ other others fits f.
      let same = front_field rest field after other others e lacks f in
      (one_text text other (sym is ∙ same.0), same.1);
}

pub one_more : (front : List ℕ) (fields : List (List ℕ)) (rest field after text : List ℕ) → IsParted front fields rest → rest ≡ field ++ 9 ∷ after → Lacks 9 field → field ≡ field_text text → IsUtf8 text → IsParted front (fields ++ text ∷ []) after
one_more front fields rest field after text parted e lacks is utf8 =
    front_more field_and_tab IsUtf8 front fields rest text after parted (some_cut rest field after e) (next_field rest field after text e lacks is utf8)

pub dot_ends : (a b : List ℕ) → a ++ 46 ∷ [] ≡ b ++ 46 ∷ [] → a ≡ b
dot_ends [] [] e = refl
dot_ends [] (y ∷ b) e = absurd (let rest : [] ≡ b ++ 46 ∷ [] = cc in some b rest)
  where
    some : (xs : List ℕ) → [] ≡ xs ++ 46 ∷ [] → ⊥
    some [] e = cc
    some (x ∷ xs) e = cc
dot_ends (x ∷ a) [] e = absurd (let rest : a ++ 46 ∷ [] ≡ [] = cc in some a rest)
  where
    some : (xs : List ℕ) → xs ++ 46 ∷ [] ≡ [] → ⊥
    some [] e = cc
    some (x ∷ xs) e = cc
dot_ends (x ∷ a) (y ∷ b) e =
    let inner = dot_ends a b cc in
    let heads : x ≡ y = cc in
    rw (heads, inner) refl

-- where the first field spells no text, the line is none
pub stops_at_field : (line front : List ℕ) (fields : List (List ℕ)) (rest field after : List ℕ) → line ≡ front ++ 46 ∷ [] → IsParted front fields rest → rest ≡ field ++ 9 ∷ after → Lacks 9 field → SpellsNothing field → IsNoLine line
stops_at_field line front fields rest field after dot parted e lacks none whole texts f =
    front_stops field_and_tab IsUtf8 front fields rest parted (some_cut rest field after e)
    (λ text others utf8 g. none text utf8 (front_field rest field after text others e lacks g).0) whole texts (dot_ends front (flat_map field_and_tab whole) (sym dot ∙ f))

-- without a tab nothing may be left
pub stops_at_end : (line front : List ℕ) (fields : List (List ℕ)) (rest : List ℕ) → line ≡ front ++ 46 ∷ [] → IsParted front fields rest → Lacks 9 rest → rest ≢ [] → IsNoLine line
stops_at_end line front fields rest dot parted lacks some whole texts f =
    front_stops field_and_tab IsUtf8 front fields rest parted some
    (λ text others utf8 g. has_mark 9 (field_text text) others (subst (Lacks 9) (g ∙ append_assoc (field_text text) (9 ∷ []) others) lacks)) whole texts (dot_ends front (flat_map field_and_tab whole) (sym dot ∙ f))

pub no_dot : (line : List ℕ) → ((front : List ℕ) → line ≡ front ++ 46 ∷ [] → ⊥) → IsNoLine line
no_dot line none whole texts f = none (flat_map field_and_tab whole) f

pub is_line : (line front : List ℕ) (fields : List (List ℕ)) (rest : List ℕ) → line ≡ front ++ 46 ∷ [] → IsParted front fields rest → rest ≡ [] → line ≡ line_text fields
is_line line front fields rest dot parted e = dot ∙ ap (λ (xs : List ℕ). xs ++ 46 ∷ []) (front_all field_and_tab IsUtf8 front fields rest parted e)

line_text-cons : (field : List ℕ) (fields : List (List ℕ)) → line_text (field ∷ fields) ≡ field_text field ++ 9 ∷ line_text fields
line_text-cons field fields =
    ap (λ (xs : List ℕ). xs ++ 46 ∷ []) (append_assoc (field_text field) (9 ∷ []) (flat_map field_and_tab fields))
    ∙ append_assoc (field_text field) (9 ∷ flat_map field_and_tab fields) (46 ∷ [])

-- the dot alone has no field in front
no_first : (xs after : List ℕ) → 46 ∷ [] ≡ xs ++ 9 ∷ after → ⊥
no_first [] after g = cc
no_first (x ∷ []) after g = cc
no_first (x ∷ y ∷ xs) after g = cc

-- a line spells one list of fields
pub one_line : (a b : List (List ℕ)) → line_text a ≡ line_text b → a ≡ b
one_line [] [] e = refl
one_line [] (y ∷ b) e = absurd (no_first (field_text y) (line_text b) (e ∙ line_text-cons y b))
one_line (x ∷ a) [] e = absurd (no_first (field_text x) (line_text a) (sym e ∙ line_text-cons x a))
one_line (x ∷ a) (y ∷ b) e =
    let parts = one_cut 9 (field_text x) (field_text y) (line_text a) (line_text b) (Lacks-field_text 9 x (inl refl)) (Lacks-field_text 9 y (inl refl)) (sym (line_text-cons x a) ∙ (e ∙ line_text-cons y b)) in
    rw (one_text x y parts.0, one_line a b parts.1) refl

pub Lacks-line_text : (fields : List (List ℕ)) → Lacks 10 (line_text fields)
Lacks-line_text [] = (omega arith, tt)
Lacks-line_text (f ∷ fields) = subst (Lacks 10) (sym (line_text-cons f fields)) (Lacks-append 10 (field_text f) (9 ∷ line_text fields) (Lacks-field_text 10 f (inr refl)) (omega arith, Lacks-line_text fields))

flat_map-map : (texts : List (Bor (List ℕ))) → flat_map field_and_tab (map (λ text. text.now) texts) ≡ flat_map (λ text. field_and_tab text.now) texts
flat_map-map [] = refl
flat_map-map (f ∷ texts) = ap (λ (xs : List ℕ). field_and_tab f.now ++ xs) (flat_map-map texts)

-- the last of the texts is written
pub list_pushed : (old line : List ℕ) (texts : List (Bor (List ℕ))) (n : ℕ) → length texts ≤ n → line ≡ old ++ field_and_tab (decimal (length texts))
    → line ++ flat_map (λ text. field_and_tab text.now) (take n texts) ≡ old ++ flat_map field_and_tab (counted (map (λ text. text.now) texts))
list_pushed old line texts n le e =
    rw (take_all n texts le, ← flat_map-map texts, length-map texts (λ text. text.now)) (ap (λ (xs : List ℕ). xs ++ flat_map field_and_tab (map (λ text. text.now) texts)) e ∙ append_assoc old (field_and_tab (decimal (length texts))) (flat_map field_and_tab (map (λ text. text.now) texts)))
