-- What a field spells.
use Rattle.std.proofs.Common.{◌≡◌, ◌≢◌, ℕ, List, [], ◌∷◌, ◌++◌, refl, sym, ap, ◌∙◌, subst, append_assoc, append-nil, arith}
use Rattle.std.proofs.lemmas.Bool.Decides.{nat_tests}
use Rattle.std.specs.List.{AllByRecursion}
use Rattle.std.specs.Str.{IsUtf8}
use Rattle.std.proofs.lemmas.List.Concat.{flat_map-append}
use Rattle.text.specs.Marks.{Lacks}
use Rattle.text.specs.Fronts.{IsFront}
use Rattle.text.proofs.Fronts.{front_none, front_more, front_stops, front_all}
use Rattle.log_text.specs.Line.{field_text, escaped, SpellsNothing, IsPlain}
use Rattle.log_text.proofs.Bytes.{Lacks-front, Lacks-back}

abbrev pub AnyByte : ℕ → Type 0
AnyByte byte = Unit {0}

pub all_fit : (text : List ℕ) → AllByRecursion AnyByte text
all_fit [] = tt
all_fit (b ∷ text) = (tt, all_fit text)

-- the escape of a byte is not the beginning of another's
pub one_escape : (a b : ℕ) (x y : List ℕ) → escaped a ++ x ≡ escaped b ++ y → (a ≡ b) × (x ≡ y)
one_escape a b x y e = (grind (arith, nat_tests), grind (arith, nat_tests))

some_escape : (b : ℕ) (x : List ℕ) → escaped b ++ x ≢ []
some_escape b x e = grind (arith, nat_tests)

pub escaped-plain : (b : ℕ) → b ≢ 92 → b ≢ 9 → b ≢ 10 → escaped b ≡ b ∷ []
escaped-plain b x y z = grind (arith, nat_tests)

pub field_text-plain : (text : List ℕ) → Lacks 92 text → Lacks 9 text → Lacks 10 text → field_text text ≡ text
field_text-plain [] x y z = refl
field_text-plain (b ∷ text) x y z = rw (escaped-plain b x.0 y.0 z.0, field_text-plain text x.1 y.1 z.1) refl

-- how far a field has been read: rest is left
abbrev pub IsRead : List ℕ → List ℕ → List ℕ → Type 0
IsRead = IsFront escaped AnyByte

pub starts : (field : List ℕ) → IsRead field [] field
starts field = front_none escaped AnyByte field

one_more : (field text rest : List ℕ) (b : ℕ) (after : List ℕ) → IsRead field text rest → rest ≡ escaped b ++ after → IsRead field (text ++ b ∷ []) after
one_more field text rest b after read e =
    front_more escaped AnyByte field text rest b after read (λ none. some_escape b after (sym e ∙ none))
    (record { spelled = e; fits = tt; only = λ other others fits f. one_escape b other after others (sym e ∙ f) })

-- bytes that stand for themselves
pub plain_more : (field text front rest : List ℕ) → IsRead field text (front ++ rest) → Lacks 92 front → Lacks 9 front → Lacks 10 front → IsRead field (text ++ front) rest
plain_more field text [] rest read x y z = subst (λ (t : List ℕ). IsRead field t rest) (sym (append-nil text)) read
plain_more field text (b ∷ front) rest read x y z =
    let one : IsRead field (text ++ b ∷ []) (front ++ rest) =
    one_more field text (b ∷ front ++ rest) b (front ++ rest) read (sym (ap (λ (bytes : List ℕ). bytes ++ (front ++ rest)) (escaped-plain b x.0 y.0 z.0))) in
    subst (λ (t : List ℕ). IsRead field t rest) (append_assoc text (b ∷ []) front) (plain_more field (text ++ b ∷ []) front rest one x.1 y.1 z.1)

-- bytes that stand for themselves, and an escape
pub escape_more : (field text rest front escape : List ℕ) (b : ℕ) (after : List ℕ) → IsRead field text rest → Lacks 9 rest → Lacks 10 rest → rest ≡ front ++ 92 ∷ escape → Lacks 92 front → 92 ∷ escape ≡ escaped b ++ after
    → IsRead field ((text ++ front) ++ b ∷ []) after
escape_more field text rest front escape b after read tab line split plain e =
    one_more field (text ++ front) (92 ∷ escape) b after
    (plain_more field text front (92 ∷ escape) (subst (IsRead field text) split read) plain (Lacks-front 9 front _ (subst (Lacks 9) split tab)) (Lacks-front 10 front _ (subst (Lacks 10) split line))) e

-- what stands behind an escape lacks what the whole lacks
pub Lacks-after : (mark : ℕ) (rest front escape : List ℕ) (b : ℕ) (after : List ℕ) → Lacks mark rest → rest ≡ front ++ 92 ∷ escape → 92 ∷ escape ≡ escaped b ++ after → Lacks mark after
Lacks-after mark rest front escape b after lacks split e =
    Lacks-back mark (escaped b) after (subst (Lacks mark) e (Lacks-back mark front (92 ∷ escape) (subst (Lacks mark) split lacks)))

-- where a backslash begins no escape, the field spells nothing
pub stops : (field text rest front escape : List ℕ) → IsRead field text rest → Lacks 9 rest → Lacks 10 rest → rest ≡ front ++ 92 ∷ escape → Lacks 92 front → ((b : ℕ) (after : List ℕ) → 92 ∷ escape ≡ escaped b ++ after → ⊥) → SpellsNothing field
stops field text rest front escape read tab line split plain none whole utf8 e =
    front_stops escaped AnyByte field (text ++ front) (92 ∷ escape)
    (plain_more field text front (92 ∷ escape) (subst (IsRead field text) split read) plain (Lacks-front 9 front _ (subst (Lacks 9) split tab)) (Lacks-front 10 front _ (subst (Lacks 10) split line)))
    (λ (f : 92 ∷ escape ≡ []). cc) (λ b after fits f. none b after f) whole (all_fit whole) e

-- what is left without a backslash ends the field
pub last : (field text rest : List ℕ) → IsRead field text rest → Lacks 92 rest → Lacks 9 rest → Lacks 10 rest → IsRead field (text ++ rest) []
last field text rest read x y z = plain_more field text rest [] (subst (IsRead field text) (sym (append-nil rest)) read) x y z

-- a field spells one text
pub one_text : (a b : List ℕ) → field_text a ≡ field_text b → a ≡ b
one_text [] [] e = refl
one_text [] (y ∷ b) e = absurd (some_escape y (field_text b) (sym e))
one_text (x ∷ a) [] e = absurd (some_escape x (field_text a) e)
one_text (x ∷ a) (y ∷ b) e =
    let parts = one_escape x y (field_text a) (field_text b) e in
    rw (parts.0, one_text a b parts.1) refl

pub spelled : (field text : List ℕ) → IsRead field text [] → field ≡ field_text text
spelled field text read = front_all escaped AnyByte field text [] read refl

-- where the only text is no UTF-8, nothing is spelled
pub not_utf8 : (field text : List ℕ) → field ≡ field_text text → (IsUtf8 text → ⊥) → SpellsNothing field
not_utf8 field text e bad whole utf8 f = bad (subst IsUtf8 (one_text whole text (sym f ∙ e)) utf8)

-- what stands before an escape, and the escape, are written
pub write_more : (old rest front : List ℕ) (byte : ℕ) (after : List ℕ) → rest ≡ front ++ byte ∷ after → IsPlain front → ((old ++ front) ++ escaped byte) ++ field_text after ≡ old ++ field_text rest
write_more old rest front byte after e plain =
    append_assoc (old ++ front) (escaped byte) (field_text after)
    ∙ (append_assoc old front (field_text (byte ∷ after))
    ∙ ap (λ (xs : List ℕ). old ++ xs) (ap (λ (xs : List ℕ). xs ++ field_text (byte ∷ after)) (sym (field_text-plain front plain.0 plain.1 plain.2)) ∙ (sym (flat_map-append escaped front (byte ∷ after)) ∙ ap field_text (sym e))))

pub write_last : (old rest : List ℕ) → IsPlain rest → old ++ rest ≡ old ++ field_text rest
write_last old rest plain = ap (λ (xs : List ℕ). old ++ xs) (sym (field_text-plain rest plain.0 plain.1 plain.2))
