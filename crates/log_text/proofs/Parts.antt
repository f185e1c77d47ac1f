-- The fields of a record.
use Rattle.std.proofs.Common.{◌≡◌, ◌<◌, ℕ, decimal, true, false, List, [], ◌∷◌, ◌++◌, ◌||◌, Bool, Bor, zero, suc, not, length, map, take, get_or, refl, sym, ap, ◌∙◌, subst, arith, append-nil, length-append, Option, Some, None}
use Rattle.std.specs.List.{list_any}
use Rattle.std.proofs.lemmas.Bool.{false≢true, not-false}
use Rattle.model.specs.Graph.{has}
use Rattle.log_text.proofs.KeptRecords.{flip}
use Rattle.std.specs.Prelude.{IfNone}
use Rattle.std.specs.Str.{bytes_eq}
use Rattle.std.proofs.lemmas.Slice.Eq.{bytes_eq-Decides}
use Rattle.std.proofs.lemmas.Fmt.{decimal_injective}
use Rattle.model.specs.declared.act.Act.{Act}
use Rattle.model.specs.declared.record.Record.{Record}
use Rattle.model.specs.declared.record.Record.TheVariants.{Begun, Done}
use Rattle.log_text.specs.declared.done.Done.{Done as DoneData}
use Rattle.log_text.specs.declared.form.Version.{Version}
use Rattle.log_text.specs.declared.form.Version.TheVariants.{One, Two}
use Rattle.log_text.specs.Line.{counted}
use Rattle.log_text.specs.Kept.{AreDistinct}
use Rattle.log_text.specs.BuildRecord.{act_fields, done_fields, output_fields, fields_of, outputs_of, HasRoomFor, IsRecord, IsNoRecord, first_line}
use Rattle.text.specs.Marks.{Lacks}

append_same : (os ps xs ys : List (List ℕ)) → length os ≡ length ps → os ++ xs ≡ ps ++ ys → (os ≡ ps) × (xs ≡ ys)
append_same [] [] xs ys len e = (refl, e)
append_same [] (p ∷ ps) xs ys len e = absurd (omega arith)
append_same (o ∷ os) [] xs ys len e = absurd (omega arith)
append_same (o ∷ os) (p ∷ ps) xs ys len e =
    let first : o ≡ p = cc in
    let rest : os ++ xs ≡ ps ++ ys = cc in
    let both = append_same os ps xs ys (omega arith) rest in
    (ap (λ (x : List ℕ). x ∷ os) first ∙ ap (λ (l : List (List ℕ)). p ∷ l) both.0, both.1)

-- outputs are read from fields in one way
one_split : (v : Version) (os ps xs ys : List (List ℕ)) → HasRoomFor v os → HasRoomFor v ps → output_fields v os ++ xs ≡ output_fields v ps ++ ys → (os ≡ ps) × (xs ≡ ys)
one_split One os ps xs ys h k e = append_same os ps xs ys (h ∙ sym k) e
one_split Two os ps xs ys h k e =
    let count : decimal (length os) ≡ decimal (length ps) = cc in
    let rest : os ++ xs ≡ ps ++ ys = cc in
    append_same os ps xs ys (decimal_injective (length os) (length ps) h.1 k.1 count) rest

-- what the parts of the fields are, where they are a record's
abbrev pub ArePartsOf : Record → List ℕ → List (List ℕ) → List (List ℕ) → Type 0
ArePartsOf (Begun os) kind outputs after = (kind ≡ 98 ∷ []) × (outputs ≡ os) × (after ≡ [])
ArePartsOf (Done os start act) kind outputs after = (kind ≡ 100 ∷ []) × (outputs ≡ os) × (after ≡ decimal start ∷ act_fields act)

pub parts_of : (v : Version) (fields : List (List ℕ)) (kind : List ℕ) (rest outputs after : List (List ℕ)) → fields ≡ kind ∷ rest → rest ≡ output_fields v outputs ++ after → HasRoomFor v outputs → (other : Record) → IsRecord v other → fields ≡ fields_of v other → ArePartsOf other kind outputs after
parts_of v fields kind rest outputs after e f room (Begun os) is g =
    let both : kind ∷ rest ≡ (98 ∷ []) ∷ output_fields v os = sym e ∙ g in
    let first : kind ≡ 98 ∷ [] = cc in
    let others : rest ≡ output_fields v os = cc in
    let same = one_split v outputs os after [] room is.room (sym f ∙ (others ∙ sym (append-nil (output_fields v os)))) in
    (first, same.0, same.1)
parts_of v fields kind rest outputs after e f room (Done os start act) is g =
    let both : kind ∷ rest ≡ (100 ∷ []) ∷ (output_fields v os ++ decimal start ∷ act_fields act) = sym e ∙ g in
    let first : kind ≡ 100 ∷ [] = cc in
    let others : rest ≡ output_fields v os ++ decimal start ∷ act_fields act = cc in
    let same = one_split v outputs os after (decimal start ∷ act_fields act) room is.room (sym f ∙ others) in
    (first, same.0, same.1)

pub not_split : (v : Version) (fields : List (List ℕ)) (kind : List ℕ) (rest : List (List ℕ)) → fields ≡ kind ∷ rest → ((outputs after : List (List ℕ)) → HasRoomFor v outputs → rest ≡ output_fields v outputs ++ after → ⊥) → IsNoRecord v fields
not_split v fields kind rest e none (Begun os) is g =
    let both : kind ∷ rest ≡ (98 ∷ []) ∷ output_fields v os = sym e ∙ g in
    let others : rest ≡ output_fields v os = cc in
    none os [] is.room (others ∙ sym (append-nil (output_fields v os)))
not_split v fields kind rest e none (Done os start act) is g =
    let both : kind ∷ rest ≡ (100 ∷ []) ∷ (output_fields v os ++ decimal start ∷ act_fields act) = sym e ∙ g in
    let others : rest ≡ output_fields v os ++ decimal start ∷ act_fields act = cc in
    none os (decimal start ∷ act_fields act) is.room others

pub not_distinct : (v : Version) (other : Record) (kind : List ℕ) (outputs after : List (List ℕ)) → IsRecord v other → ArePartsOf other kind outputs after → (AreDistinct outputs → ⊥) → ⊥
not_distinct v (Begun os) kind outputs after is parts twice = twice (subst AreDistinct (sym parts.1) is.once)
not_distinct v (Done os start act) kind outputs after is parts twice = twice (subst AreDistinct (sym parts.1) is.once)

-- neither kind
pub not_kind : (other : Record) (kind : List ℕ) (outputs after : List (List ℕ)) → ArePartsOf other kind outputs after → (kind ≡ 98 ∷ [] → after ≡ [] → ⊥) → (kind ≡ 100 ∷ [] → ⊥) → ⊥
not_kind (Begun os) kind outputs after parts begun done = begun parts.0 parts.2
not_kind (Done os start act) kind outputs after parts begun done = done parts.0

abbrev byte_at : List ℕ → ℕ → ℕ
byte_at xs n = get_or xs n 0

abbrev is_begun : List ℕ
is_begun = 98 ∷ []

abbrev is_done : List ℕ
is_done = 100 ∷ []

other_kind : is_begun ≡ is_done → ⊥
other_kind e = let clash = ap (λ (xs : List ℕ). byte_at xs 0) e in omega arith

-- of the second kind, but without what it tells
pub not_done : (v : Version) (other : Record) (kind : List ℕ) (outputs after : List (List ℕ)) → IsRecord v other → ArePartsOf other kind outputs after → kind ≡ 100 ∷ [] → ((done : DoneData) → done.start < 18446744073709551616 → after ≡ done_fields done → ⊥) → ⊥
not_done v (Begun os) kind outputs after is parts e none = other_kind (sym parts.0 ∙ e)
not_done v (Done os start act) kind outputs after is parts e none = none (record { start = start; act = act }) is.start parts.2

-- ---- tests of texts

pub same_text : (a b : List ℕ) → true ≡ bytes_eq a b → a ≡ b
same_text a b e = (bytes_eq-Decides a b).0 (sym e)

pub other_text : (a b : List ℕ) → false ≡ bytes_eq a b → a ≡ b → ⊥
other_text a b e f = false≢true (e ∙ (bytes_eq-Decides a b).1 f)

pub not_text : (a b : List ℕ) → true ≡ not (bytes_eq a b) → a ≡ b → ⊥
not_text a b e f = false≢true (sym (e ∙ ap not ((bytes_eq-Decides a b).1 f)))

pub text_after_not : (a b : List ℕ) → false ≡ not (bytes_eq a b) → a ≡ b
text_after_not a b e = (bytes_eq-Decides a b).0 (not-false (bytes_eq a b) (sym e))

-- ---- a count and as many outputs

-- a list of no texts is none that has some
pub not_empty : (fields texts behind outputs after : List (List ℕ)) → fields ≡ counted texts ++ behind → length texts < 18446744073709551616 → length texts ≡ 0 → HasRoomFor Two outputs → fields ≡ counted outputs ++ after → ⊥
not_empty fields texts behind outputs after is lt none room e =
    let both : decimal (length texts) ∷ (texts ++ behind) ≡ decimal (length outputs) ∷ (outputs ++ after) = sym is ∙ e in
    let count : decimal (length outputs) ≡ decimal (length texts) = cc in
    let same = decimal_injective (length outputs) (length texts) room.1 lt count in
    let some = room.0 in
    omega arith

pub too_few : {A : Type 0} (found : Option A) (fields : List (List ℕ)) (first : List ℕ) (rest : List (List ℕ)) (n : ℕ) → fields ≡ first ∷ rest → first ≡ decimal n → n < 18446744073709551616 → IfNone found (length rest < n) → IfNone found ((texts after : List (List ℕ)) → length texts < 18446744073709551616 → fields ≡ counted texts ++ after → ⊥)
too_few None fields first rest n cons is lt few = λ texts after room e.
    let both : first ∷ rest ≡ decimal (length texts) ∷ (texts ++ after) = sym cons ∙ e in
    let count : decimal (length texts) ≡ first = cc in
    let others : rest ≡ texts ++ after = cc in
    let same = decimal_injective (length texts) n room lt (count ∙ is) in
    let len = ap length others ∙ length-append texts after in
    absurd (omega arith)
too_few (Some x) fields first rest n cons is lt few = tt

-- ---- outputs seen so far

pub seen_has : (keys : List (Bor (List ℕ))) (q : List ℕ) → list_any (λ k. bytes_eq q k.now) keys ≡ has (map (λ k. k.now) keys) q
seen_has [] q = refl
seen_has (k ∷ keys) q = ap (λ (b : Bool). b || list_any (λ k. bytes_eq q k.now) keys) (flip q k.now) ∙ ap (λ (b : Bool). bytes_eq k.now q || b) (seen_has keys q)

split_here : (xs : List (List ℕ)) (i : ℕ) (x : List ℕ) → i < length xs → x ≡ get_or xs i x → (rest : List (List ℕ)) × (xs ≡ take i xs ++ x ∷ rest)
split_here [] i x lt e = absurd (omega arith)
split_here (y ∷ xs) zero x lt e = (xs, ap (λ (z : List ℕ). z ∷ xs) (sym e))
split_here (y ∷ xs) (suc i) x lt e = let more = split_here xs i x (omega arith) e in (more.0, ap (λ (l : List (List ℕ)). y ∷ l) more.1)

pub stands_before : (xs : List (List ℕ)) (i : ℕ) (x : List ℕ) → i < length xs → x ≡ get_or xs i x → has (take i xs) x ≡ true → AreDistinct xs → ⊥
stands_before xs i x lt e h distinct =
    let here = split_here xs i x lt e in
    distinct x (record { before = take i xs; after = here.0; splits = here.1; earlier = h })

-- ---- texts of both versions are read in one way

one_act : (a b : Act) → act_fields a ≡ act_fields b → a ≡ b
one_act a b e =
    let c : a.command ≡ b.command = cc in
    let d : a.depfile ≡ b.depfile = cc in
    let p : a.response_path ≡ b.response_path = cc in
    let q : a.response_content ≡ b.response_content = cc in
    λ i. record { command = c i; depfile = d i; response_path = p i; response_content = q i }

abbrev kind_of : Record → List ℕ
kind_of (Begun os) = 98 ∷ []
kind_of (Done os start act) = 100 ∷ []

abbrev after_of : Record → List (List ℕ)
after_of (Begun os) = []
after_of (Done os start act) = decimal start ∷ act_fields act

same_record : (r s : Record) (v : Version) → IsRecord v r → IsRecord v s → ArePartsOf s (kind_of r) (outputs_of r) (after_of r) → r ≡ s
same_record (Begun a) (Begun b) v x y parts = ap Begun parts.1
same_record (Begun a) (Done b n d) v x y parts = absurd (other_kind parts.0)
same_record (Done a m c) (Begun b) v x y parts = absurd (other_kind (sym parts.0))
same_record (Done a m c) (Done b n d) v x y parts =
    let both : decimal m ∷ act_fields c ≡ decimal n ∷ act_fields d = parts.2 in
    let first : decimal m ≡ decimal n = cc in
    let rest : act_fields c ≡ act_fields d = cc in
    let start : m ≡ n = decimal_injective m n x.start y.start first in
    let act : c ≡ d = one_act c d rest in
    λ i. Done (parts.1 i) (start i) (act i)

pub one_record : (v : Version) (r s : Record) → IsRecord v r → IsRecord v s → fields_of v r ≡ fields_of v s → r ≡ s
one_record v (Begun a) s x y e = same_record (Begun a) s v x y (parts_of v (fields_of v (Begun a)) (98 ∷ []) (output_fields v a) a [] refl (sym (append-nil (output_fields v a))) x.room s y e)
one_record v (Done a m c) s x y e = same_record (Done a m c) s v x y (parts_of v (fields_of v (Done a m c)) (100 ∷ []) (output_fields v a ++ decimal m ∷ act_fields c) a (decimal m ∷ act_fields c) refl refl x.room s y e)

pub no_line_feed : (v : Version) → Lacks 10 (first_line v)
no_line_feed One = (omega arith, (omega arith, (omega arith, (omega arith, (omega arith, (omega arith, (omega arith, (omega arith, tt))))))))
no_line_feed Two = (omega arith, (omega arith, (omega arith, (omega arith, (omega arith, (omega arith, (omega arith, (omega arith, tt))))))))

pub other_lines : first_line One ≡ first_line Two → ⊥
other_lines e = let clash = ap (λ (xs : List ℕ). byte_at xs 7) e in omega arith
