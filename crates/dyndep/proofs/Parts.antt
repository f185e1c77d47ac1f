-- Lists of statements and of paths, up to a place in them.
use Rattle.std.proofs.Common.{◌≡◌, ℕ, zero, suc, ◌+◌, ◌<◌, ◌≤◌, Bool, true, false, List, [], ◌∷◌, ◌++◌, map, length, take, drop, get_or, refl, sym, ap, ◌∙◌, subst, arith, add-one, IsTrue, ◌↔◌, IfSome, Option, Some, None, Bor, append-nil, length-append}
use Rattle.std.proofs.Math.Seq.{take-suc}
use Rattle.std.proofs.lemmas.List.{take-append-drop, map-append, length-map}
use Rattle.std.specs.List.{AllByRecursion, AllZip}
use Rattle.lexer.specs.declared.statement.Line.{Line}
use Rattle.lexer.specs.declared.statement.Piece.{Piece}
use Rattle.lexer.specs.declared.statement.Value.{Value}
use Rattle.lexer.specs.Said.{Form, form_of, fragment_of, fragments_of, paths_of}
use Rattle.dyndep.specs.Dyndep.{IsPath, ArePaths, BindsRestat, binds_restat, restat_behind, restat_of, characters_of, text_of, is_nothing}
use Rattle.dyndep.specs.declared.fault.ReadError.{ReadError}
use Rattle.dyndep.specs.declared.fault.ReadError.TheVariants.{Memory, Fault}
use Rattle.dyndep.specs.Refused.{RefusedWhere, NoPaths, BindsAs, forms_in, is_of_block, begins_block, block_length, IsSplit}

taken_more : {X : Type 0} (xs : List X) (i : ℕ) (x : X) → i < length xs → x ≡ get_or xs i x → take (i + 1) xs ≡ take i xs ++ x ∷ []
taken_more xs i x lt is = rw add-one (take-suc xs i x lt ∙ ap (λ (y : _). take i xs ++ y ∷ []) (sym is))

-- ---- blocks

binds-push : (block : List Form) (line : Form) → BindsRestat block → binds_restat line ≡ true → BindsRestat (block ++ line ∷ [])
binds-push [] line all binds = (binds, tt)
binds-push (first ∷ block) line all binds = (all.0, binds-push block line all.1 binds)

restat-push : (before : Bool) (block : List Form) (line : Form) → restat_of before (block ++ line ∷ []) ≡ restat_behind (restat_of before block) line
restat-push before [] line = refl
restat-push before (first ∷ block) line = restat-push (restat_behind before first) block line

forms_more : (lines : List Line) (i : ℕ) (line : Line) → i < length lines → line ≡ get_or lines i line → forms_in (take (i + 1) lines) ≡ forms_in (take i lines) ++ form_of line.statement ∷ []
forms_more lines i line lt is = ap forms_in (taken_more lines i line lt is) ∙ map-append (λ (l : Line). form_of l.statement) (take i lines) (line ∷ [])

pub binds_more : (lines : List Line) (i : ℕ) (line : Line) (restat : Bool) → i < length lines → line ≡ get_or lines i line → BindsRestat (forms_in (take i lines)) → BindsAs (form_of line.statement) restat → BindsRestat (forms_in (take (i + 1) lines))
binds_more lines i line restat lt is all one = subst BindsRestat (sym (forms_more lines i line lt is)) (binds-push (forms_in (take i lines)) (form_of line.statement) all one.0)

pub restat_more : (lines : List Line) (i : ℕ) (line : Line) (restat : Bool) → i < length lines → line ≡ get_or lines i line → BindsAs (form_of line.statement) restat → restat ≡ restat_of false (forms_in (take (i + 1) lines))
restat_more lines i line restat lt is one = one.1 (restat_of false (forms_in (take i lines))) ∙ sym (ap (restat_of false) (forms_more lines i line lt is) ∙ restat-push false (forms_in (take i lines)) (form_of line.statement))

binds_at : (lines : List Line) (i : ℕ) (line : Line) → i < length lines → line ≡ get_or lines i line → BindsRestat (forms_in lines) → binds_restat (form_of line.statement) ≡ true
binds_at [] i line lt is all = absurd (omega arith)
binds_at (first ∷ lines) zero line lt is all = ap (λ (l : Line). binds_restat (form_of l.statement)) is ∙ all.0
binds_at (first ∷ lines) (suc i) line lt is all = binds_at lines i line (omega arith) is all.1

pub never_binds : (lines : List Line) (i : ℕ) (line : Line) → i < length lines → line ≡ get_or lines i line → binds_restat (form_of line.statement) ≡ false → BindsRestat (forms_in lines) → ⊥
never_binds lines i line lt is other all = let e = sym (binds_at lines i line lt is all) ∙ other in cc

-- ---- paths

zip-push : (texts paths : List (List ℕ)) (text path : List ℕ) → AllZip IsPath texts paths → IsPath text path → AllZip IsPath (texts ++ text ∷ []) (paths ++ path ∷ [])
zip-push [] [] text path all one = (one, tt)
zip-push [] (p ∷ paths) text path all one = absurd all
zip-push (t ∷ texts) [] text path all one = absurd all
zip-push (t ∷ texts) (p ∷ paths) text path all one = (all.0, zip-push texts paths text path all.1 one)

abbrev texts_of : List Value → List (List ℕ)
texts_of values = map text_of (paths_of values)

texts-append : (values more : List Value) → texts_of (values ++ more) ≡ texts_of values ++ texts_of more
texts-append [] more = refl
texts-append (value ∷ values) more = ap (λ (ts : List (List ℕ)). text_of (fragments_of value) ∷ ts) (texts-append values more)

pub paths_more : (values : List Value) (i : ℕ) (value : Value) (paths new : List (List ℕ)) (path : List ℕ) → i < length values → value ≡ get_or values i value → ArePaths (paths_of (take i values)) paths → IsPath (text_of (fragments_of value)) path → new ≡ paths ++ path ∷ [] → ArePaths (paths_of (take (i + 1) values)) new
paths_more values i value paths new path lt is all one pushed =
    subst (λ (ps : List (List ℕ)). ArePaths (paths_of (take (i + 1) values)) ps) (sym pushed)
    (subst (λ (ts : List (List ℕ)). AllZip IsPath ts (paths ++ path ∷ [])) (sym (ap texts_of (taken_more values i value lt is) ∙ texts-append (take i values) (value ∷ [])))
    (zip-push (texts_of (take i values)) paths (text_of (fragments_of value)) path all one))

pub never_paths : (values : List Value) (i : ℕ) (value : Value) → i < length values → value ≡ get_or values i value → text_of (fragments_of value) ≡ [] → NoPaths (paths_of values)
never_paths [] i value lt is empty paths all = absurd (omega arith)
never_paths (first ∷ values) i value lt is empty [] all = absurd all
never_paths (first ∷ values) zero value lt is empty (path ∷ paths) all = all.0.0 (ap (λ (v : Value). text_of (fragments_of v)) (sym is) ∙ empty)
never_paths (first ∷ values) (suc i) value lt is empty (path ∷ paths) all = never_paths values i value (omega arith) is empty paths all.1

-- ---- where a block ends

map_take : (n : ℕ) (lines : List Line) → forms_in (take n lines) ≡ take n (forms_in lines)
map_take zero lines = refl
map_take (suc n) [] = refl
map_take (suc n) (line ∷ lines) = ap (λ (rest : List Form). form_of line.statement ∷ rest) (map_take n lines)

map_drop : (n : ℕ) (lines : List Line) → forms_in (drop n lines) ≡ drop n (forms_in lines)
map_drop zero lines = refl
map_drop (suc n) [] = refl
map_drop (suc n) (line ∷ lines) = map_drop n lines

pub block_within : (lines : List Line) → block_length (forms_in lines) ≤ length lines
block_within [] = omega arith
block_within (line ∷ lines) = by (is_of_block (form_of line.statement)) refl (block_within lines)
  where
    by : (b : Bool) → is_of_block (form_of line.statement) ≡ b → block_length (forms_in lines) ≤ length lines → block_length (forms_in (line ∷ lines)) ≤ length (line ∷ lines)
    by true is more = rw is (omega arith)
    by false is more = rw is (omega arith)

front_all : (forms : List Form) → AllByRecursion (λ form. is_of_block form ≡ true) (take (block_length forms) forms)
front_all [] = tt
front_all (form ∷ forms) = by (is_of_block form) refl (front_all forms)
  where
    by : (b : Bool) → is_of_block form ≡ b → AllByRecursion (λ form. is_of_block form ≡ true) (take (block_length forms) forms) → AllByRecursion (λ form. is_of_block form ≡ true) (take (block_length (form ∷ forms)) (form ∷ forms))
    by true is more = let count : block_length (form ∷ forms) ≡ suc (block_length forms) = rw is (omega arith) in rw count (is, more)
    by false is more = let count : block_length (form ∷ forms) ≡ 0 = rw is refl in rw count tt

behind_ends : (forms : List Form) → begins_block (drop (block_length forms) forms) ≡ false
behind_ends [] = refl
behind_ends (form ∷ forms) = by (is_of_block form) refl (behind_ends forms)
  where
    by : (b : Bool) → is_of_block form ≡ b → begins_block (drop (block_length forms) forms) ≡ false → begins_block (drop (block_length (form ∷ forms)) (form ∷ forms)) ≡ false
    by true is more = let count : block_length (form ∷ forms) ≡ suc (block_length forms) = rw is (omega arith) in rw count more
    by false is more = let count : block_length (form ∷ forms) ≡ 0 = rw is refl in rw count is

pub is_split : (lines : List Line) (n : ℕ) → n ≡ block_length (forms_in lines) → IsSplit (forms_in lines) (forms_in (take n lines)) (forms_in (drop n lines))
is_split lines n is = record {
  whole = ap forms_in (sym (take-append-drop n lines)) ∙ map-append (λ (l : Line). form_of l.statement) (take n lines) (drop n lines);
  all = subst (λ (fs : List Form). AllByRecursion (λ form. is_of_block form ≡ true) fs) (ap (λ (m : ℕ). take m (forms_in lines)) (sym is) ∙ sym (map_take n lines)) (front_all (forms_in lines));
  ends = ap begins_block (map_drop n lines ∙ ap (λ (m : ℕ). drop m (forms_in lines)) is) ∙ behind_ends (forms_in lines);
}

-- ---- refusals

pub refused : {P Q : Type 0} (error : ReadError) → RefusedWhere P error → (P → Q) → RefusedWhere Q error
refused Memory is therefore = tt
refused (Fault fault) is therefore = (is.0, therefore is.1)

pub none_told : {X : Type 0} (b : Bool) (xs : List X) → (IsTrue b ↔ (xs ≡ [])) → b ≡ is_nothing xs
none_told true [] tells = refl
none_told true (x ∷ xs) tells = absurd (let e = tells.0 refl in cc)
none_told false [] tells = absurd (let e = tells.1 refl in cc)
none_told false (x ∷ xs) tells = refl

pub nothing_named : (values : List Value) → is_nothing (paths_of values) ≡ is_nothing values
nothing_named [] = refl
nothing_named (value ∷ values) = refl

pub behind_shorter : (lines block behind : List Line) → IsSplit (forms_in lines) (forms_in block) (forms_in behind) → length behind ≤ length lines
behind_shorter lines block behind split =
    let whole = ap length split.whole in
    let parts = length-append (forms_in block) (forms_in behind) in
    let a = length-map lines (λ (l : Line). form_of l.statement) in
    let b = length-map behind (λ (l : Line). form_of l.statement) in
    omega arith

-- what is said of a piece alone is said of the value
pub one_text : (found : Option (Bor (List ℕ))) (pieces : List Piece) (first : Piece) (rest : List Piece) → pieces ≡ first ∷ rest → rest ≡ [] → IfSome found (λ text. characters_of (fragment_of first) ≡ text.now) → IfSome found (λ text. text_of (map fragment_of pieces) ≡ text.now)
one_text None pieces first rest is none said = tt
one_text (Some text) pieces first rest is none said = ap (λ (l : List Piece). text_of (map fragment_of l)) (is ∙ ap (λ (l : List Piece). first ∷ l) none) ∙ (append-nil (characters_of (fragment_of first)) ∙ said)

pub nothing_left : (pieces : List Piece) → length pieces ≡ 0 → pieces ≡ []
nothing_left [] none = refl
nothing_left (piece ∷ pieces) none = absurd (omega arith)

pub none_left : (lines : List Line) → length lines ≡ 0 → lines ≡ []
none_left [] none = refl
none_left (line ∷ lines) none = absurd (omega arith)
