-- Texts and paths: appended lists, and two ways to give the same values.
use Rattle.std.proofs.Common.{◌≡◌, ℕ, ◌<◌, ◌≤◌, ◌||◌, Bool, true, false, List, [], ◌∷◌, ◌++◌, map, length, Option, None, unwrap_or, refl, ap, sym, subst, ◌∙◌, arith}
use Rattle.lexer.specs.Path.{IsCanonical}
use Rattle.lexer.specs.declared.statement.Piece.{Piece}
use Rattle.lexer.specs.declared.statement.Piece.TheVariants.{Text, Name}
use Rattle.lexer.specs.declared.statement.Value.{Value}
use Rattle.lexer.specs.Said.{Fragments, Fragment, fragment_of, fragments_of}
use Rattle.lexer.specs.Said.Fragment.{literal, expansion}
use Rattle.scopes.specs.declared.block.Block.{Block}
use Rattle.scopes.specs.Block.{block_value}
use Rattle.scopes.specs.Moves.{Move, or_else, value_at}
use Rattle.scopes.specs.Place.{value_of_name}
use Rattle.scopes.specs.Texts.{expansion_of_pieces, largest_value}
use Rattle.manifest.specs.Expansion.{Bound, bound, value_here, text_of, text_at, fragment_text, is_large, some_text, ArePaths}

-- ---- texts

pub text_of_pieces : (value : List ℕ → List ℕ) (pieces : List Piece) → text_of value (map fragment_of pieces) ≡ expansion_of_pieces value pieces
text_of_pieces value [] = refl
text_of_pieces value (Text characters ∷ pieces) = ap (λ (rest : List ℕ). characters.now ++ rest) (text_of_pieces value pieces)
text_of_pieces value (Name name ∷ pieces) = ap (λ (rest : List ℕ). value name.now ++ rest) (text_of_pieces value pieces)

fragment_same : (one other : List ℕ → List ℕ) → ((name : List ℕ) → one name ≡ other name) → (fragment : Fragment) → fragment_text one fragment ≡ fragment_text other fragment
fragment_same one other same (literal text) = refl
fragment_same one other same (expansion name) = same name

pub text_same : (one other : List ℕ → List ℕ) → ((name : List ℕ) → one name ≡ other name) → (fragments : Fragments) → text_of one fragments ≡ text_of other fragments
text_same one other same [] = refl
text_same one other same (fragment ∷ fragments) =
    let first : fragment_text one fragment ≡ fragment_text other fragment = fragment_same one other same fragment in
    let rest : text_of one fragments ≡ text_of other fragments = text_same one other same fragments in
    ap (λ (text : List ℕ). text ++ text_of one fragments) first ∙ ap (λ (text : List ℕ). fragment_text other fragment ++ text) rest

-- ---- values at a place

-- a block that binds just this gives each name its value
pub here_same : (block : Block) (bindings : List Bound) (past : List Move) → ((name : List ℕ) → block_value block name ≡ bound bindings name)
    → (name : List ℕ) → value_of_name block past name ≡ value_here bindings past name
here_same block bindings past same name = ap (λ (value : Option (List ℕ)). unwrap_or (or_else value (value_at past name)) []) (same name)

-- what is expanded with a block is the text at this place
pub expanded_here : (block : Block) (bindings : List Bound) (past : List Move) → ((name : List ℕ) → block_value block name ≡ bound bindings name)
    → (value : Value) → expansion_of_pieces (value_of_name block past) value.pieces ≡ text_of (value_here bindings past) (fragments_of value)
expanded_here block bindings past same value =
    sym (text_of_pieces (value_of_name block past) value.pieces) ∙ text_same _ _ (here_same block bindings past same) (fragments_of value)

-- the same where the block is empty
pub expanded_at : (block : Block) (past : List Move) → ((name : List ℕ) → block_value block name ≡ None)
    → (value : Value) → expansion_of_pieces (value_of_name block past) value.pieces ≡ text_at past (fragments_of value)
expanded_at block past empty value = expanded_here block [] past empty value

-- ---- sizes

pub large_true : (text : List ℕ) → largest_value < length text → is_large text ≡ true
large_true text large = grind arith

pub large_false : (text : List ℕ) → length text ≤ largest_value → is_large text ≡ false
large_false text small = grind arith

pub not_true : (flag : Bool) → flag ≡ false → flag ≡ true → ⊥
not_true flag is_false is_true = cc

-- ---- some text of several

pub some_text_append : (is : List ℕ → Bool) (value : List ℕ → List ℕ) (front back : List Fragments)
    → some_text is value (front ++ back) ≡ (some_text is value front || some_text is value back)
some_text_append is value [] back = refl
some_text_append is value (text ∷ front) back = grind (arith, some_text_append is value front back)

pub some_text_same : (is : List ℕ → Bool) (one other : List ℕ → List ℕ) → ((name : List ℕ) → one name ≡ other name)
    → (texts : List Fragments) → some_text is one texts ≡ some_text is other texts
some_text_same is one other same [] = refl
some_text_same is one other same (text ∷ texts) =
    ap (λ (first : List ℕ). is first || some_text is one texts) (text_same one other same text)
    ∙ ap (λ (rest : Bool). is (text_of other text) || rest) (some_text_same is one other same texts)

-- ---- paths

pub paths_append : (value : List ℕ → List ℕ) (texts more : List Fragments) (paths others : List (List ℕ))
    → ArePaths value texts paths → ArePaths value more others → ArePaths value (texts ++ more) (paths ++ others)
paths_append value [] more [] others all also = also
paths_append value [] more (path ∷ paths) others all also = absurd all
paths_append value (text ∷ texts) more [] others all also = absurd all
paths_append value (text ∷ texts) more (path ∷ paths) others all also = (all.0, paths_append value texts more paths others all.1 also)

pub paths_push : (value : List ℕ → List ℕ) (texts : List Fragments) (text : Fragments) (paths : List (List ℕ)) (path : List ℕ)
    → ArePaths value texts paths → IsCanonical (text_of value text) path → ArePaths value (texts ++ text ∷ []) (paths ++ path ∷ [])
paths_push value texts text paths path all also = paths_append value texts (text ∷ []) paths (path ∷ []) all (also, tt)

pub paths_same : (one other : List ℕ → List ℕ) → ((name : List ℕ) → one name ≡ other name)
    → (texts : List Fragments) (paths : List (List ℕ)) → ArePaths one texts paths → ArePaths other texts paths
paths_same one other same [] [] all = tt
paths_same one other same [] (path ∷ paths) all = absurd all
paths_same one other same (text ∷ texts) [] all = absurd all
paths_same one other same (text ∷ texts) (path ∷ paths) all =
    (subst (λ (bytes : List ℕ). IsCanonical bytes path) (text_same one other same text) all.0, paths_same one other same texts paths all.1)
