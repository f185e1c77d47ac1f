-- What is noted of paths that a reader goes over.
use Rattle.std.proofs.Common.{◌≡◌, ◌<◌, ◌+◌, ℕ, List, [], ◌∷◌, ◌++◌, length, take, get_or, Option, Some, sym, ap, subst, ◌∙◌}
use Rattle.std.proofs.lemmas.List.{take_more, map-append}
use Rattle.lexer.specs.declared.statement.Value.{Value}
use Rattle.lexer.specs.Said.{Fragments, fragments_of, paths_of}
use Rattle.scopes.specs.declared.all_scopes.Scopes.{Scopes}
use Rattle.scopes.specs.declared.block.Block.{Block}
use Rattle.scopes.specs.Moves.{Move}
use Rattle.scopes.specs.Scopes.{IsScopesOf}
use Rattle.scopes.specs.Place.{value_of_name}
use Rattle.manifest.specs.declared.path_reader.PathReader.{PathReader}
use Rattle.manifest.specs.Expansion.{text_of, ArePaths}
use Rattle.manifest.specs.Flags.{FlagsAfter, IsPathFound}
use Rattle.manifest.proofs.TextLemmas.{paths_push}

pub paths_of_more : (values : List Value) (i : ℕ) (value : Value) → value ≡ get_or values i value → i < length values
    → paths_of (take (i + 1) values) ≡ paths_of (take i values) ++ fragments_of value ∷ []
paths_of_more values i value is below =
    ap paths_of (take_more values i value below) ∙ map-append fragments_of (take i values) (get_or values i value ∷ [])
    ∙ ap (λ (last : Value). paths_of (take i values) ++ fragments_of last ∷ []) (sym is)

-- what a reader notes, with the scopes and the block that it began with
pub flags_kept : (old new : PathReader) (scopes : Scopes) (block : Block) (texts : List Fragments) (past : List Move) → old.scopes.now ≡ scopes → old.block.now ≡ block
    → (IsScopesOf old.scopes.now past → FlagsAfter old new (value_of_name old.block.now past) texts) → IsScopesOf scopes past → FlagsAfter old new (value_of_name block past) texts
flags_kept old new scopes block texts past same_scopes same_block flags at =
    subst (λ (now : Block). FlagsAfter old new (value_of_name now past) texts) same_block
    (flags (subst (λ (now : Scopes). IsScopesOf now past) (sym same_scopes) at))

pub found_kept : (old : PathReader) (scopes : Scopes) (block : Block) (text : Fragments) (path : Option (List ℕ)) (past : List Move) → old.scopes.now ≡ scopes → old.block.now ≡ block
    → (IsScopesOf old.scopes.now past → IsPathFound (text_of (value_of_name old.block.now past) text) path) → IsScopesOf scopes past → IsPathFound (text_of (value_of_name block past) text) path
found_kept old scopes block text path past same_scopes same_block found at =
    subst (λ (now : Block). IsPathFound (text_of (value_of_name now past) text) path) same_block
    (found (subst (λ (now : Scopes). IsScopesOf now past) (sym same_scopes) at))

-- one more path, where none is noted
pub paths_found : (value : List ℕ → List ℕ) (texts : List Fragments) (text : Fragments) (paths : List (List ℕ)) (found : Option (List ℕ)) (path : List ℕ)
    → found ≡ Some path → ArePaths value texts paths → IsPathFound (text_of value text) found → ArePaths value (texts ++ text ∷ []) (paths ++ path ∷ [])
paths_found value texts text paths found path is all here =
    paths_push value texts text paths path all (subst (λ (option : Option (List ℕ)). IsPathFound (text_of value text) option) is here)
