-- Pieces one behind another.
use Rattle.std.proofs.Common.{◌≡◌, ℕ, true, false, not, List, [], ◌∷◌, ◌++◌, map, length, Option, Some, None, ap, sym, refl, ◌∙◌, append-nil, ◌<◌, ◌⊎◌, inl, inr}
use Rattle.std.specs.Prelude.{◌==◌, option_map}
use Rattle.std.specs.Option.{option_to_list}
use Rattle.std.proofs.lemmas.Grind.{flat_map-append}
use Rattle.std.proofs.lemmas.List.{map-append}
use Rattle.lexer.specs.declared.characters.Class.{Class}
use Rattle.lexer.specs.declared.statement.Piece.{Piece}
use Rattle.lexer.specs.declared.statement.Value.{Value}
use Rattle.lexer.specs.Characters.{run_of, behind_run}
use Rattle.lexer.specs.Grammar.{Outcome, Is, AreInRow, IsItem}
use Rattle.lexer.specs.Grammar.Outcome.{Reached}
use Rattle.lexer.specs.Said.{Fragment, Fragments, fragment_of, fragments_of, paths_of}
use Rattle.lexer.specs.Tokens.{behind, escape, unexpected, piece_of, piece, ends, begins_path}
use Rattle.lexer.specs.Values.{joined, PathAndBlanks, ends_paths}
use Rattle.lexer.proofs.Places.{empty_run}
use Rattle.lexer.proofs.Reading.{row_more}

-- ---- one piece

piece_of_none : (bytes rest : List ℕ) (dollar : Option (List ℕ)) (o : Outcome (Option Fragment)) → piece_of bytes [] rest dollar ≡ o → (run : List ℕ) → run ≡ [] → piece_of bytes run rest dollar ≡ o
piece_of_none bytes rest dollar o e run none = rw none e

pub piece_escape : (class : Class) (bytes run more : List ℕ) (o : Outcome (Option Fragment)) → run ≡ run_of class bytes → (length run == 0) ≡ true → Some more ≡ behind 36 bytes → escape bytes more ≡ o → piece class bytes ≡ o
piece_escape class bytes run more o is_run none dollar e =
    let e' : piece_of bytes [] (behind_run class bytes) (behind 36 bytes) ≡ o = ap (λ (d : Option (List ℕ)). piece_of bytes [] (behind_run class bytes) d) (sym dollar) ∙ e in
    piece_of_none bytes (behind_run class bytes) (behind 36 bytes) o e' (run_of class bytes) (sym is_run ∙ empty_run run none)

pub piece_unexpected : (class : Class) (bytes run : List ℕ) → run ≡ run_of class bytes → (length run == 0) ≡ true → None ≡ behind 36 bytes → piece class bytes ≡ unexpected bytes
piece_unexpected class bytes run is_run none dollar =
    let e : piece_of bytes [] (behind_run class bytes) (behind 36 bytes) ≡ unexpected bytes = ap (λ (d : Option (List ℕ)). piece_of bytes [] (behind_run class bytes) d) (sym dollar) in
    piece_of_none bytes (behind_run class bytes) (behind 36 bytes) (unexpected bytes) e (run_of class bytes) (sym is_run ∙ empty_run run none)

-- ---- rows of pieces

joined_more : (all : List (Option Fragment)) (found : Option Piece) → joined (all ++ option_map fragment_of found ∷ []) ≡ joined all ++ map fragment_of (option_to_list found)
joined_more all None = flat_map-append option_to_list all (None ∷ [])
joined_more all (Some p) = flat_map-append option_to_list all (Some (fragment_of p) ∷ [])

-- the row so far, and what it stands for
pub record AreRead (class : Class) (done : List Piece) (start at : List ℕ) : Type 0 where
  pub all : List (Option Fragment)
  pub row : AreInRow (IsItem (Is (piece class)) (ends class)) all start at
  pub stands : map fragment_of done ≡ joined all

pub read_none : (class : Class) (start : List ℕ) → AreRead class [] start start
read_none class start = record { all = []; row = refl; stands = refl }

pub read_more : (class : Class) (done : List Piece) (found : Option Piece) (start at after : List ℕ) → AreRead class done start at → ends class at ≡ false → Reached (option_map fragment_of found) after ≡ piece class at → AreRead class (done ++ option_to_list found) start after
read_more class done found start at after so_far open_end reads = record {
  all = so_far.all ++ option_map fragment_of found ∷ [];
  row = row_more (IsItem (Is (piece class)) (ends class)) so_far.all (option_map fragment_of found) start at after so_far.row (open_end, reads);
  stands = map-append fragment_of done (option_to_list found) ∙ (ap (λ (xs : Fragments). xs ++ map fragment_of (option_to_list found)) so_far.stands ∙ sym (joined_more so_far.all found));
}

pub read_nothing : (class : Class) (done : List Piece) (start at after : List ℕ) → AreRead class done start at → ends class at ≡ false → Reached None after ≡ piece class at → AreRead class done start after
read_nothing class done start at after so_far open_end reads = rw (← append-nil done) (read_more class done None start at after so_far open_end reads)

-- where it ends, something was read
pub must_be_shorter : (class : Class) (start at : List ℕ) → (at ≡ start) ⊎ (length at < length start) → ends class at ≡ true → ends class start ≡ false → length at < length start
must_be_shorter class start at (inl same) ended open_end = let clash : true ≡ false = sym ended ∙ (ap (ends class) same ∙ open_end) in absurd (cc)
must_be_shorter class start at (inr less) ended open_end = less

-- ---- paths

pub paths_more : (paths : List Value) (path : Value) (start at after : List ℕ) → AreInRow (IsItem PathAndBlanks ends_paths) (paths_of paths) start at → begins_path at ≡ true → PathAndBlanks at (Reached (fragments_of path) after) → AreInRow (IsItem PathAndBlanks ends_paths) (paths_of (paths ++ path ∷ [])) start after
paths_more paths path start at after row begins reads =
    rw (map-append fragments_of paths (path ∷ [])) (row_more (IsItem PathAndBlanks ends_paths) (paths_of paths) (fragments_of path) start at after row (ap not begins, reads))
