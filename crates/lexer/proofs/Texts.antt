-- The lines that were read so far.
use Rattle.std.proofs.Common.{◌≡◌, ◌≢◌, ℕ, List, [], ◌∷◌, ◌++◌, Bool, map, Option, Some, None, option_map, refl, sym, ap, ◌∙◌, append-nil}
use Rattle.std.specs.List.{flat_map}
use Rattle.std.specs.Option.{option_to_list}
use Rattle.std.proofs.lemmas.Grind.{flat_map-append}
use Rattle.std.proofs.lemmas.List.{map-append}
use Rattle.lexer.specs.declared.cursor.Cursor.{Cursor}
use Rattle.lexer.specs.declared.statement.Line.{Line}
use Rattle.lexer.specs.declared.statement.Statement.{Statement}
use Rattle.lexer.specs.Grammar.{AreInRow}
use Rattle.lexer.specs.Grammar.Outcome.{Reached}
use Rattle.lexer.specs.Places.{IsBehind}
use Rattle.lexer.specs.Said.{Said, form_of, said_of}
use Rattle.lexer.specs.Lines.{OfLine, inside_behind, Place, first_place, IsLine}
use Rattle.lexer.proofs.Reading.{row_more}

abbrev pub place_of : Cursor → Bool → Place
place_of at inside = record { number = at.line; inside = inside; text = at.rest.now }

-- what is said, up to this place
pub record AreSaid (text : List ℕ) (lines : List Line) (at : Cursor) (inside : Bool) : Type 0 where
  pub all : List (Option Said)
  pub row : AreInRow IsLine all (first_place text) (place_of at inside)
  pub stands : map said_of lines ≡ flat_map option_to_list all

-- what the line here says
abbrev said_here : ℕ → Option Statement → Option Said
said_here number found = option_map (λ form. record { number = number; form = form }) (option_map form_of found)

all_more : (all : List (Option Said)) (said : Option Said) → flat_map option_to_list (all ++ said ∷ []) ≡ flat_map option_to_list all ++ option_to_list said
all_more all None = flat_map-append option_to_list all (None ∷ [])
all_more all (Some said) = flat_map-append option_to_list all (Some said ∷ [])

more : (text : List ℕ) (lines added : List Line) (at after : Cursor) (inside next : Bool) (found : Option Statement) → AreSaid text lines at inside → at.rest.now ≢ [] → OfLine inside at.rest.now (Reached (option_map form_of found) after.rest.now) → IsBehind at after → next ≡ inside_behind inside (option_map form_of found) → map said_of added ≡ option_to_list (said_here at.line found) → AreSaid text (lines ++ added) after next
more text lines added at after inside next found so_far begins reads behind opened says = record {
  all = so_far.all ++ said_here at.line found ∷ [];
  row = row_more IsLine so_far.all (said_here at.line found) (first_place text) (place_of at inside) (place_of after next) so_far.row (record {
    taken = behind.taken;
    form = option_map form_of found;
    begins = begins;
    spelled = behind.spelled;
    reads = reads;
    said_is = refl;
    number_is = behind.line_is;
    inside_is = opened;
  });
  stands = map-append said_of lines added ∙ (ap (λ (xs : List Said). xs ++ map said_of added) so_far.stands ∙ (ap (λ (xs : List Said). flat_map option_to_list so_far.all ++ xs) says ∙ sym (all_more so_far.all (said_here at.line found))));
}

-- a line that says nothing
pub said_nothing : (text : List ℕ) (lines : List Line) (at after : Cursor) (inside : Bool) → AreSaid text lines at inside → at.rest.now ≢ [] → OfLine inside at.rest.now (Reached None after.rest.now) → IsBehind at after → AreSaid text lines after inside
said_nothing text lines at after inside so_far begins reads behind = rw (← append-nil lines) (more text lines [] at after inside inside None so_far begins reads behind refl refl)

-- a line with a statement
pub said_more : (text : List ℕ) (lines : List Line) (at after : Cursor) (inside next : Bool) (statement : Statement) → AreSaid text lines at inside → at.rest.now ≢ [] → OfLine inside at.rest.now (Reached (Some (form_of statement)) after.rest.now) → IsBehind at after → next ≡ inside_behind inside (Some (form_of statement)) → AreSaid text (lines ++ record { number = at.line; statement = statement } ∷ []) after next
said_more text lines at after inside next statement so_far begins reads behind opened =
    more text lines (record { number = at.line; statement = statement } ∷ []) at after inside next (Some statement) so_far begins reads behind opened refl
