-- Each text has statements, and a fault behind them or none.
use Rattle.std.proofs.Common.{◌≡◌, ℕ, zero, suc, ◌+◌, ◌<◌, Bool, true, false, List, [], ◌∷◌, length, Option, Some, None, inl, inr, refl, sym, ◌∙◌, arith}
use Rattle.std.specs.Prelude.{nat_le, option_map}
use Rattle.std.specs.List.{flat_map}
use Rattle.std.specs.Option.{option_to_list}
use Rattle.std.proofs.lemmas.Bool.Decides.{nat_tests}
use Rattle.lexer.specs.declared.cursor.TheConstants.{LIMIT}
use Rattle.lexer.specs.declared.fault.Fault.{Fault}
use Rattle.lexer.specs.Grammar.{Outcome, AreInRow}
use Rattle.lexer.specs.Grammar.Outcome.{Reached, Broken}
use Rattle.lexer.specs.Places.{line_feeds}
use Rattle.lexer.specs.Said.{Form, Said}
use Rattle.lexer.specs.Lines.{Place, first_place, OfLine, IsLine, IsStop, IsRead, inside_behind, too_large}
use Rattle.dyndep_law.proofs.Answered.{Ends, place_of, Under}
use Rattle.dyndep_law.proofs.Grammars.{line_answered}

-- the lines from a place on
record Lines (place : Place) : Type 0 where
  all : List (Option Said)
  stop : Place
  fault : Option Fault
  row : AreInRow IsLine all place stop
  stops : IsStop fault stop

no_lines : (place : Place) → place.text ≡ [] → Lines place
no_lines place none = record { all = []; stop = place; fault = None; row = refl; stops = none }

module _ (place : Place) (b : ℕ) (bytes : List ℕ) (is : place.text ≡ b ∷ bytes) where
  begins : place.text ≡ [] → ⊥
  begins none = let clash : b ∷ bytes ≡ [] = sym is ∙ none in cc

  faulty_line : (outcome : Outcome (Option Form)) → OfLine place.inside place.text outcome → Ends place.text (place_of outcome) → Under (length place.text) outcome → ((next : Place) → length next.text < length place.text → Lines next) → Lines place
  faulty_line (Broken kind rest) reads ends under others = record {
    all = [];
    stop = place;
    fault = Some (record { line = place.number + line_feeds ends.taken; kind = kind });
    row = refl;
    stops = record { taken = ends.taken; rest = rest; begins = begins; spelled = ends.spelled; reads = reads; line_is = refl };
  }
  faulty_line (Reached form rest) reads ends under others =
      let next : Place = record { number = place.number + line_feeds ends.taken; inside = inside_behind place.inside form; text = rest } in
      let more = others next under in
      let said : Option Said = option_map (λ x. record { number = place.number; form = x }) form in
      let line : IsLine said place next = record { taken = ends.taken; form = form; begins = begins; spelled = ends.spelled; reads = reads; said_is = refl; number_is = refl; inside_is = refl } in
      record { all = said ∷ more.all; stop = more.stop; fault = more.fault; row = (next, line, more.row); stops = more.stops }

lines_up_to : (fuel : ℕ) (place : Place) → length place.text < fuel → Lines place
lines_up_to zero place lt = absurd (omega (arith, lt))
lines_up_to (suc fuel) place lt = by place.text refl (λ next less. lines_up_to fuel next (omega (arith, lt, less)))
  where
    by : (text : List ℕ) → place.text ≡ text → ((next : Place) → length next.text < length place.text → Lines next) → Lines place
    by [] is others = no_lines place is
    by (b ∷ bytes) is others =
        let some : 0 < length place.text = rw is (omega arith) in
        let line = line_answered place.inside place.text some in
        faulty_line place b bytes is line.outcome line.reads line.ends line.under others

-- what a text says
pub record Told (text : List ℕ) : Type 0 where
  pub said : List Said
  pub fault : Option Fault
  pub read : IsRead text said fault

pub told : (text : List ℕ) → Told text
told text = by (nat_le (length text) LIMIT) refl
  where
    by : (within : Bool) → nat_le (length text) LIMIT ≡ within → Told text
    by true within =
        let lines = lines_up_to (suc (length text)) (first_place text) (omega arith) in
        record { said = flat_map option_to_list lines.all; fault = lines.fault; read = inl (grind (arith, nat_tests, within), record { all = lines.all; stop = lines.stop; row = lines.row; stops = lines.stops; said_is = refl }) }
    by false within = record { said = []; fault = too_large; read = inr (grind (arith, nat_tests, within), refl, refl) }
