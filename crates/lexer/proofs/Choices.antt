-- Where one of two readings is taken.
use Rattle.std.proofs.Common.{◌≡◌, ℕ, Bool, true, false, List, ◌++◌, ap, sym, arith, ◌∙◌, append_assoc, subst}
use Rattle.lexer.specs.declared.cursor.Cursor.{Cursor}
use Rattle.lexer.specs.declared.stop.Stop.{Stop}
use Rattle.lexer.specs.declared.stop.Stop.TheVariants.{Memory, Found}
use Rattle.lexer.specs.Grammar.{Outcome, Is, Either}
use Rattle.lexer.specs.Grammar.Outcome.{Broken}
use Rattle.lexer.specs.Places.{IsBehind, Breaks}
use Rattle.lexer.specs.Said.{Fragments}
use Rattle.lexer.specs.Tokens.{newline, begins_path}
use Rattle.lexer.specs.Values.{OfPath}
use Rattle.lexer.specs.Statements.{missing_path, SomePath}
use Rattle.lexer.proofs.Places.{line_feeds-append, behind_none}

-- what is stuck further on is stuck here, where the one reading is a part of the other
pub breaks_from : {X : Type 0} (One Two : List ℕ → Outcome X → Type 0) (a b : Cursor) (stop : Stop) → IsBehind a b → ((outcome : Outcome X) → One b.rest.now outcome → Two a.rest.now outcome) → Breaks One b stop → Breaks Two a stop
breaks_from One Two a b Memory behind same stops = tt
breaks_from One Two a b (Found fault) behind same stops = record {
  taken = behind.taken ++ stops.taken;
  rest = stops.rest;
  spelled = behind.spelled ∙ (ap (λ (rest : List ℕ). behind.taken ++ rest) stops.spelled ∙ sym (append_assoc behind.taken stops.taken stops.rest));
  reads = same (Broken fault.kind stops.rest) stops.reads;
  line_is = let feeds = line_feeds-append behind.taken stops.taken in let x = behind.line_is in let y = stops.line_is in omega arith;
}

pub breaks_as : {X : Type 0} (One Two : List ℕ → Outcome X → Type 0) (a : Cursor) (stop : Stop) → ((outcome : Outcome X) → One a.rest.now outcome → Two a.rest.now outcome) → Breaks One a stop → Breaks Two a stop
breaks_as One Two a stop same stops = breaks_from One Two a a stop (behind_none a) same stops

-- ---- which of two

pub either_first : {X : Type 0} (test : Bool) (First Second : List ℕ → Outcome X → Type 0) (bytes : List ℕ) (outcome : Outcome X) → test ≡ true → First bytes outcome → Either test First Second bytes outcome
either_first test First Second bytes outcome e reads = subst (λ (t : Bool). Either t First Second bytes outcome) (sym e) reads

pub either_second : {X : Type 0} (test : Bool) (First Second : List ℕ → Outcome X → Type 0) (bytes : List ℕ) (outcome : Outcome X) → test ≡ false → Second bytes outcome → Either test First Second bytes outcome
either_second test First Second bytes outcome e reads = subst (λ (t : Bool). Either t First Second bytes outcome) (sym e) reads

pub some_path_begins : (bytes : List ℕ) (outcome : Outcome Fragments) → begins_path bytes ≡ true → OfPath bytes outcome → SomePath bytes outcome
some_path_begins bytes outcome e reads = either_first (begins_path bytes) OfPath (Is (λ place. missing_path place (newline place))) bytes outcome e reads

-- ---- marks
