-- What was declared by files as they stood at some moments, where those are among others.
use Rattle.std.proofs.Common.{◌≡◌, ℕ, zero, suc, ◌<◌, Bool, true, false, List, [], ◌∷◌, ◌++◌, length, Option, Some, None, Result, Ok, Err, IsUtf8, append_assoc, ◌∙◌, ap}
use Rattle.std.specs.Option.{option_map}
use Rattle.model.specs.declared.event.Moment.{Moment}
use Rattle.model.specs.declared.graph.BuildGraph.{BuildGraph}
use Rattle.manifest.specs.declared.fault.FileFault.{FileFault}
use Rattle.lexer.specs.Lines.{IsRead}
use Rattle.lexer.specs.declared.fault.FaultKind.TheVariants.{TooLarge}
use Rattle.lexer.specs.Said.{Fragments, Form}
use Rattle.lexer.specs.Said.Form.{binding, block_binding, rule, build, pool, defaults, includes, subninja}
use Rattle.scopes.specs.Moves.{Enter, Leave}
use Rattle.manifest.specs.declared.fault.FaultKind.TheVariants.{Line, NotUtf8}
use Rattle.manifest.specs.declared.fault.ReadError.{ReadError}
use Rattle.manifest.specs.declared.fault.ReadError.TheVariants.{Memory, Site, Refused}
use Rattle.manifest.specs.Readings.{Outcome, Give, Unless, Then, Where, Place, fault_at}
use Rattle.manifest.specs.Readings.Outcome.{Reached, Broken}
use Rattle.manifest.specs.Readings.Unless.{refused, in_order}
use Rattle.manifest.specs.Readings.Then.{goes_on, stops}
use Rattle.manifest.specs.Readings.Where.{with_value}
use Rattle.manifest.specs.States.{State, nothing, with_move}
use Rattle.manifest.specs.Blocks.{BlockLine, Group, groups_of}
use Rattle.manifest.specs.Files.{Holds, Inner, Found, NameOf, FoundIn, OpenOf, OfFile, InScope, OfForm, OfGroups, Lexed, OfText, OfBytes, None_deeper, Reads, place_of, if_last, largest_file, first_line, fault_in, deepest}
use Rattle.manifest.specs.Graphs.{AtEnd, OfMain, Declares}
use Rattle.manifest.specs.Answer.{held, ReadsFile}

-- ---- the parts of a reading

then_wider : {X Y : Type 0} (First Other : Outcome X → Type 0) (Next Then_on : X → Outcome Y → Type 0)
    → ((outcome : Outcome X) → First outcome → Other outcome) → ((value : X) (outcome : Outcome Y) → Next value outcome → Then_on value outcome)
    → (outcome : Outcome Y) → Then First Next outcome → Then Other Then_on outcome
then_wider First Other Next Then_on first next outcome (goes_on {value = value} is after) = goes_on (first _ is) (next value outcome after)
then_wider First Other Next Then_on first next outcome (stops is) = stops (first _ is)

where_wider : {X Y : Type 0} (Fits Other : X → Type 0) (Next Then_on : X → Outcome Y → Type 0)
    → ((value : X) → Fits value → Other value) → ((value : X) (outcome : Outcome Y) → Next value outcome → Then_on value outcome)
    → (outcome : Outcome Y) → Where Fits Next outcome → Where Other Then_on outcome
where_wider Fits Other Next Then_on fits next outcome (with_value {value = value} is after) = with_value (fits value is) (next value outcome after)

unless_wider : {X : Type 0} (bad : Type 0) (fault : FileFault) (Next Then_on : Outcome X → Type 0)
    → ((outcome : Outcome X) → Next outcome → Then_on outcome) → (outcome : Outcome X) → Unless bad fault Next outcome → Unless bad fault Then_on outcome
unless_wider bad fault Next Then_on next outcome (refused is) = refused is
unless_wider bad fault Next Then_on next outcome (in_order good after) = in_order good (next outcome after)

-- ---- files

module _ (holds others : Holds) (wider : (name : List ℕ) (content : Option (List ℕ)) → holds name content → others name content) where
  open_wider : (place : Place) (too_deep : Bool) (path : Fragments) (state : State) (outcome : Outcome Found)
      → OpenOf place holds too_deep path state outcome → OpenOf place others too_deep path state outcome
  open_wider place too_deep path state = then_wider (NameOf place path state) (NameOf place path state)
      (λ name. Where (holds name) (λ content. FoundIn place too_deep name content)) (λ name. Where (others name) (λ content. FoundIn place too_deep name content))
      (λ outcome is. is)
      (λ name. where_wider (holds name) (others name) (λ content. FoundIn place too_deep name content) (λ content. FoundIn place too_deep name content) (wider name) (λ content outcome is. is))

  module _ (too_deep : Bool) (inner below : Inner)
      (inner_wider : (file bytes : List ℕ) (state : State) (outcome : Outcome State) → inner file bytes state outcome → below file bytes state outcome) where
    file_wider : (place : Place) (path : Fragments) (state : State) (outcome : Outcome State)
        → OfFile place holds too_deep inner path state outcome → OfFile place others too_deep below path state outcome
    file_wider place path state = then_wider (OpenOf place holds too_deep path state) (OpenOf place others too_deep path state)
        (λ file. inner file.name file.bytes state) (λ file. below file.name file.bytes state)
        (open_wider place too_deep path state) (λ file. inner_wider file.name file.bytes state)

    scope_wider : (file bytes : List ℕ) (state : State) (outcome : Outcome State) → InScope inner file bytes state outcome → InScope below file bytes state outcome
    scope_wider file bytes state = then_wider (inner file bytes (with_move Enter state)) (below file bytes (with_move Enter state))
        (λ after. Give (with_move Leave after)) (λ after. Give (with_move Leave after)) (inner_wider file bytes (with_move Enter state)) (λ after outcome is. is)

  module _ (too_deep : Bool) (inner below : Inner)
      (inner_wider : (file bytes : List ℕ) (state : State) (outcome : Outcome State) → inner file bytes state outcome → below file bytes state outcome) where
    form_wider : (place : Place) (form : Form) (block : List BlockLine) (behind : Option FileFault) (state : State) (outcome : Outcome State)
        → OfForm holds too_deep inner place form block behind state outcome → OfForm others too_deep below place form block behind state outcome
    form_wider place (binding name value) block behind state outcome is = is
    form_wider place (block_binding name value) block behind state outcome is = is
    form_wider place (rule name) block behind state outcome is = is
    form_wider place (build form) block behind state outcome is = is
    form_wider place (pool name) block behind state outcome is = is
    form_wider place (defaults paths) block behind state outcome is = is
    form_wider place (includes path) block behind state outcome is = file_wider too_deep inner below inner_wider place path state outcome is
    form_wider place (subninja path) block behind state outcome is =
        file_wider too_deep (InScope inner) (InScope below) (scope_wider too_deep inner below inner_wider) place path state outcome is

    groups_wider : (file : List ℕ) (fault : Option FileFault) (groups : List Group) (state : State) (outcome : Outcome State)
        → OfGroups holds too_deep inner file fault groups state outcome → OfGroups others too_deep below file fault groups state outcome
    groups_wider file fault [] state outcome is = is
    groups_wider file fault (group ∷ groups) state outcome is =
        then_wider (OfForm holds too_deep inner (place_of file group) group.head.form group.block (if_last groups fault) state)
        (OfForm others too_deep below (place_of file group) group.head.form group.block (if_last groups fault) state)
        (OfGroups holds too_deep inner file fault groups) (OfGroups others too_deep below file fault groups)
        (form_wider (place_of file group) group.head.form group.block (if_last groups fault) state) (groups_wider file fault groups) outcome is

    text_wider : (file text : List ℕ) (state : State) (outcome : Outcome State) → OfText holds too_deep inner file text state outcome → OfText others too_deep below file text state outcome
    text_wider file text state = where_wider (λ (lexed : Lexed). IsRead text lexed.said lexed.fault) (λ (lexed : Lexed). IsRead text lexed.said lexed.fault)
        (λ lexed. OfGroups holds too_deep inner file (option_map (fault_in file) lexed.fault) (groups_of lexed.said) state)
        (λ lexed. OfGroups others too_deep below file (option_map (fault_in file) lexed.fault) (groups_of lexed.said) state)
        (λ lexed is. is) (λ lexed. groups_wider file (option_map (fault_in file) lexed.fault) (groups_of lexed.said) state)

    bytes_wider : (file bytes : List ℕ) (state : State) (outcome : Outcome State) → OfBytes holds too_deep inner file bytes state outcome → OfBytes others too_deep below file bytes state outcome
    bytes_wider file bytes state = unless_wider (largest_file < length bytes) (fault_at (first_line file) (Line TooLarge))
        (Unless (¬ IsUtf8 bytes) (fault_at (first_line file) NotUtf8) (OfText holds too_deep inner file bytes state))
        (Unless (¬ IsUtf8 bytes) (fault_at (first_line file) NotUtf8) (OfText others too_deep below file bytes state))
        (unless_wider (¬ IsUtf8 bytes) (fault_at (first_line file) NotUtf8) (OfText holds too_deep inner file bytes state) (OfText others too_deep below file bytes state)
        (text_wider file bytes state))

  reads_wider : (levels : ℕ) (file bytes : List ℕ) (state : State) (outcome : Outcome State) → Reads holds levels file bytes state outcome → Reads others levels file bytes state outcome
  reads_wider zero = bytes_wider true None_deeper None_deeper (λ file bytes state outcome is. is)
  reads_wider (suc levels) = bytes_wider false (Reads holds levels) (Reads others levels) (reads_wider levels)

  main_wider : (name : List ℕ) (content : Option (List ℕ)) (outcome : Outcome BuildGraph) → OfMain holds name content outcome → OfMain others name content outcome
  main_wider name None outcome is = is
  main_wider name (Some bytes) outcome is = then_wider (Reads holds deepest name bytes nothing) (Reads others deepest name bytes nothing) AtEnd AtEnd
      (reads_wider deepest name bytes nothing) (λ state outcome is. is) outcome is

  pub declares_wider : (name : List ℕ) (outcome : Outcome BuildGraph) → Declares holds name outcome → Declares others name outcome
  declares_wider name outcome is = record { reading = where_wider (holds name) (others name) (OfMain holds name) (OfMain others name) (wider name) (main_wider name) outcome is.reading }

-- ---- moments

-- what a file held at some moment, it held at some moment of a longer time
held_longer : (old mid new later : List Moment) → new ≡ mid ++ later → (name : List ℕ) (content : Option (List ℕ)) → held old mid name content → held old new name content
held_longer old mid new later grows name content seen = record {
  earlier = seen.earlier;
  later = seen.later ++ later;
  grows = grows ∙ (ap (λ (l : List Moment). l ++ later) seen.grows
      ∙ (append_assoc old (seen.earlier ++ seen.later) later ∙ ap (λ (l : List Moment). old ++ l) (append_assoc seen.earlier seen.later later)));
  is = seen.is;
}

-- what build files declared during a call, they declared during a longer one
pub reads_longer : (name : List ℕ) (old mid new later : List Moment) (result : Result BuildGraph ReadError) → new ≡ mid ++ later → ReadsFile name old mid result → ReadsFile name old new result
reads_longer name old mid new later (Ok graph) grows is = declares_wider (held old mid) (held old new) (held_longer old mid new later grows) name (Reached graph) is
reads_longer name old mid new later (Err Memory) grows is = tt
reads_longer name old mid new later (Err (Site fault)) grows is = tt
reads_longer name old mid new later (Err (Refused fault)) grows is = declares_wider (held old mid) (held old new) (held_longer old mid new later grows) name (Broken fault) is
