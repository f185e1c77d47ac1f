-- Files, and the files that they read.
use Rattle.std.proofs.Common.{◌≡◌, ℕ, zero, suc, ◌-◌, ◌≤◌, ◌<◌, vec_len, Bool, true, false, List, [], ◌∷◌, map, length, Option, None, Some, Result, Ok, Err, OnOk, IsErrAnd, IsUtf8, refl, sym, ◌∙◌, ap, subst, arith}
use Rattle.std.specs.List.{AllByRecursion}
use Rattle.lexer.specs.declared.fault.Fault.{Fault}
use Rattle.lexer.specs.declared.fault.FaultKind.TheVariants.{TooLarge, EmptyPath}
use Rattle.lexer.specs.declared.statement.Line.{Line}
use Rattle.lexer.specs.declared.statement.Statement.{Statement}
use Rattle.lexer.specs.declared.statement.Statement.TheVariants.{Binding, BlockBinding, Rule, Build, Pool, Default, Include, Subninja}
use Rattle.lexer.specs.declared.statement.Value.{Value}
use Rattle.lexer.specs.Lines.{IsRead}
use Rattle.lexer.specs.Path.{IsCanonical}
use Rattle.lexer.specs.Said.{Fragments, said_of, form_of}
use Rattle.scopes.specs.declared.all_scopes.Scopes.{Scopes}
use Rattle.scopes.specs.Moves.{Move, Enter, Leave}
use Rattle.scopes.specs.Scopes.{IsScopesOf}
use Rattle.manifest.specs.declared.fault.FaultKind.TheVariants.{Line as LineKind, NotUtf8, NotFound, TooDeep}
use Rattle.manifest.specs.declared.fault.FileFault.{FileFault}
use Rattle.manifest.specs.declared.fault.ReadError.{ReadError}
use Rattle.manifest.specs.declared.fault.ReadError.TheVariants.{Memory, Site, Refused}
use Rattle.manifest.specs.declared.kept.Declared.{Declared}
use Rattle.manifest.specs.declared.kept.ReadEdge.{ReadEdge}
use Rattle.manifest.specs.declared.reader.Opened.{Opened}
use Rattle.manifest.specs.Readings.{Outcome, Give, Unless, Where, Place, fault_at}
use Rattle.manifest.specs.Readings.Outcome.{Reached, Broken}
use Rattle.manifest.specs.Readings.Unless.{refused, in_order}
use Rattle.manifest.specs.Readings.Then.{goes_on, stops}
use Rattle.manifest.specs.Readings.Where.{with_value}
use Rattle.manifest.specs.States.{State, with_move}
use Rattle.manifest.specs.Expansion.{text_at, is_large, is_empty}
use Rattle.manifest.specs.Blocks.{BlockLine}
use Rattle.manifest.specs.Files.{Holds, Inner, Found, FoundIn, NameOf, OpenOf, OfFile, InScope, OfForm, OfDeclaration, OfText, OfBytes, Reads, first_line, largest_file, too_deep_at, inner_at}
use Rattle.manifest.specs.Answer.{IsFaultOf, IsFaultSeen}
use Rattle.manifest.specs.Held.{IsStateOf, Says, IsFormed, IsInScope}
use Rattle.manifest.specs.Made.{HaveOutputs}
use Rattle.manifest.specs.Places.{IsFaultAt}
use Rattle.manifest.specs.Seen.{SaysSeen, IsStated, LinesSay, FindsFile}
use Rattle.manifest.proofs.Binds.{unless_at, unless_fault, then_fault, refuse_at}
use Rattle.manifest.proofs.Outputs.{have_outputs}
use Rattle.manifest.proofs.ReadTo.{seen_fault, seen_fault_wider, seen_wider, seen_says, seen_on}

-- ---- the bytes of a file

reads_bytes : (holds : Holds) (levels : ℕ) (file bytes : List ℕ) (state : State) (outcome : Outcome State)
    → OfBytes holds (too_deep_at levels) (inner_at holds levels) file bytes state outcome → Reads holds levels file bytes state outcome
reads_bytes holds zero file bytes state outcome is = is
reads_bytes holds (suc levels) file bytes state outcome is = is

module _ (holds : Holds) (levels : ℕ) (file bytes : List ℕ) (state : State) where
  abbrev Utf8 : Outcome State → Type 0
  Utf8 = Unless (¬ IsUtf8 bytes) (fault_at (first_line file) NotUtf8) (OfText holds (too_deep_at levels) (inner_at holds levels) file bytes state)

  whole : (error : ReadError) → IsFaultOf (OfBytes holds (too_deep_at levels) (inner_at holds levels) file bytes state) error → IsFaultSeen (Reads holds levels file bytes state) error
  whole error is =
      seen_fault_wider (OfBytes holds (too_deep_at levels) (inner_at holds levels) file bytes state) (Reads holds levels file bytes state) error
      (λ fault. reads_bytes holds levels file bytes state (Broken fault)) (seen_fault (OfBytes holds (too_deep_at levels) (inner_at holds levels) file bytes state) error is)

  pub bytes_large : (error : ReadError) → largest_file < length bytes → IsFaultAt (first_line file) (LineKind TooLarge) error → IsFaultSeen (Reads holds levels file bytes state) error
  bytes_large error large is = whole error (unless_at (largest_file < length bytes) Utf8 (first_line file) (LineKind TooLarge) error large is)

  pub bytes_unread : (error : ReadError) → length bytes ≤ largest_file → ¬ IsUtf8 bytes → IsFaultAt (first_line file) NotUtf8 error → IsFaultSeen (Reads holds levels file bytes state) error
  bytes_unread error small bad is =
      whole error (unless_fault (largest_file < length bytes) (fault_at (first_line file) (LineKind TooLarge)) Utf8 error (λ large. omega (arith, large, small))
      (unless_at (¬ IsUtf8 bytes) (OfText holds (too_deep_at levels) (inner_at holds levels) file bytes state) (first_line file) NotUtf8 error bad is))

  bytes_reading : (text : List ℕ) (lines slice : List Line) (fault : Option Fault)
      → length bytes ≤ largest_file → IsUtf8 bytes → text ≡ bytes → IsRead text (map said_of lines) fault → slice ≡ lines
      → (outcome : Outcome State) → LinesSay holds levels file fault slice state outcome → Reads holds levels file bytes state outcome
  bytes_reading text lines slice fault small utf8 same read all outcome is =
      reads_bytes holds levels file bytes state outcome
      (in_order (λ large. omega (arith, large, small)) (in_order (λ bad. bad utf8)
      (with_value {value = record { said = map said_of lines; fault = fault }} (subst (λ (t : List ℕ). IsRead t (map said_of lines) fault) same read)
      (subst (λ (l : List Line). LinesSay holds levels file fault l state outcome) all is))))

  pub bytes_say : (text : List ℕ) (lines slice : List Line) (fault : Option Fault) (r : Result (Unit {0}) ReadError) (after : Declared)
      → length bytes ≤ largest_file → IsUtf8 bytes → text ≡ bytes → IsRead text (map said_of lines) fault → slice ≡ lines
      → SaysSeen r after (LinesSay holds levels file fault slice state) → SaysSeen r after (Reads holds levels file bytes state)
  bytes_say text lines slice fault r after small utf8 same read all is =
      seen_wider (LinesSay holds levels file fault slice state) (Reads holds levels file bytes state) r after (bytes_reading text lines slice fault small utf8 same read all) is

pub bytes_formed : (text : List ℕ) (lines slice : List Line) (fault : Option Fault) (r : Result (Unit {0}) ReadError) (P : Type 0)
    → IsRead text (map said_of lines) fault → slice ≡ lines → OnOk r (HaveOutputs (map said_of slice) → P) → OnOk r P
bytes_formed text lines slice fault (Ok value) P read all is =
    is (subst (λ (l : List Line). HaveOutputs (map said_of l)) (sym all) (have_outputs text (map said_of lines) fault read))
bytes_formed text lines slice fault (Err error) P read all is = tt

-- ---- statements that read no file

pub of_declaration : (holds : Holds) (deep : Bool) (inner : Inner) (place : Place) (statement : Statement) (block : List BlockLine) (behind : Option FileFault) (state : State) (outcome : Outcome State)
    → ((path : Value) → statement ≡ Include path → ⊥) → ((path : Value) → statement ≡ Subninja path → ⊥)
    → OfDeclaration place (form_of statement) block behind state outcome → OfForm holds deep inner place (form_of statement) block behind state outcome
of_declaration holds deep inner place (Binding name value) block behind state outcome no_include no_subninja is = is
of_declaration holds deep inner place (BlockBinding name value) block behind state outcome no_include no_subninja is = is
of_declaration holds deep inner place (Rule name) block behind state outcome no_include no_subninja is = is
of_declaration holds deep inner place (Build build) block behind state outcome no_include no_subninja is = is
of_declaration holds deep inner place (Pool name) block behind state outcome no_include no_subninja is = is
of_declaration holds deep inner place (Default paths) block behind state outcome no_include no_subninja is = is
of_declaration holds deep inner place (Include path) block behind state outcome no_include no_subninja is = absurd (no_include path refl)
of_declaration holds deep inner place (Subninja path) block behind state outcome no_include no_subninja is = absurd (no_subninja path refl)

pub declaration_says : (holds : Holds) (deep : Bool) (inner : Inner) (place : Place) (statement : Statement) (block : List BlockLine) (behind : Option FileFault) (state : State) (r : Result (Unit {0}) ReadError) (after : Declared)
    → ((path : Value) → statement ≡ Include path → ⊥) → ((path : Value) → statement ≡ Subninja path → ⊥)
    → Says r after (OfDeclaration place (form_of statement) block behind state) → SaysSeen r after (OfForm holds deep inner place (form_of statement) block behind state)
declaration_says holds deep inner place statement block behind state r after no_include no_subninja is =
    seen_says (OfDeclaration place (form_of statement) block behind state) (OfForm holds deep inner place (form_of statement) block behind state) r after
    (λ outcome. of_declaration holds deep inner place statement block behind state outcome no_include no_subninja) is

pub says_at : (holds : Holds) (deep : Bool) (inner : Inner) (place : Place) (one other : Statement) (block : List BlockLine) (behind : Option FileFault) (state : State) (r : Result (Unit {0}) ReadError) (after : Declared)
    → one ≡ other → SaysSeen r after (OfForm holds deep inner place (form_of other) block behind state) → SaysSeen r after (OfForm holds deep inner place (form_of one) block behind state)
says_at holds deep inner place one other block behind state r after same is =
    subst (λ (s : Statement). SaysSeen r after (OfForm holds deep inner place (form_of s) block behind state)) (sym same) is

-- ---- files that are read

inner_below : (holds : Holds) (levels : ℕ) (name bytes slice : List ℕ) (state : State) (outcome : Outcome State)
    → 0 < levels → slice ≡ bytes → Reads holds (levels - 1) name slice state outcome → inner_at holds levels name bytes state outcome
inner_below holds zero name bytes slice state outcome deep same is = absurd (let never : ⊥ = omega (arith, deep) in never)
inner_below holds (suc levels) name bytes slice state outcome deep same is =
    let one_less : suc levels - 1 ≡ levels = omega arith in
    subst (λ (n : ℕ). Reads holds n name bytes state outcome) one_less (subst (λ (b : List ℕ). Reads holds (suc levels - 1) name b state outcome) same is)

module _ (place : Place) (holds : Holds) (levels : ℕ) (path : Fragments) (state : State) where
  -- no file is read
  pub file_unopened : (inner : Inner) (error : ReadError) (r : Result (Unit {0}) ReadError) (kept : Declared) → IsErrAnd r (λ (e : ReadError). e ≡ error)
      → IsFaultSeen (OpenOf place holds (too_deep_at levels) path state) error → SaysSeen r kept (OfFile place holds (too_deep_at levels) inner path state)
  file_unopened inner error r kept passed is =
      seen_on (OpenOf place holds (too_deep_at levels) path state) (OfFile place holds (too_deep_at levels) inner path state) error r kept (λ fault reading. stops reading) is passed

  module _ (name bytes slice : List ℕ) (same : slice ≡ bytes) (found : OpenOf place holds (too_deep_at levels) path state (Reached (record { name = name; bytes = bytes }))) (deep : 0 < levels) where
    pub file_says : (r : Result (Unit {0}) ReadError) (after : Declared) → SaysSeen r after (Reads holds (levels - 1) name slice state)
        → SaysSeen r after (OfFile place holds (too_deep_at levels) (inner_at holds levels) path state)
    file_says r after is =
        seen_wider (Reads holds (levels - 1) name slice state) (OfFile place holds (too_deep_at levels) (inner_at holds levels) path state) r after
        (λ outcome reading. goes_on found (inner_below holds levels name bytes slice state outcome deep same reading)) is

    -- in a scope of its own, where it is refused
    pub scope_fault : (error : ReadError) (r : Result (Unit {0}) ReadError) (kept : Declared) → IsErrAnd r (λ (e : ReadError). e ≡ error)
        → IsFaultSeen (Reads holds (levels - 1) name slice (with_move Enter state)) error
        → SaysSeen r kept (OfFile place holds (too_deep_at levels) (InScope (inner_at holds levels)) path state)
    scope_fault error r kept passed is =
        seen_on (Reads holds (levels - 1) name slice (with_move Enter state)) (OfFile place holds (too_deep_at levels) (InScope (inner_at holds levels)) path state) error r kept
        (λ fault reading. goes_on found (stops (inner_below holds levels name bytes slice (with_move Enter state) (Broken fault) deep same reading))) is passed

    pub scope_reading : (after : State) → Reads holds (levels - 1) name slice (with_move Enter state) (Reached after)
        → OfFile place holds (too_deep_at levels) (InScope (inner_at holds levels)) path state (Reached (with_move Leave after))
    scope_reading after reading = goes_on found (goes_on (inner_below holds levels name bytes slice (with_move Enter state) (Reached after) deep same reading) refl)

-- ---- scopes

-- the same, where only this was done to scopes
pub state_moved : (declared : Declared) (scopes : Scopes) (move : Move) (state : State) → IsStateOf declared state → IsScopesOf scopes (move ∷ state.past)
    → IsStateOf (record { scopes = scopes; edges = declared.edges; pools = declared.pools; defaults = declared.defaults; paths = declared.paths; room = declared.room }) (with_move move state)
state_moved declared scopes move state is moved = record { scopes = moved; edges = is.edges; pools = is.pools; defaults = is.defaults; paths = is.paths }

pub stated_moved : (declared : Declared) (scopes : Scopes) (move : Move) → ((past : List Move) → IsScopesOf declared.scopes past → IsScopesOf scopes (move ∷ past)) → IsStated declared
    → IsStated (record { scopes = scopes; edges = declared.edges; pools = declared.pools; defaults = declared.defaults; paths = declared.paths; room = declared.room })
stated_moved declared scopes move moved is = (with_move move is.0, state_moved declared scopes move is.0 is.1 (moved is.0.past is.1.scopes))

edges_in : (old new : Scopes) (edges : List ReadEdge) → vec_len old.scopes ≤ vec_len new.scopes
    → AllByRecursion (IsInScope old) edges → AllByRecursion (IsInScope new) edges
edges_in old new [] more all = tt
edges_in old new (edge ∷ edges) more all = let low : edge.scope < vec_len old.scopes = all.0 in (omega (arith, more, low), edges_in old new edges more all.1)

pub formed_entered : (declared : Declared) (scopes : Scopes) → ((past : List Move) → IsScopesOf declared.scopes past → IsScopesOf scopes (Enter ∷ past)) → IsFormed declared
    → IsFormed (record { scopes = scopes; edges = declared.edges; pools = declared.pools; defaults = declared.defaults; paths = declared.paths; room = declared.room })
formed_entered declared scopes moved is =
    let now = moved is.past is.scopes in
    record { past = Enter ∷ is.past; scopes = now; edges = edges_in declared.scopes scopes declared.edges.items (omega (arith, is.scopes.number, now.number)) is.edges; paths = is.paths }

pub formed_left : (declared : Declared) (scopes : Scopes) → ((past : List Move) → IsScopesOf declared.scopes past → IsScopesOf scopes (Leave ∷ past)) → IsFormed declared
    → IsFormed (record { scopes = scopes; edges = declared.edges; pools = declared.pools; defaults = declared.defaults; paths = declared.paths; room = declared.room })
formed_left declared scopes moved is =
    let now = moved is.past is.scopes in
    record { past = Leave ∷ is.past; scopes = now; edges = edges_in declared.scopes scopes declared.edges.items (omega (arith, is.scopes.number, now.number)) is.edges; paths = is.paths }

-- ---- the file that a path names

module _ (place : Place) (holds : Holds) (deep : Bool) (path : Fragments) (state : State) where
  -- it has no name
  pub open_unnamed : (error : ReadError) (r : Result Opened ReadError) → IsErrAnd r (λ (e : ReadError). e ≡ error) → IsFaultOf (NameOf place path state) error → FindsFile (OpenOf place holds deep path state) r
  open_unnamed error (Ok opened) passed is = absurd passed
  open_unnamed error (Err other) passed is =
      subst (IsFaultSeen (OpenOf place holds deep path state)) (sym passed)
      (seen_fault (OpenOf place holds deep path state) error (then_fault (NameOf place path state) (λ (name : List ℕ). Where (holds name) (λ (content : Option (List ℕ)). FoundIn place deep name content)) error is))

  module _ (name : List ℕ) (named : NameOf place path state (Reached name)) where
    found : (content : Option (List ℕ)) (outcome : Outcome Found) → holds name content → FoundIn place deep name content outcome → OpenOf place holds deep path state outcome
    found content outcome held is = goes_on named (with_value held is)

    refused_there : (content : Option (List ℕ)) (error : ReadError) → holds name content → IsFaultOf (FoundIn place deep name content) error → IsFaultSeen (OpenOf place holds deep path state) error
    refused_there content error held is =
        seen_fault_wider (FoundIn place deep name content) (OpenOf place holds deep path state) error (λ fault. found content (Broken fault) held) (seen_fault (FoundIn place deep name content) error is)

    pub open_absent : (error : ReadError) → holds name None → IsFaultAt place (NotFound name) error → IsFaultSeen (OpenOf place holds deep path state) error
    open_absent error held is = refused_there None error held (refuse_at Found place (NotFound name) error is)

  pub open_deep : (name bytes : List ℕ) (error : ReadError) → NameOf place path state (Reached name) → holds name (Some bytes) → deep ≡ true → IsFaultAt place TooDeep error → IsFaultSeen (OpenOf place holds deep path state) error
  open_deep name bytes error named held is_deep is =
      refused_there name named (Some bytes) error held (subst (λ (d : Bool). IsFaultOf (FoundIn place d name (Some bytes)) error) (sym is_deep) (refuse_at Found place TooDeep error is))

  pub open_found : (name kept bytes : List ℕ) → NameOf place path state (Reached name) → holds name (Some bytes) → deep ≡ false → kept ≡ name → OpenOf place holds deep path state (Reached (record { name = kept; bytes = bytes }))
  open_found name kept bytes named held not_deep same =
      subst (λ (n : List ℕ). OpenOf place holds deep path state (Reached (record { name = n; bytes = bytes }))) (sym same)
      (found name named (Some bytes) (Reached (record { name = name; bytes = bytes })) held
      (subst (λ (d : Bool). FoundIn place d name (Some bytes) (Reached (record { name = name; bytes = bytes }))) (sym not_deep) refl))

pub deep_at_none : (levels : ℕ) → levels ≡ 0 → too_deep_at levels ≡ true
deep_at_none zero is = refl
deep_at_none (suc levels) is = absurd (let never : ⊥ = omega (arith, is) in never)

pub deep_below : (levels : ℕ) → 0 < levels → too_deep_at levels ≡ false
deep_below zero is = absurd (let never : ⊥ = omega (arith, is) in never)
deep_below (suc levels) is = refl

-- ---- the name

module _ (place : Place) (path : Fragments) (state : State) where
  abbrev Canonical : Outcome (List ℕ) → Type 0
  Canonical = Where (IsCanonical (text_at state.past path)) (λ (name : List ℕ). Give name)

  abbrev Filled : Outcome (List ℕ) → Type 0
  Filled = Unless (is_empty (text_at state.past path) ≡ true) (fault_at place (LineKind EmptyPath)) Canonical

  abbrev Expanded : Outcome (List ℕ) → Type 0
  Expanded = Unless (is_large (text_at state.past path) ≡ true) (fault_at place (LineKind TooLarge)) (Give (text_at state.past path))

  large_first : (outcome : Outcome (List ℕ)) (fault : FileFault) → outcome ≡ Broken fault → Expanded outcome → NameOf place path state outcome
  large_first outcome fault broken (refused large) = refused large
  large_first outcome fault broken (in_order small given) = absurd (let never : ⊥ = cc in never)

  expanded_is : (outcome : Outcome (List ℕ)) (text : List ℕ) → outcome ≡ Reached text → Expanded outcome → (is_large (text_at state.past path) ≡ true → ⊥) × (text ≡ text_at state.past path)
  expanded_is outcome text reached (refused large) = absurd (let never : ⊥ = cc in never)
  expanded_is outcome text reached (in_order small given) = (small, let same : text ≡ text_at state.past path = cc in same)

  pub name_unexpanded : (error : ReadError) → IsFaultOf Expanded error → IsFaultOf (NameOf place path state) error
  name_unexpanded Memory is = tt
  name_unexpanded (Site fault) is = is
  name_unexpanded (Refused fault) is = large_first (Broken fault) fault refl is

  pub name_empty : (text : List ℕ) (error : ReadError) → Expanded (Reached text) → text ≡ [] → IsFaultAt place (LineKind EmptyPath) error → IsFaultOf (NameOf place path state) error
  name_empty text error expanded none is =
      let seen = expanded_is (Reached text) text refl expanded in
      unless_fault (is_large (text_at state.past path) ≡ true) (fault_at place (LineKind TooLarge)) Filled error seen.0
      (unless_at (is_empty (text_at state.past path) ≡ true) Canonical place (LineKind EmptyPath) error (ap is_empty (sym seen.1 ∙ none)) is)

  pub name_found : (text name : List ℕ) → Expanded (Reached text) → (text ≡ [] → ⊥) → IsCanonical text name → NameOf place path state (Reached name)
  name_found text name expanded some canonical =
      let seen = expanded_is (Reached text) text refl expanded in
      in_order seen.0 (in_order (λ empty. some (seen.1 ∙ is_none (text_at state.past path) empty)) (with_value (subst (λ (t : List ℕ). IsCanonical t name) seen.1 canonical) refl))
    where
      is_none : (l : List ℕ) → is_empty l ≡ true → l ≡ []
      is_none [] is = refl
      is_none (x ∷ xs) is = absurd (let never : ⊥ = cc in never)

  pub name_kept : (text asked found kept : List ℕ) → Expanded (Reached text) → asked ≡ text → kept ≡ found → (asked ≡ [] → ⊥) → IsCanonical asked found → NameOf place path state (Reached kept)
  name_kept text asked found kept expanded same is some canonical =
      subst (λ (n : List ℕ). NameOf place path state (Reached n)) (sym is)
      (name_found text found expanded (λ none. some (same ∙ none)) (subst (λ (t : List ℕ). IsCanonical t found) same canonical))

  pub name_of_nothing : (text asked : List ℕ) (error : ReadError) → Expanded (Reached text) → asked ≡ text → asked ≡ [] → IsFaultAt place (LineKind EmptyPath) error → IsFaultOf (NameOf place path state) error
  name_of_nothing text asked error expanded same none is = name_empty text error expanded (sym same ∙ none) is

  pub name_passed : {T : Type 0} (error : ReadError) (r : Result T ReadError) (reading : Result T ReadError → Type 0)
      → ((e : ReadError) → IsFaultOf (NameOf place path state) e → reading (Err e)) → IsErrAnd r (λ (e : ReadError). e ≡ error) → IsFaultOf Expanded error → reading r
  name_passed error (Ok value) reading on passed is = absurd passed
  name_passed error (Err other) reading on passed is = on other (subst (IsFaultOf (NameOf place path state)) (sym passed) (name_unexpanded error is))

pub err_is : {T E : Type 0} (r : Result T E) (e f : E) → r ≡ Err e → e ≡ f → r ≡ Err f
err_is r e f is same = cc

pub ok_is_no_err : {T E : Type 0} (r : Result T E) (x : T) (e : E) → r ≡ Ok x → r ≡ Err e → ⊥
ok_is_no_err r x e one other = cc
