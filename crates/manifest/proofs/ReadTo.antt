-- The statements of a file, read up to one of them.
use Rattle.std.proofs.Common.{◌≡◌, ℕ, suc, ◌≤◌, ◌<◌, Bool, IsTrue, List, [], ◌∷◌, ◌++◌, map, length, Option, Result, Ok, Err, OnOk, IsErrAnd, refl, sym, ◌∙◌, ap, subst, arith}
use Rattle.std.specs.Option.{option_map}
use Rattle.lexer.specs.declared.fault.Fault.{Fault}
use Rattle.lexer.specs.declared.statement.Line.{Line}
use Rattle.lexer.specs.Said.{Said, said_of, form_of}
use Rattle.model.specs.World.{World}
use Rattle.model.specs.Calls.{OnlyLooks}
use Rattle.manifest.specs.declared.fault.FileFault.{FileFault}
use Rattle.manifest.specs.declared.fault.ReadError.{ReadError}
use Rattle.manifest.specs.declared.fault.ReadError.TheVariants.{Memory, Site, Refused}
use Rattle.manifest.specs.declared.kept.Declared.{Declared}
use Rattle.manifest.specs.Readings.{Outcome, Give, Cut}
use Rattle.manifest.specs.Readings.Outcome.{Reached, Broken}
use Rattle.manifest.specs.Readings.Then.{goes_on, stops}
use Rattle.manifest.specs.States.{State}
use Rattle.manifest.specs.Blocks.{block_lines, grouped, IsSplit, Group}
use Rattle.manifest.specs.Files.{OfForm, OfGroups, fault_in, too_deep_at, inner_at}
use Rattle.manifest.specs.Answer.{site_part, IsFaultOf, IsFaultSeen, IsAnswerOf}
use Rattle.manifest.specs.Held.{IsStateOf, Says, KeepsScopes, IsFormed}
use Rattle.manifest.specs.Made.{HaveOutputs, FormHasOutput}
use Rattle.manifest.specs.Seen.{Covers, seen, IsCaused, SaysSeen, IsStated, LinesSay, if_no_line}
use Rattle.manifest.proofs.Binds.{cut_ok, cut_fault}
use Rattle.manifest.proofs.Looking.{looks_then, looks_none, fine, NoneFailed, none_failed, caused_then, covers_before, covers_after}
use Rattle.manifest.proofs.Grouping.{at_statement, reads_first}

-- ---- answers where the site is asked

pub seen_fault : {X : Type 0} (R : Outcome X → Type 0) (error : ReadError) → IsFaultOf R error → IsFaultSeen R error
seen_fault R Memory is = tt
seen_fault R (Site fault) is = tt
seen_fault R (Refused fault) is = is

pub seen_fault_wider : {X Y : Type 0} (R : Outcome X → Type 0) (S : Outcome Y → Type 0) (error : ReadError)
    → ((fault : FileFault) → R (Broken fault) → S (Broken fault)) → IsFaultSeen R error → IsFaultSeen S error
seen_fault_wider R S Memory wider is = tt
seen_fault_wider R S (Site fault) wider is = tt
seen_fault_wider R S (Refused fault) wider is = wider fault is

pub seen_wider : (R S : Outcome State → Type 0) (r : Result (Unit {0}) ReadError) (after : Declared)
    → ((outcome : Outcome State) → R outcome → S outcome) → SaysSeen r after R → SaysSeen r after S
seen_wider R S (Ok value) after wider is = (is.0, is.1, wider (Reached is.0) is.2)
seen_wider R S (Err error) after wider is = seen_fault_wider R S error (λ fault. wider (Broken fault)) is

pub seen_says : (R S : Outcome State → Type 0) (r : Result (Unit {0}) ReadError) (after : Declared)
    → ((outcome : Outcome State) → R outcome → S outcome) → Says r after R → SaysSeen r after S
seen_says R S (Ok value) after wider is = (is.0, is.1, wider (Reached is.0) is.2)
seen_says R S (Err error) after wider is = seen_fault_wider R S error (λ fault. wider (Broken fault)) (seen_fault R error is)

-- a fault that is passed on
pub seen_on : {X : Type 0} (R : Outcome X → Type 0) (S : Outcome State → Type 0) (error : ReadError) (r : Result (Unit {0}) ReadError) (after : Declared)
    → ((fault : FileFault) → R (Broken fault) → S (Broken fault)) → IsFaultSeen R error → IsErrAnd r (λ (e : ReadError). e ≡ error) → SaysSeen r after S
seen_on R S error (Ok value) after wider is passed = absurd passed
seen_on R S error (Err other) after wider is passed = subst (IsFaultSeen S) (sym passed) (seen_fault_wider R S error wider is)

-- no fault of the site
pub own_cause : (w : World) (before after : Declared) (R : State → Outcome State → Type 0) (r : Result (Unit {0}) ReadError)
    → ((state : State) → IsStateOf before state → Says r after (R state)) → IsStated before → IsCaused w w (site_part r)
own_cause w before after R (Ok value) is stated = none_failed w
own_cause w before after R (Err Memory) is stated = none_failed w
own_cause w before after R (Err (Site fault)) is stated = absurd (is stated.0 stated.1)
own_cause w before after R (Err (Refused fault)) is stated = none_failed w

-- some state is reached
pub own_stated : (before after : Declared) (R : State → Outcome State → Type 0) (r : Result (Unit {0}) ReadError)
    → ((state : State) → IsStateOf before state → Says r after (R state)) → OnOk r (IsStated before → IsStated after)
own_stated before after R (Ok value) is = λ stated. let now = is stated.0 stated.1 in (now.0, now.1)
own_stated before after R (Err error) is = tt

pub stop_cause : (old new : World) (behind : Option FileFault) (r : Result (Unit {0}) ReadError) → NoneFailed old new → IsAnswerOf (Cut behind (Give tt)) r → IsCaused old new (site_part r)
stop_cause old new behind (Ok value) none is = none
stop_cause old new behind (Err Memory) none is = none
stop_cause old new behind (Err (Site fault)) none is = absurd is
stop_cause old new behind (Err (Refused fault)) none is = none

-- ---- the statements so far

pub record IsReadTo (tells : Bool) (old new : World) (levels : ℕ) (file : List ℕ) (fault : Option Fault) (lines rest : List Line) (before after : Declared) : Type 0 where
  pub looks : OnlyLooks tells old new
  pub failed : IsStated before → NoneFailed old new
  pub stated : IsStated before → IsStated after
  pub said : IsTrue tells → (entry exit : World) → Covers entry exit old new → (state : State) → IsStateOf before state
      → (now : State) × IsStateOf after now × ((outcome : Outcome State) → LinesSay (seen entry exit) levels file fault rest now outcome → LinesSay (seen entry exit) levels file fault lines state outcome)
  pub scopes : KeepsScopes before after
  pub formed : HaveOutputs (map said_of lines) → IsFormed before → IsFormed after
  pub outputs : HaveOutputs (map said_of lines) → HaveOutputs (map said_of rest)
  pub statement : (grouped (map said_of rest)).block ≡ []

outputs_behind : (block rest : List Said) → HaveOutputs (block ++ rest) → HaveOutputs rest
outputs_behind [] rest all = all
outputs_behind (line ∷ block) rest all = outputs_behind block rest all.1

split_outputs : (all block rest : List Said) → IsSplit all block rest → HaveOutputs all → HaveOutputs rest
split_outputs all block rest split have = outputs_behind block rest (subst HaveOutputs split.whole have)

-- a line is left, or none
pub read_to_first : (tells : Bool) (old new : World) (levels : ℕ) (file : List ℕ) (fault : Option Fault) (lines rest : List Line) (before after : Declared) (line : Line) (following : List Line)
    → rest ≡ line ∷ following → IsReadTo tells old new levels file fault lines rest before after → IsReadTo tells old new levels file fault lines (line ∷ following) before after
read_to_first tells old new levels file fault lines rest before after line following is read = subst (λ (l : List Line). IsReadTo tells old new levels file fault lines l before after) is read

length_map : (lines : List Line) → length (map said_of lines) ≡ length lines
length_map [] = refl
length_map (line ∷ lines) = ap suc (length_map lines)

length_both : (xs ys : List Said) → length ys ≤ length (xs ++ ys)
length_both [] ys = omega arith
length_both (x ∷ xs) ys = let inner : length ys ≤ length (xs ++ ys) = length_both xs ys in omega (arith, inner)

pub split_shorter : (rest following block next : List Line) (line : Line) → rest ≡ line ∷ following → IsSplit (map said_of following) (map said_of block) (map said_of next) → length next < length rest
split_shorter rest following block next line is split =
    let all = ap (λ (l : List Said). length l) split.whole in
    let more = length_both (map said_of block) (map said_of next) in
    let one = length_map following in
    let other = length_map next in
    let first = ap (λ (l : List Line). length l) is in
    omega (arith, all, more, one, other, first)

-- nothing is read yet
pub read_to_none : (tells : Bool) (w : World) (levels : ℕ) (file : List ℕ) (fault : Option Fault) (lines block rest : List Line) (declared : Declared)
    → IsSplit (map said_of lines) (map said_of block) (map said_of rest) → IsReadTo tells w w levels file fault lines rest declared declared
read_to_none tells w levels file fault lines block rest declared split =
    record {
      looks = looks_none tells w;
      failed = λ stated. none_failed w;
      stated = λ stated. stated;
      said = λ told entry exit covered state is. (
        state,
        is,
        λ outcome reading.
            subst (λ (l : List Group). OfGroups (seen entry exit) (too_deep_at levels) (inner_at (seen entry exit) levels) file (option_map (fault_in file) fault) l state outcome) (sym split.groups_are) reading,
      );
      scopes = record { present = refl; outer = refl };
      formed = λ have is. is;
      outputs = split_outputs (map said_of lines) (map said_of block) (map said_of rest) split;
      statement = at_statement (map said_of lines) (map said_of block) (map said_of rest) split;
    }

module _ (tells : Bool) (old mid new : World) (levels : ℕ) (file : List ℕ) (fault behind : Option Fault) (lines : List Line) (line : Line) (following block next : List Line) (before between after : Declared)
    (read : IsReadTo tells old mid levels file fault lines (line ∷ following) before between)
    (split : IsSplit (map said_of following) (map said_of block) (map said_of next))
    (last : behind ≡ if_no_line next fault)
    (looks : OnlyLooks tells mid new) where
  abbrev One : World → World → State → Outcome State → Type 0
  One entry exit = OfForm (seen entry exit) (too_deep_at levels) (inner_at (seen entry exit) levels) (record { file = file; line = line.number }) (form_of line.statement) (block_lines (map said_of block)) (option_map (fault_in file) behind)

  -- the next statement is read
  pub read_to_next : (IsStated between → NoneFailed mid new) → (IsStated between → IsStated after)
      → (IsTrue tells → (entry exit : World) → Covers entry exit mid new → (state : State) → IsStateOf between state → (now : State) × IsStateOf after now × One entry exit state (Reached now))
      → KeepsScopes between after → (FormHasOutput (form_of line.statement) → IsFormed between → IsFormed after)
      → IsReadTo tells old new levels file fault lines next before after
  read_to_next none stated one scopes formed =
      record {
        looks = looks_then tells old mid new read.looks looks;
        failed = λ first. caused_then old mid new fine (read.failed first) (none (read.stated first));
        stated = λ first. stated (read.stated first);
        said = λ told entry exit covered state is.
            let front = read.said told entry exit (covers_before tells entry exit old mid new told looks covered) state is in
            let here = one told entry exit (covers_after tells entry exit old mid new told read.looks covered) front.0 front.1 in
            (here.0, here.1, λ outcome reading. front.2 outcome (reads_first (seen entry exit) levels file fault behind line following block next front.0 outcome read.statement split last (goes_on here.2 reading)));
        scopes = record { present = scopes.present ∙ read.scopes.present; outer = scopes.outer ∙ read.scopes.outer };
        formed = λ have is. formed (read.outputs have).0 (read.formed have is);
        outputs = λ have. split_outputs (map said_of following) (map said_of block) (map said_of next) split (read.outputs have).1;
        statement = at_statement (map said_of following) (map said_of block) (map said_of next) split;
      }

  -- the next statement is refused
  pub read_to_fault : (error : ReadError) (r : Result (Unit {0}) ReadError) (kept : Declared) → IsErrAnd r (λ (e : ReadError). e ≡ error)
      → (IsTrue tells → (entry exit : World) → Covers entry exit mid new → (state : State) → IsStateOf between state → IsFaultSeen (One entry exit state) error)
      → IsTrue tells → (entry exit : World) → Covers entry exit old new → (state : State) → IsStateOf before state
      → SaysSeen r kept (LinesSay (seen entry exit) levels file fault lines state)
  read_to_fault error r kept passed one told entry exit covered state is =
      let front = read.said told entry exit (covers_before tells entry exit old mid new told looks covered) state is in
      let here = one told entry exit (covers_after tells entry exit old mid new told read.looks covered) front.0 front.1 in
      seen_on (One entry exit front.0) (LinesSay (seen entry exit) levels file fault lines state) error r kept
      (λ broken reading. front.2 (Broken broken) (reads_first (seen entry exit) levels file fault behind line following block next front.0 (Broken broken) read.statement split last (stops reading)))
      here passed

-- all is read, and the fault at which the text stops is told
stopped : (behind : Option FileFault) (r : Result (Unit {0}) ReadError) (after : Declared) (now : State) → IsStateOf after now → IsAnswerOf (Cut behind (Give tt)) r → Says r after (Cut behind (Give now))
stopped behind (Ok value) after now is answer = (now, is, cut_ok (Give now) behind (Reached now) answer refl)
stopped behind (Err error) after now is answer = cut_fault (Give now) behind error answer

pub read_to_end : (tells : Bool) (old new : World) (levels : ℕ) (file : List ℕ) (fault : Option Fault) (lines rest : List Line) (before after : Declared) (r : Result (Unit {0}) ReadError)
    → IsReadTo tells old new levels file fault lines rest before after → length rest ≡ 0 → IsAnswerOf (Cut (option_map (fault_in file) fault) (Give tt)) r
    → IsTrue tells → (entry exit : World) → Covers entry exit old new → (state : State) → IsStateOf before state
    → SaysSeen r after (LinesSay (seen entry exit) levels file fault lines state)
read_to_end tells old new levels file fault lines [] before after r read none answer told entry exit covered state is =
    let front = read.said told entry exit covered state is in
    seen_says (Cut (option_map (fault_in file) fault) (Give front.0)) (LinesSay (seen entry exit) levels file fault lines state) r after
    front.2
    (stopped (option_map (fault_in file) fault) r after front.0 front.1 answer)
read_to_end tells old new levels file fault lines (line ∷ rest) before after r read none answer told entry exit covered state is = absurd (let never : ⊥ = omega (arith, none) in never)

pub always_ok : {P : Type 0} (r : Result (Unit {0}) ReadError) → P → OnOk r P
always_ok (Ok value) is = is
always_ok (Err error) is = tt
