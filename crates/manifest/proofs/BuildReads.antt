-- What a build statement is read to.
use Rattle.std.proofs.Common.{not, ◌≡◌, ℕ, ◌≤◌, ◌<◌, Bool, true, false, List, [], ◌∷◌, ◌++◌, ◌⊎◌, inl, inr, length, vec_len, Option, Some, None, refl, sym, ap, ◌∙◌, subst, if◌then◌else◌, arith, length-append}
use Rattle.std.specs.List.{AllZip, AllByRecursion}
use Rattle.std.specs.Option.{option_map, is_none, is_some}
use Rattle.std.proofs.Math.Path.{fun_ext}
use Rattle.std.proofs.lemmas.Grind.{flat_map-append}
use Rattle.std.proofs.lemmas.List.{append-nil}
use Rattle.std.specs.declared.alloc.Global.{Global}
use Rattle.std.specs.declared.rc.Rc.{Rc}
use Rattle.lexer.specs.declared.fault.FaultKind.TheVariants.{TooLarge}
use Rattle.lexer.specs.Said.{BuildForm}
use Rattle.scopes.specs.declared.all_scopes.Scopes.{Scopes}
use Rattle.scopes.specs.declared.block.Block.{Block}
use Rattle.scopes.specs.declared.template.Rule.{Rule}
use Rattle.scopes.specs.Moves.{Move, rule_at}
use Rattle.scopes.specs.Place.{value_of_name}
use Rattle.scopes.specs.Scopes.{IsScopesOf}
use Rattle.manifest.specs.declared.builds.BlockRead.{BlockRead}
use Rattle.manifest.specs.declared.fault.FaultKind.TheVariants.{UnknownRule, Line as LineFault}
use Rattle.manifest.specs.declared.fault.FileFault.{FileFault}
use Rattle.manifest.specs.declared.fault.ReadError.{ReadError}
use Rattle.paths.specs.declared.line.Line.{Line}
use Rattle.paths.specs.Numbers.{HaveOnePlace}
use Rattle.manifest.specs.declared.kept.Declared.{Declared}
use Rattle.manifest.specs.declared.kept.Named.{Named}
use Rattle.manifest.specs.declared.kept.ReadEdge.{ReadEdge}
use Rattle.manifest.specs.Spelled.{EdgePaths}
use Rattle.manifest.specs.Answer.{IsFaultOf}
use Rattle.manifest.specs.BuildParts.{block_of, made_of}
use Rattle.manifest.specs.Blocks.{BlockLine, build_block}
use Rattle.manifest.specs.Declarations.{is_phony, rule_here, RuleHere, PathsOf, OfBuild, IsTooMuch, most_edges, most_paths}
use Rattle.manifest.specs.Held.{IsStateOf, IsBuildOf, IsLineFor, AreNamed, AreLinesFormed, ArePathsFormed, IsFormed, kept_of}
use Rattle.manifest.specs.InNumbers.{IsLonger, AreKeys, AreAdded, numbers_of, IsWithin, paths_at, kept_line}
use Rattle.manifest.specs.Keeping.{IsBlockOf, IsBlockRead}
use Rattle.manifest.specs.Places.{IsFaultAt}
use Rattle.manifest.specs.Readings.{Outcome, Place, Unless, Cut, Give, fault_at}
use Rattle.manifest.specs.Readings.Outcome.{Reached, Broken}
use Rattle.manifest.specs.Readings.Then.{goes_on}
use Rattle.manifest.specs.Readings.Unless.{in_order}
use Rattle.manifest.specs.States.{State, Build, with_build, present, first_or, named, different, all_of}
use Rattle.manifest.specs.Expansion.{Bound, value_here}
use Rattle.manifest.proofs.Binds.{fault_in_wider, then_fault, then_next_fault, unless_at, unless_fault, refuse_at}
use Rattle.manifest.proofs.Added.{paths_stay, within_stays, all_texts_of}
use Rattle.manifest.proofs.OwnOutputs.{grow_lines, own_within, own_paths}
use Rattle.manifest.proofs.EdgeFormed.{own_formed}
use Rattle.manifest.proofs.TextLemmas.{here_same}

-- ---- the rule

reached_rule : (rule other : Option Rule) → rule ≡ other → Reached rule ≡ Reached other
reached_rule rule other same = ap (λ (r : Option Rule). Reached r) same

both : {C : Type 0} (b : Bool) → b ≡ true → b ≡ false → C
both b one other = absurd (cc)

pub rule_phony : (place : Place) (state : State) (name : List ℕ) → is_phony name ≡ true → RuleHere place state name (Reached None)
rule_phony place state name phony =
    in_order (λ unknown. both (is_phony name) phony unknown.0)
    (reached_rule None (rule_here state name) (sym (ap (λ (b : Bool). if b then None else rule_at state.past name) phony)))

pub rule_found : (place : Place) (state : State) (name : List ℕ) (found kept : Rule) → is_phony name ≡ false → Some found ≡ rule_at state.past name → kept ≡ found
    → RuleHere place state name (Reached (Some kept))
rule_found place state name found kept other is same =
    in_order (λ unknown. let e : Some found ≡ None = is ∙ unknown.1 in absurd (cc))
    (reached_rule (Some kept) (rule_here state name) (ap (λ (r : Rule). Some r) same ∙ (is ∙ sym (ap (λ (b : Bool). if b then None else rule_at state.past name) other))))

pub rule_missing : (place : Place) (state : State) (name text : List ℕ) (error : ReadError) → is_phony name ≡ false → None ≡ rule_at state.past name → text ≡ name
    → IsFaultAt place (UnknownRule text) error → IsFaultOf (RuleHere place state name) error
rule_missing place state name text error other is same fault =
    unless_at _ _ place (UnknownRule name) error (other, sym is) (subst (λ (t : List ℕ). IsFaultAt place (UnknownRule t) error) same fault)

-- ---- the parts of a build statement

-- its block, its rule and its paths were read
pub record AreParts (place : Place) (form : BuildForm) (lines : List BlockLine) (state : State) (read : BlockRead) (rule : Option Rule) (paths : EdgePaths) : Type 0 where
  pub block_read : IsBlockRead read place.file (build_block place.file state.past lines [])
  pub rule_read : RuleHere place state form.rule (Reached rule)
  pub paths_read : PathsOf place (value_of_name read.block state.past) form (Reached paths)

abbrev Limits : Place → BuildForm → List BlockLine → State → Option Rule → EdgePaths → Outcome State → Type 0
Limits place form lines state rule paths =
    Unless (IsTooMuch (state.builds ++ made_of place form lines state rule paths ∷ [])) (fault_at place (LineFault TooLarge))
    (Cut (block_of place lines state).fault (Give (with_build (made_of place form lines state rule paths) state)))

values_same : (block : Block) (bindings : List Bound) (past : List Move) → IsBlockOf block bindings → value_of_name block past ≡ value_here bindings past
values_same block bindings past same = fun_ext (here_same block bindings past same)

paths_here : (place : Place) (form : BuildForm) (block : Block) (bindings : List Bound) (past : List Move) (outcome : Outcome EdgePaths)
    → IsBlockOf block bindings → PathsOf place (value_of_name block past) form outcome → PathsOf place (value_here bindings past) form outcome
paths_here place form block bindings past outcome same read = subst (λ (value : List ℕ → List ℕ). PathsOf place value form outcome) (values_same block bindings past same) read

module _ (place : Place) (form : BuildForm) (lines : List BlockLine) (state : State) where
  pub rule_fault : (error : ReadError) → IsFaultOf (RuleHere place state form.rule) error → IsFaultOf (OfBuild place form lines state) error
  rule_fault error is = then_fault (RuleHere place state form.rule) _ error is

  pub paths_fault : (read : BlockRead) (rule : Option Rule) (error : ReadError) → IsBlockRead read place.file (block_of place lines state)
      → RuleHere place state form.rule (Reached rule) → IsFaultOf (PathsOf place (value_of_name read.block state.past) form) error → IsFaultOf (OfBuild place form lines state) error
  paths_fault read rule error block has_rule is =
      let here = fault_in_wider (PathsOf place (value_of_name read.block state.past) form) (PathsOf place (value_here (block_of place lines state).bound state.past) form) error
      (λ fault. paths_here place form read.block (block_of place lines state).bound state.past (Broken fault) block.bound) is in
      then_next_fault (RuleHere place state form.rule) _ rule error has_rule (then_fault (PathsOf place (value_here (block_of place lines state).bound state.past) form) _ error here)

  module _ (read : BlockRead) (rule : Option Rule) (paths : EdgePaths) (parts : AreParts place form lines state read rule paths) where
    parts_go : (outcome : Outcome State) → Limits place form lines state rule paths outcome → OfBuild place form lines state outcome
    parts_go outcome is = goes_on parts.rule_read (goes_on (paths_here place form read.block (block_of place lines state).bound state.past (Reached paths) parts.block_read.bound parts.paths_read) is)

    pub much_fault : (error : ReadError) → IsTooMuch (state.builds ++ made_of place form lines state rule paths ∷ []) → IsFaultAt place (LineFault TooLarge) error
        → IsFaultOf (OfBuild place form lines state) error
    much_fault error much is =
        fault_in_wider (Limits place form lines state rule paths) (OfBuild place form lines state) error (λ fault. parts_go (Broken fault)) (unless_at _ _ place (LineFault TooLarge) error much is)

    pub block_fault : (there : Place) (line : ℕ) (error : ReadError) → (IsTooMuch (state.builds ++ made_of place form lines state rule paths ∷ []) → ⊥) → read.stop ≡ Some line
        → there.file ≡ place.file → there.line ≡ line → IsFaultAt there (LineFault TooLarge) error → IsFaultOf (OfBuild place form lines state) error
    block_fault there line error good stop same_file same_line is =
        let found : (block_of place lines state).fault ≡ Some (fault_at there (LineFault TooLarge)) =
        parts.block_read.fault ∙ (ap (option_map (λ (n : ℕ). fault_at (record { file = place.file; line = n }) (LineFault TooLarge))) stop
        ∙ (ap (λ (n : ℕ). Some (fault_at (record { file = place.file; line = n }) (LineFault TooLarge))) (sym same_line)
        ∙ ap (λ (f : List ℕ). Some (fault_at (record { file = f; line = there.line }) (LineFault TooLarge))) (sym same_file))) in
        fault_in_wider (Limits place form lines state rule paths) (OfBuild place form lines state) error (λ fault. parts_go (Broken fault))
        (unless_fault _ _ _ error good
        (subst (λ (f : Option FileFault). IsFaultOf (Cut f (Give (with_build (made_of place form lines state rule paths) state))) error) (sym found) (refuse_at State there (LineFault TooLarge) error is)))

    pub build_read : (IsTooMuch (state.builds ++ made_of place form lines state rule paths ∷ []) → ⊥) → read.stop ≡ None
        → OfBuild place form lines state (Reached (with_build (made_of place form lines state rule paths) state))
    build_read good stop =
        let none : (block_of place lines state).fault ≡ None = parts.block_read.fault ∙ ap (option_map (λ (n : ℕ). fault_at (record { file = place.file; line = n }) (LineFault TooLarge))) stop in
        parts_go _ (in_order good (subst (λ (f : Option FileFault). Cut f (Give (with_build (made_of place form lines state rule paths) state)) (Reached (with_build (made_of place form lines state rule paths) state))) (sym none) refl))

-- ---- how much there is

zip_length : {X Y : Type 0} (R : X → Y → Type 0) (xs : List X) (ys : List Y) → AllZip R xs ys → length xs ≡ length ys
zip_length R [] [] all = refl
zip_length R [] (y ∷ ys) all = absurd all
zip_length R (x ∷ xs) [] all = absurd all
zip_length R (x ∷ xs) (y ∷ ys) all = let rest = zip_length R xs ys all.1 in omega arith

zip_push : {X Y : Type 0} (R : X → Y → Type 0) (xs : List X) (ys : List Y) (x : X) (y : Y) → AllZip R xs ys → R x y → AllZip R (xs ++ x ∷ []) (ys ++ y ∷ [])
zip_push R [] [] x y all more = (more, tt)
zip_push R [] (b ∷ ys) x y all more = absurd all
zip_push R (a ∷ xs) [] x y all more = absurd all
zip_push R (a ∷ xs) (b ∷ ys) x y all more = (all.0, zip_push R xs ys x y all.1 more)

all_push : {X : Type 0} (P : X → Type 0) (xs : List X) (x : X) → AllByRecursion P xs → P x → AllByRecursion P (xs ++ x ∷ [])
all_push P [] x all more = (more, tt)
all_push P (a ∷ xs) x all more = (all.0, all_push P xs x all.1 more)

named_more : (builds : List Build) (build : Build) → named (builds ++ build ∷ []) ≡ named builds ++ all_of build.paths
named_more builds build =
    flat_map-append (λ (b : Build). all_of b.paths) builds (build ∷ []) ∙ ap (λ (more : List (List ℕ)). named builds ++ more) (append-nil (all_of build.paths))

-- the counts that the code has
pub much_above : (builds : List Build) (build : Build) (edges keys : ℕ) → edges ≡ length builds → keys ≡ different (named builds ++ all_of build.paths)
    → (most_edges ≤ edges) ⊎ (most_paths < keys) → IsTooMuch (builds ++ build ∷ [])
much_above builds build edges keys is_edges is_keys (inl above) = inl (let e = length-append builds (build ∷ []) in omega arith)
much_above builds build edges keys is_edges is_keys (inr above) = inr (subst (λ (n : ℕ). most_paths < n) (is_keys ∙ sym (ap different (named_more builds build))) above)

pub much_below : (builds : List Build) (build : Build) (edges keys : ℕ) → edges ≡ length builds → keys ≡ different (named builds ++ all_of build.paths)
    → edges < most_edges → keys ≤ most_paths → IsTooMuch (builds ++ build ∷ []) → ⊥
much_below builds build edges keys is_edges is_keys edges_fit keys_fit (inl above) = let e = length-append builds (build ∷ []) in omega arith
much_below builds build edges keys is_edges is_keys edges_fit keys_fit (inr above) = let e = is_keys ∙ sym (ap different (named_more builds build)) in omega arith

-- ---- what is kept

pub present_here : (scopes : Scopes) (state : State) → IsScopesOf scopes state.past → scopes.present ≡ present state
present_here scopes state is = sym (ap (first_or 0) is.opened)

pub keeps_build : (old new : Declared) (state : State) (edge : ReadEdge) (build : Build) → new.edges.items ≡ old.edges.items ++ edge ∷ [] → IsBuildOf edge build
    → IsStateOf old state → new.scopes ≡ old.scopes → new.pools ≡ old.pools → new.defaults ≡ old.defaults
    → AreNamed new.paths (state.builds ++ build ∷ []) → IsStateOf new (with_build build state)
keeps_build old new state edge build grown is_build is same_scopes same_pools same_defaults named_now = record {
  scopes = rw same_scopes is.scopes;
  edges = rw grown (zip_push IsBuildOf old.edges.items state.builds edge build is.edges is_build);
  pools = rw same_pools is.pools;
  defaults = rw same_defaults is.defaults;
  paths = named_now;
}

pub edges_count : (old : Declared) (state : State) → IsStateOf old state → length old.edges.items ≡ length state.builds
edges_count old state is = zip_length IsBuildOf old.edges.items state.builds is.edges

-- ---- its paths

-- a line that was read, and what is kept of it
pub line_kept : (table : List (List ℕ)) (build : Build) (line : Line) (is_phony : Bool) → HaveOnePlace table → IsWithin table line → paths_at table line ≡ build.paths
    → is_phony ≡ is_none build.rule → IsLineFor table build (kept_line is_phony line)
line_kept table build line is_phony once within same phony = by build.rule refl
  where
    by : (rule : Option Rule) → build.rule ≡ rule → IsLineFor table build (kept_line is_phony line)
    by None none =
        let flag : is_phony ≡ true = phony ∙ ap is_none none in
        rw (flag, none) (record { within = own_within table line within; paths = own_paths table line once within ∙ ap (kept_of None) same })
    by (Some rule) some =
        let flag : is_phony ≡ false = phony ∙ ap is_none some in
        rw (flag, some) (record { within = within; paths = same })

pub names_more : (old : Named) (table : List (List ℕ)) (line : Line) (builds : List Build) (build : Build) (is_phony : Bool) → HaveOnePlace table
    → AreAdded old.table table (numbers_of line) → paths_at table line ≡ build.paths → is_phony ≡ is_none build.rule → length old.lines < most_edges
    → AreNamed old builds → AreNamed (record { table = table; lines = old.lines ++ kept_line is_phony line ∷ [] }) (builds ++ build ∷ [])
names_more old table line builds build is_phony once added same phony few is = record {
  keys = subst (AreKeys table) (ap (λ (l : List (List ℕ)). named builds ++ l) (all_texts_of table line ∙ ap all_of same) ∙ sym (named_more builds build)) (added.keys (named builds) is.keys);
  lines = zip_push (IsLineFor table) builds old.lines build (kept_line is_phony line) (grow_lines old.table table builds old.lines added.grows is.lines) (line_kept table build line is_phony once added.within same phony);
  few = let e = length-append old.lines (kept_line is_phony line ∷ []) in omega arith;
}

pub lines_count : (kept : Named) (builds : List Build) → AreNamed kept builds → length kept.lines ≡ length builds
lines_count kept builds is = sym (zip_length (IsLineFor kept.table) builds kept.lines is.lines)

grow_formed : (old new : List (List ℕ)) (lines : List Line) → IsLonger old new
    → AllByRecursion (λ (line : Line). IsWithin old line × ArePathsFormed (paths_at old line)) lines → AllByRecursion (λ (line : Line). IsWithin new line × ArePathsFormed (paths_at new line)) lines
grow_formed old new [] longer all = tt
grow_formed old new (line ∷ lines) longer all =
    ((within_stays old new line longer all.0.0, subst ArePathsFormed (sym (paths_stay old new line longer all.0.0)) all.0.1), grow_formed old new lines longer all.1)

pub lines_formed : (old : Named) (table : List (List ℕ)) (line : Line) (is_phony : Bool) → HaveOnePlace table → AreAdded old.table table (numbers_of line) → ArePathsFormed (paths_at table line)
    → AreLinesFormed old → AreLinesFormed (record { table = table; lines = old.lines ++ kept_line is_phony line ∷ [] })
lines_formed old table line is_phony once added formed all =
    all_push _ old.lines (kept_line is_phony line) (grow_formed old.table table old.lines added.grows all) (by is_phony)
  where
    by : (b : Bool) → IsWithin table (kept_line b line) × ArePathsFormed (paths_at table (kept_line b line))
    by true = (own_within table line added.within, subst ArePathsFormed (sym (own_paths table line once added.within)) (own_formed (paths_at table line) formed))
    by false = (added.within, formed)

pub keeps_formed : (old new : Declared) (edge : ReadEdge) (formed : IsFormed old) → edge.scope < vec_len old.scopes.scopes
    → new.scopes ≡ old.scopes → new.edges.items ≡ old.edges.items ++ edge ∷ [] → AreLinesFormed new.paths → IsFormed new
keeps_formed old new edge formed within same_scopes grown lines = record {
  past = formed.past;
  scopes = rw same_scopes formed.scopes;
  edges = rw (same_scopes, grown) (all_push _ old.edges.items edge formed.edges within);
  paths = lines;
}

-- ---- from what the calls gave

pub parts_from : (place : Place) (form : BuildForm) (lines : List BlockLine) (here : Scopes) (state : State) (read : BlockRead) (rule : Option Rule) (paths : EdgePaths)
    (scopes : Scopes) (block : Block) → IsScopesOf here state.past → scopes ≡ here → block ≡ read.block
    → IsBlockRead read place.file (block_of place lines state) → RuleHere place state form.rule (Reached rule)
    → ((past : List Move) → IsScopesOf scopes past → PathsOf place (value_of_name block past) form (Reached paths))
    → AreParts place form lines state read rule paths
parts_from place form lines here state read rule paths scopes block is same_scopes same_block block_read rule_read paths_read = record {
  block_read = block_read;
  rule_read = rule_read;
  paths_read = subst (λ (b : Block). PathsOf place (value_of_name b state.past) form (Reached paths)) same_block
      (paths_read state.past (subst (λ (s : Scopes). IsScopesOf s state.past) (sym same_scopes) is));
}

pub count_of : (before old table : List (List ℕ)) (line : Line) → AreAdded old table (numbers_of line) → AreKeys old before → length table ≡ different (before ++ all_of (paths_at table line))
count_of before old table line added keys = (added.keys before keys).count ∙ ap (λ (l : List (List ℕ)). different (before ++ l)) (all_texts_of table line)

pub none_kept : (rule : Option (Rc Rule Global)) (flag : Bool) → is_some rule ≡ not flag → flag ≡ is_none (option_map (λ (r : Rc Rule Global). r.value) rule)
none_kept None true is = refl
none_kept None false is = absurd (cc)
none_kept (Some rule) true is = absurd (cc)
none_kept (Some rule) false is = refl
