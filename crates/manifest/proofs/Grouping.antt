-- Statements with their blocks, one after another.
use Rattle.std.proofs.Common.{◌≡◌, ℕ, suc, ◌≤◌, Bool, true, false, if◌then◌else◌, List, [], ◌∷◌, ◌++◌, map, length, Option, refl, sym, ◌∙◌, ap, subst, arith, append_assoc}
use Rattle.std.specs.Option.{option_map}
use Rattle.lexer.specs.declared.fault.Fault.{Fault}
use Rattle.lexer.specs.declared.statement.Line.{Line}
use Rattle.lexer.specs.Said.{Form, Said, said_of, form_of}
use Rattle.lexer.specs.Said.Form.{binding, block_binding, rule, build, pool, defaults, includes, subninja}
use Rattle.manifest.specs.declared.fault.FileFault.{FileFault}
use Rattle.manifest.specs.Readings.{Outcome, Then}
use Rattle.manifest.specs.States.{State}
use Rattle.manifest.specs.Blocks.{BlockLine, Group, Grouped, block_line, block_lines, is_of_block, add_line, grouped, groups_of, IsSplit}
use Rattle.manifest.specs.Files.{Holds, OfForm, OfGroups, if_last, fault_in, too_deep_at, inner_at}
use Rattle.manifest.specs.Seen.{LinesSay, if_no_line}

-- ---- lines of blocks, and others

add_of_block : (said : Said) (rest : Grouped) → is_of_block said.form ≡ true
    → add_line said rest ≡ record { block = block_line said.number said.form ++ rest.block; groups = rest.groups }
add_of_block said rest is =
    ap (λ (b : Bool). if b then (record { block = block_line said.number said.form ++ rest.block; groups = rest.groups }) else (record { block = []; groups = record { head = said; block = rest.block } ∷ rest.groups })) is

add_statement : (said : Said) (rest : Grouped) → is_of_block said.form ≡ false
    → add_line said rest ≡ record { block = []; groups = record { head = said; block = rest.block } ∷ rest.groups }
add_statement said rest is =
    ap (λ (b : Bool). if b then (record { block = block_line said.number said.form ++ rest.block; groups = rest.groups }) else (record { block = []; groups = record { head = said; block = rest.block } ∷ rest.groups })) is

either : (b : Bool) → (P : Type 0) → (b ≡ true → P) → (b ≡ false → P) → P
either true P yes_is no_is = yes_is refl
either false P yes_is no_is = no_is refl

-- ---- the lines of a split

more_groups : (xs ys : List Said) → length (groups_of ys) ≤ length (groups_of (xs ++ ys))
more_groups [] ys = omega arith
more_groups (x ∷ xs) ys =
    let inner : length (groups_of ys) ≤ length (groups_of (xs ++ ys)) = more_groups xs ys in
    either (is_of_block x.form) _
    (λ is. subst (λ (all : Grouped). length (groups_of ys) ≤ length all.groups) (sym (add_of_block x (grouped (xs ++ ys)) is)) inner)
    (λ is. subst (λ (all : Grouped). length (groups_of ys) ≤ length all.groups) (sym (add_statement x (grouped (xs ++ ys)) is)) (omega (arith, inner)))

-- where no statement stands in front, all of the front is of the block
block_in_front : (xs ys : List Said) → length (groups_of (xs ++ ys)) ≡ length (groups_of ys) → (grouped (xs ++ ys)).block ≡ block_lines xs ++ (grouped ys).block
block_in_front [] ys same = refl
block_in_front (x ∷ xs) ys same =
    either (is_of_block x.form) _
    (λ is.
    let all : add_line x (grouped (xs ++ ys)) ≡ record { block = block_line x.number x.form ++ (grouped (xs ++ ys)).block; groups = groups_of (xs ++ ys) } = add_of_block x (grouped (xs ++ ys)) is in
    let count : length (groups_of (xs ++ ys)) ≡ length (groups_of ys) = sym (ap (λ (g : Grouped). length g.groups) all) ∙ same in
    ap (λ (g : Grouped). g.block) all
    ∙ (ap (λ (l : List BlockLine). block_line x.number x.form ++ l) (block_in_front xs ys count)
    ∙ sym (append_assoc (block_line x.number x.form) (block_lines xs) (grouped ys).block)))
    (λ is.
    let all : add_line x (grouped (xs ++ ys)) ≡ record { block = []; groups = record { head = x; block = (grouped (xs ++ ys)).block } ∷ groups_of (xs ++ ys) } = add_statement x (grouped (xs ++ ys)) is in
    let count : suc (length (groups_of (xs ++ ys))) ≡ length (groups_of ys) = sym (ap (λ (g : Grouped). length g.groups) all) ∙ same in
    let more = more_groups xs ys in
    absurd (let never : ⊥ = omega (arith, count, more) in never))

nothing_behind : (xs ys : List BlockLine) → xs ≡ xs ++ ys → ys ≡ []
nothing_behind [] ys is = sym is
nothing_behind (x ∷ xs) ys is = nothing_behind xs ys (let same : xs ≡ xs ++ ys = cc in same)

-- a statement stands behind the lines of a block, or nothing
pub at_statement : (all block rest : List Said) → IsSplit all block rest → (grouped rest).block ≡ []
at_statement all block rest split =
    let count : length (groups_of (block ++ rest)) ≡ length (groups_of rest) = ap (λ (l : List Said). length (groups_of l)) (sym split.whole) ∙ ap (λ (l : List Group). length l) split.groups_are in
    nothing_behind (block_lines block) (grouped rest).block (sym split.block_is ∙ (ap (λ (l : List Said). (grouped l).block) split.whole ∙ block_in_front block rest count))

-- ---- the first statement

-- a line before which no block is open is a statement
form_of_statement : (number : ℕ) (form : Form) (rest : Grouped) → (add_line (record { number = number; form = form }) rest).block ≡ [] → is_of_block form ≡ false
form_of_statement number (binding name value) rest none = refl
form_of_statement number (block_binding name value) rest none = absurd (let never : ⊥ = cc in never)
form_of_statement number (rule name) rest none = refl
form_of_statement number (build form) rest none = refl
form_of_statement number (pool name) rest none = refl
form_of_statement number (defaults paths) rest none = refl
form_of_statement number (includes path) rest none = refl
form_of_statement number (subninja path) rest none = refl

no_block_line : (said : Said) (rest : Grouped) → (add_line said rest).block ≡ [] → is_of_block said.form ≡ false
no_block_line said rest none = form_of_statement said.number said.form rest none

pub first_group : (said : Said) (following block next : List Said) → (grouped (said ∷ following)).block ≡ [] → IsSplit following block next
    → groups_of (said ∷ following) ≡ record { head = said; block = block_lines block } ∷ groups_of next
first_group said following block next none split =
    ap (λ (g : Grouped). g.groups) (add_statement said (grouped following) (no_block_line said (grouped following) none))
    ∙ (ap (λ (l : List BlockLine). record { head = said; block = l } ∷ groups_of following) split.block_is
    ∙ ap (λ (l : List Group). record { head = said; block = block_lines block } ∷ l) split.groups_are)

-- the fault at which the text stops is seen behind the last statement alone
last_fault : (file : List ℕ) (fault : Option Fault) (next : List Line) → (grouped (map said_of next)).block ≡ []
    → option_map (fault_in file) (if_no_line next fault) ≡ if_last (groups_of (map said_of next)) (option_map (fault_in file) fault)
last_fault file fault [] none = refl
last_fault file fault (line ∷ lines) none =
    let first = ap (λ (g : Grouped). g.groups) (add_statement (said_of line) (grouped (map said_of lines)) (no_block_line (said_of line) (grouped (map said_of lines)) none)) in
    ap (λ (l : List Group). if_last l (option_map (fault_in file) fault)) (sym first)

-- the first statement is read, and then the others
pub reads_first : (holds : Holds) (levels : ℕ) (file : List ℕ) (fault behind : Option Fault) (line : Line) (following block next : List Line) (state : State) (outcome : Outcome State)
    → (grouped (map said_of (line ∷ following))).block ≡ [] → IsSplit (map said_of following) (map said_of block) (map said_of next) → behind ≡ if_no_line next fault
    → Then (OfForm holds (too_deep_at levels) (inner_at holds levels) (record { file = file; line = line.number }) (form_of line.statement) (block_lines (map said_of block)) (option_map (fault_in file) behind) state)
    (LinesSay holds levels file fault next) outcome
    → LinesSay holds levels file fault (line ∷ following) state outcome
reads_first holds levels file fault behind line following block next state outcome none split last is =
    let seen_behind : option_map (fault_in file) behind ≡ if_last (groups_of (map said_of next)) (option_map (fault_in file) fault) =
    ap (option_map (fault_in file)) last ∙ last_fault file fault next (at_statement (map said_of following) (map said_of block) (map said_of next) split) in
    subst (λ (l : List Group). OfGroups holds (too_deep_at levels) (inner_at holds levels) file (option_map (fault_in file) fault) l state outcome)
    (sym (first_group (said_of line) (map said_of following) (map said_of block) (map said_of next) none split))
    (subst (λ (f : Option FileFault). Then (OfForm holds (too_deep_at levels) (inner_at holds levels) (record { file = file; line = line.number }) (form_of line.statement) (block_lines (map said_of block)) f state)
    (LinesSay holds levels file fault next) outcome) seen_behind is)
