-- What a file says, with the files that it reads (manual: "Evaluation and scoping", "Ninja file reference").
use Rattle.std.specs.Prelude.{◌≡◌, ℕ, zero, suc, ◌*◌, ◌<◌, Bool, true, false, List, [], ◌∷◌, length, Option, None, Some, IsUtf8}
use Rattle.std.specs.Option.{option_map}
use Rattle.lexer.specs.declared.fault.Fault.{Fault}
use Rattle.lexer.specs.declared.fault.FaultKind.TheVariants.{TooLarge, EmptyPath}
use Rattle.lexer.specs.Lines.{IsRead}
use Rattle.lexer.specs.Path.{IsCanonical}
use Rattle.lexer.specs.Said.{Fragments, Form, Said}
use Rattle.lexer.specs.Said.Form.{binding, block_binding, rule, build, pool, defaults, includes, subninja}
use Rattle.scopes.specs.Moves.{Enter, Leave}
use Rattle.manifest.specs.declared.fault.FaultKind.TheVariants.{Line, NotUtf8, NotFound, TooDeep}
use Rattle.manifest.specs.declared.fault.FileFault.{FileFault}
use Rattle.manifest.specs.Readings.{Reading, Give, Refuse, Unless, Then, Where, Cut, Place, fault_at}
use Rattle.manifest.specs.Expansion.{text_at, is_large, is_empty}
use Rattle.manifest.specs.States.{State, with_move}
use Rattle.manifest.specs.Blocks.{BlockLine, Group, groups_of}
use Rattle.manifest.specs.Declarations.{OfBinding, OfRule, OfBuild, OfPool, OfDefault}

-- what a file of a name may hold when it is read; None where it is absent
abbrev pub Holds : Type 1
Holds = List ℕ → Option (List ℕ) → Type 0

-- what a file of this name with these bytes says
abbrev pub Inner : Type 1
Inner = List ℕ → List ℕ → State → Reading State

-- ---- `include` and `subninja`

-- the canonical name of a file; the path is taken from the working folder
abbrev pub NameOf : Place → Fragments → State → Reading (List ℕ)
NameOf place path state =
    Unless (is_large (text_at state.past path) ≡ true) (fault_at place (Line TooLarge))
    (Unless (is_empty (text_at state.past path) ≡ true) (fault_at place (Line EmptyPath))
    (Where (IsCanonical (text_at state.past path)) (λ (name : List ℕ). Give name)))

-- a file that was found
pub record Found : Type 0 where
  pub name : List ℕ
  pub bytes : List ℕ

abbrev pub FoundIn : Place → Bool → List ℕ → Option (List ℕ) → Reading Found
FoundIn place too_deep name None = Refuse (fault_at place (NotFound name))
FoundIn place true name (Some bytes) = Refuse (fault_at place TooDeep)
FoundIn place false name (Some bytes) = Give (record { name = name; bytes = bytes })

abbrev pub OpenOf : Place → Holds → Bool → Fragments → State → Reading Found
OpenOf place holds too_deep path state =
    Then (NameOf place path state) (λ (name : List ℕ). Where (holds name) (λ (content : Option (List ℕ)). FoundIn place too_deep name content))

abbrev pub OfFile : Place → Holds → Bool → Inner → Fragments → State → Reading State
OfFile place holds too_deep inner path state =
    Then (OpenOf place holds too_deep path state) (λ (file : Found). inner file.name file.bytes state)

-- an inner scope sees what stands around it, and changes none of it
abbrev pub InScope : Inner → Inner
InScope inner name bytes state = Then (inner name bytes (with_move Enter state)) (λ after. Give (with_move Leave after))

-- ---- statements

-- those that read no file
abbrev pub OfDeclaration : Place → Form → List BlockLine → Option FileFault → State → Reading State
OfDeclaration place (binding name value) block behind = OfBinding place name value
OfDeclaration place (block_binding name value) block behind = Give
OfDeclaration place (rule name) block behind = OfRule place name block behind
OfDeclaration place (build form) block behind = OfBuild place form block
OfDeclaration place (pool name) block behind = OfPool place name block behind
OfDeclaration place (defaults paths) block behind = OfDefault place paths
OfDeclaration place (includes path) block behind = Give
OfDeclaration place (subninja path) block behind = Give

abbrev pub OfForm : Holds → Bool → Inner → Place → Form → List BlockLine → Option FileFault → State → Reading State
OfForm holds too_deep inner place (binding name value) = OfDeclaration place (binding name value)
OfForm holds too_deep inner place (block_binding name value) = OfDeclaration place (block_binding name value)
OfForm holds too_deep inner place (rule name) = OfDeclaration place (rule name)
OfForm holds too_deep inner place (build form) = OfDeclaration place (build form)
OfForm holds too_deep inner place (pool name) = OfDeclaration place (pool name)
OfForm holds too_deep inner place (defaults paths) = OfDeclaration place (defaults paths)
OfForm holds too_deep inner place (includes path) = λ block behind. OfFile place holds too_deep inner path
OfForm holds too_deep inner place (subninja path) = λ block behind. OfFile place holds too_deep (InScope inner) path

abbrev pub place_of : List ℕ → Group → Place
place_of file group = record { file = file; line = group.head.number }

-- the fault behind the last statement
abbrev pub if_last : List Group → Option FileFault → Option FileFault
if_last [] fault = fault
if_last (group ∷ groups) fault = None

-- the statements, and then the fault at which the text stops
abbrev pub OfGroups : Holds → Bool → Inner → List ℕ → Option FileFault → List Group → State → Reading State
OfGroups holds too_deep inner file fault [] state = Cut fault (Give state)
OfGroups holds too_deep inner file fault (group ∷ groups) state =
    Then (OfForm holds too_deep inner (place_of file group) group.head.form group.block (if_last groups fault) state)
    (OfGroups holds too_deep inner file fault groups)

-- ---- files

-- a build file has at most 64 MiB (this project's own)
abbrev pub largest_file : ℕ
largest_file = 64 * 1024 * 1024

abbrev pub first_line : List ℕ → Place
first_line file = record { file = file; line = 1 }

abbrev pub fault_in : List ℕ → Fault → FileFault
fault_in file fault = fault_at (record { file = file; line = fault.line }) (Line fault.kind)

-- what a text says, and its fault
pub record Lexed : Type 0 where
  pub said : List Said
  pub fault : Option Fault

abbrev pub OfText : Holds → Bool → Inner → Inner
OfText holds too_deep inner file text state =
    Where (λ (lexed : Lexed). IsRead text lexed.said lexed.fault) (λ lexed.
    OfGroups holds too_deep inner file (option_map (fault_in file) lexed.fault) (groups_of lexed.said) state)

abbrev pub OfBytes : Holds → Bool → Inner → Inner
OfBytes holds too_deep inner file bytes state =
    Unless (largest_file < length bytes) (fault_at (first_line file) (Line TooLarge))
    (Unless (¬ IsUtf8 bytes) (fault_at (first_line file) NotUtf8)
    (OfText holds too_deep inner file bytes state))

abbrev pub None_deeper : Inner
None_deeper file bytes = Give

-- a file in which files may stand so many levels deep
abbrev pub Reads : Holds → ℕ → Inner
Reads holds zero = OfBytes holds true None_deeper
Reads holds (suc levels) = OfBytes holds false (Reads holds levels)

-- whether no file may stand below, and what those below say
abbrev pub too_deep_at : ℕ → Bool
too_deep_at zero = true
too_deep_at (suc levels) = false

abbrev pub inner_at : Holds → ℕ → Inner
inner_at holds zero = None_deeper
inner_at holds (suc levels) = Reads holds levels

-- the main file is at depth 1, and no file is deeper than 64 (this project's own)
abbrev pub deepest : ℕ
deepest = 63
