-- Characters that stand together in a build file (manual: "Lexical syntax").
use Rattle.std.specs.Prelude.{ℕ, Bool, not, List, [], ◌∷◌, ◌==◌, ◌&&◌, ◌||◌, cond, nat_le}
use Rattle.lexer.specs.declared.characters.Class.{Class}
use Rattle.lexer.specs.declared.characters.Class.TheVariants.{Space, Name, BareName, Path, Value, Comment}

-- ASCII letters, ASCII digits, `_`, `.` and `-`
abbrev pub is_name : ℕ → Bool
is_name b = (nat_le 97 b && nat_le b 122) || (nat_le 65 b && nat_le b 90) || (nat_le 48 b && nat_le b 57) || b == 95 || b == 46 || b == 45

abbrev pub is_of : Class → ℕ → Bool
is_of Space b = b == 32
is_of Name b = is_name b
-- no dot
is_of BareName b = is_name b && not (b == 46)
-- all but NUL, tab, LF, CR, space, dollar, colon and bar
is_of Path b = not (b == 0 || b == 9 || b == 10 || b == 13 || b == 32 || b == 36 || b == 58 || b == 124)
-- all but NUL, LF, CR and dollar
is_of Value b = not (b == 0 || b == 10 || b == 13 || b == 36)
-- all but NUL, LF and CR
is_of Comment b = not (b == 0 || b == 10 || b == 13)

-- the longest front of a class, and what stands behind it
abbrev pub run_of : Class → List ℕ → List ℕ
run_of class [] = []
run_of class (b ∷ bytes) = cond (is_of class b) (b ∷ run_of class bytes) []

abbrev pub behind_run : Class → List ℕ → List ℕ
behind_run class [] = []
behind_run class (b ∷ bytes) = cond (is_of class b) (behind_run class bytes) (b ∷ bytes)

-- where a run ends
abbrev pub is_stop : Class → ℕ → Bool
is_stop class b = not (is_of class b)
