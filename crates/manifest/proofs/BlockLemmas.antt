-- Where the lines of a block end.
use Rattle.std.proofs.Common.{◌≡◌, ◌≤◌, ℕ, zero, suc, Bool, true, false, List, [], ◌∷◌, ◌++◌, map, length, take, drop, refl, sym, ap, ◌∙◌, arith}
use Rattle.std.proofs.lemmas.List.{take-append-drop, map-append}
use Rattle.lexer.specs.declared.statement.Line.{Line}
use Rattle.lexer.specs.Said.{Said, said_of}
use Rattle.manifest.specs.Blocks.{BlockLine, is_of_block, block_line, block_lines, grouped, groups_of, lines_in_front, IsSplit}

pub front_within : (all : List Said) → lines_in_front all ≤ length all
front_within [] = omega arith
front_within (said ∷ rest) = by (front_within rest) (is_of_block said.form) refl
  where
    by : lines_in_front rest ≤ length rest → (b : Bool) → is_of_block said.form ≡ b → lines_in_front (said ∷ rest) ≤ length (said ∷ rest)
    by more true is = rw is (omega (arith, more))
    by more false is = rw is (omega arith)

front_block : (all : List Said) → (grouped all).block ≡ block_lines (take (lines_in_front all) all)
front_block [] = refl
front_block (said ∷ rest) = by (front_block rest) (is_of_block said.form) refl
  where
    by : (grouped rest).block ≡ block_lines (take (lines_in_front rest) rest) → (b : Bool) → is_of_block said.form ≡ b → (grouped (said ∷ rest)).block ≡ block_lines (take (lines_in_front (said ∷ rest)) (said ∷ rest))
    by more true is = rw is (ap (λ (lines : List BlockLine). block_line said.number said.form ++ lines) more)
    by more false is = rw is refl

front_groups : (all : List Said) → (grouped all).groups ≡ groups_of (drop (lines_in_front all) all)
front_groups [] = refl
front_groups (said ∷ rest) = by (front_groups rest) (is_of_block said.form) refl
  where
    by : (grouped rest).groups ≡ groups_of (drop (lines_in_front rest) rest) → (b : Bool) → is_of_block said.form ≡ b → (grouped (said ∷ rest)).groups ≡ groups_of (drop (lines_in_front (said ∷ rest)) (said ∷ rest))
    by more true is = rw is more
    by more false is = let none : lines_in_front (said ∷ rest) ≡ 0 = rw is refl in ap groups_of (ap (λ (n : ℕ). drop n (said ∷ rest)) (sym none))

map_take : (n : ℕ) (lines : List Line) → map said_of (take n lines) ≡ take n (map said_of lines)
map_take zero lines = refl
map_take (suc n) [] = refl
map_take (suc n) (line ∷ lines) = ap (λ (rest : List Said). said_of line ∷ rest) (map_take n lines)

map_drop : (n : ℕ) (lines : List Line) → map said_of (drop n lines) ≡ drop n (map said_of lines)
map_drop zero lines = refl
map_drop (suc n) [] = refl
map_drop (suc n) (line ∷ lines) = map_drop n lines

map_length : (lines : List Line) → length (map said_of lines) ≡ length lines
map_length [] = refl
map_length (line ∷ lines) = ap suc (map_length lines)

pub within : (lines : List Line) (n : ℕ) → n ≡ lines_in_front (map said_of lines) → n ≤ length lines
within lines n is = let low = front_within (map said_of lines) in let same = map_length lines in omega (arith, low, same, is)

pub is_split : (lines : List Line) (n : ℕ) → n ≡ lines_in_front (map said_of lines)
    → IsSplit (map said_of lines) (map said_of (take n lines)) (map said_of (drop n lines))
is_split lines n is = record {
  whole = ap (map said_of) (sym (take-append-drop n lines)) ∙ map-append said_of (take n lines) (drop n lines);
  block_is = front_block (map said_of lines) ∙ ap block_lines (ap (λ (m : ℕ). take m (map said_of lines)) (sym is) ∙ sym (map_take n lines));
  groups_are = front_groups (map said_of lines) ∙ ap groups_of (ap (λ (m : ℕ). drop m (map said_of lines)) (sym is) ∙ sym (map_drop n lines));
}
