-- Lists in flat memory.
use Rattle.std.proofs.Common.{◌≡◌, ℕ, zero, suc, ◌+◌, ◌-◌, ◌<◌, ◌≤◌, List, [], ◌∷◌, ◌++◌, map, length, take, drop, get_or, refl, sym, ◌∙◌, ap, subst, arith, length-append}
use Rattle.std.proofs.lemmas.List.{get_or-map, map-append, take-append-le, drop-append-le, length-map}
use Rattle.std.proofs.Math.Seq.{drop-append_seam}
use Rattle.paths.specs.declared.line.Line.{Line}
use Rattle.paths.specs.declared.lines.Row.{Row}
use Rattle.paths.specs.Lists.{no_line, line_at, between, line_of, line_outputs, line_regular_inputs, line_inputs, line_paths, IsRowIn, AreRowsIn, Extends, IsAppended}

-- ---- parts of a list

take_split : (n i j : ℕ) (xs : List ℕ) → n ≡ i + j → take n xs ≡ take i xs ++ take j (drop i xs)
take_split n zero j xs sum = ap (λ (k : ℕ). take k xs) (sum ∙ omega arith)
take_split zero (suc i) j xs sum = absurd (omega (arith, sum))
take_split (suc n) (suc i) zero [] sum = refl
take_split (suc n) (suc i) (suc j) [] sum = refl
take_split (suc n) (suc i) j (x ∷ xs) sum = ap (λ (rest : List ℕ). x ∷ rest) (take_split n i j xs (omega (arith, sum)))

drop_split : (n i j : ℕ) (xs : List ℕ) → n ≡ i + j → drop n xs ≡ drop j (drop i xs)
drop_split n zero j xs sum = ap (λ (k : ℕ). drop k xs) (sum ∙ omega arith)
drop_split zero (suc i) j xs sum = absurd (omega (arith, sum))
drop_split (suc n) (suc i) zero [] sum = refl
drop_split (suc n) (suc i) (suc j) [] sum = refl
drop_split (suc n) (suc i) j (x ∷ xs) sum = drop_split n i j xs (omega (arith, sum))

-- two parts that lie one behind the other
pub between_split : (xs : List ℕ) (a b c : ℕ) → a ≤ b → b ≤ c → between xs a c ≡ between xs a b ++ between xs b c
between_split xs a b c ab bc =
    let whole : c - a ≡ (b - a) + (c - b) = omega (arith, ab, bc) in
    let place : b ≡ a + (b - a) = omega (arith, ab) in
    take_split (c - a) (b - a) (c - b) (drop a xs) whole
    ∙ ap (λ (rest : List ℕ). take (b - a) (drop a xs) ++ take (c - b) rest) (sym (drop_split b a (b - a) xs place))

-- what lies in front of what is put at the end
drop_length : {X : Type 0} (i : ℕ) (xs : List X) → length (drop i xs) ≡ length xs - i
drop_length zero xs = omega arith
drop_length (suc i) [] = omega arith
drop_length (suc i) (x ∷ xs) = drop_length i xs ∙ omega arith

pub between_more : (xs more : List ℕ) (a b : ℕ) → a ≤ b → b ≤ length xs → between (xs ++ more) a b ≡ between xs a b
between_more xs more a b ab fits =
    let front : a ≤ length xs = omega (arith, ab, fits) in
    let size = drop_length a xs in
    let within : b - a ≤ length (drop a xs) = omega (arith, size, ab, fits) in
    ap (take (b - a)) (drop-append-le a xs more front) ∙ take-append-le (b - a) (drop a xs) more within

-- what was put at the end
pub between_last : (xs part : List ℕ) (a b : ℕ) → a ≡ length xs → b ≡ length (xs ++ part) → between (xs ++ part) a b ≡ part
between_last xs part a b at_a at_b =
    let size = length-append xs part in
    let count : b - a ≡ length part = omega (arith, size, at_a, at_b) in
    ap (λ (n : ℕ). take (b - a) (drop n (xs ++ part))) at_a ∙ (ap (take (b - a)) (drop-append_seam xs part) ∙ (ap (λ (n : ℕ). take n part) count ∙ take_whole part))
  where
    take_whole : (ys : List ℕ) → take (length ys) ys ≡ ys
    take_whole [] = refl
    take_whole (y ∷ ys) = ap (λ (rest : List ℕ). y ∷ rest) (take_whole ys)

-- ---- rows

abbrev made : List ℕ → List ℕ → List ℕ → List ℕ → List ℕ → List ℕ → Line
made a b c d e f = record { explicit_outputs = a; implicit_outputs = b; explicit_inputs = c; implicit_inputs = d; order_only_inputs = e; validations = f }

pub same_line : (a b c d e f g h i j k l : List ℕ) → a ≡ g → b ≡ h → c ≡ i → d ≡ j → e ≡ k → f ≡ l → made a b c d e f ≡ made g h i j k l
same_line a b c d e f g h i j k l p q r s t u = cc

pub line_more : (xs more : List ℕ) (row : Row) → IsRowIn (length xs) row → line_of (xs ++ more) row ≡ line_of xs row
line_more xs more row lies =
    let a = between_more xs more row.start row.explicit_outputs lies.explicit_outputs (omega (arith, lies.implicit_outputs, lies.explicit_inputs, lies.implicit_inputs, lies.order_only_inputs, lies.validations, lies.within)) in
    let b = between_more xs more row.explicit_outputs row.implicit_outputs lies.implicit_outputs (omega (arith, lies.explicit_inputs, lies.implicit_inputs, lies.order_only_inputs, lies.validations, lies.within)) in
    let c = between_more xs more row.implicit_outputs row.explicit_inputs lies.explicit_inputs (omega (arith, lies.implicit_inputs, lies.order_only_inputs, lies.validations, lies.within)) in
    let d = between_more xs more row.explicit_inputs row.implicit_inputs lies.implicit_inputs (omega (arith, lies.order_only_inputs, lies.validations, lies.within)) in
    let e = between_more xs more row.implicit_inputs row.order_only_inputs lies.order_only_inputs (omega (arith, lies.validations, lies.within)) in
    let f = between_more xs more row.order_only_inputs row.validations lies.validations lies.within in
    same_line _ _ _ _ _ _ _ _ _ _ _ _ a b c d e f

row_wider : (xs more : List ℕ) (row : Row) → IsRowIn (length xs) row → IsRowIn (length (xs ++ more)) row
row_wider xs more row lies = record {
  explicit_outputs = lies.explicit_outputs;
  implicit_outputs = lies.implicit_outputs;
  explicit_inputs = lies.explicit_inputs;
  implicit_inputs = lies.implicit_inputs;
  order_only_inputs = lies.order_only_inputs;
  validations = lies.validations;
  within = let size = length-append xs more in omega (arith, size, lies.within);
}

pub lines_more : (xs more : List ℕ) (rows : List Row) → AreRowsIn (length xs) rows → map (line_of (xs ++ more)) rows ≡ map (line_of xs) rows
lines_more xs more [] lie = refl
lines_more xs more (row ∷ rows) lie =
    ap (λ (line : Line). line ∷ map (line_of (xs ++ more)) rows) (line_more xs more row lie.0) ∙ ap (λ (lines : List Line). line_of xs row ∷ lines) (lines_more xs more rows lie.1)

pub rows_wider : (xs more : List ℕ) (rows : List Row) → AreRowsIn (length xs) rows → AreRowsIn (length (xs ++ more)) rows
rows_wider xs more [] lie = tt
rows_wider xs more (row ∷ rows) lie = (row_wider xs more row lie.0, rows_wider xs more rows lie.1)

pub rows_push : (n : ℕ) (rows : List Row) (row : Row) → AreRowsIn n rows → IsRowIn n row → AreRowsIn n (rows ++ row ∷ [])
rows_push n [] row lie lies = (lies, tt)
rows_push n (first ∷ rows) row lie lies = (lie.0, rows_push n rows row lie.1 lies)

row_at : (n : ℕ) (rows : List Row) (e : ℕ) (d : Row) → e < length rows → AreRowsIn n rows → IsRowIn n (get_or rows e d)
row_at n [] e d within lie = absurd (omega (arith, within))
row_at n (row ∷ rows) zero d within lie = lie.0
row_at n (row ∷ rows) (suc e) d within lie = row_at n rows e d (omega (arith, within)) lie.1

-- the row of an edge, and its line
pub record IsRowOf (numbers : List ℕ) (line : Line) (row : Row) : Type 0 where
  pub lies : IsRowIn (length numbers) row
  pub is : line ≡ line_of numbers row

pub row_found : (numbers : List ℕ) (rows : List Row) (lines : List Line) (e place : ℕ) (row : Row) → map (line_of numbers) rows ≡ lines → AreRowsIn (length numbers) rows
    → place ≡ e → e < length lines → row ≡ get_or rows place row → IsRowOf numbers (line_at lines e) row
row_found numbers rows lines e place row view lie same within is =
    let size : length lines ≡ length rows = ap length (sym view) ∙ length-map rows (line_of numbers) in
    let fits : place < length rows = omega (arith, size, within, same) in
    let lies : IsRowIn (length numbers) row = subst (IsRowIn (length numbers)) (sym is) (row_at (length numbers) rows place row fits lie) in
    let at : line_at (map (line_of numbers) rows) place ≡ line_of numbers (get_or rows place row) = get_or-map (line_of numbers) rows place row no_line fits in
    record {
      lies = lies;
      is = ap (λ (l : List Line). line_at l e) (sym view) ∙ (ap (line_at (map (line_of numbers) rows)) (sym same) ∙ (at ∙ ap (line_of numbers) (sym is)));
    }

-- ---- what a line's lists are together

pub outputs_are : (numbers : List ℕ) (line : Line) (row : Row) → IsRowOf numbers line row → between numbers row.start row.implicit_outputs ≡ line_outputs line
outputs_are numbers line row of =
    between_split numbers row.start row.explicit_outputs row.implicit_outputs of.lies.explicit_outputs of.lies.implicit_outputs ∙ ap line_outputs (sym of.is)

pub regular_are : (numbers : List ℕ) (line : Line) (row : Row) → IsRowOf numbers line row → between numbers row.implicit_outputs row.implicit_inputs ≡ line_regular_inputs line
regular_are numbers line row of =
    between_split numbers row.implicit_outputs row.explicit_inputs row.implicit_inputs of.lies.explicit_inputs of.lies.implicit_inputs ∙ ap line_regular_inputs (sym of.is)

pub inputs_are : (numbers : List ℕ) (line : Line) (row : Row) → IsRowOf numbers line row → between numbers row.implicit_outputs row.order_only_inputs ≡ line_inputs line
inputs_are numbers line row of =
    let regular = regular_are numbers line row of in
    between_split numbers row.implicit_outputs row.implicit_inputs row.order_only_inputs (omega (arith, of.lies.explicit_inputs, of.lies.implicit_inputs)) of.lies.order_only_inputs
    ∙ (ap (λ (l : List ℕ). l ++ between numbers row.implicit_inputs row.order_only_inputs) regular ∙ ap (λ (l : Line). line_regular_inputs line ++ l.order_only_inputs) (sym of.is))

pub paths_are : (numbers : List ℕ) (line : Line) (row : Row) → IsRowOf numbers line row → between numbers row.start row.validations ≡ line_paths line
paths_are numbers line row of =
    let out = outputs_are numbers line row of in
    let ins = inputs_are numbers line row of in
    let split = between_split numbers row.start row.implicit_outputs row.validations (omega (arith, of.lies.explicit_outputs, of.lies.implicit_outputs))
    (omega (arith, of.lies.explicit_inputs, of.lies.implicit_inputs, of.lies.order_only_inputs, of.lies.validations)) in
    let also = between_split numbers row.implicit_outputs row.order_only_inputs row.validations (omega (arith, of.lies.explicit_inputs, of.lies.implicit_inputs, of.lies.order_only_inputs)) of.lies.validations in
    split ∙ (ap (λ (l : List ℕ). l ++ between numbers row.implicit_outputs row.validations) out
    ∙ ap (λ (l : List ℕ). line_outputs line ++ l) (also ∙ (ap (λ (l : List ℕ). l ++ between numbers row.order_only_inputs row.validations) ins
    ∙ ap (λ (l : Line). line_inputs line ++ l.validations) (sym of.is))))

-- ---- what a refused line leaves

pub left_lines : (old new : List ℕ) (rows : List Row) (lines : List Line) → map (line_of old) rows ≡ lines → AreRowsIn (length old) rows → Extends old new → map (line_of new) rows ≡ lines
left_lines old new rows lines view lie extends =
    ap (λ (l : List ℕ). map (line_of l) rows) extends.grows ∙ (lines_more old extends.more rows lie ∙ view)

pub left_rows : (old new : List ℕ) (rows : List Row) → AreRowsIn (length old) rows → Extends old new → AreRowsIn (length new) rows
left_rows old new rows lie extends = subst (λ (l : List ℕ). AreRowsIn (length l) rows) (sym extends.grows) (rows_wider old extends.more rows lie)

-- ---- one more line

pub pushed_lines : (old new : List ℕ) (rows after : List Row) (row : Row) (lines : List Line) (line : Line) → map (line_of old) rows ≡ lines → AreRowsIn (length old) rows → IsAppended old new line row
    → after ≡ rows ++ row ∷ [] → map (line_of new) after ≡ lines ++ line ∷ []
pushed_lines old new rows after row lines line view lie added grown =
    ap (map (line_of new)) grown ∙ (map-append (line_of new) rows (row ∷ [])
    ∙ (ap (λ (l : List Line). l ++ line_of new row ∷ []) (left_lines old new rows lines view lie added.extends) ∙ ap (λ (l : Line). lines ++ l ∷ []) added.is))
