-- Rows that share no place.
use Rattle.std.proofs.Common.{◌≡◌, ◌⊎◌, inl, inr, ℕ, zero, suc, ◌<◌, ◌≤◌, List, [], ◌∷◌, ◌++◌, length, get_or, sym, ◌∙◌, ap, subst, arith, length-append}
use Rattle.std.proofs.Math.ListN.{set}
use Rattle.std.proofs.lemmas.Bool.{cases_eq, cases_lt}
use Rattle.std.proofs.lemmas.List.{get_or_append_left, get_or_at, get_or-set_same, get_or-set_other, length-set}
use Rattle.paths.specs.declared.line.Line.{Line}
use Rattle.paths.specs.declared.lines.Row.{Row}
use Rattle.paths.specs.Lists.{no_row, row_at, IsRowIn, AreRowsIn, AreApart, AreLaidOut, Extends, IsAppended}
use Rattle.paths.proofs.Flat.{left_rows, rows_push}

-- two rows that share no place
abbrev pub LieApart : Row → Row → Type 0
LieApart a b = (a.validations ≤ b.start) ⊎ (b.validations ≤ a.start)

turned : (a b : Row) → LieApart a b → LieApart b a
turned a b (inl front) = inr front
turned a b (inr behind) = inl behind

pub lies_at : (n : ℕ) (rows : List Row) (k : ℕ) → AreRowsIn n rows → k < length rows → IsRowIn n (row_at rows k)
lies_at n [] k lie within = absurd (omega (arith, within))
lies_at n (row ∷ rows) zero lie within = lie.0
lies_at n (row ∷ rows) (suc k) lie within = lies_at n rows k lie.1 (omega (arith, within))

pub row_within : (n : ℕ) (rows : List Row) (k : ℕ) → AreRowsIn n rows → k < length rows → (row_at rows k).validations ≤ n
row_within n rows k lie within = (lies_at n rows k lie within).within

pub apart_both : (rows : List Row) (j k : ℕ) → AreApart rows → j < length rows → k < length rows → (j ≡ k → ⊥) → LieApart (row_at rows j) (row_at rows k)
apart_both rows j k apart first second other = by (cases_lt j k)
  where
    by : (j < k) ⊎ (k ≤ j) → LieApart (row_at rows j) (row_at rows k)
    by (inl less) = apart j k less second
    by (inr more) = turned (row_at rows k) (row_at rows j) (apart k j (omega (arith, more, other)) first)

-- a row is set that is apart from all others
pub apart_set_but : (rows : List Row) (place : ℕ) (row : Row) → AreApart rows → ((k : ℕ) → k < length rows → (k ≡ place → ⊥) → LieApart (row_at rows k) row) → AreApart (set rows place row)
apart_set_but rows place row apart each j k less within = by (cases_eq j place) (cases_eq k place)
  where
    second : k < length rows
    second = let long = length-set rows place row in omega (arith, within, long)

    first : j < length rows
    first = let low = second in omega (arith, less, low)

    here : (e : ℕ) → e ≡ place → e < length rows → row_at (set rows place row) e ≡ row
    here e same low = ap (row_at (set rows place row)) same ∙ get_or-set_same rows place row no_row (omega (arith, low, same))

    there : (e : ℕ) → (e ≡ place → ⊥) → row_at (set rows place row) e ≡ row_at rows e
    there e other = get_or-set_other rows place e row no_row other

    by : (j ≡ place) ⊎ (j ≡ place → ⊥) → (k ≡ place) ⊎ (k ≡ place → ⊥) → LieApart (row_at (set rows place row) j) (row_at (set rows place row) k)
    by (inl one) (inl two) = absurd (omega (arith, less, one, two))
    by (inl one) (inr two) = subst (λ (a : Row). LieApart a (row_at (set rows place row) k)) (sym (here j one first)) (subst (LieApart row) (sym (there k two)) (turned (row_at rows k) row (each k second two)))
    by (inr one) (inl two) = subst (λ (a : Row). LieApart a (row_at (set rows place row) k)) (sym (there j one)) (subst (LieApart (row_at rows j)) (sym (here k two second)) (each j first one))
    by (inr one) (inr two) = subst (λ (a : Row). LieApart a (row_at (set rows place row) k)) (sym (there j one)) (subst (LieApart (row_at rows j)) (sym (there k two)) (apart j k less second))

pub apart_set : (rows : List Row) (place : ℕ) (row : Row) → AreApart rows → ((k : ℕ) → k < length rows → LieApart (row_at rows k) row) → AreApart (set rows place row)
apart_set rows place row apart each = apart_set_but rows place row apart (λ k low other. each k low)

-- one row more behind all others
apart_push : (n : ℕ) (rows : List Row) (row : Row) → AreRowsIn n rows → AreApart rows → n ≤ row.start → AreApart (rows ++ row ∷ [])
apart_push n rows row lie apart behind j k less within = by (cases_eq k (length rows))
  where
    size : length (rows ++ row ∷ []) ≡ suc (length rows)
    size = let sum = length-append rows (row ∷ []) in omega (arith, sum)

    front : (e : ℕ) → e < length rows → row_at (rows ++ row ∷ []) e ≡ row_at rows e
    front e low = get_or_append_left rows (row ∷ []) no_row e low

    by : (k ≡ length rows) ⊎ (k ≡ length rows → ⊥) → LieApart (row_at (rows ++ row ∷ []) j) (row_at (rows ++ row ∷ []) k)
    by (inl last) =
        let low : j < length rows = omega (arith, less, last) in
        let end = row_within n rows j lie low in
        subst (λ (a : Row). LieApart a (row_at (rows ++ row ∷ []) k)) (sym (front j low)) (subst (LieApart (row_at rows j)) (sym (get_or_at rows row [] no_row k (sym last))) (inl (omega (arith, end, behind))))
    by (inr other) =
        let long = size in
        let low : k < length rows = omega (arith, within, other, long) in
        subst (λ (a : Row). LieApart a (row_at (rows ++ row ∷ []) k)) (sym (front j (omega (arith, less, low)))) (subst (LieApart (row_at rows j)) (sym (front k low)) (apart j k less low))

pub pushed_rows : (old new : List ℕ) (rows after : List Row) (row : Row) (line : Line) → AreLaidOut (length old) rows → IsAppended old new line row → after ≡ rows ++ row ∷ [] → AreLaidOut (length new) after
pushed_rows old new rows after row line laid added grown = subst (AreLaidOut (length new)) (sym grown) record {
  lie = rows_push (length new) rows row (left_rows old new rows laid.lie added.extends) added.lies;
  apart = apart_push (length old) rows row laid.lie laid.apart added.behind;
}

-- what a refused line leaves
pub left_laid : (old new : List ℕ) (rows : List Row) → AreLaidOut (length old) rows → Extends old new → AreLaidOut (length new) rows
left_laid old new rows laid extends = record { lie = left_rows old new rows laid.lie extends; apart = laid.apart }
