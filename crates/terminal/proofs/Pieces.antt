-- What pieces do to a screen.
use Rattle.std.proofs.Common.{◌≡◌, ℕ, ◌≤◌, ◌==◌, List, [], ◌∷◌, ◌++◌, true, false, length, take, codes, Option, None, Some, MatchOption, IfSome, refl, sym, ap, ◌∙◌, append_assoc, append-nil, arith}
use Rattle.std.proofs.lemmas.Bool.{eqb-true}
use Rattle.std.proofs.lemmas.List.{take_all}
use Rattle.std.specs.List.{flat_map}
use Rattle.terminal.specs.Screen.{Bytes, Draws, Over, Screen, Shows, drawing, piece_text, screen, up, written}

pub draws : (above old_rows stays new_rows : List ℕ) → Draws (drawing old_rows stays new_rows) (screen above old_rows) (screen (above ++ stays) new_rows)
draws above old_rows stays new_rows = (
  record { above = above; below = old_rows; cuts = true },
  refl,
  (
    record { above = above; below = []; cuts = true },
    (refl, refl),
    (
      record { above = above; below = []; cuts = false },
      refl,
      (
        record { above = above ++ stays; below = []; cuts = false },
        (refl, refl),
        (
          record { above = above ++ stays; below = []; cuts = true },
          refl,
          (
            record { above = above ++ stays; below = new_rows; cuts = true },
            refl,
            (record { above = above ++ stays; below = new_rows; cuts = false }, refl, refl),
          ),
        ),
      ),
    ),
  ),
)

-- a drawing shows what it is to show
pub drawn : (old_rows bytes stays new_rows : List ℕ) → bytes ≡ written (drawing old_rows stays new_rows) → Shows old_rows bytes stays new_rows
drawn old_rows bytes stays new_rows are = record {
  pieces = drawing old_rows stays new_rows;
  are = are;
  draw = λ above. draws above old_rows stays new_rows;
}

-- no bytes change nothing
pub nothing : (rows bytes : List ℕ) → bytes ≡ [] → Shows rows bytes [] rows
nothing rows bytes none = record {
  pieces = [];
  are = none;
  draw = λ above. ap (λ (text : List ℕ). screen text rows) (append-nil above);
}

-- where no rows are drawn, a text stays as it is
pub as_it_is : (bytes text : List ℕ) → bytes ≡ text → Shows [] bytes text []
as_it_is bytes text same = record {
  pieces = Bytes text ∷ [];
  are = same ∙ sym (append-nil text);
  draw = λ above. (screen (above ++ text) [], (refl, refl), refl);
}

-- ---- how a drawing is written

-- the parts one behind the other, and as they are written
pub in_a_row : (cut over wrap stays rows : List ℕ) → [] ++ cut ++ over ++ wrap ++ stays ++ cut ++ rows ++ wrap ≡ cut ++ (over ++ (wrap ++ (stays ++ (cut ++ (rows ++ (wrap ++ []))))))
in_a_row cut over wrap stays rows = simp (append_assoc, append-nil)

-- a list of no items
pub none : (xs : List ℕ) → (length xs == 0) ≡ true → xs ≡ []
none [] is = refl
none (x ∷ xs) is = absurd (omega (arith, eqb-true (length (x ∷ xs)) 0 is))

-- no rows are gone up over in nothing
pub over_none : (old rows : List ℕ) → (length rows == 0) ≡ true → old ≡ old ++ piece_text (Over rows)
over_none old rows is = rw (none rows is) (sym (append-nil old))

-- some are, by what the loop has put there, and what erases them
pub over_some : (old rows : List ℕ) (n : ℕ) → length rows ≤ n → (length rows == 0) ≡ false
    → (old ++ flat_map up (take n rows)) ++ (13 ∷ 27 ∷ codes "[J") ≡ old ++ piece_text (Over rows)
over_some old rows n all is = rw (take_all n rows all, is) (append_assoc old (flat_map up rows) (13 ∷ 27 ∷ codes "[J"))

-- what holds of an option by cases holds of what is in it
pub match_some : {T : Type 0} (A : Type 0) (B : T → Type 0) (o : Option T) → MatchOption o A B → IfSome o B
match_some A B None is = tt
match_some A B (Some x) is = is
