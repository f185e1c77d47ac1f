-- What the block of a build statement binds, line by line.
use Rattle.std.proofs.Common.{◌≡◌, ℕ, ◌≤◌, ◌<◌, List, [], ◌∷◌, ◌++◌, ◌⊎◌, inl, inr, map, length, Option, None, Some, refl, sym, ap, ◌∙◌, subst, if◌then◌else◌, bytes_eq, ◌+◌, get_or, drop}
use Rattle.lexer.specs.Said.{Form, fragments_of, said_of}
use Rattle.lexer.specs.Said.Form.{binding, block_binding, rule, build, pool, defaults, includes, subninja}
use Rattle.lexer.specs.declared.statement.Line.{Line}
use Rattle.scopes.specs.declared.block.Block.{Block}
use Rattle.scopes.specs.Block.{block_value}
use Rattle.scopes.specs.Moves.{Move}
use Rattle.scopes.specs.Place.{value_of_name}
use Rattle.scopes.specs.Texts.{expansion_of_pieces, largest_value}
use Rattle.manifest.specs.declared.blocks.BlockLine.{BlockLine as KeptLine}
use Rattle.manifest.specs.Blocks.{BlockLine, IsBlockLineOf, block_line, block_lines, build_block}
use Rattle.manifest.specs.Keeping.{IsBlockOf, IsBlockRead, IsBoundOrLarge, IsLineRead}
use Rattle.manifest.specs.Expansion.{Bound, text_at, is_large}
use Rattle.std.proofs.lemmas.List.{drop_all}
use Rattle.manifest.proofs.BuildKeys.{drops_next}
use Rattle.manifest.proofs.TextLemmas.{expanded_at, large_true, large_false}

-- ---- a line

pub line_bound : (past : List Move) (number : ℕ) (form : Form) (line : KeptLine) (empty old new : Block) (text : List ℕ)
    → IsBlockLineOf number form (Some line) → ((name : List ℕ) → block_value empty name ≡ None)
    → text ≡ expansion_of_pieces (value_of_name empty past) line.value.now.pieces → length text ≤ largest_value
    → ((other : List ℕ) → block_value new other ≡ (if bytes_eq line.name.now other then Some text else block_value old other))
    → IsBoundOrLarge past (block_line number form) old new None
line_bound past number form line empty old new text says none is small binds =
    let same : text ≡ text_at past (fragments_of line.value.now) = is ∙ expanded_at empty past none line.value.now in
    subst (λ (lines : List BlockLine). IsBoundOrLarge past lines old new None) (sym says) (
      ap is_large (sym same) ∙ large_false text small,
      λ other. binds other ∙ ap (λ (t : List ℕ). if bytes_eq line.name.now other then Some t else block_value old other) same,
    )

pub line_large : (past : List Move) (number : ℕ) (form : Form) (line : KeptLine) (empty old : Block)
    → IsBlockLineOf number form (Some line) → ((name : List ℕ) → block_value empty name ≡ None)
    → largest_value < length (expansion_of_pieces (value_of_name empty past) line.value.now.pieces)
    → IsBoundOrLarge past (block_line number form) old old (Some line.line)
line_large past number form line empty old says none large =
    subst (λ (lines : List BlockLine). IsBoundOrLarge past lines old old (Some line.line)) (sym says) (
      ap is_large (sym (expanded_at empty past none line.value.now)) ∙ large_true _ large,
      refl,
      refl,
    )

-- ---- the lines so far

-- what is bound by now, and the lines that are left
pub record IsBlockSoFar (file : List ℕ) (past : List Move) (block : Block) (all left : List Line) : Type 0 where
  pub bound : List Bound
  pub kept : IsBlockOf block bound
  pub same : build_block file past (block_lines (map said_of all)) [] ≡ build_block file past (block_lines (map said_of left)) bound

at_most_one : (number : ℕ) (form : Form) → (block_line number form ≡ []) ⊎ ((line : BlockLine) × (block_line number form ≡ line ∷ []))
at_most_one number (binding name value) = inl refl
at_most_one number (block_binding name value) = inr (record { line = number; name = name; value = value }, refl)
at_most_one number (rule name) = inl refl
at_most_one number (build line) = inl refl
at_most_one number (pool name) = inl refl
at_most_one number (defaults paths) = inl refl
at_most_one number (includes path) = inl refl
at_most_one number (subninja path) = inl refl

-- what a line that is read leaves to be read
record Goes (file : List ℕ) (past : List Move) (lines rest : List BlockLine) (new : Block) (before : List Bound) : Type 0 where
  bound : List Bound
  kept : IsBlockOf new bound
  same : build_block file past (lines ++ rest) before ≡ build_block file past rest bound

goes : (file : List ℕ) (past : List Move) (lines rest : List BlockLine) (old new : Block) (before : List Bound)
    → (lines ≡ []) ⊎ ((line : BlockLine) × (lines ≡ line ∷ [])) → IsBoundOrLarge past lines old new None → IsBlockOf old before → Goes file past lines rest new before
goes file past [] rest old new before one read kept = record { bound = before; kept = λ name. ap (λ (b : Block). block_value b name) read.1 ∙ kept name; same = refl }
goes file past (line ∷ []) rest old new before one read kept = record {
  bound = record { name = line.name; value = text_at past line.value } ∷ before;
  kept = λ name. read.1 name ∙ ap (λ (other : Option (List ℕ)). if bytes_eq line.name name then Some (text_at past line.value) else other) (kept name);
  same = rw read.0 refl;
}
goes file past (line ∷ other ∷ lines) rest old new before (inl none) read kept = absurd (cc)
goes file past (line ∷ other ∷ lines) rest old new before (inr one) read kept = let e = one.1 in absurd (cc)

pub block_goes : (file : List ℕ) (past : List Move) (old new : Block) (all : List Line) (line : Line) (left : List Line)
    → IsLineRead past (said_of line) old new None → IsBlockSoFar file past old all (line ∷ left) → IsBlockSoFar file past new all left
block_goes file past old new all line left read so_far =
    let said = said_of line in
    let next = goes file past (block_line said.number said.form) (block_lines (map said_of left)) old new so_far.bound (at_most_one said.number said.form) read so_far.kept in
    record { bound = next.bound; kept = next.kept; same = so_far.same ∙ next.same }

stops_in : (file : List ℕ) (past : List Move) (lines rest : List BlockLine) (old new : Block) (before : List Bound) (number : ℕ)
    → IsBoundOrLarge past lines old new (Some number) → IsBlockOf old before
    → IsBlockRead (record { block = new; stop = Some number }) file (build_block file past (lines ++ rest) before)
stops_in file past [] rest old new before number read kept = absurd (let e = read.0 in cc)
stops_in file past (line ∷ lines) rest old new before number read kept =
    rw read.0 (record { bound = λ name. ap (λ (b : Block). block_value b name) read.2 ∙ kept name; fault = rw read.1 refl })

pub block_stops : (file : List ℕ) (past : List Move) (old new : Block) (all : List Line) (line : Line) (left : List Line) (number : ℕ)
    → IsLineRead past (said_of line) old new (Some number) → IsBlockSoFar file past old all (line ∷ left)
    → IsBlockRead (record { block = new; stop = Some number }) file (build_block file past (block_lines (map said_of all)) [])
block_stops file past old new all line left number read so_far =
    let said = said_of line in
    rw so_far.same (stops_in file past (block_line said.number said.form) (block_lines (map said_of left)) old new so_far.bound number read so_far.kept)

pub block_ends : (file : List ℕ) (past : List Move) (block : Block) (all : List Line)
    → IsBlockSoFar file past block all [] → IsBlockRead (record { block = block; stop = None }) file (build_block file past (block_lines (map said_of all)) [])
block_ends file past block all so_far = rw so_far.same (record { bound = so_far.kept; fault = refl })

-- ---- the loop

pub block_next : (file : List ℕ) (past : List Move) (old new : Block) (all : List Line) (i : ℕ) (line : Line) (stop : Option ℕ)
    → i < length all → line ≡ get_or all i line → stop ≡ None → IsLineRead past (said_of line) old new stop
    → IsBlockSoFar file past old all (drop i all) → IsBlockSoFar file past new all (drop (i + 1) all)
block_next file past old new all i line stop within is none read so_far =
    block_goes file past old new all line (drop (i + 1) all) (subst (IsLineRead past (said_of line) old new) none read)
    (subst (IsBlockSoFar file past old all) (drops_next all i line within is) so_far)

pub block_stop : (file : List ℕ) (past : List Move) (old new : Block) (all : List Line) (i : ℕ) (line : Line) (stop : Option ℕ) (number : ℕ)
    → i < length all → line ≡ get_or all i line → stop ≡ Some number → IsLineRead past (said_of line) old new stop
    → IsBlockSoFar file past old all (drop i all) → IsBlockRead (record { block = new; stop = Some number }) file (build_block file past (block_lines (map said_of all)) [])
block_stop file past old new all i line stop number within is some read so_far =
    block_stops file past old new all line (drop (i + 1) all) number (subst (IsLineRead past (said_of line) old new) some read)
    (subst (IsBlockSoFar file past old all) (drops_next all i line within is) so_far)

pub block_left : (file : List ℕ) (past : List Move) (block : Block) (all : List Line) (i : ℕ) → length all ≤ i
    → IsBlockSoFar file past block all (drop i all) → IsBlockRead (record { block = block; stop = None }) file (build_block file past (block_lines (map said_of all)) [])
block_left file past block all i past_end so_far = block_ends file past block all (subst (IsBlockSoFar file past block all) (drop_all i all past_end) so_far)
