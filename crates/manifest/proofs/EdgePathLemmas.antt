-- The paths of a build line, read one list after the other.
use Rattle.std.proofs.Common.{◌≡◌, false, ℕ, List, sym, subst}
use Rattle.lexer.specs.declared.statement.Value.{Value}
use Rattle.lexer.specs.declared.statement.BuildLine.{BuildLine}
use Rattle.lexer.specs.Said.{Fragments, paths_of, build_of}
use Rattle.scopes.specs.declared.all_scopes.Scopes.{Scopes}
use Rattle.scopes.specs.declared.block.Block.{Block}
use Rattle.scopes.specs.Moves.{Move}
use Rattle.scopes.specs.Scopes.{IsScopesOf}
use Rattle.scopes.specs.Place.{value_of_name}
use Rattle.manifest.specs.declared.path_reader.PathReader.{PathReader}
use Rattle.paths.specs.declared.line.Line.{Line}
use Rattle.paths.specs.Told.{texts_at}
use Rattle.manifest.specs.InNumbers.{IsLonger, AreAdded, numbers_of, paths_at}
use Rattle.manifest.proofs.Added.{added_on, longer_on, texts_stay}
use Rattle.manifest.specs.Expansion.{ArePaths}
use Rattle.manifest.specs.Declarations.{ArePathsOf, all_texts}
use Rattle.manifest.specs.Flags.{FlagsAfter}
use Rattle.manifest.proofs.FlagLemmas.{flags_append, flags_before}
use Rattle.manifest.proofs.ReaderLemmas.{flags_kept}

-- one list was read
pub record Call (value : List ℕ → List ℕ) (old new : PathReader) (before after : List (List ℕ)) (values : List Value) (found : List ℕ) : Type 0 where
  pub flags : FlagsAfter old new value (paths_of values)
  pub added : AreAdded before after found
  pub paths : new.has_empty ≡ false → new.has_large ≡ false → ArePaths value (paths_of values) (texts_at after found)

paths_kept : (old new : PathReader) (scopes : Scopes) (block : Block) (texts : List Fragments) (found : List (List ℕ)) (past : List Move) → old.scopes.now ≡ scopes → old.block.now ≡ block
    → (IsScopesOf old.scopes.now past → new.has_empty ≡ false → new.has_large ≡ false → ArePaths (value_of_name old.block.now past) texts found)
    → IsScopesOf scopes past → new.has_empty ≡ false → new.has_large ≡ false → ArePaths (value_of_name block past) texts found
paths_kept old new scopes block texts found past same_scopes same_block paths at empty large =
    subst (λ (now : Block). ArePaths (value_of_name now past) texts found) same_block
    (paths (subst (λ (now : Scopes). IsScopesOf now past) (sym same_scopes) at) empty large)

pub call_of : (old new : PathReader) (scopes : Scopes) (block : Block) (passed values : List Value) (before after : List (List ℕ)) (found : List ℕ) (past : List Move)
    → old.scopes.now ≡ scopes → old.block.now ≡ block → passed ≡ values → IsScopesOf scopes past
    → (IsScopesOf old.scopes.now past → FlagsAfter old new (value_of_name old.block.now past) (paths_of passed))
    → (IsScopesOf old.scopes.now past → new.has_empty ≡ false → new.has_large ≡ false → ArePaths (value_of_name old.block.now past) (paths_of passed) (texts_at after found))
    → AreAdded before after found → Call (value_of_name block past) old new before after values found
call_of old new scopes block passed values before after found past same_scopes same_block same at flags paths added =
    subst (λ (list : List Value). Call (value_of_name block past) old new before after list found) same (record {
      flags = flags_kept old new scopes block (paths_of passed) past same_scopes same_block flags at;
      added = added;
      paths = paths_kept old new scopes block (paths_of passed) (texts_at after found) past same_scopes same_block paths at;
    })

-- the six lists
pub record Calls (value : List ℕ → List ℕ) (old new : PathReader) (before after : List (List ℕ)) (build : BuildLine) (found : Line) : Type 0 where
  pub first : PathReader
  pub second : PathReader
  pub third : PathReader
  pub fourth : PathReader
  pub fifth : PathReader
  pub table1 : List (List ℕ)
  pub table2 : List (List ℕ)
  pub table3 : List (List ℕ)
  pub table4 : List (List ℕ)
  pub table5 : List (List ℕ)
  pub explicit_outputs : Call value old first before table1 build.explicit_outputs found.explicit_outputs
  pub implicit_outputs : Call value first second table1 table2 build.implicit_outputs found.implicit_outputs
  pub explicit_inputs : Call value second third table2 table3 build.explicit_inputs found.explicit_inputs
  pub implicit_inputs : Call value third fourth table3 table4 build.implicit_inputs found.implicit_inputs
  pub order_only_inputs : Call value fourth fifth table4 table5 build.order_only_inputs found.order_only_inputs
  pub validations : Call value fifth new table5 after build.validations found.validations

pub all_flags : (value : List ℕ → List ℕ) (old new : PathReader) (before after : List (List ℕ)) (build : BuildLine) (found : Line) → Calls value old new before after build found
    → FlagsAfter old new value (all_texts (build_of build))
all_flags value old new before after build found calls =
    flags_append old calls.first new value _ _ calls.explicit_outputs.flags
    (flags_append calls.first calls.second new value _ _ calls.implicit_outputs.flags
    (flags_append calls.second calls.third new value _ _ calls.explicit_inputs.flags
    (flags_append calls.third calls.fourth new value _ _ calls.implicit_inputs.flags
    (flags_append calls.fourth calls.fifth new value _ _ calls.order_only_inputs.flags calls.validations.flags))))

-- lists that were put into the table, one after the other
pub all_added : (t0 t1 t2 t3 t4 t5 t6 : List (List ℕ)) (line : Line)
    → AreAdded t0 t1 line.explicit_outputs → AreAdded t1 t2 line.implicit_outputs → AreAdded t2 t3 line.explicit_inputs
    → AreAdded t3 t4 line.implicit_inputs → AreAdded t4 t5 line.order_only_inputs → AreAdded t5 t6 line.validations → AreAdded t0 t6 (numbers_of line)
all_added t0 t1 t2 t3 t4 t5 t6 line a1 a2 a3 a4 a5 a6 =
    added_on t0 t1 t6 line.explicit_outputs _ a1
    (added_on t1 t2 t6 line.implicit_outputs _ a2
    (added_on t2 t3 t6 line.explicit_inputs _ a3
    (added_on t3 t4 t6 line.implicit_inputs _ a4
    (added_on t4 t5 t6 line.order_only_inputs line.validations a5 a6))))

-- what a list stands for in a table that has grown
later : (value : List ℕ → List ℕ) (old new : PathReader) (before middle after : List (List ℕ)) (values : List Value) (found : List ℕ) → Call value old new before middle values found
    → IsLonger middle after → new.has_empty ≡ false → new.has_large ≡ false → ArePaths value (paths_of values) (texts_at after found)
later value old new before middle after values found call longer empty large =
    subst (λ (texts : List (List ℕ)). ArePaths value (paths_of values) texts) (sym (texts_stay middle after found longer call.added.within)) (call.paths empty large)

pub all_paths : (value : List ℕ → List ℕ) (old new : PathReader) (before after : List (List ℕ)) (build : BuildLine) (found : Line) → Calls value old new before after build found
    → new.has_empty ≡ false → new.has_large ≡ false → ArePathsOf value (build_of build) (paths_at after found)
all_paths value old new before after build found calls empty large =
    let fifth = flags_before calls.fifth new value _ calls.validations.flags empty large in
    let fourth = flags_before calls.fourth calls.fifth value _ calls.order_only_inputs.flags fifth.0 fifth.1 in
    let third = flags_before calls.third calls.fourth value _ calls.implicit_inputs.flags fourth.0 fourth.1 in
    let second = flags_before calls.second calls.third value _ calls.explicit_inputs.flags third.0 third.1 in
    let first = flags_before calls.first calls.second value _ calls.implicit_outputs.flags second.0 second.1 in
    let g5 = calls.validations.added.grows in
    let g4 = longer_on calls.table4 calls.table5 after calls.order_only_inputs.added.grows g5 in
    let g3 = longer_on calls.table3 calls.table4 after calls.implicit_inputs.added.grows g4 in
    let g2 = longer_on calls.table2 calls.table3 after calls.explicit_inputs.added.grows g3 in
    let g1 = longer_on calls.table1 calls.table2 after calls.implicit_outputs.added.grows g2 in
    record {
      explicit_outputs = later value old calls.first before calls.table1 after build.explicit_outputs found.explicit_outputs calls.explicit_outputs g1 first.0 first.1;
      implicit_outputs = later value calls.first calls.second calls.table1 calls.table2 after build.implicit_outputs found.implicit_outputs calls.implicit_outputs g2 second.0 second.1;
      explicit_inputs = later value calls.second calls.third calls.table2 calls.table3 after build.explicit_inputs found.explicit_inputs calls.explicit_inputs g3 third.0 third.1;
      implicit_inputs = later value calls.third calls.fourth calls.table3 calls.table4 after build.implicit_inputs found.implicit_inputs calls.implicit_inputs g4 fourth.0 fourth.1;
      order_only_inputs = later value calls.fourth calls.fifth calls.table4 calls.table5 after build.order_only_inputs found.order_only_inputs calls.order_only_inputs g5 fifth.0 fifth.1;
      validations = calls.validations.paths empty large;
    }
