use Rattle.std.proofs.Common.{refl, sym, ◌∙◌}
use Rattle.std.proofs.lemmas.Result.{err_from_is_err_and}
use Rattle.lexer.specs.Said.{build_of}
use Rattle.paths.specs.declared.line.Line.{Line}
use Rattle.scopes.specs.Place.{value_of_name}
use Rattle.manifest.specs.Declarations.{all_texts}
use Rattle.manifest.specs.Places.{place_of}
use Rattle.manifest.proofs.Binds.{where_ok}
use Rattle.manifest.proofs.CheckLemmas.{noted_fault, none_noted, none_wrong, flags_fresh}
use Rattle.manifest.proofs.EdgePathLemmas.{Calls, call_of, all_added, all_flags, all_paths}
use Rattle.manifest.proofs.path_reader.PathReader.line.Goals as goal

pub returns-in_err-check-clause-said : goal.returns-in_err-check-clause-said
returns-in_err-check-clause-said c = λ past at.
    let s1 = c.numbers.ensures.scopes in
    let b1 = c.numbers.ensures.block in
    let s2 = c.numbers-2.ensures.scopes ∙ s1 in
    let b2 = c.numbers-2.ensures.block ∙ b1 in
    let s3 = c.numbers-3.ensures.scopes ∙ s2 in
    let b3 = c.numbers-3.ensures.block ∙ b2 in
    let s4 = c.numbers-4.ensures.scopes ∙ s3 in
    let b4 = c.numbers-4.ensures.block ∙ b3 in
    let s5 = c.numbers-5.ensures.scopes ∙ s4 in
    let b5 = c.numbers-5.ensures.block ∙ b4 in
    let line : Line = record { explicit_outputs = c.in_ok-numbers.field-0; implicit_outputs = c.in_ok-numbers-2.field-0; explicit_inputs = c.in_ok-numbers-3.field-0; implicit_inputs = c.in_ok-numbers-4.field-0; order_only_inputs = c.in_ok-numbers-5.field-0; validations = c.in_ok-numbers-6.field-0 } in
    let calls : Calls (value_of_name c.args.self.block.now past) c.args.self c.numbers-6.new.self c.args.table.now c.numbers-6.new.table c.args.build.now line = record {
      first = c.numbers.new.self;
      second = c.numbers-2.new.self;
      third = c.numbers-3.new.self;
      fourth = c.numbers-4.new.self;
      fifth = c.numbers-5.new.self;
      table1 = c.numbers.new.table;
      table2 = c.numbers-2.new.table;
      table3 = c.numbers-3.new.table;
      table4 = c.numbers-4.new.table;
      table5 = c.numbers-5.new.table;
      explicit_outputs = call_of c.args.self c.numbers.new.self c.args.self.scopes.now c.args.self.block.now _ _ c.args.table.now c.numbers.new.table c.in_ok-numbers.field-0 past refl refl c.as_slice.ensures at (c.in_ok-numbers.ensures.flags past) (c.in_ok-numbers.ensures.paths past) c.in_ok-numbers.ensures.added;
      implicit_outputs = call_of c.numbers.new.self c.numbers-2.new.self c.args.self.scopes.now c.args.self.block.now _ _ c.numbers.new.table c.numbers-2.new.table c.in_ok-numbers-2.field-0 past s1 b1 c.as_slice-2.ensures at (c.in_ok-numbers-2.ensures.flags past) (c.in_ok-numbers-2.ensures.paths past) c.in_ok-numbers-2.ensures.added;
      explicit_inputs = call_of c.numbers-2.new.self c.numbers-3.new.self c.args.self.scopes.now c.args.self.block.now _ _ c.numbers-2.new.table c.numbers-3.new.table c.in_ok-numbers-3.field-0 past s2 b2 c.as_slice-3.ensures at (c.in_ok-numbers-3.ensures.flags past) (c.in_ok-numbers-3.ensures.paths past) c.in_ok-numbers-3.ensures.added;
      implicit_inputs = call_of c.numbers-3.new.self c.numbers-4.new.self c.args.self.scopes.now c.args.self.block.now _ _ c.numbers-3.new.table c.numbers-4.new.table c.in_ok-numbers-4.field-0 past s3 b3 c.as_slice-4.ensures at (c.in_ok-numbers-4.ensures.flags past) (c.in_ok-numbers-4.ensures.paths past) c.in_ok-numbers-4.ensures.added;
      order_only_inputs = call_of c.numbers-4.new.self c.numbers-5.new.self c.args.self.scopes.now c.args.self.block.now _ _ c.numbers-4.new.table c.numbers-5.new.table c.in_ok-numbers-5.field-0 past s4 b4 c.as_slice-5.ensures at (c.in_ok-numbers-5.ensures.flags past) (c.in_ok-numbers-5.ensures.paths past) c.in_ok-numbers-5.ensures.added;
      validations = call_of c.numbers-5.new.self c.numbers-6.new.self c.args.self.scopes.now c.args.self.block.now _ _ c.numbers-5.new.table c.numbers-6.new.table c.in_ok-numbers-6.field-0 past s5 b5 c.as_slice-6.ensures at (c.in_ok-numbers-6.ensures.flags past) (c.in_ok-numbers-6.ensures.paths past) c.in_ok-numbers-6.ensures.added;
    } in
    let noted = flags_fresh c.args.self c.numbers-6.new.self _ (all_texts (build_of c.args.build.now)) c.requires.empty c.requires.large (all_flags _ _ _ _ _ _ line calls) in
    let failed = err_from_is_err_and c.from_residual-in_err-check.result c.from_residual-in_err-check.ensures.1 in
    rw (failed.1, failed.2) (noted_fault (place_of c.args.place.now) _ _ _ _ _ c.in_err-check.field-0.0 noted.0 noted.1 c.in_err-check.ensures)

pub returns-clause-said : goal.returns-clause-said
returns-clause-said c = λ past at.
    let s1 = c.numbers.ensures.scopes in
    let b1 = c.numbers.ensures.block in
    let s2 = c.numbers-2.ensures.scopes ∙ s1 in
    let b2 = c.numbers-2.ensures.block ∙ b1 in
    let s3 = c.numbers-3.ensures.scopes ∙ s2 in
    let b3 = c.numbers-3.ensures.block ∙ b2 in
    let s4 = c.numbers-4.ensures.scopes ∙ s3 in
    let b4 = c.numbers-4.ensures.block ∙ b3 in
    let s5 = c.numbers-5.ensures.scopes ∙ s4 in
    let b5 = c.numbers-5.ensures.block ∙ b4 in
    let line : Line = record { explicit_outputs = c.in_ok-numbers.field-0; implicit_outputs = c.in_ok-numbers-2.field-0; explicit_inputs = c.in_ok-numbers-3.field-0; implicit_inputs = c.in_ok-numbers-4.field-0; order_only_inputs = c.in_ok-numbers-5.field-0; validations = c.in_ok-numbers-6.field-0 } in
    let calls : Calls (value_of_name c.args.self.block.now past) c.args.self c.numbers-6.new.self c.args.table.now c.numbers-6.new.table c.args.build.now line = record {
      first = c.numbers.new.self;
      second = c.numbers-2.new.self;
      third = c.numbers-3.new.self;
      fourth = c.numbers-4.new.self;
      fifth = c.numbers-5.new.self;
      table1 = c.numbers.new.table;
      table2 = c.numbers-2.new.table;
      table3 = c.numbers-3.new.table;
      table4 = c.numbers-4.new.table;
      table5 = c.numbers-5.new.table;
      explicit_outputs = call_of c.args.self c.numbers.new.self c.args.self.scopes.now c.args.self.block.now _ _ c.args.table.now c.numbers.new.table c.in_ok-numbers.field-0 past refl refl c.as_slice.ensures at (c.in_ok-numbers.ensures.flags past) (c.in_ok-numbers.ensures.paths past) c.in_ok-numbers.ensures.added;
      implicit_outputs = call_of c.numbers.new.self c.numbers-2.new.self c.args.self.scopes.now c.args.self.block.now _ _ c.numbers.new.table c.numbers-2.new.table c.in_ok-numbers-2.field-0 past s1 b1 c.as_slice-2.ensures at (c.in_ok-numbers-2.ensures.flags past) (c.in_ok-numbers-2.ensures.paths past) c.in_ok-numbers-2.ensures.added;
      explicit_inputs = call_of c.numbers-2.new.self c.numbers-3.new.self c.args.self.scopes.now c.args.self.block.now _ _ c.numbers-2.new.table c.numbers-3.new.table c.in_ok-numbers-3.field-0 past s2 b2 c.as_slice-3.ensures at (c.in_ok-numbers-3.ensures.flags past) (c.in_ok-numbers-3.ensures.paths past) c.in_ok-numbers-3.ensures.added;
      implicit_inputs = call_of c.numbers-3.new.self c.numbers-4.new.self c.args.self.scopes.now c.args.self.block.now _ _ c.numbers-3.new.table c.numbers-4.new.table c.in_ok-numbers-4.field-0 past s3 b3 c.as_slice-4.ensures at (c.in_ok-numbers-4.ensures.flags past) (c.in_ok-numbers-4.ensures.paths past) c.in_ok-numbers-4.ensures.added;
      order_only_inputs = call_of c.numbers-4.new.self c.numbers-5.new.self c.args.self.scopes.now c.args.self.block.now _ _ c.numbers-4.new.table c.numbers-5.new.table c.in_ok-numbers-5.field-0 past s4 b4 c.as_slice-5.ensures at (c.in_ok-numbers-5.ensures.flags past) (c.in_ok-numbers-5.ensures.paths past) c.in_ok-numbers-5.ensures.added;
      validations = call_of c.numbers-5.new.self c.numbers-6.new.self c.args.self.scopes.now c.args.self.block.now _ _ c.numbers-5.new.table c.numbers-6.new.table c.in_ok-numbers-6.field-0 past s5 b5 c.as_slice-6.ensures at (c.in_ok-numbers-6.ensures.flags past) (c.in_ok-numbers-6.ensures.paths past) c.in_ok-numbers-6.ensures.added;
    } in
    let noted = flags_fresh c.args.self c.numbers-6.new.self _ (all_texts (build_of c.args.build.now)) c.requires.empty c.requires.large (all_flags _ _ _ _ _ _ line calls) in
    let none = none_noted (place_of c.args.place.now) c.numbers-6.new.self.has_empty c.numbers-6.new.self.has_large c.in_ok-check.ensures in
    none_wrong (place_of c.args.place.now) _ _ _ _ (sym noted.0 ∙ none.0) (sym noted.1 ∙ none.1) (where_ok _ _ _ _ (all_paths _ _ _ _ _ _ line calls none.0 none.1) refl)

pub returns-clause-added : goal.returns-clause-added
returns-clause-added c =
    all_added _ _ _ _ _ _ _ (record { explicit_outputs = c.in_ok-numbers.field-0; implicit_outputs = c.in_ok-numbers-2.field-0; explicit_inputs = c.in_ok-numbers-3.field-0; implicit_inputs = c.in_ok-numbers-4.field-0; order_only_inputs = c.in_ok-numbers-5.field-0; validations = c.in_ok-numbers-6.field-0 })
    c.in_ok-numbers.ensures.added c.in_ok-numbers-2.ensures.added c.in_ok-numbers-3.ensures.added c.in_ok-numbers-4.ensures.added c.in_ok-numbers-5.ensures.added c.in_ok-numbers-6.ensures.added
