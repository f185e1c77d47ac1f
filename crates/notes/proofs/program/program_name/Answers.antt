use Rattle.std.proofs.Common.{rules, []}
use Rattle.std.specs.Char.{is_whitespace}
use Rattle.std.proofs.lemmas.Str.{NoCharPasses-byte}
use Rattle.notes.proofs.Names.{name_in, read_word, word_at}
use Rattle.notes.proofs.program.program_name.Goals as goal

pub loop-word-init : goal.loop-word-init
loop-word-init c = record {
  can_next = search rules;
  finite = search rules;
  left = ([], search rules);
}

pub loop-word-preserved : goal.loop-word-preserved
loop-word-preserved c =
    let step = c.in-Some.ensures.steps in
    let left = c.loop-word.invariant.left in
    record {
      can_next = search rules;
      finite = search rules;
      left = read_word c.args.command.now left.0 c.loop-word.word-iterator.rest.now step.0 c.in-Some.word.now c.next.new.self.rest.now left.1 step.1;
    }

pub loop-word-preserved-then-is_folder : goal.loop-word-preserved-then-is_folder
loop-word-preserved-then-is_folder c =
    let step = c.in-Some.ensures.steps in
    let left = c.loop-word.invariant.left in
    record {
      can_next = search rules;
      finite = search rules;
      left = read_word c.args.command.now left.0 c.loop-word.word-iterator.rest.now step.0 c.in-Some.word.now c.next.new.self.rest.now left.1 step.1;
    }

pub loop-word-preserved-then-eq : goal.loop-word-preserved-then-eq
loop-word-preserved-then-eq c =
    let step = c.in-Some.ensures.steps in
    let left = c.loop-word.invariant.left in
    record {
      can_next = search rules;
      finite = search rules;
      left = read_word c.args.command.now left.0 c.loop-word.word-iterator.rest.now step.0 c.in-Some.word.now c.next.new.self.rest.now left.1 step.1;
    }

pub returns-then-is_program : goal.returns-then-is_program
returns-then-is_program c =
    let step = c.in-Some.ensures.steps in
    let left = c.loop-word.invariant.left in
    name_in c.args.command.now c.in-Some.word.now c.last_part-name.result.now
    (word_at c.args.command.now left.0 c.loop-word.word-iterator.rest.now step.0 c.in-Some.word.now c.next.new.self.rest.now left.1 step.1)
    (λ k within low. NoCharPasses-byte is_whitespace c.in-Some.word.now k step.4 within low)
    c.last_part-name.ensures.stands c.last_part-name.ensures.last (c.is_program.ensures c.if-is_program.true)
