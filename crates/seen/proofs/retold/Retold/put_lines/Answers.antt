use Rattle.std.proofs.Common.{◌∙◌, ap, subst, sym, [], None, Option, Vec, Global, ℕ}
use Rattle.std.specs.Option.{option_map}
use Rattle.std.proofs.lemmas.Bool.{false≢true}
use Rattle.seen_true.specs.Going.{Notes}
use Rattle.seen.specs.declared.known.Known.{Known}
use Rattle.seen.proofs.Kept.{notes_as}
use Rattle.seen.specs.Begun.{told_world}
use Rattle.seen.proofs.Answered.{asks_fail, asks_more}
use Rattle.seen.proofs.retold.Retold.put_lines.Goals as goal

pub returns-in_err-put_behind-clause-asks : goal.returns-in_err-put_behind-clause-asks
returns-in_err-put_behind-clause-asks g c =
    asks_fail g.S.Texts.tells (told_world g.S.Texts.tells g.B.Beginning.begun (g.S.Texts.world c.args.self.now.site)) (told_world g.S.Texts.tells g.B.Beginning.begun (g.S.Texts.world c.put_base.new.self.site)) (told_world g.S.Texts.tells g.B.Beginning.begun (g.S.Texts.world c.put_behind.new.self.site)) c.in_ok-put_base.field-0 c.in_err-put_behind.field-0.0 c.from_residual-in_err-put_behind.result c.in_ok-put_base.ensures.asks
    c.in_err-put_behind.ensures.looks c.in_err-put_behind.ensures.cause c.in_err-put_behind.ensures.waits c.from_residual-in_err-put_behind.ensures.1

pub returns-clause-asks : goal.returns-clause-asks
returns-clause-asks g c =
    asks_more g.S.Texts.tells (told_world g.S.Texts.tells g.B.Beginning.begun (g.S.Texts.world c.args.self.now.site)) (told_world g.S.Texts.tells g.B.Beginning.begun (g.S.Texts.world c.put_base.new.self.site)) (told_world g.S.Texts.tells g.B.Beginning.begun (g.S.Texts.world c.put_behind.new.self.site)) c.in_ok-put_base.field-0 c.in_ok-put_behind.field-0 tt c.in_ok-put_base.ensures.asks
    c.in_ok-put_behind.ensures.looks c.in_ok-put_behind.ensures.cause c.in_ok-put_behind.ensures.waits

pub invariant_of-self : goal.invariant_of-self
invariant_of-self g c = record {
  one = c.args.self.now.one;
  begun = c.args.self.now.begun;
  counted = c.args.self.now.counted;
  hidden = c.args.self.now.hidden;
  makes = c.args.self.now.makes;
  room = c.args.self.now.room;
  begins = c.args.self.now.begins;
  so_far = c.args.self.now.so_far;
  started = c.args.self.now.started;
  numbers = c.args.self.now.numbers;
  owns = c.args.self.now.owns;
  here = c.args.self.now.here;
  stand = c.args.self.now.stand;
  kept = λ whole. absurd (false≢true (sym whole));
}

pub put_base-requires-clause-notes : goal.put_base-requires-clause-notes
put_base-requires-clause-notes g c =
    subst (λ (o : Option (Vec ℕ Global)). Notes g.S.Texts.tells g.B.Beginning.begun (option_map (λ text. text.items) o) c.args.self.now.noted.lines.items (g.S.Texts.world c.args.self.now.site)) (sym c.take-base.ensures.value) (c.args.self.now.kept c.if-self.false)

pub put_behind-requires-clause-notes : goal.put_behind-requires-clause-notes
put_behind-requires-clause-notes g c =
    subst (λ (k : Known). Notes g.S.Texts.tells g.B.Beginning.begun None k.lines.items (g.S.Texts.world c.put_base.new.self.site)) (sym c.in_ok-put_base.ensures.noted) c.in_ok-put_base.ensures.notes

pub invariant_of-self-2 : goal.invariant_of-self-2
invariant_of-self-2 g c = record {
  one = c.put_behind.new.self.one;
  begun = c.put_behind.new.self.begun;
  counted = c.put_behind.new.self.counted;
  hidden = c.put_behind.new.self.hidden;
  makes = c.put_behind.new.self.makes;
  room = c.put_behind.new.self.room;
  begins = c.put_behind.new.self.begins;
  so_far = c.put_behind.new.self.so_far;
  started = c.put_behind.new.self.started;
  numbers = c.put_behind.new.self.numbers;
  owns = c.put_behind.new.self.owns;
  here = c.put_behind.new.self.here;
  stand = c.put_behind.new.self.stand;
  kept = λ whole. notes_as g.S.Texts.tells g.B.Beginning.begun None (option_map (λ text. text.items) c.put_behind.new.self.base) [] c.let_go.new.self.lines.items (g.S.Texts.world c.put_behind.new.self.site) (sym (ap (option_map (λ text. text.items)) (c.in_ok-put_behind.ensures.base ∙ (c.in_ok-put_base.ensures.base ∙ c.take-base.ensures.after)))) (sym c.let_go.ensures) c.in_ok-put_behind.ensures.notes;
}
