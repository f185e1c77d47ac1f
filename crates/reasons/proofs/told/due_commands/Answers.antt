use Rattle.std.proofs.Common.{◌≡◌, ◌<◌, ◌∙◌, ℕ, List, Bool, All, filter, length, sym, ap, subst}
use Rattle.judge.specs.Dues.{due_at}
use Rattle.reasons.specs.Why.{AreNotPhony, AreWhy}
use Rattle.reasons.proofs.Telling.{not_phony, told_within}
use Rattle.reasons.proofs.told.due_commands.Goals as goal

pub tell_all-requires-clause-order : goal.tell_all-requires-clause-order
tell_all-requires-clause-order g c = subst (λ (l : List ℕ). All (λ e. e < length c.args.graph.now.manifest.lines) l) (sym {A = List ℕ} c.deref-2.ensures.value) c.in_ok-order.ensures.within

pub tell_all-requires-clause-commands : goal.tell_all-requires-clause-commands
tell_all-requires-clause-commands g c =
    subst (AreNotPhony c.args.graph.now) (sym {A = List Bool} c.deref.ensures.value)
    (not_phony c.args.graph.now c.args.due.now c.in_ok-flags.flags.items (length c.args.graph.now.manifest.lines) c.in_ok-flags.ensures.fits c.in_ok-flags.ensures.flags)

pub returns-clause-within : goal.returns-clause-within
returns-clause-within g c =
    told_within g.S.Texts.tells c.args.graph.now c.args.records.now c.deref.result.now (g.S.Texts.world c.args.site.now) (g.S.Texts.world c.tell_all.new.site) c.args.looks.now c.tell_all.new.looks c.tell_all.new.told.items c.in_ok-tell_all.ensures.all

pub returns-clause-told : goal.returns-clause-told
returns-clause-told g c =
    let flags = c.in_ok-flags.flags.items in
    record {
      order = c.in_ok-order.order.items;
      ordered = c.in_ok-order.ensures.ordered;
      same = c.in_ok-order.ensures.same;
      flags = flags;
      fits = c.in_ok-flags.ensures.fits;
      commands = c.in_ok-flags.ensures.flags;
      listed = c.in_ok-tell_all.ensures.listed ∙ (ap (λ (l : List Bool). filter (due_at l) c.deref-2.result.now) c.deref.ensures.value ∙ ap (filter (due_at flags)) c.deref-2.ensures.value);
      all = subst (λ (l : List Bool). AreWhy g.S.Texts.tells c.args.graph.now c.args.records.now l (g.S.Texts.world c.args.site.now) (g.S.Texts.world c.tell_all.new.site) c.args.looks.now c.tell_all.new.looks c.tell_all.new.told.items) c.deref.ensures.value c.in_ok-tell_all.ensures.all;
    }
