use Rattle.std.proofs.Common.{ap, ◌∙◌, codes, List, ℕ, [], Option, refl}
use Rattle.std.specs.Prelude.{unwrap_or}
use Rattle.std.specs.Borrow.{Bor}
use Rattle.clap.specs.Words.{found_of}
use Rattle.clap.proofs.WalkLemmas.{first_value-rows, one_text-rows, raw_values-rows}
use Rattle.nj_run.proofs.Values.{flag_is, text_or, texts_or}
use Rattle.nj_run.proofs.command.given.Goals as goal

pub returns : goal.returns
returns c =
    let found = found_of c.args.matches.now in
    record {
      folder = c.get_str.ensures ∙ first_value-rows found (codes "folder");
      file = ap (λ (text : Bor (List ℕ)). text.now) c.unwrap_or.ensures ∙ (text_or c.get_str-2.result _ ∙ ap (λ (o : Option (List ℕ)). unwrap_or o (codes "build.ninja")) (c.get_str-2.ensures ∙ first_value-rows found (codes "file")));
      jobs = c.number.ensures;
      keep = c.number-2.ensures;
      verbose = rw (← one_text-rows found (codes "verbose")) (flag_is _ c.get_flag.result c.get_flag.ensures.none c.get_flag.ensures.value c.get_flag.ensures.other);
      why = rw (← one_text-rows found (codes "why")) (flag_is _ c.get_flag-2.result c.get_flag-2.ensures.none c.get_flag-2.ensures.value c.get_flag-2.ensures.other);
      audit = rw (← one_text-rows found (codes "audit")) (flag_is _ c.get_flag-3.result c.get_flag-3.ensures.none c.get_flag-3.ensures.value c.get_flag-3.ensures.other);
      audit_all = rw (← one_text-rows found (codes "audit_all")) (flag_is _ c.get_flag-4.result c.get_flag-4.ensures.none c.get_flag-4.ensures.value c.get_flag-4.ensures.other);
      targets = rw (c.in_ok-from_slice.ensures.items, c.unwrap_or-2.ensures) (texts_or c.get_strs.result _ refl ∙ ap (λ (o : Option (List (List ℕ))). unwrap_or o []) (c.get_strs.ensures ∙ raw_values-rows found (codes "targets")));
    }
