use Rattle.std.proofs.Common.{◌≡◌, ◌∙◌, sym, ap, ℕ, take, drop}
use Rattle.std.specs.List.{prefix_len}
use Rattle.lexer.specs.Characters.{is_of}
use Rattle.lexer.proofs.Cuts.{cut_behind_run, run_is}
use Rattle.lexer.proofs.characters.split_run.Goals as goal

pub split_at-requires : goal.split_at-requires
split_at-requires c = rw (c.run_len.ensures, c.as_bytes.ensures.value) (cut_behind_run c.args.class c.args.text.now c.utf8.text)

pub returns-clause-run : goal.returns-clause-run
returns-clause-run c =
    let len : c.run_len.result ≡ prefix_len (is_of c.args.class) c.args.text.now = c.run_len.ensures ∙ ap (prefix_len (is_of c.args.class)) c.as_bytes.ensures.value in
    c.split_at.ensures.front ∙ (ap (λ (n : ℕ). take n c.args.text.now) len ∙ sym (run_is c.args.class c.args.text.now).0)

pub returns-clause-rest : goal.returns-clause-rest
returns-clause-rest c =
    let len : c.run_len.result ≡ prefix_len (is_of c.args.class) c.args.text.now = c.run_len.ensures ∙ ap (prefix_len (is_of c.args.class)) c.as_bytes.ensures.value in
    c.split_at.ensures.back ∙ (ap (λ (n : ℕ). drop n c.args.text.now) len ∙ sym (run_is c.args.class c.args.text.now).1)
