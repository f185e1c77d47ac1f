use Rattle.nj_run.proofs.Words.{no_words_ask, many_words_ask, zero_in_front, plus_in_front, why_asked, audit_asked, audit_all_asked, no_number, too_large, unknown, help}
use Rattle.nj_run.proofs.words_laws.worked_words.Goals as goal

pub returns : goal.returns
returns c = record { defaults = no_words_ask; given = many_words_ask; zero_in_front = zero_in_front; plus_in_front = plus_in_front; why = why_asked; audit = audit_asked; audit_all = audit_all_asked; no_number = no_number; too_large = too_large; unknown = unknown; help = help }
