use Rattle.rl_base.proofs.Queue.LeadLemmas.{heard, marked, new_leads, nothing, placed, whole, with_texts}
use Rattle.rl_base.proofs.reports.no_step_is_lost.Goals as goal

pub returns : goal.returns
returns c = record { new = new_leads; heard = heard; placed = placed; marked = marked; nothing = nothing; with_texts = with_texts; whole = whole }
