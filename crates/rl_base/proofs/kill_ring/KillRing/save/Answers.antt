use Rattle.rl_base.proofs.Common.{All, Ring, subst, texts}
use Rattle.rl_base.specs.Saving.{Fits, IsSized}
use Rattle.rl_base.specs.declared.saving.Width.TheVariants.{Eight}
use Rattle.rl_base.proofs.kill_ring.KillRing.save.Goals as goal

pub returns-clause-loads : goal.returns-clause-loads
returns-clause-loads c = λ idle. record {
  ring = c.numbers.ensures.ring;
  idle = idle;
  fit = subst (All (Fits Eight)) c.numbers.ensures.numbers c.in_ok-put_numbers.ensures.ok.1;
  texts = subst (λ (r : Ring). All IsSized r.slots) c.self.view_is (subst (λ gs. All IsSized (texts gs)) c.all.ensures c.in_ok-put_slots.ensures.loads);
}
