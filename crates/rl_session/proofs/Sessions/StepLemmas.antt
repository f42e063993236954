-- How what a command does becomes a step of a session.
use Rattle.rl_session.proofs.Common.{Bool, rules, Plan, Takes, Result, Refusal, Outcome, pair_step, pair_refused, replied, ◌≡◌, subst, Came, Does, answers, edit_course, readied, settled, State, Ends, Command, Reply}
use Rattle.rl_session.specs.declared.session.Reply.TheVariants as says
use Rattle.rl_session.specs.Commands.{Step}
use Rattle.rl_session.proofs.Sessions.ReplyLemmas.{returned}

-- a command that began where the ring was readied, and ended as it does
pub step_done : (command : Command) {old begun new : State} (left : State) {reply : Reply} → begun ≡ readied command old → Does begun command reply left → new ≡ settled command reply left → Ends new
    → Step old command reply new
step_done command {old} {begun} {new} left {reply} b d s e = record {
  left = left;
  does = subst (λ begun. Does begun command reply left) b d;
  settles = s;
  stands = e.stands;
  bounded = e.bounded;
  follows = e.follows;
}

-- an edit that answers yes or no was done, or cut short, whatever its plan is, which the search would open
pub answered_edit : (takes : Takes) (condition : Type 0) (plan : Plan Bool) (old new : State) (outcome : Result Bool Refusal) → condition
    → new.options ≡ old.options → Outcome pair_step pair_refused takes plan old.line new.line old.pair new.pair outcome → Came (edit_course takes condition plan answers (replied says.Answer (returned outcome))) old new
answered_edit takes condition plan old new outcome holds o d = search rules
