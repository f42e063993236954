use Rattle.rl_session.proofs.Common.{◌≡◌, ◌∙◌, ap, arith, length, max, sym, subst, refl, IsUtf8, Ring, Line}
use Rattle.rl_session.proofs.Sessions.RestartLemmas.{Walks-nothing}
use Rattle.rl_session.proofs.Sessions.WatchLemmas.{changed_restarted, reported_restarted}
use Rattle.rl_session.proofs.session.Session.restart.Goals as goal

pub invariant_of-self-2 : goal.invariant_of-self-2
invariant_of-self-2 c = record {
  walks = Walks-nothing c.new.result c.renew.new.line.text c.new.ensures (subst (λ (l : Line). IsUtf8 l.text) (sym c.in_ok-renew.ensures.line) c.utf8.text);
  idle = ap (λ (r : Ring). r.killing) c.reset.ensures ∙ c.self.invariant.idle;
  grows_not = ap (λ (l : Line). l.grow) c.in_ok-renew.ensures.line ∙ c.self.invariant.grows_not;
}

pub returns-clause-ok : goal.returns-clause-ok
returns-clause-ok c =
    let old = c.self.inside.line in
    let limit : max old.limit (length c.args.text.now) ≡ old.limit = omega (arith, c.if-text-limit.false, c.limit.ensures.limit) in
    (c.if-not-is_char_boundary.ensures.test.0 refl, rw (← c.self.view_is, c.in_ok-renew.ensures.line, c.in_ok-renew.ensures.told, c.reset.ensures, c.new.ensures, limit) refl)

pub returns-clause-changed : goal.returns-clause-changed
returns-clause-changed c = λ asked from. changed_restarted asked c.args.text.now c.args.pos c.args.self.now _ (returns-clause-ok c).1 c.stands-2.ensures c.bounded-2.ensures from

pub returns-clause-reported : goal.returns-clause-reported
returns-clause-reported c = λ read from. reported_restarted read c.args.text.now c.args.pos c.args.self.now _ (returns-clause-ok c).1 c.stands-2.ensures c.bounded-2.ensures from
