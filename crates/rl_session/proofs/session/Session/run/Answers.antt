use Rattle.rl_session.proofs.Common.{arith, ◌≡◌, ◌+◌, ◌∙◌, ◌++◌, ◌∷◌, [], true, ap, sym, take, take_at_read, is_ok}
use Rattle.rl_session.proofs.Runs.RowLemmas.{Run-more, run_replays}
use Rattle.rl_session.proofs.session.Session.run.Goals as goal

pub loop-command-preserved : goal.loop-command-preserved
loop-command-preserved c =
    let pushed : is_ok c.push.result ≡ true = c.if-is_err.ensures.negation in
    let items : c.push.new.self.items ≡ c.loop-command.replies.items ++ c.apply-reply.result ∷ [] = rw pushed at c.push.ensures.items in
    let len = rw pushed at c.push.ensures.len in
    let next : take (c.loop-command.command-index + 1) c.args.commands.now ≡ take c.loop-command.command-index c.args.commands.now ++ c.command-item.result ∷ [] =
    (take_at_read c.args.commands.now c.loop-command.command-index c.command-item.result c.loop-command-test.true).1
    ∙ ap (λ d. take c.loop-command.command-index c.args.commands.now ++ d ∷ []) (sym c.command-item.is) in
    record {
      run = rw (items, next)
          (Run-more _ _ _ _ _ c.loop-command.self _ c.loop-command.invariant.run c.apply-reply.ensures.step);
      count = len ∙ ap (λ n. n + 1) c.loop-command.invariant.count;
      origin = c.apply-reply.ensures.origin ∙ c.loop-command.invariant.origin;
      room = omega (arith, c.loop-command.invariant.room, c.push.ensures.capacity);
    }

pub returns-clause-replays : goal.returns-clause-replays
returns-clause-replays c = λ start. run_replays start _ _ _ _ c.loop-command.invariant.run
