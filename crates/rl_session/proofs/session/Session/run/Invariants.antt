use Rattle.rl_session.proofs.Common.{◌≡◌, ◌≤◌, take, length, vec_len, vec_capacity, Run, origin}
use Rattle.rl_session.proofs.session.Session.run.Given as goal

abbrev pub invariant-loop-command : goal.invariant-loop-command
invariant-loop-command l = record {
  run : Run l.fn.self (take l.command-index l.commands) l.replies.items l.self;
  count : vec_len l.replies ≡ l.command-index;
  origin : origin l.self ≡ origin l.fn.self;
  room : length l.commands ≤ vec_capacity l.replies;
}
