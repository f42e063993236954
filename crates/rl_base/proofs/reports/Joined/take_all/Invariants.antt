use Rattle.rl_base.proofs.Common.{◌≡◌, fold, take, taken_in}
use Rattle.rl_base.proofs.reports.Joined.take_all.Given as goal

abbrev pub invariant-loop-report : goal.invariant-loop-report
invariant-loop-report l = l.self ≡ fold taken_in l.initial.self (take l.report-index l.reports)
