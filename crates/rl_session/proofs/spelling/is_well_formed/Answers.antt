use Rattle.rl_session.proofs.Common.{arith, [], split_parts}
use Rattle.rl_session.proofs.Scripts.SplitLemmas.{Lacks-by_index}
use Rattle.rl_session.proofs.Scripts.SpellingLemmas.{read_all, read_on, read_end, read_none}
use Rattle.rl_session.proofs.spelling.is_well_formed.Goals as goal

pub loop-after-init : goal.loop-after-init
loop-after-init c = record { read = ([], read_all c.args.escaped.now); utf8 = c.utf8.escaped }

pub loop-after-preserved : goal.loop-after-preserved
loop-after-preserved c =
    let parts = rw c.in-Some.is at (split_parts 92 c.loop-after.rest.now c.split_once.result c.split_once.ensures.cases (omega arith)) in
    record {
      read = (
        _,
        read_on c.args.escaped.now c.loop-after.invariant.read.0 c.loop-after.rest.now c.in-Some.field-0-0.now c.in-Some.after.now c.in-Some-escape.field-0-0
            c.in-Some-escape.after.now c.loop-after.invariant.read.1 parts.0 (Lacks-by_index 92 c.in-Some.field-0-0.now parts.1) c.in-Some-escape.ensures.cases,
      );
      utf8 = c.in-Some-escape.ensures.utf8;
    }

pub returns-in-None : goal.returns-in-None
returns-in-None c =
    let parts = rw c.in-Some.is at (split_parts 92 c.loop-after.rest.now c.split_once.result c.split_once.ensures.cases (omega arith)) in
    read_none c.args.escaped.now c.loop-after.invariant.read.0 c.loop-after.rest.now c.in-Some.field-0-0.now c.in-Some.after.now c.loop-after.invariant.read.1 parts.0
    (Lacks-by_index 92 c.in-Some.field-0-0.now parts.1) c.in-None.ensures.cases

pub returns : goal.returns
returns c =
    let parts = rw c.in_default.is at (split_parts 92 c.loop-after.rest.now c.split_once.result c.split_once.ensures.cases (omega arith)) in
    (_, read_end c.args.escaped.now c.loop-after.invariant.read.0 c.loop-after.rest.now c.loop-after.invariant.read.1 (Lacks-by_index 92 c.loop-after.rest.now parts))
