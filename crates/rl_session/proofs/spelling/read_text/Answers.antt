use Rattle.rl_session.proofs.Common.{arith, ◌<◌, ◌∷◌, length, length-append, string_bytes, err_from_is_err_and, split_parts}
use Rattle.rl_session.proofs.Scripts.SplitLemmas.{Lacks-by_index}
use Rattle.rl_session.proofs.Scripts.SpellingLemmas.{read_on, read_end, read_none, read_some}
use Rattle.rl_session.proofs.spelling.read_text.Goals as goal

pub loop-plain-preserved : goal.loop-plain-preserved
loop-plain-preserved c =
    let parts = rw c.in-Some.is at (split_parts 92 c.loop-plain.rest.now c.split_once.result c.split_once.ensures.cases (omega arith)) in
    record {
      read =
          rw (c.in_ok-push-in-Some-escape.ensures.bytes, c.in_ok-push_str.ensures.bytes)
          (read_on c.args.escaped.now (string_bytes c.loop-plain.text) c.loop-plain.rest.now c.in-Some.plain.now c.in-Some.after.now c.in-Some-escape.c c.in-Some-escape.after.now
          c.loop-plain.invariant.read parts.0 (Lacks-by_index 92 c.in-Some.plain.now parts.1) c.in-Some-escape.ensures.cases);
      utf8 = c.in-Some-escape.ensures.utf8;
    }

pub returns-in-None-clause-ok : goal.returns-in-None-clause-ok
returns-in-None-clause-ok c =
    let parts = rw c.in-Some.is at (split_parts 92 c.loop-plain.rest.now c.split_once.result c.split_once.ensures.cases (omega arith)) in
    read_none c.args.escaped.now (string_bytes c.loop-plain.text) c.loop-plain.rest.now c.in-Some.plain.now c.in-Some.after.now c.loop-plain.invariant.read parts.0
    (Lacks-by_index 92 c.in-Some.plain.now parts.1) c.in-None.ensures.cases

pub returns-clause-ok : goal.returns-clause-ok
returns-clause-ok c =
    let parts = rw c.in_default.is at (split_parts 92 c.loop-plain.rest.now c.split_once.result c.split_once.ensures.cases (omega arith)) in
    rw c.in_ok-push_str-2.ensures.bytes
    (read_end c.args.escaped.now (string_bytes c.loop-plain.text) c.loop-plain.rest.now c.loop-plain.invariant.read (Lacks-by_index 92 c.loop-plain.rest.now parts))

pub returns-in_err-push_str-clause-err : goal.returns-in_err-push_str-clause-err
returns-in_err-push_str-clause-err c =
    let parts = rw c.in-Some.is at (split_parts 92 c.loop-plain.rest.now c.split_once.result c.split_once.ensures.cases (omega arith)) in
    let some : 0 < length c.loop-plain.rest.now = rw parts.0 (omega (arith, length-append c.in-Some.plain.now (92 ∷ c.in-Some.after.now))) in
    let p = err_from_is_err_and c.from_residual.result c.from_residual.ensures.1 in
    rw p.1 (read_some c.args.escaped.now (string_bytes c.loop-plain.text) c.loop-plain.rest.now c.loop-plain.invariant.read some)

pub returns-in_err-push-in-Some-escape-clause-err : goal.returns-in_err-push-in-Some-escape-clause-err
returns-in_err-push-in-Some-escape-clause-err c =
    let parts = rw c.in-Some.is at (split_parts 92 c.loop-plain.rest.now c.split_once.result c.split_once.ensures.cases (omega arith)) in
    let some : 0 < length c.loop-plain.rest.now = rw parts.0 (omega (arith, length-append c.in-Some.plain.now (92 ∷ c.in-Some.after.now))) in
    let p = err_from_is_err_and c.from_residual-in_err-push-in-Some-escape.result c.from_residual-in_err-push-in-Some-escape.ensures.1 in
    rw p.1 (read_some c.args.escaped.now (string_bytes c.loop-plain.text) c.loop-plain.rest.now c.loop-plain.invariant.read some)

pub returns-in_err-push_str-2-clause-err : goal.returns-in_err-push_str-2-clause-err
returns-in_err-push_str-2-clause-err c =
    let some : 0 < length c.loop-plain.rest.now = omega (arith, c.in_err-push_str-2.ensures.full, c.loop-plain.text.bytes.ok.1) in
    let p = err_from_is_err_and c.from_residual-in_err-push_str-2.result c.from_residual-in_err-push_str-2.ensures.1 in
    rw p.1 (read_some c.args.escaped.now (string_bytes c.loop-plain.text) c.loop-plain.rest.now c.loop-plain.invariant.read some)
