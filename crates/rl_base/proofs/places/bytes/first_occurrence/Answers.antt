use Rattle.rl_base.proofs.Common.{◌∙◌, arith, rules, sym}
use Rattle.std.proofs.lemmas.Bool.{false≢true}
use Rattle.memchr.proofs.lemmas.FindLemmas.{Nowhere-more}
use Rattle.rl_base.proofs.Texts.OccurrenceLemmas.{finds_from_front, here_occurs, next_at, nowhere_next, occurs_here, rest_is}
use Rattle.rl_base.proofs.places.bytes.first_occurrence.Goals as goal

pub returns-in_err-at : goal.returns-in_err-at
returns-in_err-at c =
    nowhere_next c.args.hay.now c.args.needle.now c.loop-tries.start c.next_by_byte.result c.loop-tries.invariant.none c.next_by_byte.ensures c.from_residual.result (search rules) (search rules)

pub returns-then-is_prefix : goal.returns-then-is_prefix
returns-then-is_prefix c =
    let next = next_at c.args.hay.now c.args.needle.now c.loop-tries.start c.next_by_byte.result c.loop-tries.invariant.none c.next_by_byte.ensures c.in_ok-at.at (search rules) in
    let before = next.0 in (
      record { low = omega arith; high = omega (arith, before.high); before = before.before },
      occurs_here c.args.hay.now c.args.needle.now c.in_ok-at.at _ (rest_is c.args.hay.now c.in_ok-at.at) (omega (arith, before.high)) (c.is_prefix.ensures.0 c.if-is_prefix.true),
    )

pub loop-tries-preserved : goal.loop-tries-preserved
loop-tries-preserved c =
    let next = next_at c.args.hay.now c.args.needle.now c.loop-tries.start c.next_by_byte.result c.loop-tries.invariant.none c.next_by_byte.ensures c.in_ok-at.at (search rules) in
    let before = next.0 in
    record {
      within = omega (arith, before.high);
      tries = omega (arith, c.loop-tries.invariant.tries, next.1);
      none = Nowhere-more before.before (λ o. false≢true (sym c.if-is_prefix.false ∙ c.is_prefix.ensures.1 (here_occurs c.args.hay.now c.args.needle.now c.in_ok-at.at _ (rest_is c.args.hay.now c.in_ok-at.at) o)));
    }

pub returns : goal.returns
returns c = finds_from_front c.args.hay.now c.args.needle.now c.loop-tries.start c.first_from.result c.loop-tries.invariant.none c.first_from.ensures
