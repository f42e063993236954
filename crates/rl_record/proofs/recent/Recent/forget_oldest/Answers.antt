use Rattle.rl_record.proofs.Common.{IsMatched, Record, ap, arith, false, fits, forgotten, length, level, subst, sym, without_first, ◌<◌, ◌∙◌, ◌≡◌, ◌≤◌}
use Rattle.rl_record.proofs.Records.ForgettingLemmas.{forgotten-fits, goes-first}
use Rattle.rl_record.proofs.recent.Recent.forget_oldest.Goals as goal

pub drop_first-requires : goal.drop_first-requires
drop_first-requires c =
    let r = c.fits.new.self in
    let n = c.oldest_len-len.result in
    let some : 0 < n = omega (arith, c.if-len-eq0.false) in
    let whole = c.oldest_len-len.ensures.whole some in
    let m = subst (λ (q : Record). IsMatched q.recorded) (sym c.fits.ensures.same) c.loop-self.invariant.matched in
    let over = subst (λ (q : Record). fits c.args.most c.args.bytes q.recorded ≡ false) (sym c.fits.ensures.same) (sym c.fits.ensures.answer ∙ c.loop-self-test.true) in
    let g = goes-first c.args.most c.args.bytes n r m over some whole.0 whole.1 in
    subst (λ (q : Record). n ≤ length q.recorded) (sym c.oldest_len-len.ensures.same) g.within

pub loop-self-preserved : goal.loop-self-preserved
loop-self-preserved c =
    let r = c.fits.new.self in
    let n = c.oldest_len-len.result in
    let some : 0 < n = omega (arith, c.if-len-eq0.false) in
    let whole = c.oldest_len-len.ensures.whole some in
    let m = subst (λ (q : Record). IsMatched q.recorded) (sym c.fits.ensures.same) c.loop-self.invariant.matched in
    let over = subst (λ (q : Record). fits c.args.most c.args.bytes q.recorded ≡ false) (sym c.fits.ensures.same) (sym c.fits.ensures.answer ∙ c.loop-self-test.true) in
    let g = goes-first c.args.most c.args.bytes n r m over some whole.0 whole.1 in
    let now : c.drop_first.new.self ≡ without_first n r = c.drop_first.ensures ∙ ap (without_first n) c.oldest_len-len.ensures.same in
    record {
      forgotten = ap (forgotten c.args.most c.args.bytes) now ∙ g.kept ∙ ap (forgotten c.args.most c.args.bytes) c.fits.ensures.same ∙ c.loop-self.invariant.forgotten;
      matched = subst (λ (q : Record). IsMatched q.recorded) (sym now) g.matched;
      groups = c.loop-self.invariant.groups ∙ ap (λ (q : Record). level q.recorded) (sym c.fits.ensures.same) ∙ sym g.level ∙ ap (λ (q : Record). level q.recorded) (sym now);
    }

pub returns : goal.returns
returns c = c.fits.ensures.same ∙ sym (forgotten-fits c.args.most c.args.bytes c.loop-self.self (sym c.fits.ensures.answer ∙ c.loop-self-test.false)) ∙ c.loop-self.invariant.forgotten
