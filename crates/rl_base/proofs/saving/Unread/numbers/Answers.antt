use Rattle.rl_base.proofs.Common.{length, ◌+◌, ◌<◌, ◌≡◌, ◌∙◌, sym, arith, get_or, set, subst, take, take_all, take_more, length-set, same_Some, ap₂, ◌++◌, ◌∷◌, [], All}
use Rattle.std.proofs.lemmas.List.{take_more_set}
use Rattle.std.proofs.lemmas.List.Elements.{All-push}
use Rattle.rl_base.specs.Saving.{Fits, number, numbers}
use Rattle.rl_base.proofs.Texts.SavingLemmas.{next-first, read-more}
use Rattle.rl_base.proofs.saving.Unread.numbers.Goals as goal

pub returns-in_default-clause-loaded : goal.returns-in_default-clause-loaded
unfolding numbers
returns-in_default-clause-loaded c ns rest len fits is =
    let at : c.loop-i.i < length ns = omega (arith, c.loop-i.invariant.len, c.loop-i-test.true, len) in
    let next = c.number.ensures.loaded (get_or ns c.loop-i.i 0) _ (fits c.loop-i.i 0 at) ((c.loop-i.invariant.read ns rest len fits is).1 ∙ next-first (number c.args.width) ns rest c.loop-i.i 0 at) in
    let none = sym next.0 ∙ c.in_default.is in cc

pub loop-i-preserved : goal.loop-i-preserved
unfolding numbers
loop-i-preserved c =
    let width = c.args.width in let so_far = take c.loop-i.i c.loop-i.found in let x = c.in-Some.number in
    let more : take (c.loop-i.i + 1) (set c.loop-i.found c.loop-i.i x) ≡ so_far ++ x ∷ [] =
    take_more_set c.loop-i.found c.loop-i.i x (omega (arith, c.loop-i-test.true, c.loop-i.invariant.len)) in
    let read = c.in-Some.ensures.read in
    record {
      len = length-set c.loop-i.found c.loop-i.i x ∙ c.loop-i.invariant.len;
      read = λ ns rest len fits is.
          let at : c.loop-i.i < length ns = omega (arith, c.loop-i.invariant.len, c.loop-i-test.true, len) in
          let before = c.loop-i.invariant.read ns rest len fits is in
          let next = c.number.ensures.loaded (get_or ns c.loop-i.i 0) _ (fits c.loop-i.i 0 at) (before.1 ∙ next-first (number width) ns rest c.loop-i.i 0 at) in
          let same = same_Some _ _ (sym next.0 ∙ c.in-Some.is) in
          (more ∙ ap₂ (λ xs x. xs ++ x ∷ []) before.0 (sym same) ∙ sym (take_more ns c.loop-i.i 0 at), next.1);
      again = rw more (read-more (number width) c.args.self.now c.loop-i.self c.number.new.self so_far x c.loop-i.invariant.again read.0);
      fit = rw more (All-push (Fits width) so_far x c.loop-i.invariant.fit read.1);
    }

pub returns-clause-read : goal.returns-clause-read
returns-clause-read c =
    let all = take_all c.loop-i.i c.loop-i.found (omega (arith, c.loop-i-test.false, c.loop-i.invariant.len)) in
    λ _. (rw (sym all) c.loop-i.invariant.again, subst (All (Fits c.args.width)) all c.loop-i.invariant.fit)
