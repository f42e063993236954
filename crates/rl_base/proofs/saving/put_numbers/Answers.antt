use Rattle.rl_base.proofs.Common.{◌∙◌, ◌++◌, ap, get_or}
use Rattle.std.proofs.lemmas.List.Elements.{All-more}
use Rattle.rl_base.specs.Saving.{Fits, number, numbers}
use Rattle.rl_base.proofs.Texts.SavingLemmas.{put-more}
use Rattle.rl_base.proofs.saving.put_numbers.Goals as goal

pub loop-number-preserved : goal.loop-number-preserved
unfolding numbers
loop-number-preserved c =
    let width = c.args.width in let given = c.args.given.now in let i = c.loop-number.number-index in
    let ok = c.in_ok-put_number.ensures.ok in
    record {
      put = ok.0 ∙ ap (λ bytes. bytes ++ number width (get_or given i 0)) c.loop-number.invariant.put ∙ put-more (number width) _ given i 0 c.loop-number-test.true;
      fit = All-more (Fits width) given i 0 c.loop-number-test.true c.loop-number.invariant.fit ok.1;
    }
