use Rattle.rl_base.proofs.Common.{◌∙◌, ◌++◌, All, Gathering, ap, arith, length-map, take_all, subst, sym, take, texts}
use Rattle.std.proofs.lemmas.List.Elements.{All-more}
use Rattle.rl_base.specs.Saving.{IsSized, sized, sized_all}
use Rattle.rl_base.proofs.Ring.SlotLemmas.{text_at}
use Rattle.rl_base.proofs.Texts.SavingLemmas.{put-more}
use Rattle.rl_base.proofs.kill_ring.saved.put_slots.Goals as goal

pub loop-slot-preserved : goal.loop-slot-preserved
unfolding sized_all
loop-slot-preserved c =
    let slots = texts c.args.slots.now in
    let i = c.loop-slot.slot-index in
    let first = c.slot-item.result.text in
    let ok = c.in_ok-put_text.ensures.ok in
    let at = text_at c.args.slots.now i c.slot-item.result c.loop-slot-test.true c.slot-item.is in
    let text = at.1 ∙ sym c.as_str.ensures in
    let put = c.args.out.now.items ++ sized_all (take i slots) in
    record {
      put = ok.0 ∙ ap (λ bytes. bytes ++ sized c.as_str.result.now) c.loop-slot.invariant.put ∙ ap (λ t. put ++ sized t) (sym text)
          ∙ put-more sized c.args.out.now.items slots i first at.0;
      fit = All-more IsSized slots i first at.0 c.loop-slot.invariant.fit (subst IsSized (sym text) (record { fits = ok.1; utf8 = c.as_str.utf8 }));
    }

pub returns-clause-loads : goal.returns-clause-loads
returns-clause-loads c =
    let all = take_all c.loop-slot.slot-index (texts c.args.slots.now) (omega (arith, c.loop-slot-test.false, length-map c.args.slots.now (λ (g : Gathering). g.text))) in
    subst (All IsSized) all c.loop-slot.invariant.fit
