use Rattle.rl_base.proofs.Common.{◌<◌, ◌≡◌, ◌∙◌, ◌++◌, ◌∷◌, [], All-nil, ap, ap₂, arith, drop_all, get_or, length, length-append, length-map, option_map, refl, same_Some, sym, take_all, take_more, texts}
use Rattle.std.proofs.lemmas.List.Elements.{All-push}
use Rattle.rl_base.specs.Gathered.{Gathering}
use Rattle.rl_base.specs.Saving.{IsSized, sized, sized_all}
use Rattle.rl_base.proofs.Ring.BoundLemmas.{put-end}
use Rattle.rl_base.proofs.Texts.SavingLemmas.{next-first, read-more}
use Rattle.rl_base.proofs.kill_ring.saved.load_slots.Goals as goal

pub returns-in_default-clause-err : goal.returns-in_default-clause-err
unfolding sized_all
returns-in_default-clause-err c slots rest len all is =
    let at : c.loop-i.i < length slots = omega (arith, c.loop-i-test.true, len) in
    let next = c.sized_text.ensures.loaded (get_or slots c.loop-i.i []) _ (all c.loop-i.i [] at) ((c.loop-i.invariant.loaded slots rest len all is).1 ∙ next-first sized slots rest c.loop-i.i [] at) in
    let none = sym (ap (option_map (λ found. found.now)) c.in_default.is) ∙ next.0 in cc

pub loop-i-init : goal.loop-i-init
unfolding sized_all
loop-i-init c =
    let none = ap texts c.in_ok-made.ensures.ok in
    record {
      loaded = λ slots rest len all is. (none, is);
      again = rw none refl;
      many = ap length c.in_ok-made.ensures.ok;
      sized = rw none (All-nil IsSized);
    }

pub loop-i-preserved : goal.loop-i-preserved
unfolding sized_all
loop-i-preserved c =
    let before = c.loop-i.invariant in
    let so_far = texts c.loop-i.made.list.items in let text = c.in-Some.text.now in
    let count = length-map c.loop-i.made.list.items (λ (g : Gathering). g.text) in
    let end : c.len-at.result ≡ length so_far = omega (arith, c.len-at.ensures, count) in
    let more = c.in_ok-put.ensures.ok ∙ put-end so_far c.len-at.result text end in
    let read = c.in-Some.ensures.read in
    record {
      loaded = λ slots rest len all is.
          let at : c.loop-i.i < length slots = omega (arith, c.loop-i-test.true, len) in
          let was = before.loaded slots rest len all is in
          let next = c.sized_text.ensures.loaded (get_or slots c.loop-i.i []) _ (all c.loop-i.i [] at) (was.1 ∙ next-first sized slots rest c.loop-i.i [] at) in
          let same = same_Some _ _ (sym (ap (option_map (λ found. found.now)) c.in-Some.is) ∙ next.0) in
          (more ∙ ap₂ (λ ts t. ts ++ t ∷ []) was.0 same ∙ sym (take_more slots c.loop-i.i [] at), next.1);
      again = rw more (read-more sized c.args.bytes.now c.loop-i.bytes c.sized_text.new.self so_far text before.again read.0);
      many = omega (arith, ap length more, length-append so_far (text ∷ []), count, before.many, length-map c.put.new.self.list.items (λ (g : Gathering). g.text));
      sized = rw more (All-push IsSized so_far text before.sized read.1);
    }

pub returns-clause-ok : goal.returns-clause-ok
unfolding sized_all
returns-clause-ok c slots rest len all is =
    let all_read = c.loop-i.invariant.loaded slots rest len all is in
    (all_read.0 ∙ take_all c.loop-i.i slots (omega (arith, c.loop-i-test.false, len)), all_read.1 ∙ ap (λ ts. sized_all ts ++ rest) (drop_all c.loop-i.i slots (omega (arith, c.loop-i-test.false, len))))
