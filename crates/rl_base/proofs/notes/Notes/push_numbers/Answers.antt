use Rattle.rl_base.proofs.Common.{◌≡◌, ◌-◌, ◌∷◌, [], ap, append-nil, arith, refl, sym, IsUtf8-nil, string_bytes, string_capacity, deque_capacity}
use Rattle.rl_base.proofs.Queue.QueueLemmas.{Joins, longer, none_taken}
use Rattle.rl_base.proofs.notes.Notes.push_numbers.Goals as goal

is_longer : (c : goal.After-push_back_reserved)
    → Joins c.self.inside.text_room c.self.inside.waiting.items c.push_back_reserved.new.self.items (record { report = c.args.report; texts = [] } ∷ [])
    c.self.inside.spent (string_bytes c.self.inside.texts) (string_bytes c.self.inside.texts)
is_longer c =
    let i = c.self.inside in
    longer i.text_room i.waiting.items _ (record { report = c.args.report; texts = [] }) i.spent (string_bytes i.texts) (string_bytes i.texts)
    c.self.invariant.1 c.self.invariant.3 IsUtf8-nil
    (rw (rw (← c.self.view_is) at c.requires.none) refl) c.push_back_reserved.ensures.items (sym (append-nil (string_bytes i.texts)))

pub invariant_of-self : goal.invariant_of-self
invariant_of-self c = none_taken _ _ _ _ c.self.invariant.1 (is_longer c).cuts

pub returns : goal.returns
returns c =
    let i = c.self.inside in
    let none : i.spent - i.spent ≡ 0 = omega arith in
    rw (← c.self.view_is, c.push_back_reserved.ensures.capacity, none)
    (ap (λ ns. record { text_room = i.text_room; waiting = ns; taken = []; places = deque_capacity i.waiting; bytes = string_capacity i.texts }) (is_longer c).waits)
