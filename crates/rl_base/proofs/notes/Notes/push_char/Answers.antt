use Rattle.rl_base.proofs.Common.{◌<◌, ◌++◌, ◌∷◌, [], ◌∙◌, None, ap, arith, encode_utf8, length, rules, sym, IsUtf8-nil, IsUtf8-encode, string_bytes, noted}
use Rattle.rl_base.specs.declared.reports.ReportKind.TheVariants as kind
use Rattle.rl_base.proofs.Queue.QueueLemmas.{IsUtf8-kept, Joins, at_spent, kept-all, length-kept, longer, none_taken}
use Rattle.rl_base.proofs.notes.Notes.push_char.Goals as goal

pub drop_spent-self-inside-requires : goal.drop_spent-self-inside-requires
drop_spent-self-inside-requires c =
    let i = c.self.inside in at_spent i.text_room i.spent (string_bytes i.texts) i.waiting.items c.self.invariant.1 c.self.invariant.3

pub invariant_of-self : goal.invariant_of-self
invariant_of-self c =
    let i = c.self.inside in
    let same = c.in_err-push.ensures.bytes in
    none_taken i.text_room c.drop_spent-self-inside.result (string_bytes c.push.new.self) i.waiting.items
    (omega (arith, ap length same, c.drop_spent-self-inside.ensures.less)) (rw (same, c.drop_spent-self-inside.ensures.left) c.self.invariant.3)

is_longer : (c : goal.After-push_back_reserved)
    → Joins c.self.inside.text_room c.self.inside.waiting.items c.push_back_reserved.new.self.items
    (noted c.self.inside.text_room kind.CharInserted c.args.at [] (encode_utf8 c.args.c) ∷ []) c.drop_spent-self-inside.result
    (string_bytes c.drop_spent-self-inside.new.texts) (string_bytes c.push.new.self)
is_longer c =
    let i = c.self.inside in
    let text = string_bytes c.drop_spent-self-inside.new.texts in
    let bytes = encode_utf8 c.args.c in
    let some : 0 < i.text_room = rw (← c.self.view_is) at c.requires.keeps in
    let report = c.report_of-report.ensures ∙ ap (λ n. record { kind = kind.CharInserted; at = c.args.at; old_len = 0; new_len = n; cursors = None }) c.len_utf8.ensures.len in
    let items = c.push_back_reserved.ensures.items ∙ ap (λ r. i.waiting.items ++ r ∷ []) report in
    longer i.text_room i.waiting.items _ (noted i.text_room kind.CharInserted c.args.at [] bytes) c.drop_spent-self-inside.result text _
    (omega (arith, c.drop_spent-self-inside.ensures.less)) (rw c.drop_spent-self-inside.ensures.left c.self.invariant.3)
    (IsUtf8-kept i.text_room [] bytes IsUtf8-nil (IsUtf8-encode c.args.c (search rules))) (length-kept i.text_room kind.CharInserted c.args.at [] bytes) items
    (c.in_ok-push.ensures.bytes ∙ ap (λ l. text ++ l) (sym (kept-all i.text_room bytes some)))

pub invariant_of-self-2 : goal.invariant_of-self-2
invariant_of-self-2 c = none_taken _ _ _ _ (is_longer c).spent_within (is_longer c).cuts

pub returns-clause-done : goal.returns-clause-done
returns-clause-done c = rw (← c.self.view_is, ← c.drop_spent-self-inside.ensures.left) (is_longer c).waits
