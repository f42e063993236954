use Rattle.rl_record.proofs.Common.{IsMatched, ap, arith, entry_of, length, length-map, level, redo_of, subst, sym, ◌∙◌, ◌≡◌}
use Rattle.rl_record.proofs.Records.ForgettingLemmas.{none-goes, open-all_stays, open-found}
use Rattle.rl_record.proofs.Records.MatchLemmas.{Redoes-of}
use Rattle.rl_record.proofs.recent.Recent.oldest_len.Goals as goal

pub returns-then-stays_open-clause-opened : goal.returns-then-stays_open-clause-opened
returns-then-stays_open-clause-opened c = λ _. open-all_stays c.args.self.now.recorded (c.stays_open.ensures c.if-stays_open.true)

pub level-requires : goal.level-requires
level-requires c = subst IsMatched (sym (c.next_unit-unit.ensures ∙ ap redo_of c.recorded.ensures)) (Redoes-of c.args.self.now.recorded c.requires.matched).unit_matched

pub returns-then-level-eq0-clause-whole : goal.returns-then-level-eq0-clause-whole
returns-then-level-eq0-clause-whole c = λ some.
    let unit = c.next_unit-unit.ensures ∙ ap redo_of c.recorded.ensures in
    (sym (length-map c.next_unit-unit.result.now entry_of) ∙ ap length unit, sym (ap level unit) ∙ sym c.level.ensures ∙ c.if-level-eq0.true)

pub returns-then-level-eq0-clause-opened : goal.returns-then-level-eq0-clause-opened
returns-then-level-eq0-clause-opened c = λ none.
    let unit = c.next_unit-unit.ensures ∙ ap redo_of c.recorded.ensures in
    none-goes c.args.self.now.recorded c.requires.matched (sym (ap length unit) ∙ length-map c.next_unit-unit.result.now entry_of ∙ none) (sym (ap level unit) ∙ sym c.level.ensures ∙ c.if-level-eq0.true)

pub note_open-requires-2 : goal.note_open-requires-2
note_open-requires-2 c =
    let deep : c.level.result ≡ level (redo_of c.args.self.now.recorded) = c.level.ensures ∙ ap level (c.next_unit-unit.ensures ∙ ap redo_of c.recorded.ensures) in
    open-found c.args.self.now.recorded c.requires.matched (omega (arith, c.if-level-eq0.false, deep))

pub returns-clause-opened : goal.returns-clause-opened
returns-clause-opened c = λ _.
    let deep : c.level.result ≡ level (redo_of c.args.self.now.recorded) = c.level.ensures ∙ ap level (c.next_unit-unit.ensures ∙ ap redo_of c.recorded.ensures) in
    open-all_stays c.args.self.now.recorded (open-found c.args.self.now.recorded c.requires.matched (omega (arith, c.if-level-eq0.false, deep)))
