-- An undo right after an edit that added one entry gives back text and cursor from before the edit, and a redo those from after it.
use Rattle.rl_session.proofs.Common.{◌≡◌, ℕ, true, List, [], ◌∷◌, ◌++◌, Some, refl, sym, ap, subst, ◌∙◌, arith, same_Some, option_map, IsCharBoundary, IsUtf8, apply, Line, Entry, Changed, Record, cursors_of, event_of, inverse, cursor_told, line_after, line_ahead, line_back, Redone, Undone, is_change, last_of, redo_of, asked, readied, Command, Reply, IsEdit, WasRefused, Leads, Row, Run, Stands, State}
use Rattle.rl_line.proofs.Plans.PlanLemmas.{Fits-from}
use Rattle.rl_line.proofs.Changes.InverseLemmas.{inverse-undoes, then_some}
use Rattle.rl_record.proofs.Records.UnitLemmas.{last_of-change}
use Rattle.rl_record.proofs.Records.WalkLemmas.{cursor_told-back}
use Rattle.rl_session.proofs.Runs.HistoryLemmas.{redo-row, undo-row}
use Rattle.rl_session.proofs.Runs.RowLemmas.{Leads-keeps, Leads-split}
use Rattle.rl_session.specs.declared.session.Command.TheVariants as asks
use Rattle.rl_session.proofs.Sessions.CommandLemmas.{Adds, asked-adds, by_course, asks-quietly}

-- an edit of a session, in a row
row-adds : (row : Row) (e : Entry) → IsUtf8 row.before.line.text → IsCharBoundary row.before.line.text row.before.line.cursor → IsEdit row.before.line row.command
    → ¬ (WasRefused row.reply) → row.after.pair.changes.recorded ≡ row.before.pair.changes.recorded ++ e ∷ [] → Adds e row.before.line row.after.line row.after.pair.changes
row-adds row e u at i w adds =
    let old = readied row.command row.before in
    let left = row.step.left in
    let line : row.after.line ≡ left.line = ap (λ (s : State). s.line) row.step.settles in
    let changes : row.after.pair.changes ≡ left.pair.changes = ap (λ (s : State). s.pair.changes) row.step.settles in
    let more : left.pair.changes.recorded ≡ row.before.pair.changes.recorded ++ e ∷ [] = ap (λ (r : Record). r.recorded) (sym changes) ∙ adds in
    let here = asked-adds (asked old.line row.command) old row.command row.reply left e u at (asks-quietly old.line old.pair.changes e row.command u at) i (by_course old row.command row.reply left i row.step.does) w more in
    subst (λ (l : Line). Adds e row.before.line l row.after.pair.changes) (sym line) (subst (λ (r : Record). Adds e row.before.line left.line r) (sym changes) here)

-- ---- one change back, and ahead again
-- an entry that was told its cursors is a unit of its own
told-change : (e : Entry) (p : ℕ × ℕ) → cursors_of e ≡ Some p → is_change e ≡ true
told-change (Changed k s) p c = refl
told-change _ p c = cc

last-one : (es : List Entry) (e : Entry) (p : ℕ × ℕ) → cursors_of e ≡ Some p → last_of 1 (es ++ e ∷ []) ≡ e ∷ []
last-one es e p told = last_of-change 1 e es (omega arith) (told-change e p told)

next-one : (e : Entry) (p : ℕ × ℕ) → cursors_of e ≡ Some p → redo_of (e ∷ []) ≡ e ∷ []
next-one (Changed k s) p c = refl
next-one _ p c = cc

-- a line that goes over one entry
over-one : (e : Entry) (line now : Line) (text : List ℕ) (cursor : ℕ) → apply (event_of e) line.text ≡ Some text → cursor_told e ≡ Some cursor → line_after e line ≡ Some now
    → (now.text ≡ text) × (now.cursor ≡ cursor)
over-one e line now text cursor makes told h = grind (arith, Fits-from, same_Some)

-- ---- in a run
-- what a row left whose edit added one entry
pub record AddedBy (row : Row) (e : Entry) (later : List Row) (new : State) : Type 0 where
  pub adds : Adds e row.before.line row.after.line row.after.pair.changes
  pub utf8 : IsUtf8 row.before.line.text
  pub goes_on : Leads row.after later new

added-by : (old new : State) (commands : List Command) (replies : List Reply)
    (earlier later : List Row) (row : Row) (e : Entry) → Stands old → (run : Run old commands replies new)
    → run.rows ≡ earlier ++ (row ∷ later) → IsEdit row.before.line row.command → ¬ (WasRefused row.reply)
    → row.after.pair.changes.recorded ≡ row.before.pair.changes.recorded ++ e ∷ [] → AddedBy row e later new
added-by old new commands replies earlier later row e b run is i w adds =
    let p = Leads-split earlier (row ∷ later) old new (subst (λ rows. Leads old rows new) is run.leads) in
    let sound : Stands row.before = subst Stands (sym p.2.0) (Leads-keeps Stands (λ row h. row.step.stands) earlier old p.0 p.1 b) in
    record { adds = row-adds row e sound.utf8 sound.cursor i w adds; utf8 = sound.utf8; goes_on = p.2.1 }

-- an undo right after it, and what waits to be redone then
undone-row : (row back : Row) (e : Entry) (later : List Row) (new : State) → AddedBy row e (back ∷ later) new
    → row.after.pair.changes.recorded ≡ row.before.pair.changes.recorded ++ e ∷ [] → back.command ≡ asks.Undo 1 → ¬ (WasRefused back.reply)
    → ((back.after.line.text ≡ row.before.line.text) × (back.after.line.cursor ≡ row.before.line.cursor)) × (back.after.pair.changes.pending ≡ e ∷ [])
undone-row row back e later new a more is w =
    let d = undo-row back 1 is w in
    let old = row.before.line in
    let r = row.after.pair.changes in
    let told = a.adds.alone.cursors in
    let here : Undone 1 r back.after.pair.changes row.after.line back.after.line d.0 =
    subst (λ (s : State). Undone 1 s.pair.changes back.after.pair.changes s.line back.after.line d.0) a.goes_on.0 d.1 in
    let last : last_of 1 r.recorded ≡ e ∷ [] = ap (last_of 1) more ∙ last-one row.before.pair.changes.recorded e _ told in
    let went : line_after (inverse e) row.after.line ≡ Some back.after.line = ap (λ es. line_back es row.after.line) (sym last) ∙ here.line_is in
    let makes = inverse-undoes e old.text row.after.line.text a.utf8 a.adds.alone.makes in
    let waits : back.after.pair.changes.pending ≡ e ∷ [] =
    ap (λ (k : Record). k.pending) here.record_is ∙ ap (λ es. es ++ r.pending) last ∙ ap (λ es. e ∷ es) a.adds.dropped in
    (over-one (inverse e) row.after.line back.after.line old.text old.cursor makes (cursor_told-back e _ told) went, waits)

pub undo-gives_back : (old new : State) (commands : List Command) (replies : List Reply)
    (earlier later : List Row) (row back : Row) (e : Entry) → Stands old → (run : Run old commands replies new)
    → run.rows ≡ earlier ++ (row ∷ (back ∷ later)) → IsEdit row.before.line row.command → ¬ (WasRefused row.reply)
    → row.after.pair.changes.recorded ≡ row.before.pair.changes.recorded ++ e ∷ [] → back.command ≡ asks.Undo 1 → ¬ (WasRefused back.reply)
    → (back.after.line.text ≡ row.before.line.text) × (back.after.line.cursor ≡ row.before.line.cursor)
undo-gives_back old new commands replies earlier later row back e b run is i w more undoes v =
    let a = added-by old new commands replies earlier (back ∷ later) row e b run is i w more in
    (undone-row row back e later new a more undoes v).0

pub redo-gives_again : (old new : State) (commands : List Command) (replies : List Reply)
    (earlier later : List Row) (row back again : Row) (e : Entry) → Stands old → (run : Run old commands replies new)
    → run.rows ≡ earlier ++ (row ∷ (back ∷ (again ∷ later))) → IsEdit row.before.line row.command → ¬ (WasRefused row.reply)
    → row.after.pair.changes.recorded ≡ row.before.pair.changes.recorded ++ e ∷ [] → back.command ≡ asks.Undo 1 → ¬ (WasRefused back.reply)
    → again.command ≡ asks.Redo → ¬ (WasRefused again.reply) → (again.after.line.text ≡ row.after.line.text) × (again.after.line.cursor ≡ row.after.line.cursor)
redo-gives_again old new commands replies earlier later row back again e first run is i w more undoes v redoes x =
    let a = added-by old new commands replies earlier (back ∷ (again ∷ later)) row e first run is i w more in
    let b = undone-row row back e (again ∷ later) new a more undoes v in
    let d = redo-row again redoes x in
    let told = a.adds.alone.cursors in
    let here : Redone back.after.pair.changes again.after.pair.changes back.after.line again.after.line d.0 =
    subst (λ (s : State). Redone s.pair.changes again.after.pair.changes s.line again.after.line d.0) a.goes_on.1.0 d.1 in
    let went : line_after e back.after.line ≡ Some again.after.line =
    sym (then_some (line_after e back.after.line)) ∙ (ap (λ es. line_ahead es back.after.line) (sym (ap redo_of b.1 ∙ next-one e _ told)) ∙ here.line_is) in
    let makes : apply (event_of e) back.after.line.text ≡ Some row.after.line.text = ap (apply (event_of e)) b.0.0 ∙ a.adds.alone.makes in
    over-one e back.after.line again.after.line row.after.line.text row.after.line.cursor makes (ap (option_map (λ (q : ℕ × ℕ). q.1)) told) went
