-- What is known of each command by itself: that its steps change the text, and what it did if it added one entry to the record.
use Rattle.rl_session.proofs.Common.{eqb-false, Stop, Cursors, ℕ, List, Option, Some, None, ◌≡◌, ◌+◌, ◌≤◌, Bool, true, false, [], ◌∷◌, ◌++◌, length, length-append, IfSome, refl, sym, ap, subst, ◌∙◌, arith, rules, string_bytes, yank_pop, Line, Plan, Takes, single, listener_after, listener_after_step, Done, unless_empty, text_in, Asked, edit, other, asked, Course, when, edits, lends, pops, tells, Effect, by_steps, Telling, answers, inserts, hands_out, is_done, course_of, edit_course, effect, lent_plan, popped_plan, other_course, told_as, Came, Does, Edited, popped, State, Command, BadPlace, Reply, eqb-true, option_map, ◌==◌, Range, IsCharBoundary, IsUtf8, Event, InsertChar, InsertStr, Replace, Start, Direction, Forward, Freshness, Movement, WordAction, is_by_characters, kill_plan, kill_range_plan, removal, side_of, respell, respelled, word_ahead, Entry, Record, entries_after, entries_of, entries_told, IsEdit, WasRefused, pair_step}
use Rattle.rl_base.specs.KillRing.{yank}
use Rattle.rl_line.specs.Plan.{Step as PlanStep}
use Rattle.rl_line.specs.Ranges.{killed}
use Rattle.rl_line.proofs.Plans.HearingLemmas.{AreChanges}
use Rattle.rl_session.specs.Commands.{stops, lent}
use Rattle.rl_session.specs.declared.session.Fault.TheVariants.{NoMemory}
use Rattle.rl_session.proofs.Sessions.IdleLemmas.{NoneStarts-edit_word, NoneStarts-indent, NoneStarts-insert, NoneStarts-kill, NoneStarts-removal, NoneStarts-transpose_chars, NoneStarts-transpose_words, NoneStarts-yank, NoneStarts-lent, NoneStarts-popped}
use Rattle.rl_base.specs.Event.{Delete}
use Rattle.rl_record.specs.Record.{record_step}
use Rattle.rl_record.proofs.Records.JoinLemmas.{after-Delete-nothing, after-InsertStr-nothing, fresh-Delete-nothing, fresh-InsertStr-nothing}
use Rattle.rl_record.proofs.Records.LastLemmas.{told-none}
use Rattle.rl_line.proofs.Plans.LetterCaseLemmas.{respelled-none}
use Rattle.rl_session.proofs.Runs.CursorLemmas.{AddedAlone, IsLone, Quiet, added-alone, ends_at, next, recorded-next}
use Rattle.rl_session.proofs.Sessions.PairLemmas.{Done-changes}
use Rattle.rl_base.proofs.Clusters.PieceLemmas.{clusters-some, places-before_end}
use Rattle.rl_session.proofs.Sessions.QuietLemmas.{IsUtf8-word_ahead, Settles, Settles-delete, Settles-indent, Settles-insert, Settles-insert_str, Settles-nothing, Settles-replace, Settles-transpose_chars, Settles-transpose_words, Settles-update, Settles-yank, Settles-yank_pop, empty-deleted, empty-inserted, never-char, never-replaced}
use Rattle.rl_session.proofs.Sessions.SessionLemmas.{past_telling}
use Rattle.rl_session.specs.declared.session.Command.TheVariants as asks
use Rattle.rl_session.specs.declared.session.Reply.TheVariants as says

-- each step on a course is a change
abbrev pub Changes : Course → Type 0
Changes (when condition course) = Changes course
Changes (edits plan a) = AreChanges plan.steps
Changes (stops unbegun takes plan) = AreChanges plan.steps
Changes (lends course) = Changes course
Changes (pops course) = Changes course
Changes (tells b course) = Changes course
Changes _ = Unit {0}

abbrev pub EffectChanges : Effect → Type 0
EffectChanges (by_steps course) = Changes course
EffectChanges _ = Unit {0}

abbrev AsksChanges : Asked → Type 0
AsksChanges (edit takes condition plan telling) = AreChanges plan.steps
AsksChanges other = Unit {0}

asks-changes : (line : Line) (command : Command) → AsksChanges (asked line command)
asks-changes line (asks.Insert c n) = NoneStarts-insert line c n
asks-changes line (asks.Paste s n) = NoneStarts-yank line (string_bytes s) n
asks-changes line asks.TransposeChars = NoneStarts-transpose_chars line
asks-changes line (asks.TransposeWords n) = NoneStarts-transpose_words line n
asks-changes line (asks.EditWord action) = NoneStarts-edit_word line action
asks-changes line (asks.Indent m amount dedent) = NoneStarts-indent line m amount dedent
asks-changes line _ = search (rules, NoneStarts-kill)

told-changes : {A : Type 0} (telling : Telling A) (course : A → Course) (reply : Reply) → ((a : A) → Changes (course a)) → Changes (told_as telling course reply)
told-changes answers course (says.Answer a) each = each a
told-changes inserts course (says.Inserted a) each = each a
told-changes hands_out course (says.Text t) each = each _
told-changes is_done course says.Done each = each tt
told-changes telling course reply each = tt

edit-changes : {A : Type 0} (takes : Takes) (condition : Type 0) (plan : Plan A) (telling : Telling A) (reply : Reply) → AreChanges plan.steps → Changes (edit_course takes condition plan telling reply)
edit-changes takes condition plan telling (says.Refused BadPlace) c = tt
edit-changes takes condition plan telling (says.Refused NoMemory) c = c
edit-changes takes condition plan telling reply c = told-changes telling (edits plan) reply (λ a. c)

other-changes : (old : State) (command : Command) (reply : Reply) → Changes (other_course old command reply)
other-changes old (asks.Kill m) (says.Answer a) = NoneStarts-kill old.line m
other-changes old (asks.Kill m) (says.Refused NoMemory) = NoneStarts-kill old.line m
other-changes old (asks.KillRange i j side) (says.Answer a) = NoneStarts-removal old.line (unless_empty i j) side
other-changes old (asks.KillRange i j side) (says.Refused NoMemory) = NoneStarts-removal old.line (unless_empty i j) side
other-changes old (asks.Yank n) (says.Inserted a) = NoneStarts-lent old.line (yank old.pair.ring) n
other-changes old (asks.Yank n) (says.Refused NoMemory) = NoneStarts-lent old.line (yank old.pair.ring) n
other-changes old asks.YankPop (says.Inserted a) = NoneStarts-popped old.line (yank_pop old.pair.ring)
other-changes old asks.YankPop (says.Refused NoMemory) = NoneStarts-popped old.line (yank_pop old.pair.ring)
other-changes old _ (says.Refused NoMemory) = tt
other-changes old _ _ = tt

course-changes : (what : Asked) (old : State) (command : Command) (reply : Reply) → AsksChanges what → Changes (course_of what old command reply)
course-changes (edit takes condition plan telling) old command reply c = edit-changes takes condition plan telling reply c
course-changes other old command reply c = other-changes old command reply

pub effect-changes : (old : State) (command : Command) (reply : Reply) → EffectChanges (effect old command reply)
effect-changes old asks.Begin (says.Mark n) = tt
effect-changes old asks.End (says.Answer a) = tt
effect-changes old asks.EndOne (says.Answer a) = tt
effect-changes old (asks.Truncate len) says.Done = tt
effect-changes old (asks.Undo n) (says.Answer a) = tt
effect-changes old asks.Redo (says.Answer a) = tt
effect-changes old asks.Abandon (says.Answer a) = tt
effect-changes old asks.KeepUndone (says.Answer a) = tt
effect-changes old (asks.Keep t) says.Done = tt
effect-changes old asks.Part says.Done = tt
effect-changes old asks.Reopen (says.Answer a) = tt
effect-changes old command reply = course-changes (asked old.line command) old command reply (asks-changes old.line command)

-- ---- an event of an empty text
next-nothing : (was : Freshness) (event : Event) (es : List Entry) (b a : ℕ) → IsLone event [] → entries_of event ≡ [] → next was event es b a ≡ es
next-nothing was (InsertChar i c) es b a lone none = absurd (never-char i c none)
next-nothing was (InsertStr i s) es b a lone none = grind (arith, empty-inserted, fresh-InsertStr-nothing, after-InsertStr-nothing, told-none)
next-nothing was (Delete i s side) es b a lone none = grind (arith, empty-deleted, fresh-Delete-nothing, after-Delete-nothing, told-none)
next-nothing was (Replace i s t) es b a lone none = absurd (never-replaced i s t none)
next-nothing was _ es b a lone none = absurd lone

one_longer : (es ks : List Entry) (e : Entry) → ks ≡ es → ks ≡ es ++ e ∷ [] → ⊥
one_longer es ks e same more = let n = ap length (sym same ∙ more) in let m = length-append es (e ∷ []) in omega (arith, n, m)

-- the plan of an edit that added one entry
abbrev AddsOne : {A : Type 0} → Line → Record → Entry → Plan A → Type 0
AddsOne line r e plan = (listener_after record_step line.cursor plan.steps r).recorded ≡ r.recorded ++ e ∷ []

-- a plan of one step, since that adds the entry
once : {A : Type 0} (line : Line) (r : Record) (e : Entry) (event : Event) (cursor : ℕ) (a : A) → IsLone event [] → AddsOne line r e (single event cursor a) → Settles line (single event cursor a)
once line r e event cursor a lone adds = grind (arith, one_longer, recorded-next, next-nothing)

removed : (line : Line) (r : Record) (e : Entry) (range : Option (Range ℕ)) (side : Direction) → AddsOne line r e (removal line range side) → Settles line (removal line range side)
removed line r e None side adds = Settles-nothing line false
removed line r e (Some range) side adds = once line r e (Delete range.start (text_in line range) side) range.start true tt adds

-- the plan of an edit of a word: a word that is not empty gives way to a text that is not
respelled-quietly : (line : Line) (r : Record) (e : Entry) (action : WordAction) (range : Option (Range ℕ)) → IfSome range (λ word. IsUtf8 (text_in line word))
    → AddsOne line r e (respell line action range) → Settles line (respell line action range)
respelled-quietly line r e action None u adds = Settles-nothing line false
respelled-quietly line r e action (Some word) u adds = from (length made == 0) refl
  where
    made : List ℕ
    made = respelled action (text_in line word)

    gone : Event
    gone = Delete word.start (text_in line word) Forward

    come : Event
    come = InsertStr word.start made

    from : (b : Bool) → (length made == 0) ≡ b → Settles line (respell line action (Some word))
    from true h =
        let empty = eqb-true (length made) 0 h in
        let none = respelled-none action (text_in line word) u empty in
        let c = line.cursor in
        let after = word.start + length made in
        let mid = listener_after_step record_step c (gone, c) r in
        let first : mid.recorded ≡ r.recorded =
        recorded-next c gone c [] r tt ∙ ap (λ f. entries_told f c c (entries_after r.fresh gone r.recorded)) (fresh-Delete-nothing r.fresh r.recorded word.start (text_in line word) Forward none)
        ∙ told-none r.fresh c c _ ∙ after-Delete-nothing r.fresh r.recorded word.start (text_in line word) Forward none in
        let second : (listener_after_step record_step c (come, after) mid).recorded ≡ mid.recorded =
        recorded-next c come after [] mid tt ∙ ap (λ f. entries_told f c after (entries_after mid.fresh come mid.recorded)) (fresh-InsertStr-nothing mid.fresh mid.recorded word.start made empty)
        ∙ told-none mid.fresh c after _ ∙ after-InsertStr-nothing mid.fresh mid.recorded word.start made empty in
        absurd (one_longer r.recorded _ e (second ∙ first) adds)
    from false h = record {
      quiet = (λ none. refl, tt, (λ none. absurd (eqb-false (length made) 0 h (empty-inserted word.start made none)), tt, tt));
      ends = λ some. refl;
    }

-- ---- what an edit did that added one entry
pub record Adds (e : Entry) (old new : Line) (now : Record) : Type 0 where
  pub alone : AddedAlone e old.text new.text old.cursor new.cursor
  pub dropped : now.pending ≡ []

dropped-step : (b : ℕ) (event : Event) (a : ℕ) (ss : List PlanStep) (r : Record) → IsLone event ss → (listener_after_step record_step b (event, a) r).pending ≡ []
unfolding record_step
dropped-step b Start a ss r lone = absurd lone
dropped-step b Stop a ss r lone = absurd lone
dropped-step b (Cursors _ _) a ss r lone = absurd lone
dropped-step b _ a ss r lone = refl

dropped-some : (cursor : ℕ) (steps : List PlanStep) (r : Record) → Quiet cursor steps → (steps ≡ [] → ⊥) → (listener_after record_step cursor steps r).pending ≡ []
dropped-some cursor [] r q some = absurd (some refl)
dropped-some cursor (s ∷ []) r q some = dropped-step cursor s.0 s.1 [] r q.1
dropped-some cursor (s ∷ (t ∷ ss)) r q some = dropped-some s.1 (t ∷ ss) (listener_after_step record_step cursor s r) q.2 (λ e. cc)

done-adds : {A : Type 0} (plan : Plan A) (line new : Line) (r now : Record) (a : A) (e : Entry) → IsUtf8 line.text → (AddsOne line r e plan → Settles line plan)
    → Done record_step plan line new r now a → now.recorded ≡ r.recorded ++ e ∷ [] → Adds e line new now
done-adds plan line new r now a e u settles d adds =
    let one : AddsOne line r e plan = ap (λ (k : Record). k.recorded) (sym d.taken.listener) ∙ adds in
    let s = settles one in
    let some : plan.steps ≡ [] → ⊥ =
    λ none. one_longer r.recorded _ e (ap (λ ss. (listener_after record_step line.cursor ss r).recorded) none) one in
    let alone = added-alone plan.steps r line d.last e u d.taken.line s.quiet one in
    let text : d.last.text ≡ new.text = ap (λ (l : Line). l.text) (sym d.line) in
    let cursor : ends_at line.cursor plan.steps ≡ new.cursor = sym (s.ends some) ∙ ap (λ (l : Line). l.cursor) (sym d.line) in
    record {
      alone = subst (λ t. AddedAlone e line.text t line.cursor new.cursor) text (subst (AddedAlone e line.text d.last.text line.cursor) cursor alone);
      dropped = ap (λ (k : Record). k.pending) d.taken.listener ∙ dropped-some line.cursor plan.steps r s.quiet some;
    }

-- the same of an edit of a session
edited-adds : {A : Type 0} (plan : Plan A) (old new : State) (a : A) (e : Entry) → IsUtf8 old.line.text → (AddsOne old.line old.pair.changes e plan → Settles old.line plan)
    → Edited plan old new a → new.pair.changes.recorded ≡ old.pair.changes.recorded ++ e ∷ [] → Adds e old.line new.line new.pair.changes
edited-adds plan old new a e u settles d adds =
    done-adds plan old.line new.line old.pair.changes new.pair.changes a e u settles (Done-changes plan old.line new.line old.pair new.pair a d.done) adds

told-adds : {A : Type 0} (telling : Telling A) (plan : Plan A) (old new : State) (reply : Reply) (e : Entry) → IsUtf8 old.line.text
    → (AddsOne old.line old.pair.changes e plan → Settles old.line plan) → Came (told_as telling (edits plan) reply) old new
    → new.pair.changes.recorded ≡ old.pair.changes.recorded ++ e ∷ [] → Adds e old.line new.line new.pair.changes
told-adds answers plan old new (says.Answer a) e u settles t adds = edited-adds plan old new a e u settles t adds
told-adds inserts plan old new (says.Inserted a) e u settles t adds = edited-adds plan old new a e u settles t adds
told-adds hands_out plan old new (says.Text x) e u settles t adds = edited-adds plan old new (option_map string_bytes x) e u settles t adds
told-adds is_done plan old new says.Done e u settles t adds = edited-adds plan old new tt e u settles t adds
told-adds _ plan old new _ e u settles t adds = absurd t

edit-adds : {A : Type 0} (takes : Takes) (condition : Type 0) (plan : Plan A) (telling : Telling A) (old : State) (reply : Reply) (new : State) (e : Entry) → IsUtf8 old.line.text
    → (AddsOne old.line old.pair.changes e plan → Settles old.line plan) → Came (edit_course takes condition plan telling reply) old new → ¬ (WasRefused reply)
    → new.pair.changes.recorded ≡ old.pair.changes.recorded ++ e ∷ [] → Adds e old.line new.line new.pair.changes
edit-adds takes condition plan telling old (says.Refused f) new e u settles d w adds = absurd (w tt)
edit-adds takes condition plan telling old reply new e u settles d w adds = told-adds telling plan old new reply e u settles d.1 adds

killed-quietly : (line : Line) (r : Record) (e : Entry) (m : Movement) → AddsOne line r e (kill_plan line m) → Settles line (kill_plan line m)
killed-quietly line r e m adds = removed line r e (killed line m) (side_of line m) adds

-- the plan of each edit of the table
abbrev AsksQuietly : Line → Record → Entry → Asked → Type 0
AsksQuietly line r e (edit takes condition plan telling) = AddsOne line r e plan → Settles line plan
AsksQuietly line r e other = Unit {0}

pub asks-quietly : (line : Line) (r : Record) (e : Entry) (command : Command) → IsUtf8 line.text → IsCharBoundary line.text line.cursor → AsksQuietly line r e (asked line command)
asks-quietly line r e (asks.Insert c n) u at = λ adds. Settles-insert line c n
asks-quietly line r e (asks.Paste s n) u at = λ adds. Settles-yank line (string_bytes s) n
asks-quietly line r e (asks.Update s q) u at = λ adds. Settles-update line (string_bytes s) q at.0
asks-quietly line r e (asks.InsertStr i s) u at = λ adds. Settles-insert_str line i (string_bytes s)
asks-quietly line r e (asks.Replace i j s) u at = λ adds. Settles-replace line i j (string_bytes s)
asks-quietly line r e (asks.DeleteRange i j) u at = once line r e _ i tt tt
asks-quietly line r e (asks.Delete n) u at = λ adds. Settles-delete line n
asks-quietly line r e asks.TransposeChars u at = λ adds. Settles-transpose_chars line clusters-some u at
asks-quietly line r e (asks.TransposeWords n) u at = λ adds. Settles-transpose_words line n places-before_end u at
asks-quietly line r e (asks.EditWord action) u at = respelled-quietly line r e action (word_ahead line) (IsUtf8-word_ahead line u at)
asks-quietly line r e (asks.Indent m amount dedent) u at = λ adds. Settles-indent line m amount dedent
asks-quietly line r e _ u at = search (rules, killed-quietly)

-- a kill, whose start and end the record does not hear
kill-adds : (b : Bool) (plan : Plan Bool) (old new : State) (a : Bool) (e : Entry) → IsUtf8 old.line.text → ((r : Record) → AddsOne old.line r e plan → Settles old.line plan)
    → Came (tells b (edits plan a)) old new → new.pair.changes.recorded ≡ old.pair.changes.recorded ++ e ∷ [] → Adds e old.line new.line new.pair.changes
kill-adds true plan old new a e u settles d adds = edited-adds plan old new a e u (settles old.pair.changes) d adds
kill-adds false plan old new a e u settles d adds =
    let begun = record old { pair = pair_step old.pair Start } in
    past_telling (λ r now. now.recorded ≡ r.recorded ++ e ∷ [] → Adds e old.line new.line now) old.pair d.last new.pair d.ended
    (edited-adds plan begun (record new { pair = d.last }) a e u (settles begun.pair.changes) d.inside) adds

lent-quietly : (line : Line) (slot : Option (List ℕ)) (n : ℕ) → Settles line (lent_plan line slot n)
lent-quietly line None n = Settles-nothing line None
lent-quietly line (Some s) n = Settles-yank line s n

popped-quietly : (line : Line) (slot : Option (ℕ × List ℕ)) → line.cursor ≤ length line.text → Settles line (popped_plan line slot)
popped-quietly line None within = Settles-nothing line None
popped-quietly line (Some p) within = Settles-yank_pop line p.0 p.1 within

other-adds : (old : State) (command : Command) (reply : Reply) (new : State) (e : Entry) → IsUtf8 old.line.text → IsCharBoundary old.line.text old.line.cursor
    → IsEdit old.line command → Came (other_course old command reply) old new → ¬ (WasRefused reply) → new.pair.changes.recorded ≡ old.pair.changes.recorded ++ e ∷ []
    → Adds e old.line new.line new.pair.changes
other-adds old command (says.Refused f) new e u at i d w adds = absurd (w tt)
other-adds old (asks.Kill m) (says.Answer a) new e u at i d w adds =
    kill-adds (is_by_characters m) (kill_plan old.line m) old new a e u (λ r. killed-quietly old.line r e m) d adds
other-adds old (asks.KillRange i j side) (says.Answer a) new e u at c d w adds =
    kill-adds false (kill_range_plan old.line i j side) old new a e u (λ r. removed old.line r e (unless_empty i j) side) d.1 adds
other-adds old (asks.Yank n) (says.Inserted a) new e u at i d w adds =
    edited-adds (lent_plan old.line (yank old.pair.ring) n) (lent old) new a e u (λ one. lent-quietly old.line (yank old.pair.ring) n) d adds
other-adds old asks.YankPop (says.Inserted a) new e u at i d w adds =
    edited-adds (popped_plan old.line (yank_pop old.pair.ring)) (popped old) new a e u (λ one. popped-quietly old.line (yank_pop old.pair.ring) at.0) d.1 adds
other-adds old _ _ new e u at i d w adds = absurd (search rules)

pub asked-adds : (what : Asked) (old : State) (command : Command) (reply : Reply) (new : State) (e : Entry) → IsUtf8 old.line.text → IsCharBoundary old.line.text old.line.cursor
    → AsksQuietly old.line old.pair.changes e what → IsEdit old.line command → Came (course_of what old command reply) old new → ¬ (WasRefused reply)
    → new.pair.changes.recorded ≡ old.pair.changes.recorded ++ e ∷ [] → Adds e old.line new.line new.pair.changes
asked-adds (edit takes condition plan telling) old command reply new e u at quiet i d w adds = edit-adds takes condition plan telling old reply new e u quiet d w adds
asked-adds other old command reply new e u at quiet i d w adds = other-adds old command reply new e u at i d w adds

-- an edit goes by steps
pub by_course : (old : State) (command : Command) (reply : Reply) (new : State) → IsEdit old.line command → Does old command reply new → Came (course_of (asked old.line command) old command reply) old new
by_course old asks.Begin reply new i d = absurd i
by_course old _ reply new i d = search rules
