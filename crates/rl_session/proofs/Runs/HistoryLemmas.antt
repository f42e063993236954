-- Rows of a session: what they make of its history, and what undos and redos among them do.
use Rattle.rl_session.specs.Commands.{gives_up, keeps, on_record}
use Rattle.rl_session.proofs.Common.{texts_of_call, ◌≡◌, ◌∙◌, inr, same_Some, true, Cursors, Entry, rules, ℕ, Bool, List, [], ◌∷◌, ◌++◌, length, arith, sym, ap, subst, append-nil, append_assoc, Line, listener_after, Record, record_step, Undone, Redone, Redos, last_of, last_units, opens, redo_of, undone, Effect, by_steps, takes_back, puts_again, Became, effect, Does, readied, with_changes, AllRedone, History, Holds, WasHeld, WasRefused, Row, Leads, Run, held, held_by, held_of, steps_in, texts_of_steps, State, Command, Undo, Redo, Reply, inl}
use Rattle.rl_line.specs.Plan.{Step as PlanStep}
use Rattle.rl_record.proofs.Records.RoundLemmas.{saved-call}
use Rattle.rl_line.proofs.Changes.InverseLemmas.{replay-IsUtf8}
use Rattle.rl_record.proofs.Records.RedoLemmas.{redos-give-back}
use Rattle.rl_line.proofs.Changes.BackLemmas.{line_ahead-replay, line_back-unwind}
use Rattle.rl_record.proofs.Records.UnitLemmas.{kept-last}
use Rattle.rl_line.specs.Entry.{changes_of}
use Rattle.rl_record.specs.Record.{StaysSaved, is_saved}
use Rattle.rl_record.proofs.Records.SavePointLemmas.{saved-marked, saved-redone, saved-replays, saved-step, saved-undone}
use Rattle.rl_session.specs.State.{Begins, saved_now}
use Rattle.rl_session.specs.declared.session.Reply.TheVariants as says
use Rattle.rl_session.proofs.Sessions.CourseLemmas.{Heard, Heard-Came}
use Rattle.rl_session.proofs.Runs.RowLemmas.{Leads-split}
use Rattle.rl_session.proofs.Runs.PlaceLemmas.{History-call, History-more, History-steps, History-undone, History-redone, undo-held, History-dropped}
use Rattle.rl_record.proofs.Records.AbandonLemmas.{abandoned-as, saved-abandoned}
use Rattle.rl_record.specs.Undo.{Abandoned}

-- ---- the history
History-Heard : (start : List ℕ) (held : List (List ℕ)) (steps : List PlanStep) (old : Line) (r : Record) (text : List ℕ) (now : Record) → History start held old.text r
    → Heard steps old r text now → History start (held ++ texts_of_steps steps old.text) text now
History-Heard start held steps old r text now h k =
    subst (λ (x : Record). History start (held ++ texts_of_steps steps old.text) text x) (sym k.taken.listener)
    (subst (λ t. History start (held ++ texts_of_steps steps old.text) t (listener_after record_step old.cursor steps r)) (sym k.text_is)
    (History-steps steps start held old k.last r h k.taken.line))

History-TookBack : (n : ℕ) (start : List ℕ) (held more : List (List ℕ)) (old new : State) (a : Bool) → Holds start held old
    → Undone n old.pair.changes new.pair.changes old.line new.line a → Holds start (held ++ more) new
History-TookBack n start held more old new a h d =
    let k = History-undone n start held old.line.text new.line.text old.pair.changes h (line_back-unwind (last_of n old.pair.changes.recorded) old.line new.line d.line_is) in
    History-more start held more new.line.text new.pair.changes (subst (λ (r : Record). History start held new.line.text r) (sym d.record_is) k)

History-PutAgain : (start : List ℕ) (held more : List (List ℕ)) (old new : State) (a : Bool) → Holds start held old
    → Redone old.pair.changes new.pair.changes old.line new.line a → Holds start (held ++ more) new
History-PutAgain start held more old new a h d =
    let k = History-redone start held old.line.text new.line.text old.pair.changes h (line_ahead-replay (redo_of old.pair.changes.pending) old.line new.line d.line_is) in
    History-more start held more new.line.text new.pair.changes (subst (λ (r : Record). History start held new.line.text r) (sym d.record_is) k)

History-GaveUp : (start : List ℕ) (held more : List (List ℕ)) (old new : State) (a : Bool) → Holds start held old
    → Abandoned old.pair.changes new.pair.changes old.line new.line a → Holds start (held ++ more) new
History-GaveUp start held more old new a h d = elim (abandoned-as old.pair.changes new.pair.changes old.line new.line a d) [
  | inl same ↦
      History-more start held more new.line.text new.pair.changes
      (subst (λ (r : Record). History start held new.line.text r) (sym same.0) (subst (λ (l : Line). History start held l.text old.pair.changes) (sym same.1) h))
  | inr (mid, b, u, is) ↦
      subst (λ (r : Record). History start (held ++ more) new.line.text r) (sym is)
      (History-dropped start (held ++ more) new.line.text mid (History-TookBack _ start held more old (with_changes mid new) b h u))
]

Holds-Became : (start : List ℕ) (held : List (List ℕ)) (effect : Effect) (old new : State) (d : Became effect old new) → Holds start held old
    → Holds start (held ++ held_by effect old new d) new
Holds-Became start held (by_steps course) old new d h =
    History-Heard start held (steps_in course old new d) old.line old.pair.changes new.line.text new.pair.changes h (Heard-Came course old new d)
Holds-Became start held (on_record answered call) old new d h =
    subst (Holds start (held ++ texts_of_call call old.pair.changes old.line.text)) (sym d.1) (History-call call start held old.line.text old.pair.changes h d.0.1)
Holds-Became start held (keeps text) old new d h = subst (Holds start (held ++ [])) (sym d) (History-more start held [] old.line.text old.pair.changes h)
Holds-Became start held (takes_back n a) old new d h = History-TookBack _ start held _ old new a h d.0
Holds-Became start held (gives_up a) old new d h = History-GaveUp start held _ old new a h d.0
Holds-Became start held (puts_again a) old new d h = History-PutAgain start held _ old new a h d.0

-- a row adds its texts to those that were held
pub Holds-row : (start : List ℕ) (texts : List (List ℕ)) (row : Row) → Holds start texts row.before → Holds start (texts ++ held row) row.after
Holds-row start texts row h =
    let before = readied row.command row.before in
    subst (λ s. Holds start (texts ++ held row) s) (sym row.step.settles)
    (Holds-Became start texts (effect before row.command row.reply) before row.step.left row.step.does h)

pub Holds-Leads : (start : List ℕ) (rows : List Row) (texts : List (List ℕ)) (old new : State) → Holds start texts old → Leads old rows new
    → Holds start (texts ++ held_of rows) new
Holds-Leads start [] texts old new h l = subst (λ k. Holds start k new) (sym (append-nil texts)) (subst (λ s. Holds start texts s) (sym l) h)
Holds-Leads start (row ∷ rows) texts old new h l =
    subst (λ k. Holds start k new) (append_assoc texts (held row) (held_of rows))
    (Holds-Leads start rows (texts ++ held row) row.after new (Holds-row start texts row (subst (λ s. Holds start texts s) (sym l.0) h)) l.1)

pub Holds-Begins : (text : List ℕ) (s : State) → Begins text s → Holds text (text ∷ []) s
Holds-Begins text s b = grind (arith)

-- ---- rows in a run
-- what holds before a row of a run, and that the later rows go on from it
pub record At (start : List ℕ) (held : List (List ℕ)) (earlier later : List Row) (row : Row) (new : State) : Type 0 where
  pub holds : Holds start (held ++ held_of earlier) row.before
  pub goes_on : Leads row.after later new

pub row_at : (start : List ℕ) (held : List (List ℕ)) (old new : State) (commands : List Command) (replies : List Reply)
    (earlier later : List Row) (row : Row) → Holds start held old → (run : Run old commands replies new)
    → run.rows ≡ earlier ++ (row ∷ later) → At start held earlier later row new
row_at start held old new commands replies earlier later row h run e =
    let p = Leads-split earlier (row ∷ later) old new (subst (λ rows. Leads old rows new) e run.leads) in
    let before = Holds-Leads start earlier held old p.0 h p.1 in
    record { holds = subst (λ s. Holds start (held ++ held_of earlier) s) (sym p.2.0) before; goes_on = p.2.1 }

-- what a row did that was not refused, where its command is known
pub done_as : (row : Row) (command : Command) (Did : Record → Record → Line → Line → Type 0)
    → ((old left : State) (reply : Reply) → Does old command reply left → ¬ (WasRefused reply) → Did old.pair.changes left.pair.changes old.line left.line)
    → row.command ≡ command → ¬ (WasRefused row.reply) → Did row.before.pair.changes row.after.pair.changes row.before.line row.after.line
done_as row command Did done e w = grind (arith)

-- an undo that was not refused
Undo-done : (n : ℕ) (old left : State) (reply : Reply) → Does old (Undo n) reply left → ¬ (WasRefused reply) → (a : Bool) × Undone n old.pair.changes left.pair.changes old.line left.line a
Undo-done n old left (says.Answer a) d w = (a, d.0)
Undo-done n old left _ d w = absurd (search rules)

pub undo-row : (row : Row) (n : ℕ) → row.command ≡ Undo n → ¬ (WasRefused row.reply)
    → (a : Bool) × Undone n row.before.pair.changes row.after.pair.changes row.before.line row.after.line a
undo-row row n = done_as row (Undo n) (λ r k l m. (a : Bool) × Undone n r k l m a) (Undo-done n)

pub undo-in_run : (start : List ℕ) (held : List (List ℕ)) (old new : State) (commands : List Command) (replies : List Reply)
    (earlier later : List Row) (row : Row) (n : ℕ) → Holds start held old → (run : Run old commands replies new)
    → run.rows ≡ earlier ++ (row ∷ later) → row.command ≡ Undo n → ¬ (WasRefused row.reply) → WasHeld row.after.line.text (held ++ held_of earlier)
undo-in_run start held old new commands replies earlier later row n h run e is_undo done =
    let at = row_at start held old new commands replies earlier later row h run e in
    let d = undo-row row n is_undo done in
    let r = row.before.pair.changes in
    undo-held n start (held ++ held_of earlier) row.before.line.text row.after.line.text r at.holds (line_back-unwind (last_of n r.recorded) row.before.line row.after.line d.1.line_is)

pub undo-drops : (row : Row) (n : ℕ) → row.command ≡ Undo n → ¬ (WasRefused row.reply)
    → (row.after.pair.changes ≡ undone n row.before.pair.changes)
    × (row.before.pair.changes.recorded ≡ row.after.pair.changes.recorded ++ last_of n row.before.pair.changes.recorded)
undo-drops row n is_undo done = grind (arith, undo-row, kept-last)

-- a redo that was not refused
Redo-done : (old left : State) (reply : Reply) → Does old Redo reply left → ¬ (WasRefused reply) → (a : Bool) × Redone old.pair.changes left.pair.changes old.line left.line a
Redo-done old left (says.Answer a) d w = (a, d.0)
Redo-done old left _ d w = absurd (search rules)

pub redo-row : (row : Row) → row.command ≡ Redo → ¬ (WasRefused row.reply) → (a : Bool) × Redone row.before.pair.changes row.after.pair.changes row.before.line row.after.line a
redo-row row = done_as row Redo (λ r k l m. (a : Bool) × Redone r k l m a) Redo-done

pub redo-rows : (rows : List Row) (old new : State) → AllRedone rows → Leads old rows new → Redos (length rows) old.pair.changes new.pair.changes old.line new.line
redo-rows [] old new all l = (ap (λ (s : State). s.pair.changes) l, ap (λ (s : State). s.line) l)
redo-rows (row ∷ rows) old new all l = grind (arith, redo-row, (redo-rows rows row.after new all.2 l.1))

pub redo-in_run : (start : List ℕ) (held : List (List ℕ)) (old new : State) (commands : List Command) (replies : List Reply)
    (earlier redos : List Row) (row : Row) (n : ℕ) → Holds start held old → (run : Run old commands replies new)
    → run.rows ≡ earlier ++ (row ∷ redos) → row.command ≡ Undo n → ¬ (WasRefused row.reply) → opens (last_units n row.before.pair.changes.recorded) ≡ 0
    → AllRedone redos → length redos ≡ length (last_units n row.before.pair.changes.recorded)
    → (new.line.text ≡ row.before.line.text) × (new.pair.changes.recorded ≡ row.before.pair.changes.recorded)
    × (new.pair.changes.pending ≡ row.before.pair.changes.pending)
redo-in_run start held old new commands replies earlier redos row n h run e is_undo done whole all long =
    let at = row_at start held old new commands replies earlier redos row h run e in
    let d = undo-row row n is_undo done in
    let r = row.before.pair.changes in
    let again = subst (λ k. Redos k row.after.pair.changes new.pair.changes row.after.line new.line) long (redo-rows redos row.after new all at.goes_on) in
    let text_of = replay-IsUtf8 r.recorded start row.before.line.text at.holds.is_text at.holds.leads in
    let back = redos-give-back n r row.after.pair.changes new.pair.changes row.before.line row.after.line new.line d.0 text_of at.holds.matched whole d.1 again in
    (back.2, back.0, back.1)

-- ---- a save point, which nothing that is done leaves with other changes before it
Saved-steps : (es : List Entry) (steps : List PlanStep) (cursor : ℕ) (r : Record) → StaysSaved es r → StaysSaved es (listener_after record_step cursor steps r)
Saved-steps es [] cursor r s = s
Saved-steps es (step ∷ steps) cursor r s =
    Saved-steps es steps step.1 _ (saved-step es (record_step r step.0) (Cursors cursor step.1) (saved-step es r step.0 s))

Saved-Became : (es : List Entry) (effect : Effect) (old new : State) → Became effect old new → StaysSaved es old.pair.changes → StaysSaved es new.pair.changes
Saved-Became es (by_steps course) old new d s =
    let k = Heard-Came course old new d in subst (StaysSaved es) (sym k.taken.listener) (Saved-steps es (steps_in course old new d) old.line.cursor old.pair.changes s)
Saved-Became es (on_record answered call) old new d s =
    subst (λ (k : State). StaysSaved es k.pair.changes) (sym d.1) (saved-call es call old.pair.changes old.line.text d.0.1 s)
Saved-Became es (keeps text) old new d s = subst (λ (k : State). StaysSaved es k.pair.changes) (sym d) s
Saved-Became es (takes_back n a) old new d s = subst (StaysSaved es) (sym d.0.record_is) (saved-undone es old.pair.changes n s)
Saved-Became es (gives_up a) old new d s = subst (StaysSaved es) (sym d.0.record_is) (saved-abandoned es old.pair.changes s)
Saved-Became es (puts_again a) old new d s = subst (StaysSaved es) (sym d.0.record_is) (saved-redone es old.pair.changes s)

pub Saved-Leads : (es : List Entry) (rows : List Row) (old new : State) → StaysSaved es old.pair.changes → Leads old rows new → StaysSaved es new.pair.changes
Saved-Leads es [] old new s l = subst (λ (k : State). StaysSaved es k.pair.changes) (sym l) s
Saved-Leads es (row ∷ rows) old new s l =
    let before = readied row.command row.before in
    let step = Saved-Became es (effect before row.command row.reply) before row.step.left row.step.does (subst (λ (k : State). StaysSaved es k.pair.changes) (sym l.0) s) in
    Saved-Leads es rows row.after new (subst (λ (k : State). StaysSaved es k.pair.changes) (sym row.step.settles) step) l.1

-- so where the record stands at the point, the text is that of the save
pub saved-text : (start : List ℕ) (held : List (List ℕ)) (old new : State) (commands : List Command) (replies : List Reply) → Holds start held old
    → Run (saved_now old) commands replies new → is_saved new.pair.changes ≡ true → new.line.text ≡ old.line.text
saved-text start held old new commands replies h run at =
    let r = old.pair.changes in
    let marked : Holds start held (saved_now old) = record { is_text = h.is_text; leads = h.leads; placed = h.placed; matched = record { recorded = h.matched.recorded; pending = h.matched.pending } } in
    let now = Holds-Leads start run.rows held (saved_now old) new marked run.leads in
    let same = saved-replays r.recorded new.pair.changes start (Saved-Leads (changes_of r.recorded) run.rows (saved_now old) new (inr (saved-marked r)) run.leads) at in
    same_Some _ _ (sym now.leads ∙ same ∙ h.leads)
