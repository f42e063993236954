-- What a watch keeps of a text at each event, it keeps over a command.
use Rattle.rl_session.proofs.Common.{◌≡◌, ◌∙◌, ℕ, ◌^◌, ◌<◌, arith, true, false, List, length, Option, Some, None, option_map, ◌≤◌, inl, inr, sym, ap, subst, map, option_and_then, reverse, unwrap_or, IsCharBoundary-end, IsCharBoundary, IsUtf8, Event, Replace, Start, Stop, Cursors, apply, HasTexts, IsChange, IsLineText, LacksTexts, Noted, Queue, Stand, TellsByTexts, after_numbers, after_texts, oldest, queue_step, Covers, spliced, Watched, ReportsLead, next_note, past_next, text_room, watch_step, Line, Taken, steps_ahead, steps_back, last_of, redo_of, inverse, Effect, by_steps, takes_back, puts_again, Became, effect, readied, Course, never, when, stays, goes, edits, lends, pops, tells, Came, WatchHears, popped, pair_step, State, ChangedFrom, IsBounded, ReportedFrom, Stands, restarted, with_watch, Row, Run, Command, Reply, Pair}
use Rattle.rl_base.specs.Reports.{past_oldest}
use Rattle.rl_base.proofs.Queue.LeadLemmas.{marked, nothing, placed, whole, with_texts}
use Rattle.rl_base.specs.declared.listeners.Refusal.TheVariants as why
use Rattle.rl_base.proofs.Texts.SpliceLemmas.{Covers-apply}
use Rattle.rl_line.specs.Plan.{Step as PlanStep, after}
use Rattle.rl_line.proofs.Changes.GoingLemmas.{after-steps_ahead, after-steps_back}
use Rattle.rl_line.proofs.Plans.HearingLemmas.{AreChanges, Keeps-after}
use Rattle.rl_session.specs.Commands.{Step, stops, lent, keeps, gives_up}
use Rattle.rl_session.proofs.Sessions.CommandLemmas.{Changes, EffectChanges, effect-changes}
use Rattle.rl_session.proofs.Sessions.CourseLemmas.{Moved-text}
use Rattle.rl_session.proofs.Sessions.IdleLemmas.{NoneStarts-ahead, NoneStarts-first}
use Rattle.rl_session.proofs.Sessions.PairLemmas.{cause-watch, listener_after-watch, own}
use Rattle.rl_session.proofs.Sessions.RestartLemmas.{apply-all}
use Rattle.rl_session.proofs.Runs.RowLemmas.{Leads-keeps}
use Rattle.rl_record.specs.Units.{open_group}

-- what is known of a line before a command and after it
pub record Texts (old new : Line) : Type 0 where
  pub utf8 : IsUtf8 old.text
  pub fits : length old.text < 2 ^ 64
  pub at : IsCharBoundary old.text old.cursor
  pub within : length old.text ≤ old.limit
  pub new_utf8 : IsUtf8 new.text
  pub new_fits : length new.text < 2 ^ 64
  pub limit : new.limit < 2 ^ 64

module _ (Keeps : Watched → List ℕ → Type 0)
    (heard : (w : Watched) (event : Event) (before after : ℕ) (text new : List ℕ) → Keeps w text → IsUtf8 text → length text < 2 ^ 64 → length new < 2 ^ 64
    → IsChange event → IsCharBoundary text before → apply event text ≡ Some new → IsCharBoundary new after → Keeps (watch_step (watch_step w event) (Cursors before after)) new)
    (over_marks : (w : Watched) (text : List ℕ) → Keeps w text → IsUtf8 text → length text < 2 ^ 64 → Keeps (watch_step w Start) text × Keeps (watch_step w Stop) text) where
  -- it keeps this of a state
  abbrev Kept : State → Type 0
  Kept s = Keeps s.pair.watch s.line.text

  Kept-same : (old new : State) → new ≡ old → Kept old → Kept new
  Kept-same old new e k = subst Kept (sym e) k

  pub Keeps-Taken : (steps : List PlanStep) (old new : Line) (p q : Pair) → IsUtf8 old.text → length old.text < 2 ^ 64 → new.limit < 2 ^ 64 → AreChanges steps → IsCharBoundary old.text old.cursor
      → Taken pair_step steps old new p q → Keeps p.watch old.text → Keeps q.watch new.text
  Keeps-Taken steps old new p q u small large c at t k =
      let same : q.watch ≡ _ = ap (λ (l : Pair). l.watch) t.listener ∙ listener_after-watch old.cursor steps p in
      subst (λ w. Keeps w new.text) (sym same) (Keeps-after watch_step Keeps heard steps old new p.watch k u small large c at t.line)

  pub Kept-Came : (course : Course) (old new : State) → Texts old.line new.line → Changes course → Came course old new → Kept old → Kept new
  Kept-Came never old new t c d k = absurd d
  Kept-Came (when condition course) old new t c d k = Kept-Came course old new t c d.1 k
  Kept-Came stays old new t c d k = Kept-same old new d k
  Kept-Came (goes place a) old new t c d k =
      subst (λ w. Keeps w new.line.text) (sym (ap (λ (s : State). s.pair.watch) d.1)) (subst (Keeps old.pair.watch) (sym (Moved-text place old.line new.line a d.0)) k)
  Kept-Came (edits plan a) old new t c d k =
      let last = d.done.last in
      let limit : new.line.limit ≡ last.limit = ap (λ (l : Line). l.limit) d.done.line in
      subst (Keeps new.pair.watch) (sym (ap (λ (l : Line). l.text) d.done.line)) (Keeps-Taken plan.steps old.line last old.pair new.pair t.utf8 t.fits (omega (arith, t.limit)) c t.at d.done.taken k)
  Kept-Came (stops unbegun takes plan) old new t c (inl e) k = Kept-same old new e.1 k
  Kept-Came (stops unbegun takes plan) old new t c (inr cut) k =
      let h = cut.halted in
      let cause = cause-watch h.middle new.pair h.next.0 why.NoMemory (own takes h.middle new.pair h.next.0 why.NoMemory h.cause) in
      subst (λ w. Keeps w new.line.text) (sym cause) (Keeps-Taken h.first old.line new.line old.pair h.middle t.utf8 t.fits t.limit (NoneStarts-first h.first h.next h.others (subst AreChanges h.split c)).0 t.at h.taken k)
  Kept-Came (lends course) old new t c d k = Kept-Came course (lent old) new t c d k
  Kept-Came (pops course) old new t c d k = Kept-Came course (popped old) new t c d k
  Kept-Came (tells true course) old new t c d k = Kept-Came course old new t c d k
  Kept-Came (tells false course) old new t c d k =
      let begun = record old { pair = pair_step old.pair Start } in
      let inside = record new { pair = d.last } in
      let kept = Kept-Came course begun inside t c d.inside (over_marks old.pair.watch old.line.text k t.utf8 t.fits).0 in
      subst (λ w. Keeps w new.line.text) (sym (ap (λ (p : Pair). p.watch) d.ended)) (over_marks d.last.watch new.line.text kept t.new_utf8 t.new_fits).1

  -- over the steps of an undo or a redo
  Kept-over : (steps : List PlanStep) (old new : State) → Texts old.line new.line → AreChanges steps → after steps old.line ≡ Some new.line → WatchHears steps old new → Kept old → Kept new
  Kept-over steps old new t c e hears k =
      subst (λ w. Keeps w new.line.text) (sym hears) (Keeps-after watch_step Keeps heard steps old.line new.line old.pair.watch k t.utf8 t.fits t.limit c t.at e)

  pub Kept-Became : (effect : Effect) (old new : State) → Texts old.line new.line → EffectChanges effect → Became effect old new → Kept old → Kept new
  Kept-Became (by_steps course) old new t c d k = Kept-Came course old new t c d k
  Kept-Became (keeps text) old new t c d k = subst Kept (sym d) k
  Kept-Became (takes_back n a) old new t c d k =
      let back = last_of n old.pair.changes.recorded in
      let steps = after-steps_back back old.line new.line t.at t.within d.0.line_is in
      Kept-over (steps_back old.line.cursor back) old new t (NoneStarts-ahead (map inverse (reverse back)) old.line.cursor) steps d.2 k
  Kept-Became (gives_up a) old new t c d k =
      let group = open_group old.pair.changes.recorded in
      Kept-over (steps_back old.line.cursor group) old new t (NoneStarts-ahead (map inverse (reverse group)) old.line.cursor) (after-steps_back group old.line new.line t.at t.within d.0.line_is) d.2 k
  Kept-Became (puts_again a) old new t c d k =
      let ahead = redo_of old.pair.changes.pending in
      let steps = after-steps_ahead ahead old.line new.line t.at t.within d.0.line_is in
      Kept-over (steps_ahead old.line.cursor ahead) old new t (NoneStarts-ahead ahead old.line.cursor) steps d.2 k
  Kept-Became _ old new t c d k = subst Kept (sym d.1) k

  -- the ring's resets touch neither the watch nor the line
  pub Kept-Step : (old : State) (command : Command) (reply : Reply) (new : State) → Step old command reply new → Stands old → IsBounded old → Kept old → Kept new
  Kept-Step old command reply new s h b k =
      let begun = readied command old in
      let line : new.line ≡ s.left.line = ap (λ (x : State). x.line) s.settles in
      let now = subst (λ (x : Line). IsUtf8 x.text × (length x.text ≤ x.limit) × (x.limit < 2 ^ 64)) line (s.stands.utf8, s.stands.within, s.bounded) in
      let texts : Texts begun.line s.left.line = record {
        utf8 = h.utf8;
        fits = omega (arith, h.within, b);
        at = h.cursor;
        within = h.within;
        new_utf8 = now.0;
        new_fits = omega (arith, now.1, now.2);
        limit = now.2;
      } in
      subst Kept (sym s.settles) (Kept-Became (effect begun command reply) begun s.left texts (effect-changes begun command reply) s.does k)

  -- a restart is told as one change of the whole text
  pub Kept-restarted : (text : List ℕ) (pos : ℕ) (old new : State) → new ≡ restarted text pos old → Stands old → IsBounded old → Stands new → IsBounded new → Kept old → Kept new
  Kept-restarted text pos old new e h b stands bounded k =
      let utf8 : IsUtf8 text = subst (λ (s : State). IsUtf8 s.line.text) e stands.utf8 in
      let is : length new.line.text ≡ length text = ap (λ (s : State). length s.line.text) e in
      subst Kept (sym e) (heard old.pair.watch (Replace 0 old.line.text text) old.line.cursor (length text) old.line.text text k h.utf8 (omega (arith, h.within, b)) (omega (arith, is, stands.within, bounded))
      tt h.cursor (apply-all old.line.text text h.utf8 utf8) (IsCharBoundary-end text))

-- what covers all that changed covers it after one more change
goes_on : (asked : List ℕ) (w : Watched) (event : Event) (before after : ℕ) (text new : List ℕ) → Covers w.changed asked text → IsUtf8 text → length text < 2 ^ 64 → length new < 2 ^ 64
    → IsChange event → IsCharBoundary text before → apply event text ≡ Some new → IsCharBoundary new after → Covers (spliced w.changed event) asked new
goes_on asked w event before after text new k u small large c at e to = Covers-apply w.changed event asked text new k u small large e

-- reports lead on over one more change, and over marks
lead_on : (read : List ℕ) (w : Watched) (event : Event) (before after : ℕ) (text new : List ℕ) → IsLineText read × ReportsLead true w.reports read text → IsUtf8 text → length text < 2 ^ 64 → length new < 2 ^ 64
    → IsChange event → IsCharBoundary text before → apply event text ≡ Some new → IsCharBoundary new after → IsLineText read × ReportsLead true (watch_step (watch_step w event) (Cursors before after)).reports read new
lead_on read w event before after text new k u small large c at e to = grind (arith, placed)

lead_over : (read : List ℕ) (w : Watched) (text : List ℕ) → IsLineText read × ReportsLead true w.reports read text → IsUtf8 text → length text < 2 ^ 64
    → (IsLineText read × ReportsLead true (watch_step w Start).reports read text) × (IsLineText read × ReportsLead true (watch_step w Stop).reports read text)
lead_over read w text k u small = let both = from w.reports k.1 in ((k.0, both.0), (k.0, both.1))
  where
    from : (reports : Option Queue) → ReportsLead true reports read text
        → ReportsLead true (option_map (λ (q : Queue). queue_step q Start) reports) read text × ReportsLead true (option_map (λ (q : Queue). queue_step q Stop) reports) read text
    from None h = absurd h
    from (Some q) h = marked true q read text h k.0 (record { utf8 = u; fits = small })

-- so what changed is told after a command, and after a run
pub changed_row : (asked : List ℕ) (row : Row) → ChangedFrom asked row.before → ChangedFrom asked row.after
changed_row asked row k = record {
  stands = row.step.stands;
  bounded = row.step.bounded;
  covers = Kept-Step (λ w text. Covers w.changed asked text) (goes_on asked) (λ w text k u small. (k, k)) row.before row.command row.reply row.after row.step k.stands k.bounded k.covers;
}

pub reported_row : (read : List ℕ) (row : Row) → ReportedFrom read row.before → ReportedFrom read row.after
reported_row read row k =
    let kept = Kept-Step (λ w text. IsLineText read × ReportsLead true w.reports read text) (lead_on read) (lead_over read) row.before row.command row.reply row.after row.step k.stands k.bounded (k.text, k.leads) in
    record { stands = row.step.stands; bounded = row.step.bounded; text = kept.0; leads = kept.1 }

-- and after a restart
pub changed_restarted : (asked text : List ℕ) (pos : ℕ) (old new : State) → new ≡ restarted text pos old → Stands new → IsBounded new → ChangedFrom asked old → ChangedFrom asked new
changed_restarted asked text pos old new e h b k =
    record { stands = h; bounded = b; covers = Kept-restarted (λ w text. Covers w.changed asked text) (goes_on asked) (λ w text k u small. (k, k)) text pos old new e k.stands k.bounded h b k.covers }

pub reported_restarted : (read text : List ℕ) (pos : ℕ) (old new : State) → new ≡ restarted text pos old → Stands new → IsBounded new → ReportedFrom read old → ReportedFrom read new
reported_restarted read text pos old new e h b k =
    let kept = Kept-restarted (λ w text. IsLineText read × ReportsLead true w.reports read text) (lead_on read) (lead_over read) text pos old new e k.stands k.bounded h b (k.text, k.leads) in
    record { stands = h; bounded = b; text = kept.0; leads = kept.1 }

pub changed_run : (asked : List ℕ) (old new : State) (commands : List Command) (replies : List Reply) → Run old commands replies new → ChangedFrom asked old → ChangedFrom asked new
changed_run asked old new commands replies run k = Leads-keeps (ChangedFrom asked) (changed_row asked) run.rows old new run.leads k

pub reported_run : (read : List ℕ) (old new : State) (commands : List Command) (replies : List Reply) → Run old commands replies new → ReportedFrom read old → ReportedFrom read new
reported_run read old new commands replies run k = Leads-keeps (ReportedFrom read) (reported_row read) run.rows old new run.leads k

-- ---- the oldest report is taken
present : (s : State) (read : List ℕ) → ReportedFrom read s → IsLineText s.line.text
present s read k = record { utf8 = k.stands.utf8; fits = omega (arith, k.stands.within, k.bounded) }

-- where reading left off, once it went on
goes_on_from : (s : State) (read text : List ℕ) → ReportedFrom read s → IsLineText text → ReportsLead true (option_map past_oldest s.pair.watch.reports) text s.line.text
    → ReportedFrom text (with_watch (past_next s.pair.watch) s)
goes_on_from s read text k u l = grind (arith)

pub reads_nothing : (s : State) (read : List ℕ) → ReportedFrom read s → next_note s.pair.watch ≡ None → s.line.text ≡ read
reads_nothing s read k = grind (arith, nothing)

pub reads_texts : (s : State) (read : List ℕ) (note : Noted) → ReportedFrom read s → next_note s.pair.watch ≡ Some note → HasTexts (text_room s.pair.watch) note.report
    → TellsByTexts note read × Stand note.report.cursors read (after_texts note read) × ReportedFrom (after_texts note read) (with_watch (past_next s.pair.watch) s)
reads_texts s read note k h has =
    let r = from s.pair.watch.reports k.leads h has in (r.1, r.2, goes_on_from s read (after_texts note read) k r.0 r.3)
  where
    from : (reports : Option Queue) → ReportsLead true reports read s.line.text → option_and_then (λ (q : Queue). oldest q.waiting) reports ≡ Some note
        → HasTexts (unwrap_or (option_map (λ (q : Queue). q.text_room) reports) 0) note.report
        → IsLineText (after_texts note read) × TellsByTexts note read × Stand note.report.cursors read (after_texts note read) × ReportsLead true (option_map past_oldest reports) (after_texts note read) s.line.text
    from None l h has = absurd l
    from (Some q) l h has = let r = with_texts true q note read s.line.text l k.text h has in (r.text, r.tells, r.cursors, r.rest)

pub reads_whole : (s : State) (read : List ℕ) (note : Noted) → ReportedFrom read s → next_note s.pair.watch ≡ Some note → LacksTexts (text_room s.pair.watch) note.report
    → (next_note (past_next s.pair.watch) ≡ None) × (after_numbers note.report s.line.text read ≡ s.line.text) × Stand note.report.cursors read s.line.text × ReportedFrom s.line.text (with_watch (past_next s.pair.watch) s)
reads_whole s read note k h lacks =
    let r = from s.pair.watch.reports k.leads h lacks in (r.0, r.1, r.2, goes_on_from s read s.line.text k (present s read k) r.3)
  where
    from : (reports : Option Queue) → ReportsLead true reports read s.line.text → option_and_then (λ (q : Queue). oldest q.waiting) reports ≡ Some note
        → LacksTexts (unwrap_or (option_map (λ (q : Queue). q.text_room) reports) 0) note.report
        → (option_and_then (λ (q : Queue). oldest q.waiting) (option_map past_oldest reports) ≡ None) × (after_numbers note.report s.line.text read ≡ s.line.text)
        × Stand note.report.cursors read s.line.text × ReportsLead true (option_map past_oldest reports) s.line.text s.line.text
    from None l h lacks = absurd l
    from (Some q) l h lacks = let r = whole true q note read s.line.text l h lacks in (r.all, r.tells, r.cursors, r.rest)
