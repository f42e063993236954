-- What a session held: all that it keeps of what was undone, and of a session of which no history is known what its record says.
use Rattle.rl_session.proofs.Common.{AllRedone, Redos, end_times, same_Some, ◌+◌, ◌<◌, ◌≤◌, length, true, rules, unwind, last_of, IsMatched, Undo, Command, Does, Line, Record, Reply, Row, Run, WasRefused, held, held_of, ◌≡◌, ◌∙◌, ℕ, List, [], ◌∷◌, ◌++◌, All, Ends, Entry, Begin, End, Changed, IsUtf8, Some, WasHeld, Placed, Holds, State, append-nil, append_assoc, ap, end_one, event_of, inl, inr, inverse, level, line_ahead, line_back, option_and_then, origin, refl, replay_entries, subst, sym}
use Rattle.rl_base.proofs.Common.{All-cons, All-nil}
use Rattle.rl_base.specs.Event.{apply}
use Rattle.rl_line.specs.Entry.{flipped}
use Rattle.rl_record.specs.Record.{turned_all}
use Rattle.rl_line.specs.Going.{texts_ahead}
use Rattle.rl_record.specs.Units.{BothMatched, closed_all, kept_undone, next_of, there_and_back, units, waits}
use Rattle.rl_session.specs.declared.session.Command.TheVariants.{KeepUndone}
use Rattle.rl_session.specs.declared.session.Reply.TheVariants as says
use Rattle.rl_record.proofs.Records.LastLemmas.{end_one-cases, end_times-keeps}
use Rattle.rl_record.proofs.Records.MarkLemmas.{replay-end, replay-end_one}
use Rattle.rl_line.proofs.Changes.InverseLemmas.{inverse-undoes, replay-IsUtf8, replay-append, replay-unwind, through, unwind-IsUtf8, value_of}
use Rattle.rl_record.proofs.Records.RedoLemmas.{Redos-lead}
use Rattle.rl_line.proofs.Changes.RoomLemmas.{texts_after-more}
use Rattle.rl_record.proofs.Records.RoundLemmas.{undos-lead_above}
use Rattle.rl_line.proofs.Changes.BackLemmas.{line_ahead-replay, line_back-unwind}
use Rattle.rl_record.proofs.Records.UnitLemmas.{turned-append}
use Rattle.rl_session.proofs.Runs.HistoryLemmas.{Holds-Leads, Holds-row, done_as, redo-rows, row_at, undo-row}
use Rattle.rl_session.proofs.Runs.RowLemmas.{Leads-split}
use Rattle.rl_session.proofs.Runs.PlaceLemmas.{Placed-ahead, Placed-front, Placed-held, Placed-mark, pending-leads}

-- the texts on a way were all held
abbrev AllHeld : List (List ℕ) → List Entry → List ℕ → Type 0
AllHeld held es text = All (λ (t : List ℕ). WasHeld t held) (texts_ahead es text)

one_more : (held : List (List ℕ)) (e : Entry) (es : List Entry) (text next : List ℕ) → apply (event_of e) text ≡ Some next → WasHeld next held
    → AllHeld held es next → AllHeld held (e ∷ es) text
one_more held e es text next made was rest =
    subst (All (λ (t : List ℕ). WasHeld t held)) (sym (texts_after-more (event_of e) _ text next made)) (All-cons (λ (t : List ℕ). WasHeld t held) next _ was rest)

on_by : (xs : List Entry) (e : Entry) (start text next : List ℕ) → replay_entries xs start ≡ Some text → apply (event_of e) text ≡ Some next
    → replay_entries (xs ++ e ∷ []) start ≡ Some next
on_by xs e start text next leads made =
    replay-append xs (e ∷ []) start ∙ ap (option_and_then (replay_entries (e ∷ []))) leads ∙ ap (option_and_then (λ t. Some t)) made

-- there: over entries that are placed after others, and then on
there_held : (start : List ℕ) (held : List (List ℕ)) (xs ys zs : List Entry) (text end : List ℕ) → Placed start (xs ++ ys) held → replay_entries xs start ≡ Some text
    → replay_entries ys text ≡ Some end → AllHeld held zs end → AllHeld held (ys ++ zs) text
there_held start held xs [] zs text end p leads to on = let same : end ≡ text = cc in subst (AllHeld held zs) same on
there_held start held xs (y ∷ ys) zs text end p leads to on =
    let (next, made, rest) = through (replay_entries ys) (apply (event_of y) text) end to in
    let placed = subst (λ l. Placed start l held) (sym (append_assoc xs (y ∷ []) ys)) p in
    let now = on_by xs y start text next leads made in
    one_more held y (ys ++ zs) text next made (Placed-held start (xs ++ y ∷ []) held next (Placed-front start (xs ++ y ∷ []) ys held placed) now)
    (there_held start held (xs ++ y ∷ []) ys zs next end placed now rest on)

turned-undoes : (e : Entry) (x y : List ℕ) → IsUtf8 x → apply (event_of e) x ≡ Some y → apply (event_of (flipped (inverse e))) y ≡ Some x
unfolding apply
turned-undoes Begin x y u h = sym h
turned-undoes End x y u h = sym h
turned-undoes (Changed k s) x y u h = inverse-undoes (Changed k s) x y u h

-- and back: over the same entries, from their end
back_held : (start : List ℕ) (held : List (List ℕ)) (xs ys zs : List Entry) (text end : List ℕ) → IsUtf8 start → Placed start (xs ++ ys) held → replay_entries xs start ≡ Some text
    → replay_entries ys text ≡ Some end → AllHeld held zs text → AllHeld held (turned_all ys ++ zs) end
back_held start held xs [] zs text end u p leads to on = let same : text ≡ end = cc in subst (AllHeld held zs) same on
back_held start held xs (y ∷ ys) zs text end u p leads to on =
    let (next, made, rest) = through (replay_entries ys) (apply (event_of y) text) end to in
    let placed = subst (λ l. Placed start l held) (sym (append_assoc xs (y ∷ []) ys)) p in
    let was = Placed-held start xs held text (Placed-front start xs (y ∷ ys) held p) leads in
    let last = one_more held (flipped (inverse y)) zs next text (turned-undoes y text next (replay-IsUtf8 xs start text u leads) made) was on in
    subst (λ l. AllHeld held l end) (sym (ap (λ l. l ++ zs) (turned-append (y ∷ []) ys) ∙ append_assoc (turned_all ys) (flipped (inverse y) ∷ []) zs))
    (back_held start held (xs ++ y ∷ []) ys (flipped (inverse y) ∷ zs) next end u placed (on_by xs y start text next leads made) rest last)

-- what waits stays placed if its groups are closed
end_one-placed : (start : List ℕ) (held : List (List ℕ)) (xs ys : List Entry) → Placed start (xs ++ ys) held → Placed start (xs ++ end_one ys) held
end_one-placed start held xs ys p =
    elim (end_one-cases ys) [
      | inl c ↦
          let all = ap (λ l. xs ++ l) c.list_is ∙ sym (append_assoc xs c.front (Begin ∷ [])) in
          subst (λ l. Placed start (xs ++ l) held) (sym c.after_is) (Placed-front start (xs ++ c.front) (Begin ∷ []) held (subst (λ l. Placed start l held) all p))
      | inr c ↦
          subst (λ l. Placed start l held) (append_assoc xs ys (End ∷ []) ∙ ap (λ l. xs ++ l) (sym c.after_is)) (Placed-mark start (xs ++ ys) End held p (replay-end (xs ++ ys) start))
    ]

pub kept-held : (start : List ℕ) (held : List (List ℕ)) (s : State) → Holds start held s
    → All (λ (text : List ℕ). WasHeld text held) (texts_ahead (there_and_back s.pair.changes.pending) s.line.text)
kept-held start held s h =
    let r = s.pair.changes in
    let text = s.line.text in
    let closed = closed_all r.pending in
    let (end, ahead) = value_of (replay_entries r.pending text) (pending-leads start held text r h) in
    let to = end_times-keeps (λ es. replay_entries es text ≡ Some end) (λ es k. replay-end_one es text ∙ k) (level r.pending) r.pending ahead in
    let placed = end_times-keeps (λ es. Placed start (r.recorded ++ es) held) (λ es p. end_one-placed start held r.recorded es p) (level r.pending) r.pending h.placed in
    let back = back_held start held r.recorded closed [] text end h.is_text placed h.leads to (All-nil (λ (t : List ℕ). WasHeld t held)) in
    there_held start held r.recorded closed (turned_all closed) text end placed h.leads to (subst (λ l. AllHeld held l end) (append-nil (turned_all closed)) back)

-- a session whose record leads from a text to the present one, and on from there, held the texts on that way
pub history-of : (s : State) → Ends s → BothMatched s.pair.changes
    → (start : List ℕ) × (origin s ≡ Some start) × Holds start (start ∷ texts_ahead (s.pair.changes.recorded ++ s.pair.changes.pending) start) s
history-of s ends matched =
    let r = s.pair.changes in
    let (first, back) = value_of (line_back r.recorded s.line) ends.follows.back in
    let (last, ahead) = value_of (line_ahead r.pending s.line) ends.follows.ahead in
    let start = first.text in
    let from = line_back-unwind r.recorded s.line first back in
    let u = unwind-IsUtf8 r.recorded s.line.text start ends.stands.utf8 from in
    let leads = replay-unwind r.recorded s.line.text start ends.stands.utf8 from in
    let on = replay-append r.recorded r.pending start ∙ ap (option_and_then (replay_entries r.pending)) leads ∙ line_ahead-replay r.pending s.line last ahead in
    let placed = Placed-ahead start [] (r.recorded ++ r.pending) (start ∷ []) start last.text ([], record { rest = []; is = refl }) refl on in
    (start, from, record { is_text = u; leads = leads; placed = placed; matched = matched })

-- ---- undos that go on past later edits to what is kept
KeepUndone-done : (old left : State) (reply : Reply) → Does old KeepUndone reply left → ¬ (WasRefused reply) → (left.pair.changes ≡ kept_undone old.pair.changes) × (left.line ≡ old.line)
KeepUndone-done old left (says.Answer a) d w = (ap (λ (s : State). s.pair.changes) d.1, ap (λ (s : State). s.line) d.1)
KeepUndone-done old left _ d w = absurd (search rules)

-- redos leave the text to which the first units lead that wait, if no group is open there
as-redone : (s : State) (n : ℕ) (text : List ℕ) → IsMatched s.pair.changes.pending → 0 < n → n ≤ length (units (closed_all s.pair.changes.pending))
    → replay_entries (next_of n (closed_all s.pair.changes.pending)) s.line.text ≡ Some text → (other : State) (commands : List Command) (replies : List Reply)
    → (redos : Run s commands replies other) → AllRedone redos.rows → length redos.rows ≡ n → level s.pair.changes.pending ≡ 0 → other.line.text ≡ text
as-redone s n text m pos few to other commands replies redos all long closed =
    let r = s.pair.changes in
    let same : closed_all r.pending ≡ r.pending = ap (λ j. end_times j r.pending) closed in
    let d = subst (λ j. Redos j r other.pair.changes s.line other.line) long (redo-rows redos.rows s other all redos.leads) in
    let there = Redos-lead n r other.pair.changes s.line other.line m closed pos (subst (λ l. n ≤ length (units l)) same few) d in
    same_Some _ _ (sym there ∙ ap (λ l. replay_entries (next_of n l) s.line.text) (sym same) ∙ to)

pub undos-past_later : (start : List ℕ) (texts : List (List ℕ)) (old new : State) (commands : List Command) (replies : List Reply)
    (earlier inside later : List Row) (k u : Row) (n : ℕ) (es : List Entry) → Holds start texts old → (run : Run old commands replies new)
    → run.rows ≡ earlier ++ (k ∷ (inside ++ (u ∷ later)))
    → k.command ≡ KeepUndone → ¬ (WasRefused k.reply) → waits k.before.pair.changes.pending ≡ true
    → u.before.pair.changes.recorded ≡ k.after.pair.changes.recorded ++ es → IsMatched es
    → 0 < n → n ≤ length (units (closed_all k.before.pair.changes.pending))
    → u.command ≡ Undo (length (units es) + n) → ¬ (WasRefused u.reply)
    → (replay_entries (next_of n (closed_all k.before.pair.changes.pending)) k.before.line.text ≡ Some u.after.line.text)
    × ((other : State) (asked : List Command) (answered : List Reply) → (redos : Run k.before asked answered other) → AllRedone redos.rows → length redos.rows ≡ n
    → level k.before.pair.changes.pending ≡ 0 → other.line.text ≡ u.after.line.text)
undos-past_later start texts old new commands replies earlier inside later k u n es holds run rows is_keep keeps some above matched pos few is_undo undoes =
    let r = k.before.pair.changes in
    let text = k.before.line.text in
    let now = u.before.line.text in
    let m = length (units es) + n in
    let at = row_at start texts old new commands replies earlier (inside ++ (u ∷ later)) k holds run rows in
    let q = Leads-split inside (u ∷ later) k.after new at.goes_on in
    let held_then = (texts ++ held_of earlier) ++ held k in
    let here = Holds-row start (texts ++ held_of earlier) k at.holds in
    let late = subst (λ s. Holds start (held_then ++ held_of inside) s) (sym q.2.0) (Holds-Leads start inside held_then k.after q.0 here q.1) in
    let kept = done_as k KeepUndone (λ r now l m. (now ≡ kept_undone r) × (m ≡ l)) KeepUndone-done is_keep keeps in
    let from = here.leads ∙ ap (λ (l : Line). Some l.text) kept.1 in
    let to : replay_entries es text ≡ Some now =
    sym (replay-append k.after.pair.changes.recorded es start ∙ ap (option_and_then (replay_entries es)) from) ∙ ap (λ l. replay_entries l start) (sym above) ∙ late.leads in
    let d = (undo-row u m is_undo undoes).1 in
    let back = line_back-unwind (last_of m u.before.pair.changes.recorded) u.before.line u.after.line d.line_is in
    let same : u.before.pair.changes.recorded ≡ (kept_undone r).recorded ++ es = above ∙ ap (λ (q : Record). q.recorded ++ es) kept.0 in
    let leads =
    sym (undos-lead_above n r es text now at.holds.matched.pending some pos few matched (replay-IsUtf8 r.recorded start text at.holds.is_text at.holds.leads) to)
    ∙ ap (λ l. unwind (last_of m l) now) (sym same) ∙ back in
    (leads, as-redone k.before n u.after.line.text at.holds.matched.pending pos few leads)
