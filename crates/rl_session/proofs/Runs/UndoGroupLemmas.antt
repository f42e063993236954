-- A group that was closed is one unit, whatever happened inside, so that one undo takes it off.
use Rattle.rl_session.specs.Commands.{gives_up, keeps, on_record, puts_again, readied, takes_back}
use Rattle.rl_session.proofs.Common.{keeps_undone, parts_next, puts_begin, puts_end, puts_ends, reopens, shortens, Bool, rules, ◌≡◌, ◌<◌, ◌+◌, ℕ, inl, inr, zero, suc, true, List, [], ◌∷◌, ◌++◌, length, drop, take, max, Some, refl, sym, ap, subst, ◌∙◌, arith, or-false, min, listener_after, listener_after_step, Begin, End, Entry, Record, record_step, replay_entries, IsMatched, begun, end_one, end_times, ended, ended_one, has_change, kept_of, last_of, level, opens, with_closed, Effect, by_steps, Became, effect, Does, with_changes, AllStandInGroup, ClosesGroup, Holds, MayStandInGroup, WasRefused, Leads, Row, Run, held, held_of, steps_in, State, with_ring, reset, Append, Command, Reply, Cursors, cond, same_Some}
use Rattle.rl_line.specs.Plan.{Step}
use Rattle.rl_line.proofs.Changes.InverseLemmas.{has_change-append}
use Rattle.rl_record.proofs.Records.GroupLemmas.{Inside, InsideOf, Inside-event, Inside-begun, Inside-reopened, past_begin}
use Rattle.rl_record.proofs.Records.LastLemmas.{end_one-begin, end_one-cases, end_one-past, end_times-keeps}
use Rattle.rl_record.proofs.Records.EndLemmas.{closed_alone, closed_group, level-group}
use Rattle.rl_record.proofs.Records.MatchLemmas.{Lower-end_one, Lower-end_times}
use Rattle.rl_line.proofs.Changes.BackLemmas.{line_back-unwind}
use Rattle.rl_base.specs.KillRing.{killed}
use Rattle.rl_record.specs.Record.{parted}
use Rattle.rl_record.specs.Units.{reopened, open_size, redo_dropped, together, undone, kept_undone}
use Rattle.rl_session.specs.declared.session.Command.TheVariants as asks
use Rattle.rl_session.specs.declared.session.Reply.TheVariants as says
use Rattle.rl_session.proofs.Runs.RowLemmas.{Leads-split}
use Rattle.rl_session.proofs.Sessions.CourseLemmas.{Heard-Came}
use Rattle.rl_session.proofs.Runs.HistoryLemmas.{Holds-Leads, Holds-row, done_as, row_at, undo-row}
use Rattle.rl_session.proofs.Runs.PlaceLemmas.{kept-leads}
use Rattle.rl_record.proofs.Records.AbandonLemmas.{GroupOpen, Inside-Abandoned, Inside-redone, Inside-undone, open_after}
use Rattle.rl_line.specs.Going.{line_back}
use Rattle.rl_record.specs.Undo.{Abandoned}
use Rattle.rl_record.proofs.Records.RoundLemmas.{Inside-kept}

-- ---- the end of a group
-- the ends of the groups inside, then the end of the group itself
ends_inside : (k : ℕ) (xs inner : List Entry) → IsMatched inner → level inner ≡ k → end_times (suc k) (xs ++ (Begin ∷ inner)) ≡ end_one (xs ++ (Begin ∷ end_times k inner))
ends_inside zero xs inner h l = refl
ends_inside (suc k) xs [] h l = absurd (omega arith)
ends_inside (suc k) xs (e ∷ es) h l =
    let lower = Lower-end_one (e ∷ es) k h l in
    ap (end_times (suc k)) (end_one-past xs Begin (e ∷ es))
    ∙ ends_inside k xs (end_one (e ∷ es)) lower.matched lower.level_is

-- ends take no change away
has_change-end_one : (es : List Entry) → has_change (end_one es) ≡ has_change es
has_change-end_one es =
    elim (end_one-cases es) [
      | inl c ↦ ap has_change c.after_is ∙ sym (or-false (has_change c.front)) ∙ sym (has_change-append c.front (Begin ∷ [])) ∙ ap has_change (sym c.list_is)
      | inr c ↦ ap has_change c.after_is ∙ has_change-append es (End ∷ []) ∙ or-false (has_change es)
    ]

-- once a group and those that are open in it are closed, an undo of one unit keeps what was recorded before its begin, and finds a change
closed_one : (xs inner : List Entry) → IsMatched inner → level inner ≡ 0 → has_change inner ≡ true
    → (kept_of 1 (end_one (xs ++ (Begin ∷ inner))) ≡ xs) × (has_change (last_of 1 (end_one (xs ++ (Begin ∷ inner)))) ≡ true)
closed_one xs [] h l c = cc
closed_one xs (e ∷ es) h l c =
    let g = closed_alone xs e es h l in (
      closed_group xs (e ∷ es) h l c,
      ap (λ k. has_change (last_of 1 k)) g.is ∙ ap (λ us. has_change (together (take (max 1 1) us))) g.cut ∙ has_change-append (e ∷ es) (End ∷ []) ∙ or-false (has_change (e ∷ es)) ∙ c,
    )

ended_group : (xs inner : List Entry) → IsMatched inner → has_change inner ≡ true
    → (kept_of 1 (end_times (suc (level inner)) (xs ++ (Begin ∷ inner))) ≡ xs) × (has_change (last_of 1 (end_times (suc (level inner)) (xs ++ (Begin ∷ inner)))) ≡ true)
ended_group xs inner h c =
    let low = Lower-end_times (level inner) 0 inner h (omega arith) in
    subst (λ k. (kept_of 1 k ≡ xs) × (has_change (last_of 1 k) ≡ true)) (sym (ends_inside (level inner) xs inner h refl))
    (closed_one xs (end_times (level inner) inner) low.matched low.level_is (end_times-keeps (λ es. has_change es ≡ true) (λ es k. has_change-end_one es ∙ k) (level inner) inner c))

-- ---- what stands in the record after the Begin of an open group
Inside-steps : (cursor : ℕ) (steps : List Step) (front : List Entry) (r : Record) → Inside front r → Inside front (listener_after record_step cursor steps r)
Inside-steps cursor [] front r k = k
Inside-steps cursor (s ∷ ss) front r k =
    Inside-steps s.1 ss front (listener_after_step record_step cursor s r) (Inside-event (Cursors cursor s.1) front (record_step r s.0) (Inside-event s.0 front r k))

Inside-same : (front : List Entry) (old new : State) → Inside front old.pair.changes → new ≡ old → Inside front new.pair.changes
Inside-same front old new k e = subst (λ (s : State). Inside front s.pair.changes) (sym e) k

-- what leaves a group open, after which so many groups are open
abbrev StaysOpen : (below now : ℕ) → Effect → Type 0
StaysOpen below now (by_steps _) = Unit {0}
StaysOpen below now (keeps _) = Unit {0}
StaysOpen below now (on_record _ puts_ends) = ⊥
StaysOpen below now (on_record _ puts_end) = below < now
StaysOpen below now (on_record _ (shortens _)) = ⊥
StaysOpen below now (on_record _ _) = Unit {0}
StaysOpen below now (gives_up _) = below < now
StaysOpen below now (takes_back _ _) = below < now
StaysOpen below now (puts_again _) = Unit {0}

stays_open : (below now : ℕ) (old : State) (command : Command) (reply : Reply) → MayStandInGroup below now command reply → StaysOpen below now (effect old command reply)
stays_open below now old asks.End (says.Answer a) i = absurd i
stays_open below now old asks.EndOne (says.Answer a) i = elim i [ inl refused ↦ absurd refused | inr above ↦ above ]
stays_open below now old asks.Abandon (says.Answer a) i = elim i [ inl refused ↦ absurd refused | inr above ↦ above ]
stays_open below now old (asks.Undo n) (says.Answer a) i = elim i [ inl refused ↦ absurd refused | inr above ↦ above ]
stays_open below now old (asks.Truncate len) says.Done i = absurd i
stays_open below now old _ (says.Refused f) i = tt
stays_open below now old _ _ i = tt

-- the end of one group that leaves the group open closes one that was begun inside
Inside-end_one : (front inner : List Entry) → IsMatched inner → level front < level (end_one (front ++ (Begin ∷ inner))) → InsideOf front (end_one (front ++ (Begin ∷ inner)))
Inside-end_one front [] m up = absurd (omega (arith, up, ap level (end_one-begin front)))
Inside-end_one front (e ∷ es) m up = by_level (level (e ∷ es)) refl
  where
    by_level : (n : ℕ) → level (e ∷ es) ≡ n → InsideOf front (end_one (front ++ (Begin ∷ (e ∷ es))))
    by_level zero l = let g = closed_alone front e es m l in absurd (omega (arith, up, ap level g.is, ap opens g.cut))
    by_level (suc n) l = record {
      inner = end_one (e ∷ es);
      is = end_one-past front Begin (e ∷ es);
      matched = (Lower-end_one (e ∷ es) n m l).matched;
    }

Inside-ended_one : (front : List Entry) (r : Record) → Inside front r → level front < level (ended_one r).recorded → Inside front (ended_one r)
Inside-ended_one front r k up = grind (arith, level-group, Inside-end_one)

Inside-Became : (front : List Entry) (effect : Effect) (old new : State) → IsMatched front → IsMatched old.pair.changes.pending → StaysOpen (level front) (level new.pair.changes.recorded) effect → Became effect old new
    → Inside front old.pair.changes → Inside front new.pair.changes
Inside-Became front (by_steps course) old new m p i d k =
    subst (λ (r : Record). Inside front r) (sym (Heard-Came course old new d).taken.listener) (Inside-steps old.line.cursor (steps_in course old new d) front old.pair.changes k)
Inside-Became front (on_record _ puts_begin) old new m p i d k = Inside-same front (with_changes (begun old.pair.changes) old) new (Inside-begun front old.pair.changes k) d.1
Inside-Became front (on_record _ puts_end) old new m p i d k =
    let up = subst (λ (s : State). level front < level s.pair.changes.recorded) d.1 i in
    Inside-same front (with_changes (ended_one old.pair.changes) old) new (Inside-ended_one front old.pair.changes k up) d.1
Inside-Became front (keeps text) old new m p i d k = Inside-same front (with_ring (reset (killed text Append old.pair.ring)) old) new k d
Inside-Became front (on_record _ parts_next) old new m p i d k = Inside-same front (with_changes (parted old.pair.changes) old) new (record { inner = k.inner; is = k.is; matched = k.matched }) d.1
Inside-Became front (on_record _ reopens) old new m p i d k = Inside-same front (with_changes (reopened old.pair.changes) old) new (Inside-reopened front old.pair.changes k) d.1
Inside-Became front (on_record _ keeps_undone) old new m p i d k = Inside-same front (with_changes (kept_undone old.pair.changes) old) new (Inside-kept front old.pair.changes d.0.1.0 k) d.1
Inside-Became front (gives_up a) old new m p i d k = Inside-Abandoned front old.pair.changes new.pair.changes old.line new.line a m k i d.0
Inside-Became front (takes_back n a) old new m p i d k =
    subst (Inside front) (sym d.0.record_is) (Inside-undone n front old.pair.changes m k (subst (λ (r : Record). level front < level r.recorded) d.0.record_is i))
Inside-Became front (puts_again a) old new m p i d k = subst (Inside front) (sym d.0.record_is) (Inside-redone front old.pair.changes p k)
Inside-Became front _ old new m p i d k = absurd i

pub Inside-row : (front : List Entry) (row : Row) → IsMatched front → IsMatched row.before.pair.changes.pending → MayStandInGroup (level front) (level row.after.pair.changes.recorded) row.command row.reply
    → Inside front row.before.pair.changes → Inside front row.after.pair.changes
Inside-row front row m p i k =
    let before = readied row.command row.before in
    let left = row.step.left in
    let may = subst (λ (s : State). MayStandInGroup (level front) (level s.pair.changes.recorded) row.command row.reply) row.step.settles i in
    let stays = stays_open (level front) (level left.pair.changes.recorded) before row.command row.reply may in
    subst (λ (s : State). Inside front s.pair.changes) (sym row.step.settles) (Inside-Became front (effect before row.command row.reply) before left m p stays row.step.does k)

Inside-Leads : (start : List ℕ) (texts : List (List ℕ)) (front : List Entry) (rows : List Row) (old new : State) → IsMatched front → Holds start texts old → AllStandInGroup (level front) rows → Leads old rows new
    → Inside front old.pair.changes → Inside front new.pair.changes
Inside-Leads start texts front [] old new m h all l k = Inside-same front old new k l
Inside-Leads start texts front (row ∷ rows) old new m h all l k =
    let here = subst (λ s. Holds start texts s) (sym l.0) h in
    let inside = Inside-row front row m here.matched.pending all.0 (subst (λ (s : State). Inside front s.pair.changes) (sym l.0) k) in
    Inside-Leads start (texts ++ held row) front rows row.after new m (Holds-row start texts row here) all.1 l.1 inside

-- ---- a group in a run
pub Begin-done : (old left : State) (reply : Reply) → Does old asks.Begin reply left → ¬ (WasRefused reply) → left.pair.changes ≡ begun old.pair.changes
Begin-done old left (says.Mark n) d w = ap (λ (s : State). s.pair.changes) d.1
Begin-done old left _ d w = absurd (search rules)

End-done : (old left : State) (reply : Reply) → Does old asks.End reply left → ¬ (WasRefused reply) → left.pair.changes ≡ ended old.pair.changes
End-done old left (says.Answer a) d w = ap (λ (s : State). s.pair.changes) d.1
End-done old left _ d w = absurd (search rules)

EndOne-done : (old left : State) (reply : Reply) → Does old asks.EndOne reply left → ¬ (WasRefused reply) → left.pair.changes ≡ ended_one old.pair.changes
EndOne-done old left (says.Answer a) d w = ap (λ (s : State). s.pair.changes) d.1
EndOne-done old left _ d w = absurd (search rules)

-- the end of a group closes the groups that were not open before its begin
pub closing-row : (row : Row) (command : Command) (below : ℕ) → row.command ≡ command → ClosesGroup below (level row.before.pair.changes.recorded) command → ¬ (WasRefused row.reply)
    → (n : ℕ) × (level row.before.pair.changes.recorded ≡ n + below) × (row.after.pair.changes ≡ with_closed n row.before.pair.changes)
closing-row row asks.End below e c w = (level row.before.pair.changes.recorded, omega (arith, c), done_as row asks.End (λ r k _ _. k ≡ ended r) End-done e w)
closing-row row asks.EndOne below e c w = (min 1 (level row.before.pair.changes.recorded), omega (arith, c), done_as row asks.EndOne (λ r k _ _. k ≡ ended_one r) EndOne-done e w)
closing-row row _ below e c w = absurd c

-- what an undo keeps right after that, and that it finds a change
pub closed_unit : (front : List Entry) (r : Record) (n : ℕ) → Inside front r → level r.recorded ≡ n + level front → has_change (drop (suc (length front)) r.recorded) ≡ true
    → (kept_of 1 (with_closed n r).recorded ≡ front) × (has_change (last_of 1 (with_closed n r).recorded) ≡ true)
closed_unit front r n i all change =
    let inner_is : drop (suc (length front)) r.recorded ≡ i.inner = ap (drop (suc (length front))) i.is ∙ past_begin front i.inner in
    let n_is : n ≡ suc (level i.inner) = omega (arith, all, ap level i.is, level-group front i.inner i.matched) in
    let closed : end_times n r.recorded ≡ end_times (suc (level i.inner)) (front ++ (Begin ∷ i.inner)) = ap (λ k. end_times k r.recorded) n_is ∙ ap (end_times (suc (level i.inner))) i.is in
    subst (λ k. (kept_of 1 k ≡ front) × (has_change (last_of 1 k) ≡ true)) (sym closed) (ended_group front i.inner i.matched (ap has_change (sym inner_is) ∙ change))

-- what stands in the record after the begin of a group, once rows stood in it
group-inside : (start : List ℕ) (texts : List (List ℕ)) (inside : List Row) (b e : Row) (mid : State) → Holds start texts b.before → b.command ≡ asks.Begin → ¬ (WasRefused b.reply)
    → AllStandInGroup (level b.before.pair.changes.recorded) inside → Leads b.after inside mid → e.before ≡ mid → Inside b.before.pair.changes.recorded e.before.pair.changes
group-inside start texts inside b e mid h is_begin begins all l to_end =
    let front = b.before.pair.changes.recorded in
    let begun_is = done_as b asks.Begin (λ r k _ _. k ≡ begun r) Begin-done is_begin begins in
    let first : Inside front b.after.pair.changes = subst (Inside front) (sym begun_is) (record { inner = []; is = refl; matched = refl }) in
    let last = Inside-Leads start (texts ++ held b) front inside b.after mid h.matched.recorded (Holds-row start texts b h) all l first in
    subst (λ (s : State). Inside front s.pair.changes) (sym to_end) last

-- where an undo keeps what was recorded before rows, the text before them is the one after it
group-undone : (start : List ℕ) (texts : List (List ℕ)) (inside : List Row) (b e u : Row) (mid : State) → Holds start texts b.before → Leads b.after inside mid → e.before ≡ mid
    → kept_of 1 e.after.pair.changes.recorded ≡ b.before.pair.changes.recorded
    → u.before ≡ e.after → u.command ≡ asks.Undo 1 → ¬ (WasRefused u.reply) → u.after.line.text ≡ b.before.line.text
group-undone start texts inside b e u mid h l to_end still to_undo is_undo undoes =
    let kept : kept_of 1 u.before.pair.changes.recorded ≡ b.before.pair.changes.recorded = ap (λ (s : State). kept_of 1 s.pair.changes.recorded) to_undo ∙ still in
    let at_mid = Holds-Leads start inside (texts ++ held b) b.after mid (Holds-row start texts b h) l in
    let texts_mid = (texts ++ held b) ++ held_of inside in
    let at_end = Holds-row start texts_mid e (subst (λ s. Holds start texts_mid s) (sym to_end) at_mid) in
    let at_undo = subst (λ s. Holds start (texts_mid ++ held e) s) (sym to_undo) at_end in
    let d = (undo-row u 1 is_undo undoes).1 in
    let es = u.before.pair.changes.recorded in
    let leads = kept-leads 1 es start u.before.line.text u.after.line.text h.is_text at_undo.leads (line_back-unwind (last_of 1 es) u.before.line u.after.line d.line_is) in
    let both : Some u.after.line.text ≡ Some b.before.line.text = sym leads ∙ ap (λ x. replay_entries x start) kept ∙ h.leads in
    cc

pub group-in_run : (start : List ℕ) (texts : List (List ℕ)) (old new : State) (commands : List Command) (replies : List Reply)
    (earlier inside later : List Row) (b e u : Row) → Holds start texts old → (run : Run old commands replies new)
    → run.rows ≡ earlier ++ (b ∷ (inside ++ (e ∷ (u ∷ later))))
    → b.command ≡ asks.Begin → ¬ (WasRefused b.reply) → AllStandInGroup (level b.before.pair.changes.recorded) inside
    → ClosesGroup (level b.before.pair.changes.recorded) (level e.before.pair.changes.recorded) e.command → ¬ (WasRefused e.reply)
    → has_change (drop (suc (length b.before.pair.changes.recorded)) e.before.pair.changes.recorded) ≡ true
    → u.command ≡ asks.Undo 1 → ¬ (WasRefused u.reply) → u.after.line.text ≡ b.before.line.text
group-in_run start texts old new commands replies earlier inside later b e u holds run rows is_begin begins all closes ends change is_undo undoes =
    let front = b.before.pair.changes.recorded in
    let at = row_at start texts old new commands replies earlier (inside ++ (e ∷ (u ∷ later))) b holds run rows in
    let q = Leads-split inside (e ∷ (u ∷ later)) b.after new at.goes_on in
    let i = group-inside start (texts ++ held_of earlier) inside b e q.0 at.holds is_begin begins all q.1 q.2.0 in
    let c = closing-row e e.command (level front) refl closes ends in
    let keeps = ap (λ (r : Record). kept_of 1 r.recorded) c.2 ∙ (closed_unit front e.before.pair.changes c.0 i c.1 change).0 in
    group-undone start (texts ++ held_of earlier) inside b e u q.0 at.holds q.1 q.2.0 keeps q.2.1.0 is_undo undoes

-- ---- a group that is given up
Abandon-done : (old left : State) (reply : Reply) → Does old asks.Abandon reply left → ¬ (WasRefused reply)
    → (a : Bool) × Abandoned old.pair.changes left.pair.changes old.line left.line a
Abandon-done old left (says.Answer a) d w = (a, d.0)
Abandon-done old left _ d w = absurd (search rules)

pub abandoned-row : (start : List ℕ) (texts : List (List ℕ)) (front : List Entry) (e : Row) → Holds start texts e.before → Inside front e.before.pair.changes
    → level e.before.pair.changes.recorded ≡ suc (level front) → e.command ≡ asks.Abandon → ¬ (WasRefused e.reply)
    → (replay_entries front start ≡ Some e.after.line.text) × (e.after.pair.changes.recorded ≡ front) × (e.after.pair.changes.pending ≡ [])
abandoned-row start texts front e holds i opened is_abandon abandons =
    let r = e.before.pair.changes in
    let size = open_size r.recorded in
    let closed : level i.inner ≡ 0 = omega (arith, opened, ap level i.is, level-group front i.inner i.matched) in
    let g : GroupOpen front i.inner r.recorded = subst (GroupOpen front i.inner) (sym i.is) (open_after front i.inner i.matched closed) in
    let d = (done_as e asks.Abandon (λ r k l m. (a : Bool) × Abandoned r k l m a) Abandon-done is_abandon abandons).1 in
    let now : e.after.pair.changes ≡ redo_dropped (undone size r) = d.record_is ∙ ap (λ x. cond x (redo_dropped (undone size r)) r) g.opened in
    let back : line_back (last_of size r.recorded) e.before.line ≡ Some e.after.line = ap (λ x. line_back (cond x (last_of size r.recorded) []) e.before.line) (sym g.opened) ∙ d.line_is in
    let leads = kept-leads size r.recorded start e.before.line.text e.after.line.text holds.is_text holds.leads (line_back-unwind (last_of size r.recorded) e.before.line e.after.line back) in
    (ap (λ x. replay_entries x start) (sym g.kept) ∙ leads, ap (λ (k : Record). k.recorded) now ∙ g.kept, ap (λ (k : Record). k.pending) now)

pub abandon-in_run : (start : List ℕ) (texts : List (List ℕ)) (old new : State) (commands : List Command) (replies : List Reply)
    (earlier inside later : List Row) (b e : Row) → Holds start texts old → (run : Run old commands replies new)
    → run.rows ≡ earlier ++ (b ∷ (inside ++ (e ∷ later)))
    → b.command ≡ asks.Begin → ¬ (WasRefused b.reply) → AllStandInGroup (level b.before.pair.changes.recorded) inside
    → level e.before.pair.changes.recorded ≡ suc (level b.before.pair.changes.recorded) → e.command ≡ asks.Abandon → ¬ (WasRefused e.reply)
    → (e.after.line.text ≡ b.before.line.text) × (e.after.pair.changes.recorded ≡ b.before.pair.changes.recorded) × (e.after.pair.changes.pending ≡ [])
abandon-in_run start texts old new commands replies earlier inside later b e holds run rows is_begin begins all inner is_abandon abandons =
    let front = b.before.pair.changes.recorded in
    let at = row_at start texts old new commands replies earlier (inside ++ (e ∷ later)) b holds run rows in
    let q = Leads-split inside (e ∷ later) b.after new at.goes_on in
    let i = group-inside start (texts ++ held_of earlier) inside b e q.0 at.holds is_begin begins all q.1 q.2.0 in
    let at_mid = Holds-Leads start inside ((texts ++ held_of earlier) ++ held b) b.after q.0 (Holds-row start (texts ++ held_of earlier) b at.holds) q.1 in
    let texts_mid = ((texts ++ held_of earlier) ++ held b) ++ held_of inside in
    let d = abandoned-row start texts_mid front e (subst (λ s. Holds start texts_mid s) (sym q.2.0) at_mid) i inner is_abandon abandons in
    (same_Some _ _ (sym d.0 ∙ at.holds.leads), d.1, d.2)
