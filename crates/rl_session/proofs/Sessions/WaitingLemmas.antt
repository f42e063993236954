-- A group that is begun, or an empty one that is ended or abandoned: what waits to be redone stays.
use Rattle.rl_session.proofs.Common.{◌≡◌, ◌≤◌, ◌&&◌, ◌⊎◌, Some, same_Some, ◌∙◌, ℕ, ap, cond, min, not, Bool, false, true, [], ◌∷◌, ◌++◌, length, inl, inr, refl, subst, sym, reset, Entry, List, Line, Record, begun, end_times, level, Does, Ends, State, with_ring, Command, Reply, WasRefused}
use Rattle.std.proofs.lemmas.Bool.{and_parts, not-true}
use Rattle.std.specs.Prelude.{IsSome}
use Rattle.std.specs.Str.{IsCharBoundary}
use Rattle.rl_base.specs.Watch.{watch_step}
use Rattle.rl_line.specs.Plan.{listener_after}
use Rattle.rl_line.specs.Going.{line_ahead, line_back, steps_back}
use Rattle.rl_record.specs.Undo.{Abandoned}
use Rattle.rl_record.specs.Units.{abandoned, adds_end, ended, ended_one, is_open, open_group, still_waiting, unit_start, waits}
use Rattle.rl_line.specs.Entry.{Begin as AddsBegin}
use Rattle.rl_record.proofs.Records.WaitingLemmas.{MarksMoved, back-begin, given_up}
use Rattle.rl_line.proofs.Changes.BackLemmas.{line_back-unwind}
use Rattle.rl_base.specs.Event.{apply}
use Rattle.std.proofs.Math.Bool.{and-false}
use Rattle.rl_session.specs.Commands.{Step, readied, settled, with_changes}
use Rattle.rl_session.specs.Forgetting.{Forgets}
use Rattle.rl_session.specs.Performing.{HasKept, IsStopped, Obeyed, Stops, Unites, asks_to_keep, carried, is_edit_or_mark, is_empty_group, is_one_unit, leaves_waiting, put_in, set_apart, with_waiting}
use Rattle.rl_session.specs.declared.session.Command.TheVariants.{Abandon, Begin, End, EndOne, Undo}
use Rattle.rl_session.specs.declared.session.Fault.TheVariants.{NoMemory}
use Rattle.rl_session.specs.declared.session.Reply.TheVariants as says
use Rattle.rl_session.proofs.Sessions.PerformLemmas.{apart-same, keeps_nothing}
use Rattle.rl_session.proofs.Sessions.StepLemmas.{step_done}

-- when something is left waiting
pub record Leaves (s : State) (command : Command) : Type 0 where
  pub empty : is_empty_group s.pair.changes.recorded command ≡ true
  pub keeps : s.options.keeps ≡ false
  pub waiting : waits s.pair.changes.pending ≡ true

pub leaves : (s : State) (command : Command) → leaves_waiting s command ≡ true → Leaves s command
leaves s command h =
    let (empty, rest) = and_parts (is_empty_group s.pair.changes.recorded command) _ h in
    let (keeps, waiting) = and_parts (not s.options.keeps) _ rest in
    record { empty = empty; keeps = not-true _ keeps; waiting = waiting }

-- the command itself drops what waits, which is put back then
Ends-left : (s : State) (r changes : Record) → changes.pending ≡ [] → Ends (with_changes (still_waiting changes.recorded r) s) → Ends (with_changes changes s)
Ends-left s r changes none e = record {
  stands = record { utf8 = e.stands.utf8; cursor = e.stands.cursor; within = e.stands.within; grows_not = e.stands.grows_not; ring = e.stands.ring; idle = e.stands.idle };
  bounded = e.bounded;
  follows = record { back = e.follows.back; ahead = subst (λ es. IsSome (line_ahead es s.line)) (sym none) refl };
}

waiting_done : (command : Command) (old mid made new : State) (reply : Reply) (changes : Record) → with_ring (reset old.pair.ring) old ≡ readied command old → carried old command ≡ command → is_one_unit command ≡ false
    → asks_to_keep old command ≡ false → ¬ (IsStopped old command) → ((s : State) → s ≡ settled command reply s) → changes.pending ≡ [] → leaves_waiting old command ≡ true
    → Forgets made new → made ≡ with_ring (reset mid.pair.ring) mid → mid ≡ with_changes (still_waiting changes.recorded old.pair.changes) old
    → Does (with_ring (reset old.pair.ring) old) command reply (with_changes changes (with_ring (reset old.pair.ring) old)) → Obeyed old command reply new
waiting_done command old mid made new reply changes readies same single asks free settles none leaves forgets resets is does =
    let begun = with_ring (reset old.pair.ring) old in
    let left = with_changes changes begun in
    let made_is : made ≡ with_changes (still_waiting changes.recorded old.pair.changes) begun = resets ∙ ap (λ (s : State). with_ring (reset s.pair.ring) s) is in
    let step = step_done command left readies does (settles left) (Ends-left begun old.pair.changes changes none (subst Ends made_is forgets.before)) in
    let waiting : with_waiting old command left ≡ made = ap (λ b. cond b (with_changes (still_waiting changes.recorded old.pair.changes) left) left) leaves ∙ sym made_is in
    inr (inr (record {
      free = free;
      kept = old;
      keeps = keeps_nothing (asks_to_keep old command) old asks;
      left = left;
      step = subst (λ s. Step s (carried old command) reply left) (sym (apart-same (is_one_unit command) old single)) (subst (λ c. Step old c reply left) (sym same) step);
      made = made;
      unites = subst (λ one. Unites one (unit_start (put_in old command) old.pair.changes) (with_waiting old command left) made) (sym single) (sym waiting);
      forgets = forgets;
    }))

pub begun_waiting : (old mid made new : State) (n : ℕ) → Forgets made new → made ≡ with_ring (reset mid.pair.ring) mid
    → mid ≡ with_changes (still_waiting (old.pair.changes.recorded ++ AddsBegin ∷ []) old.pair.changes) old → n ≡ length old.pair.changes.recorded → leaves_waiting old Begin ≡ true
    → Obeyed old Begin (says.Mark n) new
begun_waiting old mid made new n forgets resets is long h =
    waiting_done Begin old mid made new (says.Mark n) (begun old.pair.changes) refl refl refl (leaves old Begin h).keeps (λ x. x) (λ s. refl) refl h forgets resets is ((long, tt), refl)

pub ended_waiting : (old mid made new : State) → Forgets made new → made ≡ with_ring (reset mid.pair.ring) mid
    → mid ≡ with_changes (still_waiting (end_times (level old.pair.changes.recorded) old.pair.changes.recorded) old.pair.changes) old → leaves_waiting old End ≡ true → Obeyed old End (says.Answer false) new
ended_waiting old mid made new forgets resets is h =
    let l = leaves old End h in
    waiting_done End old mid made new (says.Answer false) (ended old.pair.changes) refl refl refl l.keeps (λ x. x) (λ s. refl) refl h forgets resets is ((sym (not-true _ l.empty), tt), refl)

pub ended_one_waiting : (count : ℕ) (old mid made new : State) → count ≡ min 1 (level old.pair.changes.recorded) → Forgets made new → made ≡ with_ring (reset mid.pair.ring) mid
    → mid ≡ with_changes (still_waiting (end_times count old.pair.changes.recorded) old.pair.changes) old
    → (not (adds_end count old.pair.changes.recorded) && (not old.options.keeps && waits old.pair.changes.pending)) ≡ true → Obeyed old EndOne (says.Answer false) new
ended_one_waiting count old mid made new few forgets resets is h =
    let r = old.pair.changes in
    let leaving : leaves_waiting old EndOne ≡ true = subst (λ n. (not (adds_end n r.recorded) && (not old.options.keeps && waits r.pending)) ≡ true) few h in
    let l = leaves old EndOne leaving in
    waiting_done EndOne old mid made new (says.Answer false) (ended_one r) refl refl refl l.keeps (λ x. x) (λ s. refl) refl leaving forgets resets
    (is ∙ ap (λ n. with_changes (still_waiting (end_times n r.recorded) r) old) few) ((sym (not-true _ l.empty), tt), refl)

pub abandoned_waiting : (old mid made new : State) → Forgets made new → made ≡ with_ring (reset mid.pair.ring) mid
    → mid ≡ with_changes (still_waiting (end_times 1 old.pair.changes.recorded) old.pair.changes) old → leaves_waiting old Abandon ≡ true → ¬ (IsStopped old Abandon) → Obeyed old Abandon (says.Answer true) new
abandoned_waiting old mid made new forgets resets is h free =
    let r = old.pair.changes in
    let g = given_up r (not-true _ (and_parts (is_open r.recorded) _ (leaves old Abandon h).empty).1) in
    let line_is : made.line ≡ old.line = ap (λ (s : State). s.line) (resets ∙ ap (λ (s : State). with_ring (reset s.pair.ring) s) is) in
    let at = subst (λ (l : Line). IsCharBoundary l.text l.cursor) line_is forgets.before.stands.cursor in
    let within = subst (λ (l : Line). length l.text ≤ l.limit) line_is forgets.before.stands.within in
    let went : Abandoned r (abandoned r) old.line old.line true = record { line_is = ap (λ es. line_back es old.line) g.group ∙ back-begin old.line at within; record_is = refl; answer_is = sym g.opened } in
    waiting_done Abandon old mid made new (says.Answer true) (abandoned r) refl refl refl refl free (λ s. refl) g.pending h forgets resets
    (is ∙ ap (λ es. with_changes (still_waiting es r) old) (sym g.recorded)) (went, refl, ap (λ es. listener_after watch_step old.line.cursor (steps_back old.line.cursor es) old.pair.watch) (sym g.group))

pub not_begun : (old new : State) → new ≡ old → leaves_waiting old Begin ≡ true → Obeyed old Begin (says.Refused NoMemory) new
not_begun old new same h = inl (h, same)

pub ruleset leaving = (begun_waiting, ended_waiting, ended_one_waiting, abandoned_waiting, not_begun)

-- ---- what the command leaves by itself
abbrev pub made_of : Command → Record → Record
made_of Begin r = begun r
made_of End r = ended r
made_of EndOne r = ended_one r
made_of Abandon r = abandoned r
made_of _ r = r

pub record Left (old left : State) (changes : Record) : Type 0 where
  pub text_is : left.line.text ≡ old.line.text
  pub changes_is : left.pair.changes ≡ changes

by_changes : (old left : State) (changes : Record) → left ≡ with_changes changes (with_ring (reset old.pair.ring) old) → Left old left changes
by_changes old left changes is = record { text_is = ap (λ (s : State). s.line.text) is; changes_is = ap (λ (s : State). s.pair.changes) is }

given_back : (old left : State) → adds_end 1 old.pair.changes.recorded ≡ false → line_back (open_group old.pair.changes.recorded) old.line ≡ Some left.line → left.line.text ≡ old.line.text
unfolding apply
given_back old left empty back =
    sym (same_Some _ _ (line_back-unwind (AddsBegin ∷ []) old.line left.line (ap (λ es. line_back es old.line) (sym (given_up old.pair.changes empty).group) ∙ back)))

pub left_by : (command : Command) (old left : State) (reply : Reply) → is_empty_group old.pair.changes.recorded command ≡ true → Step old command reply left
    → Left old left (made_of command old.pair.changes) ⊎ (WasRefused reply × Left old left old.pair.changes)
left_by Begin old left (says.Mark n) empty s = inl (by_changes old left (begun old.pair.changes) (s.settles ∙ s.does.1))
left_by Begin old left (says.Refused NoMemory) empty s = inr (tt, by_changes old left old.pair.changes (s.settles ∙ s.does.1))
left_by Begin old left _ empty s = absurd s.does
left_by End old left (says.Answer a) empty s = inl (by_changes old left (ended old.pair.changes) (s.settles ∙ s.does.1))
left_by End old left (says.Refused NoMemory) empty s = inr (tt, by_changes old left old.pair.changes (s.settles ∙ s.does.1))
left_by End old left _ empty s = absurd s.does
left_by EndOne old left (says.Answer a) empty s = inl (by_changes old left (ended_one old.pair.changes) (s.settles ∙ s.does.1))
left_by EndOne old left (says.Refused NoMemory) empty s = inr (tt, by_changes old left old.pair.changes (s.settles ∙ s.does.1))
left_by EndOne old left _ empty s = absurd s.does
left_by Abandon old left (says.Answer a) empty s =
    let none = not-true _ (and_parts (is_open old.pair.changes.recorded) _ empty).1 in
    inl (record {
      text_is = ap (λ (s : State). s.line.text) s.settles ∙ given_back old s.left none s.does.0.line_is;
      changes_is = ap (λ (s : State). s.pair.changes) s.settles ∙ s.does.0.record_is;
    })
left_by Abandon old left (says.Refused NoMemory) empty s = inr (tt, by_changes old left old.pair.changes (s.settles ∙ s.does.1))
left_by Abandon old left _ empty s = absurd s.does
left_by _ old left reply empty s = cc

made-marks : (command : Command) (r : Record) → is_empty_group r.recorded command ≡ true → MarksMoved r.recorded (made_of command r).recorded
made-marks Begin r empty = inl refl
made-marks End r empty = inr (level r.recorded, not-true _ empty, refl)
made-marks EndOne r empty = inr (min 1 (level r.recorded), not-true _ empty, refl)
made-marks Abandon r empty = let none = not-true _ (and_parts (is_open r.recorded) _ empty).1 in inr (1, none, (given_up r none).recorded)
made-marks _ r empty = cc

pub made-pending : (command : Command) (r : Record) → is_empty_group r.recorded command ≡ true → (made_of command r).pending ≡ []
made-pending Begin r empty = refl
made-pending End r empty = refl
made-pending EndOne r empty = refl
made-pending Abandon r empty = (given_up r (not-true _ (and_parts (is_open r.recorded) _ empty).1)).pending
made-pending _ r empty = cc

-- so the text stays, and marks alone are put or taken off before what waits
pub record LeftMarks (old left : State) : Type 0 where
  pub text_is : left.line.text ≡ old.line.text
  pub marks : MarksMoved old.pair.changes.recorded left.pair.changes.recorded

-- the commands that mark a group's begin, its end or its abandon
abbrev pub is_mark : Command → Bool
is_mark Begin = true
is_mark End = true
is_mark EndOne = true
is_mark Abandon = true
is_mark _ = false

pub empty-mark : (command : Command) (es : List Entry) → is_empty_group es command ≡ true → is_mark command ≡ true
empty-mark Begin es empty = refl
empty-mark End es empty = refl
empty-mark EndOne es empty = refl
empty-mark Abandon es empty = refl
empty-mark _ es empty = cc

pub mark-single : (command : Command) → is_mark command ≡ true → is_one_unit command ≡ false
mark-single Begin mark = refl
mark-single End mark = refl
mark-single EndOne mark = refl
mark-single Abandon mark = refl
mark-single _ mark = cc

pub mark-carried : (command : Command) (s : State) → is_mark command ≡ true → carried s command ≡ command
mark-carried (Undo n) s mark = cc
mark-carried _ s mark = refl

pub mark-stopped : (command : Command) (s : State) (reply : Reply) → is_mark command ≡ true → Stops s command reply → WasRefused reply
mark-stopped Begin s (says.Refused why) mark stops = tt
mark-stopped Begin s _ mark stops = absurd stops
mark-stopped End s (says.Refused why) mark stops = tt
mark-stopped End s _ mark stops = absurd stops
mark-stopped EndOne s (says.Refused why) mark stops = tt
mark-stopped EndOne s _ mark stops = absurd stops
mark-stopped Abandon s (says.Refused why) mark stops = tt
mark-stopped Abandon s _ mark stops = absurd stops
mark-stopped _ s reply mark stops = cc

-- nothing was kept before it
kept-same : (asked : Bool) (old kept : State) → asked ≡ false → HasKept asked old kept → kept ≡ old
kept-same asked old kept none keeps = (subst (λ b. HasKept b old kept) none keeps).1.1

pub step-alone : (old kept left : State) (command : Command) (reply : Reply) → is_empty_group old.pair.changes.recorded command ≡ true → old.options.keeps ≡ false → HasKept (asks_to_keep old command) old kept
    → Step (set_apart kept command) (carried old command) reply left → Step old command reply left
step-alone old kept left command reply empty none keeps step =
    let mark = empty-mark command old.pair.changes.recorded empty in
    let asks : asks_to_keep old command ≡ false = ap (λ b. is_edit_or_mark command && b) none ∙ and-false (is_edit_or_mark command) in
    subst (λ s. Step s command reply left) (apart-same (is_one_unit command) kept (mark-single command mark) ∙ kept-same (asks_to_keep old command) old kept asks keeps) (subst (λ c. Step (set_apart kept command) c reply left) (mark-carried command old mark) step)

pub leaves-left : (old kept left : State) (command : Command) (reply : Reply) → leaves_waiting old command ≡ true → HasKept (asks_to_keep old command) old kept
    → Step (set_apart kept command) (carried old command) reply left → LeftMarks old left
leaves-left old kept left command reply h keeps step =
    let l = leaves old command h in
    let r = old.pair.changes in
    elim (left_by command old left reply l.empty (step-alone old kept left command reply l.empty l.keeps keeps step)) [
      | inl by ↦ record { text_is = by.text_is; marks = subst (λ (q : Record). MarksMoved r.recorded q.recorded) (sym by.changes_is) (made-marks command r l.empty) }
      | inr (refused, by) ↦ record { text_is = by.text_is; marks = inr (0, refl, ap (λ (q : Record). q.recorded) by.changes_is) }
    ]
