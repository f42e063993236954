-- A group of performed commands is one unit, whatever was done inside, so that one undo takes it back.
use Rattle.rl_session.proofs.Common.{◌≡◌, ◌<◌, ◌≤◌, ◌∙◌, ◌||◌, cond_both, length-append, ℕ, suc, arith, Bool, true, false, List, [], ◌∷◌, ◌++◌, length, drop, Some, refl, sym, ap, subst, same_Some, inl, inr, no_bound, within_bound, Begin, Entry, Line, Record, IsMatched, begun, has_change, kept_of, last_of, level, replay_entries, Command, Reply, Row, State, Undo, Holds, ClosesGroup, MayStandInGroup, WasRefused, held, held_of}
use Rattle.std.proofs.lemmas.List.{drop-append-le}
use Rattle.rl_record.specs.Record.{parted}
use Rattle.rl_record.specs.Units.{AtLevel, still_waiting, there_and_back, unit_start, kept_undone}
use Rattle.rl_record.specs.declared.joining.Freshness.TheVariants.{Parted}
use Rattle.rl_record.specs.declared.changeset.groups.UnitStart.{UnitStart}
use Rattle.rl_line.proofs.Changes.InverseLemmas.{has_change-append}
use Rattle.rl_record.proofs.Records.GroupLemmas.{Inside, InsideOf}
use Rattle.rl_record.proofs.Records.EndLemmas.{level-group}
use Rattle.rl_record.proofs.Records.RoundLemmas.{AtLevel-round, kept-either}
use Rattle.rl_record.proofs.Records.UnitingLemmas.{Inside-united, taken-inside}
use Rattle.rl_session.specs.Commands.{Step, with_changes}
use Rattle.rl_session.specs.History.{History}
use Rattle.rl_session.specs.Performing.{AllCallsStandInGroup, Calls, HasKept, Keeps, Obeyed, Unites, asks_to_keep, call, carried, is_one_unit, keeping, leaves_waiting, no_call, put_in, set_apart, with_waiting, counted_as, Performed}
use Rattle.rl_session.specs.declared.options.Options.{Options}
use Rattle.rl_base.specs.declared.motion.Movement.TheVariants.{WholeBuffer}
use Rattle.rl_line.specs.Indents.{indent_changes}
use Rattle.rl_session.specs.declared.session.Command.TheVariants as asks
use Rattle.rl_session.specs.declared.session.Fault.TheVariants.{NoMemory}
use Rattle.rl_session.specs.declared.session.Reply.TheVariants as says
use Rattle.rl_session.proofs.Runs.CallLemmas.{Calls-options, Keeps-changes, Obeyed-options, keeping-Leads}
use Rattle.rl_session.proofs.Runs.HistoryLemmas.{Holds-Leads, Holds-row, done_as}
use Rattle.rl_session.proofs.Runs.PlaceLemmas.{History-fresh, History-united, History-waiting}
use Rattle.rl_session.proofs.Runs.RowLemmas.{within_bound-none}
use Rattle.rl_session.proofs.Runs.UndoGroupLemmas.{Begin-done, Inside-row, abandoned-row, closed_unit, closing-row}
use Rattle.rl_session.proofs.Runs.UnitLawLemmas.{undo-leads}
use Rattle.rl_session.proofs.Sessions.PerformLemmas.{apart-same, united-same, uncounted}
use Rattle.rl_session.proofs.Sessions.WaitingLemmas.{is_mark, leaves-left, mark-carried, mark-single, mark-stopped}

-- ---- inside the group
-- a state of a history whose record stands in an open group
record StandsInside (start : List ℕ) (front : List Entry) (s : State) : Type 0 where
  inside : Inside front s.pair.changes
  texts : List (List ℕ)
  holds : Holds start texts s

in-row : (start : List ℕ) (front : List Entry) (row : Row) → IsMatched front → MayStandInGroup (level front) (level row.after.pair.changes.recorded) row.command row.reply
    → StandsInside start front row.before → StandsInside start front row.after
in-row start front row m may h = record {
  inside = Inside-row front row m h.holds.matched.pending may h.inside;
  texts = h.texts ++ held row;
  holds = Holds-row start h.texts row h.holds;
}

in-Keeps : (asked : Bool) (start : List ℕ) (front : List Entry) (old kept : State) (reply : Reply) → IsMatched front → Keeps asked old reply kept → StandsInside start front old → StandsInside start front kept
in-Keeps false start front old kept reply m k h = subst (StandsInside start front) (sym k.1) h
in-Keeps true start front old kept reply m k h = in-row start front (record { before = old; command = asks.KeepUndone; reply = reply; after = kept; step = k }) m tt h

in-fresh : (start : List ℕ) (front : List Entry) (s : State) → StandsInside start front s → StandsInside start front (with_changes (parted s.pair.changes) s)
in-fresh start front s h = record {
  inside = record { inner = h.inside.inner; is = h.inside.is; matched = h.inside.matched };
  texts = h.texts;
  holds = History-fresh start h.texts s.line.text s.pair.changes Parted h.holds;
}

in-united : (start : List ℕ) (front : List Entry) (begin : UnitStart) (one : Bool) (left made : State) → length front < begin.from → Unites one begin left made → StandsInside start front left → StandsInside start front made
in-united start front begin false left made later u h = subst (StandsInside start front) (sym u) h
in-united start front begin true left made later (inr u) h = subst (StandsInside start front) (sym u.1) h
in-united start front begin true left made later (inl u) h =
    subst (StandsInside start front) (sym u) (record {
      inside = Inside-united front begin left.pair.changes later h.inside;
      texts = h.texts;
      holds = History-united start h.texts left.line.text left.pair.changes begin h.holds;
    })

-- what may stand there may be carried there, and a command of several steps may be anyhow
may-carried : (command : Command) (s : State) (below now : ℕ) (reply : Reply) → MayStandInGroup below now command reply → MayStandInGroup below now (carried s command) reply
may-carried (Undo n) s below now reply may = may
may-carried _ s below now reply may = may

may-counted : (command : Command) (s : State) (below now : ℕ) (reply : Reply) → MayStandInGroup below now command reply → MayStandInGroup below now (counted_as s command) reply
may-counted (asks.Indent m amount dedent) s below now reply may =
    cond_both (indent_changes s.line m amount dedent) (asks.Indent m amount dedent) (asks.Move WholeBuffer) (λ c. MayStandInGroup below now c reply) (λ _. tt) (λ _. tt)
may-counted _ s below now reply may = may

may-unit : (command : Command) (s : State) (below now : ℕ) (reply : Reply) → is_one_unit command ≡ true → MayStandInGroup below now (carried s command) reply
may-unit (asks.Update t q) s below now reply one = tt
may-unit asks.YankPop s below now reply one = tt
may-unit asks.TransposeChars s below now reply one = tt
may-unit (asks.TransposeWords n) s below now reply one = tt
may-unit (asks.EditWord action) s below now reply one = tt
may-unit (asks.Indent m amount dedent) s below now reply one = tt
may-unit _ s below now reply one = cc

-- what is left waiting changes no line, and nothing that is recorded
waiting-same : (old : State) (command : Command) (left : State) → ((with_waiting old command left).pair.changes.recorded ≡ left.pair.changes.recorded) × ((with_waiting old command left).line ≡ left.line)
waiting-same old command left =
    cond_both (leaves_waiting old command) (with_changes (still_waiting left.pair.changes.recorded old.pair.changes) left) left
    (λ s. (s.pair.changes.recorded ≡ left.pair.changes.recorded) × (s.line ≡ left.line)) (λ _. (refl, refl)) (λ _. (refl, refl))

Holds-waiting : (start : List ℕ) (texts then : List (List ℕ)) (old kept left : State) (command : Command) (reply : Reply) → Holds start texts old → HasKept (asks_to_keep old command) old kept
    → Step (set_apart kept command) (carried old command) reply left → Holds start then left → (now : List (List ℕ)) × Holds start now (with_waiting old command left)
Holds-waiting start texts then old kept left command reply h keeps step holds =
    cond_both (leaves_waiting old command) (with_changes (still_waiting left.pair.changes.recorded old.pair.changes) left) left (λ s. (now : List (List ℕ)) × Holds start now s)
    (λ e.
    let m = leaves-left old kept left command reply e keeps step in (
      texts,
      subst (λ text. History start texts text (still_waiting left.pair.changes.recorded old.pair.changes)) (sym m.text_is)
          (History-waiting start texts old.line.text old.pair.changes left.pair.changes.recorded m.marks holds.matched.recorded h),
    )) (λ _. (then, holds))

in-waiting : (start : List ℕ) (front : List Entry) (old kept left : State) (command : Command) (reply : Reply) → StandsInside start front old → HasKept (asks_to_keep old command) old kept
    → Step (set_apart kept command) (carried old command) reply left → StandsInside start front left → StandsInside start front (with_waiting old command left)
in-waiting start front old kept left command reply h keeps step l =
    let now = Holds-waiting start h.texts l.texts old kept left command reply h.holds keeps step l.holds in
    record { inside = subst (InsideOf front) (sym (waiting-same old command left).0) l.inside; texts = now.0; holds = now.1 }

may-left : (one : Bool) (command : Command) (old left made : State) (begin : UnitStart) (below : ℕ) (reply : Reply) → one ≡ is_one_unit command → Unites one begin (with_waiting old command left) made
    → MayStandInGroup below (level made.pair.changes.recorded) command reply → MayStandInGroup below (level left.pair.changes.recorded) (carried old command) reply
may-left true command old left made begin below reply e u may = may-unit command old below (level left.pair.changes.recorded) reply (sym e)
may-left false command old left made begin below reply e u may =
    let same = ap (λ (s : State). s.pair.changes.recorded) u ∙ (waiting-same old command left).0 in
    may-carried command old below (level left.pair.changes.recorded) reply (subst (λ es. MayStandInGroup below (level es) command reply) same may)

-- nothing is forgotten without a bound
pub ends-made : (old new : State) (command : Command) (reply : Reply) (p : Obeyed old command reply new) → old.options.bound ≡ no_bound → (made : State) → new ≡ within_bound made → made.options ≡ new.options → new ≡ made
ends-made old new command reply p free made is same =
    is ∙ within_bound-none made (ap (λ (o : Options). o.bound) (same ∙ Obeyed-options old new command reply p) ∙ free)

in-Obeyed : (start : List ℕ) (front : List Entry) (old new : State) (command : Command) (reply : Reply) → IsMatched front → old.options.bound ≡ no_bound → MayStandInGroup (level front) (level new.pair.changes.recorded) command reply
    → Obeyed old command reply new → StandsInside start front old → StandsInside start front new
in-Obeyed start front old new command reply m free may (inl stopped) h = subst (StandsInside start front) (sym stopped.1) h
in-Obeyed start front old new command reply m free may (inr (inl unkept)) h = in-Keeps (asks_to_keep old command) start front old new reply m unkept.2 h
in-Obeyed start front old new command reply m free may (inr (inr done)) h =
    let kept = in-Keeps (asks_to_keep old command) start front old done.kept done.keeps.0 m done.keeps.1 h in
    let begin = unit_start (put_in done.kept command) done.kept.pair.changes in
    let later = taken-inside (put_in done.kept command) front done.kept.pair.changes kept.inside in
    let is_made = ends-made old new command reply (inr (inr done)) free done.made done.forgets.is (sym (ap (λ (s : State). s.options) done.forgets.is)) in
    let may_made = subst (λ (s : State). MayStandInGroup (level front) (level s.pair.changes.recorded) command reply) is_made may in
    let may_left = may-left (is_one_unit command) command old done.left done.made begin (level front) reply refl done.unites may_made in
    let row : Row = record { before = set_apart done.kept command; command = carried old command; reply = reply; after = done.left; step = done.step } in
    let apart = cond_both (is_one_unit command) (with_changes (parted done.kept.pair.changes) done.kept) done.kept (StandsInside start front) (λ _. in-fresh start front done.kept kept) (λ _. kept) in
    let left = in-row start front row m may_left apart in
    let waiting = in-waiting start front old done.kept done.left command reply h done.keeps done.step left in
    subst (StandsInside start front) (sym is_made) (in-united start front begin (is_one_unit command) (with_waiting old command done.left) done.made later done.unites waiting)

in-Calls : (start : List ℕ) (front : List Entry) (old new : State) (calls : Calls old new) → IsMatched front → old.options.bound ≡ no_bound → AllCallsStandInGroup (level front) calls
    → StandsInside start front old → StandsInside start front new
in-Calls start front old new no_call m free may h = h
in-Calls start front old new (call {mid = mid} command reply p calls) m free may h =
    let does = counted_as old command in
    let may_here = may-counted command old (level front) (level mid.pair.changes.recorded) reply may.0 in
    in-Calls start front mid new calls m (ap (λ (o : Options). o.bound) (Obeyed-options old mid does reply p) ∙ free) may.1 (in-Obeyed start front old mid does reply m free may_here p h)

-- ---- the begin of a group, its end or its abandon, if it was done
record MarkDone (start : List ℕ) (texts : List (List ℕ)) (old : State) (command : Command) (reply : Reply) (new : State) : Type 0 where
  said : Reply
  kept : State
  keeps : Keeps (asks_to_keep old command) old said kept
  left : State
  step : Step kept command reply left
  recorded : new.pair.changes.recorded ≡ left.pair.changes.recorded
  line : new.line ≡ left.line
  holds : (now : List (List ℕ)) × Holds start now new

mark_done : (start : List ℕ) (texts : List (List ℕ)) (command : Command) (old new : State) (reply : Reply) → Holds start texts old → is_mark command ≡ true → old.options.bound ≡ no_bound → ¬ (WasRefused reply)
    → Obeyed old command reply new → MarkDone start texts old command reply new
mark_done start texts command old new reply h mark free allowed (inl stopped) = absurd (allowed (mark-stopped command old reply mark stopped.0))
mark_done start texts command old new reply h mark free allowed (inr (inl unkept)) = absurd (allowed unkept.1)
mark_done start texts command old new reply h mark free allowed (inr (inr done)) =
    let single = mark-single command mark in
    let apart = apart-same (is_one_unit command) done.kept single in
    let step = subst (λ c. Step (set_apart done.kept command) c reply done.left) (mark-carried command old mark) done.step in
    let made = united-same (is_one_unit command) (unit_start (put_in done.kept command) done.kept.pair.changes) (with_waiting old command done.left) done.made single done.unites in
    let is = ends-made old new command reply (inr (inr done)) free done.made done.forgets.is (sym (ap (λ (s : State). s.options) done.forgets.is)) ∙ made in
    let asked = asks_to_keep old command in
    let rows = keeping asked old done.keeps.0 done.kept done.keeps.1 in
    let at_kept = Holds-Leads start rows texts old done.kept h (keeping-Leads asked old done.keeps.0 done.kept done.keeps.1) in
    let row : Row = record { before = done.kept; command = command; reply = reply; after = done.left; step = subst (λ s. Step s command reply done.left) apart step } in
    let at_left = Holds-row start (texts ++ held_of rows) row at_kept in
    let now = Holds-waiting start texts ((texts ++ held_of rows) ++ held row) old done.kept done.left command reply h done.keeps done.step at_left in
    record {
      said = done.keeps.0;
      kept = done.kept;
      keeps = done.keeps.1;
      left = done.left;
      step = row.step;
      recorded = ap (λ (s : State). s.pair.changes.recorded) is ∙ (waiting-same old command done.left).0;
      line = ap (λ (s : State). s.line) is ∙ (waiting-same old command done.left).1;
      holds = (now.0, subst (Holds start now.0) (sym is) now.1);
    }

-- ---- the begin
record Begun (start : List ℕ) (old begun : State) : Type 0 where
  front : List Entry
  matched : IsMatched front
  leads : replay_entries front start ≡ Some old.line.text
  is : begun.pair.changes.recorded ≡ front ++ Begin ∷ []
  stands : StandsInside start front begun

begins : (start : List ℕ) (texts : List (List ℕ)) (old new : State) (reply : Reply) → Holds start texts old → old.options.bound ≡ no_bound → Obeyed old asks.Begin reply new → ¬ (WasRefused reply) → Begun start old new
begins start texts old new reply h free p allowed =
    let d = mark_done start texts asks.Begin old new reply h refl free allowed p in
    let asked = asks_to_keep old asks.Begin in
    let rows = keeping asked old d.said d.kept d.keeps in
    let holds = Holds-Leads start rows texts old d.kept h (keeping-Leads asked old d.said d.kept d.keeps) in
    let row : Row = record { before = d.kept; command = asks.Begin; reply = reply; after = d.left; step = d.step } in
    let now = done_as row asks.Begin (λ r k _ _. k ≡ begun r) Begin-done refl allowed in
    let front = d.kept.pair.changes.recorded in
    let is : new.pair.changes.recorded ≡ front ++ Begin ∷ [] = d.recorded ∙ ap (λ (r : Record). r.recorded) now in
    record {
      front = front;
      matched = holds.matched.recorded;
      leads = holds.leads ∙ ap (λ (s : State). Some s.line.text) (Keeps-changes asked old d.kept d.said d.keeps).1;
      is = is;
      stands = record { inside = record { inner = []; is = is; matched = refl }; texts = d.holds.0; holds = d.holds.1 };
    }

below-is : (start : List ℕ) (old begun : State) (b : Begun start old begun) (below : ℕ) → level begun.pair.changes.recorded ≡ suc below → below ≡ level b.front
below-is start old begun b below opened = omega (arith, opened, ap level b.is, level-group b.front [] refl)

-- ---- the end
-- what an end finds, once what was undone is kept: so many open groups, and a change
record Finds (n k : ℕ) (r : Record) : Type 0 where
  opened : AtLevel n r
  within : k ≤ length r.recorded
  change : has_change (drop k r.recorded) ≡ true

Finds-kept : (n k : ℕ) (r : Record) → Finds n k r → Finds n k (kept_undone r)
Finds-kept n k r f = kept-either (Finds n k) r f (record {
  opened = AtLevel-round n r f.opened;
  within = omega (arith, f.within, length-append r.recorded (there_and_back r.pending));
  change = ap has_change (drop-append-le k r.recorded (there_and_back r.pending) f.within) ∙ has_change-append (drop k r.recorded) (there_and_back r.pending)
      ∙ ap (λ b. b || has_change (there_and_back r.pending)) f.change;
})

Finds-Keeps : (n k : ℕ) (asked : Bool) (old kept : State) (reply : Reply) → Keeps asked old reply kept → Finds n k old.pair.changes → Finds n k kept.pair.changes
Finds-Keeps n k false old kept reply keeps f = subst (λ (s : State). Finds n k s.pair.changes) (sym keeps.1) f
Finds-Keeps n k true old kept (says.Answer a) s f = subst (λ (s : State). Finds n k s.pair.changes) (sym (s.settles ∙ s.does.1)) (Finds-kept n k old.pair.changes f)
Finds-Keeps n k true old kept (says.Refused NoMemory) s f = subst (λ (s : State). Finds n k s.pair.changes) (sym (s.settles ∙ s.does.1)) f
Finds-Keeps n k true old kept _ s f = absurd s.does

closes-mark : (command : Command) (below now : ℕ) → ClosesGroup below now command → is_mark command ≡ true
closes-mark asks.End below now c = refl
closes-mark asks.EndOne below now c = refl
closes-mark _ below now c = absurd c

record Ended (start : List ℕ) (front : List Entry) (new : State) : Type 0 where
  kept : kept_of 1 new.pair.changes.recorded ≡ front
  change : has_change (last_of 1 new.pair.changes.recorded) ≡ true
  texts : List (List ℕ)
  holds : Holds start texts new

ends : (start : List ℕ) (front : List Entry) (old new : State) (command : Command) (reply : Reply) → IsMatched front → StandsInside start front old → old.options.bound ≡ no_bound
    → ClosesGroup (level front) (level old.pair.changes.recorded) command → has_change (drop (suc (length front)) old.pair.changes.recorded) ≡ true
    → Obeyed old command reply new → ¬ (WasRefused reply) → Ended start front new
ends start front old new command reply m h free closes change p allowed =
    let r = old.pair.changes in
    let n = level r.recorded in
    let d = mark_done start h.texts command old new reply h.holds (closes-mark command (level front) n closes) free allowed p in
    let kept = in-Keeps (asks_to_keep old command) start front old d.kept d.said m d.keeps h in
    let long : suc (length front) ≤ length r.recorded = omega (arith, ap length h.inside.is, length-append front (Begin ∷ h.inside.inner)) in
    let found = Finds-Keeps n (suc (length front)) (asks_to_keep old command) old d.kept d.said d.keeps (record { opened = record { matched = h.holds.matched; level = refl }; within = long; change = change }) in
    let row : Row = record { before = d.kept; command = command; reply = reply; after = d.left; step = d.step } in
    let c = closing-row row command (level front) refl (subst (λ k. ClosesGroup (level front) k command) found.opened.level closes) allowed in
    let unit = closed_unit front d.kept.pair.changes c.0 kept.inside c.1 found.change in
    let is = d.recorded ∙ ap (λ (k : Record). k.recorded) c.2 in
    record {
      kept = ap (kept_of 1) is ∙ unit.0;
      change = ap (λ es. has_change (last_of 1 es)) is ∙ unit.1;
      texts = d.holds.0;
      holds = d.holds.1;
    }

-- ---- the laws
inside-group : (start : List ℕ) (old begun mid : State) (b : Begun start old begun) (below : ℕ) (inside : Calls begun mid) → begun.options.bound ≡ no_bound → level begun.pair.changes.recorded ≡ suc below
    → AllCallsStandInGroup below inside → StandsInside start b.front mid
inside-group start old begun mid b below inside free opened all =
    in-Calls start b.front begun mid inside b.matched free (subst (λ n. AllCallsStandInGroup n inside) (below-is start old begun b below opened) all) b.stands

pub group-performed : (start : List ℕ) (texts : List (List ℕ)) (old begun mid ended new : State) (below : ℕ) (first last said : Reply) (inside : Calls begun mid) (command : Command)
    → Holds start texts old → old.options.bound ≡ no_bound → Obeyed old asks.Begin first begun → ¬ (WasRefused first)
    → level begun.pair.changes.recorded ≡ suc below → AllCallsStandInGroup below inside
    → ClosesGroup below (level mid.pair.changes.recorded) command → Performed mid command last ended → ¬ (WasRefused last)
    → has_change (drop (length begun.pair.changes.recorded) mid.pair.changes.recorded) ≡ true
    → Obeyed ended (Undo 1) said new → ¬ (WasRefused said) → new.line.text ≡ old.line.text
group-performed start texts old begun mid ended new below first last said inside command h free p allowed opened all closes e ends_well change u undoes =
    let b = begins start texts old begun first h free p allowed in
    let same = below-is start old begun b below opened in
    let free_then = ap (λ (o : Options). o.bound) (Obeyed-options old begun asks.Begin first p) ∙ free in
    let free_mid = ap (λ (o : Options). o.bound) (Calls-options begun mid inside) ∙ free_then in
    let at_mid = inside-group start old begun mid b below inside free_then opened all in
    let long : length begun.pair.changes.recorded ≡ suc (length b.front) = omega (arith, ap length b.is, length-append b.front (Begin ∷ [])) in
    let own = uncounted command mid ended last (mark-single command (closes-mark command below (level mid.pair.changes.recorded) closes)) e in
    let k = ends start b.front mid ended command last b.matched at_mid free_mid (subst (λ n. ClosesGroup n (level mid.pair.changes.recorded) command) same closes)
    (ap (λ n. has_change (drop n mid.pair.changes.recorded)) (sym long) ∙ change) own ends_well in
    let leads = undo-leads start k.texts ended new said k.holds k.change u undoes in
    same_Some new.line.text old.line.text (sym leads ∙ ap (λ es. replay_entries es start) k.kept ∙ b.leads)

pub abandon-performed : (start : List ℕ) (texts : List (List ℕ)) (old begun mid new : State) (below : ℕ) (first last : Reply) (inside : Calls begun mid)
    → Holds start texts old → old.options.bound ≡ no_bound → Obeyed old asks.Begin first begun → ¬ (WasRefused first)
    → level begun.pair.changes.recorded ≡ suc below → AllCallsStandInGroup below inside
    → level mid.pair.changes.recorded ≡ suc below → Obeyed mid asks.Abandon last new → ¬ (WasRefused last)
    → (new.line.text ≡ old.line.text) × (new.pair.changes.recorded ++ Begin ∷ [] ≡ begun.pair.changes.recorded)
abandon-performed start texts old begun mid new below first last inside h free p allowed opened all opened_then a abandons =
    let b = begins start texts old begun first h free p allowed in
    let free_then = ap (λ (o : Options). o.bound) (Obeyed-options old begun asks.Begin first p) ∙ free in
    let free_mid = ap (λ (o : Options). o.bound) (Calls-options begun mid inside) ∙ free_then in
    let at_mid = inside-group start old begun mid b below inside free_then opened all in
    let d = mark_done start at_mid.texts asks.Abandon mid new last at_mid.holds refl free_mid abandons a in
    let row : Row = record { before = d.kept; command = asks.Abandon; reply = last; after = d.left; step = d.step } in
    let kept = subst (StandsInside start b.front) (sym d.keeps.1) at_mid in
    let left = abandoned-row start kept.texts b.front row kept.holds kept.inside
    (ap (λ (s : State). level s.pair.changes.recorded) d.keeps.1 ∙ opened_then ∙ ap suc (below-is start old begun b below opened)) refl abandons in
    (ap (λ (l : Line). l.text) d.line ∙ same_Some d.left.line.text old.line.text (sym left.0 ∙ b.leads), ap (λ es. es ++ Begin ∷ []) (d.recorded ∙ left.1) ∙ sym b.is)
