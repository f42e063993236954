-- What commands keep that obey the options of a session: each is no row, or rows, and then forgets.
use Rattle.rl_session.proofs.Common.{◌≡◌, ◌&&◌, ℕ, cond_both, not, Bool, false, true, List, [], ◌∷◌, ◌++◌, ap, refl, subst, sym, ◌∙◌, inl, inr, append-nil, append_assoc, no_bound, within_bound, Command, Holds, Leads, Record, Reply, ReportedFrom, ChangedFrom, Row, Run, State, Stands, Undo, Redo, WasHeld, WasRefused, held_of}
use Rattle.rl_base.proofs.Ring.BoundLemmas.{IsRing-within, killing-within}
use Rattle.rl_record.specs.Units.{kept_undone, still_waiting, unit_start, united}
use Rattle.rl_session.specs.Commands.{Step, with_changes}
use Rattle.rl_session.specs.Performing.{Calls, HasKept, HoldsFrom, IsBarred, leaves_waiting, with_waiting, IsStopped, Keeps, Obeyed, Stops, asks_to_keep, NoneUnites, Unites, call, carried, is_edit_or_mark, is_one_unit, keeping, made_in_group, no_call, put_in, rows_in, rows_of, set_apart, within_group, counted_as}
use Rattle.rl_record.specs.Record.{parted}
use Rattle.rl_record.specs.declared.changeset.groups.UnitStart.{UnitStart}
use Rattle.rl_record.specs.declared.joining.Freshness.TheVariants.{Parted}
use Rattle.rl_session.specs.History.{History}
use Rattle.rl_session.specs.declared.session.Command.TheVariants.{Abandon, Begin, EditWord, End, EndOne, Indent, KeepUndone, Reopen, TransposeChars, TransposeWords, Update, YankPop}
use Rattle.rl_session.specs.declared.session.Fault.TheVariants.{NoMemory}
use Rattle.rl_session.specs.declared.session.Reply.TheVariants as says
use Rattle.rl_session.specs.declared.options.Options.{Options}
use Rattle.rl_session.proofs.Sessions.LimitLemmas.{step_limit}
use Rattle.rl_session.proofs.Sessions.PerformLemmas.{apart-same, united-same, waiting-same}
use Rattle.rl_session.proofs.Sessions.WaitingLemmas.{leaves-left}
use Rattle.rl_session.proofs.Sessions.WatchLemmas.{changed_row, reported_row}
use Rattle.rl_session.proofs.Runs.HistoryLemmas.{Holds-Leads, undo-in_run}
use Rattle.rl_session.proofs.Runs.PlaceLemmas.{History-fresh, History-more, History-united, History-waiting, Placed-held, holds_forgotten, recorded-placed}
use Rattle.rl_session.proofs.Runs.RowLemmas.{Leads-append, Step-options, held_of-append, within_bound-none}

-- ---- what every step keeps, and forgetting too, a performed command keeps
set_apart-keeps : (P : State → Type 0) → ((s : State) (changes : Record) → P s → P (with_changes changes s)) → (s : State) (command : Command) → P s → P (set_apart s command)
set_apart-keeps P marks s command h = cond_both (is_one_unit command) (with_changes (parted s.pair.changes) s) s P (λ e. marks s (parted s.pair.changes) h) (λ e. h)

waiting-keeps : (P : State → Type 0) → ((s : State) (changes : Record) → P s → P (with_changes changes s)) → (old : State) (command : Command) (left : State) → P left → P (with_waiting old command left)
waiting-keeps P marks old command left h =
    let changes = still_waiting left.pair.changes.recorded old.pair.changes in
    cond_both (leaves_waiting old command) (with_changes changes left) left P (λ e. marks left changes h) (λ e. h)

Unites-keeps : (P : State → Type 0) → ((s : State) (changes : Record) → P s → P (with_changes changes s)) → (one : Bool) (start : UnitStart) (left made : State) → Unites one start left made → P left → P made
Unites-keeps P marks false start left made u h = subst P (sym u) h
Unites-keeps P marks true start left made (inl u) h = subst P (sym u) (marks left (united start left.pair.changes) h)
Unites-keeps P marks true start left made (inr u) h = subst P (sym u.1) h

module _ (P : State → Type 0) (steps : (old new : State) (command : Command) (reply : Reply) → Step old command reply new → P old → P new)
    (marks : (s : State) (changes : Record) → P s → P (with_changes changes s)) where
  Keeps-keeps : (asked : Bool) (old kept : State) (reply : Reply) → Keeps asked old reply kept → P old → P kept
  Keeps-keeps false old kept reply k h = subst P (sym k.1) h
  Keeps-keeps true old kept reply k h = steps old kept KeepUndone reply k h

  pub Obeyed-keeps : (forgets : (s : State) → P s → P (within_bound s)) (old new : State) (command : Command) (reply : Reply) → Obeyed old command reply new → P old → P new
  Obeyed-keeps forgets old new command reply (inl stopped) h = subst P (sym stopped.1) h
  Obeyed-keeps forgets old new command reply (inr (inl unkept)) h = Keeps-keeps (asks_to_keep old command) old new reply unkept.2 h
  Obeyed-keeps forgets old new command reply (inr (inr done)) h =
      let kept = Keeps-keeps (asks_to_keep old command) old done.kept done.keeps.0 done.keeps.1 h in
      let left = steps (set_apart done.kept command) done.left (carried old command) reply done.step (set_apart-keeps P marks done.kept command kept) in
      let waiting = waiting-keeps P marks old command done.left left in
      let start = unit_start (put_in done.kept command) done.kept.pair.changes in
      subst P (sym done.forgets.is) (forgets done.made (Unites-keeps P marks (is_one_unit command) start (with_waiting old command done.left) done.made done.unites waiting))

pub Obeyed-options : (old new : State) (command : Command) (reply : Reply) → Obeyed old command reply new → new.options ≡ old.options
Obeyed-options old new command reply p =
    Obeyed-keeps (λ s. s.options ≡ old.options) (λ a b c r s e. Step-options a b c r s ∙ e) (λ s changes e. e) (λ s e. e) old new command reply p refl

pub Calls-options : (old new : State) (calls : Calls old new) → new.options ≡ old.options
Calls-options old new no_call = refl
Calls-options old new (call {mid = mid} command reply p calls) = Calls-options mid new calls ∙ Obeyed-options old mid (counted_as old command) reply p

-- ---- the rows that lead to what was left before it forgot
pub keeping-Leads : (asked : Bool) (old : State) (reply : Reply) (kept : State) (k : Keeps asked old reply kept) → Leads old (keeping asked old reply kept k) kept
keeping-Leads false old reply kept k = k.1
keeping-Leads true old reply kept k = (refl, refl)

-- with no bound nothing is forgotten, so that is the end
pub rows_in-Leads : (old new : State) (command : Command) (reply : Reply) (p : Obeyed old command reply new) → old.options.bound ≡ no_bound → is_one_unit command ≡ false → leaves_waiting old command ≡ false
    → Leads old (rows_in command reply p) new
rows_in-Leads old new command reply (inl stopped) free single none = stopped.1
rows_in-Leads old new command reply (inr (inl unkept)) free single none = keeping-Leads (asks_to_keep old command) old reply new unkept.2
rows_in-Leads old new command reply (inr (inr done)) free single none =
    let asked = asks_to_keep old command in
    let kept = Keeps-keeps (λ s. s.options ≡ old.options) (λ a b c r s e. Step-options a b c r s ∙ e) (λ s changes e. e) asked old done.kept done.keeps.0 done.keeps.1 refl in
    let apart : set_apart done.kept command ≡ done.kept = apart-same (is_one_unit command) done.kept single in
    let same = Step-options (set_apart done.kept command) done.left (carried old command) reply done.step ∙ ap (λ (s : State). s.options) apart ∙ kept in
    let start = unit_start (put_in done.kept command) done.kept.pair.changes in
    let made = united-same (is_one_unit command) start (with_waiting old command done.left) done.made single done.unites ∙ waiting-same old command done.left none in
    let all = done.forgets.is ∙ ap within_bound made ∙ within_bound-none done.left (ap (λ (o : Options). o.bound) same ∙ free) in
    Leads-append (keeping asked old done.keeps.0 done.kept done.keeps.1) _ old done.kept new (keeping-Leads asked old done.keeps.0 done.kept done.keeps.1) (apart, all)

pub rows_of-Leads : (old new : State) (calls : Calls old new) → old.options.bound ≡ no_bound → NoneUnites calls → Leads old (rows_of calls) new
rows_of-Leads old new no_call free single = refl
rows_of-Leads old new (call {mid = mid} command reply p calls) free single =
    let does = counted_as old command in
    let still = ap (λ (o : Options). o.bound) (Obeyed-options old mid does reply p) ∙ free in
    Leads-append (rows_in does reply p) (rows_of calls) old mid new (rows_in-Leads old mid does reply p free single.0 single.1) (rows_of-Leads mid new calls still single.2)

-- ---- a command that was done, if what was undone is kept in the record alone
kept_changes : (old kept : State) (reply : Reply) → Step old KeepUndone reply kept → (changes : Record) × (kept ≡ with_changes changes old)
kept_changes old kept (says.Answer a) s = (kept_undone old.pair.changes, s.settles ∙ s.does.1)
kept_changes old kept (says.Refused NoMemory) s = (old.pair.changes, s.settles ∙ s.does.1)
kept_changes old kept _ s = absurd s.does

pub Keeps-changes : (asked : Bool) (old kept : State) (reply : Reply) → Keeps asked old reply kept → (changes : Record) × (kept ≡ with_changes changes old)
Keeps-changes false old kept reply k = (old.pair.changes, k.1)
Keeps-changes true old kept reply k = kept_changes old kept reply k

pub record DoneAfter (old : State) (command : Command) (reply : Reply) (new : State) : Type 0 where
  pub changes : Record
  pub left : State
  pub step : Step (with_changes changes old) command reply left
  pub forgets : new ≡ within_bound left

-- a command of one step that is done as it is, and leaves nothing waiting, unless it is refused
abbrev pub is_plain : Command → Bool
is_plain Reopen = false
is_plain Begin = false
is_plain End = false
is_plain EndOne = false
is_plain Abandon = false
is_plain (Undo n) = false
is_plain command = not (is_one_unit command)

stopped_refused : (command : Command) (s : State) (reply : Reply) → is_plain command ≡ true → Stops s command reply → WasRefused reply
stopped_refused Reopen s reply plain stops = cc
stopped_refused Begin s reply plain stops = cc
stopped_refused (Undo n) s reply plain stops = cc
stopped_refused _ s (says.Refused why) plain stops = tt
stopped_refused _ s _ plain stops = absurd stops

carried-same : (command : Command) (s : State) → is_plain command ≡ true → carried s command ≡ command
carried-same (Undo n) s plain = cc
carried-same _ s plain = refl

plain-single : (command : Command) → is_plain command ≡ true → is_one_unit command ≡ false
plain-single (Update t q) plain = cc
plain-single YankPop plain = cc
plain-single TransposeChars plain = cc
plain-single (TransposeWords n) plain = cc
plain-single (EditWord a) plain = cc
plain-single (Indent m a d) plain = cc
plain-single _ plain = refl

plain-leaves_none : (command : Command) (s : State) → is_plain command ≡ true → leaves_waiting s command ≡ false
plain-leaves_none Begin s plain = cc
plain-leaves_none End s plain = cc
plain-leaves_none EndOne s plain = cc
plain-leaves_none Abandon s plain = cc
plain-leaves_none _ s plain = refl

-- it was done unless it was refused
pub done_after : (command : Command) (old new : State) (reply : Reply) → is_plain command ≡ true → ¬ (WasRefused reply) → Obeyed old command reply new → DoneAfter old command reply new
done_after command old new reply plain allowed (inl stopped) = absurd (allowed (stopped_refused command old reply plain stopped.0))
done_after command old new reply plain allowed (inr (inl unkept)) = absurd (allowed unkept.1)
done_after command old new reply plain allowed (inr (inr done)) =
    let kept = Keeps-changes (asks_to_keep old command) old done.kept done.keeps.0 done.keeps.1 in
    let single = plain-single command plain in
    let step = subst (λ c. Step (set_apart done.kept command) c reply done.left) (carried-same command old plain) done.step in
    let start = unit_start (put_in done.kept command) done.kept.pair.changes in
    let made = united-same (is_one_unit command) start (with_waiting old command done.left) done.made single done.unites
    ∙ waiting-same old command done.left (plain-leaves_none command old plain) in
    record {
      changes = kept.0;
      left = done.left;
      step = subst (λ s. Step s command reply done.left) (apart-same (is_one_unit command) done.kept single ∙ kept.1) step;
      forgets = done.forgets.is ∙ ap within_bound made;
    }

-- ---- with any bound
HoldsFrom-Leads : (held : List (List ℕ)) (rows : List Row) (old new : State) → HoldsFrom held old → Leads old rows new → HoldsFrom (held ++ held_of rows) new
HoldsFrom-Leads held rows old new h l = record {
  begin = h.begin;
  before = h.before;
  stands = record { rest = h.stands.rest ++ held_of rows; is = ap (λ x. x ++ held_of rows) h.stands.is ∙ append_assoc h.before (h.begin ∷ h.stands.rest) (held_of rows) };
  holds = Holds-Leads h.begin rows (h.begin ∷ h.stands.rest) old new h.holds l;
}

HoldsFrom-forgets : (held : List (List ℕ)) (s : State) → HoldsFrom held s → HoldsFrom held (within_bound s)
HoldsFrom-forgets held s h =
    let on = holds_forgotten h.begin (h.begin ∷ h.stands.rest) s h.holds in
    record {
      begin = on.begin;
      before = h.before ++ on.before;
      stands = record {
        rest = on.stands.rest;
        is = h.stands.is ∙ ap (λ x. h.before ++ x) on.stands.is ∙ sym (append_assoc h.before on.before (on.begin ∷ on.stands.rest));
      };
      holds = on.holds;
    }

-- a mark, or another freshness, keeps the history
HoldsFrom-apart : (held : List (List ℕ)) (s : State) (command : Command) → HoldsFrom held s → HoldsFrom held (set_apart s command)
HoldsFrom-apart held s command h =
    cond_both (is_one_unit command) (with_changes (parted s.pair.changes) s) s (HoldsFrom held)
    (λ e. record {
      begin = h.begin;
      before = h.before;
      stands = h.stands;
      holds = History-fresh h.begin (h.begin ∷ h.stands.rest) s.line.text s.pair.changes Parted h.holds;
    }) (λ e. h)

-- what waits is put back
HoldsFrom-more : (held more : List (List ℕ)) (s : State) → HoldsFrom held s → HoldsFrom (held ++ more) s
HoldsFrom-more held more s h = record {
  begin = h.begin;
  before = h.before;
  stands = record { rest = h.stands.rest ++ more; is = ap (λ x. x ++ more) h.stands.is ∙ append_assoc h.before (h.begin ∷ h.stands.rest) more };
  holds = History-more h.begin (h.begin ∷ h.stands.rest) more s.line.text s.pair.changes h.holds;
}

HoldsFrom-waiting : (held more : List (List ℕ)) (old kept left : State) (command : Command) (reply : Reply) → HoldsFrom held old → HasKept (asks_to_keep old command) old kept
    → Step (set_apart kept command) (carried old command) reply left → HoldsFrom (held ++ more) left → HoldsFrom (held ++ more) (with_waiting old command left)
HoldsFrom-waiting held more old kept left command reply h keeps step l =
    cond_both (leaves_waiting old command) (with_changes (still_waiting left.pair.changes.recorded old.pair.changes) left) left (HoldsFrom (held ++ more))
    (λ e.
    let m = leaves-left old kept left command reply e keeps step in
    let o = HoldsFrom-more held more old h in
    record {
      begin = o.begin;
      before = o.before;
      stands = o.stands;
      holds = subst (λ text. History o.begin (o.begin ∷ o.stands.rest) text (still_waiting left.pair.changes.recorded old.pair.changes)) (sym m.text_is)
          (History-waiting o.begin (o.begin ∷ o.stands.rest) old.line.text old.pair.changes left.pair.changes.recorded m.marks l.holds.matched.recorded o.holds);
    }) (λ e. l)

HoldsFrom-united : (held : List (List ℕ)) (one : Bool) (start : UnitStart) (left made : State) → Unites one start left made → HoldsFrom held left → HoldsFrom held made
HoldsFrom-united held false start left made u h = subst (HoldsFrom held) (sym u) h
HoldsFrom-united held true start left made (inr u) h = subst (HoldsFrom held) (sym u.1) h
HoldsFrom-united held true start left made (inl u) h =
    subst (HoldsFrom held) (sym u) (record {
      begin = h.begin;
      before = h.before;
      stands = h.stands;
      holds = History-united h.begin (h.begin ∷ h.stands.rest) left.line.text left.pair.changes start h.holds;
    })

HoldsFrom-Obeyed : (held : List (List ℕ)) (old new : State) (command : Command) (reply : Reply) (p : Obeyed old command reply new) → HoldsFrom held old
    → HoldsFrom (held ++ held_of (rows_in command reply p)) new
HoldsFrom-Obeyed held old new command reply (inl stopped) h = HoldsFrom-Leads held [] old new h stopped.1
HoldsFrom-Obeyed held old new command reply (inr (inl unkept)) h =
    let asked = asks_to_keep old command in
    HoldsFrom-Leads held (keeping asked old reply new unkept.2) old new h (keeping-Leads asked old reply new unkept.2)
HoldsFrom-Obeyed held old new command reply (inr (inr done)) h =
    let asked = asks_to_keep old command in
    let first = keeping asked old done.keeps.0 done.kept done.keeps.1 in
    let row : Row = record { before = set_apart done.kept command; command = carried old command; reply = reply; after = done.left; step = done.step } in
    let kept = HoldsFrom-Leads held first old done.kept h (keeping-Leads asked old done.keeps.0 done.kept done.keeps.1) in
    let apart = HoldsFrom-apart (held ++ held_of first) done.kept command kept in
    let left = HoldsFrom-Leads (held ++ held_of first) (row ∷ []) (set_apart done.kept command) done.left apart (refl, refl) in
    let all : (held ++ held_of first) ++ held_of (row ∷ []) ≡ held ++ held_of (first ++ row ∷ []) =
    append_assoc held (held_of first) (held_of (row ∷ [])) ∙ ap (λ k. held ++ k) (sym (held_of-append first (row ∷ []))) in
    let start = unit_start (put_in done.kept command) done.kept.pair.changes in
    let more = held_of (first ++ row ∷ []) in
    let waiting = HoldsFrom-waiting held more old done.kept done.left command reply h done.keeps done.step (subst (λ k. HoldsFrom k done.left) all left) in
    let made = HoldsFrom-united (held ++ more) (is_one_unit command) start (with_waiting old command done.left) done.made done.unites waiting in
    subst (HoldsFrom (held ++ held_of (first ++ row ∷ []))) (sym done.forgets.is) (HoldsFrom-forgets (held ++ held_of (first ++ row ∷ [])) done.made made)

pub HoldsFrom-Calls : (held : List (List ℕ)) (old new : State) (calls : Calls old new) → HoldsFrom held old → HoldsFrom (held ++ held_of (rows_of calls)) new
HoldsFrom-Calls held old new no_call h = HoldsFrom-Leads held [] old new h refl
HoldsFrom-Calls held old new (call {mid = mid} command reply p calls) h =
    let does = counted_as old command in
    let rows = rows_in does reply p in
    subst (λ k. HoldsFrom k new) (append_assoc held (held_of rows) (held_of (rows_of calls)) ∙ ap (λ k. held ++ k) (sym (held_of-append rows (rows_of calls))))
    (HoldsFrom-Calls (held ++ held_of rows) mid new calls (HoldsFrom-Obeyed held old mid does reply p h))

-- the present text is one of them
text-held : (start : List ℕ) (held : List (List ℕ)) (s : State) → Holds start held s → WasHeld s.line.text held
text-held start held s h = Placed-held start s.pair.changes.recorded held s.line.text (recorded-placed start held s.line.text s.pair.changes h) h.leads

WasHeld-after : (front : List (List ℕ)) (text : List ℕ) (held all : List (List ℕ)) → all ≡ front ++ held → WasHeld text held → WasHeld text all
WasHeld-after front text held all e h =
    (front ++ h.0, record { rest = h.1.rest; is = e ∙ ap (λ x. front ++ x) h.1.is ∙ sym (append_assoc front h.0 (text ∷ h.1.rest)) })

pub undo-Obeyed : (held : List (List ℕ)) (old new : State) (n : ℕ) (reply : Reply) → HoldsFrom held old → Obeyed old (Undo n) reply new → ¬ (WasRefused reply) → WasHeld new.line.text held
undo-Obeyed held old new n reply h (inl stopped) allowed =
    WasHeld-after h.before new.line.text (h.begin ∷ h.stands.rest) held h.stands.is (subst (λ (s : State). WasHeld s.line.text (h.begin ∷ h.stands.rest)) (sym stopped.1) (text-held h.begin _ old h.holds))
undo-Obeyed held old new n reply h (inr (inl unkept)) allowed = absurd (allowed unkept.1)
undo-Obeyed held old new n reply h (inr (inr done)) allowed =
    let m = within_group (made_in_group old) n in
    let row : Row = record { before = done.kept; command = Undo m; reply = reply; after = done.left; step = done.step } in
    let run : Run done.kept (Undo m ∷ []) (reply ∷ []) done.left = record { rows = row ∷ []; leads = (refl, refl); asked = refl; answered = refl } in
    let texts = h.begin ∷ h.stands.rest in
    let forgets = done.forgets.is ∙ ap within_bound done.unites in
    let back = undo-in_run h.begin texts done.kept done.left (Undo m ∷ []) (reply ∷ []) [] [] row m (subst (Holds h.begin texts) (sym done.keeps.1.1) h.holds) run refl refl allowed in
    WasHeld-after h.before new.line.text texts held h.stands.is
    (subst (λ t. WasHeld t texts) (sym (ap (λ (s : State). s.line.text) forgets)) (subst (WasHeld done.left.line.text) (append-nil texts) back))

-- ---- what another record leaves, and forgetting
pub Stands-changes : (changes : Record) (s : State) → Stands s → Stands (with_changes changes s)
Stands-changes changes s h = record { utf8 = h.utf8; cursor = h.cursor; within = h.within; grows_not = h.grows_not; ring = h.ring; idle = h.idle }

pub Stands-forgets : (s : State) → Stands s → Stands (within_bound s)
Stands-forgets s h =
    let bytes = s.options.bound.ring_bytes in
    record {
      utf8 = h.utf8;
      cursor = h.cursor;
      within = h.within;
      grows_not = h.grows_not;
      ring = IsRing-within bytes s.pair.ring h.ring;
      idle = killing-within bytes s.pair.ring ∙ h.idle;
    }

pub changed-forgets : (asked : List ℕ) (s : State) → ChangedFrom asked s → ChangedFrom asked (within_bound s)
changed-forgets asked s from = record { stands = Stands-forgets s from.stands; bounded = from.bounded; covers = from.covers }

pub reported-forgets : (read : List ℕ) (s : State) → ReportedFrom read s → ReportedFrom read (within_bound s)
reported-forgets read s from = record { stands = Stands-forgets s from.stands; bounded = from.bounded; text = from.text; leads = from.leads }

abbrev row_of : (old new : State) (command : Command) (reply : Reply) → Step old command reply new → Row
row_of old new command reply step = record { before = old; command = command; reply = reply; after = new; step = step }

-- what tells of changes tells of all that a performed command changed
pub changed-Obeyed : (asked : List ℕ) (old new : State) (command : Command) (reply : Reply) → Obeyed old command reply new → ChangedFrom asked old → ChangedFrom asked new
changed-Obeyed asked = Obeyed-keeps (ChangedFrom asked) (λ old new command reply step. changed_row asked (row_of old new command reply step))
    (λ s changes from. record { stands = Stands-changes changes s from.stands; bounded = from.bounded; covers = from.covers }) (changed-forgets asked)

pub reported-Obeyed : (read : List ℕ) (old new : State) (command : Command) (reply : Reply) → Obeyed old command reply new → ReportedFrom read old → ReportedFrom read new
reported-Obeyed read = Obeyed-keeps (ReportedFrom read) (λ old new command reply step. reported_row read (row_of old new command reply step))
    (λ s changes from. record { stands = Stands-changes changes s from.stands; bounded = from.bounded; text = from.text; leads = from.leads }) (reported-forgets read)

-- ---- the limit
-- it bars an edit after what was undone was kept only if it barred it before
barred_before : (command : Command) (changes : Record) (s : State) → is_edit_or_mark command ≡ true → IsBarred (with_changes changes s) command → IsBarred s command
barred_before (Undo n) changes s edit b = cc
barred_before Redo changes s edit b = cc
barred_before Abandon changes s edit b = cc
barred_before _ changes s edit b = b

not_barred : (command : Command) (s : State) → ¬ (IsStopped s command) → ¬ (IsBarred s (carried s command))
not_barred Reopen s free = λ b. b
not_barred (Undo n) s free = λ b. free (inr b)
not_barred _ s free = free

carried-edits : (command : Command) (s : State) → is_edit_or_mark (carried s command) ≡ is_edit_or_mark command
carried-edits (Undo n) s = refl
carried-edits _ s = refl

abbrev LimitStays : State → State → Type 0
LimitStays old new = Stands new × (new.line.limit ≡ old.line.limit)

Keeps-limit : (command : Command) (edit keeps : Bool) (old kept : State) (reply : Reply) → edit ≡ is_edit_or_mark command → Keeps (edit && keeps) old reply kept → ¬ (IsBarred old command) → Stands old
    → LimitStays old kept × ¬ (IsBarred kept command)
Keeps-limit command false keeps old kept reply e k free h = (subst (λ s. LimitStays old s) (sym k.1) (h, refl), λ b. free (subst (λ s. IsBarred s command) k.1 b))
Keeps-limit command true false old kept reply e k free h = (subst (λ s. LimitStays old s) (sym k.1) (h, refl), λ b. free (subst (λ s. IsBarred s command) k.1 b))
Keeps-limit command true true old kept reply e k free h =
    let same = kept_changes old kept reply k in
    (step_limit old kept KeepUndone reply (λ b. b) k h, λ b. free (barred_before command same.0 old (sym e) (subst (λ s. IsBarred s command) same.1 b)))

limit-changes : (old s : State) (changes : Record) → LimitStays old s → LimitStays old (with_changes changes s)
limit-changes old s changes l = (Stands-changes changes s l.0, l.1)

one_unit-edits : (command : Command) → is_one_unit command ≡ true → is_edit_or_mark command ≡ true
one_unit-edits (Update t q) one = refl
one_unit-edits YankPop one = refl
one_unit-edits TransposeChars one = refl
one_unit-edits (TransposeWords n) one = refl
one_unit-edits (EditWord a) one = refl
one_unit-edits (Indent m a d) one = refl
one_unit-edits _ one = cc

barred_apart : (command : Command) (old s : State) → ¬ (IsBarred s (carried old command)) → ¬ (IsBarred (set_apart s command) (carried old command))
barred_apart command old s free =
    cond_both (is_one_unit command) (with_changes (parted s.pair.changes) s) s (λ k. ¬ (IsBarred k (carried old command)))
    (λ one b. free (barred_before (carried old command) (parted s.pair.changes) s (carried-edits command old ∙ one_unit-edits command one) b)) (λ e. free)

pub limit-Obeyed : (old new : State) (command : Command) (reply : Reply) → Obeyed old command reply new → Stands old → LimitStays old new
limit-Obeyed old new command reply (inl stopped) h = subst (λ s. LimitStays old s) (sym stopped.1) (h, refl)
limit-Obeyed old new command reply (inr (inl unkept)) h =
    (Keeps-limit (carried old command) (is_edit_or_mark command) old.options.keeps old new reply (sym (carried-edits command old)) unkept.2 (not_barred command old unkept.0) h).0
limit-Obeyed old new command reply (inr (inr done)) h =
    let kept = Keeps-limit (carried old command) (is_edit_or_mark command) old.options.keeps old done.kept done.keeps.0 (sym (carried-edits command old)) done.keeps.1 (not_barred command old done.free) h in
    let marks = λ (s : State) (changes : Record) (l : LimitStays old s). limit-changes old s changes l in
    let apart = set_apart-keeps (LimitStays old) marks done.kept command kept.0 in
    let left = step_limit (set_apart done.kept command) done.left (carried old command) reply (barred_apart command old done.kept kept.1) done.step apart.0 in
    let waiting = waiting-keeps (LimitStays old) marks old command done.left (left.0, left.1 ∙ apart.1) in
    let start = unit_start (put_in done.kept command) done.kept.pair.changes in
    let made = Unites-keeps (LimitStays old) marks (is_one_unit command) start (with_waiting old command done.left) done.made done.unites waiting in
    subst (λ s. LimitStays old s) (sym done.forgets.is) (Stands-forgets done.made made.0, made.1)
