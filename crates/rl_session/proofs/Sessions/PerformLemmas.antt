-- How what a command does becomes a command that was performed.
use Rattle.rl_session.proofs.Common.{option_map, arith, Err, IfErr, IfOk, Line, List, Option, Refusal, ◌≡◌, ℕ, ap, cond, max, Record, min, None, Some, same_Some, ◌∙◌, not, string_bytes, Bool, Ok, Result, replied, false, true, inl, inr, refl, subst, sym, reset, Movement, BeginningOfLine, EndOfLine, BackwardWord, ForwardWord, ViCharSearch, BeginningOfBuffer, EndOfBuffer, CanDeleteBy, kill_plan, nothing_more, Came, Does, answers, deletion_of, edit_course, readied, settled, State, Ends, WasRefused, with_ring, Command, KillLine, KillBuffer, DiscardLine, DiscardBuffer, DeletePrevWord, DeleteWord, DeleteTo, Reply}
use Rattle.rl_base.specs.declared.motion.Movement.TheVariants.{WholeBuffer}
use Rattle.rl_line.specs.Edits.{CanInsertStr, insert_str_plan}
use Rattle.rl_line.specs.Indents.{indent_changes}
use Rattle.rl_line.specs.Plan.{longest_by}
use Rattle.std.specs.Prelude.{String}
use Rattle.std.specs.declared.alloc.Global.{Global}
use Rattle.rl_session.specs.Commands.{Step, with_changes}
use Rattle.rl_session.specs.declared.session.Command.TheVariants.{Abandon, Begin, End, EndOne, Indent, InsertStr, KeepUndone, Move, Redo, Undo}
use Rattle.rl_session.specs.declared.session.Fault.{Fault}
use Rattle.rl_session.specs.declared.session.Reply.TheVariants as says
use Rattle.rl_session.proofs.Sessions.StepLemmas.{step_done}
use Rattle.rl_session.specs.Forgetting.{Forgets}
use Rattle.rl_session.specs.Performing.{Bars, HasKept, IsBarred, IsStopped, Keeps, Obeyed, Stops, Unites, asks_to_keep, carried, is_one_unit, is_within, leaves_waiting, made_in_group, put_in, set_apart, with_waiting, within_group, counted_as, Performed}
use Rattle.rl_record.specs.Record.{parted}
use Rattle.rl_record.specs.Trying.{DoneWithin}
use Rattle.rl_record.specs.Undo.{OutOfRoom}
use Rattle.rl_record.specs.Units.{still_waiting, unit_start}
use Rattle.rl_record.specs.declared.changeset.groups.UnitStart.{UnitStart}
use Rattle.rl_session.specs.declared.session.Fault.TheVariants.{NoMemory, TooLong}

-- ---- what was undone is kept, if that is asked for
does_keep : (old new : State) (reply : Reply) → Does old KeepUndone reply new → Ends new → Step old KeepUndone reply new
does_keep old new reply does ends = step_done KeepUndone new refl does refl ends

pub keeps_not : (keeps : Bool) (old new : State) (why : Fault) → keeps ≡ true → Ends new → Does old KeepUndone (says.Refused why) new → Keeps keeps old (says.Refused why) new
keeps_not keeps old new why asked ends does = subst (λ b. Keeps b old (says.Refused why) new) (sym asked) (does_keep old new _ does ends)

pub has_kept : (keeps : Bool) (old new : State) (result : Result Bool Fault) (waited : Bool) → keeps ≡ true → Ends new → Does old KeepUndone (replied says.Answer result) new → result ≡ Ok waited
    → HasKept keeps old new
has_kept keeps old new result waited asked ends does ok =
    let kept = subst (λ r. Does old KeepUndone (replied says.Answer r) new) ok does in
    subst (λ b. HasKept b old new) (sym asked) (says.Answer waited, does_keep old new _ kept ends, λ w. w)

pub keeps_nothing : (keeps : Bool) (old : State) → keeps ≡ false → HasKept keeps old old
keeps_nothing keeps old asked = subst (λ b. HasKept b old old) (sym asked) (says.Answer false, (refl, refl), λ w. w)

pub ruleset keeping = (keeps_not, has_kept, keeps_nothing)

-- ---- a command
-- nothing was done
pub stopped : (command : Command) (old new : State) (reply : Reply) → new ≡ old → Stops old command reply → Obeyed old command reply new
stopped command old new reply same stops = inl (stops, same)

-- it was not begun, since what was undone could not be kept
pub unkept : (command : Command) (old new : State) (reply : Reply) → Keeps (asks_to_keep old command) old reply new → WasRefused reply → ¬ (IsStopped old command) → Obeyed old command reply new
unkept command old new reply keeps refused free = inr (inl (free, refused, keeps))

-- one that counts as another was done as that
pub counted-same : (command : Command) (s : State) → is_one_unit command ≡ false → counted_as s command ≡ command
counted-same (Indent m amount dedent) s single = cc
counted-same _ s single = refl

pub uncounted : (command : Command) (old new : State) (reply : Reply) → is_one_unit command ≡ false → Performed old command reply new → Obeyed old command reply new
uncounted command old new reply single p = subst (λ c. Obeyed old c reply new) (counted-same command old single) p

pub indented : (m : Movement) (n : ℕ) (dedent changes : Bool) (old new : State) (reply : Reply) → changes ≡ indent_changes old.line m n dedent → changes ≡ true
    → Obeyed old (Indent m n dedent) reply new → Performed old (Indent m n dedent) reply new
indented m n dedent changes old new reply is asked p = subst (λ c. Obeyed old c reply new) (ap (λ b. cond b (Indent m n dedent) (Move WholeBuffer)) (sym asked ∙ is)) p

pub indented_not : (m : Movement) (n : ℕ) (dedent changes : Bool) (old new : State) (reply : Reply) → changes ≡ indent_changes old.line m n dedent → changes ≡ false
    → Obeyed old (Move WholeBuffer) reply new → Performed old (Indent m n dedent) reply new
indented_not m n dedent changes old new reply is asked p = subst (λ c. Obeyed old c reply new) (ap (λ b. cond b (Indent m n dedent) (Move WholeBuffer)) (sym asked ∙ is)) p

carried-readied : (command : Command) (old s : State) → readied command s ≡ readied (carried old command) s
carried-readied (Undo n) old s = refl
carried-readied _ old s = refl

carried-settled : (command : Command) (old : State) (reply : Reply) (s : State) → settled command reply s ≡ settled (carried old command) reply s
carried-settled (Undo n) old reply s = refl
carried-settled _ old reply s = refl

-- a command of one step is not set apart, and nothing is united
pub apart-same : (one : Bool) (s : State) → one ≡ false → cond one (with_changes (parted s.pair.changes) s) s ≡ s
apart-same one s e = ap (λ b. cond b (with_changes (parted s.pair.changes) s) s) e

pub united-same : (one : Bool) (start : UnitStart) (left made : State) → one ≡ false → Unites one start left made → made ≡ left
united-same one start left made e u = subst (λ b. Unites b start left made) e u

-- nothing is left waiting
pub waiting-same : (old : State) (command : Command) (left : State) → leaves_waiting old command ≡ false → with_waiting old command left ≡ left
waiting-same old command left none = ap (λ b. cond b (with_changes (still_waiting left.pair.changes.recorded old.pair.changes) left) left) none

-- it was done: it began where the ring was readied, after what was undone was kept, and ended as it does
pub done : (command : Command) (old kept begun left ended new : State) (reply : Reply) → Forgets ended new → Does begun (carried old command) reply left → ended ≡ settled command reply left
    → begun ≡ readied command kept → HasKept (asks_to_keep old command) old kept → ¬ (IsStopped old command) → is_one_unit command ≡ false → leaves_waiting old command ≡ false
    → Obeyed old command reply new
done command old kept begun left ended new reply forgets does settles begins keeps free single none =
    let step = step_done (carried old command) left (begins ∙ carried-readied command old kept) does (settles ∙ carried-settled command old reply left) forgets.before in
    inr (inr (record {
      free = free;
      kept = kept;
      keeps = keeps;
      left = ended;
      step = subst (λ s. Step s (carried old command) reply ended) (sym (apart-same (is_one_unit command) kept single)) step;
      made = ended;
      unites = subst (λ one. Unites one (unit_start (put_in kept command) kept.pair.changes) (with_waiting old command ended) ended) (sym single) (sym (waiting-same old command ended none));
      forgets = forgets;
    }))

pub carried-unit : (command : Command) (s : State) → is_one_unit command ≡ true → command ≡ carried s command
carried-unit (Undo n) s one = cc
carried-unit _ s one = refl

unit-leaves_none : (command : Command) (s : State) → is_one_unit command ≡ true → leaves_waiting s command ≡ false
unit-leaves_none Begin s one = cc
unit-leaves_none End s one = cc
unit-leaves_none EndOne s one = cc
unit-leaves_none Abandon s one = cc
unit-leaves_none _ s one = refl

readied-apart : (command : Command) (changes : Record) (s : State) → with_changes changes (readied command s) ≡ readied command (with_changes changes s)
readied-apart command changes s = refl

-- the same of a command of several steps, which became one unit
pub done_as_unit : (command : Command) (old kept ready begun left ended made new : State) (reply : Reply) (start : UnitStart) → Forgets made new → Unites true start ended made → Ends ended
    → Does begun command reply left → ended ≡ settled command reply left → begun ≡ with_changes (parted ready.pair.changes) ready
    → start ≡ unit_start (put_in kept command) ready.pair.changes → ready ≡ readied command kept → HasKept (asks_to_keep old command) old kept → ¬ (IsStopped old command)
    → is_one_unit command ≡ true → Obeyed old command reply new
done_as_unit command old kept ready begun left ended made new reply start forgets unites ends does settles apart starts readies keeps free one =
    let changes = parted kept.pair.changes in
    let begins : begun ≡ readied command (with_changes changes kept) = apart ∙ ap (λ (s : State). with_changes (parted s.pair.changes) s) readies ∙ readied-apart command changes kept in
    let set : with_changes changes kept ≡ set_apart kept command = sym (ap (λ b. cond b (with_changes changes kept) kept) one) in
    let step = step_done command left begins does settles ends in
    let here : start ≡ unit_start (put_in kept command) kept.pair.changes = starts ∙ ap (λ (s : State). unit_start (put_in kept command) s.pair.changes) readies in
    inr (inr (record {
      free = free;
      kept = kept;
      keeps = keeps;
      left = ended;
      step = subst (λ c. Step (set_apart kept command) c reply ended) (carried-unit command old one) (subst (λ s. Step s command reply ended) set step);
      made = made;
      unites = subst (λ s. Unites (is_one_unit command) s (with_waiting old command ended) made) here
          (subst (λ s. Unites (is_one_unit command) start s made) (sym (waiting-same old command ended (unit-leaves_none command old one))) (subst (λ b. Unites b start ended made) (sym one) unites));
      forgets = forgets;
    }))

-- an undo stays in its group
pub grouped : (most n m : ℕ) (s : State) → most ≡ max n 1 → Some m ≡ option_map (min most) (made_in_group s) → ¬ (m ≡ 0) → (carried s (Undo n) ≡ Undo m) × ¬ (made_in_group s ≡ Some 0)
grouped most n m s e is some = from (made_in_group s) refl is
  where
    from : (made : Option ℕ) → made_in_group s ≡ made → Some m ≡ option_map (min most) made → (carried s (Undo n) ≡ Undo m) × ¬ (made_in_group s ≡ Some 0)
    from None h is = cc
    from (Some k) h is =
        let count : m ≡ min most k = same_Some m (min most k) is in
        let same : min (max n 1) k ≡ m = omega (arith, e, count) in
        (ap (λ o. Undo (within_group o n)) h ∙ ap Undo same, λ none. some (omega (arith, count, same_Some k 0 (sym h ∙ none))))

pub ungrouped : (most n : ℕ) (s : State) → None ≡ option_map (min most) (made_in_group s) → (carried s (Undo n) ≡ Undo n) × ¬ (made_in_group s ≡ Some 0)
ungrouped most n s is = from (made_in_group s) refl is
  where
    from : (made : Option ℕ) → made_in_group s ≡ made → None ≡ option_map (min most) made → (carried s (Undo n) ≡ Undo n) × ¬ (made_in_group s ≡ Some 0)
    from None h is = (ap (λ o. Undo (within_group o n)) h, λ none. let wrong : None ≡ Some 0 = sym h ∙ none in cc)
    from (Some k) h is = cc

pub group_is_empty : (most n m : ℕ) (s : State) → most ≡ max n 1 → Some m ≡ option_map (min most) (made_in_group s) → m ≡ 0 → made_in_group s ≡ Some 0
group_is_empty most n m s e is none = from (made_in_group s) refl is
  where
    from : (made : Option ℕ) → made_in_group s ≡ made → Some m ≡ option_map (min most) made → made_in_group s ≡ Some 0
    from None h is = cc
    from (Some k) h is = let empty : k ≡ 0 = omega (arith, e, none, same_Some m (min most k) is) in h ∙ ap (λ j. Some j) empty

pub ruleset grouping = (group_is_empty, grouped, ungrouped)

pub undo_stopped : (n : ℕ) (old new : State) → new ≡ old → made_in_group old ≡ Some 0 → Obeyed old (Undo n) (says.Answer false) new
undo_stopped n old new same none = inl (none, same)

pub undo_barred : (n m : ℕ) (old new : State) → new ≡ old → carried old (Undo n) ≡ Undo m → IsBarred old (Undo m) → Obeyed old (Undo n) (says.Refused TooLong) new
undo_barred n m old new same is barred = inl (subst (IsBarred old) (sym is) barred, same)

-- the ring has no part in an undo and a redo, so that it may be reset after them
abbrev anew : State → State
anew s = with_ring (reset s.pair.ring) s

undo-anew : (n : ℕ) (old left : State) (reply : Reply) → Does old (Undo n) reply left → Does (anew old) (Undo n) reply (anew left)
undo-anew n old left (says.Answer a) (went, ring, heard) = (went, ap anew ring, heard)
undo-anew n old left (says.Refused NoMemory) (some, same) = (some, ap anew same)
undo-anew n old left _ does = absurd does

redo-anew : (old left : State) (reply : Reply) → Does old Redo reply left → Does (anew old) Redo reply (anew left)
redo-anew old left (says.Answer a) (went, ring, heard) = (went, ap anew ring, heard)
redo-anew old left (says.Refused NoMemory) (some, same) = (some, ap anew same)
redo-anew old left _ does = absurd does

pub undo_done : (n m : ℕ) (old left ended new : State) (reply : Reply) → Forgets ended new → Does old (Undo m) reply left → ended ≡ with_ring (reset left.pair.ring) left → carried old (Undo n) ≡ Undo m
    → ¬ (made_in_group old ≡ Some 0) → ¬ (IsBarred old (Undo m)) → Obeyed old (Undo n) reply new
undo_done n m old left ended new reply forgets does resets is some free =
    let here = subst (λ s. Does (anew old) (Undo m) reply s) (sym resets) (undo-anew m old left reply does) in
    done (Undo n) old old (anew old) ended ended new reply forgets (subst (λ c. Does (anew old) c reply ended) (sym is) here) refl refl (says.Answer false, (refl, refl), λ w. w)
    (λ stops. elim stops [
      | inl none ↦ some none
      | inr barred ↦ free (subst (IsBarred old) is barred)
    ]) refl refl

pub redo_done : (old left ended new : State) (reply : Reply) → Forgets ended new → Does old Redo reply left → ended ≡ with_ring (reset left.pair.ring) left → ¬ (IsBarred old Redo) → Obeyed old Redo reply new
redo_done old left ended new reply forgets does resets free =
    let here = subst (λ s. Does (anew old) Redo reply s) (sym resets) (redo-anew old left reply does) in
    done Redo old old (anew old) ended ended new reply forgets here refl refl (says.Answer false, (refl, refl), λ w. w) free refl refl

-- a motion that leads nowhere resets the ring alone
stays : (kept left : State) (reply : Reply) → Step kept (Move WholeBuffer) reply left → (reply ≡ says.Answer false) × (left ≡ anew kept)
stays kept left (says.Answer a) s = (ap says.Answer s.does.0.0, s.settles ∙ s.does.1 ∙ ap (λ l. record (anew kept) { line = l }) s.does.0.1)
stays kept left _ s = absurd s.does

pub idle : (old new : State) (m : Movement) (n : ℕ) (dedent : Bool) (reply : Reply) → indent_changes old.line m n dedent ≡ false → Performed old (Indent m n dedent) reply new
    → (reply ≡ says.Answer false) × Forgets (anew old) new
idle old new m n dedent reply none p = from reply (subst (λ c. Obeyed old c reply new) (ap (λ b. cond b (Indent m n dedent) (Move WholeBuffer)) none) p)
  where
    stops_not : (reply : Reply) → Stops old (Move WholeBuffer) reply → ⊥
    stops_not (says.Refused TooLong) s = s
    stops_not _ s = s

    from : (reply : Reply) → Obeyed old (Move WholeBuffer) reply new → (reply ≡ says.Answer false) × Forgets (anew old) new
    from reply (inl stopped) = absurd (stops_not reply stopped.0)
    from reply (inr (inl unkept)) = absurd (subst WasRefused unkept.2.0 unkept.1)
    from reply (inr (inr done)) =
        let (said, left) = stays done.kept done.left reply done.step in
        (said, subst (λ s. Forgets s new) (done.unites ∙ left ∙ ap anew done.keeps.1.1) done.forgets)

-- what an undo or a redo keeps, it keeps also if the limit may bar it
pub within-keeps : (P : Record → Line → Type 0) (Done : Bool → Type 0) (keeps : Bool) (texts : List (List ℕ)) (r now : Record) (old new : Line) (result : Result (Option Bool) Refusal)
    → ((a : Bool) → Done a → P r old → P now new) → IfOk result (DoneWithin Done keeps r now old new) → IfErr result (OutOfRoom r now old new texts) → P r old → P now new
within-keeps P Done keeps texts r now old new (Ok (Some a)) does d e p = does a d.1 p
within-keeps P Done keeps texts r now old new (Ok None) does d e p = subst (λ k. P k new) (sym d.1) (subst (P r) (sym d.2) p)
within-keeps P Done keeps texts r now old new (Err why) does d e p = subst (λ k. P k new) (sym e.1) (subst (P r) (sym e.2) p)

-- a deletion by a movement is the command of that movement
pub deleted : (m : Movement) (old kept begun left new : State) (reply : Reply) → CanDeleteBy m → Forgets left new → Came (edit_course nothing_more (Unit {0}) (kill_plan begun.line m) answers reply) begun left
    → begun ≡ with_ring (reset kept.pair.ring) kept → HasKept old.options.keeps old kept → Performed old (deletion_of m) reply new
deleted BeginningOfLine old kept begun left new reply can f d b k = done DiscardLine old kept begun left left new reply f d refl b k (λ x. x) refl refl
deleted EndOfLine old kept begun left new reply can f d b k = done KillLine old kept begun left left new reply f d refl b k (λ x. x) refl refl
deleted (BackwardWord n word) old kept begun left new reply can f d b k = done (DeletePrevWord word n) old kept begun left left new reply f d refl b k (λ x. x) refl refl
deleted (ForwardWord n at word) old kept begun left new reply can f d b k = done (DeleteWord at word n) old kept begun left left new reply f d refl b k (λ x. x) refl refl
deleted (ViCharSearch n cs) old kept begun left new reply can f d b k = done (DeleteTo cs n) old kept begun left left new reply f d refl b k (λ x. x) refl refl
deleted BeginningOfBuffer old kept begun left new reply can f d b k = done DiscardBuffer old kept begun left left new reply f d refl b k (λ x. x) refl refl
deleted EndOfBuffer old kept begun left new reply can f d b k = done KillBuffer old kept begun left left new reply f d refl b k (λ x. x) refl refl
deleted _ old kept begun left new reply can f d b k = absurd can

-- what the code asked of the limit
pub bars_not : (asked : Bool) (s : State) (command : Command) → asked ≡ false → Bars asked s command → ¬ (IsBarred s command)
bars_not asked s command e b = subst (λ asked. Bars asked s command) e b

pub fits : {asked within : Bool} → asked ≡ within → asked ≡ true → ¬ (within ≡ false)
fits e is = λ past. cc

pub short : {asked long : Bool} → asked ≡ long → asked ≡ false → ¬ (long ≡ true)
short e is = λ past. cc

pub bars_insertion : (fits : Bool) (s : State) (i : ℕ) (text : String Global) → CanInsertStr s.line i (string_bytes text) → fits ≡ is_within s (longest_by s.line (insert_str_plan s.line i (string_bytes text)))
    → Bars (not fits) s (InsertStr i text)
bars_insertion true s i text can e = λ barred. cc (e, barred.1)
bars_insertion false s i text can e = (can, sym e)

pub ruleset performing = (stopped, unkept, done)

pub ruleset undoing = (stopped, undo_stopped, undo_barred, undo_done, redo_done)
