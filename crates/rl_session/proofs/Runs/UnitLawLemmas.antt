-- What a command of several steps changed is one unit, and an undo right after it takes that back.
use Rattle.rl_session.proofs.Common.{◌≡◌, ◌-◌, ◌==◌, ℕ, arith, suc, zero, false, true, cond, not, List, [], ◌∷◌, ◌++◌, length, take, Option, None, Some, ap, refl, subst, sym, same_Some, ◌∙◌, inl, inr, listener_after, Record, record_step, replay_entries, last_of, kept_of, unwind, Line, take_all, Came, Course, Does, Command, Reply, State, Undo, Holds, Row, WasRefused, held, held_of, steps_in}
use Rattle.rl_line.specs.Plan.{Step as PlanStep}
use Rattle.rl_record.specs.Record.{parted}
use Rattle.rl_line.specs.Entry.{has_change}
use Rattle.rl_record.specs.Units.{Open, UndoUnit, Whole, opens, size_to_open, together, unit_start, united, units}
use Rattle.rl_record.specs.declared.joining.Freshness.TheVariants.{Parted}
use Rattle.rl_record.specs.declared.changeset.groups.UnitStart.{UnitStart}
use Rattle.rl_line.proofs.Changes.InverseLemmas.{if_some}
use Rattle.rl_line.proofs.Changes.BackLemmas.{line_back-unwind}
use Rattle.rl_record.proofs.Records.UnitLawLemmas.{HeardApart, IsUnit, unit-heard}
use Rattle.rl_session.specs.Commands.{Step, asked, course_of, readied, with_changes}
use Rattle.rl_session.specs.Forgetting.{within_bound}
use Rattle.rl_session.specs.Performing.{MadeUnit, Obeyed, Stops, asks_to_keep, before_unit, is_one_unit, keeping, made_in_group, put_in, set_apart, within_group}
use Rattle.rl_session.specs.declared.options.Options.{Options}
use Rattle.rl_session.specs.declared.session.Command.TheVariants.{EditWord, Indent, TransposeChars, TransposeWords, Update, YankPop}
use Rattle.rl_session.specs.declared.session.Reply.TheVariants as says
use Rattle.rl_session.proofs.Sessions.CourseLemmas.{Heard-Came}
use Rattle.rl_session.proofs.Sessions.PerformLemmas.{carried-unit}
use Rattle.rl_session.proofs.Runs.CallLemmas.{Keeps-changes, keeping-Leads}
use Rattle.rl_session.proofs.Runs.HistoryLemmas.{Holds-Leads, Holds-row, undo-row}
use Rattle.rl_session.proofs.Runs.PlaceLemmas.{History-fresh, History-united, kept-leads}
use Rattle.rl_session.proofs.Runs.RowLemmas.{Step-options, within_bound-none}

-- ---- its steps
-- a record heard steps after it was parted
abbrev HeardSteps : Record → Record → Type 0
HeardSteps r now = (cursor : ℕ) × (steps : List PlanStep) × HeardApart cursor steps r now

abbrev course_for : State → Command → Reply → Course
course_for old command reply = course_of (asked old.line command) old command reply

came-heard : (r : Record) (course : Course) (old left : State) → old.pair.changes ≡ parted r → Came course old left → HeardSteps r left.pair.changes
came-heard r course old left apart d =
    let steps = steps_in course old left d in
    (old.line.cursor, steps, (Heard-Came course old left d).taken.listener ∙ ap (listener_after record_step old.line.cursor steps) apart)

does-heard : (command : Command) (r : Record) (old left : State) (reply : Reply) → is_one_unit command ≡ true → old.pair.changes ≡ parted r → Does old command reply left → HeardSteps r left.pair.changes
does-heard (Update t q) r old left reply one apart d = came-heard r (course_for old (Update t q) reply) old left apart d
does-heard YankPop r old left reply one apart d = came-heard r (course_for old YankPop reply) old left apart d
does-heard TransposeChars r old left reply one apart d = came-heard r (course_for old TransposeChars reply) old left apart d
does-heard (TransposeWords n) r old left reply one apart d = came-heard r (course_for old (TransposeWords n) reply) old left apart d
does-heard (EditWord action) r old left reply one apart d = came-heard r (course_for old (EditWord action) reply) old left apart d
does-heard (Indent m amount dedent) r old left reply one apart d = came-heard r (course_for old (Indent m amount dedent) reply) old left apart d
does-heard _ r old left reply one apart d = cc

step-heard : (command : Command) (r : Record) (s left : State) (reply : Reply) → is_one_unit command ≡ true → Step (with_changes (parted r) s) command reply left → HeardSteps r left.pair.changes
step-heard command r s left reply one step =
    subst (λ (k : State). HeardSteps r k.pair.changes) (sym step.settles) (does-heard command r (readied command (with_changes (parted r) s)) step.left reply one refl step.does)

-- ---- an undo right after it
-- a group that is open has a unit, if the last unit holds a change
some-unit : (us : List UndoUnit) → cond (not (opens us == 0)) (Some (size_to_open us - 1)) None ≡ Some 0 → has_change (together (take 1 us)) ≡ true → ⊥
some-unit [] e change = cc
some-unit (Open ∷ us) e change = cc
some-unit (Whole es ∷ []) e change = cc
some-unit (Whole es ∷ (Open ∷ us)) e change = absurd (omega (arith, (if_some (not (opens (Open ∷ us) == 0)) _ 0 e).1))
some-unit (Whole es ∷ (Whole ks ∷ us)) e change = absurd (omega (arith, (if_some (not (opens us == 0)) _ 0 e).1))

stops-none : (s : State) (reply : Reply) → Stops s (Undo 1) reply → ¬ (WasRefused reply) → made_in_group s ≡ Some 0
stops-none s (says.Answer false) stops allowed = stops
stops-none s (says.Refused why) stops allowed = absurd (allowed tt)
stops-none s _ stops allowed = absurd stops

within-one : (made : Option ℕ) → ¬ (made ≡ Some 0) → within_group made 1 ≡ 1
within-one None some = refl
within-one (Some zero) some = absurd (some refl)
within-one (Some (suc n)) some = omega arith

pub undo-leads : (start : List ℕ) (texts : List (List ℕ)) (old new : State) (reply : Reply) → Holds start texts old → has_change (last_of 1 old.pair.changes.recorded) ≡ true
    → Obeyed old (Undo 1) reply new → ¬ (WasRefused reply) → replay_entries (kept_of 1 old.pair.changes.recorded) start ≡ Some new.line.text
undo-leads start texts old new reply h change (inl (stops, same)) allowed = absurd (some-unit (units old.pair.changes.recorded) (stops-none old reply stops allowed) change)
undo-leads start texts old new reply h change (inr (inl unkept)) allowed = absurd (allowed unkept.1)
undo-leads start texts old new reply h change (inr (inr done)) allowed =
    let es = old.pair.changes.recorded in
    let row : Row = record { before = done.kept; command = Undo (within_group (made_in_group old) 1); reply = reply; after = done.left; step = done.step } in
    let one = within-one (made_in_group old) (λ none. done.free (inl none)) in
    let d = (undo-row row 1 (ap Undo one) allowed).1 in
    let back = subst (λ (s : State). unwind (last_of 1 s.pair.changes.recorded) s.line.text ≡ Some done.left.line.text) done.keeps.1.1
    (line_back-unwind (last_of 1 done.kept.pair.changes.recorded) done.kept.line done.left.line d.line_is) in
    let text : new.line.text ≡ done.left.line.text = ap (λ (s : State). s.line.text) (done.forgets.is ∙ ap within_bound done.unites) in
    kept-leads 1 es start old.line.text done.left.line.text h.is_text h.leads back ∙ ap Some (sym text)

-- ---- the unit
-- what is known after the command: its record is placed, and its last unit is what the command changed
record HasUnit (start : List ℕ) (old kept mid : State) (begin : UnitStart) : Type 0 where
  line : kept.line ≡ old.line
  leads : replay_entries kept.pair.changes.recorded start ≡ Some kept.line.text
  texts : List (List ℕ)
  holds : Holds start texts mid
  last : IsUnit begin kept.pair.changes mid.pair.changes

has-unit : (start : List ℕ) (texts : List (List ℕ)) (old mid : State) (command : Command) (reply : Reply) → Holds start texts old → (unit : MadeUnit old command reply mid)
    → HasUnit start old unit.done.kept mid (unit_start (put_in unit.done.kept command) unit.done.kept.pair.changes)
has-unit start texts old mid command reply h unit =
    let kept = unit.done.kept in
    let left = unit.done.left in
    let r = kept.pair.changes in
    let begin = unit_start (put_in kept command) r in
    let asks = asks_to_keep old command in
    let rows = keeping asks old unit.done.keeps.0 kept unit.done.keeps.1 in
    let only = (Keeps-changes asks old kept unit.done.keeps.0 unit.done.keeps.1).1 in
    let texts_then = texts ++ held_of rows in
    let holds = Holds-Leads start rows texts old kept h (keeping-Leads asks old unit.done.keeps.0 kept unit.done.keeps.1) in
    let apart = with_changes (parted r) kept in
    let step : Step apart command reply left =
    subst (λ s. Step s command reply left) (ap (λ b. cond b apart kept) unit.one) (subst (λ c. Step (set_apart kept command) c reply left) (sym (carried-unit command old unit.one)) unit.done.step) in
    let row : Row = record { before = apart; command = command; reply = reply; after = left; step = step } in
    let (cursor, steps, heard) = step-heard command r kept left reply unit.one step in
    let last = unit-heard (put_in kept command) cursor steps r left.pair.changes heard holds.matched.recorded unit.recorded in
    let held_then = texts_then ++ held row in
    let now : Holds start held_then left = Holds-row start texts_then row (History-fresh start texts_then kept.line.text r Parted holds) in
    let options = ap (λ (s : State). s.options) unit.marked ∙ Step-options apart left command reply step ∙ ap (λ (s : State). s.options) only in
    let is_mid : mid ≡ with_changes (united begin left.pair.changes) left = unit.done.forgets.is ∙ within_bound-none unit.done.made (ap (λ (o : Options). o.bound) options ∙ unit.unbounded) ∙ unit.marked in
    record {
      line = ap (λ (s : State). s.line) only;
      leads = holds.leads;
      texts = held_then;
      holds = subst (Holds start held_then) (sym is_mid) (History-united start held_then left.line.text left.pair.changes begin now);
      last = subst (λ (s : State). IsUnit begin r s.pair.changes) (sym is_mid) last;
    }

pub unit-leads : (start : List ℕ) (texts : List (List ℕ)) (old mid new : State) (command : Command) (reply said : Reply) → Holds start texts old → (unit : MadeUnit old command reply mid)
    → Obeyed mid (Undo 1) said new → ¬ (WasRefused said) → replay_entries (before_unit unit) start ≡ Some new.line.text
unit-leads start texts old mid new command reply said h unit p allowed =
    let u = has-unit start texts old mid command reply h unit in
    ap (λ es. replay_entries es start) (sym u.last.0) ∙ undo-leads start u.texts mid new said u.holds u.last.1 p allowed

-- a unit that takes nothing in begins after all that is recorded
begins-last : (put_in : ℕ) (r : Record) → put_in ≡ 0 → take (unit_start put_in r).from r.recorded ≡ r.recorded
begins-last put_in r none = ap (λ n. take (unit_start n r).from r.recorded) none ∙ take_all (length r.recorded - 0) r.recorded (omega arith)

pub unit-gives_back : (start : List ℕ) (texts : List (List ℕ)) (old mid new : State) (command : Command) (reply said : Reply) → Holds start texts old → (unit : MadeUnit old command reply mid)
    → Obeyed mid (Undo 1) said new → ¬ (WasRefused said) → put_in unit.done.kept command ≡ 0 → new.line.text ≡ old.line.text
unit-gives_back start texts old mid new command reply said h unit p allowed none =
    let u = has-unit start texts old mid command reply h unit in
    let before = begins-last (put_in unit.done.kept command) unit.done.kept.pair.changes none in
    let leads = unit-leads start texts old mid new command reply said h unit p allowed in
    same_Some new.line.text old.line.text (sym leads ∙ ap (λ es. replay_entries es start) before ∙ u.leads ∙ ap (λ (l : Line). Some l.text) u.line)
