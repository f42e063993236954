-- A group that stays empty leaves the record and what waits to be redone as they were.
use Rattle.rl_session.proofs.Common.{◌≡◌, ◌&&◌, ◌||◌, ◌∙◌, ℕ, suc, min, arith, ap, cond_both, refl, subst, sym, inl, inr, not, true, false, List, [], ◌∷◌, ◌++◌, no_bound, within_bound, Entry, Record, Reply, Command, State, WasRefused, end_times, level}
use Rattle.std.proofs.lemmas.Bool.{and_from, ne_eqb}
use Rattle.rl_line.specs.Entry.{Begin as AddsBegin}
use Rattle.rl_record.specs.Units.{adds_end, end_one, is_open, still_waiting, unit_start, waits}
use Rattle.rl_record.proofs.Records.GroupLemmas.{ends_in_begin-begin}
use Rattle.rl_record.proofs.Records.LastLemmas.{end_one-begin}
use Rattle.rl_record.proofs.Records.LevelLemmas.{level-begin}
use Rattle.rl_record.proofs.Records.WaitingLemmas.{given_up}
use Rattle.rl_session.specs.Commands.{with_changes}
use Rattle.rl_session.specs.Performing.{EndsLast, Obeyed, is_empty_group, is_one_unit, leaves_waiting, put_in, with_waiting, Performed}
use Rattle.rl_session.specs.declared.options.Options.{Options}
use Rattle.rl_session.specs.declared.session.Command.TheVariants.{Abandon, Begin, End, EndOne}
use Rattle.rl_session.specs.declared.session.Reply.TheVariants as says
use Rattle.rl_session.proofs.Runs.RowLemmas.{Step-options, within_bound-none}
use Rattle.rl_session.proofs.Sessions.PerformLemmas.{united-same, uncounted}
use Rattle.rl_session.proofs.Sessions.WaitingLemmas.{empty-mark, left_by, made-pending, made_of, mark-single, mark-stopped, step-alone}

-- what such a command left, before it forgot
record Leaves (command : Command) (old made : State) : Type 0 where
  recorded : made.pair.changes.recorded ≡ (made_of command old.pair.changes).recorded
  pending : made.pair.changes.pending ≡ old.pair.changes.pending
  options : made.options ≡ old.options

none-waits : (es : List Entry) → waits es ≡ false → es ≡ []
none-waits [] h = refl
none-waits (e ∷ es) h = cc

left : (command : Command) (old new : State) (reply : Reply) → is_empty_group old.pair.changes.recorded command ≡ true → old.options.keeps ≡ false → Obeyed old command reply new → ¬ (WasRefused reply)
    → (made : State) × (new ≡ within_bound made) × Leaves command old made
left command old new reply empty none (inl s) allowed = absurd (allowed (mark-stopped command old reply (empty-mark command old.pair.changes.recorded empty) s.0))
left command old new reply empty none (inr (inl unkept)) allowed = absurd (allowed unkept.1)
left command old new reply empty none (inr (inr done)) allowed =
    let r = old.pair.changes in
    let step = step-alone old done.kept done.left command reply empty none done.keeps done.step in
    let single = mark-single command (empty-mark command r.recorded empty) in
    let made = united-same (is_one_unit command) (unit_start (put_in done.kept command) done.kept.pair.changes) (with_waiting old command done.left) done.made single done.unites in
    let by = elim (left_by command old done.left reply empty step) as (λ _. done.left.pair.changes ≡ made_of command r) [ inl by ↦ by.changes_is | inr (refused, by) ↦ absurd (allowed refused) ] in
    let recorded = ap (λ (q : Record). q.recorded) by in
    let options = Step-options old done.left command reply step in
    let leaves : Leaves command old (with_waiting old command done.left) =
    cond_both (leaves_waiting old command) (with_changes (still_waiting done.left.pair.changes.recorded r) done.left) done.left (Leaves command old) (λ h. record { recorded = recorded; pending = refl; options = options })
    (λ h.
    let waiting : waits r.pending ≡ false =
    ap (λ b. b && (not false && waits r.pending)) (sym empty) ∙ ap (λ b. is_empty_group r.recorded command && (not b && waits r.pending)) (sym none) ∙ h in
    record { recorded = recorded; pending = ap (λ (q : Record). q.pending) by ∙ made-pending command r empty ∙ sym (none-waits r.pending waiting); options = options }) in
    (done.made, done.forgets.is, subst (Leaves command old) (sym made) leaves)

pub waits-on : (old new : State) (command : Command) (reply : Reply) → is_empty_group old.pair.changes.recorded command ≡ true → old.options.keeps ≡ false → Performed old command reply new → ¬ (WasRefused reply)
    → new.pair.changes.pending ≡ old.pair.changes.pending
waits-on old new command reply empty none p allowed =
    let own = uncounted command old new reply (mark-single command (empty-mark command old.pair.changes.recorded empty)) p in
    let (made, is, leaves) = left command old new reply empty none own allowed in ap (λ (s : State). s.pair.changes.pending) is ∙ leaves.pending

-- a group that was opened last, and is empty
adds-none : (es : List Entry) → adds_end 1 (es ++ AddsBegin ∷ []) ≡ false
adds-none es = ap (λ b. not b || false) (ends_in_begin-begin es)

opened : (es : List Entry) → is_open (es ++ AddsBegin ∷ []) ≡ true
opened es = ap not (ne_eqb (level (es ++ AddsBegin ∷ [])) 0 (λ e. omega (arith, e, level-begin es)))

one-level : (es : List Entry) → min 1 (level (es ++ AddsBegin ∷ [])) ≡ 1
one-level es = omega (arith, level-begin es)

ends-empty : (command : Command) (es : List Entry) → EndsLast (level es) command → is_empty_group (es ++ AddsBegin ∷ []) command ≡ true
ends-empty End es last = ap (λ n. not (adds_end n (es ++ AddsBegin ∷ []))) (level-begin es ∙ ap suc last) ∙ ap not (adds-none es)
ends-empty EndOne es last = ap (λ n. not (adds_end n (es ++ AddsBegin ∷ []))) (one-level es) ∙ ap not (adds-none es)
ends-empty Abandon es last = and_from (is_open (es ++ AddsBegin ∷ [])) _ (opened es) (ap not (adds-none es))
ends-empty _ es last = absurd last

takes-off : (command : Command) (r : Record) (es : List Entry) → r.recorded ≡ es ++ AddsBegin ∷ [] → EndsLast (level es) command → (made_of command r).recorded ≡ es
takes-off End r es is last =
    ap (λ l. end_times (level l) l) is ∙ ap (λ n. end_times n (es ++ AddsBegin ∷ [])) (level-begin es ∙ ap suc last) ∙ end_one-begin es
takes-off EndOne r es is last = ap (λ l. end_times (min 1 (level l)) l) is ∙ ap (λ n. end_times n (es ++ AddsBegin ∷ [])) (one-level es) ∙ end_one-begin es
takes-off Abandon r es is last = (given_up r (ap (adds_end 1) is ∙ adds-none es)).recorded ∙ ap end_one is ∙ end_one-begin es
takes-off _ r es is last = absurd last

pub leaves-record : (old mid new : State) (n : ℕ) (command : Command) (reply : Reply) → old.options.keeps ≡ false → old.options.bound ≡ no_bound → EndsLast (level old.pair.changes.recorded) command
    → Obeyed old Begin (says.Mark n) mid → Performed mid command reply new → ¬ (WasRefused reply)
    → (new.pair.changes.recorded ≡ old.pair.changes.recorded) × (new.pair.changes.pending ≡ old.pair.changes.pending)
leaves-record old mid new n command reply none free last p q allowed =
    let es = old.pair.changes.recorded in
    let (first, is, begins) = left Begin old mid (says.Mark n) refl none p (λ refused. refused) in
    let unbound : first.options.bound ≡ no_bound = ap (λ (o : Options). o.bound) begins.options ∙ free in
    let here : mid ≡ first = is ∙ within_bound-none first unbound in
    let recorded : mid.pair.changes.recorded ≡ es ++ AddsBegin ∷ [] = ap (λ (s : State). s.pair.changes.recorded) here ∙ begins.recorded in
    let options : mid.options ≡ old.options = ap (λ (s : State). s.options) here ∙ begins.options in
    let empty = ap (λ l. is_empty_group l command) recorded ∙ ends-empty command es last in
    let own = uncounted command mid new reply (mark-single command (empty-mark command mid.pair.changes.recorded empty)) q in
    let (made, then, ends) = left command mid new reply empty (ap (λ (o : Options). o.keeps) options ∙ none) own allowed in
    let there : new ≡ made = then ∙ within_bound-none made (ap (λ (o : Options). o.bound) (ends.options ∙ options) ∙ free) in (
      ap (λ (s : State). s.pair.changes.recorded) there ∙ ends.recorded ∙ takes-off command mid.pair.changes es recorded last,
      ap (λ (s : State). s.pair.changes.pending) there ∙ ends.pending ∙ ap (λ (s : State). s.pair.changes.pending) here ∙ begins.pending,
    )
