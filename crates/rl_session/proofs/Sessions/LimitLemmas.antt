-- A command that the limit does not bar leaves it as it is.
use Rattle.rl_session.proofs.Common.{Ring, Does, with_ring, Asked, BackwardChar, BackwardWord, BeginningOfBuffer, BeginningOfLine, Bool, Came, Command, Course, Direction, EndOfBuffer, EndOfLine, ForwardChar, ForwardWord, InsertChar, InsertStr, IsUtf8, Line, List, None, Option, Plan, Range, Reply, Some, Stands, Start, State, Takes, Telling, ViCharSearch, answers, ap, arith, asked, course_of, drop, edit, edit_course, edits, encode_utf8, eqb-true, false, goes, hands_out, if◌then◌else◌, inl, inr, insert_plan, inserts, is_done, last_of, leb-true, lends, length, length-append, length-between, length-drop, length-take, lent_plan, max, nat_le, nat_lt, never, not, option_and_then, other, other_course, pair_step, popped, popped_plan, pops, pulled_back, readied, redo_of, refl, removal, remove_range, repeat, rules, side_of, slice_range, stays, stepped, string_bytes, subst, suc, take, tells, told_as, true, unless_empty, update_plan, when, yank_plan, yank_pop, zero, ℕ, ◌&&◌, ◌*◌, ◌+◌, ◌-◌, ◌==◌, ◌||◌, ◌∙◌, ◌∷◌, ◌≡◌, ◌≤◌}
use Rattle.rl_line.proofs.Common.{greatest_boundary, is_boundary, ltb-false}
use Rattle.rl_base.specs.KillRing.{yank}
use Rattle.rl_line.specs.Edits.{cut_to_limit, insert_step, too_long, yank_step}
use Rattle.rl_line.specs.Plan.{longest, longest_by, nothing, of_step, resized, unbegun}
use Rattle.rl_line.specs.Ranges.{killed}
use Rattle.rl_line.specs.Transpositions.{clusters_around, meeting_place}
use Rattle.rl_line.proofs.Plans.LimitLemmas.{SameLimit, SameLimit-same, after-limit, ahead-limit, back-limit, longest-front}
use Rattle.rl_session.specs.Commands.{Step, lent, stops}
use Rattle.rl_session.specs.Performing.{IsBarred}
use Rattle.rl_session.specs.declared.session.Fault.TheVariants.{NoMemory, BadPlace}
use Rattle.rl_session.specs.declared.session.Command.TheVariants as asks
use Rattle.rl_session.specs.declared.session.Reply.TheVariants as says
use Rattle.rl_line.proofs.Plans.EditLemmas.{length-repeat}
use Rattle.rl_record.specs.Units.{open_group}

-- ---- a plan that makes the text no longer than the limit
abbrev pub Fits : {A : Type 0} → Line → Plan A → Type 0
Fits line plan = longest_by line plan ≤ line.limit

-- what the plans may ask of a line
record Bounds (line : Line) : Type 0 where
  within : length line.text ≤ line.limit
  grows_not : line.grow ≡ false

-- a length that is not too long is within the limit
short : (line : Line) (n : ℕ) → Bounds line → too_long line n ≡ false → n ≤ line.limit
short line n b h = ltb-false line.limit n (subst (λ grow. (not grow && nat_lt line.limit n) ≡ false) b.grows_not h)

Fits-insert : (line : Line) (c n : ℕ) → Bounds line → Fits line (insert_plan line c n)
Fits-insert line c n b = from (too_long line (length line.text + length (encode_utf8 c) * n)) refl
  where
    at_most : (one : Bool) → (n == 1) ≡ one → length line.text + length (encode_utf8 c) * n ≤ line.limit
        → max (length line.text) (resized (if one then InsertChar line.cursor c else InsertStr line.cursor (repeat n (encode_utf8 c))) (length line.text)) ≤ line.limit
    at_most true one le = omega (arith, b.within, le, ap (λ k. length (encode_utf8 c) * k) (eqb-true n 1 one))
    at_most false one le = omega (arith, b.within, le, length-repeat n (encode_utf8 c))

    from : (long : Bool) → too_long line (length line.text + length (encode_utf8 c) * n) ≡ long
        → longest (if long then nothing {A = Option Bool} line None else of_step (insert_step line c n) (Some (line.cursor == length line.text))).steps (length line.text) ≤ line.limit
    from true h = b.within
    from false h = at_most (n == 1) refl (short line _ b h)

Fits-yank : (line : Line) (s : List ℕ) (n : ℕ) → Bounds line → Fits line (yank_plan line s n)
Fits-yank line s n b = from (length s == 0) (too_long line (length line.text + length s * n)) refl
  where
    from : (none long : Bool) → too_long line (length line.text + length s * n) ≡ long
        → longest (if none || long then nothing {A = Option Bool} line None else of_step (yank_step line s n) (Some (line.cursor == length line.text))).steps (length line.text) ≤ line.limit
    from true long h = b.within
    from false true h = b.within
    from false false h = omega (arith, b.within, short line _ b h, length-repeat n s)

boundary-within : (s : List ℕ) (n : ℕ) → greatest_boundary s n ≤ n
boundary-within s zero = omega arith
boundary-within s (suc n) = from (is_boundary s (suc n)) (boundary-within s n)
  where
    from : (b : Bool) → greatest_boundary s n ≤ n → (if b then suc n else greatest_boundary s n) ≤ suc n
    from true le = omega arith
    from false le = omega (arith, le)

cut-within : (line : Line) (s : List ℕ) → Bounds line → length (cut_to_limit line s) ≤ line.limit
cut-within line s b = from (too_long line (length s)) refl
  where
    from : (long : Bool) → too_long line (length s) ≡ long → length (if long then take (greatest_boundary s line.limit) s else s) ≤ line.limit
    from true h = omega (arith, length-take (greatest_boundary s line.limit) s, boundary-within s line.limit)
    from false h = short line _ b h

Fits-update : (line : Line) (s : List ℕ) (q : ℕ) → Bounds line → Fits line (update_plan line s q)
Fits-update line s q b = omega (arith, b.within, cut-within line s b, length-between line.text 0 (length line.text) (omega arith))

Fits-removal : (line : Line) (gone : Option (Range ℕ)) (side : Direction) → Bounds line → Fits line (removal line gone side)
Fits-removal line None side b = b.within
Fits-removal line (Some r) side b = omega (arith, b.within)

length-part : (text : List ℕ) (i j : ℕ) → length (slice_range text i j) ≤ length text
length-part text i j = omega (arith, length-take (j - i) (drop i text), length-drop i text)

Fits-pulled : (line : Line) (pair : Option (ℕ × Range ℕ)) → Bounds line → Fits line (pulled_back line pair)
Fits-pulled line None b = b.within
Fits-pulled line (Some (front, after)) b = omega (arith, b.within, length-part line.text after.start after.end)

Fits-lent : (line : Line) (slot : Option (List ℕ)) (n : ℕ) → Bounds line → Fits line (lent_plan line slot n)
Fits-lent line None n b = b.within
Fits-lent line (Some s) n b = Fits-yank line s n b

Fits-popped : (line : Line) (slot : Option (ℕ × List ℕ)) → line.cursor ≤ length line.text → Bounds line → Fits line (popped_plan line slot)
Fits-popped line None at b = b.within
Fits-popped line (Some (z, s)) at b =
    let n = length line.text in
    let from = line.cursor - z in
    let left = remove_range line.text from line.cursor in
    let size : length left ≡ n - length (slice_range line.text from line.cursor) =
    omega (arith, length-append (take from line.text) (drop line.cursor line.text), length-take from line.text, length-drop line.cursor line.text, length-between line.text from line.cursor at, at) in
    let mid = stepped line left from in
    let rest = Fits-yank mid s 1 (record { within = omega arith; grows_not = b.grows_not }) in
    omega (arith, rest, size, ap (longest (yank_plan mid s 1).steps) size, b.within)

-- ---- so the limit stays on a course of such plans
abbrev FitsOn : State → Course → Type 0
FitsOn old (when condition course) = FitsOn old course
FitsOn old (edits plan a) = Fits old.line plan
FitsOn old (stops unbegun takes plan) = Fits old.line plan
FitsOn old (lends course) = FitsOn old course
FitsOn old (pops course) = FitsOn old course
FitsOn old (tells b course) = FitsOn old course
FitsOn old _ = Unit {0}

abbrev Same : State → State → Type 0
Same old new = SameLimit old.line new.line

Same-Came : (course : Course) (old new : State) → IsUtf8 old.line.text → FitsOn old course → Came course old new → Same old new
Same-Came never old new u f d = absurd d
Same-Came (when condition course) old new u f d = Same-Came course old new u f d.1
Same-Came stays old new u f d = SameLimit-same old.line new.line (ap (λ (s : State). s.line) d)
Same-Came (goes None a) old new u f d = SameLimit-same old.line new.line d.0.1
Same-Came (goes (Some place) a) old new u f d = record { limit = ap (λ (l : Line). l.limit) d.0.1; grow = ap (λ (l : Line). l.grow) d.0.1 }
Same-Came (edits plan a) old new u f d =
    let all = after-limit plan.steps old.line d.done.last u d.done.taken.line f in
    record { limit = ap (λ (l : Line). l.limit) d.done.line ∙ all.limit; grow = ap (λ (l : Line). l.grow) d.done.line ∙ all.grow }
Same-Came (stops unbegun takes plan) old new u f (inl e) = SameLimit-same old.line new.line (ap (λ (s : State). s.line) e.1)
Same-Came (stops unbegun takes plan) old new u f (inr cut) =
    let h = cut.halted in
    let n = length old.line.text in
    let front : longest h.first n ≤ old.line.limit = omega (arith, longest-front h.first (h.next ∷ h.others) n, ap (λ ss. longest ss n) h.split, f) in
    after-limit h.first old.line new.line u h.taken.line front
Same-Came (lends course) old new u f d = Same-Came course (lent old) new u f d
Same-Came (pops course) old new u f d = Same-Came course (popped old) new u f d
Same-Came (tells true course) old new u f d = Same-Came course old new u f d
Same-Came (tells false course) old new u f d = Same-Came course (record old { pair = pair_step old.pair Start }) (record new { pair = d.last }) u f d.inside

-- ---- each command that is not barred goes on such a course
abbrev AsksFits : Line → Asked → Type 0
AsksFits line (edit takes condition plan telling) = condition → Fits line plan
AsksFits line other = Unit {0}

not-past : (n limit : ℕ) → ¬ (nat_le n limit ≡ false) → n ≤ limit
not-past n limit free = leb-true n limit (from (nat_le n limit) refl)
  where
    from : (b : Bool) → nat_le n limit ≡ b → nat_le n limit ≡ true
    from true e = e
    from false e = absurd (free e)

-- with whatever ring the command begins
module _ (s : State) (ring : Ring) (u : IsUtf8 s.line.text) (b : Bounds s.line) (at : s.line.cursor ≤ length s.line.text) (new : State) where
  abbrev begun : State
  begun = with_ring ring s

  asks-fits : (command : Command) → ¬ (IsBarred s command) → AsksFits s.line (asked s.line command)
  asks-fits (asks.Insert c n) free = λ good. Fits-insert s.line c n b
  asks-fits (asks.Paste t n) free = λ good. Fits-yank s.line (string_bytes t) n b
  asks-fits (asks.Update t q) free = λ good. Fits-update s.line (string_bytes t) q b
  asks-fits (asks.InsertStr i t) free = λ good. not-past _ s.line.limit (λ past. free (good, past))
  asks-fits (asks.Replace i j t) free = λ good. not-past _ s.line.limit (λ past. free (good, past))
  asks-fits (asks.DeleteRange i j) free = λ good. omega (arith, b.within)
  asks-fits (asks.Delete n) free = λ good. Fits-removal s.line (killed s.line (ForwardChar n)) (side_of s.line (ForwardChar n)) b
  asks-fits asks.TransposeChars free = λ good. Fits-pulled s.line (option_and_then (clusters_around s.line.text) (meeting_place s.line)) b
  asks-fits (asks.TransposeWords n) free = λ good. not-past _ s.line.limit free
  asks-fits (asks.EditWord action) free = λ good. not-past _ s.line.limit free
  asks-fits (asks.Indent m amount dedent) free = λ good. not-past _ s.line.limit free
  asks-fits (asks.Backspace n) free = λ good. Fits-removal s.line (killed s.line (BackwardChar n)) (side_of s.line (BackwardChar n)) b
  asks-fits asks.KillLine free = λ good. Fits-removal s.line (killed s.line EndOfLine) (side_of s.line EndOfLine) b
  asks-fits asks.KillBuffer free = λ good. Fits-removal s.line (killed s.line EndOfBuffer) (side_of s.line EndOfBuffer) b
  asks-fits asks.DiscardLine free = λ good. Fits-removal s.line (killed s.line BeginningOfLine) (side_of s.line BeginningOfLine) b
  asks-fits asks.DiscardBuffer free = λ good. Fits-removal s.line (killed s.line BeginningOfBuffer) (side_of s.line BeginningOfBuffer) b
  asks-fits (asks.DeletePrevWord word n) free = λ good. Fits-removal s.line (killed s.line (BackwardWord n word)) (side_of s.line (BackwardWord n word)) b
  asks-fits (asks.DeleteWord where_at word n) free = λ good. Fits-removal s.line (killed s.line (ForwardWord n where_at word)) (side_of s.line (ForwardWord n where_at word)) b
  asks-fits (asks.DeleteTo cs n) free = λ good. Fits-removal s.line (killed s.line (ViCharSearch n cs)) (side_of s.line (ViCharSearch n cs)) b
  asks-fits _ free = search rules

  told-fits : {A : Type 0} (telling : Telling A) (course : A → Course) (reply : Reply) → ((a : A) → FitsOn begun (course a)) → FitsOn begun (told_as telling course reply)
  told-fits answers course (says.Answer a) each = each a
  told-fits inserts course (says.Inserted a) each = each a
  told-fits hands_out course (says.Text t) each = each _
  told-fits is_done course says.Done each = each tt
  told-fits telling course reply each = tt

  other-fits : (command : Command) (reply : Reply) → FitsOn begun (other_course begun command reply)
  other-fits (asks.Kill m) (says.Answer a) = Fits-removal s.line (killed s.line m) (side_of s.line m) b
  other-fits (asks.Kill m) (says.Refused NoMemory) = Fits-removal s.line (killed s.line m) (side_of s.line m) b
  other-fits (asks.KillRange i j side) (says.Answer a) = Fits-removal s.line (unless_empty i j) side b
  other-fits (asks.KillRange i j side) (says.Refused NoMemory) = Fits-removal s.line (unless_empty i j) side b
  other-fits (asks.Yank n) (says.Inserted a) = Fits-lent s.line (yank ring) n b
  other-fits (asks.Yank n) (says.Refused NoMemory) = Fits-lent s.line (yank ring) n b
  other-fits asks.YankPop (says.Inserted a) = Fits-popped s.line (yank_pop ring) at b
  other-fits asks.YankPop (says.Refused NoMemory) = Fits-popped s.line (yank_pop ring) at b
  other-fits _ (says.Refused NoMemory) = tt
  other-fits _ _ = tt

  edit-same : {A : Type 0} (takes : Takes) (condition : Type 0) (plan : Plan A) (telling : Telling A) (reply : Reply) → (condition → Fits s.line plan) → Came (edit_course takes condition plan telling reply) begun new → Same s new
  edit-same takes condition plan telling (says.Refused BadPlace) f d = SameLimit-same s.line new.line (ap (λ (t : State). t.line) d.1)
  edit-same takes condition plan telling (says.Refused NoMemory) f d = Same-Came (stops (unbegun takes plan) takes plan) begun new u (f d.0) d.1
  edit-same takes condition plan telling reply f d = Same-Came (told_as telling (edits plan) reply) begun new u (told-fits telling (edits plan) reply (λ a. f d.0)) d.1

  course-same : (what : Asked) (command : Command) (reply : Reply) → AsksFits s.line what → Came (course_of what begun command reply) begun new → Same s new
  course-same (edit takes condition plan telling) command reply f d = edit-same takes condition plan telling reply f d
  course-same other command reply f d = Same-Came (other_course begun command reply) begun new u (other-fits command reply) d

  does-same : (command : Command) (reply : Reply) → ¬ (IsBarred s command) → Does begun command reply new → Same s new
  does-same (asks.Undo n) (says.Answer a) free d = back-limit (last_of n s.pair.changes.recorded) s.line new.line u d.0.line_is (not-past _ s.line.limit free)
  does-same asks.Abandon (says.Answer a) free d = back-limit (open_group s.pair.changes.recorded) s.line new.line u d.0.line_is (not-past _ s.line.limit free)
  does-same asks.Redo (says.Answer a) free d = ahead-limit (redo_of s.pair.changes.pending) s.line new.line u d.0.line_is (not-past _ s.line.limit free)
  does-same asks.Begin (says.Mark n) free d = SameLimit-same s.line new.line (ap (λ (t : State). t.line) d.1)
  does-same asks.End (says.Answer a) free d = SameLimit-same s.line new.line (ap (λ (t : State). t.line) d.1)
  does-same asks.EndOne (says.Answer a) free d = SameLimit-same s.line new.line (ap (λ (t : State). t.line) d.1)
  does-same (asks.Truncate len) says.Done free d = SameLimit-same s.line new.line (ap (λ (t : State). t.line) d.1)
  does-same (asks.Keep t) says.Done free d = SameLimit-same s.line new.line (ap (λ (t : State). t.line) d)
  does-same asks.Part says.Done free d = SameLimit-same s.line new.line (ap (λ (t : State). t.line) d.1)
  does-same asks.Reopen (says.Answer a) free d = SameLimit-same s.line new.line (ap (λ (t : State). t.line) d.1)
  does-same asks.KeepUndone (says.Answer a) free d = SameLimit-same s.line new.line (ap (λ (t : State). t.line) d.1)
  does-same command reply free d = course-same (asked s.line command) command reply (asks-fits command free) d

-- the ring's resets touch no line
pub step_limit : (old new : State) (command : Command) (reply : Reply) → ¬ (IsBarred old command) → Step old command reply new → Stands old → Stands new × (new.line.limit ≡ old.line.limit)
step_limit old new command reply free step h =
    let ring = (readied command old).pair.ring in
    let bounds : Bounds old.line = record { within = h.within; grows_not = h.grows_not } in
    let same = does-same old ring h.utf8 bounds h.cursor.0 step.left command reply free step.does in
    let line : new.line ≡ step.left.line = ap (λ (t : State). t.line) step.settles in
    (step.stands, ap (λ (l : Line). l.limit) line ∙ same.limit)
