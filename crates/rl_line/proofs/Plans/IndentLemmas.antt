-- The steps of an indent: the parts that spaces go in by, the places after a change at the start of a line, and the
-- lines that are left.
use Rattle.rl_line.proofs.Common.{Bool, Completed, Delete, Direction, Event, Forward, Halted, InsertStr, IsAscii, IsAscii-cons, IsAscii-nil, IsCharBoundary, IsCharBoundary-end, IsCharBoundary-from_drop, IsUtf8, Line, List, Movement, NoMemory, Plan, Range, Refusal, Some, Step, Taken, [], after, after_steps, ap, append_assoc, apply, ap₂, arith, blanks, common_steps, drop, drop-cons, drop-drop, end_of_line, eqb, eqb-true, false, get_or-drop, get_or-take, greatest_boundary, if◌then◌else◌, inl, insert_slice, is_some, last_line, length, length-append, length-between, length-drop, length-take, length-take-le, line_number, line_plan, lines, lines_plan, lt-ltb, ltb-false, ltb-true, max, min, nat_lt, nat_tests, or_no_memory, parts, pulled, pushed, put_spaces, refl, remove_range, repeat, replace_range, same_Some, single, slice_range, spaces, start_of_line, stepped, subst, suc, sum, sum_by-append, sum_by-cons, sym, take, take-append-drop, take-take, text_of_line, trim_start, true, zero, ℕ, ◌%◌, ◌*◌, ◌++◌, ◌+◌, ◌-◌, ◌/◌, ◌<◌, ◌∙◌, ◌∷◌, ◌≡◌, ◌≤◌}
use Rattle.rl_base.proofs.Texts.BlankLemmas.{trim_start-blanks}
use Rattle.rl_base.proofs.Texts.EventLemmas.{Deletes-from_IsSome, Inserts-from_IsSome}
use Rattle.rl_base.proofs.Texts.LineLemmas.{count-parts, count_of_lines, end-from, lies, lines-after, lines_some, newlines-line, start-next, text-between}
use Rattle.rl_base.proofs.Texts.TextLemmas.{drop-after, greatest_boundary-is, removed-is_replaced}
use Rattle.rl_line.proofs.Lines.LineStartLemmas.{newlines-append, newlines-replaced}
use Rattle.rl_line.proofs.Plans.EditLemmas.{length-repeat}
use Rattle.rl_line.proofs.Plans.PlanLemmas.{Halted-at_first, Halted-back, Halted-front, Taken-append, first_step}
use Rattle.rl_line.specs.Indents.{final_line, first_line, indent_changes, indented_lines, spaces_each}
use Rattle.rl_line.specs.Plan.{bytes_of}
use Rattle.rl_line.specs.Ranges.{indented}

-- ---- parts of at most 32
pub take-spaces : (k n : ℕ) → k ≤ n → take k (spaces n) ≡ spaces k
take-spaces zero n le = refl
take-spaces (suc k) zero le = absurd (omega arith)
take-spaces (suc k) (suc n) le = ap (λ s. 32 ∷ s) (take-spaces k n (omega arith))

pub length-spaces : (n : ℕ) → length (spaces n) ≡ n
length-spaces n = length-repeat n (32 ∷ []) ∙ (omega arith)

-- the next step, where `place` is the cursor after it
pub put_spaces-next : (left i cursor place : ℕ) (part : List ℕ) → 0 < left → part ≡ spaces (min left 32) → place ≡ pushed i (length part) cursor
    → put_spaces (parts left) i cursor ≡ (InsertStr i part, place) ∷ put_spaces (parts (left - length part)) i place
put_spaces-next left i cursor place part some is at = grind (arith, length-spaces)

pub IsAscii-spaces : (n : ℕ) → IsAscii (spaces n)
IsAscii-spaces zero = IsAscii-nil
IsAscii-spaces (suc n) = IsAscii-cons 32 (spaces n) (omega arith) (IsAscii-spaces n)

pub pushed-pushed : (i m n cursor : ℕ) → pushed i n (pushed i m cursor) ≡ pushed i (m + n) cursor
pushed-pushed i m n cursor = grind (arith, nat_tests)

pub pushed-none : (i cursor : ℕ) → pushed i 0 cursor ≡ cursor
pushed-none i cursor = grind (arith, nat_tests)

-- ---- what stands after a change
pub IsCharBoundary-pushed : (text : List ℕ) (i cursor : ℕ) (s : List ℕ) → IsUtf8 text → IsUtf8 s → IsCharBoundary text i → IsCharBoundary text cursor
    → IsCharBoundary (insert_slice text i s) (pushed i (length s) cursor)
IsCharBoundary-pushed text i cursor s u v start at = grind (arith, common_steps)

-- a boundary of a part of a text is one of the text, where the part ends at one
pub IsCharBoundary-from_part : (text : List ℕ) (i j k : ℕ) → i ≤ j → IsCharBoundary text j → IsCharBoundary (slice_range text i j) k → IsCharBoundary text (i + k)
IsCharBoundary-from_part text i j k le end at = grind (arith, ltb-true, length-between, get_or-take, get_or-drop, ltb-false)

pub IsCharBoundary-pulled : (text : List ℕ) (i j n cursor : ℕ) → IsUtf8 text → i ≤ j → n ≡ j - i → IsCharBoundary text i → IsCharBoundary text j → IsCharBoundary text cursor
    → IsCharBoundary (remove_range text i j) (pulled i n cursor)
IsCharBoundary-pulled text i j n cursor u le is start end at = grind (arith, common_steps, removed-is_replaced)

-- ---- the blanks at the start of a line's text
front-between : (text : List ℕ) (i j n : ℕ) → n ≤ j - i → take n (slice_range text i j) ≡ slice_range text i (i + n)
front-between text i j n le = take-take n (j - i) (drop i text) le ∙ ap (λ m. take m (drop i text)) (omega arith)

-- what is left of a text without its leading blanks begins between two characters
pub IsCharBoundary-trimmed : (text rest : List ℕ) (n : ℕ) → rest ≡ drop n text → IsUtf8 rest → IsCharBoundary text (length text - length rest)
IsCharBoundary-trimmed text rest n is u = grind (arith, length-drop, ltb-true, IsCharBoundary-end, ltb-false, IsCharBoundary-from_drop)

-- the blanks that go from a line's text `part`, where `rest` follows its blanks, and `gone` is the greatest boundary within `least`
pub blanks-len : (n least gone : ℕ) (part rest : List ℕ) → rest ≡ trim_start part → least ≡ min n (length part - length rest) → gone ≤ least → IsCharBoundary part gone
    → ((k : ℕ) → gone < k → k ≤ least → ¬ (IsCharBoundary part k)) → gone ≡ length (blanks n part)
blanks-len n least gone part rest rest_is least_is le at last =
    let found : greatest_boundary part (min n (length part - length (trim_start part))) ≡ gone =
    ap (λ (r : List ℕ). greatest_boundary part (min n (length part - length r))) (sym rest_is) ∙ ap (greatest_boundary part) (sym least_is) ∙ greatest_boundary-is part least gone le at last in
    sym (ap (λ k. length (take k part)) found ∙ length-take-le gone part (omega (arith, at.0)))

take-own : (k : ℕ) (l : List ℕ) → take (length (take k l)) l ≡ take k l
take-own zero l = refl
take-own (suc k) [] = refl
take-own (suc k) (x ∷ l) = ap (λ t. x ∷ t) (take-own k l)

-- the plan of a dedent, where `part` is the text of the line at i
pub line_plan-dedent : (text : List ℕ) (i n gone cursor place : ℕ) (part : List ℕ) → part ≡ slice_range text i (i + length part) → gone ≡ length (blanks n part) → place ≡ pulled i gone cursor
    → line_plan true n part i cursor ≡ single (Delete i (slice_range text i (i + gone)) Forward) place (i + length part - gone)
line_plan-dedent text i n gone cursor place part part_is gone_is place_is =
    let first = greatest_boundary part (min n (length part - length (trim_start part))) in
    let short : gone ≤ i + length part - i = omega (arith, length-take first part) in
    let is : blanks n part ≡ slice_range text i (i + gone) =
    sym (take-own first part) ∙ ap (λ k. take k part) (sym gone_is) ∙ ap (take gone) part_is ∙ front-between text i (i + length part) gone short in
    ap₂ (λ (s : List ℕ) (k : ℕ). single (Delete i s Forward) (pulled i k cursor) (i + length part - k)) is (sym gone_is)
    ∙ ap (λ (at : ℕ). single (Delete i (slice_range text i (i + gone)) Forward) at (i + length part - gone)) (sym place_is)

-- ---- what a shift of a line leaves: as many newlines, and after k what stood after q
record KeepsAfter (old new : List ℕ) (q k : ℕ) : Type 0 where
  count : last_line new ≡ last_line old
  rest : drop k new ≡ drop q old
  within : k ≤ length new

newlines-spaces : (n : ℕ) → last_line (spaces n) ≡ 0
newlines-spaces zero = refl
newlines-spaces (suc n) = newlines-append (32 ∷ []) (spaces n) ∙ (omega (arith, newlines-spaces n))

-- a range without newlines gave way to a part without any
KeepsAfter-replaced : (text part : List ℕ) (i j q k : ℕ) → i ≤ j → j ≤ q → q ≤ length text → last_line (slice_range text i j) ≡ 0 → last_line part ≡ 0 → k ≡ i + length part + (q - j)
    → KeepsAfter text (replace_range text i j part) q k
KeepsAfter-replaced text part i j q k order le inside none clean e = grind (arith, common_steps, newlines-replaced, drop-after)

KeepsAfter-InsertStr : (text after : List ℕ) (i n q : ℕ) → i ≤ q → q ≤ length text → apply (InsertStr i (spaces n)) text ≡ Some after → KeepsAfter text after q (q + n)
KeepsAfter-InsertStr text after i n q le inside h =
    let s = spaces n in
    let is : insert_slice text i s ≡ after = same_Some _ _ (sym (Inserts-from_IsSome text i s (ap is_some h)).makes ∙ h) in
    let empty : i - i ≡ 0 = omega arith in
    subst (λ t. KeepsAfter text t q (q + n)) is
    (KeepsAfter-replaced text s i i q (q + n) (omega arith) le inside (ap (λ k. last_line (take k (drop i text))) empty) (newlines-spaces n) (omega (arith, length-spaces n)))

KeepsAfter-Delete : (text after : List ℕ) (i q : ℕ) (s : List ℕ) (side : Direction) → i + length s ≤ q → q ≤ length text → last_line s ≡ 0 → apply (Delete i s side) text ≡ Some after
    → KeepsAfter text after q (q - length s)
KeepsAfter-Delete text after i q s side le inside none h =
    let d = Deletes-from_IsSome text i s side (ap is_some h) in
    let j = i + length s in
    let is : remove_range text i j ≡ after = same_Some _ _ (sym d.makes ∙ h) in
    subst (λ t. KeepsAfter text t q (q - length s)) (sym (removed-is_replaced text i j) ∙ is)
    (KeepsAfter-replaced text [] i j q (q - length s) (omega arith) le inside (ap last_line d.stands.bytes ∙ none) refl (omega arith))

KeepsAfter-put : (ps : List ℕ) (i q cursor : ℕ) (old new : Line) → i ≤ q → q ≤ length old.text → after (put_spaces ps i cursor) old ≡ Some new → KeepsAfter old.text new.text q (q + sum ps)
KeepsAfter-put [] i q cursor old new le inside h =
    let is : old.text ≡ new.text = ap (λ (l : Line). l.text) (same_Some _ _ h) in
    let none : q + 0 ≡ q = omega arith in
    record { count = ap last_line (sym is); rest = ap₂ drop none (sym is); within = omega (arith, ap length is) }
KeepsAfter-put (n ∷ more) i q cursor old new le inside h =
    let at = pushed i n cursor in
    let b = first_step (InsertStr i (spaces n), at) (put_spaces more i at) old new h in
    let one : KeepsAfter old.text b.text q (q + n) = KeepsAfter-InsertStr old.text b.text i n q le inside b.makes in
    let others : KeepsAfter b.text new.text (q + n) (q + n + sum more) = KeepsAfter-put more i (q + n) at (stepped old b.text at) new (omega arith) one.within b.rest in
    let all : q + sum (n ∷ more) ≡ q + n + sum more = omega (arith, sum_by-cons (λ x. x) n more) in
    record {
      count = others.count ∙ one.count;
      rest = ap (λ k. drop k new.text) all ∙ others.rest ∙ one.rest;
      within = omega (arith, all, others.within);
    }

pub sum-parts : (n : ℕ) → sum (parts n) ≡ n
sum-parts n = sum_by-append (λ x. x) (repeat (n / 32) (32 ∷ [])) _ ∙ (omega (arith, full (n / 32), rest (eqb (n % 32) 0) refl))
  where
    full : (q : ℕ) → sum (repeat q (32 ∷ [])) ≡ 32 * q
    full zero = refl
    full (suc q) = sum_by-cons (λ x. x) 32 (repeat q (32 ∷ [])) ∙ (omega (arith, full q))

    rest : (b : Bool) → eqb (n % 32) 0 ≡ b → sum (if b then [] else n % 32 ∷ []) ≡ n % 32
    rest true e = sym (eqb-true (n % 32) 0 e)
    rest false e = omega arith

-- the plan's answer is the place where the line's text ends then
KeepsAfter-line_plan : (dedent : Bool) (n : ℕ) (part : List ℕ) (i q cursor : ℕ) (old new : Line) → q ≡ i + length part → q ≤ length old.text → last_line part ≡ 0
    → after (line_plan dedent n part i cursor).steps old ≡ Some new → KeepsAfter old.text new.text q (line_plan dedent n part i cursor).answer
KeepsAfter-line_plan false n part i q cursor old new is inside none h =
    let answer : q + sum (parts n) ≡ i + length part + n = omega (arith, sum-parts n) in
    subst (KeepsAfter old.text new.text q) answer (KeepsAfter-put (parts n) i q cursor old new (omega arith) inside h)
KeepsAfter-line_plan true n part i q cursor old new is inside none h =
    let most = greatest_boundary part (min n (length part - length (trim_start part))) in
    let gone = blanks n part in
    let b = first_step (Delete i gone Forward, pulled i (length gone) cursor) [] old new h in
    let text : b.text ≡ new.text = ap (λ (l : Line). l.text) (same_Some _ _ b.rest) in
    let short : length gone ≤ length part = omega (arith, length-append (take most part) (drop most part), ap length (take-append-drop most part)) in
    let blank : last_line gone ≡ 0 = omega (arith, newlines-append (take most part) (drop most part), ap last_line (take-append-drop most part)) in
    subst (KeepsAfter old.text new.text q) (omega arith) (subst (λ t. KeepsAfter old.text t q (q - length gone)) text (KeepsAfter-Delete old.text b.text i q gone Forward (omega arith) inside blank b.makes))

-- ---- from line to line
-- the lines before line k are done: those that are left are as they were, from where line k begins now
pub record LinesDone {L : Type 0} (step : L → Event → L) (dedent : Bool) (n : ℕ) (plan : Plan Bool) (old now : Line) (before here : L) (k end : ℕ) : Type 0 where
  pub done : List Step
  pub taken : Taken step done old now before here
  pub left : plan ≡ after_steps done (lines_plan dedent n (slice_range (lines old.text) k end) (start_of_line now.text k) now.cursor)
  pub rest : drop k (lines now.text) ≡ drop k (lines old.text)
  pub count : last_line now.text ≡ last_line old.text

-- a text whose line k ends at `stop`, and in which the later lines are those of another
record EndsLine (text other : List ℕ) (k stop : ℕ) : Type 0 where
  start : start_of_line text (k + 1) ≡ stop + 1
  rest : drop (k + 1) (lines text) ≡ drop (k + 1) (lines other)

ends_line : (old new : List ℕ) (k stop : ℕ) → k < length (lines old) → KeepsAfter old new (end_of_line old k) stop → EndsLine new old k stop
ends_line old new k stop l kept =
    let e = end_of_line old k in
    let at = lies old k l in
    let some = lines_some (drop e old) in
    let number : line_number new stop ≡ k = omega (arith, count-parts new stop, count-parts old e, at.number_stop, ap last_line kept.rest, kept.count) in
    let none : length some.0 ≡ 0 = omega (arith, end-from old e some.0 some.1 at.within some.2, ap (end_of_line old) at.number_stop) in
    let end : end_of_line new k ≡ stop = ap (end_of_line new) (sym number) ∙ end-from new stop some.0 some.1 kept.within (ap lines kept.rest ∙ some.2) ∙ (omega (arith, none)) in
    record {
      start = omega (arith, end, start-next new k (omega (arith, count_of_lines new, count_of_lines old, kept.count, l)));
      rest = ap (λ j. drop (j + 1) (lines new)) (sym number) ∙ lines-after new stop ∙ ap (λ t. drop 1 (lines t)) kept.rest ∙ sym (lines-after old e) ∙ ap (λ j. drop (j + 1) (lines old)) at.number_stop;
    }

module _ {L : Type 0} (step : L → Event → L) (dedent : Bool) (n : ℕ) where
  module _ (plan : Plan Bool) (old now : Line) (before here : L) (k end : ℕ) (h : LinesDone step dedent n plan old now before here k end) where
    module _ (start : ℕ) (part : List ℕ) (start_is : start ≡ start_of_line now.text k) (part_is : part ≡ text_of_line now.text k) (more : k < end) (small : k < length (lines now.text)) where
      abbrev one : Plan ℕ
      one = line_plan dedent n part start now.cursor

      -- what is left, by the next line
      next : plan ≡ after_steps h.done (lines_plan dedent n (part ∷ slice_range (lines old.text) (k + 1) end) start now.cursor)
      next =
          let all = lines old.text in
          let step_on : suc k ≡ k + 1 = omega arith in
          let later : drop (k + 1) (lines now.text) ≡ drop (k + 1) all = sym (drop-drop 1 k (lines now.text)) ∙ ap (drop 1) h.rest ∙ drop-drop 1 k all in
          let from : drop k all ≡ part ∷ drop (k + 1) all =
          sym h.rest ∙ drop-cons (lines now.text) k [] small ∙ ap (λ j. text_of_line now.text k ∷ drop j (lines now.text)) step_on ∙ ap₂ (λ t ls. t ∷ ls) (sym part_is) later in
          let count : end - k ≡ suc (end - (k + 1)) = omega arith in
          h.left ∙ ap₂ (λ ls i. after_steps h.done (lines_plan dedent n ls i now.cursor)) (ap₂ (λ m ls. take m ls) count from) (sym start_is)

      pub LinesDone-halted : (refused : L → Event → Refusal → L → Type 0) (new : Line) (there : L) (r : Refusal)
          → Halted step refused one now new here there r → Halted step refused plan old new before there r
      LinesDone-halted refused new there r halted =
          let others = lines_plan dedent n (slice_range (lines old.text) (k + 1) end) (one.answer + 1) one.cursor in
          Halted-back step refused plan (after_steps one.steps others) h.done old now new before here there r h.taken
          (Halted-front step refused (after_steps one.steps others) one others.steps now new here there r halted refl) (ap (λ (p : Plan Bool). p.steps) next)

      module _ (new : Line) (there : L) (c : Completed step one now new here there) where
        after_it : KeepsAfter now.text new.text (end_of_line now.text k) one.answer
        after_it = KeepsAfter-line_plan dedent n part start (end_of_line now.text k) now.cursor now new (omega (arith, ap length part_is)) (omega (arith, (lies now.text k small).within))
            (ap last_line part_is ∙ newlines-line now.text k small) c.taken.line

        ends : EndsLine new.text now.text k one.answer
        ends = ends_line now.text new.text k one.answer small after_it

        -- where the next line begins
        pub LinesDone-next : one.answer + 1 ≡ start_of_line new.text (k + 1)
        LinesDone-next = sym ends.start

        pub LinesDone-more : LinesDone step dedent n plan old new before there (k + 1) end
        LinesDone-more =
            let later = slice_range (lines old.text) (k + 1) end in
            let others = lines_plan dedent n later (one.answer + 1) one.cursor in
            record {
              done = h.done ++ one.steps;
              taken = Taken-append step h.done one.steps old now new before here there h.taken c.taken;
              left = next ∙ ap (λ ss. record others { steps = ss }) (sym (append_assoc h.done one.steps others.steps))
                  ∙ ap₂ (λ i cursor. after_steps (h.done ++ one.steps) (lines_plan dedent n later i cursor)) LinesDone-next (sym c.cursor);
              rest = ends.rest ∙ sym (drop-drop 1 k (lines now.text)) ∙ ap (drop 1) h.rest ∙ drop-drop 1 k (lines old.text);
              count = after_it.count ∙ h.count;
            }

-- ---- how many bytes go in or out
bytes_of-put : (ps : List ℕ) (i cursor : ℕ) (rest : List Step) → bytes_of (put_spaces ps i cursor ++ rest) ≡ sum ps + bytes_of rest
bytes_of-put [] i cursor rest = omega arith
bytes_of-put (p ∷ ps) i cursor rest = omega (arith, length-spaces p, sum_by-cons (λ x. x) p ps, bytes_of-put ps i (pushed i p cursor) rest)

bytes-indent : (n : ℕ) (texts : List (List ℕ)) (i cursor : ℕ) → bytes_of (lines_plan false n texts i cursor).steps ≡ n * length texts
bytes-indent n [] i cursor = omega arith
bytes-indent n (t ∷ ts) i cursor =
    let rest = lines_plan false n ts (i + length t + n + 1) (pushed i n cursor) in
    bytes_of-put (parts n) i cursor rest.steps ∙ ap (λ m. m + bytes_of rest.steps) (sum-parts n) ∙ ap (λ m. n + m) (bytes-indent n ts (i + length t + n + 1) (pushed i n cursor)) ∙ omega arith

-- those of the blanks that go from lines
pub blanks_of : ℕ → List (List ℕ) → ℕ
blanks_of n [] = 0
blanks_of n (t ∷ ts) = length (blanks n t) + blanks_of n ts

bytes-dedent : (n : ℕ) (texts : List (List ℕ)) (i cursor : ℕ) → bytes_of (lines_plan true n texts i cursor).steps ≡ blanks_of n texts
unfolding blanks_of
bytes-dedent n [] i cursor = refl
bytes-dedent n (t ∷ ts) i cursor =
    let one = line_plan true n t i cursor in ap (λ m. length (blanks n t) + m) (bytes-dedent n ts (one.answer + 1) one.cursor)

-- a later place lies in no earlier line
line_number-up : (text : List ℕ) (p q : ℕ) → p ≤ q → line_number text p ≤ line_number text q
line_number-up text p q le = omega (arith, count-parts (take q text) p, ap last_line (take-take p q text le))

pub indents-change : (line : Line) (m : Movement) (n : ℕ) → indent_changes line m n false ≡ nat_lt 0 n
indents-change line m n =
    let r = indented line m in
    let from = first_line line.text r in
    let to = final_line line.text r + 1 in
    let order = line_number-up line.text r.start (max r.start (r.end - 1)) (omega arith) in
    let within = count-parts line.text (max r.start (r.end - 1)) in
    let count : length (slice_range (lines line.text) from to) ≡ to - from =
    length-between (lines line.text) from to (omega (arith, within, count_of_lines line.text)) in
    let some : 0 < to - from = omega (arith, order) in
    ap (nat_lt 0) (bytes-indent n (slice_range (lines line.text) from to) (start_of_line line.text from) line.cursor ∙ ap (λ k. n * k) count) ∙ many n (to - from) some
  where
    many : (n k : ℕ) → 0 < k → nat_lt 0 (n * k) ≡ nat_lt 0 n
    many zero k some = let none : 0 * k ≡ 0 = omega arith in ap (nat_lt 0) none
    many (suc n) zero some = absurd (omega arith)
    many (suc n) (suc k) some = let more : suc n * suc k ≡ suc (n + k + n * k) = omega arith in lt-ltb 0 (suc n * suc k) (omega (arith, more)) ∙ sym (lt-ltb 0 (suc n) (omega arith))

pub dedents-change : (line : Line) (m : Movement) (n : ℕ) (ks : Range ℕ) → ks ≡ indented_lines line m
    → indent_changes line m n true ≡ nat_lt 0 (blanks_of n (slice_range (lines line.text) ks.start ks.end))
dedents-change line m n ks e =
    let all = indented_lines line m in
    ap (nat_lt 0) (bytes-dedent n (slice_range (lines line.text) all.start all.end) (start_of_line line.text all.start) line.cursor
    ∙ ap (λ (r : Range ℕ). blanks_of n (slice_range (lines line.text) r.start r.end)) (sym e))

-- the first of the lines that are left
pub blanks_of-next : (text : List ℕ) (n k end : ℕ) (part : List ℕ) → k < end → k < length (lines text) → part ≡ text_of_line text k
    → blanks_of n (slice_range (lines text) k end) ≡ length (blanks n part) + blanks_of n (slice_range (lines text) (k + 1) end)
unfolding blanks_of
blanks_of-next text n k end part le small is =
    let all = lines text in
    let one : suc k ≡ k + 1 = omega arith in
    let count : end - k ≡ suc (end - (k + 1)) = omega arith in
    ap₂ (λ m ls. blanks_of n (take m ls)) count (drop-cons all k [] small ∙ ap (λ j. text_of_line text k ∷ drop j all) one)
    ∙ ap (λ t. length (blanks n t) + blanks_of n (slice_range all (k + 1) end)) (sym is)

pub blanks_of-none : (text : List ℕ) (n k end : ℕ) → end ≤ k → blanks_of n (slice_range (lines text) k end) ≡ 0
unfolding blanks_of
blanks_of-none text n k end past =
    let none : end - k ≡ 0 = omega arith in ap (λ m. blanks_of n (take m (drop k (lines text)))) none

-- ---- room for what goes in
pub one-more : (a k end : ℕ) → k < end → a * (end - k) ≡ a + a * (end - (k + 1))
one-more a k end more =
    let count : end - k ≡ suc (end - (k + 1)) = omega arith in
    ap (λ m. a * m) count ∙ times (end - (k + 1))
  where
    times : (m : ℕ) → a * suc m ≡ a + a * m
    times m = omega arith

-- without memory the first step of an indent fails
pub Halted-no_memory : {L : Type 0} (step : L → Event → L) (refused : L → Event → Refusal → L → Type 0) (dedent : Bool) (n : ℕ) (texts : List (List ℕ)) (i : ℕ) (old new : Line) (before : L) (r : Refusal)
    → 0 < spaces_each dedent n → 0 < length texts → r ≡ NoMemory → new ≡ old → Halted step (or_no_memory refused) (lines_plan dedent n texts i old.cursor) old new before before r
Halted-no_memory step refused true n texts i old new before r some lines is same = absurd (omega (arith, some))
Halted-no_memory step refused false n [] i old new before r some lines is same = absurd (omega (arith, lines))
Halted-no_memory step refused false n (t ∷ ts) i old new before r some lines is same =
    let part = spaces (min n 32) in
    let at = pushed i (length part) old.cursor in
    let later = lines_plan false n ts (i + length t + n + 1) (pushed i n old.cursor) in
    let next = put_spaces-next n i old.cursor at part some refl refl in
    Halted-at_first step (or_no_memory refused) (lines_plan false n (t ∷ ts) i old.cursor) (InsertStr i part, at) (put_spaces (parts (n - length part)) i at ++ later.steps) old new before before r
    (ap (λ ss. ss ++ later.steps) next) same (inl (is, refl, omega (arith, length-spaces (min n 32))))

pub ruleset parts_of_lines = (IsCharBoundary-from_part, IsCharBoundary-pulled, IsCharBoundary-trimmed, count_of_lines, text-between, trim_start-blanks)
