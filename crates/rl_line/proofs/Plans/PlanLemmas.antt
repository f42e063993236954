-- How the steps of a plan are put together.
use Rattle.rl_line.proofs.Common.{Completed, Done, Err, Event, Halted, IsCharBoundary, Line, List, Ok, Outcome, Plan, Refusal, Result, Some, Step, StepOutcome, Taken, Takes, Uncopied, [], a_copy, after, after_step, ap, append-nil, append_assoc, apply, events_of, followed_by, if_standing, inl, inr, is_boundary, listener_after, listener_after_step, nothing, nothing_more, option_and_then, or_no_memory, refl, replay, room_by_step, single, stepped, subst, sym, ℕ, ◌++◌, ◌<◌, ◌∙◌, ◌∷◌, ◌≡◌, ◌⊎◌}
use Rattle.rl_base.proofs.Texts.TextLemmas.{is_boundary-means, is_boundary-true}
use Rattle.rl_line.proofs.Changes.InverseLemmas.{if_some, through}
use Rattle.rl_line.specs.Plan.{bytes_of}

-- a line that stands is what the test lets through
pub standing-is : (line now : Line) → if_standing line ≡ Some now → line ≡ now
standing-is line now h = (if_some (is_boundary line.text line.cursor) line now h).1

pub standing : (line : Line) → IsCharBoundary line.text line.cursor → if_standing line ≡ Some line
standing line h = rw (is_boundary-true line.text line.cursor h) refl

-- a step that fits
pub record Fits (event : Event) (cursor : ℕ) (old now : Line) : Type 0 where
  pub text : List ℕ
  pub makes : apply event old.text ≡ Some text
  pub is : now ≡ stepped old text cursor
  pub stands : IsCharBoundary text cursor

pub Fits-from : (event : Event) (cursor : ℕ) (old now : Line) → after_step event cursor old ≡ Some now → Fits event cursor old now
Fits-from event cursor old now h =
    let p = through (λ text. if_standing (stepped old text cursor)) (apply event old.text) now h in
    let q = if_some (is_boundary p.0 cursor) (stepped old p.0 cursor) now p.2 in
    record { text = p.0; makes = p.1; is = sym q.1; stands = is_boundary-means p.0 cursor q.0 }

pub after_step-is : (event : Event) (cursor : ℕ) (old : Line) (text : List ℕ) → apply event old.text ≡ Some text → IsCharBoundary text cursor
    → after_step event cursor old ≡ Some (stepped old text cursor)
after_step-is event cursor old text fits at = ap (option_and_then (λ t. if_standing (stepped old t cursor))) fits ∙ standing (stepped old text cursor) at

-- the first of steps that were taken, and what the others made of what it left
pub record Begins (s : Step) (ss : List Step) (old new : Line) : Type 0 where
  pub text : List ℕ
  pub makes : apply s.0 old.text ≡ Some text
  pub stands : IsCharBoundary text s.1
  pub rest : after ss (stepped old text s.1) ≡ Some new

pub first_step : (s : Step) (ss : List Step) (old new : Line) → after (s ∷ ss) old ≡ Some new → Begins s ss old new
first_step s ss old new h =
    let p = through (after ss) (after_step s.0 s.1 old) new h in
    let f = Fits-from s.0 s.1 old p.0 p.1 in
    record { text = f.text; makes = f.makes; stands = f.stands; rest = ap (after ss) (sym f.is) ∙ p.2 }

after-first : (s : Step) (ss : List Step) (old : Line) (text : List ℕ) → apply s.0 old.text ≡ Some text → IsCharBoundary text s.1 → after (s ∷ ss) old ≡ after ss (stepped old text s.1)
after-first s ss old text fits at = ap (option_and_then (after ss)) (after_step-is s.0 s.1 old text fits at)

after-append : (xs ys : List Step) (old mid : Line) → after xs old ≡ Some mid → after (xs ++ ys) old ≡ after ys mid
after-append [] ys old mid e = ap (option_and_then (after ys)) e
after-append (x ∷ xs) ys old mid e =
    let b = first_step x xs old mid e in after-first x (xs ++ ys) old b.text b.makes b.stands ∙ after-append xs ys (stepped old b.text x.1) mid b.rest

-- the events of the steps that lead a line to a text lead its old text there
pub after-replay : (ss : List Step) (old new : Line) → after ss old ≡ Some new → replay (events_of ss) old.text ≡ Some new.text
after-replay [] old new h = let e : old ≡ new = cc in ap (λ (l : Line). Some l.text) e
after-replay (s ∷ ss) old new h =
    let b = first_step s ss old new h in
    ap (option_and_then (replay (events_of ss))) b.makes ∙ after-replay ss (stepped old b.text s.1) new b.rest

module _ {L : Type 0} (step : L → Event → L) where
  listener_after-append : (xs ys : List Step) (old mid : Line) (l : L) → after xs old ≡ Some mid
      → listener_after step old.cursor (xs ++ ys) l ≡ listener_after step mid.cursor ys (listener_after step old.cursor xs l)
  listener_after-append [] ys old mid l e = let same : old ≡ mid = cc in ap (λ (k : Line). listener_after step k.cursor ys l) same
  listener_after-append (x ∷ xs) ys old mid l e =
      let b = first_step x xs old mid e in listener_after-append xs ys (stepped old b.text x.1) mid (listener_after_step step old.cursor x l) b.rest

  pub Taken-nil : (line : Line) (b : L) → Taken step [] line line b b
  Taken-nil line b = record { line = refl; listener = refl }

  pub Taken-one : (s : Step) (text : List ℕ) (old new : Line) (b n : L) → apply s.0 old.text ≡ Some text → IsCharBoundary text s.1 → new ≡ stepped old text s.1
      → n ≡ listener_after_step step old.cursor s b → Taken step (s ∷ []) old new b n
  Taken-one s text old new b n fits at e f = record { line = after-first s [] old text fits at ∙ ap Some (sym e); listener = f }

  pub Taken-append : (xs ys : List Step) (old mid new : Line) (b m n : L) → Taken step xs old mid b m → Taken step ys mid new m n
      → Taken step (xs ++ ys) old new b n
  Taken-append xs ys old mid new b m n s t = record {
    line = after-append xs ys old mid s.line ∙ t.line;
    listener = t.listener ∙ ap (listener_after step mid.cursor ys) s.listener ∙ sym (listener_after-append xs ys old mid b s.line);
  }

  pub Completed-single : {A : Type 0} (plan : Plan A) (event : Event) (cursor : ℕ) (old new : Line) (b n : L) (a : A)
      → Taken step ((event, cursor) ∷ []) old new b n → new.cursor ≡ cursor → plan ≡ single event cursor a → Completed step plan old new b n
  Completed-single plan event cursor old new b n a t at e = record { taken = rw e t; cursor = rw e at }

  pub Done-nothing : {A : Type 0} (plan : Plan A) (line : Line) (b : L) (a : A) → plan ≡ nothing line a → Done step plan line line b b a
  Done-nothing plan line b a e = record {
    last = line;
    taken = rw e (Taken-nil line b);
    line = rw e refl;
    answered = rw e refl;
  }

  pub Done-single : {A : Type 0} (plan : Plan A) (event : Event) (cursor : ℕ) (old new : Line) (b n : L) (a : A)
      → Taken step ((event, cursor) ∷ []) old new b n → new.cursor ≡ cursor → plan ≡ single event cursor a → Done step plan old new b n a
  Done-single plan event cursor old new b n a t at e = record {
    last = new;
    taken = rw e t;
    line = rw e (ap (λ k. record new { cursor = k }) at);
    answered = rw e refl;
  }

  -- all steps of a plan
  pub Done-steps : {A : Type 0} (plan : Plan A) (steps : List Step) (old new : Line) (b n : L) → Taken step steps old new b n → plan.steps ≡ steps → new.cursor ≡ plan.cursor
      → Done step plan old new b n plan.answer
  Done-steps plan steps old new b n t e at =
      record { last = new; taken = subst (λ ss. Taken step ss old new b n) (sym e) t; line = ap (λ k. record new { cursor = k }) at; answered = refl }

  pub Done-as : {A : Type 0} (plan other : Plan A) (old new : Line) (b n : L) (a : A) → Done step other old new b n a → plan ≡ other → Done step plan old new b n a
  Done-as plan other old new b n a d e = subst (λ q. Done step q old new b n a) (sym e) d

  -- no step, but the cursor moved
  pub Done-moved : {A : Type 0} (plan : Plan A) (line new : Line) (b : L) (cursor : ℕ) (a : A) → new ≡ record line { cursor = cursor } → plan ≡ record { steps = []; cursor = cursor; answer = a }
      → Done step plan line new b b a
  Done-moved plan line new b cursor a moved e = record {
    last = line;
    taken = rw e (Taken-nil line b);
    line = rw e moved;
    answered = rw e refl;
  }

  -- a step, and then all of a plan
  pub Done-followed : {A : Type 0} (whole plan : Plan A) (event : Event) (cursor : ℕ) (old mid new : Line) (b m n : L) (a : A)
      → Taken step ((event, cursor) ∷ []) old mid b m → Done step plan mid new m n a → whole ≡ followed_by event cursor plan → Done step whole old new b n a
  Done-followed whole plan event cursor old mid new b m n a t d e = subst (λ p. Done step p old new b n a) (sym e) (record {
    last = d.last;
    taken = Taken-append ((event, cursor) ∷ []) plan.steps old mid d.last b m n t d.taken;
    line = d.line;
    answered = d.answered;
  })

  module _ (refused : L → Event → Refusal → L → Type 0) where
    -- the first step was refused
    pub Halted-at_first : {A : Type 0} (plan : Plan A) (s : Step) (others : List Step) (old new : Line) (b n : L) (r : Refusal)
        → plan.steps ≡ s ∷ others → new ≡ old → refused b s.0 r n → Halted step refused plan old new b n r
    Halted-at_first plan s others old new b n r e same cause = record {
      first = [];
      next = s;
      others = others;
      split = e;
      middle = b;
      taken = record { line = ap Some (sym same); listener = refl };
      cause = cause;
    }

    -- steps were taken, and the next was refused
    pub Halted-after : {A : Type 0} (plan : Plan A) (first others : List Step) (s : Step) (old mid new : Line) (b m n : L) (r : Refusal)
        → refused m s.0 r n → new ≡ mid → Taken step first old mid b m → plan.steps ≡ first ++ s ∷ others → Halted step refused plan old new b n r
    Halted-after plan first others s old mid new b m n r cause same t e = record {
      first = first;
      next = s;
      others = others;
      split = e;
      middle = m;
      taken = subst (λ l. Taken step first old l b m) (sym same) t;
      cause = cause;
    }

    pub Halted-single : {A : Type 0} (plan : Plan A) (event : Event) (cursor : ℕ) (old new : Line) (b n : L) (a : A) (r : Refusal)
        → refused b event r n → new ≡ old → plan ≡ single event cursor a → Halted step refused plan old new b n r
    Halted-single plan event cursor old new b n a r cause same e =
        Halted-at_first plan (event, cursor) [] old new b n r (ap (λ (p : Plan _). p.steps) e) same cause

    -- the step before a plan was refused
    pub Halted-before : {A : Type 0} (whole plan : Plan A) (event : Event) (cursor : ℕ) (old new : Line) (b n : L) (r : Refusal)
        → refused b event r n → new ≡ old → whole ≡ followed_by event cursor plan → Halted step refused whole old new b n r
    Halted-before whole plan event cursor old new b n r cause same e =
        Halted-at_first whole (event, cursor) plan.steps old new b n r (ap (λ (p : Plan _). p.steps) e) same cause

    -- a step, and then some of a plan
    pub Halted-followed : {A : Type 0} (whole plan : Plan A) (event : Event) (cursor : ℕ) (old mid new : Line) (b m n : L) (r : Refusal)
        → Taken step ((event, cursor) ∷ []) old mid b m → Halted step refused plan mid new m n r → whole ≡ followed_by event cursor plan
        → Halted step refused whole old new b n r
    Halted-followed whole plan event cursor old mid new b m n r t h e = record {
      first = (event, cursor) ∷ h.first;
      next = h.next;
      others = h.others;
      split = ap (λ (p : Plan _). p.steps) e ∙ ap (λ ss. (event, cursor) ∷ ss) h.split;
      middle = h.middle;
      taken = Taken-append ((event, cursor) ∷ []) h.first old mid new b m h.middle t h.taken;
      cause = h.cause;
    }

    -- some of the first steps were taken, which are those of a plan
    pub Halted-front : {A B : Type 0} (whole : Plan A) (plan : Plan B) (more : List Step) (old new : Line) (b n : L) (r : Refusal)
        → Halted step refused plan old new b n r → whole.steps ≡ plan.steps ++ more → Halted step refused whole old new b n r
    Halted-front whole plan more old new b n r h e = record {
      first = h.first;
      next = h.next;
      others = h.others ++ more;
      split = e ∙ ap (λ ss. ss ++ more) h.split ∙ append_assoc h.first (h.next ∷ h.others) more;
      middle = h.middle;
      taken = h.taken;
      cause = h.cause;
    }

    -- some steps, and then some of a plan
    pub Halted-back : {A B : Type 0} (whole : Plan A) (plan : Plan B) (first : List Step) (old mid new : Line) (b m n : L) (r : Refusal)
        → Taken step first old mid b m → Halted step refused plan mid new m n r → whole.steps ≡ first ++ plan.steps → Halted step refused whole old new b n r
    Halted-back whole plan first old mid new b m n r t h e = record {
      first = first ++ h.first;
      next = h.next;
      others = h.others;
      split = e ∙ ap (λ ss. first ++ ss) h.split ∙ sym (append_assoc first h.first (h.next ∷ h.others));
      middle = h.middle;
      taken = Taken-append first h.first old mid new b m h.middle t h.taken;
      cause = h.cause;
    }

  -- the same halt, with another cause
  pub Halted-caused : {A : Type 0} (refused refused' : L → Event → Refusal → L → Type 0) (plan : Plan A) (old new : Line) (b n : L) (r r' : Refusal)
      → (h : Halted step refused plan old new b n r) → refused' h.middle h.next.0 r' n → Halted step refused' plan old new b n r'
  Halted-caused refused refused' plan old new b n r r' h cause = record {
    first = h.first;
    next = h.next;
    others = h.others;
    split = h.split;
    middle = h.middle;
    taken = h.taken;
    cause = cause;
  }

  -- a step for which there was room, as one that looks for it
  pub StepOutcome-with_room : {B : Type 0} (refused : L → Event → Refusal → L → Type 0) (s : Step) (old new : Line) (b n : L) (result : Result B Refusal)
      → StepOutcome step refused nothing_more s old new b n result → StepOutcome step refused room_by_step s old new b n result
  StepOutcome-with_room refused s old new b n (Ok a) d = d
  StepOutcome-with_room refused s old new b n (Err r) u = record { kept = u.kept; cause = inr u.cause }

  -- an edit of one step, with its answer
  pub Outcome-single : (refused : L → Event → Refusal → L → Type 0) (takes : Takes) (plan : Plan (Unit {0})) (s : Step) (old new : Line) (b n : L) (result : Result (Unit {0}) Refusal)
      → plan ≡ single s.0 s.1 tt → StepOutcome step refused takes s old new b n result → Outcome step refused takes plan old new b n result
  Outcome-single refused takes plan s old new b n (Ok a) e d = Done-single plan s.0 s.1 old new b n tt d.taken d.cursor e
  Outcome-single refused nothing_more plan s old new b n (Err r) e u = Halted-single refused plan s.0 s.1 old new b n tt r u.cause u.kept e
  Outcome-single refused room_by_step plan s old new b n (Err r) e u = Halted-single (or_no_memory refused) plan s.0 s.1 old new b n tt r u.cause u.kept e
  Outcome-single refused a_copy plan s old new b n (Err r) e u = inl (Halted-single refused plan s.0 s.1 old new b n tt r u.cause u.kept e)

  -- a step, and then what a plan comes to
  pub Outcome-followed : {A : Type 0} (refused : L → Event → Refusal → L → Type 0) (whole plan : Plan A) (s : Step) (old mid new : Line) (b m n : L) (result : Result A Refusal)
      → Taken step (s ∷ []) old mid b m → whole ≡ followed_by s.0 s.1 plan → Outcome step refused room_by_step plan mid new m n result → Outcome step refused room_by_step whole old new b n result
  Outcome-followed refused whole plan s old mid new b m n (Ok a) t e d = Done-followed whole plan s.0 s.1 old mid new b m n a t d e
  Outcome-followed refused whole plan s old mid new b m n (Err r) t e h = Halted-followed (or_no_memory refused) whole plan s.0 s.1 old mid new b m n r t h e

  -- an edit that was halted, or not begun, as another with the same steps
  pub Stopped-as : {A B : Type 0} (refused : L → Event → Refusal → L → Type 0) (plan : Plan A) (other : Plan B) (old new : Line) (b n : L) (r : Refusal) → plan.steps ≡ other.steps
      → Halted step refused other old new b n r ⊎ Uncopied other old new b n r → Halted step refused plan old new b n r ⊎ Uncopied plan old new b n r
  Stopped-as refused plan other old new b n r e (inl h) = inl (Halted-front refused plan other [] old new b n r h (e ∙ sym (append-nil other.steps)))
  Stopped-as refused plan other old new b n r e (inr u) = inr (u.0, u.1, u.2, subst (λ ss. 0 < bytes_of ss) (sym e) u.3)

pub ruleset steps_taken = (Halted-after, Halted-at_first, Taken-append, after-replay)
