-- An edit that adds one entry: its cursors are where the cursor was before the edit, and where its last step left it.
use Rattle.rl_session.proofs.Common.{◌≡◌, ℕ, ◌+◌, ◌<◌, ◌≤◌, ◌⊎◌, inl, inr, List, [], ◌∷◌, ◌++◌, length, length-append, append-nil, Option, Some, None, refl, sym, ap, subst, ◌∙◌, arith, same_Some, length-encode, len_utf8_bounds, option_map_or, encode_utf8, IsUtf8, Direction, Event, InsertChar, InsertStr, Replace, Start, Stop, Cursors, apply, Freshness, Line, stepped, listener_after, listener_after_step, Insertion, Deletion, Replacement, Swap, Entry, Begin, End, Changed, Record, cursors_of, entries_after, entries_of, entries_told, event_of, freshness_added, freshness_joined, freshness_of, last_told, unwind, with_cursors}
use Rattle.rl_base.specs.Event.{Delete}
use Rattle.rl_base.proofs.Texts.SwapLemmas.{apply-IsUtf8}
use Rattle.rl_record.specs.declared.joining.Freshness.TheVariants as is
use Rattle.rl_line.specs.Plan.{Step, after}
use Rattle.rl_record.specs.Record.{joined, joined_in, record_step}
use Rattle.rl_record.proofs.Records.JoinLemmas.{fresh-Delete-nothing}
use Rattle.rl_line.proofs.Plans.PlanLemmas.{first_step}
use Rattle.rl_line.proofs.Changes.InverseLemmas.{undoes-inverse}
use Rattle.rl_record.proofs.Records.RecordLemmas.{char-joined, deletion-joined, entries_of-undo, joins, none_or_one, redone-joined, replacement-joined}
use Rattle.rl_record.proofs.Records.ToldLemmas.{same-event, told-cases}
use Rattle.rl_record.proofs.Records.LastLemmas.{IsApart, after-cases, ends_in, joined_in-joined, told-added, told-none, told-past}

-- an event of a text, which is the last one where it is a replacement
abbrev pub IsLone : Event → List Step → Type 0
IsLone (InsertChar i c) ss = Unit {0}
IsLone (InsertStr i s) ss = Unit {0}
IsLone (Delete i s side) ss = Unit {0}
IsLone (Replace i s t) ss = ss ≡ []
IsLone Start ss = ⊥
IsLone Stop ss = ⊥
IsLone (Cursors b a) ss = ⊥

-- a step whose event adds no entry leaves the cursor, and a replacement is the last step
abbrev pub Quiet : ℕ → List Step → Type 0
Quiet cursor [] = Unit {0}
Quiet cursor (s ∷ ss) = (entries_of s.0 ≡ [] → s.1 ≡ cursor) × IsLone s.0 ss × Quiet s.1 ss

-- the cursor after the steps
abbrev pub ends_at : ℕ → List Step → ℕ
ends_at cursor [] = cursor
ends_at cursor (s ∷ ss) = ends_at s.1 ss

-- an entry that makes the text of another, and was told both cursors
pub record AddedAlone (e : Entry) (text now : List ℕ) (before after : ℕ) : Type 0 where
  pub cursors : cursors_of e ≡ Some (before, after)
  pub makes : apply (event_of e) text ≡ Some now

-- ---- what a step makes of the entries
-- the entries after an event of a text and the cursors after it
abbrev pub next : Freshness → Event → List Entry → ℕ → ℕ → List Entry
next was event es b a = entries_told (freshness_of was event es) b a (entries_after was event es)

pub recorded-next : (b : ℕ) (event : Event) (a : ℕ) (ss : List Step) (r : Record) → IsLone event ss
    → (listener_after_step record_step b (event, a) r).recorded ≡ next r.fresh event r.recorded b a
unfolding record_step
recorded-next b Start a ss r h = absurd h
recorded-next b Stop a ss r h = absurd h
recorded-next b (Cursors b' a') a ss r h = absurd h
recorded-next b _ a ss r h = refl

-- what becomes of the entries, where the event joins the last one and where it joins none
next-joined : (was : Freshness) (event : Event) (front : List Entry) (l j : Entry) (b a : ℕ) → joined_in was event l ≡ Some j
    → next was event (front ++ l ∷ []) b a ≡ front ++ entries_told (freshness_joined (cursors_of l)) b a (j ∷ [])
next-joined was event front l j b a h =
    let ends = ends_in was event (front ++ l ∷ []) front l (Some j) refl h in
    let fresh = freshness_joined (cursors_of l) in
    ap (λ f. entries_told f b a (entries_after was event (front ++ l ∷ []))) ends.1 ∙ ap (entries_told fresh b a) ends.0 ∙ told-past fresh b a front j []

next-apart : (was : Freshness) (event : Event) (es : List Entry) (b a : ℕ) → IsApart was event es
    → next was event es b a ≡ es ++ entries_told (freshness_added was (entries_of event)) b a (entries_of event)
next-apart was event es b a apart =
    ap (λ f. entries_told f b a (entries_after was event es)) apart.1 ∙ ap (entries_told (freshness_added was (entries_of event)) b a) apart.0
    ∙ told-added was es (entries_of event) b a

-- the last entry that an event joined, and what was made of the entries
record JoinsOne (event : Event) (es made : List Entry) (b a : ℕ) : Type 0 where
  pub front : List Entry
  pub last : Entry
  pub joint : Entry
  pub split : es ≡ front ++ last ∷ []
  pub joins : joined event last ≡ Some joint
  pub makes : made ≡ front ++ entries_told (freshness_joined (cursors_of last)) b a (joint ∷ [])

next-cases : (was : Freshness) (event : Event) (es : List Entry) (b a : ℕ)
    → (next was event es b a ≡ es ++ entries_told (freshness_added was (entries_of event)) b a (entries_of event)) ⊎ JoinsOne event es (next was event es b a) b a
next-cases was event es b a =
    after-cases was event
    (λ xs ys fresh. (entries_told fresh b a ys ≡ xs ++ entries_told (freshness_added was (entries_of event)) b a (entries_of event)) ⊎ JoinsOne event xs (entries_told fresh b a ys) b a)
    (λ xs. inl (told-added was xs (entries_of event) b a))
    (λ front l j h. inr (record { front = front; last = l; joint = j; split = refl; joins = h; makes = told-past (freshness_joined (cursors_of l)) b a front j [] })) es

-- the entries that an event adds, told their cursors
told-no_entry : (was : Freshness) (es : List Entry) (b a : ℕ) → es ≡ [] → entries_told (freshness_added was es) b a es ≡ []
told-no_entry was es b a h = ap (λ (ks : List Entry). entries_told (freshness_added was ks) b a ks) h ∙ told-none was b a []

told-one : (was : Freshness) (es : List Entry) (k : Entry) (b a : ℕ) → es ≡ k ∷ [] → entries_told (freshness_added was es) b a es ≡ with_cursors (b, a) k ∷ []
told-one was es k b a h = ap (λ (ks : List Entry). entries_told (freshness_added was ks) b a ks) h

-- ---- entries grow
-- the length of what an entry puts in and takes out
abbrev weight : Entry → ℕ
weight (Changed k c) = length c.old + length c.new
weight mark = 0

same-weight : (p : ℕ × ℕ) (e : Entry) → weight (with_cursors p e) ≡ weight e
same-weight p Begin = refl
same-weight p End = refl
same-weight p (Changed k c) = refl

-- at each place an entry that is no lighter, and perhaps more entries after these
abbrev Grows : List Entry → List Entry → Type 0
Grows [] ys = Unit {0}
Grows (x ∷ xs) [] = ⊥
Grows (x ∷ xs) (y ∷ ys) = (weight x ≤ weight y) × Grows xs ys

Grows-same : (es : List Entry) → Grows es es
Grows-same [] = tt
Grows-same (e ∷ es) = (omega arith, Grows-same es)

Grows-on : (xs ys zs : List Entry) → Grows xs ys → Grows ys zs → Grows xs zs
Grows-on [] ys zs g h = tt
Grows-on (x ∷ xs) [] zs g h = absurd g
Grows-on (x ∷ xs) (y ∷ ys) [] g h = absurd h
Grows-on (x ∷ xs) (y ∷ ys) (z ∷ zs) g h = (omega (arith, g.0, h.0), Grows-on xs ys zs g.1 h.1)

Grows-length : (xs ys : List Entry) → Grows xs ys → length xs ≤ length ys
Grows-length [] ys g = omega arith
Grows-length (x ∷ xs) [] g = absurd g
Grows-length (x ∷ xs) (y ∷ ys) g = let rest = Grows-length xs ys g.1 in omega (arith, rest)

Grows-last_told : (p : ℕ × ℕ) (es : List Entry) → Grows es (last_told p es)
Grows-last_told p [] = tt
Grows-last_told p (e ∷ []) = let same = same-weight p e in (omega (arith, same), tt)
Grows-last_told p (e ∷ (d ∷ ds)) = (omega arith, Grows-last_told p (d ∷ ds))

-- a text that was taken out and joins another is not empty
cut-some : (i : ℕ) (s : List ℕ) (side : Direction) (c : Swap) (j : Entry) → joined (Delete i s side) (Changed Deletion c) ≡ Some j → 0 < length s
cut-some i [] side c j h =
    let last = Changed Deletion (record c { cursors = Some (0, 0) }) in
    let stale = fresh-Delete-nothing is.Stale (last ∷ []) i [] side refl in
    let told : is.Joined 0 ≡ is.Stale = ap (λ o. option_map_or (λ _. freshness_joined (Some (0, 0))) o (freshness_added is.Stale (entries_of (Delete i [] side)))) (sym h) ∙ stale in
    cc
cut-some i (x ∷ s) side c j h = omega arith

-- an entry that an event joins is heavier then, but for a replacement, which may be of nothing
heavier : (event : Event) (e j : Entry) (ss : List Step) → joined event e ≡ Some j → IsLone event ss → (weight e < weight j) ⊎ ((weight e ≤ weight j) × (ss ≡ []))
heavier (InsertChar i c) (Changed Insertion l) j ss h lone =
    let some : 0 < length (encode_utf8 c) = omega (arith, length-encode c, (len_utf8_bounds c).0) in
    inl (subst (λ k. weight (Changed Insertion l) < weight k) (char-joined i c l j h).1 (omega (arith, some, length-append l.old [], length-append l.new (encode_utf8 c))))
heavier (Delete i s side) (Changed Deletion l) j ss h lone =
    let some = cut-some i s side l j h in
    elim (deletion-joined i s side l j h) [
      | inl b ↦ inl (subst (λ k. weight (Changed Deletion l) < weight k) b.1 (omega (arith, some, length-append l.old s, length-append l.new [])))
      | inr b ↦ inl (subst (λ k. weight (Changed Deletion l) < weight k) b.1 (omega (arith, some, length-append s l.old)))
    ]
heavier (Replace i s t) (Changed Replacement l) j ss h lone =
    inr (subst (λ k. weight (Changed Replacement l) ≤ weight k) (replacement-joined i s t l j h).1 (omega (arith, length-append l.old s, length-append l.new t)), lone)
heavier event e j ss h lone = cc

Grows-after : (was : Freshness) (event : Event) (es : List Entry) (ss : List Step) → IsLone event ss → Grows es (entries_after was event es)
Grows-after was event [] ss lone = tt
Grows-after was event (e ∷ []) ss lone = grind (arith, heavier, joined_in-joined)
Grows-after was event (e ∷ (d ∷ ds)) ss lone = grind (arith, (Grows-after was event (d ∷ ds) ss lone))

Grows-told : (fresh : Freshness) (b a : ℕ) (es : List Entry) → Grows es (entries_told fresh b a es)
Grows-told fresh b a es = told-cases (λ ks. Grows es ks) fresh b a es (Grows-same es) (λ p. Grows-last_told p es)

-- what is recorded grows with every step
Grows-listener_after : (b : ℕ) (steps : List Step) (r : Record) → Quiet b steps → Grows r.recorded (listener_after record_step b steps r).recorded
Grows-listener_after b [] r q = Grows-same r.recorded
Grows-listener_after b (s ∷ ss) r q =
    let k = listener_after_step record_step b s r in
    let es = r.recorded in
    let after = entries_after r.fresh s.0 es in
    let told = Grows-told (freshness_of r.fresh s.0 es) b s.1 after in
    let first : Grows es (next r.fresh s.0 es b s.1) = Grows-on es after (next r.fresh s.0 es b s.1) (Grows-after r.fresh s.0 es ss q.1) told in
    Grows-on es k.recorded (listener_after record_step s.1 ss k).recorded (subst (Grows es) (sym (recorded-next b s.0 s.1 ss r q.1)) first) (Grows-listener_after s.1 ss k q.2)

-- ---- one entry is there, and stays the only one
-- the entry that an event adds is told its cursors
added-cursors : (event : Event) (e : Entry) (p : ℕ × ℕ) → entries_of event ≡ e ∷ [] → cursors_of (with_cursors p e) ≡ Some p
added-cursors event e p h = grind (arith, none_or_one)

-- and so is one that an event joined
joint-cursors : (event : Event) (e joint : Entry) (p : ℕ × ℕ) → joined event e ≡ Some joint → cursors_of (with_cursors p joint) ≡ Some p
joint-cursors event e joint p h = ap (λ (q : Entry). cursors_of (with_cursors p q)) (sym (joins event e joint h).is)

-- an event that adds no entry leaves the text
text-same : (event : Event) (x y : List ℕ) → IsUtf8 x → apply event x ≡ Some y → entries_of event ≡ [] → y ≡ x
text-same event x y u h none = same_Some _ _ (ap (λ ks. unwind ks y) (sym none) ∙ entries_of-undo event x y u h)

-- the one that it adds makes the new text
added-makes : (event : Event) (x y : List ℕ) (k : Entry) → IsUtf8 x → apply event x ≡ Some y → entries_of event ≡ k ∷ [] → apply (event_of k) x ≡ Some y
added-makes event x y k u h one =
    undoes-inverse k x y (apply-IsUtf8 event x y u h) (ap (λ ks. unwind ks y) (sym one) ∙ entries_of-undo event x y u h)

-- what an event makes of a last entry that was added: one again, or two
record StaysOne (was : Freshness) (event : Event) (x now : List ℕ) (base : List Entry) (k : Entry) (first b a : ℕ) : Type 0 where
  pub entry : Entry
  pub is : next was event (base ++ k ∷ []) b a ≡ base ++ entry ∷ []
  pub alone : AddedAlone entry x now first a

one-more : (was : Freshness) (event : Event) (x text now : List ℕ) (base : List Entry) (k : Entry) (first b a : ℕ) → IsUtf8 x
    → AddedAlone k x text first b → apply event text ≡ Some now → (entries_of event ≡ [] → a ≡ b)
    → StaysOne was event x now base k first b a ⊎ ((d : Entry) × (next was event (base ++ k ∷ []) b a ≡ (base ++ k ∷ []) ++ d ∷ []))
one-more was event x text now base k first b a u alone h quiet = from (joined_in was event k) refl
  where
    v : IsUtf8 text
    v = apply-IsUtf8 (event_of k) x text u alone.makes

    es : List Entry
    es = base ++ k ∷ []

    from : (o : Option Entry) → joined_in was event k ≡ o → StaysOne was event x now base k first b a ⊎ ((d : Entry) × (next was event es b a ≡ es ++ d ∷ []))
    from None j =
        let apart = next-apart was event es b a (ends_in was event es base k None refl j) in
        elim (none_or_one event) [
          | inl none ↦ inl (record {
            entry = k;
            is = apart ∙ ap (λ ks. es ++ ks) (told-no_entry was (entries_of event) b a none) ∙ append-nil es;
            alone = record {
              cursors = alone.cursors ∙ ap (λ n. Some (first, n)) (sym (quiet none));
              makes = alone.makes ∙ ap (λ t. Some t) (sym (text-same event text now v h none));
            };
          })
          | inr (kind, swap, one) ↦ inr (with_cursors (b, a) (Changed kind swap), apart ∙ ap (λ ks. es ++ ks) (told-one was (entries_of event) (Changed kind swap) b a one))
        ]
    from (Some joint) j = inl (record {
      entry = with_cursors (first, a) joint;
      is = next-joined was event base k joint b a j ∙ ap (λ o. base ++ entries_told (freshness_joined o) b a (joint ∷ [])) alone.cursors;
      alone = record {
        cursors = joint-cursors event k joint (first, a) (joined_in-joined was event k joint j);
        makes = ap (λ q. apply q x) (same-event (first, a) joint) ∙ redone-joined event k joint x text now (joined_in-joined was event k joint j) u alone.makes h;
      };
    })

-- the same last entry
last-same : (xs : List Entry) (k e : Entry) → xs ++ k ∷ [] ≡ xs ++ e ∷ [] → k ≡ e
last-same [] k e h = cc
last-same (x ∷ xs) k e h = let rest : xs ++ k ∷ [] ≡ xs ++ e ∷ [] = cc in last-same xs k e rest

-- the steps after the one that added the entry
after-added : (steps : List Step) (r : Record) (x : List ℕ) (first : ℕ) (line new : Line) (base : List Entry) (k e : Entry)
    → IsUtf8 x → after steps line ≡ Some new → Quiet line.cursor steps
    → r.recorded ≡ base ++ k ∷ [] → AddedAlone k x line.text first line.cursor → (listener_after record_step line.cursor steps r).recorded ≡ base ++ e ∷ []
    → AddedAlone e x new.text first (ends_at line.cursor steps)
after-added [] r x first line new base k e u h q is alone end =
    let same : line ≡ new = cc in
    let one = last-same base k e (sym is ∙ end) in
    subst (λ d. AddedAlone d x new.text first line.cursor) one (subst (λ (l : Line). AddedAlone k x l.text first line.cursor) same alone)
after-added (s ∷ ss) r x first line new base k e u h q is alone end =
    let b = first_step s ss line new h in
    let c = line.cursor in
    let now = listener_after_step record_step c s r in
    let made : now.recorded ≡ next r.fresh s.0 (base ++ k ∷ []) c s.1 = recorded-next c s.0 s.1 ss r q.1 ∙ ap (λ es. next r.fresh s.0 es c s.1) is in
    elim (one-more r.fresh s.0 x line.text b.text base k first c s.1 u alone b.makes q.0) [
      | inl t ↦ after-added ss now x first (stepped line b.text s.1) new base t.entry e u b.rest q.2 (made ∙ t.is) t.alone end
      | inr t ↦
          let more = Grows-length now.recorded (listener_after record_step s.1 ss now).recorded (Grows-listener_after s.1 ss now q.2) in
          let two : length now.recorded ≡ length (base ++ k ∷ []) + 1 = ap length (made ∙ t.1) ∙ length-append (base ++ k ∷ []) (t.0 ∷ []) in
          let last : length (listener_after record_step s.1 ss now).recorded ≡ length base + 1 = ap length end ∙ length-append base (e ∷ []) in
          absurd (omega (arith, more, two, last, length-append base (k ∷ [])))
    ]

-- ---- no entry is there yet
told-weight : (fresh : Freshness) (b a : ℕ) (j : Entry) → (y : Entry) × (entries_told fresh b a (j ∷ []) ≡ y ∷ []) × (weight y ≡ weight j)
told-weight is.Stale b a j = (j, refl, refl)
told-weight is.Parted b a j = (j, refl, refl)
told-weight is.Added b a j = (with_cursors (b, a) j, refl, same-weight (b, a) j)
told-weight (is.Joined p) b a j = (with_cursors (p, a) j, refl, same-weight (p, a) j)

Grows-at : (front : List Entry) (y l e : Entry) → Grows (front ++ y ∷ []) ((front ++ l ∷ []) ++ e ∷ []) → weight y ≤ weight l
Grows-at [] y l e g = g.0
Grows-at (x ∷ xs) y l e g = Grows-at xs y l e g.1

-- where the first event of steps joins the last entry, they add none
joined-adds-none : (s : Step) (ss : List Step) (b : ℕ) (r : Record) (e : Entry) → Quiet b (s ∷ ss) → JoinsOne s.0 r.recorded (next r.fresh s.0 r.recorded b s.1) b s.1
    → (listener_after record_step b (s ∷ ss) r).recorded ≡ r.recorded ++ e ∷ [] → ⊥
joined-adds-none s ss b r e q j end = elim (heavier s.0 j.last j.joint ss j.joins q.1) [ inl more ↦ by_weight more | inr p ↦ by_length p.1 ]
  where
    now : Record
    now = listener_after_step record_step b s r

    y : (d : Entry) × (entries_told (freshness_joined (cursors_of j.last)) b s.1 (j.joint ∷ []) ≡ d ∷ []) × (weight d ≡ weight j.joint)
    y = told-weight (freshness_joined (cursors_of j.last)) b s.1 j.joint

    made : now.recorded ≡ j.front ++ y.0 ∷ []
    made = recorded-next b s.0 s.1 ss r q.1 ∙ j.makes ∙ ap (λ es. j.front ++ es) y.1

    by_weight : weight j.last < weight j.joint → ⊥
    by_weight more =
        let g = Grows-listener_after s.1 ss now q.2 in
        let from_made = subst (λ es. Grows es (listener_after record_step s.1 ss now).recorded) made g in
        let to_end = subst (Grows (j.front ++ y.0 ∷ [])) (end ∙ ap (λ es. es ++ e ∷ []) j.split) from_made in
        let least = Grows-at j.front y.0 j.last e to_end in
        let same = y.2 in
        omega (arith, more, least, same)

    by_length : ss ≡ [] → ⊥
    by_length nil =
        let last : now.recorded ≡ r.recorded ++ e ∷ [] = ap (λ ts. (listener_after record_step s.1 ts now).recorded) (sym nil) ∙ end in
        let short : length now.recorded ≡ length j.front + 1 = ap length made ∙ length-append j.front (y.0 ∷ []) in
        let old : length r.recorded ≡ length j.front + 1 = ap length j.split ∙ length-append j.front (j.last ∷ []) in
        let long : length now.recorded ≡ length r.recorded + 1 = ap length last ∙ length-append r.recorded (e ∷ []) in
        omega (arith, short, old, long)

-- steps that add one entry alone: it makes their text, and was told the cursor before them and the one that they left
pub added-alone : (steps : List Step) (r : Record) (old new : Line) (e : Entry) → IsUtf8 old.text → after steps old ≡ Some new → Quiet old.cursor steps
    → (listener_after record_step old.cursor steps r).recorded ≡ r.recorded ++ e ∷ [] → AddedAlone e old.text new.text old.cursor (ends_at old.cursor steps)
added-alone [] r old new e u h q end = let more = ap length end ∙ length-append r.recorded (e ∷ []) in absurd (omega (arith, more))
added-alone (s ∷ ss) r old new e u h q end =
    let b = first_step s ss old new h in
    let c = old.cursor in
    let es = r.recorded in
    let now = listener_after_step record_step c s r in
    let line = stepped old b.text s.1 in
    let is = recorded-next c s.0 s.1 ss r q.1 in
    elim (next-cases r.fresh s.0 es c s.1) [
      | inr j ↦ absurd (joined-adds-none s ss c r e q j end)
      | inl apart ↦ elim (none_or_one s.0) [
        | inl none ↦
            let kept : now.recorded ≡ es = is ∙ apart ∙ ap (λ ks. es ++ ks) (told-no_entry r.fresh (entries_of s.0) c s.1 none) ∙ append-nil es in
            let text : b.text ≡ old.text = text-same s.0 old.text b.text u b.makes none in
            let rest = added-alone ss now line new e (apply-IsUtf8 s.0 old.text b.text u b.makes) b.rest q.2 (end ∙ ap (λ ks. ks ++ e ∷ []) (sym kept)) in
            subst (λ t. AddedAlone e t new.text c (ends_at s.1 ss)) text (subst (λ n. AddedAlone e b.text new.text n (ends_at s.1 ss)) (q.0 none) rest)
        | inr (kind, swap, one) ↦
            let k = Changed kind swap in
            let p : ℕ × ℕ = (c, s.1) in
            let grown : now.recorded ≡ es ++ with_cursors p k ∷ [] = is ∙ apart ∙ ap (λ ks. es ++ ks) (told-one r.fresh (entries_of s.0) k c s.1 one) in
            let makes : apply (event_of (with_cursors p k)) old.text ≡ Some b.text =
            ap (λ v. apply v old.text) (same-event p k) ∙ added-makes s.0 old.text b.text k u b.makes one in
            after-added ss now old.text c line new es (with_cursors p k) e u b.rest q.2 grown (record { cursors = added-cursors s.0 k p one; makes = makes }) end
      ]
    ]
