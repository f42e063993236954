-- The end of one group: it leaves one unit, or no trace. And whether the last unit, and the next one, holds a change.
use Rattle.rl_record.proofs.Common.{AtLevel, Begin, Change, Changed, End, Entry, Event, Hears, IsMatched, List, None, Open, Option, Record, Some, UndoUnit, Whole, [], adds_end, after_in_group, ap, append_assoc, arith, arrived, begun, change_count, close, common_steps, cond_both, drop, drop_at, end_one, end_times, ended_one, ends_in_begin, ends_in_end, entry_of, false, has_change, in_group, inl, inr, is_begin, kept_of, kept_point, last_of, length, level, map, max, min, not, opens, point_kept, record_step, redo_from, redo_of, refl, reopened, reverse, reverse-reverse, slice_get, subst, suc, sym, take, together, true, units, with_closed, zero, ℕ, ◌++◌, ◌+◌, ◌-◌, ◌||◌, ◌∙◌, ◌∷◌, ◌≡◌, ◌≤◌}
use Rattle.rl_line.proofs.Changes.InverseLemmas.{has_change-append}
use Rattle.rl_record.proofs.Records.EntryLemmas.{last-split, none-last}
use Rattle.rl_record.proofs.Records.GroupLemmas.{Inside-steps, Settles-change, ends_in_begin-begin, touching}
use Rattle.rl_record.proofs.Records.LastLemmas.{EndsOne, but_last, end-added, end_one-begin, end_one-cases, end_one-past, ends-past}
use Rattle.rl_record.proofs.Records.LevelLemmas.{AtLevel-step, level-append, level-begin}
use Rattle.rl_record.proofs.Records.MatchLemmas.{IsMatched-begin, Lower-end_one}
use Rattle.rl_record.proofs.Records.PointLemmas.{kept-again}
use Rattle.rl_record.proofs.Records.UnitLemmas.{AllGood, AllGood-reverse, Gathers, Gathers-more, Gathers-nil, Settles-group, cut_more-append, last_of-change, on, opens-reverse, together-reverse, together-units, units-good}

-- the entries of the units, the oldest unit first, are all
on-units : (es : List Entry) (vs : List UndoUnit) → reverse (units es) ≡ vs → on vs ≡ es
on-units es vs k = sym (together-reverse vs) ∙ ap (λ x. together (reverse x)) (sym k) ∙ ap together (reverse-reverse (units es)) ∙ together-units es

-- whole units inside a group are gathered by its End
Gathers-on : (v : UndoUnit) (vs : List UndoUnit) → AllGood (v ∷ vs) → opens (v ∷ vs) ≡ 0 → Gathers true (on (v ∷ vs))
Gathers-on Open vs g o = absurd (omega arith)
Gathers-on (Whole es) [] g o = Gathers-more false es [] g.0 Gathers-nil
Gathers-on (Whole es) (w ∷ ws) g o = Gathers-more true es (on (w ∷ ws)) g.0 (Gathers-on w ws g.1 o)

Gathers-closed : (e : Entry) (es : List Entry) → IsMatched (e ∷ es) → level (e ∷ es) ≡ 0 → Gathers true (e ∷ es)
Gathers-closed e es h l = by_units (reverse (units (e ∷ es))) refl
  where
    by_units : (vs : List UndoUnit) → reverse (units (e ∷ es)) ≡ vs → Gathers true (e ∷ es)
    by_units [] k = let none : [] ≡ e ∷ es = on-units (e ∷ es) [] k in cc
    by_units (v ∷ vs) k =
        subst (Gathers true) (on-units (e ∷ es) (v ∷ vs) k)
        (Gathers-on v vs (subst AllGood k (AllGood-reverse (units (e ∷ es)) (units-good (e ∷ es) h)))
        (ap opens (sym k) ∙ opens-reverse (units (e ∷ es)) ∙ l))

-- what ends in a Begin has an open group
not_open : (es : List Entry) → level es ≡ 0 → EndsOne es → ⊥
not_open es l k = grind (arith, cut_more-append)

-- so what has none does not end in one
ends-closed : (es : List Entry) → level es ≡ 0 → ends_in_begin es ≡ false
ends-closed es l = elim (end_one-cases es) [ inl k ↦ absurd (not_open es l k) | inr k ↦ k.other ]

-- the End of a group in which nothing is open: all from its Begin on is one unit, with a change
pub record ClosedGroup (xs inner : List Entry) : Type 0 where
  pub changed : has_change inner ≡ true
  pub goes_on : ends_in_begin (xs ++ (Begin ∷ inner)) ≡ false
  pub is : end_one (xs ++ (Begin ∷ inner)) ≡ xs ++ (Begin ∷ (inner ++ (End ∷ [])))
  pub cut : units (xs ++ (Begin ∷ (inner ++ (End ∷ [])))) ≡ Whole (Begin ∷ (inner ++ (End ∷ []))) ∷ units xs

pub closed_alone : (xs : List Entry) (e : Entry) (es : List Entry) → IsMatched (e ∷ es) → level (e ∷ es) ≡ 0 → ClosedGroup xs (e ∷ es)
closed_alone xs e es h l =
    let g = Gathers-closed e es h l in
    elim (end_one-cases (e ∷ es)) [
      | inl k ↦ absurd (not_open (e ∷ es) l k)
      | inr k ↦ record {
        changed = touching (e ∷ es) (g.flags (false ∷ []));
        goes_on = ends-past xs Begin (e ∷ es) ∙ ends-closed (e ∷ es) l;
        is = end_one-past xs Begin (e ∷ es) ∙ ap (λ x. xs ++ (Begin ∷ x)) k.after_is;
        cut = cut_more-append [] xs (Begin ∷ ((e ∷ es) ++ (End ∷ []))) ∙ (Settles-group (e ∷ es) g).cuts (units xs);
      }
    ]

pub closed_group : (xs inner : List Entry) → IsMatched inner → level inner ≡ 0 → has_change inner ≡ true → kept_of 1 (end_one (xs ++ (Begin ∷ inner))) ≡ xs
closed_group xs [] h l c = cc
closed_group xs (e ∷ es) h l c =
    let g = closed_alone xs e es h l in
    ap (kept_of 1) g.is ∙ ap (λ us. together (drop (max 1 1) us)) g.cut ∙ together-units xs

pub level-group : (xs inner : List Entry) → IsMatched inner → level (xs ++ (Begin ∷ inner)) ≡ level inner + suc (level xs)
level-group xs inner h =
    ap level (sym (append_assoc xs (Begin ∷ []) inner)) ∙ level-append (xs ++ (Begin ∷ [])) inner h ∙ ap (λ n. level inner + n) (level-begin xs)

-- ---- a group that is closed alone
AtLevel-events : (events : List Event) (n : ℕ) (r : Record) → AtLevel n r → AtLevel n (after_in_group (map Hears events) r)
AtLevel-events [] n r a = a
AtLevel-events (event ∷ events) n r a = AtLevel-events events n (record_step r event) (AtLevel-step event n r a)

-- what stands after the begin of a group in which events were recorded
pub record Within (r : Record) (events : List Event) : Type 0 where
  pub inner : List Entry
  pub is : (in_group events r).recorded ≡ r.recorded ++ Begin ∷ inner
  pub matched : IsMatched inner
  pub closed : level inner ≡ 0
  pub all_matched : IsMatched (in_group events r).recorded
  pub level_is : level (in_group events r).recorded ≡ suc (level r.recorded)

pub within : (r : Record) (events : List Event) → IsMatched r.recorded → Within r events
within r events h =
    let k = Inside-steps (map Hears events) r.recorded (begun r) (record { inner = []; is = refl; matched = refl }) in
    let a = AtLevel-events events (suc (level r.recorded)) (begun r) (record { matched = record { recorded = IsMatched-begin r.recorded h; pending = refl }; level = sym (level-begin r.recorded) }) in
    record {
      inner = k.inner;
      is = k.is;
      matched = k.matched;
      closed = omega (arith, a.level, ap level k.is, level-group r.recorded k.inner k.matched);
      all_matched = a.matched.recorded;
      level_is = sym a.level;
    }

-- one group is closed, since one is open
one_open : (r : Record) (events : List Event) → Within r events → min 1 (level (in_group events r).recorded) ≡ 1
one_open r events w = omega (arith, w.level_is)

after-begin : (r : Record) (events : List Event) (w : Within r events) → drop (length r.recorded) (in_group events r).recorded ≡ Begin ∷ w.inner
after-begin r events w = ap (drop (length r.recorded)) w.is ∙ drop_at r.recorded (Begin ∷ w.inner) (length r.recorded) refl

ended-alone : (r : Record) (events : List Event) (w : Within r events) → (ended_one (in_group events r)).recorded ≡ end_one (r.recorded ++ Begin ∷ w.inner)
ended-alone r events w = ap (λ n. end_times n (in_group events r).recorded) (one_open r events w) ∙ ap end_one w.is

pub alone-answer : (r : Record) (events : List Event) → IsMatched r.recorded
    → adds_end (min 1 (level (in_group events r).recorded)) (in_group events r).recorded ≡ has_change (drop (length r.recorded) (in_group events r).recorded)
alone-answer r events h =
    let w = within r events h in
    ap (λ n. adds_end n (in_group events r).recorded) (one_open r events w) ∙ ap (adds_end 1) w.is ∙ adds w.inner w.matched w.closed ∙ sym (ap has_change (after-begin r events w))
  where
    adds : (inner : List Entry) → IsMatched inner → level inner ≡ 0 → adds_end 1 (r.recorded ++ Begin ∷ inner) ≡ has_change (Begin ∷ inner)
    adds [] m l = ap (λ b. not b || false) (ends_in_begin-begin r.recorded)
    adds (e ∷ es) m l = let g = closed_alone r.recorded e es m l in ap (λ b. not b || false) g.goes_on ∙ sym g.changed

pub alone-unit : (r : Record) (events : List Event) → IsMatched r.recorded → has_change (drop (length r.recorded) (in_group events r).recorded) ≡ true
    → (last_of 1 (ended_one (in_group events r)).recorded ≡ drop (length r.recorded) (in_group events r).recorded ++ End ∷ []) × (kept_of 1 (ended_one (in_group events r)).recorded ≡ r.recorded)
alone-unit r events h c =
    let w = within r events h in
    let inside = sym (ap has_change (after-begin r events w)) ∙ c in (
      ap (last_of 1) (ended-alone r events w) ∙ last w.inner w.matched w.closed inside ∙ ap (λ es. es ++ End ∷ []) (sym (after-begin r events w)),
      ap (kept_of 1) (ended-alone r events w) ∙ closed_group r.recorded w.inner w.matched w.closed inside,
    )
  where
    last : (inner : List Entry) → IsMatched inner → level inner ≡ 0 → has_change inner ≡ true → last_of 1 (end_one (r.recorded ++ Begin ∷ inner)) ≡ (Begin ∷ inner) ++ End ∷ []
    last [] m l k = cc
    last (e ∷ es) m l k = let g = closed_alone r.recorded e es m l in ap (last_of 1) g.is ∙ ap (λ us. together (take (max 1 1) us)) g.cut

pub alone-nothing : (r : Record) (events : List Event) → IsMatched r.recorded → has_change (drop (length r.recorded) (in_group events r).recorded) ≡ false
    → (ended_one (in_group events r)).recorded ≡ r.recorded
alone-nothing r events h c =
    let w = within r events h in
    ended-alone r events w ∙ none w.inner w.matched w.closed (sym (ap has_change (after-begin r events w)) ∙ c)
  where
    none : (inner : List Entry) → IsMatched inner → level inner ≡ 0 → has_change inner ≡ false → end_one (r.recorded ++ Begin ∷ inner) ≡ r.recorded
    none [] m l k = end_one-begin r.recorded
    none (e ∷ es) m l k = let some = (closed_alone r.recorded e es m l).changed in cc

pub alone-level : (r : Record) (events : List Event) → IsMatched r.recorded → level (ended_one (in_group events r)).recorded ≡ level r.recorded
alone-level r events h =
    let w = within r events h in
    ap (λ n. level (end_times n (in_group events r).recorded)) (one_open r events w) ∙ (Lower-end_one (in_group events r).recorded (level r.recorded) w.all_matched w.level_is).level_is

-- ---- whether a unit holds a change
close-whole : (inner : List Entry) (us : List UndoUnit) → (w : List Entry) × (others : List UndoUnit) × (close inner us ≡ Whole w ∷ others)
close-whole inner [] = (inner ++ End ∷ [], [], refl)
close-whole inner (Open ∷ us) = (Begin ∷ (inner ++ End ∷ []), us, refl)
close-whole inner (Whole es ∷ us) = close-whole (es ++ inner) us

-- the last unit does, unless it is the Begin of an open group
last-holds : (xs : List Entry) (e : Entry) → IsMatched (xs ++ e ∷ []) → has_change (last_of 1 (xs ++ e ∷ [])) ≡ not (is_begin e)
last-holds xs Begin m = ap (λ us. has_change (together (take (max 1 1) us))) (cut_more-append [] xs (Begin ∷ []))
last-holds xs (Changed k c) m = ap has_change (last_of-change 1 (Changed k c) xs (omega arith) refl)
last-holds xs End m =
    let w = close-whole [] (units xs) in
    let cut : units (xs ++ End ∷ []) ≡ Whole w.0 ∷ w.1 = cut_more-append [] xs (End ∷ []) ∙ w.2 in
    let good = subst AllGood cut (units-good (xs ++ End ∷ []) m) in
    ap (λ us. has_change (together (take (max 1 1) us))) cut ∙ Settles-change w.0 good.0

pub last-entry-holds : (xs : List Change) (x : Change) → Some x ≡ slice_get xs (length xs - 1) → IsMatched (map entry_of xs)
    → has_change (last_of 1 (map entry_of xs)) ≡ not (is_begin (entry_of x))
last-entry-holds xs x e m = grind (arith, common_steps, last-split, last-holds)

pub no-entry-holds : (xs : List Change) → None ≡ slice_get xs (length xs - 1) → has_change (last_of 1 (map entry_of xs)) ≡ false
no-entry-holds xs e = ap (λ ys. has_change (last_of 1 (map entry_of ys))) (none-last xs e)

-- the unit that is redone next does wherever there is a change: it comes first, or all is redone at once
pub next-holds : (es : List Entry) → IsMatched es → has_change (redo_of es) ≡ has_change es
next-holds es m = from (reverse (units es)) refl
  where
    from : (vs : List UndoUnit) → reverse (units es) ≡ vs → has_change (redo_from es vs) ≡ has_change es
    from [] k = ap has_change (on-units es [] k)
    from (Open ∷ vs) k = refl
    from (Whole w ∷ vs) k =
        let good = subst AllGood k (AllGood-reverse (units es) (units-good es m)) in
        let some = Settles-change w good.0 in
        some ∙ sym (ap has_change (sym (on-units es (Whole w ∷ vs) k)) ∙ has_change-append w (on vs) ∙ ap (λ b. b || has_change (on vs)) some)

pub ruleset holds = (last-entry-holds, next-holds, no-entry-holds)

-- the end of a group that added an End is taken back
taken_up : (es : List Entry) (point : Option ℕ) → reopened (arrived (es ++ End ∷ []) [] (kept_point (change_count es) point)) ≡ arrived es [] (kept_point (change_count es) point)
taken_up es point =
    let n = change_count es in
    cond_both (ends_in_end (es ++ End ∷ [])) _ _ (λ k. k ≡ arrived es [] (kept_point n point))
    (λ h. ap (λ l. arrived l [] (kept_point (change_count l) (kept_point n point))) (but_last es End) ∙ ap (arrived es []) (kept-again n n point (omega arith))) (λ h. let e = end-added es in cc)

pub reopened-end : (r : Record) → adds_end (min 1 (level r.recorded)) r.recorded ≡ true → reopened (ended_one r) ≡ arrived r.recorded [] (point_kept r)
reopened-end r = by_level (min 1 (level r.recorded)) (omega arith)
  where
    by_level : (n : ℕ) → n ≤ 1 → adds_end n r.recorded ≡ true → reopened (with_closed n r) ≡ arrived r.recorded [] (point_kept r)
    by_level zero few h = cc
    by_level (suc zero) few h =
        elim (end_one-cases r.recorded) [
          | inl c ↦
              let off : ends_in_begin r.recorded ≡ true = ap ends_in_begin c.list_is ∙ ends_in_begin-begin c.front in
              let no : false ≡ true = sym (ap (λ b. not b || false) off) ∙ h in
              cc
          | inr c ↦ ap (λ es. reopened (arrived es [] (point_kept r))) c.after_is ∙ taken_up r.recorded r.saved
        ]
    by_level (suc (suc n)) few h = absurd (omega (arith, few))
