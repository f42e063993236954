-- Every operation keeps the marks matched, and a change in each closed group.
use Rattle.rl_record.proofs.Common.{Begin, Bool, BothMatched, Changed, Cursors, End, Entry, Event, Freshness, IsMatched, IsSome, List, Open, Record, Some, Start, Stop, UndoUnit, Whole, [], ap, append-nil, arith, begun, deep, drop, drop_all, end_one, end_times, ends_in_begin, entries_after, entries_of, false, get_or, inl, inr, is_begin, is_end, kept_of, last_of, length, level, mark, marks, max, opens, option_and_then, pending_after, redo_from, redo_of, redone, refl, reverse, same_Some, subst, suc, sym, take, take-append-drop, touched, true, truncated, undone, units, with_closed, zero, ℕ, ◌++◌, ◌+◌, ◌-◌, ◌<◌, ◌∙◌, ◌∷◌, ◌≡◌, ◌≤◌, ◌⊎◌}
use Rattle.rl_base.proofs.Texts.SwapLemmas.{some_is}
use Rattle.rl_line.proofs.Changes.InverseLemmas.{IsSome-through, value_of}
use Rattle.rl_record.proofs.Records.LastLemmas.{after-cases, by_last, end_one-cases, ends-past}
use Rattle.rl_record.proofs.Records.RecordLemmas.{joins, none_or_one}
use Rattle.rl_record.proofs.Records.ToldLemmas.{last_told-marks, recorded-cases}
use Rattle.rl_record.proofs.Records.UnitLemmas.{AllGood, AllGood-left, AllGood-right, IsMatched-append, IsMatched-front, IsMatched-together, cut_good, flags_on, kept-last, marks-append, oldest, units-good}
use Rattle.rl_record.specs.Record.{record_step}
use Rattle.std.proofs.lemmas.List.{take_more}

entries_of-marks : (event : Event) (fs : List Bool) → IsSome (marks (entries_of event) fs)
entries_of-marks event fs = elim (none_or_one event) [ inl none ↦ rw none refl | inr (k, c, one) ↦ rw one refl ]

-- what comes after the same entries is taken by the marks where it is by any
marks-past : (xs ys : List Entry) (fs : List Bool) → IsSome (marks xs fs) → ((gs : List Bool) → IsSome (marks ys gs)) → IsSome (marks (xs ++ ys) fs)
marks-past xs ys fs h all = let s = value_of (marks xs fs) h in subst IsSome (sym (marks-append xs ys fs ∙ ap (option_and_then (marks ys)) s.1)) (all s.0)

marks-after : (was : Freshness) (event : Event) (es : List Entry) (fs : List Bool) → IsSome (marks es fs) → IsSome (marks (entries_after was event es) fs)
marks-after was event es fs h =
    after-cases was event (λ xs ys _. IsSome (marks xs fs) → IsSome (marks ys fs)) (λ xs k. marks-past xs (entries_of event) fs k (entries_of-marks event))
    (λ front e joint j k. marks-past front (joint ∷ []) fs (IsSome-through (marks (e ∷ [])) (marks front fs) (subst IsSome (marks-append front (e ∷ []) fs) k))
    (λ gs. subst (λ d. IsSome (marks (d ∷ []) gs)) (joins event e joint j).is refl)) es h

pub IsMatched-after : (was : Freshness) (event : Event) (es : List Entry) → IsMatched es → IsMatched (entries_after was event es)
IsMatched-after was event es h = marks-after was event es [] h

pending-matched : (event : Event) (es : List Entry) → IsMatched es → IsMatched (pending_after event es)
pending-matched Start es h = h
pending-matched Stop es h = h
pending-matched (Cursors b a) es h = h
pending-matched _ es h = refl

pub BothMatched-step : (r : Record) (event : Event) → BothMatched r → BothMatched (record_step r event)
unfolding record_step
BothMatched-step r event b = record { recorded = recorded-cases IsMatched event r (IsMatched-after r.fresh event r.recorded b.recorded) (λ es p m. subst IsSome (sym (last_told-marks p es [])) m); pending = pending-matched event r.pending b.pending }

-- a Begin may be added anywhere
pub IsMatched-begin : (es : List Entry) → IsMatched es → IsMatched (es ++ Begin ∷ [])
IsMatched-begin es h = IsMatched-append es (Begin ∷ []) h refl

pub BothMatched-begun : (r : Record) → BothMatched r → BothMatched (begun r)
BothMatched-begun r b = record { recorded = IsMatched-begin r.recorded b.recorded; pending = refl }

pub length-touched : (fs : List Bool) → length (touched fs) ≡ length fs
length-touched [] = refl
length-touched (f ∷ fs) = refl

-- the level is the number of open groups
level-flags : (us : List UndoUnit) → opens us ≡ length (flags_on us [])
level-flags [] = refl
level-flags (Open ∷ us) = ap suc (level-flags us)
level-flags (Whole es ∷ us) = level-flags us ∙ sym (length-touched (flags_on us []))

touched_is : (fs gs : List Bool) → touched fs ≡ gs → gs ≡ touched gs
touched_is [] gs e = sym e ∙ ap touched e
touched_is (f ∷ fs) gs e = sym e ∙ ap touched e

-- after an entry other than a Begin, the group opened last holds a change
mark_other : (e : Entry) (fs gs : List Bool) → is_begin e ≡ false → mark e fs ≡ Some gs → gs ≡ touched gs
mark_other Begin fs gs other h = cc
mark_other End [] gs other h = cc
mark_other End (false ∷ fs) gs other h = cc
mark_other End (true ∷ fs) gs other h = touched_is fs gs cc
mark_other (Changed k c) fs gs other h = touched_is fs gs cc

pub level-is : (es : List Entry) (fs : List Bool) → marks es [] ≡ Some fs → level es ≡ length fs
level-is es fs h = level-flags (units es) ∙ ap length (cut_good es [] fs tt h).1

-- what stands before the last entry, and what it makes of the marks
pub marks-last : (front : List Entry) (e : Entry) (fs : List Bool) → marks (front ++ (e ∷ [])) [] ≡ Some fs
    → (gs : List Bool) × (marks front [] ≡ Some gs) × (mark e gs ≡ Some fs)
marks-last front e fs h = grind (arith, marks-append)

marks-other : (es : List Entry) (fs : List Bool) → ends_in_begin es ≡ false → marks es [] ≡ Some fs → fs ≡ touched fs
marks-other es fs =
    by_last (λ l. ends_in_begin l ≡ false → marks l [] ≡ Some fs → fs ≡ touched fs) (λ other h. let none : [] ≡ fs = cc in touched_is [] fs none)
    (λ front e other h. let l = marks-last front e fs h in mark_other e l.0 fs (sym (ends-past front e []) ∙ other) l.2) es

-- one step of an end keeps the marks matched, and closes one group
pub record Lower (es : List Entry) (n : ℕ) : Type 0 where
  pub matched : IsMatched es
  pub level_is : level es ≡ n

lower : (es : List Entry) (n : ℕ) (fs : List Bool) → marks es [] ≡ Some fs → length fs ≡ n → Lower es n
lower es n fs h long = record { matched = some_is (marks es []) fs h; level_is = level-is es fs h ∙ long }

pub Lower-end_one : (es : List Entry) (n : ℕ) → IsMatched es → level es ≡ suc n → Lower (end_one es) n
Lower-end_one es n h k =
    let s = value_of (marks es []) h in
    let long : length s.0 ≡ suc n = sym (level-is es s.0 s.1) ∙ k in
    elim (end_one-cases es) [
      | inl c ↦
          let l = marks-last c.front Begin s.0 (ap (λ x. marks x []) (sym c.list_is) ∙ s.1) in
          let top : false ∷ l.0 ≡ s.0 = let q = l.2 in cc in
          subst (λ x. Lower x n) (sym c.after_is) (lower c.front n l.0 l.1 (omega (arith, ap length top, long)))
      | inr c ↦ subst (λ x. Lower x n) (sym c.after_is) (closes s.0 s.1 long (marks-other es s.0 c.other s.1))
    ]
  where
    closes : (fs : List Bool) → marks es [] ≡ Some fs → length fs ≡ suc n → fs ≡ touched fs → Lower (es ++ End ∷ []) n
    closes [] j long same = absurd (omega arith)
    closes (false ∷ fs) j long same = cc
    closes (true ∷ fs) j long same =
        lower (es ++ End ∷ []) n (touched fs) (marks-append es (End ∷ []) [] ∙ ap (option_and_then (marks (End ∷ []))) j) (omega (arith, long, length-touched fs))

pub Lower-end_times : (n left : ℕ) (es : List Entry) → IsMatched es → level es ≡ n + left → Lower (end_times n es) left
Lower-end_times zero left es h k = record { matched = h; level_is = omega (arith, k) }
Lower-end_times (suc n) left es h k = let l = Lower-end_one es (n + left) h (omega (arith, k)) in Lower-end_times n left (end_one es) l.matched l.level_is

-- so many groups are closed, as long as there are so many
pub BothMatched-closed : (n : ℕ) (r : Record) → n ≤ level r.recorded → BothMatched r → BothMatched (with_closed n r)
BothMatched-closed n r few b = record { recorded = (Lower-end_times n (level r.recorded - n) r.recorded b.recorded (omega (arith, few))).matched; pending = refl }

pub AllGood-take : (n : ℕ) (us : List UndoUnit) → AllGood us → AllGood (take n us)
AllGood-take n us g = AllGood-left (take n us) (drop n us) (subst AllGood (sym (take-append-drop n us)) g)

pub BothMatched-undone : (n : ℕ) (r : Record) → BothMatched r → BothMatched (undone n r)
BothMatched-undone n r b = record {
  recorded = IsMatched-front (kept_of n r.recorded) (last_of n r.recorded) (subst IsMatched (sym (kept-last n r.recorded)) b.recorded);
  pending = IsMatched-append (last_of n r.recorded) r.pending
      (IsMatched-together (take (max n 1) (units r.recorded)) (AllGood-take (max n 1) (units r.recorded) (units-good r.recorded b.recorded))) b.pending;
}

-- the entries that a redo puts back stand at the front, and both parts are matched
pub record Redoes (es : List Entry) (unit rest : List Entry) : Type 0 where
  pub list_is : unit ++ rest ≡ es
  pub unit_matched : IsMatched unit
  pub rest_matched : IsMatched rest

-- the unit that is redone next stands in front of those after it
pub redo-front : (es : List Entry) → redo_of es ++ drop (length (redo_of es)) es ≡ es
redo-front es = go (reverse (units es)) refl
  where
    go : (rs : List UndoUnit) → reverse (units es) ≡ rs → redo_from es rs ++ drop (length (redo_from es rs)) es ≡ es
    go [] e = refl
    go (Open ∷ rs) e = ap (λ x. es ++ x) (drop_all (length es) es (omega arith)) ∙ append-nil es
    go (Whole inner ∷ rs) e = let o = oldest es inner rs e in ap (λ x. inner ++ x) o.rest_is ∙ o.list_is

pub Redoes-of : (es : List Entry) → IsMatched es → Redoes es (redo_of es) (drop (length (redo_of es)) es)
Redoes-of es h = go (reverse (units es)) refl (redo-front es)
  where
    go : (rs : List UndoUnit) → reverse (units es) ≡ rs → redo_from es rs ++ drop (length (redo_from es rs)) es ≡ es → Redoes es (redo_from es rs) (drop (length (redo_from es rs)) es)
    go [] e list = record { list_is = list; unit_matched = refl; rest_matched = h }
    go (Open ∷ rs) e list = record { list_is = list; unit_matched = h; rest_matched = subst IsMatched (sym (drop_all (length es) es (omega arith))) refl }
    go (Whole inner ∷ rs) e list =
        let o = oldest es inner rs e in
        let good = subst AllGood o.units_are (units-good es h) in
        record {
          list_is = list;
          unit_matched = IsMatched-together (Whole inner ∷ []) (AllGood-right (reverse rs) (Whole inner ∷ []) good);
          rest_matched = subst IsMatched (sym o.rest_is) (IsMatched-together (reverse rs) (AllGood-left (reverse rs) (Whole inner ∷ []) good));
        }

pub BothMatched-redone : (r : Record) → BothMatched r → BothMatched (redone r)
BothMatched-redone r b = let d = Redoes-of r.pending b.pending in
    record { recorded = IsMatched-append r.recorded (redo_of r.pending) b.recorded d.unit_matched; pending = d.rest_matched }

pub BothMatched-truncated : (n : ℕ) (r : Record) → BothMatched r → BothMatched (truncated n r)
BothMatched-truncated n r b = record {
  recorded = IsMatched-front (take n r.recorded) (drop n r.recorded) (subst IsMatched (sym (take-append-drop n r.recorded)) b.recorded);
  pending = refl;
}

-- ---- marks that are read from the front
-- right after a Begin the latest open group holds no change, and else it holds one
abbrev Latest : Bool → List Bool → Type 0
Latest true fs = (gs : List Bool) × (fs ≡ false ∷ gs)
Latest false fs = fs ≡ touched fs

-- entries with these open groups, of which the last entry is a Begin, or is not
pub record MarkedTo (es : List Entry) (n : ℕ) (after_begin : Bool) : Type 0 where
  pub flags : List Bool
  pub marked : marks es [] ≡ Some flags
  pub open_is : n ≡ length flags
  pub latest : Latest after_begin flags

pub MarkedTo-none : MarkedTo [] 0 false
MarkedTo-none = record { flags = []; marked = refl; open_is = refl; latest = refl }

pub MarkedTo-level : (es : List Entry) (n : ℕ) (after_begin : Bool) → MarkedTo es n after_begin → IsMatched es × (n ≡ level es)
MarkedTo-level es n after_begin m = (some_is (marks es []) m.flags m.marked, m.open_is ∙ sym (level-is es m.flags m.marked))

-- the next entry, if it is no End of no group, or of an empty one
next-mark : (e : Entry) (fs : List Bool) (n : ℕ) (after_begin : Bool) → n ≡ length fs → Latest after_begin fs → (is_end e ≡ true → ¬ (n ≡ 0) × (after_begin ≡ false))
    → (gs : List Bool) × (mark e fs ≡ Some gs) × (deep n (e ∷ []) ≡ length gs) × Latest (is_begin e) gs
next-mark Begin fs n after_begin is latest fine = (false ∷ fs, refl, ap suc is, (fs, refl))
next-mark (Changed k c) fs n after_begin is latest fine = (touched fs, refl, is ∙ sym (length-touched fs), touched_is fs (touched fs) refl)
next-mark End [] n after_begin is latest fine = absurd ((fine refl).0 is)
next-mark End (true ∷ fs) n after_begin is latest fine = (touched fs, refl, omega (arith, is, length-touched fs), touched_is fs (touched fs) refl)
next-mark End (false ∷ fs) n true is latest fine = let not_begun : true ≡ false = (fine refl).1 in absurd cc
next-mark End (false ∷ fs) n false is latest fine = absurd cc

pub MarkedTo-next : (es : List Entry) (i n : ℕ) (after_begin : Bool) (e : Entry) → i < length es → get_or es i e ≡ e → MarkedTo (take i es) n after_begin
    → (is_end e ≡ true → ¬ (n ≡ 0) × (after_begin ≡ false)) → MarkedTo (take (i + 1) es) (deep n (e ∷ [])) (is_begin e)
MarkedTo-next es i n after_begin e at is m fine =
    let next = next-mark e m.flags n after_begin m.open_is m.latest fine in
    let front = ap (λ l. marks l []) (take_more es i e at) ∙ marks-append (take i es) (get_or es i e ∷ []) [] ∙ ap (option_and_then (marks (get_or es i e ∷ []))) m.marked in
    record {
      flags = next.0;
      marked = front ∙ ap (λ d. marks (d ∷ []) m.flags) is ∙ ap (option_and_then (marks [])) next.1;
      open_is = next.2;
      latest = next.3;
    }

-- an End of no group, or of an empty one, is in no matched entries
pub unmatched : (es : List Entry) (i n : ℕ) (after_begin : Bool) (e : Entry) → i < length es → get_or es i e ≡ e → MarkedTo (take i es) n after_begin
    → is_end e ≡ true → (n ≡ 0) ⊎ (after_begin ≡ true) → IsMatched es → ⊥
unmatched es i n after_begin e at is m end bad h =
    let front = IsMatched-front (take (i + 1) es) (drop (i + 1) es) (subst IsMatched (sym (take-append-drop (i + 1) es)) h) in
    let s = value_of (marks (take (i + 1) es) []) front in
    let l = marks-last (take i es) (get_or es i e) s.0 (ap (λ k. marks k []) (sym (take_more es i e at)) ∙ s.1) in
    none e m.flags n after_begin s.0 m.open_is m.latest end bad
    (ap (λ d. mark d m.flags) (sym is) ∙ ap (mark (get_or es i e)) (same_Some _ _ (sym m.marked ∙ l.1)) ∙ l.2)
  where
    none : (e : Entry) (fs : List Bool) (n : ℕ) (after_begin : Bool) (gs : List Bool) → n ≡ length fs → Latest after_begin fs → is_end e ≡ true → (n ≡ 0) ⊎ (after_begin ≡ true)
        → mark e fs ≡ Some gs → ⊥
    none Begin fs n after_begin gs is latest end bad h = cc
    none (Changed k c) fs n after_begin gs is latest end bad h = cc
    none End [] n after_begin gs is latest end bad h = cc
    none End (false ∷ fs) n after_begin gs is latest end bad h = cc
    none End (true ∷ fs) n after_begin gs is latest end (inl zero_open) h = absurd (omega (arith, is, zero_open))
    none End (true ∷ fs) n true gs is latest end (inr after) h = let same : true ∷ fs ≡ false ∷ latest.0 = latest.1 in cc
    none End (true ∷ fs) n false gs is latest end (inr after) h = cc

pub ruleset marked = (MarkedTo-none, MarkedTo-level)
