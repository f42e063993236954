-- The level: how many groups are open after each call, counted over the entries that it moves or drops alone.
use Rattle.rl_record.proofs.Common.{Ahead, AtLevel, Back, Begin, Bool, BothMatched, Change, Changed, End, Entry, Event, Freshness, IsMatched, List, Reaches, Record, Some, Way, [], ap, arith, begun, common_steps, count_over, deep, drop, entries_after, entries_of, entry_of, false, get_or, inl, inr, is_change, joined, kept_of, last_of, length, length-map, length-take, level, map, map-append, mark, marks, max, moved, opens, redo_of, refl, subst, suc, sym, take, take-append-drop, take_all, touched, true, truncated, unit_of, units, with_closed, ℕ, ◌++◌, ◌+◌, ◌-◌, ◌<◌, ◌^◌, ◌∙◌, ◌∷◌, ◌≡◌, ◌≤◌}
use Rattle.rl_line.proofs.Changes.InverseLemmas.{value_of}
use Rattle.rl_record.proofs.Records.CountLemmas.{level-counted}
use Rattle.rl_record.proofs.Records.EntryLemmas.{deep-append, deep-next}
use Rattle.rl_record.proofs.Records.LastLemmas.{after-cases}
use Rattle.rl_record.proofs.Records.MatchLemmas.{AllGood-take, BothMatched-begun, BothMatched-closed, BothMatched-redone, BothMatched-step, BothMatched-truncated, BothMatched-undone, Lower-end_times, Redoes-of, length-touched, level-is, marks-last}
use Rattle.rl_record.proofs.Records.MoveLemmas.{GoesAs-all, GoesOver-of, first-view, marks-over, moved-at, unit-reaches, unit-within}
use Rattle.rl_record.proofs.Records.RecordLemmas.{joins, none_or_one}
use Rattle.rl_record.proofs.Records.ToldLemmas.{last_told-deep}
use Rattle.rl_record.proofs.Records.UnitLemmas.{IsMatched-front, IsMatched-together, cut_more-append, kept-last, opens-append, units-append, units-good}
use Rattle.rl_record.specs.Record.{record_step}

-- ---- an event
deep-entries_of : (event : Event) (d : ℕ) → deep d (entries_of event) ≡ d
deep-entries_of event d = elim (none_or_one event) [ inl none ↦ ap (deep d) none | inr (k, c, one) ↦ ap (deep d) one ]

deep-joined : (event : Event) (e joint : Entry) (d : ℕ) → joined event e ≡ Some joint → deep d (joint ∷ []) ≡ deep d (e ∷ [])
deep-joined event e joint d h = let b = joins event e joint h in subst (λ k. deep d (k ∷ []) ≡ deep d (e ∷ [])) b.is (ap (λ k. deep d (k ∷ [])) (sym b.was))

-- no event is a mark
deep-after : (was : Freshness) (event : Event) (es : List Entry) (d : ℕ) → deep d (entries_after was event es) ≡ deep d es
deep-after was event es d =
    after-cases was event (λ xs ys _. deep d ys ≡ deep d xs) (λ xs. deep-append d xs (entries_of event) ∙ deep-entries_of event (deep d xs))
    (λ front e joint h. deep-append d front (joint ∷ []) ∙ deep-joined event e joint (deep d front) h ∙ sym (deep-append d front (e ∷ []))) es

pub AtLevel-step : (event : Event) (n : ℕ) (r : Record) → AtLevel n r → AtLevel n (record_step r event)
unfolding record_step
AtLevel-step event n r a = grind (arith, BothMatched-step, deep-after, last_told-deep, level-counted)

pub AtLevel-heard : (event : Event) (n : ℕ) (r now : Record) → now ≡ record_step r event → AtLevel n r → AtLevel n now
AtLevel-heard event n r now e a = subst (AtLevel n) (sym e) (AtLevel-step event n r a)

-- ---- marks at the end
pub level-begin : (es : List Entry) → level (es ++ Begin ∷ []) ≡ suc (level es)
level-begin es = ap opens (cut_more-append [] es (Begin ∷ []))

pub level-end : (es : List Entry) → IsMatched (es ++ End ∷ []) → level es ≡ suc (level (es ++ End ∷ []))
level-end es h =
    let s = value_of (marks (es ++ End ∷ []) []) h in
    let l = marks-last es End s.0 s.1 in
    level-is es l.0 l.1 ∙ one_less l.0 s.0 l.2 ∙ ap suc (sym (level-is (es ++ End ∷ []) s.0 s.1))
  where
    one_less : (fs gs : List Bool) → mark End fs ≡ Some gs → length fs ≡ suc (length gs)
    one_less [] gs k = cc
    one_less (false ∷ fs) gs k = cc
    one_less (true ∷ fs) gs k = let same : touched fs ≡ gs = cc in ap suc (sym (length-touched fs) ∙ ap length same)

deep-within : (d : ℕ) (es : List Entry) → deep d es ≤ d + length es
deep-within d [] = omega arith
deep-within d (Begin ∷ es) = omega (arith, deep-within (suc d) es)
deep-within d (End ∷ es) = omega (arith, deep-within (d - 1) es)
deep-within d (Changed k c ∷ es) = omega (arith, deep-within d es)

-- no more groups are open than there are entries
pub level-within : (es : List Entry) → IsMatched es → level es ≤ length es
level-within es h = omega (arith, level-counted es h, deep-within 0 es)

pub AtLevel-begun : (n : ℕ) (r : Record) → AtLevel n r → AtLevel (n + 1) (begun r)
AtLevel-begun n r a = record { matched = BothMatched-begun r a.matched; level = omega (arith, a.level, level-begin r.recorded) }

pub AtLevel-closed : (count n : ℕ) (r : Record) → count ≤ level r.recorded → AtLevel n r → AtLevel (n - count) (with_closed count r)
AtLevel-closed count n r few a = record {
  matched = BothMatched-closed count r few a.matched;
  level =
      let left : level r.recorded ≡ count + (n - count) = omega (arith, few, a.level) in
      sym (Lower-end_times count (n - count) r.recorded a.matched.recorded left).level_is;
}

-- ---- units that are moved
pub level-append : (xs ys : List Entry) → IsMatched ys → level (xs ++ ys) ≡ level ys + level xs
level-append xs ys h = ap opens (units-append xs ys h) ∙ opens-append (units ys) (units xs)

pub IsMatched-last : (k : ℕ) (es : List Entry) → IsMatched es → IsMatched (last_of k es)
IsMatched-last k es h = IsMatched-together (take (max k 1) (units es)) (AllGood-take (max k 1) (units es) (units-good es h))

-- an undo takes off the groups that its units open
level-last : (k : ℕ) (es : List Entry) → IsMatched es → level es ≡ level (last_of k es) + level (kept_of k es)
level-last k es h = ap level (sym (kept-last k es)) ∙ level-append (kept_of k es) (last_of k es) (IsMatched-last k es h)

pub AtLevel-moved : (way : Way) (n l opened : ℕ) (r : Record) → opened ≡ level (unit_of way n r) → AtLevel l r → AtLevel (count_over way l opened) (moved way n r)
AtLevel-moved Back n l opened r e a = record {
  matched = BothMatched-undone n r a.matched;
  level = omega (arith, e, a.level, level-last n r.recorded a.matched.recorded);
}
AtLevel-moved Ahead n l opened r e a = record {
  matched = BothMatched-redone r a.matched;
  level = omega (arith, e, a.level, level-append r.recorded (redo_of r.pending) (Redoes-of r.pending a.matched.pending).unit_matched);
}

pub IsMatched-unit : (way : Way) (n : ℕ) (r : Record) → BothMatched r → IsMatched (unit_of way n r)
IsMatched-unit Back n r m = IsMatched-last n r.recorded m.recorded
IsMatched-unit Ahead n r m = (Redoes-of r.pending m.pending).unit_matched

pub level-reaches : (way : Way) (n l opened : ℕ) (r : Record) → length r.recorded + length r.pending < 2 ^ 63 → opened ≡ level (unit_of way n r) → AtLevel l r → Reaches way l opened
level-reaches Back n l opened r small e a = omega (arith, e, a.level, level-last n r.recorded a.matched.recorded)
level-reaches Ahead n l opened r small e a =
    omega (
      arith,
      small,
      e,
      a.level,
      level-within r.recorded a.matched.recorded,
      level-within (redo_of r.pending) (IsMatched-unit Ahead 0 r a.matched),
      unit-within Ahead 0 (length (redo_of r.pending)) r a.matched refl,
    )

-- ---- entries that are dropped
pub AtLevel-truncated : (len m n : ℕ) (r : Record) → m ≡ level (take len r.recorded) → AtLevel n r → AtLevel m (truncated len r)
AtLevel-truncated len m n r e a = record { matched = BothMatched-truncated len r a.matched; level = e }

pub front-matched : (xs : List Change) (at : ℕ) → IsMatched (map entry_of xs) → IsMatched (map entry_of (take at xs))
front-matched xs at h =
    IsMatched-front (map entry_of (take at xs)) (map entry_of (drop at xs))
    (subst IsMatched (ap (map entry_of) (sym (take-append-drop at xs)) ∙ map-append entry_of (take at xs) (drop at xs)) h)

-- n groups are open after the first `at` entries
pub record LevelAt (xs : List Change) (len at n : ℕ) : Type 0 where
  pub within : at ≤ length xs
  pub cut : length xs - at ≤ length xs - len
  pub level : n ≡ level (map entry_of (take at xs))

pub opened-before : (xs : List Change) (len at n : ℕ) (z x : Change) → len < at → get_or xs (at - 1) z ≡ x → entry_of x ≡ Begin → LevelAt xs len at n
    → n ≡ suc (level (map entry_of (take (at - 1) xs)))
opened-before xs len at n z x lt e b l = grind (arith, common_steps, level-begin)

pub LevelAt-begin : (xs : List Change) (len at n : ℕ) (z x : Change) → len < at → get_or xs (at - 1) z ≡ x → entry_of x ≡ Begin → LevelAt xs len at n → LevelAt xs len (at - 1) (n - 1)
LevelAt-begin xs len at n z x lt e b l = record {
  within = omega (arith, l.within);
  cut = omega (arith, l.within, lt);
  level = omega (arith, opened-before xs len at n z x lt e b l);
}

pub LevelAt-end : (xs : List Change) (len at n : ℕ) (z x : Change) → IsMatched (map entry_of xs) → len < at → get_or xs (at - 1) z ≡ x → entry_of x ≡ End → LevelAt xs len at n
    → LevelAt xs len (at - 1) (n + 1)
LevelAt-end xs len at n z x m lt e b l = grind (arith, common_steps, level-end, front-matched)

pub level-change : (es : List Entry) (e : Entry) → is_change e ≡ true → level (es ++ e ∷ []) ≡ level es
level-change es (Changed k c) h = ap opens (cut_more-append [] es (Changed k c ∷ []))
level-change es other h = cc

-- one change opens no group
pub AtLevel-one : (way : Way) (n l : ℕ) (r : Record) (e : Entry) → is_change e ≡ true → unit_of way n r ≡ e ∷ [] → AtLevel l r → AtLevel l (moved way n r)
AtLevel-one way n l r e is one a =
    subst (λ k. AtLevel k (moved way n r)) (same way) (AtLevel-moved way n l 0 r (sym (ap level one ∙ level-change [] e is)) a)
  where
    same : (way : Way) → count_over way l 0 ≡ l
    same Back = omega arith
    same Ahead = omega arith

pub LevelAt-change : (xs : List Change) (len at n : ℕ) (z x : Change) → len < at → get_or xs (at - 1) z ≡ x → is_change (entry_of x) ≡ true → LevelAt xs len at n
    → LevelAt xs len (at - 1) n
LevelAt-change xs len at n z x lt e b l = grind (arith, common_steps, level-change)

-- no count is past the list's length
pub LevelAt-small : (xs : List Change) (len at n : ℕ) → IsMatched (map entry_of xs) → LevelAt xs len at n → n ≤ at
LevelAt-small xs len at n m l = grind (arith, level-within, front-matched, length-map, length-take)

pub LevelAt-done : (xs : List Change) (len at n : ℕ) → at ≤ len → LevelAt xs len at n → n ≡ level (take len (map entry_of xs))
LevelAt-done xs len at n le l = l.level ∙ ap level (first-view len at xs (omega (arith, l.within, l.cut, le)))

pub ruleset levels = (AtLevel-begun, AtLevel-truncated, level-within)

pub ruleset levels_counted = (level-counted, deep-next, take_all)

pub ruleset levels_at = (LevelAt-begin, LevelAt-change, LevelAt-done, LevelAt-end, LevelAt-small, opened-before)

pub ruleset moves_of_units = (AtLevel-moved, level-reaches, length-map, GoesAs-all, GoesOver-of, marks-over, moved-at, unit-reaches, unit-within)
