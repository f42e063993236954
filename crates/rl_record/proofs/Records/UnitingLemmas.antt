-- What was recorded becomes one unit: its two marks lead nowhere, and the group that they make is the last unit.
use Rattle.rl_record.proofs.Common.{AtLevel, Begin, Bool, BothMatched, Change, End, Entry, Freshness, IsMatched, IsUtf8, Line, List, None, Open, Option, Parted, Record, Some, StaysSaved, UndoUnit, Walk, Walks, Whole, [], ap, append-nil, append_assoc, arith, arrived, both_ways, change_count, close, cond, cond_both, cut_at, cut_more, drop, drop-map, entry_of, eqb-true, false, freshness_at, freshness_told, gone_on, inl, inr, insert, is_at, is_saved, kept_of, last_of, le-leb, leb-true, length, length-append, length-drop, length-map, level, map, map-append, marks, nat_le, not, opens, option_and_then, option_map_or, put_in_first, refl, replay_entries, reverse-append, subst, suc, sym, take, take-append-drop, take-map, take_rest, together, touched, true, units, unwind, waits, ℕ, ◌&&◌, ◌++◌, ◌+◌, ◌-◌, ◌<◌, ◌==◌, ◌∙◌, ◌∷◌, ◌≡◌, ◌≤◌, ◌⊎◌}
use Rattle.rl_base.proofs.Texts.SwapLemmas.{some_is}
use Rattle.rl_base.specs.Event.{apply}
use Rattle.rl_line.proofs.Changes.InverseLemmas.{replay-append, then_some, unwind-append, value_of}
use Rattle.rl_line.proofs.Changes.WalkLemmas.{Walk-append, Walk-split}
use Rattle.rl_record.proofs.Records.GroupLemmas.{Inside}
use Rattle.rl_record.proofs.Records.KeepLemmas.{view-of}
use Rattle.rl_record.proofs.Records.LastLemmas.{told-twice}
use Rattle.rl_record.proofs.Records.LevelLemmas.{level-append}
use Rattle.rl_record.proofs.Records.MarkLemmas.{replay-begin, replay-end}
use Rattle.rl_record.proofs.Records.MatchLemmas.{level-is}
use Rattle.rl_record.proofs.Records.OriginLemmas.{Kept}
use Rattle.rl_record.proofs.Records.PointLemmas.{changes-grouped}
use Rattle.rl_record.proofs.Records.SavePointLemmas.{saved-dropped_all, told-at}
use Rattle.rl_record.proofs.Records.UnitLemmas.{IsMatched-append, IsMatched-front, cut_more-append, flags_on, good_cuts, good_marks, kept-last, marks-append, together-units, units-append, units-good}
use Rattle.rl_record.proofs.Records.WalkLemmas.{mark-leads}
use Rattle.rl_record.specs.Record.{parted}
use Rattle.rl_record.specs.Units.{grouped_from, is_whole, makes_group, put_in_last, taken_in, unit_start, united}
use Rattle.rl_record.specs.declared.changeset.groups.UnitStart.{UnitStart}
use Rattle.std.proofs.Math.Seq.{drop-append-add, take-append-add}
use Rattle.std.proofs.lemmas.Bool.{and_from, and_parts, cond-false, cond-true, eq-eqb, ne_eqb, not-true}
use Rattle.rl_line.specs.declared.change.Change.TheVariants as made

-- ---- whole entries
pub whole-marks : (es : List Entry) → is_whole es ≡ true → marks es [] ≡ Some []
whole-marks es h = from (marks es []) refl h
  where
    from : (o : Option (List Bool)) → marks es [] ≡ o → option_map_or (λ (flags : List Bool). length flags == 0) o false ≡ true → marks es [] ≡ Some []
    from None e w = cc
    from (Some []) e w = e
    from (Some (f ∷ fs)) e w = absurd (omega (arith, eqb-true (length (f ∷ fs)) 0 w))

whole-level : (es : List Entry) → is_whole es ≡ true → level es ≡ 0
whole-level es h = level-is es [] (whole-marks es h)

whole-matched : (es : List Entry) → is_whole es ≡ true → IsMatched es
whole-matched es h = some_is (marks es []) [] (whole-marks es h)

-- counted by the code
whole-counted : (es : List Entry) (n : ℕ) → IsMatched es → n ≡ level es → (n == 0) ≡ is_whole es
whole-counted es n m e =
    let s = value_of (marks es []) m in
    ap (λ k. k == 0) (e ∙ level-is es s.0 s.1) ∙ sym (ap (λ o. option_map_or (λ (flags : List Bool). length flags == 0) o false) s.1)

whole-none : (es : List Entry) → ¬ (IsMatched es) → false ≡ is_whole es
whole-none es h = from (marks es []) refl
  where
    from : (o : Option (List Bool)) → marks es [] ≡ o → false ≡ option_map_or (λ (flags : List Bool). length flags == 0) o false
    from None e = refl
    from (Some fs) e = absurd (h (some_is (marks es []) fs e))

forms : (xs : List Change) (k : ℕ) (b : Bool) → 2 ≤ length xs - k → b ≡ is_whole (map entry_of (take (length xs - k) (drop k xs)))
    → b ≡ (nat_le 2 (length (drop k (map entry_of xs))) && is_whole (drop k (map entry_of xs)))
forms xs k b several e =
    let rest = drop k (map entry_of xs) in
    e ∙ ap (λ l. is_whole (map entry_of l)) (take_rest xs k) ∙ ap is_whole (sym (drop-map entry_of k xs))
    ∙ ap (λ x. x && is_whole rest) (sym (le-leb 2 (length rest) (omega (arith, several, length-drop k (map entry_of xs), length-map xs entry_of))))

pub forms-level : (xs : List Change) (k n : ℕ) → 2 ≤ length xs - k → IsMatched (map entry_of (take (length xs - k) (drop k xs)))
    → n ≡ level (map entry_of (take (length xs - k) (drop k xs))) → (n == 0) ≡ (nat_le 2 (length (drop k (map entry_of xs))) && is_whole (drop k (map entry_of xs)))
forms-level xs k n several m e = forms xs k (n == 0) several (whole-counted (map entry_of (take (length xs - k) (drop k xs))) n m e)

pub forms-none : (xs : List Change) (k : ℕ) → 2 ≤ length xs - k → ¬ (IsMatched (map entry_of (take (length xs - k) (drop k xs))))
    → false ≡ (nat_le 2 (length (drop k (map entry_of xs))) && is_whole (drop k (map entry_of xs)))
forms-none xs k several h = forms xs k false several (whole-none (map entry_of (take (length xs - k) (drop k xs))) h)

-- ---- in the list of the code
pub grouped-put : (k : ℕ) (xs : List Change) → map entry_of (insert xs k made.Begin ++ made.End ∷ []) ≡ grouped_from k (map entry_of xs)
grouped-put k xs =
    ap (map entry_of) (append_assoc (take k xs) (made.Begin ∷ drop k xs) (made.End ∷ [])) ∙ map-append entry_of (take k xs) (made.Begin ∷ (drop k xs ++ made.End ∷ []))
    ∙ ap (λ l. map entry_of (take k xs) ++ Begin ∷ l) (map-append entry_of (drop k xs) (made.End ∷ []))
    ∙ ap (λ l. l ++ Begin ∷ (map entry_of (drop k xs) ++ End ∷ [])) (sym (take-map entry_of k xs))
    ∙ ap (λ l. take k (map entry_of xs) ++ Begin ∷ (l ++ End ∷ [])) (sym (drop-map entry_of k xs))

pub grouped-view : (k n len count : ℕ) (l now : List Entry) (before fresh : Freshness) (point : Option ℕ) (r : Record) → cut_at n l before point ≡ r → r.pending ≡ []
    → now ≡ grouped_from k l → len ≡ length now → count ≡ change_count r.recorded → fresh ≡ freshness_at count point
    → cut_at len now fresh point ≡ arrived (grouped_from k r.recorded) [] r.saved
grouped-view k n len count l now before fresh point r view =
    subst (λ (r : Record). r.pending ≡ [] → now ≡ grouped_from k l → len ≡ length now → count ≡ change_count r.recorded → fresh ≡ freshness_at count point
    → cut_at len now fresh point ≡ arrived (grouped_from k r.recorded) [] r.saved) view
    (λ none g long c f.
    let all : l ≡ take n l = sym (take-append-drop n l) ∙ ap (λ ps. take n l ++ ps) none ∙ append-nil (take n l) in
    let is : now ≡ grouped_from k (take n l) = g ∙ ap (grouped_from k) all in
    let same : count ≡ change_count now = c ∙ sym (ap length (changes-grouped k (take n l))) ∙ ap change_count (sym is) in
    view-of len now fresh point long ∙ ap (λ (x : Freshness). record (arrived now [] point) { fresh = x }) (f ∙ ap (λ m. freshness_at m point) same)
    ∙ ap (λ es. arrived es [] point) is)

-- ---- where the entries lead
pub replay-grouped : (k : ℕ) (es : List Entry) (text : List ℕ) → replay_entries (grouped_from k es) text ≡ replay_entries es text
replay-grouped k es text =
    let front = take k es in
    let rest = drop k es in
    ap (λ l. replay_entries l text) (sym (append_assoc front (Begin ∷ []) (rest ++ End ∷ [])) ∙ sym (append_assoc (front ++ Begin ∷ []) rest (End ∷ [])))
    ∙ replay-end ((front ++ Begin ∷ []) ++ rest) text ∙ replay-append (front ++ Begin ∷ []) rest text ∙ ap (option_and_then (replay_entries rest)) (replay-begin front text)
    ∙ sym (replay-append front rest text) ∙ ap (λ l. replay_entries l text) (take-append-drop k es)

pub unwind-grouped : (k : ℕ) (es : List Entry) (text : List ℕ) → unwind (grouped_from k es) text ≡ unwind es text
unfolding apply
unwind-grouped k es text =
    let front = take k es in
    let rest = drop k es in
    unwind-append front (Begin ∷ (rest ++ End ∷ [])) text ∙ ap (option_and_then (unwind front)) (then_some (unwind (rest ++ End ∷ []) text) ∙ unwind-append rest (End ∷ []) text)
    ∙ sym (unwind-append front rest text) ∙ ap (λ l. unwind l text) (take-append-drop k es)

pub Walk-grouped : (k : ℕ) (es : List Entry) (x y : List ℕ) → Walk es x y → Walk (grouped_from k es) x y
Walk-grouped k es x y w =
    let (mid, first, last) = Walk-split (take k es) (drop k es) x y (subst (λ l. Walk l x y) (sym (take-append-drop k es)) w) in
    Walk-append (take k es) (Begin ∷ (drop k es ++ End ∷ [])) x mid y first
    (mid, (mark-leads mid).0, Walk-append (drop k es) (End ∷ []) mid y y last (y, (mark-leads y).1, refl))

-- ---- its units
-- a group in which all units are closed
close-whole : (within others : List UndoUnit) (inner : List Entry) → opens within ≡ 0
    → close inner (within ++ Open ∷ others) ≡ Whole (Begin ∷ ((together within ++ inner) ++ End ∷ [])) ∷ others
close-whole [] others inner h = refl
close-whole (Open ∷ us) others inner h = absurd (omega (arith, h))
close-whole (Whole es ∷ us) others inner h =
    close-whole us others (es ++ inner) h ∙ ap (λ l. Whole (Begin ∷ (l ++ End ∷ [])) ∷ others) (sym (append_assoc (together us) es inner))

pub units-grouped : (k : ℕ) (es : List Entry) → is_whole (drop k es) ≡ true → units (grouped_from k es) ≡ Whole (Begin ∷ (drop k es ++ End ∷ [])) ∷ units (take k es)
units-grouped k es h =
    let others = units (take k es) in
    let rest = drop k es in
    let good = units-good rest (whole-matched rest h) in
    cut_more-append [] (take k es) (Begin ∷ (rest ++ End ∷ [])) ∙ cut_more-append (Open ∷ others) rest (End ∷ [])
    ∙ ap (close []) (ap (cut_more (Open ∷ others)) (sym (together-units rest)) ∙ good_cuts (units rest) (Open ∷ others) good) ∙ close-whole (units rest) others [] (whole-level rest h)
    ∙ ap (λ l. Whole (Begin ∷ (l ++ End ∷ [])) ∷ others) (append-nil (together (units rest)) ∙ together-units rest)

-- the group is the last unit, and what stands before it is what an undo keeps
pub last-grouped : (k : ℕ) (es : List Entry) → is_whole (drop k es) ≡ true → last_of 1 (grouped_from k es) ≡ Begin ∷ (drop k es ++ End ∷ [])
last-grouped k es h = ap (λ us. together (take 1 us)) (units-grouped k es h)

pub kept-grouped : (k : ℕ) (es : List Entry) → is_whole (drop k es) ≡ true → kept_of 1 (grouped_from k es) ≡ take k es
kept-grouped k es h = ap (λ us. together (drop 1 us)) (units-grouped k es h) ∙ together-units (take k es)

pub level-grouped : (k : ℕ) (es : List Entry) → is_whole (drop k es) ≡ true → level (grouped_from k es) ≡ level es
level-grouped k es h =
    omega (
      arith,
      ap opens (units-grouped k es h),
      ap level (sym (take-append-drop k es)),
      level-append (take k es) (drop k es) (whole-matched (drop k es) h),
      whole-level (drop k es) h,
    )

-- units that open no group mark the group that they stand in
flags-either : (us : List UndoUnit) (fs : List Bool) → opens us ≡ 0 → (b : Bool) × (flags_on us (false ∷ fs) ≡ b ∷ fs)
flags-either [] fs h = (false, refl)
flags-either (Open ∷ us) fs h = absurd (omega (arith, h))
flags-either (Whole es ∷ us) fs h = (true, ap touched (flags-either us fs h).1)

flags-whole : (us : List UndoUnit) (fs : List Bool) → opens us ≡ 0 → 0 < length (together us) → flags_on us (false ∷ fs) ≡ true ∷ fs
flags-whole [] fs h some = absurd (omega (arith, some))
flags-whole (Open ∷ us) fs h some = absurd (omega (arith, h))
flags-whole (Whole es ∷ us) fs h some = ap touched (flags-either us fs h).1

pub IsMatched-grouped : (k : ℕ) (es : List Entry) → is_whole (drop k es) ≡ true → 0 < length (drop k es) → IsMatched es → IsMatched (grouped_from k es)
IsMatched-grouped k es h some m =
    let rest = drop k es in
    let inner : marks rest (false ∷ []) ≡ Some (true ∷ []) =
    ap (λ l. marks l (false ∷ [])) (sym (together-units rest)) ∙ good_marks (units rest) (false ∷ []) (units-good rest (whole-matched rest h))
    ∙ ap Some (flags-whole (units rest) [] (whole-level rest h) (subst (λ l. 0 < length l) (sym (together-units rest)) some)) in
    IsMatched-append (take k es) (Begin ∷ (rest ++ End ∷ [])) (IsMatched-front (take k es) rest (subst IsMatched (sym (take-append-drop k es)) m))
    (some_is (marks (rest ++ End ∷ []) (false ∷ [])) [] (marks-append rest (End ∷ []) (false ∷ []) ∙ ap (option_and_then (marks (End ∷ []))) inner))

-- ---- the record
pub taken-within : (put_in : ℕ) (r : Record) → taken_in put_in r ≤ length r.recorded
taken-within put_in r =
    cond_both (not (put_in == 0) && (put_in_last r.recorded == put_in && not (is_saved r))) _ _ (λ n. n ≤ length r.recorded)
    (λ _. omega (arith, ap length (kept-last 1 r.recorded), length-append (kept_of 1 r.recorded) (last_of 1 r.recorded)))
    (λ _. omega arith)

-- what the entries of a unit that makes a group are
pub record MakesGroup (start : UnitStart) (r : Record) : Type 0 where
  pub more : ¬ (length r.recorded ≡ start.len)
  pub none : r.pending ≡ []
  pub several : 2 ≤ length (drop start.from r.recorded)
  pub whole : is_whole (drop start.from r.recorded) ≡ true

pub MakesGroup-of : (start : UnitStart) (r : Record) → makes_group start r ≡ true → MakesGroup start r
MakesGroup-of start r h =
    let rest = drop start.from r.recorded in
    let (more, others) = and_parts (not (length r.recorded == start.len)) (not (waits r.pending) && (nat_le 2 (length rest) && is_whole rest)) h in
    let (none, unit) = and_parts (not (waits r.pending)) (nat_le 2 (length rest) && is_whole rest) others in
    let (several, whole) = and_parts (nat_le 2 (length rest)) (is_whole rest) unit in
    record { more = λ e. both_ways (length r.recorded == start.len) (not-true _ more) (eq-eqb _ _ e); none = empty r.pending none; several = leb-true 2 (length rest) several; whole = whole }
  where
    empty : (es : List Entry) → not (waits es) ≡ true → es ≡ []
    empty [] h = refl
    empty (e ∷ es) h = cc

-- a record as before, but for its freshness, one with a group, or the same record
pub united-cases : (start : UnitStart) (r : Record) (P : Record → Type 0) → (length r.recorded ≡ start.len → P (gone_on start.was r))
    → (MakesGroup start r → P (arrived (grouped_from start.from r.recorded) [] r.saved)) → P r → P (united start r)
united-cases start r P fresh group same =
    cond_both (length r.recorded == start.len) _ _ P (λ h. fresh (eqb-true (length r.recorded) start.len h))
    (λ _. cond_both (makes_group start r) _ _ P (λ h. group (MakesGroup-of start r h)) (λ _. same))

pub united-group : (start : UnitStart) (r : Record) → makes_group start r ≡ true → united start r ≡ arrived (grouped_from start.from r.recorded) [] r.saved
united-group start r h =
    let m = MakesGroup-of start r h in
    cond-false (length r.recorded == start.len) _ _ (ne_eqb (length r.recorded) start.len m.more) ∙ cond-true (makes_group start r) _ _ h

pub united-made : (start : UnitStart) (r now : Record) → ¬ (length r.recorded ≡ start.len) → r.pending ≡ []
    → (nat_le 2 (length (drop start.from r.recorded)) && is_whole (drop start.from r.recorded)) ≡ true
    → now ≡ arrived (grouped_from start.from r.recorded) [] r.saved → now ≡ united start r
united-made start r now more none unit e =
    e
    ∙ sym (united-group start r
    (and_from (not (length r.recorded == start.len)) _ (ap not (ne_eqb (length r.recorded) start.len more)) (and_from (not (waits r.pending)) _ (ap (λ es. not (waits es)) none) unit)))

pub unit-united : (start : UnitStart) (r now : Record) → now ≡ united start r → makes_group start r ≡ true
    → (last_of 1 now.recorded ≡ Begin ∷ (drop start.from r.recorded ++ End ∷ [])) × (kept_of 1 now.recorded ≡ take start.from r.recorded)
unit-united start r now e h =
    let whole = (MakesGroup-of start r h).whole in
    let is = ap (λ (k : Record). k.recorded) (e ∙ united-group start r h) in
    (ap (last_of 1) is ∙ last-grouped start.from r.recorded whole, ap (kept_of 1) is ∙ kept-grouped start.from r.recorded whole)

pub level-united : (start : UnitStart) (r : Record) → level (united start r).recorded ≡ level r.recorded
level-united start r =
    united-cases start r (λ k. level k.recorded ≡ level r.recorded) (λ _. refl) (λ m. level-grouped start.from r.recorded m.whole) refl

pub BothMatched-united : (start : UnitStart) (r : Record) → BothMatched r → BothMatched (united start r)
BothMatched-united start r b =
    united-cases start r BothMatched (λ _. record { recorded = b.recorded; pending = b.pending })
    (λ m. record { recorded = IsMatched-grouped start.from r.recorded m.whole (omega (arith, m.several)) b.recorded; pending = refl }) b

pub AtLevel-united : (start : UnitStart) (n : ℕ) (r now : Record) → now ≡ united start r → AtLevel n r → AtLevel n now
AtLevel-united start n r now e a = subst (AtLevel n) (sym e) (record { matched = BothMatched-united start r a.matched; level = a.level ∙ sym (level-united start r) })

pub replay-united : (start : UnitStart) (r : Record) (text : List ℕ) → replay_entries (united start r).recorded text ≡ replay_entries r.recorded text
replay-united start r text =
    united-cases start r (λ k. replay_entries k.recorded text ≡ replay_entries r.recorded text) (λ _. refl) (λ _. replay-grouped start.from r.recorded text) refl

pub unwind-united : (start : UnitStart) (r : Record) (text : List ℕ) → unwind (united start r).recorded text ≡ unwind r.recorded text
unwind-united start r text =
    united-cases start r (λ k. unwind k.recorded text ≡ unwind r.recorded text) (λ _. refl) (λ _. unwind-grouped start.from r.recorded text) refl

pub Walks-parted : (r : Record) (text : List ℕ) → Walks r text → Walks (parted r) text
Walks-parted r text w = record { start = w.start; is_text = w.is_text; back = w.back; end = w.end; ahead = w.ahead; stale = refl }

-- it may go on, and can't be told cursors
gone_on-told : (fresh : Freshness) (r : Record) → freshness_told (gone_on fresh r).fresh ≡ (gone_on fresh r).fresh
gone_on-told fresh r = cond_both (is_saved r) Parted (freshness_told fresh) (λ f. freshness_told f ≡ f) (λ _. refl) (λ _. told-twice fresh)

pub Walks-united : (start : UnitStart) (r : Record) (text : List ℕ) → freshness_told start.was ≡ start.was → Walks r text → Walks (united start r) text
Walks-united start r text _ w =
    united-cases start r (λ k. Walks k text) (λ _. record { start = w.start; is_text = w.is_text; back = w.back; end = w.end; ahead = w.ahead; stale = gone_on-told start.was r })
    (λ _.
    record {
      start = w.start;
      is_text = w.is_text;
      back = Walk-grouped start.from r.recorded w.start text w.back;
      end = text;
      ahead = refl;
      stale = told-at (change_count (grouped_from start.from r.recorded)) r.saved;
    }) w

pub Kept-united : (start : UnitStart) (r : Record) (line : Line) → IsUtf8 line.text → Kept r (united start r) line line
Kept-united start r line u = record { origin_is = λ text e. unwind-united start r line.text ∙ e; utf8 = u }

-- the save point stays
pub saved-united : (cs : List Entry) (start : UnitStart) (r : Record) → StaysSaved cs r → StaysSaved cs (united start r)
saved-united cs start r s =
    united-cases start r (StaysSaved cs)
    (λ _. elim s [
      | inl none ↦ inl none
      | inr x ↦ inr (record {
        point = x.point;
        begins = x.begins;
        apart = λ long. ap (λ (b : Bool). cond b Parted (freshness_told start.was)) (ap (is_at (change_count r.recorded)) x.point ∙ eq-eqb (length cs) (change_count r.recorded) (sym long));
        told = λ _. gone_on-told start.was r;
      })
    ])
    (λ m. saved-dropped_all cs (grouped_from start.from r.recorded) r (changes-grouped start.from r.recorded) m.none s) s

-- an open group stays open around the unit
grouped-past : (xs ys : List Entry) (j : ℕ) → grouped_from (length xs + j) (xs ++ ys) ≡ xs ++ grouped_from j ys
grouped-past xs ys j =
    let rest = drop (length xs + j) (xs ++ ys) in
    ap (λ l. l ++ Begin ∷ (rest ++ End ∷ [])) (take-append-add xs ys j) ∙ append_assoc xs (take j ys) (Begin ∷ (rest ++ End ∷ []))
    ∙ ap (λ l. xs ++ (take j ys ++ Begin ∷ (l ++ End ∷ []))) (drop-append-add xs ys j)

pub Inside-united : (front : List Entry) (start : UnitStart) (r : Record) → length front < start.from → Inside front r → Inside front (united start r)
Inside-united front start r later k =
    united-cases start r (Inside front) (λ _. record { inner = k.inner; is = k.is; matched = k.matched }) (λ m.
    let outer = front ++ Begin ∷ [] in
    let j = start.from - length outer in
    let place : start.from ≡ length outer + j = omega (arith, later, length-append front (Begin ∷ [])) in
    let all : r.recorded ≡ outer ++ k.inner = k.is ∙ sym (append_assoc front (Begin ∷ []) k.inner) in
    let rest : drop start.from r.recorded ≡ drop j k.inner = ap (drop start.from) all ∙ ap (λ n. drop n (outer ++ k.inner)) place ∙ drop-append-add outer k.inner j in
    record {
      inner = grouped_from j k.inner;
      is = ap (grouped_from start.from) all ∙ ap (λ n. grouped_from n (outer ++ k.inner)) place ∙ grouped-past outer k.inner j ∙ append_assoc front (Begin ∷ []) (grouped_from j k.inner);
      matched = IsMatched-grouped j k.inner (subst (λ l. is_whole l ≡ true) rest m.whole) (omega (arith, m.several, ap length rest)) k.matched;
    }) k

-- and what is taken in stands in it
last-past : (xs ys : List Entry) → IsMatched ys → length (last_of 1 (xs ++ ys)) ≤ length ys ⊎ (ys ≡ [])
last-past xs ys m = from (units ys) refl
  where
    from : (us : List UndoUnit) → units ys ≡ us → length (last_of 1 (xs ++ ys)) ≤ length ys ⊎ (ys ≡ [])
    from [] e = inr (sym (together-units ys) ∙ ap together e)
    from (u ∷ us) e =
        let same : last_of 1 (xs ++ ys) ≡ last_of 1 ys = ap (λ vs. together (take 1 vs)) (units-append xs ys m ∙ ap (λ vs. vs ++ units xs) e) ∙ sym (ap (λ vs. together (take 1 vs)) e) in
        inl (omega (arith, ap length same, ap length (kept-last 1 ys), length-append (kept_of 1 ys) (last_of 1 ys)))

pub taken-inside : (put_in : ℕ) (front : List Entry) (r : Record) → Inside front r → length front < (unit_start put_in r).from
taken-inside put_in front r k =
    let outer = front ++ Begin ∷ [] in
    let all : r.recorded ≡ outer ++ k.inner = k.is ∙ sym (append_assoc front (Begin ∷ []) k.inner) in
    let long : length r.recorded ≡ suc (length front) + length k.inner = omega (arith, ap length k.is, length-append front (Begin ∷ k.inner)) in
    cond_both (not (put_in == 0) && (put_in_last r.recorded == put_in && not (is_saved r))) _ _ (λ n. length front < length r.recorded - n)
    (λ h.
    let (some, others) = and_parts (not (put_in == 0)) _ h in
    let (text, saved) = and_parts (put_in_last r.recorded == put_in) _ others in
    elim (last-past outer k.inner k.matched) [
      | inl few ↦ omega (arith, few, long, ap (λ l. length (last_of 1 l)) all)
      | inr none ↦
          let last : put_in_last r.recorded ≡ 0 = ap put_in_last (all ∙ ap (λ l. outer ++ l) none ∙ append-nil outer) ∙ ap (λ l. option_map_or length (put_in_first l) 0) (reverse-append front (Begin ∷ [])) in
          absurd (both_ways (put_in == 0) (not-true _ some) (eq-eqb put_in 0 (sym (eqb-true _ _ text) ∙ last)))
    ])
    (λ _. omega (arith, long))

pub ruleset marks_put = (grouped-put)

pub ruleset unit_forms = (forms-level, forms-none)

pub ruleset unit_starts = (taken-within)
