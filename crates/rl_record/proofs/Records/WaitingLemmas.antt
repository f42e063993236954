-- Empty groups that are opened and closed before what waits to be redone.
use Rattle.rl_record.proofs.Common.{AtLevel, Begin, Change, Entry, Freshness, List, None, Option, Record, Some, Walks, [], adds_end, ap, append_assoc, arith, begun, change_count, changes_of, common_steps, cond, cut_at, drop, drop-append-add, drop-map, end_one, end_times, ends_in_begin, entry_of, false, freshness_at, inl, inr, insert, length, length-append, length-map, length-take-le, level, map, map-append, max, not, refl, remove_range, subst, suc, sym, take, take-append-le, take-map, take_all, true, with_closed, zero, ℕ, ◌++◌, ◌+◌, ◌-◌, ◌||◌, ◌∙◌, ◌∷◌, ◌≡◌, ◌≤◌, ◌⊎◌}
use Rattle.rl_base.proofs.Texts.TextLemmas.{is_boundary-true}
use Rattle.rl_base.specs.Event.{apply}
use Rattle.rl_line.specs.Going.{line_back}
use Rattle.rl_line.specs.Line.{Line}
use Rattle.rl_record.proofs.Records.AbandonLemmas.{GroupOpen, open_after}
use Rattle.rl_record.proofs.Records.LastLemmas.{end_one-cases, ends-past}
use Rattle.rl_record.proofs.Records.LevelLemmas.{AtLevel-begun, AtLevel-closed}
use Rattle.rl_record.proofs.Records.PointLemmas.{changes-begin, changes-end_times}
use Rattle.rl_record.proofs.Records.SavePointLemmas.{told-at}
use Rattle.rl_record.proofs.Records.WalkLemmas.{Walks-begun, Walks-closed}
use Rattle.rl_record.specs.Units.{abandoned, is_open, last_of, open_group, open_size, redo_dropped, still_waiting, undone}
use Rattle.std.specs.Str.{IsCharBoundary}
use Rattle.rl_line.specs.declared.change.Change.TheVariants as made

-- ---- empty groups are the Begins at the end
pub ended-empty : (n : ℕ) (es : List Entry) → adds_end n es ≡ false → (n ≤ length es) × (end_times n es ≡ take (length es - n) es)
ended-empty zero es h = (omega arith, sym (take_all (length es - 0) es (omega arith)))
ended-empty (suc n) es h =
    elim (end_one-cases es) [
      | inl c ↦
          let off = ap ends_in_begin c.list_is ∙ ends-past c.front Begin [] in
          let rest : adds_end n c.front ≡ false = ap (adds_end n) (sym c.after_is) ∙ ap (λ b. not b || adds_end n (end_one es)) (sym off) ∙ h in
          let (few, is) = ended-empty n c.front rest in
          let long : length es ≡ suc (length c.front) = ap length c.list_is ∙ omega (arith, length-append c.front (Begin ∷ [])) in
          let same : length c.front - n ≡ length es - suc n = omega (arith, long) in
          (omega (arith, few, long), ap (end_times n) c.after_is ∙ is ∙ sym (take-append-le (length c.front - n) c.front (Begin ∷ []) (omega arith)) ∙ ap (take (length c.front - n)) (sym c.list_is) ∙ ap (λ k. take k es) same)
      | inr c ↦ let wrong : true ≡ false = ap (λ b. not b || adds_end n (end_one es)) (sym c.other) ∙ h in cc
    ]

-- a Begin was added, or the Begins of empty groups were taken off
abbrev pub MarksMoved : List Entry → List Entry → Type 0
MarksMoved es now = (now ≡ es ++ Begin ∷ []) ⊎ ((n : ℕ) × (adds_end n es ≡ false) × (now ≡ end_times n es))

-- the changes stay
pub changes-moved : (es now : List Entry) → MarksMoved es now → changes_of now ≡ changes_of es
changes-moved es now (inl is) = ap changes_of is ∙ changes-begin es
changes-moved es now (inr (n, empty, is)) = ap changes_of is ∙ changes-end_times n es

-- ---- in the list of the code
waiting-view : (k m count : ℕ) (l now es : List Entry) (before fresh : Freshness) (point : Option ℕ) (r : Record) → cut_at k l before point ≡ r → now ≡ es ++ drop k l → m ≡ length es
    → count ≡ change_count es → fresh ≡ freshness_at count point → cut_at m now fresh point ≡ still_waiting es r
waiting-view k m count l now es before fresh point r view is long c f =
    let first : take m now ≡ es = ap (take m) is ∙ ap (λ n. take n (es ++ drop k l)) long ∙ take-append-le (length es) es (drop k l) (omega arith) ∙ take_all (length es) es (omega arith) in
    let rest : drop m now ≡ r.pending = ap (drop m) is ∙ ap (λ n. drop n (es ++ drop k l)) (long ∙ plus (length es)) ∙ drop-append-add es (drop k l) 0 ∙ ap (λ (r : Record). r.pending) view in
    ap (λ xs. record { recorded = xs; pending = drop m now; fresh = fresh; saved = point }) first
    ∙ ap (λ xs. record { recorded = es; pending = xs; fresh = fresh; saved = point }) rest
    ∙ ap (λ x. record { recorded = es; pending = r.pending; fresh = x; saved = point }) (f ∙ ap (λ n. freshness_at n point) c)
    ∙ ap (λ (q : Record). still_waiting es (record { recorded = es; pending = r.pending; fresh = q.fresh; saved = q.saved })) view
  where
    plus : (n : ℕ) → n ≡ n + 0
    plus n = omega arith

pub opened-view : (k count : ℕ) (xs ys : List Change) (before fresh : Freshness) (point : Option ℕ) (r : Record) → cut_at k (map entry_of xs) before point ≡ r → k ≤ length xs → ys ≡ insert xs k made.Begin
    → count ≡ change_count r.recorded → fresh ≡ freshness_at count point → cut_at (k + 1) (map entry_of ys) fresh point ≡ still_waiting (r.recorded ++ Begin ∷ []) r
opened-view k count xs ys before fresh point r view within put c f =
    let l = map entry_of xs in
    let now : map entry_of ys ≡ (take k l ++ Begin ∷ []) ++ drop k l =
    ap (map entry_of) put ∙ map-append entry_of (take k xs) (made.Begin ∷ drop k xs) ∙ ap (λ a. a ++ Begin ∷ map entry_of (drop k xs)) (sym (take-map entry_of k xs)) ∙ ap (λ b. take k l ++ Begin ∷ b) (sym (drop-map entry_of k xs)) ∙ sym (append_assoc (take k l) (Begin ∷ []) (drop k l)) in
    let inside : k ≤ length l = omega (arith, within, length-map xs entry_of) in
    let long : k + 1 ≡ length (take k l ++ Begin ∷ []) = omega (arith, length-append (take k l) (Begin ∷ []), length-take-le k l inside) in
    let same : count ≡ change_count (take k l ++ Begin ∷ []) = c ∙ ap (λ (q : Record). change_count q.recorded) (sym view) ∙ sym (ap length (changes-begin (take k l))) in
    waiting-view k (k + 1) count l (map entry_of ys) (take k l ++ Begin ∷ []) before fresh point r view now long same f
    ∙ ap (λ (q : Record). still_waiting (q.recorded ++ Begin ∷ []) r) view

pub few-empty : (k n : ℕ) (l : List Entry) (before : Freshness) (point : Option ℕ) (r : Record) → cut_at k l before point ≡ r → k ≤ length l → adds_end n r.recorded ≡ false → n ≤ k
few-empty k n l before point r view within empty =
    omega (arith, (ended-empty n r.recorded empty).0, length-take-le k l within, ap (λ (q : Record). length q.recorded) view)

pub dropped-view : (k n count : ℕ) (xs ys : List Change) (before fresh : Freshness) (point : Option ℕ) (r : Record) → cut_at k (map entry_of xs) before point ≡ r → k ≤ length xs → adds_end n r.recorded ≡ false
    → ys ≡ remove_range xs (k - n) k → count ≡ change_count r.recorded → fresh ≡ freshness_at count point → cut_at (k - n) (map entry_of ys) fresh point ≡ still_waiting (end_times n r.recorded) r
dropped-view k n count xs ys before fresh point r view within empty gone c f =
    let l = map entry_of xs in
    let inside : k ≤ length l = omega (arith, within, length-map xs entry_of) in
    let first : take k l ≡ r.recorded = ap (λ (q : Record). q.recorded) view in
    let long : length r.recorded ≡ k = ap length (sym first) ∙ length-take-le k l inside in
    let few = few-empty k n l before point r view inside empty in
    let is = (ended-empty n r.recorded empty).1 in
    let es : take (k - n) l ≡ end_times n r.recorded = sym (take-take_le (k - n) k l (omega arith)) ∙ ap (take (k - n)) first ∙ ap (λ j. take (j - n) r.recorded) (sym long) ∙ sym is in
    let now : map entry_of ys ≡ end_times n r.recorded ++ drop k l =
    ap (map entry_of) gone ∙ map-append entry_of (take (k - n) xs) (drop k xs) ∙ ap (λ a. a ++ map entry_of (drop k xs)) (sym (take-map entry_of (k - n) xs)) ∙ ap (λ b. take (k - n) l ++ b) (sym (drop-map entry_of k xs)) ∙ ap (λ a. a ++ drop k l) es in
    waiting-view k (k - n) count l (map entry_of ys) (end_times n r.recorded) before fresh point r view now (sym (length-take-le (k - n) l (omega (arith, inside))) ∙ ap length es)
    (c ∙ sym (ap length (changes-end_times n r.recorded))) f
  where
    take-take_le : (a b : ℕ) (l : List Entry) → a ≤ b → take a (take b l) ≡ take a l
    take-take_le a b l le = grind (arith, common_steps)

-- ---- the groups
pub AtLevel-opened : (n : ℕ) (r : Record) → AtLevel n r → AtLevel (n + 1) (still_waiting (r.recorded ++ Begin ∷ []) r)
AtLevel-opened n r a =
    let b = AtLevel-begun n r a in record { matched = record { recorded = b.matched.recorded; pending = a.matched.pending }; level = b.level }

pub AtLevel-dropped : (count n : ℕ) (r : Record) → count ≤ level r.recorded → AtLevel n r → AtLevel (n - count) (still_waiting (end_times count r.recorded) r)
AtLevel-dropped count n r few a =
    let c = AtLevel-closed count n r few a in record { matched = record { recorded = c.matched.recorded; pending = a.matched.pending }; level = c.level }

-- the group that was opened last, which is empty, is given up
pub record GivenUp (r : Record) : Type 0 where
  pub opened : is_open r.recorded ≡ true
  pub group : open_group r.recorded ≡ Begin ∷ []
  pub recorded : (abandoned r).recorded ≡ end_times 1 r.recorded
  pub pending : (abandoned r).pending ≡ []

pub given_up : (r : Record) → adds_end 1 r.recorded ≡ false → GivenUp r
given_up r h =
    elim (end_one-cases r.recorded) [
      | inl c ↦
          let g : GroupOpen c.front [] r.recorded = subst (GroupOpen c.front []) (sym c.list_is) (open_after c.front [] refl refl) in
          record {
            opened = g.opened;
            group = ap (λ b. cond b (last_of (open_size r.recorded) r.recorded) []) g.opened ∙ g.unit;
            recorded = ap (λ b. (cond b (redo_dropped (undone (open_size r.recorded) r)) r).recorded) g.opened ∙ g.kept ∙ sym c.after_is;
            pending = ap (λ b. (cond b (redo_dropped (undone (open_size r.recorded) r)) r).pending) g.opened;
          }
      | inr c ↦ let wrong : true ≡ false = ap (λ b. not b || false) (sym c.other) ∙ h in cc
    ]

-- a line goes back over a Begin, and stays
pub back-begin : (line : Line) → IsCharBoundary line.text line.cursor → length line.text ≤ line.limit → line_back (Begin ∷ []) line ≡ Some line
unfolding apply
back-begin line at within =
    let same : max line.limit (length line.text) ≡ line.limit = omega (arith, within) in
    ap (λ b. cond b (Some (record line { limit = max line.limit (length line.text) })) None) (is_boundary-true line.text line.cursor at) ∙ ap (λ n. Some (record line { limit = n })) same

-- ---- the texts to which the record leads
still-walks : (r left : Record) (text : List ℕ) → Walks left text → Walks r text → Walks (still_waiting left.recorded r) text
still-walks r left text v w =
    record { start = v.start; is_text = v.is_text; back = v.back; end = w.end; ahead = w.ahead; stale = told-at (change_count left.recorded) r.saved }

pub Walks-opened : (r : Record) (text : List ℕ) → Walks r text → Walks (still_waiting (r.recorded ++ Begin ∷ []) r) text
Walks-opened r text w = still-walks r (begun r) text (Walks-begun r text w) w

pub Walks-dropped : (n : ℕ) (r : Record) (text : List ℕ) → Walks r text → Walks (still_waiting (end_times n r.recorded) r) text
Walks-dropped n r text w = still-walks r (with_closed n r) text (Walks-closed n r text w) w
