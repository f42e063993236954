-- The ring's slots are the latest groups of kills.
use Rattle.rl_base.proofs.Common.{◌≡◌, ℕ, ◌+◌, ◌<◌, zero, suc, Bool, true, false, List, [], ◌∷◌, ◌++◌, length, take, Option, Some, None, inl, inr, refl, sym, ap, subst, ◌∙◌, arith, false_from_ne_true, slice_get_cases, max, slice_get, Event, InsertChar, InsertStr, Delete, Replace, Stop, Cursors, Action, Kill, Yank, Other, Mode, Ring, in_new_slot, new_ring, side_mode, next_index, killed_as, killed, yank, lent, after_deletion, newest_first, ring_step, FitsLast, IsRing, option_map, Doing, Kills, Resets, Yanks, Hears, ring_done, Groups, no_groups, grown, with_kill, with_deletion, group_step, group_do, group_done, groups_of, AllKills, all_joined, take-nil, slice_get_past, goes_after, new_index, AfterCurrent, AfterNewest, NewKill, Pops, Clears, NoPops, cleared, ruled, yank_popped, popped_ring, turned, index_before, size_of, back_from, join_at}
use Rattle.rl_base.specs.Event.{Start}
use Rattle.rl_base.specs.KillRing.{joined}
use Rattle.rl_base.proofs.Ring.RingLemmas.{IsRing-in_new_slot, length-join}
use Rattle.rl_base.proofs.Ring.SlotLemmas.{Puts, before-below, puts, take-grown, back-join, turned-lends, yank-back}

abbrev is_kill : Action → Bool
is_kill Kill = true
is_kill (Yank _) = false
is_kill Other = false

-- a ring of a size and a rule has the latest groups, and as long as Calm holds, its newest text is the current one
record Holds (Calm : Type 0) (rule : NewKill) (n : ℕ) (r : Ring) (g : Groups) : Type 0 where
  size_is : r.size ≡ n
  rule_is : r.rule ≡ rule
  ring : IsRing r
  lists : newest_first r ≡ take n g.groups
  growing_is : 0 < n → is_kill r.last ≡ g.growing
  killing_is : r.killing ≡ g.killing
  filling : length r.slots < n → r.newest + 1 ≡ max 1 (length r.slots)
  begun : g.growing ≡ true → 0 < n → (0 < length r.slots) × (r.index ≡ r.newest)
  current : Calm → r.index ≡ r.newest
  calm : 0 < n → rule ≡ AfterCurrent → Calm

module _ (Calm : Type 0) (rule : NewKill) where
  abbrev Has : ℕ → Ring → Groups → Type 0
  Has n r g = Holds Calm rule n r g

  -- so a new text goes after the newest
  after-newest : (n : ℕ) (r : Ring) (g : Groups) → 0 < n → Has n r g → goes_after r.rule r.index r.newest ≡ r.newest
  after-newest n r g some h = ap (λ k. goes_after k r.index r.newest) h.rule_is ∙ by rule refl
    where
      by : (k : NewKill) → k ≡ rule → goes_after k r.index r.newest ≡ r.newest
      by AfterNewest e = refl
      by AfterCurrent e = h.current (h.calm some (sym e))

  put_holds : (n : ℕ) (text : List ℕ) (mode : Mode) (r : Ring) (g : Groups) → Has (suc n) r g → is_kill r.last ≡ false
      → Has (suc n) (in_new_slot text r) (with_kill text mode g)
  put_holds n text mode r g h other =
      let at : new_index r ≡ next_index (suc n) r.newest r.slots = rw (h.size_is, after-newest (suc n) r g (omega arith) h) refl in
      let p : Puts n r.newest (new_index r) text r.slots =
      rw at (puts n r.newest text r.slots (omega (arith, h.ring.within, h.size_is)) h.ring.newest_at_slot h.filling) in
      let closed : false ≡ g.growing = sym other ∙ h.growing_is (omega arith) in
      record {
        size_is = h.size_is;
        rule_is = h.rule_is;
        ring = IsRing-in_new_slot text r (omega (arith, h.size_is)) h.ring;
        lists = p.back_is ∙ ap (λ l. text ∷ take n l) h.lists ∙ take-grown g.groups n text ∙ ap (λ b. take (suc n) (grown b text mode g.groups)) closed;
        growing_is = λ _. refl;
        killing_is = h.killing_is;
        filling = p.filling;
        begun = λ _ _. (p.any, refl);
        current = λ _. refl;
        calm = h.calm;
      }

  killed-holds : (n : ℕ) (last : Action) (text : List ℕ) (mode : Mode) (r : Ring) (g : Groups) → last ≡ r.last → Has n r g
      → Has n (killed_as n last text mode r) (with_kill text mode g)
  killed-holds zero last text mode r g l h = record {
    size_is = h.size_is;
    rule_is = h.rule_is;
    ring = record { within = h.ring.within; at_slot = h.ring.at_slot; newest_at_slot = h.ring.newest_at_slot; last_fits = λ some. absurd (omega (arith, h.size_is, some)) };
    lists = h.lists;
    growing_is = λ _. refl;
    killing_is = h.killing_is;
    filling = h.filling;
    begun = λ _ some. absurd (omega arith);
    current = h.current;
    calm = h.calm;
  }
  killed-holds (suc n) (Yank m) text mode r g l h = put_holds n text mode r g h (ap is_kill (sym l))
  killed-holds (suc n) Other text mode r g l h = put_holds n text mode r g h (ap is_kill (sym l))
  killed-holds (suc n) Kill text mode r g l h =
      let grows : true ≡ g.growing = ap is_kill l ∙ h.growing_is (omega arith) in
      let any = h.begun (sym grows) (omega arith) in
      let len = length-join r.slots r.index mode text in
      record {
        size_is = h.size_is;
        rule_is = h.rule_is;
        ring = record {
          within = rw len h.ring.within;
          at_slot = rw len h.ring.at_slot;
          newest_at_slot = rw len h.ring.newest_at_slot;
          last_fits = λ _. (let at = h.ring.at_slot in let some = any.0 in omega (arith, len));
        };
        lists = ap (λ i. back_from r.newest (join_at i mode text r.slots)) any.1
            ∙ back-join r.slots g.groups r.newest (suc n) text mode (let at = h.ring.newest_at_slot in let some = any.0 in omega arith) (omega arith) h.lists
            ∙ ap (λ b. take (suc n) (grown b text mode g.groups)) grows;
        growing_is = λ _. refl;
        killing_is = h.killing_is;
        filling = rw len h.filling;
        begun = λ _ _. (rw len any.0, any.1);
        current = h.current;
        calm = h.calm;
      }

  kill-holds : (n : ℕ) (text : List ℕ) (mode : Mode) (r : Ring) (g : Groups) → Has n r g → Has n (killed text mode r) (with_kill text mode g)
  kill-holds n text mode r g h =
      subst (λ k. Has n (killed_as k r.last text mode r) (with_kill text mode g)) (sym h.size_is) (killed-holds n r.last text mode r g refl h)

  -- with another last action or flag the ring has the same slots
  same_slots-holds : (n : ℕ) (last : Action) (kills grows : Bool) (r : Ring) (g : Groups) → FitsLast last r.size r.index r.slots → Has n r g
      → (0 < n → is_kill last ≡ grows) → (grows ≡ true → 0 < n → (0 < length r.slots) × (r.index ≡ r.newest))
      → Has n (record r { last = last; killing = kills }) (record { groups = g.groups; growing = grows; killing = kills })
  same_slots-holds n last kills grows r g fits h e begun = record {
    size_is = h.size_is;
    rule_is = h.rule_is;
    ring = record { within = h.ring.within; at_slot = h.ring.at_slot; newest_at_slot = h.ring.newest_at_slot; last_fits = fits };
    lists = h.lists;
    growing_is = e;
    killing_is = refl;
    filling = h.filling;
    begun = begun;
    current = h.current;
    calm = h.calm;
  }

  closed-holds : (n : ℕ) (last : Action) (r : Ring) (g : Groups) → FitsLast last r.size r.index r.slots
      → (0 < n → is_kill last ≡ false) → Has n r g → Has n (record r { last = last }) (record g { growing = false })
  closed-holds n last r g fits e h =
      subst (λ b. Has n (record r { last = last }) (record { groups = g.groups; growing = false; killing = b })) h.killing_is
      (same_slots-holds n last r.killing false r g fits h e (λ k. cc))

  flag-holds : (n : ℕ) (b : Bool) (r : Ring) (g : Groups) → Has n r g → Has n (record r { killing = b }) (record g { killing = b })
  flag-holds n b r g h = same_slots-holds n r.last b g.growing r g h.ring.last_fits h h.growing_is h.begun

  -- a yank that answers nothing finds no slot, and then no group grows
  lent-holds : (n : ℕ) (o : Option (List ℕ)) (r : Ring) (g : Groups) → yank r ≡ o → Has n r g → Has n (lent o r) (record g { growing = false })
  lent-holds n (Some text) r g e h = closed-holds n (Yank (length text)) r g (ap (option_map length) e) (λ _. refl) h
  lent-holds n None r g e h =
      let none : length r.slots ≡ 0 =
      elim (slice_get_cases r.slots r.index).1 [ inl some ↦ absurd (cc (e, some.2)) | inr past ↦ omega (arith, past.0, h.ring.at_slot) ] in
      closed-holds n r.last r g h.ring.last_fits (λ some. h.growing_is some ∙ false_from_ne_true g.growing (λ k. let any = (h.begun k some).0 in omega arith)) h

  -- where Calm does not hold, another text may be the current one
  moved-holds : (n : ℕ) (last : Action) (index : ℕ) (r : Ring) (g : Groups) → ¬ Calm → index < max 1 (length r.slots) → FitsLast last r.size index r.slots → is_kill r.last ≡ false
      → is_kill last ≡ false → Has n r g → Has n (record r { index = index; last = last }) g
  moved-holds n last index r g pops at fits was is h = record {
    size_is = h.size_is;
    rule_is = h.rule_is;
    ring = record { within = h.ring.within; at_slot = at; newest_at_slot = h.ring.newest_at_slot; last_fits = fits };
    lists = h.lists;
    growing_is = λ some. is ∙ sym was ∙ h.growing_is some;
    killing_is = h.killing_is;
    filling = h.filling;
    begun = λ grows some. let closed = sym was ∙ h.growing_is some in cc;
    current = λ c. absurd (pops c);
    calm = h.calm;
  }

  popped-holds : (n : ℕ) (r : Ring) (g : Groups) → ¬ Calm → Has n r g → Has n (yank_popped r) g
  popped-holds n r g pops h = by r.last refl
    where
      lends : (m : ℕ) (o : Option (List ℕ)) → Yank m ≡ r.last → yank (turned r) ≡ o → Has n (lent o (turned r)) g
      lends m None l none = let some = turned-lends m r h.ring (sym l) in absurd (cc (some, none))
      lends m (Some text) l some =
          moved-holds n (Yank (length text)) (index_before r.index r.slots) r g pops (before-below r.slots r.index h.ring.at_slot) (ap (option_map length) some) (ap is_kill (sym l)) refl h

      by : (last : Action) → last ≡ r.last → Has n (popped_ring (size_of last) r) g
      by Kill e = h
      by Other e = h
      by (Yank m) e = lends m (yank (turned r)) e refl

  cleared-holds : (n : ℕ) (r : Ring) (g : Groups) → Has n r g → Has n (cleared r) (record g { groups = []; growing = false })
  cleared-holds n r g h = record {
    size_is = h.size_is;
    rule_is = h.rule_is;
    ring = record { within = omega arith; at_slot = omega arith; newest_at_slot = omega arith; last_fits = tt };
    lists = sym (take-nil n);
    growing_is = λ _. refl;
    killing_is = h.killing_is;
    filling = λ _. refl;
    begun = λ k. cc;
    current = λ _. refl;
    calm = h.calm;
  }

  event-holds : (n : ℕ) (event : Event) (r : Ring) (g : Groups) → Has n r g → Has n (ring_step r event) (group_step g event)
  event-holds n (Delete i text side) r g h =
      subst (λ b. Has n (after_deletion r.killing text side r) (with_deletion b text side g)) h.killing_is (by r.killing)
    where
      by : (b : Bool) → Has n (after_deletion b text side r) (with_deletion b text side g)
      by false = h
      by true = kill-holds n text (side_mode side) r g h
  event-holds n Start r g h = flag-holds n true r g h
  event-holds n Stop r g h = flag-holds n false r g h
  event-holds n (InsertChar i c) r g h = h
  event-holds n (InsertStr i s) r g h = h
  event-holds n (Replace i s t) r g h = h
  event-holds n (Cursors b a) r g h = h

  done-holds : (n : ℕ) (ds : List Doing) (r : Ring) (g : Groups) → (Calm → NoPops ds) → Has n r g → Has n (ring_done ds r) (group_done ds g)
  done-holds n [] r g pops h = h
  done-holds n (Kills text mode ∷ ds) r g pops h = done-holds n ds _ _ pops (kill-holds n text mode r g h)
  done-holds n (Resets ∷ ds) r g pops h = done-holds n ds _ _ pops (closed-holds n Other r g tt (λ _. refl) h)
  done-holds n (Yanks ∷ ds) r g pops h = done-holds n ds _ _ pops (lent-holds n (yank r) r g refl h)
  done-holds n (Pops ∷ ds) r g pops h = done-holds n ds _ _ (λ c. absurd (pops c)) (popped-holds n r g pops h)
  done-holds n (Clears ∷ ds) r g pops h = done-holds n ds _ _ pops (cleared-holds n r g h)
  done-holds n (Hears event ∷ ds) r g pops h = done-holds n ds _ _ pops (event-holds n event r g h)

  holds : (n : ℕ) (ds : List Doing) → (0 < n → rule ≡ AfterCurrent → Calm) → (Calm → NoPops ds) → Has n (ring_done ds (ruled rule (new_ring n))) (group_done ds no_groups)
  holds n ds calm pops = done-holds n ds (ruled rule (new_ring n)) no_groups pops (record {
    size_is = refl;
    rule_is = refl;
    ring = record { within = omega arith; at_slot = omega arith; newest_at_slot = omega arith; last_fits = tt };
    lists = sym (take-nil n);
    growing_is = λ _. refl;
    killing_is = refl;
    filling = λ _. refl;
    begun = λ k. cc;
    current = λ _. refl;
    calm = calm;
  })

abbrev done_by : ℕ → NewKill → List Doing → Ring
done_by size rule ds = ring_done ds (ruled rule (new_ring size))

pub ring-holds : (size : ℕ) (rule : NewKill) (ds : List Doing) → 0 < size → (rule ≡ AfterCurrent → NoPops ds)
    → newest_first (ring_done ds (ruled rule (new_ring size))) ≡ take size (groups_of ds)
ring-holds size rule ds h pops = (holds (rule ≡ AfterCurrent) rule size ds (λ _ e. e) pops).lists

pub ring-current : (size : ℕ) (rule : NewKill) (ds : List Doing) → NoPops ds
    → (ring_done ds (ruled rule (new_ring size))).index ≡ (ring_done ds (ruled rule (new_ring size))).newest
ring-current size rule ds pops = (holds (Unit {0}) rule size ds (λ _ _. tt) (λ _. pops)).current tt

-- what a yank gives while the current text is the newest
newest-yanked : (size : ℕ) (rule : NewKill) (ds : List Doing) → 0 < size → (rule ≡ AfterCurrent → NoPops ds)
    → (done_by size rule ds).index ≡ (done_by size rule ds).newest → yank (done_by size rule ds) ≡ slice_get (groups_of ds) 0
newest-yanked size rule ds h pops e =
    let held = holds (rule ≡ AfterCurrent) rule size ds (λ _ e. e) pops in
    let r = done_by size rule ds in
    sym (yank-back r held.ring) ∙ ap (λ i. slice_get (back_from i r.slots) 0) e ∙ ap (λ l. slice_get l 0) held.lists ∙ first size (groups_of ds) h
  where
    first : (n : ℕ) (gs : List (List ℕ)) → 0 < n → slice_get (take n gs) 0 ≡ slice_get gs 0
    first zero gs h = absurd (omega arith)
    first (suc n) [] h = refl
    first (suc n) (g ∷ gs) h = refl

pub ring-newest : (size : ℕ) (rule : NewKill) (ds : List Doing) → 0 < size → NoPops ds
    → yank (ring_done ds (ruled rule (new_ring size))) ≡ slice_get (groups_of ds) 0
ring-newest size rule ds h pops = newest-yanked size rule ds h (λ _. pops) (ring-current size rule ds pops)

pub ring-killed : (size : ℕ) (rule : NewKill) (ds : List Doing) → 0 < size → (rule ≡ AfterCurrent → NoPops ds)
    → (group_done ds no_groups).growing ≡ true → yank (ring_done ds (ruled rule (new_ring size))) ≡ slice_get (groups_of ds) 0
ring-killed size rule ds h pops grows = newest-yanked size rule ds h pops ((holds (rule ≡ AfterCurrent) rule size ds (λ _ e. e) pops).begun grows h).1

-- a ring of size 0 holds nothing
pub ring-empty : (rule : NewKill) (ds : List Doing) → yank (ring_done ds (ruled rule (new_ring 0))) ≡ None
ring-empty rule ds =
    let held = holds ⊥ rule 0 ds (λ some. absurd (omega arith)) (λ c. absurd c) in
    let r = done_by 0 rule ds in
    slice_get_past r.slots r.index (omega (arith, held.ring.within, held.size_is))

-- what a ring keeps: its size and its rule
abbrev pub lasts : Ring → ℕ × NewKill
lasts r = (r.size, r.rule)

pub killed_as-lasts : (size : ℕ) (last : Action) (text : List ℕ) (mode : Mode) (r : Ring) → lasts (killed_as size last text mode r) ≡ lasts r
killed_as-lasts zero last text mode r = refl
killed_as-lasts (suc n) Kill text mode r = refl
killed_as-lasts (suc n) (Yank m) text mode r = refl
killed_as-lasts (suc n) Other text mode r = refl

pub ring_step-lasts : (r : Ring) (event : Event) → lasts (ring_step r event) ≡ lasts r
ring_step-lasts r (Delete i text side) = by r.killing
  where
    by : (b : Bool) → lasts (after_deletion b text side r) ≡ lasts r
    by false = refl
    by true = killed_as-lasts r.size r.last text (side_mode side) r
ring_step-lasts r Start = refl
ring_step-lasts r Stop = refl
ring_step-lasts r (InsertChar i c) = refl
ring_step-lasts r (InsertStr i s) = refl
ring_step-lasts r (Replace i s t) = refl
ring_step-lasts r (Cursors b a) = refl

pub lent-lasts : (o : Option (List ℕ)) (r : Ring) → lasts (lent o r) ≡ lasts r
lent-lasts None r = refl
lent-lasts (Some s) r = refl

-- kills after no kill are one group
pub kills-group : (ks : List Doing) (text : List ℕ) (gs : List (List ℕ)) (b : Bool) → AllKills ks
    → (group_done ks (record { groups = text ∷ gs; growing = true; killing = b })).groups ≡ all_joined text ks ∷ gs
kills-group [] text gs b h = refl
kills-group (Kills t mode ∷ ks) text gs b h = kills-group ks (joined mode text t) gs b h
kills-group (Resets ∷ ks) text gs b h = absurd h
kills-group (Yanks ∷ ks) text gs b h = absurd h
kills-group (Pops ∷ ks) text gs b h = absurd h
kills-group (Clears ∷ ks) text gs b h = absurd h
kills-group (Hears e ∷ ks) text gs b h = absurd h

done-append : (xs ys : List Doing) (g : Groups) → group_done (xs ++ ys) g ≡ group_done ys (group_done xs g)
done-append [] ys g = refl
done-append (x ∷ xs) ys g = done-append xs ys (group_do x g)

pub groups-are-runs : (ds ks : List Doing) (text : List ℕ) (mode : Mode) → (group_done ds no_groups).growing ≡ false → AllKills ks
    → groups_of (ds ++ (Kills text mode ∷ ks)) ≡ all_joined text ks ∷ groups_of ds
groups-are-runs ds ks text mode e h =
    let before = group_done ds no_groups in
    ap (λ (g : Groups). g.groups) (done-append ds (Kills text mode ∷ ks) no_groups)
    ∙ ap (λ b. (group_done ks (record before { groups = grown b text mode before.groups; growing = true })).groups) e
    ∙ kills-group ks text before.groups before.killing h

-- what `ring_holds_groups` says
pub ruleset grouping = (ring-holds, ring-current, ring-newest, ring-killed, ring-empty, groups-are-runs)
