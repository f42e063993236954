-- Entries that walk from a text to another, and a text that goes over them where both cursors of each are asked for.
use Rattle.rl_line.proofs.Common.{Ahead, Back, Begin, Bool, Change, Changed, End, Entry, IsCharBoundary, IsSome, IsUtf8, LeadsTo, Line, List, None, Option, Some, Walk, Way, [], ap, apply, arith, cond, cursor_after, cursor_stands, entries_to_undo, entry_of, entry_to_undo, event_of, false, get_or, has_change, inverse, is_some, length, line_ahead, line_back, map, map-append, option_and_then, order, refl, replay_entries, reverse, same_Some, stepped, subst, suc, sym, take, take_all, text_after, text_back, true, zero, ℕ, ◌++◌, ◌+◌, ◌<◌, ◌↔◌, ◌∙◌, ◌∷◌, ◌≡◌, ◌≤◌}
use Rattle.rl_base.proofs.Texts.SwapLemmas.{apply-IsUtf8}
use Rattle.rl_base.specs.Event.{apply}
use Rattle.rl_line.proofs.Changes.BackLemmas.{line_after-is, line_back-IsSome, text_after-means}
use Rattle.rl_line.proofs.Changes.ChangeLemmas.{ahead-inverse, length-order, mark-leaves}
use Rattle.rl_line.proofs.Changes.InverseLemmas.{inverse-inverse, inverse-undoes, then_both, then_some, through, turned-cons, turned-turned, undoes-inverse, value_of}
use Rattle.rl_line.specs.Change.{way_back}
use Rattle.rl_line.specs.Entry.{changes_of}
use Rattle.rl_line.specs.Retrace.{walk_after, walk_back}
use Rattle.rl_line.specs.Walk.{HasSeveral, WalksOver}
use Rattle.std.proofs.lemmas.List.{take_more}

pub Walk-append : (xs ys : List Entry) (x y z : List ℕ) → Walk xs x y → Walk ys y z → Walk (xs ++ ys) x z
Walk-append [] ys x y z e w = subst (λ t. Walk ys t z) (sym e) w
Walk-append (e ∷ es) ys x y z v w = (v.0, v.1, Walk-append es ys v.0 y z v.2 w)

pub Walk-split : (xs ys : List Entry) (x z : List ℕ) → Walk (xs ++ ys) x z → (y : List ℕ) × Walk xs x y × Walk ys y z
Walk-split [] ys x z w = (x, refl, w)
Walk-split (e ∷ es) ys x z w = let rest = Walk-split es ys w.0 z w.2 in (rest.0, (w.0, w.1, rest.1), rest.2)

pub Walk-IsUtf8 : (es : List Entry) (x y : List ℕ) → IsUtf8 x → Walk es x y → IsUtf8 y
Walk-IsUtf8 [] x y u e = subst IsUtf8 e u
Walk-IsUtf8 (e ∷ es) x y u w = Walk-IsUtf8 es w.0 y (apply-IsUtf8 (event_of e) x w.0 u w.1.makes) w.2

-- ---- where a text and a line go over them
pub Walk-replay : (es : List Entry) (x y : List ℕ) → Walk es x y → replay_entries es x ≡ Some y
Walk-replay [] x y e = ap (λ t. Some t) e
Walk-replay (e ∷ es) x y w = ap (option_and_then (replay_entries es)) w.1.makes ∙ Walk-replay es w.0 y w.2

pub stands-on : (e : Entry) (x y : List ℕ) → apply (event_of e) x ≡ Some y → cursor_stands true e y ≡ true → text_after true e x ≡ Some y
stands-on e x y makes stands = ap (option_and_then (λ t. cond (cursor_stands true e t) (Some t) None)) makes ∙ ap (λ b. cond b (Some y) None) stands

pub Walk-back : (es : List Entry) (x y : List ℕ) → IsUtf8 x → Walk es x y → text_back true es y ≡ Some x
Walk-back [] x y u e = ap (λ t. Some t) (sym e)
Walk-back (e ∷ es) x y u w =
    let v = apply-IsUtf8 (event_of e) x w.0 u w.1.makes in
    ap (option_and_then (text_after true (inverse e))) (Walk-back es w.0 y v w.2)
    ∙ stands-on (inverse e) w.0 x (inverse-undoes e x w.0 u w.1.makes) w.1.before

pub Walk-line_back : (es : List Entry) (x : List ℕ) (line : Line) → IsUtf8 x → Walk es x line.text → IsCharBoundary line.text line.cursor → IsSome (line_back es line)
Walk-line_back es x line u w at = line_back-IsSome es line (Walk-IsUtf8 es x line.text u w) at (subst IsSome (sym (Walk-back es x line.text u w)) refl)

pub Walk-line_ahead : (es : List Entry) (line : Line) (y : List ℕ) → IsUtf8 line.text → Walk es line.text y → IsCharBoundary line.text line.cursor → IsSome (line_ahead es line)
Walk-line_ahead [] line y u w at = refl
Walk-line_ahead (e ∷ es) line y u w at =
    let l = line_after-is e line w.0 u at (stands-on e line.text w.0 w.1.makes w.1.after) in
    subst IsSome (sym (ap (option_and_then (line_ahead es)) l.0))
    (Walk-line_ahead es (stepped line w.0 (cursor_after line.cursor e)) y (apply-IsUtf8 (event_of e) line.text w.0 u w.1.makes) w.2 l.1)

-- entries turned round lead the other way
pub Walk-turned : (es : List Entry) (x y : List ℕ) → IsUtf8 x → Walk es x y → Walk (map inverse (reverse es)) y x
Walk-turned [] x y u e = sym e
Walk-turned (e ∷ es) x y u w =
    let back : LeadsTo (inverse e) w.0 x = record {
      makes = inverse-undoes e x w.0 u w.1.makes;
      before = ap (λ d. cursor_stands true d w.0) (inverse-inverse e) ∙ w.1.after;
      after = w.1.before;
    } in
    subst (λ l. Walk l y x) (sym (turned-cons e es))
    (Walk-append (map inverse (reverse es)) (inverse e ∷ []) y w.0 x (Walk-turned es w.0 y (apply-IsUtf8 (event_of e) x w.0 u w.1.makes) w.2) (x, back, refl))

-- ---- one entry, with both its cursors
walk_after-is : (e : Entry) (text : List ℕ) (b : Bool) → cursor_stands true (inverse e) text ≡ b → walk_after e text ≡ cond b (text_after true e text) None
walk_after-is e text b stands = ap (λ (d : Bool). cond d (text_after true e text) None) stands

walk_after-means : (e : Entry) (text now : List ℕ) → walk_after e text ≡ Some now → (cursor_stands true (inverse e) text ≡ true) × (text_after true e text ≡ Some now)
walk_after-means e text now h = by (cursor_stands true (inverse e) text) refl
  where
    by : (b : Bool) → cursor_stands true (inverse e) text ≡ b → (cursor_stands true (inverse e) text ≡ true) × (text_after true e text ≡ Some now)
    by true stands = (stands, sym (walk_after-is e text true stands) ∙ h)
    by false stands = let none : None ≡ Some now = sym (walk_after-is e text false stands) ∙ h in absurd cc

-- going the other way, the cursor that is tested first is the one that is tested last
pub other_way : (way : Way) (change : Change) → inverse (entry_to_undo (way_back way) change) ≡ inverse (inverse (entry_to_undo way change))
other_way Back change = refl
other_way Ahead change = sym (ap inverse (inverse-inverse (entry_of change)))

-- it stands nowhere, or the entry does not fit
pub walk_after-astray : (e : Entry) (text : List ℕ) → cursor_stands true (inverse e) text ≡ false → walk_after e text ≡ None
walk_after-astray e text stands = walk_after-is e text false stands

pub walk_after-not : (e : Entry) (text : List ℕ) → cursor_stands true (inverse e) text ≡ true → is_some (apply (event_of e) text) ≡ false → walk_after e text ≡ None
walk_after-not e text stands not = walk_after-is e text true stands ∙ none (apply (event_of e) text) not
  where
    none : (o : Option (List ℕ)) → is_some o ≡ false → option_and_then (λ t. cond (cursor_stands true e t) (Some t) None) o ≡ None
    none None h = refl
    none (Some t) h = cc

pub walk_after-over : (e : Entry) (text now : List ℕ) → cursor_stands true (inverse e) text ≡ true → apply (event_of e) text ≡ Some now → walk_after e text ≡ cond (cursor_stands true e now) (Some now) None
walk_after-over e text now stands makes =
    walk_after-is e text true stands ∙ ap (option_and_then (λ t. cond (cursor_stands true e t) (Some t) None)) makes

-- ---- entries
walk_back-means : (es : List Entry) (x y : List ℕ) → IsUtf8 y → walk_back es y ≡ Some x → IsUtf8 x × Walk es x y
walk_back-means [] x y u back = let same : y ≡ x = same_Some _ _ back in (subst IsUtf8 same u, sym same)
walk_back-means (e ∷ es) x y u back =
    let p = through (walk_after (inverse e)) (walk_back es y) x back in
    let rest = walk_back-means es p.0 y u p.1 in
    let both = walk_after-means (inverse e) p.0 x p.2 in
    let last = text_after-means (inverse e) p.0 x both.1 in
    let lead : LeadsTo e x p.0 = record {
      makes = undoes-inverse e x p.0 rest.0 last.0;
      before = last.1;
      after = sym (ap (λ d. cursor_stands true d p.0) (inverse-inverse e)) ∙ both.0;
    } in
    (apply-IsUtf8 (event_of (inverse e)) p.0 x rest.0 last.0, (p.0, lead, rest.1))

walk_back-from : (es : List Entry) (x y : List ℕ) → IsUtf8 x → Walk es x y → walk_back es y ≡ Some x
walk_back-from [] x y u w = ap Some (sym w)
walk_back-from (e ∷ es) x y u w =
    ap (option_and_then (walk_after (inverse e))) (walk_back-from es w.0 y (apply-IsUtf8 (event_of e) x w.0 u w.1.makes) w.2)
    ∙ walk_after-is (inverse e) w.0 true (ap (λ d. cursor_stands true d w.0) (inverse-inverse e) ∙ w.1.after)
    ∙ stands-on (inverse e) w.0 x (inverse-undoes e x w.0 u w.1.makes) w.1.before

pub walks_over : (way : Way) (changes : List Change) (text : List ℕ) (answer : Bool) → IsUtf8 text → answer ≡ is_some (walk_back (entries_to_undo way changes) text)
    → answer ≡ true ↔ WalksOver way (map entry_of changes) text
walks_over Back changes text answer u is =
    let es = map entry_of changes in (
      λ h. let p = value_of (walk_back es text) (sym is ∙ h) in let m = walk_back-means es p.0 text u p.1 in (p.0, m.0, m.1),
      λ w. is ∙ ap is_some (walk_back-from es w.0 text w.1 w.2),
    )
walks_over Ahead changes text answer u is =
    let es = map entry_of changes in
    let turned = map inverse (reverse es) in
    let goes = ap (λ l. walk_back l text) (ahead-inverse changes) in (
      λ h. let p = value_of (walk_back turned text) (sym (is ∙ ap is_some goes) ∙ h) in
          let m = walk_back-means turned p.0 text u p.1 in
          (p.0, subst (λ l. Walk l text p.0) (turned-turned es) (Walk-turned turned p.0 text m.0 m.1)),
      λ w. is ∙ ap is_some (goes ∙ walk_back-from turned w.0 text (Walk-IsUtf8 es text w.0 u w.1) (Walk-turned es text w.0 u w.1)),
    )

-- ---- a text that walks over changes, the last first
-- those before n are left, and walk from the text now to where all walk from the text at first
pub record WalksOn (way : Way) (xs : List Change) (n : ℕ) (text now : List ℕ) : Type 0 where
  pub rest : walk_back (map (entry_to_undo way) (take n xs)) now ≡ walk_back (map (entry_to_undo way) xs) text
  pub within : n ≤ length xs

pub WalksOn-start : (way : Way) (changes : List Change) (text : List ℕ) → WalksOn way (order way changes) (length changes) text text
WalksOn-start way changes text = record {
  rest = ap (λ l. walk_back (map (entry_to_undo way) l) text) (take_all (length changes) (order way changes) (omega (arith, length-order way changes)));
  within = omega (arith, length-order way changes);
}

walk_back-append : (xs ys : List Entry) (text : List ℕ) → walk_back (xs ++ ys) text ≡ option_and_then (walk_back xs) (walk_back ys text)
walk_back-append [] ys text = sym (then_some (walk_back ys text))
walk_back-append (x ∷ xs) ys text =
    ap (option_and_then (walk_after (inverse x))) (walk_back-append xs ys text)
    ∙ sym (then_both (walk_back (x ∷ xs)) (walk_back xs) (walk_after (inverse x)) (λ t. refl) (walk_back ys text))

module _ (way : Way) (xs : List Change) (m : ℕ) (x : Change) (text now : List ℕ) (lt : m < length xs) (read : x ≡ get_or xs m x) (walks : WalksOn way xs (m + 1) text now) where
  one_more : option_and_then (walk_back (map (entry_to_undo way) (take m xs))) (walk_after (inverse (entry_to_undo way x)) now) ≡ walk_back (map (entry_to_undo way) xs) text
  one_more =
      sym (ap (λ l. walk_back (map (entry_to_undo way) l) now) (take_more xs m x lt ∙ ap (λ y. take m xs ++ y ∷ []) (sym read))
      ∙ ap (λ l. walk_back l now) (map-append (entry_to_undo way) (take m xs) (x ∷ []))
      ∙ walk_back-append (map (entry_to_undo way) (take m xs)) (entry_to_undo way x ∷ []) now)
      ∙ walks.rest

  pub WalksOn-next : (next : List ℕ) → walk_after (inverse (entry_to_undo way x)) now ≡ Some next → WalksOn way xs m text next
  WalksOn-next next h = record {
    rest = sym (ap (option_and_then (walk_back (map (entry_to_undo way) (take m xs)))) h) ∙ one_more;
    within = omega arith;
  }

  pub WalksOn-not : is_some (walk_after (inverse (entry_to_undo way x)) now) ≡ false → false ≡ is_some (walk_back (map (entry_to_undo way) xs) text)
  WalksOn-not h = ap is_some (sym (ap (option_and_then (walk_back (map (entry_to_undo way) (take m xs)))) (none (walk_after (inverse (entry_to_undo way x)) now) h)) ∙ one_more)
    where
      none : (o : Option (List ℕ)) → is_some o ≡ false → o ≡ None
      none None h = refl
      none (Some t) h = cc

pub WalksOn-all : (way : Way) (xs : List Change) (text now : List ℕ) → WalksOn way xs 0 text now → true ≡ is_some (walk_back (map (entry_to_undo way) xs) text)
WalksOn-all way xs text now walks = ap is_some walks.rest

-- ---- one change, or none, and marks beside it
Walk-to_changes : (es : List Entry) (x y : List ℕ) → Walk es x y → Walk (changes_of es) x y
Walk-to_changes [] x y w = w
Walk-to_changes (Changed k c ∷ es) x y w = (w.0, w.1, Walk-to_changes es w.0 y w.2)
Walk-to_changes (Begin ∷ es) x y w = let same : w.0 ≡ x = same_Some _ _ (sym w.1.makes ∙ mark-leaves Begin x refl) in Walk-to_changes es x y (subst (λ t. Walk es t y) same w.2)
Walk-to_changes (End ∷ es) x y w = let same : w.0 ≡ x = same_Some _ _ (sym w.1.makes ∙ mark-leaves End x refl) in Walk-to_changes es x y (subst (λ t. Walk es t y) same w.2)

Walk-from_changes : (es : List Entry) (x y : List ℕ) → Walk (changes_of es) x y → Walk es x y
Walk-from_changes [] x y w = w
Walk-from_changes (Changed k c ∷ es) x y w = (w.0, w.1, Walk-from_changes es w.0 y w.2)
Walk-from_changes (Begin ∷ es) x y w = (x, record { makes = mark-leaves Begin x refl; before = refl; after = refl }, Walk-from_changes es x y w)
Walk-from_changes (End ∷ es) x y w = (x, record { makes = mark-leaves End x refl; before = refl; after = refl }, Walk-from_changes es x y w)

changes-walk : (way : Way) (es : List Entry) (text : List ℕ) → WalksOver way (changes_of es) text ↔ WalksOver way es text
changes-walk Back es text = (λ w. (w.0, w.1, Walk-from_changes es w.0 text w.2), λ w. (w.0, w.1, Walk-to_changes es w.0 text w.2))
changes-walk Ahead es text = (λ w. (w.0, Walk-from_changes es text w.0 w.1), λ w. (w.0, Walk-to_changes es text w.0 w.1))

pub lone-walks : (way : Way) (xs : List Change) (x : Change) (text : List ℕ) (answer : Bool) → IsUtf8 text → changes_of (map entry_of xs) ≡ entry_of x ∷ []
    → answer ≡ is_some (walk_after (inverse (entry_to_undo way x)) text) → answer ≡ true ↔ WalksOver way (map entry_of xs) text
lone-walks way xs x text answer u lone is =
    let one = walks_over way (x ∷ []) text answer u (is ∙ alone way) in
    let all = changes-walk way (map entry_of xs) text in (
      λ h. all.0 (subst (λ es. WalksOver way es text) (sym lone) (one.0 h)),
      λ w. one.1 (subst (λ es. WalksOver way es text) lone (all.1 w)),
    )
  where
    alone : (way : Way) → is_some (walk_after (inverse (entry_to_undo way x)) text) ≡ is_some (walk_back (entries_to_undo way (x ∷ [])) text)
    alone Back = refl
    alone Ahead = refl

none-changed : (es : List Entry) → has_change es ≡ false → changes_of es ≡ []
none-changed [] h = refl
none-changed (Changed k c ∷ es) h = cc
none-changed (Begin ∷ es) h = none-changed es h
none-changed (End ∷ es) h = none-changed es h

pub marks-walk : (way : Way) (es : List Entry) (text : List ℕ) → IsUtf8 text → has_change es ≡ false → true ≡ true ↔ WalksOver way es text
marks-walk Back es text u none = (λ h. (changes-walk Back es text).0 (text, u, subst (λ l. Walk l text text) (sym (none-changed es none)) refl), λ w. refl)
marks-walk Ahead es text u none = (λ h. (changes-walk Ahead es text).0 (text, subst (λ l. Walk l text text) (sym (none-changed es none)) refl), λ w. refl)

some-changed : (es : List Entry) → has_change es ≡ true → 0 < length (changes_of es)
some-changed [] h = cc
some-changed (Changed k c ∷ es) h = omega arith
some-changed (Begin ∷ es) h = some-changed es h
some-changed (End ∷ es) h = some-changed es h

pub several-changed : (es : List Entry) → has_change es ≡ true → ¬ (length (changes_of es) ≡ 1) → HasSeveral es
several-changed es some not = more (length (changes_of es)) (some-changed es some) not
  where
    more : (n : ℕ) → 0 < n → ¬ (n ≡ 1) → 1 < n
    more zero some not = omega (arith, some)
    more (suc zero) some not = absurd (not refl)
    more (suc (suc n)) some not = omega arith

-- the cursor that is tested first stands: the text goes over the entry as it goes where only the other is asked for
pub walk_after-stood : (e : Entry) (text : List ℕ) → cursor_stands true (inverse e) text ≡ true → is_some (text_after true e text) ≡ is_some (walk_after e text)
walk_after-stood e text stands = sym (ap is_some (walk_after-is e text true stands))

pub ruleset both_cursors = (other_way, walk_after-astray, walk_after-not, walk_after-over, walk_after-stood)

pub ruleset by_changes = (lone-walks, marks-walk, several-changed)
