-- What reports lead to.
use Rattle.rl_base.proofs.Common.{◌≡◌, ℕ, ◌+◌, ◌-◌, ◌^◌, ◌<◌, ◌≤◌, ◌⊎◌, inl, inr, Bool, true, false, min, List, [], ◌∷◌, ◌++◌, length, take, drop, fold, encode_utf8, slice_range, Option, Some, None, if◌then◌else◌, refl, sym, ap, subst, ◌∙◌, arith, length-append, take_at, drop_at, OnTrue_at, OnTrue_from, length-take-le, length-drop, IsCharBoundary-start, OnFalse, OnTrue, replace_range, IsCharBoundary, IsUtf8, Joined, Report, ReportKind, Splice, Event, InsertChar, InsertStr, Delete, Replace, Stop, Cursors, AsOne, HasTexts, IsChange, IsLineText, LacksTexts, Leads, LeadsBy, Noted, Queue, ReadsTexts, ReadsWhole, Stand, Tells, WaitLeads, Waiting, Whole, after_texts, apart, as_one, has_room_in, is_change, joined_cursors, kept, new_queue, noted, noting, nothing_joined, oldest, past_oldest, on_last, queue_step, reports_of, splice_of, taken_in, told_cursors, told_whole, with_cursors, with_note, Covers, Splices, folded, untouched, told_note, cond_both, ap₂}
use Rattle.rl_base.specs.declared.listeners.Direction.TheVariants.{Forward, Backward}
use Rattle.rl_base.specs.declared.reports.ReportKind.TheVariants as kind
use Rattle.rl_base.specs.Event.{Start, apply}
use Rattle.rl_base.proofs.Queue.QueueLemmas.{has_room-means, kept-all, length-on_last}
use Rattle.rl_base.proofs.Texts.SpliceLemmas.{Covers-more, Splices-Swaps, Splices-as, Splices-new}
use Rattle.rl_base.proofs.Texts.SwapLemmas.{Swaps, Swaps-back, Swaps-stands, Swaps-InsertChar, Swaps-InsertStr, Swaps-Delete, Swaps-Replace, apply-IsUtf8}

-- a note that is put at the end leads one text further
pub LeadsBy-push : (placed : Bool) (k : ℕ) (n : Noted) (ns : List Noted) (old text new : List ℕ) → LeadsBy placed k ns old text → Tells k n text new → IsLineText new
    → OnTrue placed (Stand n.report.cursors text new) → LeadsBy placed k (ns ++ n ∷ []) old new
LeadsBy-push placed k n [] old text new l t u c = (new, subst (λ x. Tells k n x new) l t, u, subst (λ x. OnTrue placed (Stand n.report.cursors x new)) l c, refl)
LeadsBy-push placed k n (m ∷ ms) old text new l t u c = (l.0, l.1, l.2, l.3, LeadsBy-push placed k n ms l.0 text new l.4 t u c)

-- cursors leave what a note tells
told-same : (k before after : ℕ) (n : Noted) (old new : List ℕ) → Tells k n old new → Tells k (told_note before after n) old new
told-same k before after n old new t =
    cond_both (is_change n.report.kind) (record n.report { cursors = Some (before, after) }) n.report
    (λ r. Tells k (record { report = r; texts = n.texts }) old new)
    (λ _. record { splices = t.splices; texts_are = t.texts_are; mark = t.mark; apart = t.apart }) (λ _. t)

pub LeadsBy-told : (k before after : ℕ) (ns : List Noted) (old new : List ℕ) → LeadsBy false k ns old new
    → LeadsBy false k (on_last (λ n. record { report = told_cursors before after n.report; texts = n.texts }) ns) old new
LeadsBy-told k before after [] old new l = l
LeadsBy-told k before after (n ∷ []) old new l = (l.0, told-same k before after n old l.0 l.1, l.2, tt, l.4)
LeadsBy-told k before after (n ∷ (m ∷ ms)) old new l = (l.0, l.1, l.2, tt, LeadsBy-told k before after (m ∷ ms) l.0 new l.4)

-- cursors of two changes as one
Stand-joined : (first later : Option (ℕ × ℕ)) (old text new : List ℕ) → Stand first old text → Stand later text new → Stand (joined_cursors first later) old new
Stand-joined None later old text new s t = subst (λ x. Stand later x new) s t
Stand-joined (Some first) None old text new s t = (s.0, subst (λ x. IsCharBoundary x first.1) (sym t) s.1)
Stand-joined (Some first) (Some later) old text new s t = (s.0, t.1)

-- one more report as one with what covers the texts before it
Covers-report : (b : Bool) (r : Report) (s : Splice) (old text new : List ℕ) → Covers s old text → Splices (splice_of r) text new → OnFalse b (new ≡ text) → IsLineText text → IsLineText new
    → Covers (if b then folded s r.at r.old_len r.new_len else s) old new
Covers-report true r s old text new c t same u v = Covers-more s r.at r.old_len r.new_len old text new c t u.fits v.fits
Covers-report false r s old text new c t same u v = subst (Covers s old) (sym same) c

joined-note : (placed : Bool) (all : Joined) (k : ℕ) (n : Noted) (old text new : List ℕ) → WaitLeads placed k (AsOne all) old text → Tells k n text new
    → OnTrue placed (Stand n.report.cursors text new) → IsLineText text → IsLineText new → WaitLeads placed k (AsOne (taken_in all n.report)) old new
joined-note placed all k n old text new l t c u v = (
  Covers-report (is_change n.report.kind) n.report all.splice old text new l.0 t.splices t.mark u v,
  OnTrue_from placed _ (λ e. Stand-joined all.cursors n.report.cursors old text new (OnTrue_at e l.1) (OnTrue_at e c)),
)

joined-notes : (placed : Bool) (all : Joined) (k : ℕ) (ns : List Noted) (old text new : List ℕ) → WaitLeads placed k (AsOne all) old text → LeadsBy placed k ns text new → IsLineText text
    → WaitLeads placed k (AsOne (fold taken_in all (reports_of ns))) old new
joined-notes placed all k [] old text new l by u = subst (WaitLeads placed k (AsOne all) old) (sym by) l
joined-notes placed all k (n ∷ ns) old text new l by u =
    joined-notes placed (taken_in all n.report) k ns old by.0 new (joined-note placed all k n old text by.0 l by.1 by.3 u by.2) by.4 by.2

-- all that waits, as one, leads on as it does apart
leads-as_one : (placed : Bool) (k : ℕ) (w : Waiting) (old new : List ℕ) → WaitLeads placed k w old new → IsLineText old → WaitLeads placed k (AsOne (as_one w)) old new
leads-as_one placed k (Whole ns) old new l u =
    joined-notes placed nothing_joined k ns old old new (record { utf8 = u.utf8; fits = u.fits; differ = inl (refl, refl) }, OnTrue_from placed _ (λ e. refl)) l u
leads-as_one placed k (AsOne all) old new l u = l

-- one more note leads one text further, also as what waits is later changed: a note that was put in, and all as one
Leads-note : (placed : Bool) (later : Waiting → Waiting) (q : Queue) (n told : Noted) (old text new : List ℕ)
    → ((ns : List Noted) → later (Whole (ns ++ n ∷ [])) ≡ Whole (ns ++ told ∷ []))
    → ((all : Joined) → later (AsOne (taken_in all n.report)) ≡ AsOne (taken_in all told.report))
    → Leads placed q old text → Tells q.text_room told text new → OnTrue placed (Stand told.report.cursors text new) → IsLineText old → IsLineText text
    → IsLineText new
    → Leads placed (record q { waiting = later (with_note q.room q.text_room n q.waiting); taken = [] }) old new
Leads-note placed later q n told old text new put taken l t c u v w = from q.waiting l
  where
    folds : (waiting : Waiting) → Leads placed (record q { waiting = waiting }) old text
        → Leads placed (record q { waiting = later (AsOne (taken_in (as_one waiting) n.report)); taken = [] }) old new
    folds waiting l = rw (taken (as_one waiting)) record {
      leads = joined-note placed (as_one waiting) q.text_room told old text new (leads-as_one placed q.text_room waiting old text l.leads u) t c v w;
      within = omega arith;
      one = l.one;
    }

    from : (waiting : Waiting) → Leads placed (record q { waiting = waiting }) old text
        → Leads placed (record q { waiting = later (with_note q.room q.text_room n waiting); taken = [] }) old new
    from (AsOne all) l = folds (AsOne all) l
    from (Whole ns) l =
        cond_both (has_room_in q.room q.text_room (length n.texts) (Whole ns)) (Whole (ns ++ n ∷ [])) _
        (λ waiting. Leads placed (record q { waiting = later waiting; taken = [] }) old new)
        (λ room. rw (put ns) record {
          leads = LeadsBy-push placed q.text_room told ns old text new l.leads t w c;
          within = omega (arith, (has_room-means q.room q.text_room (length n.texts) ns None room).place, length-append ns (told ∷ []));
          one = l.one;
        })
        (λ _. folds (Whole ns) l)

-- a swap is told by its report, and a mark by its own
pub Tells-Swaps : (k : ℕ) (which : ReportKind) (i : ℕ) (gone come text new : List ℕ) → is_change which ≡ true → ¬ (which ≡ kind.Folded) → Swaps text new i gone come
    → Tells k (noted k which i gone come) text new
Tells-Swaps k which i gone come text new b f s = record {
  splices = Splices-Swaps text new i gone come s;
  texts_are = ap₂ (λ x y. kept k (x ++ y)) (sym (Swaps-stands text new i gone come s).bytes)
      (sym (Swaps-stands new text i come gone (Swaps-back text new i gone come s)).bytes);
  mark = rw b tt;
  apart = f;
}

-- nothing gave way to nothing at the start
Splices-nothing : (text : List ℕ) → IsUtf8 text → Splices (record { from = 0; old_end = 0; new_end = 0 }) text text
Splices-nothing text u =
    let start = IsCharBoundary-start text u in
    record { old_order = omega arith; new_order = omega arith; old_from = start; new_from = start; old_to = start; new_to = start; before = refl; after = refl }

pub Tells-mark : (k : ℕ) (which : ReportKind) (text : List ℕ) → IsLineText text → is_change which ≡ false → Tells k (noted k which 0 [] []) text text
Tells-mark k which text u b = record {
  splices = Splices-nothing text u.utf8;
  texts_are = refl;
  mark = rw b refl;
  apart = λ e. let same : true ≡ false = sym (ap is_change e) ∙ b in absurd cc;
}

-- a change is heard as a note
heard_as : (P : Queue → Type 0) (q : Queue) (event : Event) (text new : List ℕ) → IsLineText text → IsChange event → apply event text ≡ Some new
    → ((which : ReportKind) (i : ℕ) (gone come : List ℕ) → is_change which ≡ true → Tells q.text_room (noted q.text_room which i gone come) text new
    → P (noting which i gone come q)) → P (queue_step q event)
heard_as P q event text new v is h note = from event is h
  where
    told : (which : ReportKind) (i : ℕ) (gone come : List ℕ) → is_change which ≡ true → ¬ (which ≡ kind.Folded) → Swaps text new i gone come
        → P (noting which i gone come q)
    told which i gone come b f s = note which i gone come b (Tells-Swaps q.text_room which i gone come text new b f s)

    from : (e : Event) → IsChange e → apply e text ≡ Some new → P (queue_step q e)
    from (InsertChar i c) is h = told kind.CharInserted i [] (encode_utf8 c) refl (λ e. absurd cc) (Swaps-InsertChar text new i c v.utf8 h)
    from (InsertStr i s) is h = told kind.TextInserted i [] s refl (λ e. absurd cc) (Swaps-InsertStr text new i s v.utf8 h)
    from (Delete i s Forward) is h = told kind.DeletedForward i s [] refl (λ e. absurd cc) (Swaps-Delete text new i s Forward v.utf8 h)
    from (Delete i s Backward) is h = told kind.DeletedBackward i s [] refl (λ e. absurd cc) (Swaps-Delete text new i s Backward v.utf8 h)
    from (Replace i s t) is h = told kind.Replaced i s t refl (λ e. absurd cc) (Swaps-Replace text new i s t v.utf8 h)
    from Start is h = absurd is
    from Stop is h = absurd is
    from (Cursors b a) is h = absurd is

-- a kill's start and stop leave the text
pub marked : (placed : Bool) (q : Queue) (old new : List ℕ) → Leads placed q old new → IsLineText old → IsLineText new → Leads placed (queue_step q Start) old new × Leads placed (queue_step q Stop) old new
marked placed q old new l u v = (mark kind.KillStarted refl, mark kind.KillStopped refl)
  where
    mark : (which : ReportKind) → is_change which ≡ false → Leads placed (noting which 0 [] [] q) old new
    mark which b =
        let n = noted q.text_room which 0 [] [] in
        Leads-note placed (λ w. w) q n n old new new (λ _. refl) (λ _. refl) l (Tells-mark q.text_room which new v b) (OnTrue_from placed _ (λ e. refl)) u v v

-- cursors that are told after a change are those of its note
pub on_last-one : (f : Noted → Noted) (ns : List Noted) (n : Noted) → on_last f (ns ++ n ∷ []) ≡ ns ++ f n ∷ []
on_last-one f [] n = refl
on_last-one f (m ∷ []) n = refl
on_last-one f (m ∷ (k ∷ ks)) n = ap (λ l. m ∷ l) (on_last-one f (k ∷ ks) n)

joined-none : (c : Option (ℕ × ℕ)) → joined_cursors c None ≡ c
joined-none None = refl
joined-none (Some c) = refl

pub placed : (q : Queue) (event : Event) (before after : ℕ) (old text new : List ℕ) → Leads true q old text → IsLineText old → IsLineText text → length new < 2 ^ 64
    → IsChange event → IsCharBoundary text before → apply event text ≡ Some new → IsCharBoundary new after → Leads true (queue_step (queue_step q event) (Cursors before after)) old new
placed q event before after old text new l u v fits is b h a =
    heard_as (λ now. Leads true (queue_step now (Cursors before after)) old new) q event text new v is h λ which i gone come change t.
    let n = noted q.text_room which i gone come in
    let told : Noted = record { report = record n.report { cursors = Some (before, after) }; texts = n.texts } in
    Leads-note true (with_cursors before after) q n told old text new
    (λ ns. ap Whole (on_last-one _ ns n ∙ ap (λ c. ns ++ record { report = if c then told.report else n.report; texts = n.texts } ∷ []) change))
    (λ all. ap (λ c. AsOne (record { splice = (taken_in all n.report).splice; cursors = joined_cursors c (Some (before, after)) })) (joined-none all.cursors))
    l (record { splices = t.splices; texts_are = t.texts_are; mark = t.mark; apart = t.apart }) (b, a) u v
    (record { utf8 = apply-IsUtf8 event text new v.utf8 h; fits = fits })

-- cursors that are told alone leave where a queue leads
apart-told : (before after : ℕ) (w : Waiting) → apart (with_cursors before after w) ≡ apart w
apart-told before after (Whole ns) = length-on_last (λ n. record { report = told_cursors before after n.report; texts = n.texts }) ns
apart-told before after (AsOne all) = refl

waits-told : (k before after : ℕ) (w : Waiting) (old new : List ℕ) → WaitLeads false k w old new → WaitLeads false k (with_cursors before after w) old new
waits-told k before after (Whole ns) old new l = LeadsBy-told k before after ns old new l
waits-told k before after (AsOne all) old new l = (l.0, tt)

pub heard : (q : Queue) (event : Event) (old text new : List ℕ) → Leads false q old text → IsLineText old → IsLineText text → length new < 2 ^ 64
    → apply event text ≡ Some new → Leads false (queue_step q event) old new
unfolding apply
heard q event old text new l u v fits h = from event h
  where
    after : IsLineText new
    after = record { utf8 = apply-IsUtf8 event text new v.utf8 h; fits = fits }

    change : (e : Event) → IsChange e → apply e text ≡ Some new → Leads false (queue_step q e) old new
    change e is h = heard_as (λ now. Leads false now old new) q e text new v is h λ which i gone come c t.
        let n = noted q.text_room which i gone come in Leads-note false (λ w. w) q n n old text new (λ _. refl) (λ _. refl) l t tt u v after

    from : (e : Event) → apply e text ≡ Some new → Leads false (queue_step q e) old new
    from (InsertChar i c) h = change (InsertChar i c) tt h
    from (InsertStr i s) h = change (InsertStr i s) tt h
    from (Delete i s side) h = change (Delete i s side) tt h
    from (Replace i s t) h = change (Replace i s t) tt h
    from Start h = let same : text ≡ new = cc in (marked false q old new (subst (Leads false q old) same l) u after).0
    from Stop h = let same : text ≡ new = cc in (marked false q old new (subst (Leads false q old) same l) u after).1
    from (Cursors b a) h =
        let same : text ≡ new = cc in
        record { leads = waits-told q.text_room b a q.waiting old new (subst (WaitLeads false q.text_room q.waiting old) same l.leads); within = rw (apart-told b a q.waiting) l.within; one = l.one }

pub new_leads : (placed : Bool) (room text_room : ℕ) (text : List ℕ) → Leads placed (new_queue room text_room) text text
new_leads placed room text_room text = record { leads = refl; within = omega arith; one = λ e. rw e (omega arith) }

-- ---- what is read
pub nothing : (placed : Bool) (q : Queue) (old new : List ℕ) → Leads placed q old new → oldest q.waiting ≡ None → new ≡ old
nothing placed q old new l h = from q.waiting l.leads h
  where
    from : (w : Waiting) → WaitLeads placed q.text_room w old new → oldest w ≡ None → new ≡ old
    from (Whole []) l h = l
    from (Whole (n ∷ ns)) l h = absurd cc
    from (AsOne all) l h = absurd cc

slice-length : (x : List ℕ) (i n : ℕ) → i + n ≤ length x → length (slice_range x i (i + n)) ≡ n
slice-length x i n le = length-take-le ((i + n) - i) (drop i x) (omega (arith, length-drop i x)) ∙ omega arith

pub with_texts : (placed : Bool) (q : Queue) (note : Noted) (old new : List ℕ) → Leads placed q old new → IsLineText old → oldest q.waiting ≡ Some note → HasTexts q.text_room note.report
    → ReadsTexts placed q note old new
with_texts placed q note old new l u is has = from q.waiting l.leads l.within is
  where
    from : (w : Waiting) → WaitLeads placed q.text_room w old new → apart w ≤ q.room → oldest w ≡ Some note → ReadsTexts placed (record q { waiting = w }) note old new
    from (Whole []) l within h = absurd cc
    from (AsOne all) l within h =
        let same : record { report = told_whole all; texts = [] } ≡ note = cc in
        absurd (has.apart (ap (λ (n : Noted). n.report.kind) (sym same)))
    from (Whole (n ∷ ns)) by within h =
        let same : n ≡ note = cc in
        let t : Tells q.text_room note old by.0 = subst (λ m. Tells q.text_room m old by.0) same by.1 in
        let r = note.report in
        let gone = slice_range old r.at (r.at + r.old_len) in
        let come = slice_range by.0 r.at (r.at + r.new_len) in
        let texts : note.texts ≡ gone ++ come = t.texts_are ∙ kept-all q.text_room (gone ++ come) has.kept in
        let went : length gone ≡ r.old_len = slice-length old r.at r.old_len t.splices.old_to.0 in
        let after : drop r.old_len note.texts ≡ come = ap (drop r.old_len) texts ∙ drop_at gone come r.old_len went in
        let next : after_texts note old ≡ by.0 = ap (replace_range old r.at (r.at + r.old_len)) after ∙ Splices-new (splice_of r) old by.0 t.splices in
        record {
          text = rw next by.2;
          tells = record {
            went = ap (take r.old_len) texts ∙ take_at gone come r.old_len went;
            came = ap length after ∙ slice-length by.0 r.at r.new_len t.splices.new_to.0;
            mark = rw next t.mark;
          };
          cursors = rw (next, ← same) by.3;
          rest = rw next record { leads = by.4; within = omega (arith, within); one = l.one };
        }

-- all as one report tells what it covers
Splices-told : (all : Joined) (old new : List ℕ) → Covers all.splice old new → Splices (splice_of (told_whole all)) old new
Splices-told all old new c = from c.differ
  where
    from : ((all.splice ≡ untouched) × (new ≡ old)) ⊎ Splices all.splice old new → Splices (splice_of (told_whole all)) old new
    from (inl same) = rw (same.0, same.1) (Splices-nothing old c.utf8)
    from (inr s) =
        let order : all.splice.from ≤ all.splice.old_end = s.old_order in
        let order_new : all.splice.from ≤ all.splice.new_end = s.new_order in
        let at : min all.splice.from all.splice.old_end ≡ all.splice.from = omega arith in
        Splices-as old new all.splice.from all.splice.old_end all.splice.new_end _ _ _ (sym at) (omega (arith, at)) (omega (arith, at)) s

pub whole : (placed : Bool) (q : Queue) (note : Noted) (old new : List ℕ) → Leads placed q old new → oldest q.waiting ≡ Some note → LacksTexts q.text_room note.report
    → ReadsWhole placed q note old new
whole placed q note old new l is lacks = from q.waiting l.leads l.within is
  where
    read : (w : Waiting) (n : Noted) → n ≡ note → Splices (splice_of n.report) old new → OnTrue placed (Stand n.report.cursors old new) → oldest (past_oldest (record q { waiting = w })).waiting ≡ None
        → Leads placed (past_oldest (record q { waiting = w })) new new → ReadsWhole placed (record q { waiting = w }) note old new
    read w n same s c all rest = rw (← same) record { all = all; tells = Splices-new (splice_of n.report) old new s; cursors = c; rest = rest }

    left : (texts : List ℕ) → Leads placed (record q { waiting = Whole []; taken = texts }) new new
    left texts = record { leads = refl; within = omega arith; one = l.one }

    alone : (n : Noted) (ns : List Noted) → n ≡ note → ¬ (n.report.kind ≡ kind.Folded) → length (n ∷ ns) ≤ q.room → ns ≡ []
    alone n [] same f within = refl
    alone n (m ∷ ms) same f within = absurd (elim lacks [ inl none ↦ omega (arith, within, l.one none) | inr fold ↦ f (ap (λ (x : Noted). x.report.kind) same ∙ fold) ])

    from : (w : Waiting) → WaitLeads placed q.text_room w old new → apart w ≤ q.room → oldest w ≡ Some note → ReadsWhole placed (record q { waiting = w }) note old new
    from (Whole []) l within h = absurd cc
    from (AsOne all) l within h =
        let same : record { report = told_whole all; texts = [] } ≡ note = cc in read (AsOne all) _ same (Splices-told all old new l.0) l.1 refl (left [])
    from (Whole (n ∷ ns)) by within h =
        let same : n ≡ note = cc in
        let none : ns ≡ [] = alone n ns same by.1.apart within in
        let ends : new ≡ by.0 = subst (λ rest. LeadsBy placed q.text_room rest by.0 new) none by.4 in
        rw none (read (Whole (n ∷ [])) n same (subst (Splices (splice_of n.report) old) (sym ends) by.1.splices) (subst (λ x. OnTrue placed (Stand n.report.cursors old x)) (sym ends) by.3) refl (left n.texts))
