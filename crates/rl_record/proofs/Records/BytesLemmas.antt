-- Entries and records as bytes.
use Rattle.rl_record.proofs.Common.{Begin, Change, Changed, End, Entry, Freshness, IfOk, IfSome, IsApart, IsUtf8, List, None, Option, Record, Some, [], ap, ap₂, arith, change_count, cut_at, drop_at, entry_of, get_or, get_or-map, inverse, kept_point, length, length-append, length-map, map, min, refl, subst, sym, take, take_at, ℕ, ◌++◌, ◌+◌, ◌-◌, ◌<◌, ◌^◌, ◌∙◌, ◌≡◌}
use Rattle.rl_base.proofs.Texts.SavingLemmas.{length-numbers, put-more}
use Rattle.rl_base.specs.Saving.{numbers}
use Rattle.rl_base.specs.declared.saving.Width.TheVariants.{Eight, Four}
use Rattle.rl_line.specs.Entry.{new_text, old_text}
use Rattle.rl_record.proofs.Records.MoveLemmas.{of_kind}
use Rattle.rl_record.specs.SavedRecord.{FitsEntry, IsSavedEntry, IsSavedRecord, entry_numbers, record_numbers, saved_entries, saved_entry, saved_record}
use Rattle.std.specs.Option.{ok_or}

-- what goes when an entry is taken back came with it
pub old-inverse : (e : Entry) → old_text (inverse e) ≡ new_text e
old-inverse Begin = refl
old-inverse End = refl
old-inverse (Changed k c) = refl

pub IsSavedEntry-of : (change : Change) → FitsEntry (entry_of change) → IsUtf8 (old_text (entry_of change)) → IsUtf8 (new_text (entry_of change)) → IsSavedEntry (entry_of change)
IsSavedEntry-of change fits old new = record { fits = fits; kind = of_kind change; old = old; new = new }

-- a change that stands at i has its entry at i of the entries
pub entry_at : (changes : List Change) (i : ℕ) (change : Change) → i < length changes → change ≡ get_or changes i change
    → (i < length (map entry_of changes)) × (get_or (map entry_of changes) i (entry_of change) ≡ entry_of change)
entry_at changes i change at is =
    (subst (λ n. i < n) (sym (length-map changes entry_of)) at, get_or-map entry_of changes i change (entry_of change) at ∙ ap entry_of (sym is))

-- how long an entry is, and a record
pub entry-length : (e : Entry) (old new : List ℕ) (len : ℕ) → old ≡ old_text e → new ≡ new_text e
    → len ≡ min (min (length old + length new) (2 ^ 64 - 1) + 24) (2 ^ 64 - 1) → len ≡ min (length (saved_entry e)) (2 ^ 64 - 1)
unfolding saved_entry
entry-length e old new len o n is =
    omega (
      arith,
      is,
      ap length o,
      ap length n,
      length-append (numbers Four (entry_numbers e)) (old_text e ++ new_text e),
      length-append (old_text e) (new_text e),
      length-numbers Four (entry_numbers e),
    )

pub entries-length : (es : List Entry) (i : ℕ) (e d : Entry) (before len one : ℕ) → i < length es → get_or es i d ≡ e
    → before ≡ min (length (saved_entries (take i es))) (2 ^ 64 - 1) → one ≡ min (length (saved_entry e)) (2 ^ 64 - 1)
    → len ≡ min (before + one) (2 ^ 64 - 1) → len ≡ min (length (saved_entries (take (i + 1) es))) (2 ^ 64 - 1)
unfolding saved_entries
entries-length es i e d before len one at is were its both =
    let more = ap length (put-more saved_entry [] es i d at) in
    omega (arith, more, were, its, both, ap (λ x. length (saved_entry x)) is, length-append (saved_entries (take i es)) (saved_entry (get_or es i d)))

pub record-length : (r : Record) (entries len : ℕ) → entries ≡ min (length (saved_entries (r.recorded ++ r.pending))) (2 ^ 64 - 1)
    → len ≡ min (entries + 48) (2 ^ 64 - 1) → len ≡ min (length (saved_record r)) (2 ^ 64 - 1)
unfolding saved_record
record-length r entries len were is =
    omega (arith, were, is, length-append (numbers Eight (record_numbers r)) (saved_entries (r.recorded ++ r.pending)), length-numbers Eight (record_numbers r))

-- a record whose entries are cut where it is
pub cut-here : (r : Record) → cut_at (length r.recorded) (r.recorded ++ r.pending) r.fresh r.saved ≡ r
cut-here r =
    ap₂ (λ xs ys. record { recorded = xs; pending = ys; fresh = r.fresh; saved = r.saved }) (take_at r.recorded r.pending (length r.recorded) refl) (drop_at r.recorded r.pending (length r.recorded) refl)

-- it stands where a record that can be read again may
pub cut-stands : (r : Record) (n : ℕ) (es : List Entry) (fresh : Freshness) (saved : Option ℕ) → IsSavedRecord r → es ≡ r.recorded ++ r.pending → n ≡ length r.recorded → fresh ≡ r.fresh → saved ≡ r.saved
    → (kept_point (change_count es) saved ≡ saved) × IsApart (cut_at n es fresh saved)
cut-stands r n es fresh saved s e long f p =
    let is : cut_at n es fresh saved ≡ r =
    ap (λ k. cut_at k es fresh saved) long ∙ ap (λ l. cut_at (length r.recorded) l fresh saved) e ∙ ap (λ x. cut_at (length r.recorded) (r.recorded ++ r.pending) x saved) f
    ∙ ap (cut_at (length r.recorded) (r.recorded ++ r.pending) r.fresh) p ∙ cut-here r in
    (ap (λ l. kept_point (change_count l) saved) e ∙ ap (kept_point (change_count (r.recorded ++ r.pending))) p ∙ s.point ∙ sym p, subst IsApart (sym is) s.apart)

pub ruleset records = (cut-here)

-- what holds of what is there
pub ok-some : {X E : Type 0} (o : Option X) (e : E) (P : X → Type 0) → IfSome o P → IfOk (ok_or o e) P
ok-some None e P p = tt
ok-some (Some x) e P p = p
