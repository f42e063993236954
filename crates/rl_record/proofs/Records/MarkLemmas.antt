-- The record after a begin, an end, a redo and a truncation leads back to the same text.
use Rattle.rl_record.proofs.Common.{Begin, Bool, End, Entry, IsUtf8, Line, List, None, Option, Record, Redone, Some, [], agree, ap, end_one, ends_in_end, event_of, inl, inr, inverse, length, option_and_then, redo_of, refl, replay_entries, replays_to, same_text, sym, take, true, truncated, unwind, ℕ, ◌++◌, ◌-◌, ◌∙◌, ◌∷◌, ◌≡◌}
use Rattle.rl_base.specs.Event.{apply}
use Rattle.rl_line.proofs.Changes.BackLemmas.{line_ahead-replay}
use Rattle.rl_line.proofs.Changes.InverseLemmas.{replay-IsUtf8, replay-append, then_some, unwind-append, unwind-replay}
use Rattle.rl_record.proofs.Records.LastLemmas.{end-last, end_one-cases}
use Rattle.rl_record.proofs.Records.OriginLemmas.{Kept}

-- a mark changes nothing
pub unwind-end_one : (es : List Entry) (text : List ℕ) → unwind (end_one es) text ≡ unwind es text
unfolding apply
unwind-end_one [] text = refl
unwind-end_one (Begin ∷ []) text = refl
unwind-end_one (e ∷ []) text = refl
unwind-end_one (e ∷ (d ∷ ds)) text = ap (option_and_then (apply (event_of (inverse e)))) (unwind-end_one (d ∷ ds) text)

-- nor where entries lead
pub replay-begin : (es : List Entry) (start : List ℕ) → replay_entries (es ++ (Begin ∷ [])) start ≡ replay_entries es start
unfolding apply
replay-begin es start = replay-append es (Begin ∷ []) start ∙ then_some (replay_entries es start)

pub replay-end : (es : List Entry) (start : List ℕ) → replay_entries (es ++ (End ∷ [])) start ≡ replay_entries es start
unfolding apply
replay-end es start = replay-append es (End ∷ []) start ∙ then_some (replay_entries es start)

pub replay-end_one : (es : List Entry) (start : List ℕ) → replay_entries (end_one es) start ≡ replay_entries es start
replay-end_one es start =
    elim (end_one-cases es) [
      | inl c ↦ ap (λ x. replay_entries x start) c.after_is ∙ sym (replay-begin c.front start) ∙ ap (λ x. replay_entries x start) (sym c.list_is)
      | inr c ↦ ap (λ x. replay_entries x start) c.after_is ∙ replay-end es start
    ]

pub agree-same : (o p : Option (List ℕ)) → agree o p ≡ true → o ≡ p
agree-same (Some a) (Some b) h = ap (λ t. Some t) (same_text a b (sym h))
agree-same None p h = cc
agree-same (Some a) None h = cc

pub unwind-truncated : (len : ℕ) (r : Record) (text : List ℕ) → replays_to len r text ≡ true → unwind (truncated len r).recorded text ≡ unwind r.recorded text
unwind-truncated len r text h = sym (agree-same (unwind r.recorded text) (unwind (take len r.recorded) text) h)

pub unwind-cut : (es : List Entry) (text : List ℕ) → ends_in_end es ≡ true → unwind (take (length es - 1) es) text ≡ unwind es text
unfolding apply
unwind-cut es text h =
    let e = end-last es h in ap (λ ks. unwind ks text) e.cut ∙ sym (ap (λ ks. unwind ks text) e.is ∙ unwind-append e.front (End ∷ []) text)

-- the entries that were made again are taken back first
pub unwind-redone : (r now : Record) (old new : Line) (x : Bool) → IsUtf8 old.text → Redone r now old new x → unwind now.recorded new.text ≡ unwind r.recorded old.text
unwind-redone r now old new x u d =
    let unit = redo_of r.pending in
    let back : unwind unit new.text ≡ Some old.text = unwind-replay unit old.text new.text u (line_ahead-replay unit old new d.line_is) in
    ap (λ (k : Record). unwind k.recorded new.text) d.record_is ∙ unwind-append r.recorded unit new.text ∙ ap (option_and_then (unwind r.recorded)) back

-- so a redo keeps where the record came from
pub Kept-Redone : (r now : Record) (old new : Line) (a : Bool) → IsUtf8 old.text → Redone r now old new a → Kept r now old new
Kept-Redone r now old new a u d = record {
  origin_is = λ start e. unwind-redone r now old new a u d ∙ e;
  utf8 = replay-IsUtf8 (redo_of r.pending) old.text new.text u (line_ahead-replay (redo_of r.pending) old new d.line_is);
}
