-- The record of a line leads back to the same text, whatever was done.
use Rattle.rl_record.proofs.Common.{Bool, Cursors, IsUtf8, Line, List, Option, Record, Some, Step, Taken, Undone, [], after, ap, kept_of, last_of, listener_after, listener_after_step, option_and_then, record_step, stepped, subst, sym, unwind, ℕ, ◌∙◌, ◌∷◌, ◌≡◌}
use Rattle.rl_base.proofs.Texts.SwapLemmas.{apply-IsUtf8}
use Rattle.rl_line.proofs.Changes.BackLemmas.{line_back-unwind}
use Rattle.rl_line.proofs.Changes.InverseLemmas.{unwind-IsUtf8, unwind-append}
use Rattle.rl_line.proofs.Plans.PlanLemmas.{first_step}
use Rattle.rl_record.proofs.Records.RecordLemmas.{record_step-unwind}
use Rattle.rl_record.proofs.Records.ToldLemmas.{apply-Cursors}
use Rattle.rl_record.proofs.Records.UnitLemmas.{kept-last}

-- the text from which the record came
abbrev pub origin : Record → List ℕ → Option (List ℕ)
origin r text = unwind r.recorded text

-- what the steps that were taken leave: a text, and a record that came from where it came from
pub record Kept (r now : Record) (old new : Line) : Type 0 where
  pub origin_is : (start : List ℕ) → origin r old.text ≡ Some start → origin now new.text ≡ Some start
  pub utf8 : IsUtf8 new.text

Kept-after : (steps : List Step) (r : Record) (old new : Line) → IsUtf8 old.text → after steps old ≡ Some new → Kept r (listener_after record_step old.cursor steps r) old new
Kept-after [] r old new u h =
    let e : old ≡ new = cc in record { origin_is = λ start k. ap (λ (l : Line). origin r l.text) (sym e) ∙ k; utf8 = subst (λ (l : Line). IsUtf8 l.text) e u }
Kept-after (s ∷ ss) r old new u h =
    let b = first_step s ss old new h in
    let here : Line = stepped old b.text s.1 in
    let here_utf8 = apply-IsUtf8 s.0 old.text b.text u b.makes in
    let more = Kept-after ss (listener_after_step record_step old.cursor s r) here new here_utf8 b.rest in
    record {
      origin_is = λ start k.
          more.origin_is start
          (record_step-unwind (record_step r s.0) (Cursors old.cursor s.1) b.text b.text start here_utf8 (apply-Cursors old.cursor s.1 b.text)
          (record_step-unwind r s.0 old.text b.text start u b.makes k));
      utf8 = more.utf8;
    }

pub Kept-Taken : (steps : List Step) (r now : Record) (old new : Line) → IsUtf8 old.text → Taken record_step steps old new r now → Kept r now old new
Kept-Taken steps r now old new u t = subst (λ (k : Record). Kept r k old new) (sym t.listener) (Kept-after steps r old new u t.line)

pub Kept-Undone : (n : ℕ) (r now : Record) (old new : Line) (a : Bool) → IsUtf8 old.text → Undone n r now old new a → Kept r now old new
Kept-Undone n r now old new a u d =
    let kept = kept_of n r.recorded in
    let last = last_of n r.recorded in
    let back : unwind last old.text ≡ Some new.text = line_back-unwind last old new d.line_is in
    let all : origin r old.text ≡ unwind kept new.text =
    ap (λ es. unwind es old.text) (sym (kept-last n r.recorded)) ∙ unwind-append kept last old.text ∙ ap (option_and_then (unwind kept)) back in
    record {
      origin_is = λ start e. ap (λ (m : Record). unwind m.recorded new.text) d.record_is ∙ sym all ∙ e;
      utf8 = unwind-IsUtf8 last old.text new.text u back;
    }
