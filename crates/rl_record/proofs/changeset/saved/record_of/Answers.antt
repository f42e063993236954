use Rattle.rl_record.proofs.Common.{Record, ap, arith, entry_of, get_or, length, length-append, length-map, map, refl, rules, sym, take-append-drop, ◌++◌, ◌∙◌, ◌≡◌, ◌≤◌}
use Rattle.rl_line.proofs.Lines.BlockLemmas.{other_bytes, same_bytes}
use Rattle.rl_record.proofs.Records.BytesLemmas.{cut-here, cut-stands}
use Rattle.rl_record.specs.SavedRecord.{record_numbers}
use Rattle.rl_record.proofs.changeset.saved.record_of.Goals as goal

pub returns-in_err-entries-clause-loaded : goal.returns-in_err-entries-clause-loaded
returns-in_err-entries-clause-loaded c = λ r s head list.
    let fresh : c.fresh_of-fresh.result ≡ r.fresh = search rules in
    let saved : c.point_of-saved.result ≡ r.saved = search rules in
    let long : get_or c.args.head 1 0 ≡ length r.recorded = ap (λ l. get_or l 1 0) head in
    let few : get_or c.args.head 1 0 ≤ length c.args.list.items = omega (arith, long, ap length list, length-map c.args.list.items entry_of, length-append r.recorded r.pending) in
    absurd (c.in_err-entries.ensures.none refl few (cut-stands r _ (map entry_of c.args.list.items) _ _ s list (search rules) fresh saved))

pub returns-then-ne-clause-loaded : goal.returns-then-ne-clause-loaded
returns-then-ne-clause-loaded c r saved is list =
    let made : c.in_ok-entries.entries ≡ r = search (rules, cut-here) in
    absurd (other_bytes c.ne.result c.numbers.result c.args.head c.ne.ensures c.if-ne.true (c.numbers.ensures.numbers ∙ ap record_numbers made ∙ sym is))

pub returns-clause-read : goal.returns-clause-read
returns-clause-read c = (
  sym (same_bytes c.ne.result c.numbers.result c.args.head c.ne.ensures c.if-ne.false) ∙ c.numbers.ensures.numbers,
  sym (take-append-drop _ (map entry_of c.args.list.items)) ∙ ap (λ (r : Record). r.recorded ++ r.pending) (sym c.in_ok-entries.ensures.some),
  λ fits entries. record { fits = fits; matched = c.numbers.ensures.matched; point = c.numbers.ensures.point; apart = c.numbers.ensures.apart; entries = entries },
)
