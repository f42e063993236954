use Rattle.rl_record.proofs.Common.{Entry, List, Record, Stale, ap, arith, entries_told, entry_of, freshness_told, inl, inr, is_change, last_told, subst, sym, ◌∙◌, ◌≡◌}
use Rattle.rl_record.proofs.Records.JoinLemmas.{told-last, told-nothing, told-stale}
use Rattle.rl_record.proofs.Records.PointLemmas.{kind-told, not-parted, stands-put}
use Rattle.rl_record.proofs.entries.Entries.tell.Goals.{in-Added, in-Joined}
use Rattle.rl_record.proofs.entries.Entries.tell.Goals as goal

pub returns-in-Stale : goal.returns-in-Stale
returns-in-Stale c =
    let told : freshness_told c.self.inside.fresh ≡ c.self.inside.fresh = elim c.in-Stale.is [
      | inl e ↦ ap freshness_told e ∙ sym e
      | inr e ↦ ap freshness_told e ∙ sym e
    ] in
    told-stale c.args.self.now c.args.before c.args.after (subst (λ f. freshness_told f ≡ f) (ap (λ (r : Record). r.fresh) c.self.view_is) told)

pub returns-then-self-gt0 : goal.returns-then-self-gt0
returns-then-self-gt0 c =
    let told : (es : List Entry) → last_told (c.match-self.first, c.args.after) es ≡ entries_told c.self.inside.fresh c.args.before c.args.after es = elim c.match-self.branch [
      | in-Added w ↦ λ (es : List Entry). ap (λ k. last_told (k, c.args.after) es) w.first-is ∙ ap (λ f. entries_told f c.args.before c.args.after es) (sym w.in-Added.is)
      | in-Joined w ↦ λ (es : List Entry). ap (λ k. last_told (k, c.args.after) es) w.first-is ∙ ap (λ f. entries_told f c.args.before c.args.after es) (sym w.in-Joined.is)
    ] in
    let stale : freshness_told c.self.inside.fresh ≡ Stale = elim c.match-self.branch [
      | in-Added w ↦ ap freshness_told w.in-Added.is
      | in-Joined w ↦ ap freshness_told w.in-Joined.is
    ] in
    told-last c.args.self.now c.self.inside.list.items c.self.inside.recorded c.args.before c.args.after c.match-self.first c.self.inside.fresh c.self.inside.saved c.index_mut.result.now c.tell.new.self
    c.self.invariant.0 c.self.view_is c.if-self-gt0.true c.index_mut.ensures.value c.tell.ensures told stale

pub returns-else-self-gt0 : goal.returns-else-self-gt0
returns-else-self-gt0 c =
    let stale : freshness_told c.self.inside.fresh ≡ Stale = elim c.match-self.branch [
      | in-Added w ↦ ap freshness_told w.in-Added.is
      | in-Joined w ↦ ap freshness_told w.in-Joined.is
    ] in
    told-nothing c.args.self.now _ c.self.inside.recorded c.args.before c.args.after c.self.inside.fresh c.self.inside.saved c.self.view_is (omega (arith, c.if-self-gt0.false)) stale

pub invariant_of-self : goal.invariant_of-self
invariant_of-self c =
    let stale : freshness_told c.self.inside.fresh ≡ Stale = elim c.match-self.branch [
      | in-Added w ↦ ap freshness_told w.in-Added.is
      | in-Joined w ↦ ap freshness_told w.in-Joined.is
    ] in
    stands-put c.self.inside.changes c.self.inside.recorded c.self.inside.list.items c.self.inside.fresh Stale c.self.inside.saved c.index_mut.result.now c.tell.new.self c.self.invariant.0 c.if-self-gt0.true
    c.index_mut.ensures.value (sym (ap is_change c.tell.ensures ∙ kind-told _ (entry_of c.index_mut.result.now))) (not-parted c.self.inside.fresh Stale stale) c.self.invariant.1
