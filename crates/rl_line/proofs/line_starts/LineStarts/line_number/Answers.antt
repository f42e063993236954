use Rattle.rl_line.proofs.Common.{IsPartitionPoint-from_clause, IsTable, leb, leb-false, leb-true, length, rules, subst, sym, ◌-◌, ◌∙◌}
use Rattle.rl_line.proofs.Lines.LineReadLemmas.{IsPartitionedBy-before, IsPartitionedBy-from, number-before, number-from}
use Rattle.rl_line.proofs.line_starts.LineStarts.line_number.Goals as goal

pub returns-then-border_by : goal.returns-then-border_by
returns-then-border_by c =
    let text = c.args.text.now in
    let border = c.args.self.now.border in
    let pos = c.args.pos in
    let places = c.deref.result.now in
    let table = subst (λ l. IsTable l border text) (sym c.deref.ensures.value) c.requires.table in
    let late = leb-true _ _ (sym c.border_by.ensures ∙ c.if-border_by.true) in
    let parted = IsPartitionedBy-from places text border pos table c.requires.place late in
    let point = IsPartitionPoint-from_clause (λ s. leb (length text - pos) s) _ _ c.partition_point.ensures.partitioned parted (λ a r q k. search rules) in
    number-from places text border pos table c.requires.place late c.partition_point.result c.partition_point.ensures.bound point

pub returns : goal.returns
returns c =
    let text = c.args.text.now in
    let border = c.args.self.now.border in
    let pos = c.args.pos in
    let places = c.deref-2.result.now in
    let table = subst (λ l. IsTable l border text) (sym c.deref-2.ensures.value) c.requires.table in
    let early = leb-false _ _ (sym c.border_by.ensures ∙ c.if-border_by.false) in
    let parted = IsPartitionedBy-before places text border pos table c.requires.place early in
    let point = IsPartitionPoint-from_clause (λ s. leb s pos) _ _ c.partition_point-2.ensures.partitioned parted (λ a r q k. search rules) in
    number-before places text border pos table c.requires.place early c.partition_point-2.result c.partition_point-2.ensures.bound point
