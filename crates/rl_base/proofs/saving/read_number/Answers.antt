use Rattle.rl_base.proofs.Common.{rules}
use Rattle.rl_base.proofs.Texts.SavingLemmas.{written-again}
use Rattle.rl_base.proofs.saving.read_number.Goals as goal

pub returns-clause-bytes : goal.returns-clause-bytes
returns-clause-bytes c = rw (c.read_uint.ensures, c.bytes.ensures) (written-again c.args.width c.args.bytes.now c.requires (search rules)).0

pub returns-clause-fits : goal.returns-clause-fits
returns-clause-fits c = rw (c.read_uint.ensures, c.bytes.ensures) (written-again c.args.width c.args.bytes.now c.requires (search rules)).1
