-- What may be chosen of a session, and what the next text of a script begins with.
use Rattle.std.specs.Prelude.{ℕ}
use Rattle.rl_base.specs.declared.kill_ring.NewKill.TheVariants.{AfterCurrent}
use Rattle.rl_base.specs.declared.layout.GraphemeClusterMode.{GraphemeClusterMode}
use Rattle.rl_base.specs.declared.layout.GraphemeClusterMode.TheVariants.{Unicode}
use Rattle.rl_session.specs.Options.{plain}
use Rattle.rl_session.specs.declared.settings.Setting.{Setting}
use Rattle.rl_session.specs.declared.settings.Setting.TheVariants.{Limit, RingSize, Mode}
use Rattle.rl_session.specs.declared.settings.Settings.{Settings}

-- a limit, a size of the ring, and how columns are counted, and nothing else chosen
abbrev pub as_new : ℕ → ℕ → GraphemeClusterMode → Settings
as_new limit ring_size mode = record { limit = limit; ring_size = ring_size; new_kill = AfterCurrent; options = plain mode }

-- the settings of a script that sets none
abbrev pub usual : Settings
usual = as_new 4096 60 Unicode

-- the settings after one of them was set
abbrev pub with_setting : Setting → Settings → Settings
with_setting (Limit n) settings = record settings { limit = n }
with_setting (RingSize n) settings = record settings { ring_size = n }
with_setting (Mode mode) settings = record settings { options = record settings.options { mode = mode } }
