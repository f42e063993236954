-- What a cluster is to a sense of a word, as one value. Only the private functions of places cite it.
use Rattle.std.specs.Prelude.{ℕ, List, if◌then◌else◌}
use Rattle.rl_base.specs.Classes.{is_word, is_other}
use Rattle.rl_base.specs.declared.motion.Word.{Word}
use Rattle.rl_base.specs.declared.motion.Word.TheVariants.{Vi}
use Rattle.rl_base.specs.declared.places.classes.Class.{Class}
use Rattle.rl_base.specs.declared.places.classes.Class.TheVariants.{Member, Other, Outside}

-- belongs to words of the sense, to vi's words of other clusters, or to none
abbrev pub class_of : Word → List ℕ → Class
class_of Vi cluster = if is_word Vi cluster then Member else if is_other cluster then Other else Outside
class_of sense cluster = if is_word sense cluster then Member else Outside
