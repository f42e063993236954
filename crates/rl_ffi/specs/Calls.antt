-- What a call does to the session that a handle holds. If it holds none, it is left so, and the call answers that it is closed.
use Rattle.std.specs.Prelude.{◌≡◌, ◌⊎◌, ℕ, ◌<◌, ◌≤◌, min, ℤ, List, length, Option, Some, None, Result, Ok, Err}
use Rattle.std.specs.Option.{option_map_or}
use Rattle.std.specs.Str.{IsUtf8}
use Rattle.rl_base.specs.Screen.{filled}
use Rattle.rl_session.specs.State.{State}
use Rattle.rl_ffi.specs.Answers.{number}
use Rattle.rl_ffi.specs.Buffers.{put}
use Rattle.rl_ffi.specs.Numbers.{number_of_given}
use Rattle.rl_ffi.specs.declared.answers.Answer.{Answer}
use Rattle.rl_ffi.specs.declared.answers.Answer.TheVariants.{Nothing, Done, NotUtf8, TooSmall, Closed}

-- the session before, the answer, and the session after
abbrev pub Effect : Type 1
Effect = State → Answer → State → Type 0

-- the same of a call that writes to what C handed in, which is as it was, and as it is left
abbrev pub EffectOut : Type 0 → Type 1
EffectOut A = State → Answer → State → A → A → Type 0

-- what is answered, and what C handed in, before and after; and the same of a session that is read
abbrev pub Tale : Type 0 → Type 1
Tale A = Answer → A → A → Type 0

abbrev pub Telling : Type 0 → Type 1
Telling A = State → Tale A

-- the number of what is answered
abbrev pub Answers : {A : Type 0} → Tale A → ℤ → A → A → Type 0
Answers Does n out out' = (answer : Answer) × Does answer out out' × (n ≡ number answer)

-- what a call does to the session that its handle holds
abbrev pub Through : Effect → Option State → ℤ → Option State → Type 0
Through Does None n new = (n ≡ number Closed) × (new ≡ None)
Through Does (Some s) n new = (answer : Answer) × (left : State) × Does s answer left × (n ≡ number answer) × (new ≡ Some left)

abbrev pub ThroughOut : {A : Type 0} → EffectOut A → Option State → ℤ → Option State → A → A → Type 0
ThroughOut Does None n new out out' = (n ≡ number Closed) × (new ≡ None) × (out' ≡ out)
ThroughOut Does (Some s) n new out out' =
    (answer : Answer) × (left : State) × Does s answer left out out' × (n ≡ number answer) × (new ≡ Some left)

-- what a call tells of the session that its handle holds, which it leaves as it is; and what it finds of that, or the last
-- value if there is none
abbrev pub Tells : {A : Type 0} → Telling A → Option State → ℤ → Option State → A → A → Type 0
Tells Does None n new out out' = (n ≡ number Closed) × (new ≡ None) × (out' ≡ out)
Tells Does (Some s) n new out out' = Answers (Does s) n out out' × (new ≡ Some s)

abbrev pub Finds : {A : Type 0} → (State → A) → A → Option State → A → Option State → Type 0
Finds of_it none old found new = (found ≡ option_map_or of_it old none) × (new ≡ old)

-- nothing changes, and that is answered
abbrev pub leaves : Answer → Effect
leaves answer old n new = (n ≡ answer) × (new ≡ old)

-- nothing is told, and that is answered
abbrev pub refuses : {A : Type 0} → Answer → Tale A
refuses why n out out' = (n ≡ why) × (out' ≡ out)

-- it is done
abbrev pub becomes : (State → State) → Effect
becomes next old n new = (n ≡ Done) × (new ≡ next old)

-- what numbers name, if they name something
abbrev pub of_named : {A : Type 0} → Result A Answer → (A → Effect) → Effect
of_named (Err why) Does = leaves why
of_named (Ok x) Does = Does x

abbrev pub where_named : {A B : Type 0} → Result A Answer → (A → Tale B) → Tale B
where_named (Err why) Does = refuses why
where_named (Ok x) Does = Does x

abbrev pub told_named : {A B : Type 0} → Result A Answer → (A → Telling B) → Telling B
told_named named Does s = where_named named (λ x. Does x s)

-- bytes of C as a text; if they are none, nothing changes
abbrev pub of_text : List ℕ → Effect → Effect
of_text bytes Does old n new = (IsUtf8 bytes × Does old n new) ⊎ ((¬ (IsUtf8 bytes)) × leaves NotUtf8 old n new)

-- what is told if a condition holds; and of a text, if the bytes are one
abbrev pub told_where : {A : Type 0} → Type 0 → Answer → Tale A → Tale A
told_where Condition why Does n out out' = (Condition × Does n out out') ⊎ ((¬ Condition) × refuses why n out out')

abbrev pub of_bytes : {A : Type 0} → List ℕ → Tale A → Tale A
of_bytes text = told_where (IsUtf8 text) NotUtf8

-- a value is written, if there is one
abbrev pub Writes : {A : Type 0} → Option A → Answer → A → A → Type 0
Writes None n out out' = (n ≡ Nothing) × (out' ≡ out)
Writes (Some x) n out out' = (n ≡ Done) × (out' ≡ x)

-- values, such as the bytes of a text, are written to a buffer, and how many there are; of those that do not fit only how many
abbrev pub Fills : {A : Type 0} → List A → Tale (List A × ℕ)
Fills values n out out' =
    ((length values ≤ length out.0) × (n ≡ Done) × (out' ≡ (put values out.0, length values)))
    ⊎ ((length out.0 < length values) × (n ≡ TooSmall) × (out' ≡ (out.0, length values)))

-- of values as many as fit are written to the front of a buffer, how many these are, and where the next one is found
abbrev pub FillsFront : {A : Type 0} → List A → (ℕ → Option ℕ) → Tale (List A × (ℕ × ℕ))
FillsFront values place n out out' =
    (n ≡ Done) × (out' ≡ (filled values out.0, (min (length out.0) (length values), number_of_given (place (length out.0)))))
