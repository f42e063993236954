-- What a buffer holds after writes.
use Rattle.std.proofs.Common.{arith, ◌≡◌, ◌<◌, ◌≤◌, ℕ, List, [], ◌∷◌, ◌++◌, length, length-append, drop, ap, refl}
use Rattle.std.proofs.lemmas.List.{length-drop, take_all}
use Rattle.std.specs.Prelude.{slice_set}
use Rattle.rl_base.specs.Screen.{filled}
use Rattle.rl_ffi.specs.Buffers.{put}

-- values that fit are written whole
pub filled_fits : {A : Type 0} (values out : List A) → length values ≤ length out → filled values out ≡ put values out
filled_fits values out le =
    take_all (length out) (values ++ drop (length values) out)
    (omega (arith, le, length-append values (drop (length values) out), length-drop (length values) out))

-- a NUL is written after a text
pub put_ended : (text out : List ℕ) → length text < length out → slice_set (put text out) (length text) 0 ≡ put (text ++ 0 ∷ []) out
put_ended [] [] lt = absurd (omega (arith, lt))
put_ended [] (x ∷ out) lt = refl
put_ended (t ∷ text) [] lt = absurd (omega (arith, lt))
put_ended (t ∷ text) (x ∷ out) lt = ap (λ l. t ∷ l) (put_ended text out (omega (arith, lt)))
