-- How many entries the last units have, and the first, and how many groups are open, by counting marks.
use Rattle.rl_record.proofs.Common.{Begin, End, Entry, List, [], suc, zero, ℕ, ◌∷◌}

-- the entries, the last first: d groups are entered from their End, and k units are left to take
abbrev pub back_len : ℕ → ℕ → List Entry → ℕ
back_len zero zero rs = 0
back_len zero (suc k) [] = 0
back_len zero (suc k) (End ∷ rs) = suc (back_len 1 k rs)
back_len zero (suc k) (e ∷ rs) = suc (back_len zero k rs)
back_len (suc d) k [] = 0
back_len (suc d) k (End ∷ rs) = suc (back_len (suc (suc d)) k rs)
back_len (suc d) k (Begin ∷ rs) = suc (back_len d k rs)
back_len (suc d) k (e ∷ rs) = suc (back_len (suc d) k rs)

-- the entries, the first first, up to where the first unit ends: d groups are open
abbrev pub ahead_len : ℕ → List Entry → ℕ
ahead_len d [] = 0
ahead_len zero (Begin ∷ es) = suc (ahead_len 1 es)
ahead_len zero (e ∷ es) = 1
ahead_len (suc d) (Begin ∷ es) = suc (ahead_len (suc (suc d)) es)
ahead_len (suc zero) (End ∷ es) = 1
ahead_len (suc (suc d)) (End ∷ es) = suc (ahead_len (suc d) es)
ahead_len (suc d) (e ∷ es) = suc (ahead_len (suc d) es)

-- the entries, the last first: how many units there are up to the first Begin that no End before it closes, if d groups are
-- entered from their End
abbrev pub size_back : ℕ → List Entry → ℕ
size_back d [] = 0
size_back zero (Begin ∷ rs) = 1
size_back zero (End ∷ rs) = suc (size_back 1 rs)
size_back zero (e ∷ rs) = suc (size_back zero rs)
size_back (suc d) (Begin ∷ rs) = size_back d rs
size_back (suc d) (End ∷ rs) = size_back (suc (suc d)) rs
size_back (suc d) (e ∷ rs) = size_back (suc d) rs
