use Rattle.rl_base.proofs.Common.{◌≡◌, ◌+◌, drop, length, take, last_or, IsUtf8, chars, char_indices_rest, char_indices_offset, places_of, char_places, hits, nth_or_last}
use Rattle.rl_base.proofs.places.hits.nth_hit.Given as goal

-- the search over what is left gives the hit that was asked for
abbrev pub invariant-loop-place : goal.invariant-loop-place
invariant-loop-place l =
    record {
      text : IsUtf8 (char_indices_rest l.place-iterator);
      within : l.start + (char_indices_offset l.place-iterator + length (char_indices_rest l.place-iterator)) ≡ length l.text;
      found : last_or l.hit (take l.left (places_of l.wanted (char_places (l.start + char_indices_offset l.place-iterator) (chars (char_indices_rest l.place-iterator)))))
          ≡ nth_or_last l.n (hits l.wanted l.start (drop l.start l.text));
    }
