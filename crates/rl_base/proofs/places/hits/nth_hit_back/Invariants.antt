use Rattle.rl_base.proofs.Common.{◌≡◌, reverse, take, rev_source, last_or, IsUtf8, chars, char_indices_rest, char_indices_offset, places_of, char_places, hits, nth_or_last}
use Rattle.rl_base.proofs.places.hits.nth_hit_back.Given as goal

-- the search over what is left gives the hit that was asked for
abbrev pub invariant-loop-place : goal.invariant-loop-place
invariant-loop-place l =
    record {
      text : IsUtf8 (char_indices_rest (rev_source l.place-iterator));
      found : last_or l.hit (take l.left (reverse (places_of l.wanted
          (char_places (char_indices_offset (rev_source l.place-iterator)) (chars (char_indices_rest (rev_source l.place-iterator)))))))
          ≡ nth_or_last l.n (reverse (hits l.wanted 0 (take l.end l.text)));
    }
