use Rattle.rl_line.proofs.Common.{Line, ap, arith, encode_utf8, length}
use Rattle.rl_line.proofs.Lines.RoomyLemmas.{HasRoom-inserted}
use Rattle.rl_line.proofs.line_buffer.LineBuffer.put_char.Goals as goal

pub swap_in_char-requires-clause-room : goal.swap_in_char-requires-clause-room
swap_in_char-requires-clause-room g c =
    HasRoom-inserted _ (encode_utf8 c.args.c) c.args.idx c.find_room.new.self (omega (arith, c.in_ok-find_room.ensures.room, ap (λ (l : Line). length l.text) c.find_room.ensures.line))
