use Rattle.std.proofs.Common.{sym, length-take-le, rules}
use Rattle.command.proofs.Laws.{fed_ok, fed_bytes, fed_ready, read_room}
use Rattle.command.proofs.turn.Goals as goal

pub unwrap-requires : goal.unwrap-requires
unwrap-requires c = fed_ok c.feed-fed.ensures c.requires.sound (read_room _ _ _ _ c.read.auto.buf c.requires.room)

pub slice_bounds-print-end-2 : goal.slice_bounds-print-end-2
slice_bounds-print-end-2 c = sym (length-take-le _ _ (fed_bytes c.feed-fed.ensures c.requires.sound (read_room _ _ _ _ c.read.auto.buf c.requires.room) c.unwrap.ensures))

pub returns-in_err-print : goal.returns-in_err-print
returns-in_err-print c =
    let ready = fed_ready c.feed-fed.ensures c.requires.sound (read_room _ _ _ _ c.read.auto.buf c.requires.room) c.feed-fed.auto.log c.feed-fed.auto.out c.feed-fed.auto.text in
    search rules

pub returns : goal.returns
returns c =
    let ready = fed_ready c.feed-fed.ensures c.requires.sound (read_room _ _ _ _ c.read.auto.buf c.requires.room) c.feed-fed.auto.log c.feed-fed.auto.out c.feed-fed.auto.text in
    search rules
