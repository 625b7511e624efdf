use Rattle.std.proofs.lemmas.Result.{err_from_is_err_and}
use Rattle.replaying.proofs.Laws.{has_no_room, has_its_room, print_without, print_refused, print_done}
use Rattle.replaying.proofs.print.Goals as goal

pub returns-then-not-has_room : goal.returns-then-not-has_room
returns-then-not-has_room c =
    let none = has_no_room c.args.style c.args.log.now c.args.text.now c.has_room.ensures c.longest_line.ensures c.if-not-has_room.true in
    print_without c.args.style c.args.first _ _ _ c.args.log.now _ _ _ none c.without_room.ensures

pub returns-in_err-answers : goal.returns-in_err-answers
returns-in_err-answers c =
    let p = err_from_is_err_and c.from_residual.result c.from_residual.ensures.1 in
    let room = has_its_room c.args.style c.args.log.now c.args.text.now c.has_room.ensures c.longest_line.ensures c.if-not-has_room.false in
    rw (p.1, p.2) (print_refused c.args.style c.args.first _ _ _ c.args.log.now _ _ room c.run.ensures c.in_err-answers.was)

pub returns : goal.returns
returns c =
    let room = has_its_room c.args.style c.args.log.now c.args.text.now c.has_room.ensures c.longest_line.ensures c.if-not-has_room.false in
    print_done c.args.style c.args.first _ _ _ c.args.log.now _ _ room c.run.ensures c.in_ok-answers.was c.put_text.ensures
