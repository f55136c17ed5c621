use Rattle.std.proofs.Common.{◌-◌, refl, sym, arith}
use Rattle.drill_file.proofs.FileLaws.{none_accepted, some_accepted}
use Rattle.drill_file.proofs.accepted_part.Goals as goal

pub returns-in-Ok : goal.returns-in-Ok
returns-in-Ok c =
    let accepted = sym c.in-Ok.ensures in
    let some = some_accepted c.args.file.now accepted in
    let a = c.args.part in
    let within = (c.requires accepted).1 in
    rw (some a.start, some (a.end - a.start)) (record { block = refl; offset = omega arith; within = omega arith; bytes = refl })

pub returns-in-Err : goal.returns-in-Err
returns-in-Err c =
    let none = none_accepted c.args.file.now _ c.in-Err.ensures in
    let a = c.args.part in
    rw (none a.start, none (a.end - a.start)) (record { block = refl; offset = omega arith; within = omega arith; bytes = refl })
