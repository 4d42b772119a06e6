use Rattle.std.proofs.Common.{arith}
use Rattle.label_field.proofs.Neighbours.{next_beside, next_below}
use Rattle.label_field.proofs.grid.next_place.Goals as goal

pub returns-then-place-image-clause-place : goal.returns-then-place-image-clause-place
returns-then-place-image-clause-place c = λ inside.
    let from = c.args.place in
    let next = next_beside c.args.image.width from.site from.x from.y c.requires.in_column c.requires.in_row (omega (arith, c.if-place-image)) in
    record { inside = inside; in_column = next.0; in_row = next.1 }

pub returns-clause-place : goal.returns-clause-place
returns-clause-place c = λ inside.
    let from = c.args.place in
    let next = next_below c.args.image.width from.site from.x from.y c.args.image.fits.some_column c.requires.in_column c.requires.in_row (omega arith) in
    record { inside = inside; in_column = next.0; in_row = next.1 }
