use Rattle.std.proofs.Common.{inr, length, refl}
use Rattle.gco_pictures.specs.declared.refusal.Refusal.TheVariants as why
use Rattle.gco_pictures.proofs.Handing.{put_in_front}
use Rattle.gco_pictures.proofs.told.hand_over.Goals as goal

pub returns-then-bytes-out-clause-refused : goal.returns-then-bytes-out-clause-refused
returns-then-bytes-out-clause-refused c = λ some. (
  why.NoRoom (length c.in-Ok.picture.bytes.items),
  rw c.as_slice-bytes.ensures.value at c.refuse.ensures.told,
  inr (c.in-Ok.picture, c.in-Ok.is, rw c.as_slice-bytes.ensures.value at c.if-bytes-out.true, refl),
)

pub returns-else-bytes-out-clause-handed : goal.returns-else-bytes-out-clause-handed
returns-else-bytes-out-clause-handed c = λ ok. (
  c.in-Ok.picture,
  c.in-Ok.is,
  rw (c.copy_from_slice.ensures.after, c.as_slice-bytes.ensures.value)
      (put_in_front c.in-Ok.picture.bytes.items c.args.out.now c.in-Ok.picture.report c.tell.new.told (rw c.as_slice-bytes.ensures.value at c.tell.ensures)),
)
