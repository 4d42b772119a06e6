-- Ends that hold one letter each way put and take as ends of ways do.
use Rattle.std.proofs.Common.{◌≡◌, ℕ, true, Option, Some, None, is_some, refl, sym, ap, subst}
use Rattle.std.proofs.lemmas.Bool.{false≢true}
use Rattle.parcel.specs.Types.{Letter}
use Rattle.parcel.specs.Seen.{IsPut, IsTake}
use Rattle.block_tests.specs.Ends.{has_room, front_of, seen_of}

pub is_put : (came put taken : Option Letter) (f t to : ℕ) (l : Letter) → has_room put ≡ true → IsPut to l.message (seen_of came f put t taken) (seen_of came to (Some l) t taken)
is_put came None taken f t to l r = record { sent = λ c. refl; taken = λ c. refl; front = λ c m e. e }
is_put came (Some x) taken f t to l r = absurd (false≢true r)

pub is_take : (came put taken : Option Letter) (f t from : ℕ) (l : Letter) → front_of came taken ≡ Some l → IsTake from l.message (seen_of came f put t taken) (seen_of came f put from came)
is_take came put None f t from l e =
    subst (λ (o : Option Letter). IsTake from l.message (seen_of o f put t None) (seen_of o f put from o)) (sym e)
    (record { sent = λ c. refl; taken = λ c. refl; room = λ c r. r })
is_take came put (Some x) f t from l e = absurd (false≢true (ap is_some e))
