use Rattle.std.proofs.Common.{◌≡◌, ◌∙◌, ◌++◌, List, ℕ, ap, w64}
use Rattle.std.proofs.lemmas.Int.{to_z-of_z}
use Rattle.std.specs.Fmt.{signed_decimal}
use Rattle.program_texts.proofs.energy_text.text_of.Goals as goal

joined : (a b c d e b' v w x y z : List ℕ) → v ≡ a → w ≡ v ++ b → x ≡ w ++ c → y ≡ x ++ d → z ≡ y ++ e → b ≡ b' → z ≡ a ++ b' ++ c ++ d ++ e
joined a b c d e b' v w x y z p q r s t o = cc

pub returns : goal.returns
returns c =
    joined _ _ _ _ _ _ _ _ _ _ _ c.in_ok-text.ensures.items c.in_ok-extend_from_slice.ensures.items
    c.in_ok-extend_from_slice-2.ensures.items c.in_ok-push_digits.ensures c.in_ok-push.ensures.items
    (c.as_bytes.ensures.value ∙ c.format.ensures.text ∙ ap signed_decimal (to_z-of_z w64 c.args.minimum c.ranges.minimum))
