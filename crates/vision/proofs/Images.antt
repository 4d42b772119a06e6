-- The picture of labels.
use Rattle.std.proofs.Common.{◌≡◌, ℕ, ◌+◌, ◌*◌, ◌<◌, ◌≤◌, List, length, All, sym, subst, arith}
use Rattle.pgm_image.specs.Picture.{Picture, picture, IsPicture}

-- labels of the sites of a picture make a picture
pub labels_fit : (p : Picture) (maxval labels : ℕ) (xs ys : List ℕ) → IsPicture p → 1 ≤ maxval → maxval ≤ 65535 → length ys ≡ p.width * p.height
    → All (λ label. label < labels) ys → labels ≤ maxval + 1 → xs ≡ ys → IsPicture (picture p.width p.height maxval xs)
labels_fit p maxval labels xs ys valid least most size below few same =
    let P : List ℕ → Type 0 = λ zs. IsPicture (picture p.width p.height maxval zs) in
    subst P (sym same) (valid.0, least, most, size, λ k d inside. (let here = below k d inside in omega (arith, here, few)))
