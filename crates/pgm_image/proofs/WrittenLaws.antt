-- The written form is an image, and followed by anything it is read as its image.
use Rattle.std.proofs.Common.{◌≡◌, ℕ, ◌<◌, ◌^◌, List, [], ◌∷◌, ◌++◌, true, refl, length, arith, rules, append_assoc, length-append}
use Rattle.std.specs.Prelude.{decimal}
use Rattle.std.proofs.lemmas.Str.Parse.{IsNumeralModel, numerals_by_fold}
use Rattle.std.proofs.lemmas.Fmt.{digits_decimal, digits_value-decimal, decimal_nonempty}
use Rattle.pgm_image.specs.Picture.{Picture, IsPicture}
use Rattle.pgm_image.specs.Raster.{raster}
use Rattle.pgm_image.specs.Grammar.{is_mix, is_gap, all_digits, value, IsNumber, IsHeader}
use Rattle.pgm_image.specs.Front.{Front}
use Rattle.pgm_image.specs.Written.{written_form, header_text}
use Rattle.pgm_image.specs.declared.header.Form.TheVariants.{Raw}

own : IsNumeralModel (λ ds. all_digits ds ≡ true) (value 0)
unfolding all_digits value
own = numerals_by_fold _ (search rules) value (search rules)

number_of : (n : ℕ) → n < 2 ^ 64 → IsNumber (decimal n) n
number_of n small = record { digits = digits_decimal own n small; some = decimal_nonempty n small; is_value = digits_value-decimal own n small }

line_gap : is_gap (10 ∷ []) ≡ true
unfolding is_gap is_mix
line_gap = refl

blank_gap : is_gap (32 ∷ []) ≡ true
unfolding is_gap is_mix
blank_gap = refl

numbers_text : ℕ → ℕ → ℕ → List ℕ
numbers_text w h m = (10 ∷ []) ++ (decimal w ++ ((32 ∷ []) ++ (decimal h ++ ((10 ∷ []) ++ (decimal m ++ [])))))

written_header : (p : Picture) → p.width < 2 ^ 64 → p.height < 2 ^ 64 → p.maxval < 2 ^ 64 → IsHeader Raw (header_text p) p.width p.height p.maxval
unfolding header_text numbers_text
written_header p w h m =
    record {
      numbers = numbers_text p.width p.height p.maxval;
      last = 10;
      are_numbers = (
        10 ∷ [],
        decimal p.width,
        (32 ∷ []) ++ (decimal p.height ++ ((10 ∷ []) ++ (decimal p.maxval ++ []))),
        line_gap,
        number_of p.width w,
        (
          32 ∷ [],
          decimal p.height,
          (10 ∷ []) ++ (decimal p.maxval ++ []),
          blank_gap,
          number_of p.height h,
          (10 ∷ [], decimal p.maxval, [], line_gap, number_of p.maxval m, refl, refl),
          refl,
        ),
        refl,
      );
      is_last = refl;
      whole = simp append_assoc;
    }

pub written_front : (p : Picture) (more : List ℕ) → IsPicture p → Front (written_form p ++ more) p (length (written_form p))
written_front p more is =
    record {
      form = Raw;
      header = header_text p;
      body = raster p.maxval p.samples;
      rest = more;
      is_picture = is;
      is_header = written_header p (omega arith) (omega arith) (omega arith);
      is_body = refl;
      whole = append_assoc (header_text p) (raster p.maxval p.samples) more;
      used_is = length-append (header_text p) (raster p.maxval p.samples);
    }
