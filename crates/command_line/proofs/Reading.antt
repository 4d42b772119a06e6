-- What `get_one` reads of an option that is a number.
use Rattle.std.proofs.Common.{◌≡◌, ℕ, ◌<◌, ◌^◌, Option, Some, None, Result, Ok, Err, IsSomeAnd, IfNone, IfSome, refl, sym, ◌∙◌, arith}
use Rattle.std.specs.Str.Parse.{ParsesUnsigned}
use Rattle.clap.specs.Matches.{ReadsOne}
use Rattle.clap.specs.Words.{Text}
use Rattle.command_line.specs.Options.{Reads}

-- two numbers that one text is are one
pub same_number : (o : Option Text) (n m : ℕ) → IsSomeAnd o (λ text. Reads text n) → IsSomeAnd o (λ text. Reads text m) → n ≡ m
same_number None n m first second = absurd first
same_number (Some text) n m first second = first.1 ∙ sym second.1

-- what `gives` says of a text is at least that the number is read
abbrev pub Parses : (E : Type 0) → (Text → Result ℕ E → Type 0) → Type 0
Parses E gives = (t : Text) (r : Result ℕ E) → gives t r → ParsesUnsigned 32 10 t r

-- a parse that gives a number reads it
pub value_read : (E : Type 0) (gives : Text → Result ℕ E → Type 0) → Parses E gives → (o : Option Text) (r : Option ℕ)
    → ((o ≡ None) → r ≡ None) → ((t : Text) → (o ≡ Some t) → ReadsOne gives t r)
    → IfSome r (λ n. IsSomeAnd o (λ text. Reads text n))
value_read E gives parses o None none value = tt
value_read E gives parses None (Some n) none value = absurd (let never = none refl in cc)
value_read E gives parses (Some text) (Some n) none value =
    let given = parses text (Ok n) (value text refl) in (given.0.0, given.1)

-- and one that gives none has none to read
pub no_value : (E : Type 0) (gives : Text → Result ℕ E → Type 0) → Parses E gives → (o : Option Text) (r : Option ℕ)
    → ((t : Text) → (o ≡ Some t) → ReadsOne gives t r)
    → IfNone r ((n : ℕ) → n < 2 ^ 32 → ¬ IsSomeAnd o (λ text. Reads text n))
no_value E gives parses o (Some n) value = tt
no_value E gives parses None None value = λ n small reads. reads
no_value E gives parses (Some text) None value = λ n small reads.
    let given = value text refl in
    parses text (Err given.0) given.1 (reads.0, let is = reads.1 in omega arith)
