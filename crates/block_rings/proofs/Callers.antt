-- For those who call: what is said of rings, as said of the lists of ports that they were made of.
use Rattle.std.proofs.Common.{◌≡◌, ◌≢◌, ℕ, ◌*◌, ◌<◌, ◌≤◌, List, [], ◌∷◌, ◌++◌, length, get_or, All, sym, ◌∙◌, ap, subst, arith}
use Rattle.std.proofs.lemmas.List.{append_cancel_left, get_or_default}
use Rattle.std.proofs.lemmas.List.Sums.{sum_by-le}
use Rattle.block_events.specs.declared.message.Message.{Message}
use Rattle.block_events.specs.States.{way_at}
use Rattle.block_workers.specs.declared.port.Port.{Port}
use Rattle.block_workers.specs.Seeing.{AreRising}
use Rattle.block_workers.proofs.Reading.{place_low}
use Rattle.block_rings.specs.Left.{AreLeft}
use Rattle.block_rings.specs.Mated.{AreMated, ports_in}

-- what is left where as much was put and taken
pub left_same : (n : ℕ) (sent taken sent' taken' : ℕ → ℕ → List Message) (left : List (List (List Message)))
    → ((b c : ℕ) → sent b c ≡ sent' b c) → ((b c : ℕ) → taken b c ≡ taken' b c) → AreLeft n sent taken left → AreLeft n sent' taken' left
left_same n sent taken sent' taken' left same_sent same_taken was = record {
  square = was.square;
  none = was.none;
  ways = λ b c low_b low_c off.
      sym (same_sent b c) ∙ (was.ways b c low_b low_c off ∙ ap (λ (x : List Message). x ++ way_at left b c) (same_taken c b));
}

-- what was put and taken decides what is left
pub left_alone : (n : ℕ) (sent taken : ℕ → ℕ → List Message) (one two : List (List (List Message))) → AreLeft n sent taken one → AreLeft n sent taken two
    → (b c : ℕ) → b < n → c < n → b ≢ c → way_at one b c ≡ way_at two b c
left_alone n sent taken one two is_one is_two b c low_b low_c off =
    append_cancel_left (taken c b) (way_at one b c) (way_at two b c) (sym (is_one.ways b c low_b low_c off) ∙ is_two.ways b c low_b low_c off)

-- as many ports as there are blocks, at most
row_few : (n : ℕ) (ports : List Port) → AreRising n ports → length ports ≤ n
row_few n [] rising = omega arith
row_few n (p ∷ ports) rising =
    omega (arith, place_low n (p ∷ ports) rising (length ports) (omega arith), rising.below (length ports) (omega arith))

pub ports_few : (n : ℕ) (lists : List (List Port)) → AreMated n lists → ports_in lists ≤ n * n
ports_few n lists mated =
    let rows : All (λ (ports : List Port). length ports ≤ n) lists =
    λ b d low. subst (λ (ports : List Port). length ports ≤ n) (get_or_default lists b [] d low) (row_few n (get_or lists b []) (mated.rising b)) in
    subst (λ (m : ℕ). ports_in lists ≤ m * n) mated.len (sum_by-le (λ (ports : List Port). length ports) n lists rows)
