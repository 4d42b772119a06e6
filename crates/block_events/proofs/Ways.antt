-- The ways, after one was written.
use Rattle.std.proofs.Common.{◌≡◌, ℕ, suc, ◌+◌, ◌<◌, ◌≤◌, List, [], ◌∷◌, ◌++◌, length, set, get_or, sum_by, All, ◌∙◌, ap, inl, inr, arith, get_or-set_same, get_or-set_other}
use Rattle.std.specs.List.{AllPairs}
use Rattle.std.proofs.lemmas.List.{length-set, length_push, get_or_push, get_or_append_left, get_or_past}
use Rattle.std.proofs.lemmas.List.Sums.{sum_by-set, sum_by-cons, sum_by_push, get_or-le-sum_by}
use Rattle.std.proofs.lemmas.Bool.{cases_eq, cases_lt}
use Rattle.block_events.specs.declared.message.Message.{Message}
use Rattle.block_events.specs.States.{way_at, put_way, put_message, over_messages}
use Rattle.block_events.specs.Soundness.{IsSquare}

pub way_same : (n : ℕ) (ways : List (List (List Message))) (b c : ℕ) (way : List Message) → IsSquare n ways → b < n → c < n
    → way_at (put_way ways b c way) b c ≡ way
way_same n ways b c way sq lb lc =
    let row = get_or ways b [] in
    ap (λ (r : List (List Message)). get_or r c []) (get_or-set_same ways b (set row c way) [] (omega (arith, sq.rows)))
    ∙ get_or-set_same row c way [] (omega (arith, sq.columns b lb))

pub way_other : (n : ℕ) (ways : List (List (List Message))) (b c : ℕ) (way : List Message) (b' c' : ℕ) → IsSquare n ways → b < n
    → (b' ≡ b → c' ≡ c → ⊥) → way_at (put_way ways b c way) b' c' ≡ way_at ways b' c'
way_other n ways b c way b' c' sq lb off =
    let row = get_or ways b [] in
    elim (cases_eq b' b) [
      | inl e ↦
          rw e (ap (λ (r : List (List Message)). get_or r c' []) (get_or-set_same ways b (set row c way) [] (omega (arith, sq.rows)))
          ∙ get_or-set_other row c c' way [] (off e))
      | inr ne ↦ ap (λ (r : List (List Message)). get_or r c' []) (get_or-set_other ways b b' (set row c way) [] ne)
    ]

pub square_put : (n : ℕ) (ways : List (List (List Message))) (b c : ℕ) (way : List Message) → IsSquare n ways → IsSquare n (put_way ways b c way)
square_put n ways b c way sq =
    let row = get_or ways b [] in
    record {
      rows = length-set ways b (set row c way) ∙ sq.rows;
      columns = λ b' lb'. elim (cases_eq b' b) [
        | inl e ↦ rw e (ap length (get_or-set_same ways b (set row c way) [] (omega (arith, sq.rows))) ∙ (length-set row c way ∙ sq.columns b (omega arith)))
        | inr ne ↦ ap length (get_or-set_other ways b b' (set row c way) [] ne) ∙ sq.columns b' lb'
      ];
    }

-- the sum over all messages after a way was written
pub messages_put : (n : ℕ) (f : Message → ℕ) (ways : List (List (List Message))) (b c : ℕ) (way : List Message) → IsSquare n ways → b < n → c < n
    → over_messages f (put_way ways b c way) + sum_by f (way_at ways b c) ≡ over_messages f ways + sum_by f way
messages_put n f ways b c way sq lb lc =
    let row = get_or ways b [] in
    let one = sum_by-set (λ (r : List (List Message)). sum_by (λ w. sum_by f w) r) ways b (set row c way) [] (omega (arith, sq.rows)) in
    let two = sum_by-set (λ (w : List Message). sum_by f w) row c way [] (omega (arith, sq.columns b lb)) in
    omega (arith, one, two)

-- after a message was put
pub messages_more : (n : ℕ) (f : Message → ℕ) (ways : List (List (List Message))) (b c : ℕ) (m : Message) → IsSquare n ways → b < n → c < n
    → over_messages f (put_message ways b c m) ≡ over_messages f ways + f m
messages_more n f ways b c m sq lb lc =
    let put = messages_put n f ways b c (way_at ways b c ++ m ∷ []) sq lb lc in
    let push = sum_by_push f (way_at ways b c) m in
    omega (arith, put, push)

-- after the message in front was taken
pub messages_less : (n : ℕ) (f : Message → ℕ) (ways : List (List (List Message))) (b c : ℕ) (m : Message) (rest : List Message) → IsSquare n ways → b < n → c < n
    → way_at ways b c ≡ m ∷ rest → over_messages f (put_way ways b c rest) + f m ≡ over_messages f ways
messages_less n f ways b c m rest sq lb lc e =
    let put = messages_put n f ways b c rest sq lb lc in
    let front = ap (sum_by f) e ∙ sum_by-cons f m rest in
    omega (arith, put, front)

-- a message counts in the sum
pub message-le-messages : (n : ℕ) (f : Message → ℕ) (ways : List (List (List Message))) (b c k : ℕ) (d : Message)
    → k < length (way_at ways b c) → f (get_or (way_at ways b c) k d) ≤ over_messages f ways
message-le-messages n f ways b c k d lk =
    elim (cases_lt b (length ways)) [
      | inr past ↦
          let none : length (way_at ways b c) ≡ 0 = ap (λ (r : List (List Message)). length (get_or r c [])) (get_or_past ways b [] past) in
          absurd (omega (arith, none, lk))
      | inl lb ↦
          let row = get_or ways b [] in
          elim (cases_lt c (length row)) [
            | inr past ↦
                let none : length (way_at ways b c) ≡ 0 = ap (λ (r : List Message). length r) (get_or_past row c [] past) in
                absurd (omega (arith, none, lk))
            | inl lc ↦
                let one = get_or-le-sum_by (λ (r : List (List Message)). sum_by (λ w. sum_by f w) r) ways b [] lb in
                let two = get_or-le-sum_by (λ (w : List Message). sum_by f w) row c [] lc in
                let three = get_or-le-sum_by f (way_at ways b c) k d lk in
                omega (arith, one, two, three)
          ]
    ]

-- ---- a fact on each way

abbrev pub EachWay : (ℕ → ℕ → List Message → Type 0) → List (List (List Message)) → Type 0
EachWay P ways = (b c : ℕ) → P b c (way_at ways b c)

pub each_put : (n : ℕ) (P : ℕ → ℕ → List Message → Type 0) (ways : List (List (List Message))) (b c : ℕ) (way : List Message) → IsSquare n ways → b < n → c < n
    → EachWay P ways → P b c way → EachWay P (put_way ways b c way)
each_put n P ways b c way sq lb lc each here b' c' =
    elim (cases_eq b' b) [
      | inl e ↦ elim (cases_eq c' c) [
        | inl f ↦ rw (e, f) (rw (way_same n ways b c way sq lb lc) here)
        | inr off ↦ rw (way_other n ways b c way b' c' sq lb (λ e f. off f)) (each b' c')
      ]
      | inr off ↦ rw (way_other n ways b c way b' c' sq lb (λ e f. off e)) (each b' c')
    ]

-- ---- facts on one way

pub all_rest : (P : Message → Type 0) (m : Message) (rest : List Message) → All P (m ∷ rest) → All P rest
all_rest P m rest all k d l = all (suc k) d (omega arith)

pub all_front : (P : Message → Type 0) (m : Message) (rest : List Message) → All P (m ∷ rest) → P m
all_front P m rest all = all 0 m (omega arith)

pub all_more : (P : Message → Type 0) (way : List Message) (m : Message) → All P way → P m → All P (way ++ m ∷ [])
all_more P way m all here k d l =
    elim (cases_lt k (length way)) [
      | inl old ↦ rw (get_or_append_left way (m ∷ []) d k old) (all k d old)
      | inr new ↦ rw (get_or_push way m d k (omega (arith, length_push way m))) here
    ]

pub pairs_rest : (R : Message → Message → Type 0) (m : Message) (rest : List Message) → AllPairs R (m ∷ rest) → AllPairs R rest
pairs_rest R m rest all i j d l h = all (suc i) (suc j) d (omega arith) (omega arith)

-- ---- the ways after an answer took the place of the message in front

abbrev pub answered : List (List (List Message)) → ℕ → ℕ → List Message → Message → List (List (List Message))
answered ways b c rest reply = put_message (put_way ways b c rest) c b reply

pub square_answered : (n : ℕ) (ways : List (List (List Message))) (b c : ℕ) (rest : List Message) (reply : Message) → IsSquare n ways → IsSquare n (answered ways b c rest reply)
square_answered n ways b c rest reply sq = square_put n (put_way ways b c rest) c b _ (square_put n ways b c rest sq)
