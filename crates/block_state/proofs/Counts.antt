-- Rooms counted over one arc more.
use Rattle.std.proofs.Common.{eqb, add-one, map, ◌∷◌, ◌⊎◌, ◌≡◌, ℕ, ◌+◌, ◌<◌, ◌≤◌, Bool, true, false, ◌&&◌, ◌||◌, List, [], length, set, get_or, replicate, refl, sym, ◌∙◌, ap, inl, inr, arith, get_or-set_same, get_or-set_other}
use Rattle.std.proofs.lemmas.List.{map-set, same_lists, length-map, length-set, length-replicate, get_or-replicate}
use Rattle.std.proofs.lemmas.Bool.{cases_eq, eqb-true}
use Rattle.sums.specs.Sums.{count_if}
use Rattle.sums.proofs.SumLemmas.{counted-le}
use Rattle.block_events.specs.Soundness.{joins}
use Rattle.block_events.specs.Directions.{forward, backward}
use Rattle.block_events.specs.States.{near_block, far_block}
use Rattle.flow_network.specs.Cut.{Network, IsNet}
use Rattle.block_events.specs.declared.message.Message.{Message}
use Rattle.block_events.specs.Soundness.{opening_state}
use Rattle.block_events.proofs.Opening.{map_at, opened_sound}
use Rattle.block_split.specs.Split.{CanSplit}
use Rattle.block_state.specs.AllWays.{room_at, IsHeld}
use Rattle.block_events.specs.Effects.{BlocksView, opening_blocks, state_of}
use Rattle.block_state.specs.Counting.{put_room, IsSquareOf, directions_between, IsCounted}

room_same : (n : ℕ) (rooms : List (List ℕ)) (b c y : ℕ) → IsSquareOf n rooms → b < n → c < n → room_at (put_room rooms b c y) b c ≡ y
room_same n rooms b c y sq lb lc =
    let row = get_or rooms b [] in
    ap (λ (r : List ℕ). get_or r c 0) (get_or-set_same rooms b (set row c y) [] (omega (arith, sq.rows))) ∙ get_or-set_same row c y 0 (omega (arith, sq.columns b lb))

room_other : (n : ℕ) (rooms : List (List ℕ)) (b c y b' c' : ℕ) → IsSquareOf n rooms → b < n → (b' ≡ b → c' ≡ c → ⊥) → room_at (put_room rooms b c y) b' c' ≡ room_at rooms b' c'
room_other n rooms b c y b' c' sq lb off =
    let row = get_or rooms b [] in
    elim (cases_eq b' b) [
      | inl e ↦ rw e (ap (λ (r : List ℕ). get_or r c' 0) (get_or-set_same rooms b (set row c y) [] (omega (arith, sq.rows))) ∙ get_or-set_other row c c' y 0 (off e))
      | inr ne ↦ ap (λ (r : List ℕ). get_or r c' 0) (get_or-set_other rooms b b' (set row c y) [] ne)
    ]

square_room : (n : ℕ) (rooms : List (List ℕ)) (b c y : ℕ) → IsSquareOf n rooms → IsSquareOf n (put_room rooms b c y)
square_room n rooms b c y sq =
    let row = get_or rooms b [] in
    record {
      rows = length-set rooms b (set row c y) ∙ sq.rows;
      columns = λ b' lb'. elim (cases_eq b' b) [
        | inl e ↦ rw e (ap length (get_or-set_same rooms b (set row c y) [] (omega (arith, sq.rows))) ∙ (length-set row c y ∙ sq.columns b (omega arith)))
        | inr ne ↦ ap length (get_or-set_other rooms b b' (set row c y) [] ne) ∙ sq.columns b' lb'
      ];
    }

cases_pair : (b c f t : ℕ) → ((b ≡ f) × (c ≡ t)) ⊎ (b ≡ f → c ≡ t → ⊥)
cases_pair b c f t = elim (cases_eq b f) [
  | inl e ↦ elim (cases_eq c t) [
    | inl g ↦ inl (e, g)
    | inr off ↦ inr (λ p q. off q)
  ]
  | inr off ↦ inr (λ p q. off p)
]

and_false : (p q : Bool) → (p ≡ true → q ≡ true → ⊥) → (p && q) ≡ false
and_false true true off = absurd (off refl refl)
and_false true false off = refl
and_false false q off = refl

or_false : (p q : Bool) → p ≡ false → q ≡ false → (p || q) ≡ false
or_false p q e f = rw (e, f) refl

not_joined : (f t b c : ℕ) → (f ≡ b → t ≡ c → ⊥) → (f ≡ c → t ≡ b → ⊥) → ((eqb f b && eqb t c) || (eqb f c && eqb t b)) ≡ false
not_joined f t b c off away =
    or_false _ _ (and_false (eqb f b) (eqb t c) (λ p q. off (eqb-true f b p) (eqb-true t c q)))
    (and_false (eqb f c) (eqb t b) (λ p q. away (eqb-true f c p) (eqb-true t b q)))

joined_none : (v : BlocksView) (b c k : ℕ) → (near_block v.net v.blocks (forward k) ≡ b → far_block v.net v.blocks (forward k) ≡ c → ⊥)
    → (near_block v.net v.blocks (forward k) ≡ c → far_block v.net v.blocks (forward k) ≡ b → ⊥) → directions_between v b c k ≡ 0
joined_none v b c k off away =
    let f = near_block v.net v.blocks (forward k) in
    let t = far_block v.net v.blocks (forward k) in
    let there = ap (λ (q : Bool). count_if q 1) (not_joined f t b c off away) in
    let back = ap (λ (q : Bool). count_if q 1) (not_joined t f b c (λ p q. away q p) (λ p q. off q p)) in
    omega (arith, there, back)

joined_two : (v : BlocksView) (b c k : ℕ) → directions_between v b c k ≤ 2
joined_two v b c k = omega (arith, counted-le (joins v.net v.blocks b c (forward k)) 1, counted-le (joins v.net v.blocks b c (backward k)) 1)

pub count_same : (v : BlocksView) (rooms : List (List ℕ)) (k : ℕ) → IsCounted v k rooms
    → near_block v.net v.blocks (forward k) ≡ far_block v.net v.blocks (forward k) → IsCounted v (k + 1) rooms
count_same v rooms k counted same = record {
  square = counted.square;
  enough = λ b c lb lc off.
      let none = joined_none v b c k (λ p q. off (sym p ∙ (same ∙ q))) (λ p q. off (sym q ∙ (sym same ∙ p))) in
      rw add-one (omega (arith, none, counted.enough b c lb lc off));
}

pub count_more : (v : BlocksView) (rooms one two : List (List ℕ)) (k f t : ℕ) → IsCounted v k rooms → f ≡ near_block v.net v.blocks (forward k) → t ≡ far_block v.net v.blocks (forward k)
    → f < v.blocks → t < v.blocks → (f ≡ t → ⊥) → one ≡ put_room rooms f t (room_at rooms f t + 2) → two ≡ put_room one t f (room_at one t f + 2) → IsCounted v (k + 1) two
count_more v rooms one two k f t all at_f at_t lf lt apart first second =
    let n = v.blocks in
    let one' = put_room rooms f t (room_at rooms f t + 2) in
    let two' = put_room one' t f (room_at one' t f + 2) in
    let sq1 = square_room n rooms f t (room_at rooms f t + 2) all.square in
    let there : room_at two' f t ≡ room_at rooms f t + 2 = room_other n one' t f (room_at one' t f + 2) f t sq1 lt (λ e g. apart e) ∙ room_same n rooms f t (room_at rooms f t + 2) all.square lf lt in
    let back : room_at two' t f ≡ room_at rooms t f + 2 = room_same n one' t f (room_at one' t f + 2) sq1 lt lf ∙ ap (λ (q : ℕ). q + 2) (room_other n rooms f t (room_at rooms f t + 2) t f all.square lf (λ e g. apart (sym e))) in
    let elsewhere : (b c : ℕ) → (b ≡ f → c ≡ t → ⊥) → (b ≡ t → c ≡ f → ⊥) → room_at two' b c ≡ room_at rooms b c = λ b c off away.
    room_other n one' t f (room_at one' t f + 2) b c sq1 lt away ∙ room_other n rooms f t (room_at rooms f t + 2) b c all.square lf off in
    let grown : IsCounted v (k + 1) two' = record {
      square = square_room n one' t f (room_at one' t f + 2) sq1;
      enough = λ b c lb lc off. rw add-one (elim (cases_pair b c f t) [
        | inl e ↦
            let here : room_at two' b c ≡ room_at rooms b c + 2 = rw (e.0, e.1) there in
            omega (arith, joined_two v b c k, all.enough b c lb lc off, here)
        | inr not_there ↦ elim (cases_pair b c t f) [
          | inl e ↦
              let here : room_at two' b c ≡ room_at rooms b c + 2 = rw (e.0, e.1) back in
              omega (arith, joined_two v b c k, all.enough b c lb lc off, here)
          | inr not_back ↦
              let none = joined_none v b c k (λ p q. not_there (sym p ∙ sym at_f) (sym q ∙ sym at_t)) (λ p q. not_back (sym q ∙ sym at_t) (sym p ∙ sym at_f)) in
              omega (arith, none, all.enough b c lb lc off, elsewhere b c not_there not_back)
        ]
      ]);
    } in
    rw second (rw first grown)

-- a room that is written in its row is one write to the rooms
pub put_rows : {R : Type 0} (items : R → List ℕ) (rows : List R) (b c y : ℕ) (row row' : R) → b < length rows → row ≡ get_or rows b row → items row' ≡ set (items row) c y
    → map items (set rows b row') ≡ put_room (map items rows) b c y
put_rows items rows b c y row row' l read made =
    map-set items rows b row'
    ∙ ap (set (map items rows) b) (made ∙ ap (λ (r : List ℕ). set r c y) (sym (map_at items rows b [] row l ∙ ap items (sym read))))

-- ---- the opening

map_const : {A B : Type 0} (y : B) (xs : List A) → map (λ x. y) xs ≡ replicate (length xs) y
map_const y [] = refl
map_const y (x ∷ xs) = ap (λ ys. y ∷ ys) (map_const y xs)

pub empty_messages : (n : ℕ) (rooms : List (List ℕ)) → IsSquareOf n rooms → map (λ row. map (λ k. let none : List Message = [] in none) row) rooms ≡ replicate n (replicate n [])
empty_messages n rooms sq =
    let none : List Message = [] in
    let f : List ℕ → List (List Message) = λ row. map (λ k. none) row in
    same_lists (map f rooms) (replicate n (replicate n none)) (length-map rooms f ∙ (sq.rows ∙ sym (length-replicate n (replicate n none)))) (λ b d l.
    let lb : b < length rooms = omega (arith, l, length-map rooms f) in
    let lb' : b < n = omega (arith, lb, sq.rows) in
    map_at f rooms b d [] lb ∙ (map_const none (get_or rooms b []) ∙ (ap (λ (m : ℕ). replicate m none) (sq.columns b lb') ∙ sym (get_or-replicate n b (replicate n none) d lb'))))

pub opened_held : (net : Network) (blocks : ℕ) (rooms : List (List ℕ)) → IsNet net → CanSplit net blocks → IsCounted (opening_blocks net blocks) (length net.arcs) rooms → IsHeld rooms (opening_state net blocks)
opened_held net blocks rooms is can counted = record { sound = opened_sound net blocks is can.some; few = can.few; arcs = can.arcs; room = counted.enough }

pub opened_is : (net : Network) (n : ℕ) (b : BlocksView) (messages : List (List (List Message))) (rooms : List (List ℕ)) → b ≡ opening_blocks net n → IsSquareOf n rooms
    → messages ≡ map (λ row. map (λ k. let none : List Message = [] in none) row) rooms → state_of b messages 0 ≡ opening_state net n
opened_is net n b messages rooms is sq empty = rw (is, empty, empty_messages n rooms sq) refl
