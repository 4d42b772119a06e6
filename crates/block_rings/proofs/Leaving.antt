-- What is left in the rings that were looked at, as ways.
use Rattle.std.proofs.Common.{◌≡◌, ℕ, zero, suc, ◌+◌, ◌<◌, ◌≤◌, true, false, List, [], ◌∷◌, ◌++◌, length, get_or, drop, All, Option, Some, None, refl, sym, ◌∙◌, ap, inl, inr, arith}
use Rattle.std.proofs.lemmas.Bool.{cases_eq, eq-eqb, ne_eqb}
use Rattle.std.proofs.lemmas.List.{map-append, drop_at, length-append, length-map}
use Rattle.block_events.specs.declared.message.Message.{Message}
use Rattle.block_events.specs.States.{way_at}
use Rattle.block_events.specs.Soundness.{IsSquare}
use Rattle.block_discharge.specs.declared.letter.Letter.{Letter}
use Rattle.block_workers.specs.Seeing.{messages}
use Rattle.block_rings.specs.Left.{AreLeft, HaveRoomFor, rest_of}
use Rattle.block_rings.specs.Links.{Traffic, Link, traffic_of, link_in, left_in, down, up, is_link_of, AreLinks, IsLinkSeen, RingsView, sent_in, taken_in, ring_room, AreWithinRoom}

-- ---- tables

-- the values of f below n
abbrev pub table : {X : Type 0} → ℕ → (ℕ → X) → List X
table zero f = []
table (suc n) f = f zero ∷ table n (λ i. f (suc i))

table_long : {X : Type 0} (n : ℕ) (f : ℕ → X) → length (table n f) ≡ n
table_long zero f = refl
table_long (suc n) f = ap suc (table_long n (λ i. f (suc i)))

table_at : {X : Type 0} (n : ℕ) (f : ℕ → X) (i : ℕ) (d : X) → i < n → get_or (table n f) i d ≡ f i
table_at zero f i d low = absurd (omega (arith, low))
table_at (suc n) f zero d low = refl
table_at (suc n) f (suc i) d low = table_at n (λ j. f (suc j)) i d (omega (arith, low))

-- ---- one link

pub rest_is : (sent taken left : List Message) → sent ≡ taken ++ left → rest_of sent taken ≡ left
rest_is sent taken left is = ap (drop (length taken)) is ∙ drop_at taken left (length taken) refl

-- what was put, where what is left was seen
pub letters_split : (sent taken left : List Letter) → sent ≡ taken ++ left → messages sent ≡ messages taken ++ rest_of (messages sent) (messages taken)
letters_split sent taken left is =
    let all : messages sent ≡ messages taken ++ messages left = ap (λ (x : List Letter). messages x) is ∙ map-append (λ (x : Letter). x.message) taken left in
    all ∙ ap (λ (x : List Message). messages taken ++ x) (sym (rest_is (messages sent) (messages taken) (messages left) all))

joins_not : (l : Link) (b c : ℕ) → (l.first ≡ b → l.second ≡ c → ⊥) → is_link_of l b c ≡ false
joins_not l b c off = elim (cases_eq b l.first) [
  | inl same ↦ rw (eq-eqb b l.first same) (ne_eqb c l.second (λ e. off (sym same) (sym e)))
  | inr apart ↦ rw (ne_eqb b l.first apart) refl
]

joins_is : (l : Link) (b c : ℕ) → l.first ≡ b → l.second ≡ c → is_link_of l b c ≡ true
joins_is l b c at_b at_c = rw (eq-eqb b l.first (sym at_b)) (eq-eqb c l.second (sym at_c))

-- the blocks of a link, in either order, or not
pub link_cases : (P : Type 0) (l : Link) (b c : ℕ) → (l.first ≡ b → l.second ≡ c → P) → (l.first ≡ c → l.second ≡ b → P)
    → ((l.first ≡ b → l.second ≡ c → ⊥) → (l.first ≡ c → l.second ≡ b → ⊥) → P) → P
link_cases P l b c there back off = elim (cases_eq l.first b) [
  | inl at_b ↦ elim (cases_eq l.second c) [
    | inl at_c ↦ there at_b at_c
    | inr no_c ↦ elim (cases_eq l.first c) [
      | inl is_c ↦ elim (cases_eq l.second b) [
        | inl is_b ↦ back is_c is_b
        | inr no_b ↦ off (λ e f. no_c f) (λ e f. no_b f)
      ]
      | inr not_c ↦ off (λ e f. no_c f) (λ e f. not_c e)
    ]
  ]
  | inr no_b ↦ elim (cases_eq l.first c) [
    | inl is_c ↦ elim (cases_eq l.second b) [
      | inl is_b ↦ back is_c is_b
      | inr not_b ↦ off (λ e f. no_b e) (λ e f. not_b f)
    ]
    | inr not_c ↦ off (λ e f. no_b e) (λ e f. not_c e)
  ]
]

pub link_there : (l : Link) (links : List Link) (b c : ℕ) → l.first ≡ b → l.second ≡ c → link_in (l ∷ links) b c ≡ Some l.of_first
link_there l links b c at_b at_c = rw (joins_is l b c at_b at_c) refl

pub link_back : (l : Link) (links : List Link) (b c : ℕ) → l.second < l.first → l.first ≡ c → l.second ≡ b → link_in (l ∷ links) b c ≡ Some l.of_second
link_back l links b c order at_c at_b =
    rw (joins_not l b c (λ e f. absurd (omega (arith, order, e, f, at_c, at_b))), joins_is l c b at_c at_b) refl

pub link_off : (l : Link) (links : List Link) (b c : ℕ) → (l.first ≡ b → l.second ≡ c → ⊥) → (l.first ≡ c → l.second ≡ b → ⊥)
    → link_in (l ∷ links) b c ≡ link_in links b c
link_off l links b c off_there off_back = rw (joins_not l b c off_there, joins_not l c b off_back) refl

-- ---- all links

-- what was put is what was taken, followed by what is left
pub splits : (blocks : ℕ) (links : List Link) → AreLinks blocks links → All IsLinkSeen links → (b c : ℕ)
    → (traffic_of (link_in links b c)).sent ≡ (traffic_of (link_in links c b)).taken ++ left_in links b c
splits blocks [] are seen b c = refl
splits blocks (l ∷ links) are seen b c =
    let all = l ∷ links in
    let one : IsLinkSeen l = seen zero l (omega arith) in
    let fits : (s t : Option Traffic) (left : List Message) → link_in all b c ≡ s → link_in all c b ≡ t → (traffic_of s).sent ≡ (traffic_of t).taken ++ left
    → (traffic_of (link_in all b c)).sent ≡ (traffic_of (link_in all c b)).taken ++ left_in all b c =
    λ s t left is_s is_t e. rw (is_s, is_t) (e ∙ ap (λ (x : List Message). (traffic_of t).taken ++ x) (sym (rest_is (traffic_of s).sent (traffic_of t).taken left e))) in
    link_cases _ l b c
    (λ at_b at_c. fits (Some l.of_first) (Some l.of_second) (down l) (link_there l links b c at_b at_c) (link_back l links c b are.0 at_b at_c) one.down)
    (λ at_c at_b. fits (Some l.of_second) (Some l.of_first) (up l) (link_back l links b c are.0 at_c at_b) (link_there l links c b at_c at_b) one.up)
    (λ off_there off_back.
    fits (link_in links b c) (link_in links c b) (left_in links b c) (link_off l links b c off_there off_back) (link_off l links c b off_back off_there)
    (splits blocks links are.3 (λ k d low. seen (suc k) d (omega (arith, low))) b c))

-- no block has a link to itself
pub link_none : (blocks : ℕ) (links : List Link) → AreLinks blocks links → (b : ℕ) → link_in links b b ≡ None
link_none blocks [] are b = refl
link_none blocks (l ∷ links) are b =
    link_off l links b b (λ e f. absurd (omega (arith, e, f, are.0))) (λ e f. absurd (omega (arith, e, f, are.0))) ∙ link_none blocks links are.3 b

pub left_none : (blocks : ℕ) (links : List Link) → AreLinks blocks links → (b : ℕ) → left_in links b b ≡ []
left_none blocks links are b = rw (link_none blocks links are b) refl

-- ways with what is left
abbrev pub ways_of : ℕ → List Link → List (List (List Message))
ways_of n links = table n (λ b. table n (λ c. left_in links b c))

ways_at : (n : ℕ) (links : List Link) (b c : ℕ) → b < n → c < n → way_at (ways_of n links) b c ≡ left_in links b c
ways_at n links b c low_b low_c =
    ap (λ (row : List (List Message)). get_or row c []) (table_at n (λ x. table n (λ y. left_in links x y)) b [] low_b)
    ∙ table_at n (λ y. left_in links b y) c [] low_c

ways_square : (n : ℕ) (links : List Link) → IsSquare n (ways_of n links)
ways_square n links = record {
  rows = table_long n (λ b. table n (λ c. left_in links b c));
  columns = λ b low.
      ap (λ (row : List (List Message)). length row) (table_at n (λ x. table n (λ y. left_in links x y)) b [] low)
      ∙ table_long n (λ y. left_in links b y);
}

-- something is left, as ways
abbrev pub AnyLeft : RingsView → Type 0
AnyLeft v = (left : List (List (List Message))) × AreLeft v.blocks (sent_in v) (taken_in v) left

pub left_ways : (v : RingsView) → AreLinks v.blocks v.links → All IsLinkSeen v.links → AnyLeft v
left_ways v are seen = (
  ways_of v.blocks v.links,
  record {
    square = ways_square v.blocks v.links;
    none = λ b low. ways_at v.blocks v.links b b low low ∙ left_none v.blocks v.links are b;
    ways = λ b c low_b low_c off.
        splits v.blocks v.links are seen b c
        ∙ ap (λ (x : List Message). (traffic_of (link_in v.links c b)).taken ++ x) (sym (ways_at v.blocks v.links b c low_b low_c));
  },
)

-- ---- how much is left

abbrev Fits : Option Traffic → Option Traffic → Type 0
Fits there back = length (traffic_of there).sent ≤ length (traffic_of back).taken + (traffic_of there).room

within : (blocks : ℕ) (links : List Link) → AreLinks blocks links → All IsLinkSeen links → (b c : ℕ) → Fits (link_in links b c) (link_in links c b)
within blocks [] are seen b c = omega arith
within blocks (l ∷ links) are seen b c =
    let all = l ∷ links in
    let one : IsLinkSeen l = seen zero l (omega arith) in
    let fits : (s t : Option Traffic) → link_in all b c ≡ s → link_in all c b ≡ t → Fits s t → Fits (link_in all b c) (link_in all c b) = λ s t is_s is_t e. rw (is_s, is_t) e in
    link_cases _ l b c (λ at_b at_c. fits (Some l.of_first) (Some l.of_second) (link_there l links b c at_b at_c) (link_back l links c b are.0 at_b at_c) one.few_down)
    (λ at_c at_b. fits (Some l.of_second) (Some l.of_first) (link_back l links b c are.0 at_c at_b) (link_there l links c b at_c at_b) one.few_up)
    (λ off_there off_back.
    fits (link_in links b c) (link_in links c b) (link_off l links b c off_there off_back) (link_off l links c b off_back off_there)
    (within blocks links are.3 (λ k d low. seen (suc k) d (omega (arith, low))) b c))

pub all_within : (v : RingsView) → AreLinks v.blocks v.links → All IsLinkSeen v.links → AreWithinRoom v
all_within v are seen b c = within v.blocks v.links are seen b c

pub letters_few : (put taken waiting : List Letter) (n : ℕ) → put ≡ taken ++ waiting → length waiting ≤ n → length (messages put) ≤ length (messages taken) + n
letters_few put taken waiting n is few =
    let all = length-map put (λ (l : Letter). l.message) in
    let some = length-map taken (λ (l : Letter). l.message) in
    let both = ap (λ (ls : List Letter). length ls) is ∙ length-append taken waiting in
    omega (arith, all, some, both, few)

pub room_for_left : (v : RingsView) (left : List (List (List Message))) → AreWithinRoom v → AreLeft v.blocks (sent_in v) (taken_in v) left → HaveRoomFor v.blocks (ring_room v) left
room_for_left v left few has b c low_b low_c = elim (cases_eq b c) [
  | inl same ↦ omega (arith, ap (λ (ms : List Message). length ms) (ap (λ k. way_at left b k) (sym same) ∙ has.none b low_b))
  | inr off ↦
      let all = ap (λ (ms : List Message). length ms) (has.ways b c low_b low_c off) ∙ length-append (taken_in v c b) (way_at left b c) in
      omega (arith, all, few b c)
]
