-- One block's ends of the core's ways, after a message was put or taken.
use Rattle.std.proofs.Common.{◌≡◌, ◌≢◌, ℕ, ◌-◌, ◌<◌, Bool, true, cond, eqb, nat_lt, ◌&&◌, not, List, [], ◌∷◌, ◌++◌, length, take, drop, Option, Some, None, is_some, refl, sym, ◌∙◌, ap, subst, inl, inr, arith}
use Rattle.std.proofs.lemmas.Bool.{cases_eq, cases_Bool, and_parts, ltb-true, not-true, eq-eqb, true≢false}
use Rattle.std.proofs.lemmas.List.{length-append, append_assoc}
use Rattle.std.proofs.Math.Seq.{drop-append_seam, take-append_seam}
use Rattle.block_events.specs.declared.message.Message.{Message}
use Rattle.block_events.specs.States.{way_at, put_way, put_message}
use Rattle.block_events.specs.Soundness.{IsSquare}
use Rattle.block_events.proofs.Ways.{square_put, way_same, way_other}
use Rattle.block_events.proofs.Words.{put_here, put_other}
use Rattle.block_state.specs.AllWays.{AllWaysView, room_at}
use Rattle.block_discharge.specs.declared.letter.Letter.{Letter}
use Rattle.block_discharge.specs.Seen.{IsPut, IsTake, add_to}
use Rattle.cut_in_blocks.proofs.Logs.{added, not_added}
use Rattle.cut_in_blocks.specs.WayEnds.{WayEndsView, way_ends_view, first_to, now_to, first_from, now_from, is_other_block, letter_of, seen_by, IsEnds}

-- ---- lists

-- what stands beyond a beginning
pub beyond : (first more now : List Message) → now ≡ first ++ more → drop (length first) now ≡ more
beyond first more now is = ap (drop (length first)) is ∙ drop-append_seam first more

-- what stands before an end
pub before : (all more rest : List Message) → all ≡ more ++ rest → take (length all - length rest) all ≡ more
before all more rest is =
    let long : length all - length rest ≡ length more = omega (arith, ap length is, length-append more rest) in
    ap (λ n. take n all) long ∙ (ap (take (length more)) is ∙ take-append_seam more rest)

-- ---- another block

-- the ends with other ways
abbrev pub with_now : WayEndsView → AllWaysView → WayEndsView
with_now e now = way_ends_view e.block e.blocks e.first now e.slots e.arcs

other_below : (e : WayEndsView) (c : ℕ) → is_other_block e c ≡ true → c < e.blocks
other_below e c on = ltb-true c e.blocks (and_parts (nat_lt c e.blocks) (not (eqb c e.block)) on).0

other_apart : (e : WayEndsView) (c : ℕ) → is_other_block e c ≡ true → e.block ≢ c
other_apart e c on same =
    true≢false (sym (eq-eqb c e.block (sym same)) ∙ not-true (eqb c e.block) (and_parts (nat_lt c e.blocks) (not (eqb c e.block)) on).1)

letter_same : (e : WayEndsView) (now : AllWaysView) (way : List Message) → letter_of (with_now e now) way ≡ letter_of e way
letter_same e now [] = refl
letter_same e now (m ∷ rest) = refl

-- ---- after a message was put

module _ (e : WayEndsView) (now : AllWaysView) (to : ℕ) (m : Message) (kept : IsEnds e) (on : is_other_block e to ≡ true) (is : now.messages ≡ put_message e.now.messages e.block to m) where
  off : e.block ≢ to
  off = other_apart e to on

  there : way_at now.messages e.block to ≡ now_to e to ++ m ∷ []
  there = ap (λ w. way_at w e.block to) is ∙ put_here e.blocks e.now.messages e.block to m kept.turned.square kept.block (other_below e to on)

  elsewhere : (i j : ℕ) → (i ≡ e.block → j ≡ to → ⊥) → way_at now.messages i j ≡ way_at e.now.messages i j
  elsewhere i j away = ap (λ w. way_at w i j) is ∙ put_other e.blocks e.now.messages e.block to m i j kept.turned.square kept.block away

  more : way_at now.messages e.block to ≡ first_to e to ++ ((seen_by e).sent to ++ m ∷ [])
  more = there ∙ (ap (λ (r : List Message). r ++ m ∷ []) (kept.turned.puts to (other_below e to on) off) ∙ append_assoc (first_to e to) ((seen_by e).sent to) (m ∷ []))

  put_sent : (c : ℕ) → (seen_by (with_now e now)).sent c ≡ add_to (seen_by e).sent to m c
  put_sent c = elim (cases_eq c to) [
    | inl f ↦ rw f (beyond (first_to e to) ((seen_by e).sent to ++ m ∷ []) (way_at now.messages e.block to) more ∙ sym (added (seen_by e).sent to m))
    | inr away ↦ ap (drop (length (first_to e c))) (elsewhere e.block c (λ f g. away g)) ∙ sym (not_added (seen_by e).sent to m c away)
  ]

  put_from : (c : ℕ) → way_at now.messages c e.block ≡ now_from e c
  put_from c = elsewhere c e.block (λ f g. off g)

  put_puts : (c : ℕ) → c < e.blocks → e.block ≢ c → way_at now.messages e.block c ≡ first_to e c ++ (seen_by (with_now e now)).sent c
  put_puts c lc away = elim (cases_eq c to) [
    | inl f ↦
        rw f (more ∙ ap (λ (r : List Message). first_to e to ++ r) (sym (beyond (first_to e to) ((seen_by e).sent to ++ m ∷ []) (way_at now.messages e.block to) more)))
    | inr apart ↦
        let same = elsewhere e.block c (λ f g. apart g) in
        same ∙ (kept.turned.puts c lc away ∙ ap (λ (w : List Message). first_to e c ++ drop (length (first_to e c)) w) (sym same))
  ]

  pub put_kept : now.rooms ≡ e.now.rooms → IsEnds (with_now e now)
  put_kept rooms = record {
    block = kept.block;
    slots = kept.slots;
    arcs = kept.arcs;
    rooms = rooms ∙ kept.rooms;
    turned = record {
      puts = put_puts;
      takes = λ c lc away. refl;
      others = λ a c away apart. elsewhere a c (λ f g. away (sym f)) ∙ kept.turned.others a c away apart;
      own = elsewhere e.block e.block (λ f g. off g) ∙ kept.turned.own;
      square = subst (IsSquare e.blocks) (sym is) (square_put e.blocks e.now.messages e.block to (now_to e to ++ m ∷ []) kept.turned.square);
    };
    takes = λ c lc away.
        subst (λ (w : List Message). first_from e c ≡ take (length (first_from e c) - length w) (first_from e c) ++ w) (sym (put_from c)) (kept.takes c lc away);
  }

  pub put_is : IsPut to m (seen_by e) (seen_by (with_now e now))
  put_is = record {
    sent = put_sent;
    taken = λ c. ap (λ (w : List Message). take (length (first_from e c) - length w) (first_from e c)) (put_from c);
    front = λ c l was.
        ap (λ (o : Option Letter). cond (is_other_block e c) o None) (letter_same e now (way_at now.messages c e.block) ∙ ap (letter_of e) (put_from c)) ∙ was;
  }

-- ---- the letter in front

-- the block is another one, and the letter's message stands in front
abbrev pub IsFront : WayEndsView → ℕ → Letter → Type 0
IsFront e c l = (is_other_block e c ≡ true) × (now_from e c ≡ l.message ∷ drop 1 (now_from e c))

abbrev message_in : Message → Option Letter → Message
message_in m (Some l) = l.message
message_in m None = m

in_front : (e : WayEndsView) (way : List Message) (l : Letter) → letter_of e way ≡ Some l → way ≡ l.message ∷ drop 1 way
in_front e [] l is = absurd (true≢false (sym (ap is_some is)))
in_front e (m ∷ rest) l is =
    ap (λ (q : Message). q ∷ rest) (ap (message_in m) is)

pub front_is : (e : WayEndsView) (c : ℕ) (l : Letter) → (seen_by e).front c ≡ Some l → IsFront e c l
front_is e c l is = elim (cases_Bool (is_other_block e c)) [
  | inl on ↦ (on, in_front e (now_from e c) l (sym (ap (λ (t : Bool). cond t (letter_of e (now_from e c)) None) on) ∙ is))
  | inr no' ↦ absurd (true≢false (sym (ap is_some (sym (ap (λ (t : Bool). cond t (letter_of e (now_from e c)) None) no') ∙ is))))
]

some_of : (o : Option Letter) → is_some o ≡ true → (l : Letter) × (o ≡ Some l)
some_of None some = absurd (true≢false (sym some))
some_of (Some l) some = (l, refl)

pub front_some : (e : WayEndsView) (c : ℕ) → is_some ((seen_by e).front c) ≡ true → (l : Letter) × IsFront e c l
front_some e c some = let found = some_of ((seen_by e).front c) some in (found.0, front_is e c found.0 found.1)

-- ---- after a message was taken

module _ (e : WayEndsView) (now : AllWaysView) (from : ℕ) (l : Letter) (kept : IsEnds e) (front : IsFront e from l) (is : now.messages ≡ put_way e.now.messages from e.block (drop 1 (now_from e from))) where
  abbrev rest : List Message
  rest = drop 1 (now_from e from)

  off_from : e.block ≢ from
  off_from = other_apart e from front.0

  left_there : way_at now.messages from e.block ≡ rest
  left_there = ap (λ w. way_at w from e.block) is ∙ way_same e.blocks e.now.messages from e.block rest kept.turned.square (other_below e from front.0) kept.block

  left_elsewhere : (i j : ℕ) → (i ≡ from → j ≡ e.block → ⊥) → way_at now.messages i j ≡ way_at e.now.messages i j
  left_elsewhere i j away = ap (λ w. way_at w i j) is ∙ way_other e.blocks e.now.messages from e.block rest i j kept.turned.square (other_below e from front.0) away

  take_to : (c : ℕ) → way_at now.messages e.block c ≡ now_to e c
  take_to c = left_elsewhere e.block c (λ f g. off_from f)

  -- what was there is what was taken, with this message, and what is left
  split : first_from e from ≡ ((seen_by e).taken from ++ l.message ∷ []) ++ way_at now.messages from e.block
  split =
      kept.takes from (other_below e from front.0) off_from
      ∙ (ap (λ (r : List Message). (seen_by e).taken from ++ r) front.1
      ∙ (sym (append_assoc ((seen_by e).taken from) (l.message ∷ []) rest)
      ∙ ap (λ (r : List Message). ((seen_by e).taken from ++ l.message ∷ []) ++ r) (sym left_there)))

  take_taken : (c : ℕ) → (seen_by (with_now e now)).taken c ≡ add_to (seen_by e).taken from l.message c
  take_taken c = elim (cases_eq c from) [
    | inl f ↦
        rw f (before (first_from e from) ((seen_by e).taken from ++ l.message ∷ []) (way_at now.messages from e.block) split ∙ sym (added (seen_by e).taken from l.message))
    | inr away ↦
        ap (λ (w : List Message). take (length (first_from e c) - length w) (first_from e c)) (left_elsewhere c e.block (λ f g. away f))
        ∙ sym (not_added (seen_by e).taken from l.message c away)
  ]

  take_takes : (c : ℕ) → c < e.blocks → e.block ≢ c → first_from e c ≡ (seen_by (with_now e now)).taken c ++ way_at now.messages c e.block
  take_takes c lc away = elim (cases_eq c from) [
    | inl f ↦
        rw f (split
        ∙ ap (λ (r : List Message). r ++ way_at now.messages from e.block)
        (sym (before (first_from e from) ((seen_by e).taken from ++ l.message ∷ []) (way_at now.messages from e.block) split)))
    | inr apart ↦
        subst (λ (w : List Message). first_from e c ≡ take (length (first_from e c) - length w) (first_from e c) ++ w)
        (sym (left_elsewhere c e.block (λ f g. apart f))) (kept.takes c lc away)
  ]

  pub take_kept : now.rooms ≡ e.now.rooms → IsEnds (with_now e now)
  take_kept rooms = record {
    block = kept.block;
    slots = kept.slots;
    arcs = kept.arcs;
    rooms = rooms ∙ kept.rooms;
    turned = record {
      puts = λ c lc away.
          subst (λ (w : List Message). w ≡ first_to e c ++ drop (length (first_to e c)) w) (sym (take_to c)) (kept.turned.puts c lc away);
      takes = λ c lc away. refl;
      others = λ a c away apart. left_elsewhere a c (λ f g. apart (sym g)) ∙ kept.turned.others a c away apart;
      own = left_elsewhere e.block e.block (λ f g. off_from f) ∙ kept.turned.own;
      square = subst (IsSquare e.blocks) (sym is) (square_put e.blocks e.now.messages from e.block rest kept.turned.square);
    };
    takes = take_takes;
  }

  pub take_is : now.rooms ≡ e.now.rooms → IsTake from l.message (seen_by e) (seen_by (with_now e now))
  take_is rooms = record {
    sent = λ c. ap (drop (length (first_to e c))) (take_to c);
    taken = take_taken;
    room = λ c was.
        ap (λ (w : List Message). is_other_block e c && nat_lt (length w) (room_at now.rooms e.block c)) (take_to c)
        ∙ (ap (λ (r : List (List ℕ)). is_other_block e c && nat_lt (length (now_to e c)) (room_at r e.block c)) rooms ∙ was);
  }
