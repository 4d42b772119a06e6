-- The rings of a link more are drained.
use Rattle.std.proofs.Common.{◌≡◌, ◌≢◌, ℕ, ◌+◌, ◌<◌, ◌≤◌, ◌^◌, List, [], ◌∷◌, ◌++◌, length, Some, None, refl, sym, ◌∙◌, ap, subst, arith}
use Rattle.std.proofs.lemmas.List.{append-nil, length-append, get_or-append-add}
use Rattle.block_events.specs.declared.message.Message.{Message}
use Rattle.block_events.specs.States.{way_at, put_way}
use Rattle.block_events.specs.Soundness.{IsSquare, direction_of}
use Rattle.block_events.proofs.Ways.{way_same, way_other, square_put}
use Rattle.block_state.specs.AllWays.{room_at}
use Rattle.block_rings.specs.Left.{AreWaysEmpty, AreFitting, AreKeptByWays, AreLeft, rest_of}
use Rattle.block_rings.specs.Links.{Traffic, Link, RingsView, link_in, left_in, AreLinks, down, up, sent_in, taken_in}
use Rattle.block_rings.specs.Draining.{AreDraining, HaveRoom, IsFitting, ways_after_drain}
use Rattle.block_rings.proofs.Moving.{way_back}
use Rattle.block_rings.proofs.Leaving.{AnyLeft, link_cases, link_there, link_back, link_off, left_none, rest_is}

no_traffic : (t : Traffic) → Some t ≡ None → ⊥
no_traffic t e = cc

-- where there is no link, there is none back
pub none_back : (blocks : ℕ) (links : List Link) → AreLinks blocks links → (b c : ℕ) → link_in links b c ≡ None → link_in links c b ≡ None
none_back blocks [] are b c none = refl
none_back blocks (l ∷ links) are b c none =
    link_cases _ l b c (λ e f. absurd (no_traffic l.of_first (sym (link_there l links b c e f) ∙ none))) (λ e f. absurd (no_traffic l.of_second (sym (link_back l links b c are.0 e f) ∙ none)))
    (λ off_there off_back.
    link_off l links c b off_back off_there ∙ none_back blocks links are.3 b c (sym (link_off l links b c off_there off_back) ∙ none))

nothing_left : (blocks : ℕ) (links : List Link) → AreLinks blocks links → (b c : ℕ) → link_in links b c ≡ None → left_in links b c ≡ []
nothing_left blocks links are b c none = rw (none, none_back blocks links are b c none) refl

left_there : (l : Link) (links : List Link) (b c : ℕ) → l.second < l.first → l.first ≡ b → l.second ≡ c → left_in (l ∷ links) b c ≡ down l
left_there l links b c order e f = rw (link_there l links b c e f, link_back l links c b order e f) refl

left_back : (l : Link) (links : List Link) (b c : ℕ) → l.second < l.first → l.first ≡ c → l.second ≡ b → left_in (l ∷ links) b c ≡ up l
left_back l links b c order e f = rw (link_back l links b c order e f, link_there l links c b e f) refl

left_off : (l : Link) (links : List Link) (b c : ℕ) → (l.first ≡ b → l.second ≡ c → ⊥) → (l.first ≡ c → l.second ≡ b → ⊥) → left_in (l ∷ links) b c ≡ left_in links b c
left_off l links b c off_there off_back = rw (link_off l links b c off_there off_back, link_off l links c b off_back off_there) refl

kept_end : (way left : List Message) → AreKeptByWays (way ++ left) → AreKeptByWays left
kept_end way left kept k d low =
    subst (λ (m : Message). (direction_of m).arc < 2 ^ 32) (get_or-append-add way left k d) (kept (length way + k) d (omega (arith, low, length-append way left)))

module _ (n : ℕ) (rooms : List (List ℕ)) (first links : List Link) (l : Link) (ways : List (List (List Message))) (was : AreDraining n first (l ∷ links) ways) where
  abbrev are : AreLinks n (l ∷ links)
  are = was.linked

  apart : l.first ≢ l.second
  apart e = absurd (omega (arith, e, are.0))

  at_down : way_at ways l.first l.second ++ down l ≡ left_in first l.first l.second
  at_down =
      ap (λ (x : List Message). way_at ways l.first l.second ++ x) (sym (left_there l links l.first l.second are.0 refl refl))
      ∙ was.whole l.first l.second are.1 (omega (arith, are.0, are.1))

  at_up : way_at ways l.second l.first ++ up l ≡ left_in first l.second l.first
  at_up =
      ap (λ (x : List Message). way_at ways l.second l.first ++ x) (sym (left_back l links l.second l.first are.0 refl refl))
      ∙ was.whole l.second l.first (omega (arith, are.0, are.1)) are.1

  pub fitting : HaveRoom n rooms first → IsFitting rooms ways l
  fitting have =
      let low : l.second < n = omega (arith, are.0, are.1) in
      let back : l.second ≢ l.first = λ e. apart (sym e) in
      record {
        room_down = omega (arith, have.room l.first l.second are.1 low apart, ap length at_down, length-append (way_at ways l.first l.second) (down l));
        room_up = omega (arith, have.room l.second l.first low are.1 back, ap length at_up, length-append (way_at ways l.second l.first) (up l));
        arcs_down = kept_end (way_at ways l.first l.second) (down l) (subst AreKeptByWays (sym at_down) (have.arcs l.first l.second are.1 low apart));
        arcs_up = kept_end (way_at ways l.second l.first) (up l) (subst AreKeptByWays (sym at_up) (have.arcs l.second l.first low are.1 back));
      }

  abbrev half : List (List (List Message))
  half = put_way ways l.first l.second (way_at ways l.first l.second ++ down l)

  half_square : IsSquare n half
  half_square = square_put n ways l.first l.second (way_at ways l.first l.second ++ down l) was.square

  whole_there : way_at (ways_after_drain l ways) l.first l.second ++ left_in links l.first l.second ≡ left_in first l.first l.second
  whole_there =
      let low : l.second < n = omega (arith, are.0, are.1) in
      let all = ways_after_drain l ways in
      let way : way_at all l.first l.second ≡ way_at ways l.first l.second ++ down l =
      way_other n half l.second l.first (way_at ways l.second l.first ++ up l) l.first l.second half_square low (λ e f. apart e)
      ∙ way_same n ways l.first l.second (way_at ways l.first l.second ++ down l) was.square are.1 low in
      ap (λ (x : List Message). way_at all l.first l.second ++ x) (nothing_left n links are.3 l.first l.second are.2)
      ∙ (append-nil (way_at all l.first l.second) ∙ (way ∙ at_down))

  whole_back : way_at (ways_after_drain l ways) l.second l.first ++ left_in links l.second l.first ≡ left_in first l.second l.first
  whole_back =
      let low : l.second < n = omega (arith, are.0, are.1) in
      let all = ways_after_drain l ways in
      let way : way_at all l.second l.first ≡ way_at ways l.second l.first ++ up l =
      way_same n half l.second l.first (way_at ways l.second l.first ++ up l) half_square low are.1 in
      ap (λ (x : List Message). way_at all l.second l.first ++ x) (nothing_left n links are.3 l.second l.first (none_back n links are.3 l.first l.second are.2))
      ∙ (append-nil (way_at all l.second l.first) ∙ (way ∙ at_up))

  whole_off : (b c : ℕ) → b < n → c < n → (l.first ≡ b → l.second ≡ c → ⊥) → (l.first ≡ c → l.second ≡ b → ⊥)
      → way_at (ways_after_drain l ways) b c ++ left_in links b c ≡ left_in first b c
  whole_off b c low_b low_c off_there off_back =
      let low : l.second < n = omega (arith, are.0, are.1) in
      let way : way_at (ways_after_drain l ways) b c ≡ way_at ways b c =
      way_other n half l.second l.first (way_at ways l.second l.first ++ up l) b c half_square low (λ e f. off_back (sym f) (sym e))
      ∙ way_other n ways l.first l.second (way_at ways l.first l.second ++ down l) b c was.square are.1 (λ e f. off_there (sym e) (sym f)) in
      ap (λ (x : List Message). x ++ left_in links b c) way
      ∙ (ap (λ (x : List Message). way_at ways b c ++ x) (sym (left_off l links b c off_there off_back)) ∙ was.whole b c low_b low_c)

  pub draining_more : AreDraining n first links (ways_after_drain l ways)
  draining_more = record {
    square = square_put n half l.second l.first (way_at ways l.second l.first ++ up l) half_square;
    linked = are.3;
    whole = λ b c low_b low_c.
        let P : ℕ → ℕ → Type 0 = λ x y. way_at (ways_after_drain l ways) x y ++ left_in links x y ≡ left_in first x y in
        link_cases (P b c) l b c
        (λ e f. subst (λ x. P x c) e (subst (λ y. P l.first y) f whole_there))
        (λ e f. subst (λ x. P x c) f (subst (λ y. P l.second y) e whole_back))
        (whole_off b c low_b low_c);
  }

-- ---- the second ring of a link, once the first was drained

module _ (l : Link) (ways new : List (List (List Message))) (b c : ℕ) (sent taken : List Message) (sq : IsSquare (length ways) ways) (order : l.second < l.first) (low : l.first < length ways)
    (is_b : b ≡ l.first) (is_c : c ≡ l.second) (is_sent : sent ≡ l.of_second.sent) (is_taken : taken ≡ l.of_first.taken) (is : new ≡ put_way ways b c (way_at ways b c ++ down l)) where
  same_way : way_at new c b ≡ way_at ways c b
  same_way = way_back ways new b c (way_at ways b c ++ down l) sq (omega (arith, is_b, low)) (λ e. omega (arith, e, is_b, is_c, order)) is

  pub second_room : (rooms rooms' : List (List ℕ)) → rooms' ≡ rooms → IsFitting rooms ways l → length (way_at new c b) + length (rest_of sent taken) ≤ room_at rooms' c b
  second_room rooms rooms' same fit = rw (same_way, same, is_sent, is_taken, is_b, is_c) fit.room_up

  pub second_drained : (end : List (List (List Message))) → end ≡ put_way new c b (way_at new c b ++ rest_of sent taken) → end ≡ ways_after_drain l ways
  second_drained end made = made ∙ rw (same_way, is, is_sent, is_taken, is_b, is_c) refl

pub draining_none : (n : ℕ) (links : List Link) (ways : List (List (List Message))) → IsSquare n ways → AreWaysEmpty n ways → AreLinks n links → AreDraining n links links ways
draining_none n links ways square empty are = record {
  square = square;
  linked = are;
  whole = λ b c low_b low_c. ap (λ (x : List Message). x ++ left_in links b c) (empty b c low_b low_c);
}

-- ---- all links

left_is : (v : RingsView) (left : List (List (List Message))) → AreLeft v.blocks (sent_in v) (taken_in v) left → (b c : ℕ) → b < v.blocks → c < v.blocks → b ≢ c
    → left_in v.links b c ≡ way_at left b c
left_is v left are b c low_b low_c off = rest_is (sent_in v b c) (taken_in v c b) (way_at left b c) (are.ways b c low_b low_c off)

-- the room that is asked for
pub rooms_for : (v : RingsView) (rooms : List (List ℕ)) → AnyLeft v → ((left : List (List (List Message))) → AreLeft v.blocks (sent_in v) (taken_in v) left → AreFitting v.blocks rooms left)
    → HaveRoom v.blocks rooms v.links
rooms_for v rooms any fits =
    let fit = fits any.0 any.1 in
    record {
      room = λ b c low_b low_c off. subst (λ (x : List Message). length x ≤ room_at rooms b c) (sym (left_is v any.0 any.1 b c low_b low_c off)) (fit.room b c low_b low_c off);
      arcs = λ b c low_b low_c off. subst AreKeptByWays (sym (left_is v any.0 any.1 b c low_b low_c off)) (fit.arcs b c low_b low_c off);
    }

pub all_left : (v : RingsView) (ways : List (List (List Message))) → AreLinks v.blocks v.links → AnyLeft v → AreDraining v.blocks v.links [] ways → AreLeft v.blocks (sent_in v) (taken_in v) ways
all_left v ways are any drain =
    let way : (b c : ℕ) → b < v.blocks → c < v.blocks → way_at ways b c ≡ left_in v.links b c =
    λ b c low_b low_c. sym (append-nil (way_at ways b c)) ∙ drain.whole b c low_b low_c in
    record {
      square = drain.square;
      none = λ b low. way b b low low ∙ left_none v.blocks v.links are b;
      ways = λ b c low_b low_c off.
          any.1.ways b c low_b low_c off
          ∙ ap (λ (x : List Message). taken_in v c b ++ x) (sym (way b c low_b low_c ∙ left_is v any.0 any.1 b c low_b low_c off));
    }
