-- Blocks come back from their workers.
use Rattle.std.proofs.Common.{◌≡◌, ℕ, ◌+◌, ◌*◌, ◌<◌, ◌≤◌, ◌⊎◌, true, false, nat_lt, List, [], ◌∷◌, length, get_or, Option, Some, None, is_some, refl, sym, ◌∙◌, ap, subst, inl, inr, arith}
use mathlib.Core.Path.{fun_ext}
use Rattle.std.proofs.lemmas.Bool.{cases_lt, lt-ltb}
use Rattle.std.proofs.lemmas.List.{length-map, get_or-map, get_or_past}
use Rattle.block_events.specs.declared.event.Event.{Event}
use Rattle.block_events.specs.declared.message.Message.{Message}
use Rattle.block_events.specs.Workers.{MayStart}
use Rattle.block_net.specs.Views.{CellsView, border_in, count}
use Rattle.block_net.specs.Whole.{Whole, no_block, block_at}
use Rattle.net_in_blocks.specs.Views.{IsLaid}
use Rattle.block_discharge.specs.Seen.{WaysView}
use Rattle.block_discharge.specs.Steps.{TurnView, DoesMany, IsSure, turn_view}
use Rattle.cut_in_blocks.specs.TurnEvents.{HasRoom}
use Rattle.cut_in_blocks.specs.Rounds.{Ways, AreLeft, fresh, quiet_state}
use Rattle.cut_in_blocks.proofs.Starting.{start_is_sure}
use Rattle.block_workers.specs.declared.port.Port.{Port}
use Rattle.block_workers.specs.Ports.{letters_put, letters_taken, free, capacity, IsNewPort}
use Rattle.block_workers.specs.declared.ends.Ends.{Ends}
use Rattle.block_workers.specs.declared.seat.Seat.{Seat}
use Rattle.block_workers.specs.Ends.{ports}
use Rattle.block_workers.specs.Seeing.{messages, ways_of_ports, AreRising, AreSame}
use Rattle.block_workers.specs.Workers.{AllWorked, HasWorked}
use Rattle.block_rings.specs.Joined.{port_to, IsPaired, AreJoined}
use Rattle.block_rings.specs.Mated.{room_to}
use Rattle.rounds.specs.Seated.{blocks_of, ends_of_seats, ports_of, AreSeated}
use Rattle.rounds.specs.Together.{AreBackAfter}
use Rattle.rounds.proofs.Borders.{leads_out}
use Rattle.rounds.proofs.Looks.{read_through, through_none, through_some, through_most, AreAlike, read_alike, alike_back, alike_forth, alike_none, leads_on, rising_same}

-- ---- seats

pub ports_at : (seats : List Seat) (b : ℕ) (d : Seat) → b < length seats → get_or (ports_of (ends_of_seats seats)) b [] ≡ ports (get_or seats b d).ends
ports_at seats b d low =
    get_or-map (λ (e : Ends). ports e) (ends_of_seats seats) b d.ends [] (omega (arith, low, length-map seats (λ (s : Seat). s.ends)))
    ∙ ap (λ (e : Ends). ports e) (get_or-map (λ (s : Seat). s.ends) seats b d d.ends low)

pub long_lists : (seats : List Seat) → length (ports_of (ends_of_seats seats)) ≡ length seats
long_lists seats = length-map (ends_of_seats seats) (λ (e : Ends). ports e) ∙ length-map seats (λ (s : Seat). s.ends)

pub block_of_seat : (seats : List Seat) (b : ℕ) (d : Seat) (e : CellsView) → b < length seats → get_or (blocks_of seats) b e ≡ (get_or seats b d).block
block_of_seat seats b d e low = get_or-map (λ (s : Seat). s.block) seats b d e low

pub first_of : (seats : List Seat) → 1 ≤ length seats → Seat
first_of [] some = absurd (omega (arith, some))
first_of (s ∷ seats) some = s

pub long_old : (blocks : List CellsView) (ends : List Ends) (old : List Seat) → AreSeated blocks ends old → length old ≡ length blocks
long_old blocks ends old seated = sym (length-map old (λ (s : Seat). s.block)) ∙ ap (λ (l : List CellsView). length l) seated.hold

-- a number for each
picked : (n : ℕ) → ((b : ℕ) → b < n → ℕ) → (b : ℕ) → (b < n) ⊎ (n ≤ b) → ℕ
picked n each b (inl low) = each b low
picked n each b (inr past) = 0

picked_is : (n : ℕ) (P : ℕ → Type 0) (each : (b : ℕ) → b < n → ℕ) (b : ℕ) (t : (b < n) ⊎ (n ≤ b)) → b < n → ((low : b < n) → P (each b low)) → P (picked n each b t)
unfolding picked
picked_is n P each b (inl low) lb all = all low
picked_is n P each b (inr past) lb all = absurd (omega (arith, past, lb))

-- ---- new ports

module _ (ring : ℕ) (lists : List (List Port)) (new : (b c : ℕ) (p : Port) → port_to lists b c ≡ Some p → IsNewPort c ring p) where
  none_sent : (b c : ℕ) → (ways_of_ports (get_or lists b [])).sent c ≡ []
  none_sent b c =
      read_through [] (λ (p : Port). messages (letters_put p)) (get_or lists b []) c
      ∙ through_none [] (λ (p : Port). messages (letters_put p)) (port_to lists b c) (λ p is. ap messages (new b c p is).put)

  none_taken : (b c : ℕ) → (ways_of_ports (get_or lists b [])).taken c ≡ []
  none_taken b c =
      read_through [] (λ (p : Port). messages (letters_taken p)) (get_or lists b []) c
      ∙ through_none [] (λ (p : Port). messages (letters_taken p)) (port_to lists b c) (λ p is. ap messages (new b c p is).taken)

  pub held_fresh : (B : CellsView) (b : ℕ) → turn_view B (ways_of_ports (get_or lists b [])) ≡ fresh B
  held_fresh B b =
      ap (λ (f : ℕ → List Message). record { block = B; sent = f; taken = (ways_of_ports (get_or lists b [])).taken }) (fun_ext (none_sent b))
      ∙ ap (λ (f : ℕ → List Message). record { block = B; sent = λ c. []; taken = f }) (fun_ext (none_taken b))

  pub room_seen : (b c : ℕ) → 1 ≤ ring → is_some (port_to lists b c) ≡ true → (ways_of_ports (get_or lists b [])).room c ≡ true
  room_seen b c some there =
      read_through false (λ (p : Port). nat_lt 0 (free p)) (get_or lists b []) c
      ∙ through_some false true (λ (p : Port). nat_lt 0 (free p)) (port_to lists b c) there
      (λ p is. let e = (new b c p is).free in lt-ltb 0 (free p) (omega (arith, some, e)))

-- ---- all seats

module _ (blocks : List CellsView) (ring : ℕ) (ends : List Ends) (old new : List Seat) (d : Seat) (seated : AreSeated blocks ends old) (joined : AreJoined ring blocks (ports_of ends)) (worked : AllWorked old new) where
  abbrev n : ℕ
  n = length blocks

  abbrev block : ℕ → CellsView
  block b = get_or blocks b no_block

  -- the ports before the work, and after it
  abbrev lists : List (List Port)
  lists = ports_of (ends_of_seats old)

  abbrev lists' : List (List Port)
  lists' = ports_of (ends_of_seats new)

  pub many_old : length old ≡ n
  many_old = long_old blocks ends old seated

  pub many_new : length new ≡ n
  many_new = worked.seats ∙ many_old

  low_old : (b : ℕ) → b < n → b < length old
  low_old b low = omega (arith, low, many_old)

  low_new : (b : ℕ) → b < n → b < length new
  low_new b low = omega (arith, low, many_new)

  fresh_ports : (b c : ℕ) (p : Port) → port_to lists b c ≡ Some p → IsNewPort c ring p
  fresh_ports b c p is = joined.fresh b c p (ap (λ (e : List Ends). port_to (ports_of e) b c) (sym seated.have) ∙ is)

  block_old : (b : ℕ) → b < n → (get_or old b d).block ≡ block b
  block_old b low = sym (block_of_seat old b d no_block (low_old b low)) ∙ ap (λ (l : List CellsView). get_or l b no_block) seated.hold

  ports_old : (b : ℕ) → b < n → ports (get_or old b d).ends ≡ get_or lists b []
  ports_old b low = sym (ports_at old b d (low_old b low))

  start : (b : ℕ) → b < n → turn_view (get_or old b d).block (ways_of_ports (ports (get_or old b d).ends)) ≡ fresh (block b)
  start b low =
      ap (λ (B : CellsView). turn_view B (ways_of_ports (ports (get_or old b d).ends))) (block_old b low)
      ∙ (ap (λ (l : List Port). turn_view (block b) (ways_of_ports l)) (ports_old b low) ∙ held_fresh ring lists fresh_ports (block b) b)

  abbrev came : ℕ → TurnView
  came b = record { block = get_or (blocks_of new) b no_block; sent = (ways_of_ports (get_or lists' b [])).sent; taken = (ways_of_ports (get_or lists' b [])).taken }

  end : (b : ℕ) → b < n → turn_view (get_or new b d).block (ways_of_ports (ports (get_or new b d).ends)) ≡ came b
  end b low =
      ap (λ (B : CellsView). turn_view B (ways_of_ports (ports (get_or new b d).ends))) (sym (block_of_seat new b d no_block (low_new b low)))
      ∙ ap (λ (l : List Port). turn_view (get_or (blocks_of new) b no_block) (ways_of_ports l)) (sym (ports_at new b d (low_new b low)))

  work : (b : ℕ) → b < n → HasWorked (get_or old b d) (get_or new b d)
  work b low = worked.each b d (low_old b low)

  does : (b : ℕ) (low : b < n) → DoesMany (fresh (block b)) (work b low).count (came b)
  does b low =
      subst (λ (h : TurnView). DoesMany h (work b low).count (came b)) (start b low)
      (subst (λ (g : TurnView). DoesMany (turn_view (get_or old b d).block (ways_of_ports (ports (get_or old b d).ends))) (work b low).count g) (end b low) (work b low).went.does)

  -- ---- the ports afterwards

  same_ports : (b : ℕ) → AreSame (get_or lists b []) (get_or lists' b [])
  same_ports b = elim (cases_lt b n) [
    | inl low ↦
        subst (λ (l : List Port). AreSame l (get_or lists' b [])) (ports_old b low)
        (subst (λ (l : List Port). AreSame (ports (get_or old b d).ends) l) (sym (ports_at new b d (low_new b low))) (work b low).went.ends)
    | inr past ↦
        let none : get_or lists b [] ≡ [] = get_or_past lists b [] (let l = long_lists old in omega (arith, past, l, many_old)) in
        let none' : get_or lists' b [] ≡ [] = get_or_past lists' b [] (let l = long_lists new in omega (arith, past, l, many_new)) in
        subst (λ (l : List Port). AreSame l (get_or lists' b [])) (sym none) (subst (λ (l : List Port). AreSame [] l) (sym none') tt)
  ]

  alike : (b c : ℕ) → AreAlike (port_to lists b c) (port_to lists' b c)
  alike b c = read_alike (get_or lists b []) (get_or lists' b []) c (same_ports b)

  -- no ring has more room than it was given
  pub few_room : (b c : ℕ) → room_to lists' b c ≤ ring
  few_room b c =
      let most = through_most ring (λ (p : Port). capacity p) (port_to lists' b c) (λ p' is.
      let back = alike_back (port_to lists b c) (port_to lists' b c) p' (alike b c) is in
      let was = (fresh_ports b c back.0 back.1).capacity in
      let same = back.2.to_ring.0.1 in
      omega (arith, was, same)) in
      subst (λ k. k ≤ ring) (sym (read_through 0 (λ (p : Port). capacity p) (get_or lists' b []) c)) most

  pub many_lists : length lists' ≡ n
  many_lists = long_lists new ∙ many_new

  pub still_rising : (b : ℕ) → AreRising n (get_or lists' b [])
  still_rising b =
      rising_same n (get_or lists b []) (get_or lists' b []) (same_ports b)
      (subst (λ (e : List Ends). AreRising n (get_or (ports_of e) b [])) (sym seated.have) (joined.rising b))

  pub still_paired : (b c : ℕ) (p : Port) → port_to lists' b c ≡ Some p → IsPaired p (port_to lists' c b)
  still_paired b c p' is =
      let back = alike_back (port_to lists b c) (port_to lists' b c) p' (alike b c) is in
      let before : AreJoined ring blocks lists = subst (λ (e : List Ends). AreJoined ring blocks (ports_of e)) (sym seated.have) joined in
      let pair = before.paired b c back.0 back.1 in
      let forth = alike_forth (port_to lists c b) (port_to lists' c b) pair.mate (alike c b) pair.is in
      record {
        mate = forth.0;
        is = forth.1;
        there = leads_on back.0 pair.mate p' forth.0 back.2 forth.2 pair.there;
        back = leads_on pair.mate back.0 forth.0 p' forth.2 back.2 pair.back;
      }

  no_own : (b : ℕ) (o : Option Port) → port_to lists b b ≡ o → o ≡ None
  no_own b None is = refl
  no_own b (Some p) is =
      let before : AreJoined ring blocks lists = subst (λ (e : List Ends). AreJoined ring blocks (ports_of e)) (sym seated.have) joined in
      absurd ((before.only b b p no_block no_block is).0 refl)

  pub still_none : (b : ℕ) → port_to lists' b b ≡ None
  still_none b = alike_none (port_to lists b b) (port_to lists' b b) (alike b b) (no_own b (port_to lists b b) refl)

-- ---- in their places

module _ (w : Whole) (got ring : ℕ) (ends : List Ends) (old new : List Seat) (d : Seat) (laid : IsLaid w) (some : 1 ≤ ring) (seated : AreSeated w.blocks ends old) (joined : AreJoined ring w.blocks (ports_of ends)) (worked : AllWorked old new) where
  abbrev total : ℕ
  total = length w.blocks

  abbrev before : List (List Port)
  before = ports_of (ends_of_seats old)

  abbrev after : List (List Port)
  after = ports_of (ends_of_seats new)

  did : (b : ℕ) → b < total → ℕ
  did b low = (work w.blocks ring ends old new d seated joined worked b low).count

  has_room : (b : ℕ) → b < total → HasRoom (block_at w b) (ways_of_ports (get_or before b []))
  has_room b low j lj =
      let out = leads_out w b j laid low lj in
      let to = (border_in (block_at w b) j).to in
      let there = joined.led b j no_block low lj out.below out.off in
      room_seen ring before (fresh_ports w.blocks ring ends old new d seated joined worked) b to some
      (ap (λ (e : List Ends). is_some (port_to (ports_of e) b to)) seated.have ∙ there)

  busy : (b : ℕ) (e : Event) (low : b < total) → MayStart b (quiet_state w got) e → 0 < did b low
  unfolding did
  busy b e low may =
      let s : WaysView = ways_of_ports (ports (get_or old b d).ends) in
      let room = subst (λ (l : List Port). HasRoom (block_at w b) (ways_of_ports l)) (sym (ports_old w.blocks ring ends old new d seated joined worked b low)) (has_room b low) in
      let sure = start_is_sure w b got s e laid low room may in
      (work w.blocks ring ends old new d seated joined worked b low).some sure.0
      (subst (λ (B : CellsView). IsSure B s sure.0) (sym (block_old w.blocks ring ends old new d seated joined worked b low)) sure.1)

  went : (b : ℕ) (low : b < total) → DoesMany (fresh (block_at w b)) (did b low) (came w.blocks ring ends old new d seated joined worked b)
  unfolding did
  went b low = does w.blocks ring ends old new d seated joined worked b low

  few : (b : ℕ) (low : b < total) → did b low ≤ ((get_or new b d).turn + 1) * (count (block_at w b) + 16)
  unfolding did
  few b low =
      let each = (work w.blocks ring ends old new d seated joined worked b low).few in
      let same : (get_or old b d).nodes ≡ count (block_at w b) =
      seated.nodes b d (low_old w.blocks ring ends old new d seated joined worked b low)
      ∙ ap (λ (B : CellsView). count B) (block_old w.blocks ring ends old new d seated joined worked b low) in
      subst (λ k. (work w.blocks ring ends old new d seated joined worked b low).count ≤ ((get_or new b d).turn + 1) * (k + 16)) same each

  pub seats_back : (left : Ways)
      → AreLeft total (λ b. (ways_of_ports (get_or after b [])).sent) (λ b. (ways_of_ports (get_or after b [])).taken) left
      → AreBackAfter (λ b. (get_or new b d).turn) w got (blocks_of new) left
  seats_back left on_the_way = record {
    back = record {
      sent = λ b. (ways_of_ports (get_or after b [])).sent;
      taken = λ b. (ways_of_ports (get_or after b [])).taken;
      steps = λ b. picked total did b (cases_lt b total);
      many = length-map new (λ (s : Seat). s.block) ∙ many_new w.blocks ring ends old new d seated joined worked;
      does = λ b low.
          picked_is total (λ k. DoesMany (fresh (block_at w b)) k (came w.blocks ring ends old new d seated joined worked b)) did b (cases_lt b total) low (went b);
      rest = on_the_way;
      busy = λ b e low may. picked_is total (λ k. 0 < k) did b (cases_lt b total) low (λ l. busy b e l may);
    };
    few = λ b low. picked_is total (λ k. k ≤ ((get_or new b d).turn + 1) * (count (block_at w b) + 16)) did b (cases_lt b total) low (few b);
  }
