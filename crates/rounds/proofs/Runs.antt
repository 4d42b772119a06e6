-- Seats that were worked on have run.
use Rattle.std.proofs.Common.{◌≡◌, ℕ, ◌<◌, ◌≤◌, List, [], ◌++◌, length, get_or, sym, ◌∙◌, ap, subst, arith}
use Rattle.sums.specs.Sums.{sum_below}
use Rattle.sums.proofs.SumLemmas.{sum_by-sum_below}
use Rattle.block_events.specs.States.{way_at}
use Rattle.block_events.specs.Soundness.{IsSquare}
use Rattle.block_net.specs.Views.{CellsView}
use Rattle.block_workers.specs.declared.port.Port.{Port}
use Rattle.block_workers.specs.declared.seat.Seat.{Seat}
use Rattle.block_workers.specs.Seeing.{AreRising}
use Rattle.block_workers.specs.Workers.{AllWorked, turns_of}
use Rattle.block_rings.specs.Joined.{AreJoined}
use Rattle.block_rings.specs.Links.{RingsView, sent_in, taken_in, ring_room}
use Rattle.block_rings.specs.Mated.{AreMated, messages_sent, messages_taken, room_to}
use Rattle.rounds.specs.Seated.{blocks_of, ends_of_seats, ports_of, AreSeated}
use Rattle.rounds.specs.Together.{AreBackAfter, HaveRun}
use Rattle.rounds.proofs.Backs.{first_of, long_old, long_lists, many_new, few_room, still_rising, still_paired, still_none, seats_back}

module _ (blocks : List CellsView) (ring : ℕ) (old new : List Seat) (some : 0 < length blocks) (seated : AreSeated blocks (ends_of_seats old) old) (joined : AreJoined ring blocks (ports_of (ends_of_seats old))) (worked : AllWorked old new) where
  abbrev d : Seat
  d = first_of old (omega (arith, some, long_old blocks (ends_of_seats old) old seated))

  abbrev after : List (List Port)
  after = ports_of (ends_of_seats new)

  many : length new ≡ length blocks
  many = many_new blocks ring (ends_of_seats old) old new d seated joined worked

  pub still_mated : AreMated (length new) after
  still_mated = record {
    len = long_lists new;
    rising = λ b. subst (λ n. AreRising n (get_or after b [])) (sym many) (still_rising blocks ring (ends_of_seats old) old new d seated joined worked b);
    paired = still_paired blocks ring (ends_of_seats old) old new d seated joined worked;
    none = still_none blocks ring (ends_of_seats old) old new d seated joined worked;
  }

  -- how many turns block b drew
  abbrev drawn : ℕ → ℕ
  drawn b = (get_or new b d).turn

  few_drawn : (turns : ℕ) → turns_of new ≤ turns → sum_below (length blocks) drawn ≤ turns
  few_drawn turns few =
      let all : turns_of new ≡ sum_below (length blocks) drawn =
      sum_by-sum_below (λ (s : Seat). s.turn) new d ∙ ap (λ n. sum_below n drawn) many in
      omega (arith, all, few)

  pub have_run : (turns : ℕ) (new_blocks : List CellsView) (rings : RingsView) → 1 ≤ ring → new_blocks ≡ blocks_of new → rings.blocks ≡ length new
      → ((b c : ℕ) → sent_in rings b c ≡ messages_sent after b c) → ((b c : ℕ) → taken_in rings b c ≡ messages_taken after b c) → turns_of new ≤ turns → HaveRun turns blocks new_blocks rings
  have_run turns new_blocks rings room blocks_is count sent_is taken_is few = record {
    blocks = count ∙ many;
    drawn = drawn;
    few = few_drawn turns few;
    back = λ w got left is laid has.
        let total : rings.blocks ≡ length w.blocks = count ∙ (many ∙ ap (λ (l : List CellsView). length l) (sym is)) in
        subst (λ (l : List CellsView). AreBackAfter drawn w got l left) (sym blocks_is)
        (seats_back w got ring (ends_of_seats old) old new d laid room (subst (λ l. AreSeated l (ends_of_seats old) old) (sym is) seated)
        (subst (λ l. AreJoined ring l (ports_of (ends_of_seats old))) (sym is) joined) worked left (record {
          square = subst (λ n. IsSquare n left) total has.square;
          none = λ b low. has.none b (omega (arith, low, total));
          ways = λ b c lb lc apart.
              sym (sent_is b c) ∙ (has.ways b c (omega (arith, lb, total)) (omega (arith, lc, total)) apart ∙ ap (λ l. l ++ way_at left b c) (taken_is c b));
        }));
  }

  pub room_kept : (rings : RingsView) → ((b c : ℕ) → ring_room rings b c ≡ room_to after b c) → (b c : ℕ) → ring_room rings b c ≤ ring
  room_kept rings is b c = subst (λ k. k ≤ ring) (sym (is b c)) (few_room blocks ring (ends_of_seats old) old new d seated joined worked b c)
