-- The nodes at which a search begins: they are listed, and then labelled.
use Rattle.std.proofs.Common.{◌≡◌, ℕ, ◌+◌, ◌<◌, ◌≤◌, inl, inr, List, length, set, slice_index, refl, sym, ◌∙◌, ap, arith, get_or-set_same, get_or-set_other}
use Rattle.std.proofs.lemmas.Bool.{cases_lt}
use Rattle.flow_network.specs.Cut.{Network, nodes}
use Rattle.flow_network.specs.Progress.{top_label}
use Rattle.sink_distances.specs.Search.{Search, search_label, node_at, found_of, Grows, AreRoomy, AreStartsButZeros, AreUnlabelledOrZero, IsLevelFrom}
use Rattle.sink_distances.proofs.Order.{grows_falls}
use Rattle.sink_distances.proofs.Searching.{starts_begin}

-- ---- the list

before : (listed : List ℕ) (count v i : ℕ) → i < count → slice_index (set listed count v) i ≡ slice_index listed i
before listed count v i l = get_or-set_other listed count i v 0 (λ e. omega (arith, l, e))

pub roomy_none : (rooms : List ℕ) (listed : List ℕ) → AreRoomy rooms 0 0 listed
roomy_none rooms listed = record {
  few = omega arith;
  each = λ i l. absurd (omega (arith, l));
  rising = λ i j le l. absurd (omega (arith, l));
  all = λ u l. absurd (omega (arith, l));
}

-- a node is written behind them that is not counted
pub roomy_passed : (rooms listed : List ℕ) (v count : ℕ) → AreRoomy rooms v count listed → slice_index rooms v ≤ 0
    → AreRoomy rooms (v + 1) count (set listed count v)
roomy_passed rooms listed v count r none = record {
  few = omega (arith, r.few);
  each = λ i l. rw (before listed count v i l) (omega (arith, (r.each i l).0), (r.each i l).1);
  rising = λ i j le l. omega (arith, r.rising i j le l, before listed count v i (omega (arith, le, l)), before listed count v j l);
  all = λ u l some. elim (cases_lt u v) [
    | inl low ↦
        let place = r.all u low some in
        (place.0, place.1, before listed count v place.0 place.1 ∙ place.2)
    | inr last ↦
        let same : u ≡ v = omega (arith, l, last) in
        absurd (omega (arith, none, rw same at some))
  ];
}

-- or is counted
pub roomy_listed : (rooms listed : List ℕ) (v count : ℕ) → AreRoomy rooms v count listed → count < length listed → 0 < slice_index rooms v
    → AreRoomy rooms (v + 1) (count + 1) (set listed count v)
roomy_listed rooms listed v count r long room =
    let here : slice_index (set listed count v) count ≡ v = get_or-set_same listed count v 0 long in
    record {
      few = omega (arith, r.few);
      each = λ i l. elim (cases_lt i count) [
        | inl low ↦ rw (before listed count v i low) (omega (arith, (r.each i low).0), (r.each i low).1)
        | inr last ↦
            let same : i ≡ count = omega (arith, l, last) in
            let at : slice_index (set listed count v) i ≡ v = ap (slice_index (set listed count v)) same ∙ here in
            rw at (omega arith, room)
      ];
      rising = λ i j le l. elim (cases_lt j count) [
        | inl low ↦ omega (arith, r.rising i j le low, before listed count v i (omega (arith, le, low)), before listed count v j low)
        | inr last ↦
            let same : j ≡ count = omega (arith, l, last) in
            let first : i < count = omega (arith, le, same) in
            omega (arith, (r.each i first).0, before listed count v i first, here, ap (slice_index (set listed count v)) same)
      ];
      all = λ u l some. elim (cases_lt u v) [
        | inl low ↦
            let place = r.all u low some in
            (place.0, omega (arith, place.1), before listed count v place.0 place.1 ∙ place.2)
        | inr last ↦ (count, omega arith, here ∙ omega (arith, l, last))
      ];
    }

-- ---- labels for those listed

-- those at the first places have a label, and the others wait behind the labelled nodes
pub record AreBegun (net : Network) (rooms old listed : List ℕ) (many p : ℕ) (found : Search) : Type 0 where
  pub starts : AreStartsButZeros net rooms old 0 found
  pub ones : IsLevelFrom 1 0 found
  pub few : found.count ≤ p
  pub marked : (i : ℕ) → i < p → search_label found (slice_index listed i) ≤ 1
  pub waiting : (i : ℕ) → p ≤ i → i < many → node_at found i ≡ slice_index listed i

-- before any is labelled
pub begun_none : (net : Network) (rooms old listed : List ℕ) (many : ℕ) → length old ≡ nodes net → length listed ≡ nodes net
    → AreUnlabelledOrZero net old → AreBegun net rooms old listed many 0 (found_of old listed 0)
begun_none net rooms old listed many len listed_len none = record {
  starts = starts_begin net rooms old listed len listed_len none;
  ones = λ i low l. absurd (omega (arith, l));
  few = omega arith;
  marked = λ i l. absurd (omega (arith, l));
  waiting = λ i low l. refl;
}

-- one more is labelled
pub begun_more : (net : Network) (rooms old listed : List ℕ) (many p : ℕ) (s t : Search) → AreBegun net rooms old listed many p s → p < many
    → 0 < slice_index rooms (node_at s p) → Grows 1 (λ u. u ≡ node_at s p) s t → IsLevelFrom 1 0 t → search_label t (node_at s p) ≤ 1 → t.count ≤ s.count + 1
    → ((i : ℕ) → s.count < i → node_at t i ≡ node_at s i) → AreBegun net rooms old listed many (p + 1) t
begun_more net rooms old listed many p s t b l room g ones here few rest =
    let fits : 1 ≤ top_label (length s.labels) = omega arith in
    let falls = grows_falls 1 (λ u. u ≡ node_at s p) s t g fits in
    record {
      starts = record {
        len = g.len ∙ b.starts.len;
        order = g.order;
        below = g.below;
        zeros = λ u lu is. omega (arith, b.starts.zeros u lu is, falls u);
        leads = λ u lu some. elim (g.labels u (omega (arith, lu, b.starts.len))) [
          | inl same ↦ rw same (b.starts.leads u lu some)
          | inr new ↦ inr (new.1, rw new.2 room)
        ];
        sinks = λ u lu. absurd (omega (arith, lu));
      };
      ones = ones;
      few = omega (arith, few, b.few);
      marked = λ i li. elim (cases_lt i p) [
        | inl low ↦ omega (arith, b.marked i low, falls (slice_index listed i))
        | inr last ↦
            let same : i ≡ p = omega (arith, li, last) in
            let at : slice_index listed i ≡ node_at s p = ap (slice_index listed) same ∙ sym (b.waiting p (omega arith) l) in
            rw at here
      ];
      waiting = λ i low li. rest i (omega (arith, low, b.few)) ∙ b.waiting i (omega (arith, low)) li;
    }

-- all are
pub begun_all : (net : Network) (rooms old listed : List ℕ) (many p : ℕ) (s : Search) → AreRoomy rooms (nodes net) many listed
    → AreBegun net rooms old listed many p s → many ≤ p → AreStartsButZeros net rooms old (nodes net) s
begun_all net rooms old listed many p s r b done = record {
  len = b.starts.len;
  order = b.starts.order;
  below = b.starts.below;
  zeros = b.starts.zeros;
  leads = b.starts.leads;
  sinks = λ u l lu room.
      let place = r.all u l room in
      omega (arith, ap (search_label s) place.2, b.marked place.0 (omega (arith, place.1, done)));
}
