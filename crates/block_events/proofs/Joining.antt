-- What the blocks' ends, joined, and what is left on the way have to do with each other.
use Rattle.std.proofs.Common.{◌≡◌, ℕ, ◌+◌, ◌<◌, ◌≤◌, true, false, not, cond, eqb, List, ◌++◌, length, get_or, slice_index, sum, sum_by, All, Some, None, Option, refl, sym, ◌∙◌, ap, inl, inr, arith}
use Rattle.std.proofs.lemmas.Bool.{cases_Bool, eqb-true}
use Rattle.std.proofs.lemmas.List.{get_or-append-add, length-append}
use Rattle.std.proofs.lemmas.List.Sums.{sum_by-append}
use Rattle.flow_network.specs.Cut.{Network}
use Rattle.flow_network.specs.Preflow.{arc_at}
use Rattle.block_events.specs.declared.direction.Direction.{Direction}
use Rattle.block_events.specs.declared.flight.Flight.{Flight}
use Rattle.block_events.specs.declared.message.Message.{Message}
use Rattle.block_events.specs.declared.message.Message.TheVariants.{Parcel, Accepted, Refused}
use Rattle.block_events.specs.Directions.{forward, backward, IsDirection, near, far}
use Rattle.block_events.specs.States.{State, Lane, way_at, over_messages, label_of, flight_of, residual_of, known_of, near_block, far_block, is_border}
use Rattle.block_events.specs.Soundness.{IsSized, IsSquare, names, out}
use Rattle.block_events.proofs.Lanes.{near_opposite}
use Rattle.block_events.proofs.Ends.{near_in, far_in, near_block_in, far_block_in}
use Rattle.block_events.specs.Workers.{IsBetween, IsAddressed}
use Rattle.block_events.specs.Rounds.{IsJoined}
use Rattle.block_events.proofs.Words.{parcels, taken, back, weight_out, one, counts_not, all_left}
use Rattle.block_events.proofs.Logs.{IsGood, IsTold, Tells}
use Rattle.block_events.proofs.Histories.{IsOwn}
use Rattle.block_events.proofs.Adding.{over_same, over_node_block, over_both, over_none, sum_none, sum_same}

-- the state with the net of another
abbrev pub placed : State → State → State
placed old s = record s { net = old.net; blocks = old.blocks }

pub placed_same : (old s : State) → s.net ≡ old.net → s.blocks ≡ old.blocks → s ≡ placed old s
placed_same old s e f = ap (λ q. record s { net = q }) e ∙ ap (λ q. record s { net = old.net; blocks = q }) f

-- what is known of a round
pub record IsMet (old new : State) (ends : ℕ → State) : Type 0 where
  pub sized : IsSized old
  pub own : (b : ℕ) → b < old.blocks → IsOwn b old (placed old (ends b))
  pub joined : IsJoined old new ends
  pub square : IsSquare old.blocks new.ways
  pub ways : (b c : ℕ) → b < old.blocks → c < old.blocks → way_at (ends b).ways b c ≡ way_at (ends c).ways b c ++ way_at new.ways b c
  pub known : (x : Direction) → IsDirection old.net x → is_border old.net old.blocks x ≡ true → known_of old x ≤ label_of old (far old.net x)
  pub arcs : (k : ℕ) → k < length old.net.arcs → residual_of old (forward k) + residual_of old (backward k) ≡ (arc_at old.net k).capacity
  pub got : old.got + sum old.rooms ≡ sum old.net.sinks

pub all_right : (P : Message → Type 0) (xs ys : List Message) → All P (xs ++ ys) → All P ys
all_right P xs ys all k d l =
    let at = all (length xs + k) d (omega (arith, l, length-append xs ys)) in
    rw (get_or-append-add xs ys k d) at at

pub good_new : (old new : State) (ends : ℕ → State) → IsMet old new ends → (i j : ℕ) → i < old.blocks → j < old.blocks → All (IsGood old.net old.blocks i j) (way_at new.ways i j)
good_new old new ends met i j li lj =
    all_right (IsGood old.net old.blocks i j) (way_at (ends j).ways i j) (way_at new.ways i j) (rw (met.ways i j li lj) at ((met.own i li).log.good i j))

-- ---- a message of a direction stands in one way alone

-- away from the way from p to q there is nothing of this
abbrev pub Away : Network → ℕ → (Message → ℕ) → ℕ → ℕ → Type 0
Away net blocks f p q = (i j : ℕ) (m : Message) → IsAddressed net blocks i j m → (i ≡ p → j ≡ q → ⊥) → f m ≡ 0

off_between : (net : Network) (blocks : ℕ) (x y : Direction) (b c i j : ℕ) → IsBetween net blocks x b c → IsBetween net blocks y i j → (i ≡ b → j ≡ c → ⊥) → y ≡ x → ⊥
off_between net blocks x y b c i j o p off e = off (sym p.near ∙ (ap (near_block net blocks) e ∙ o.near)) (sym p.far ∙ (ap (far_block net blocks) e ∙ o.far))

pub parcels_away : (net : Network) (blocks : ℕ) (w : ℕ → ℕ) (x : Direction) (b c : ℕ) → IsBetween net blocks x b c → Away net blocks (parcels w x) b c
parcels_away net blocks w x b c o i j (Parcel y a d) p off = counts_not y x (w a) (off_between net blocks x y b c i j o p off)
parcels_away net blocks w x b c o i j (Accepted y a) p off = refl
parcels_away net blocks w x b c o i j (Refused y a d told) p off = refl

pub taken_away : (net : Network) (blocks : ℕ) (w : ℕ → ℕ) (x : Direction) (b c : ℕ) → IsBetween net blocks x b c → Away net blocks (taken w x) c b
taken_away net blocks w x b c o i j (Parcel y a d) p off = refl
taken_away net blocks w x b c o i j (Accepted y a) p off = counts_not y x (w a) (off_between net blocks x y b c j i o p (λ e f. off f e))
taken_away net blocks w x b c o i j (Refused y a d told) p off = refl

pub back_away : (net : Network) (blocks : ℕ) (w : ℕ → ℕ) (x : Direction) (b c : ℕ) → IsBetween net blocks x b c → Away net blocks (back w x) c b
back_away net blocks w x b c o i j (Parcel y a d) p off = refl
back_away net blocks w x b c o i j (Accepted y a) p off = refl
back_away net blocks w x b c o i j (Refused y a d told) p off = counts_not y x (w a) (off_between net blocks x y b c j i o p (λ e f. off f e))

-- then the sum over all ways is the sum over that way
pub at_node_block : (net : Network) (blocks : ℕ) (f : Message → ℕ) (ways : List (List (List Message))) (p q : ℕ) → IsSquare blocks ways → p < blocks → q < blocks
    → ((i j : ℕ) → i < blocks → j < blocks → All (IsGood net blocks i j) (way_at ways i j)) → Away net blocks f p q → over_messages f ways ≡ sum_by f (way_at ways p q)
at_node_block net blocks f ways p q sq lp lq good away =
    over_node_block blocks f ways p q sq lp lq (λ i j li lj off. sum_none f (way_at ways i j) (λ k d l. away i j (get_or (way_at ways i j) k d) (good i j li lj k d l).0 off))

-- what p put for q is what q took from p and what is left
pub linked : (old new : State) (ends : ℕ → State) → IsMet old new ends → (f : Message → ℕ) (p q : ℕ) → p < old.blocks → q < old.blocks → Away old.net old.blocks f p q
    → over_messages f (ends p).ways ≡ over_messages f (ends q).ways + over_messages f new.ways
linked old new ends met f p q lp lq away =
    let net = old.net in
    let n = old.blocks in
    let a = at_node_block net n f (ends p).ways p q (met.own p lp).fit.sized.ways lp lq (λ i j li lj. (met.own p lp).log.good i j) away in
    let b = at_node_block net n f (ends q).ways p q (met.own q lq).fit.sized.ways lp lq (λ i j li lj. (met.own q lq).log.good i j) away in
    let c = at_node_block net n f new.ways p q met.square lp lq (good_new old new ends met) away in
    let cut = ap (sum_by f) (met.ways p q lp lq) ∙ sum_by-append f (way_at (ends q).ways p q) (way_at new.ways p q) in
    omega (arith, a, b, c, cut)

pub ends_of : (net : Network) (blocks : ℕ) (x : Direction) → IsDirection net x → is_border net blocks x ≡ true → IsBetween net blocks x (near_block net blocks x) (far_block net blocks x)
ends_of net blocks x lx border = record { direction = lx; border = border; near = refl; far = refl }

-- ---- what is on the way of one border direction is what is out

pub on_way : (old new : State) (ends : ℕ → State) → IsMet old new ends → (w : ℕ → ℕ) (x : Direction) → IsDirection old.net x → is_border old.net old.blocks x ≡ true
    → over_messages (parcels w x) new.ways + over_messages (taken w x) new.ways + over_messages (back w x) new.ways ≡ weight_out w (flight_of new x)
on_way old new ends met w x lx border =
    let net = old.net in
    let n = old.blocks in
    let b = near_block net n x in
    let c = far_block net n x in
    let lb = near_block_in old x met.sized lx in
    let lc = far_block_in old x met.sized lx in
    let o = ends_of net n x lx border in
    let p = linked old new ends met (parcels w x) b c lb lc (parcels_away net n w x b c o) in
    let t = linked old new ends met (taken w x) c b lc lb (taken_away net n w x b c o) in
    let r = linked old new ends met (back w x) c b lc lb (back_away net n w x b c o) in
    let sender = (met.own b lb).log.sent x lx c o w in
    let receiver = (met.own c lc).log.received x b o w in
    let fly = ap (λ (l : Lane). weight_out w l.flight) (met.joined.lanes x lx) in
    omega (arith, p, t, r, sender, receiver, fly)

-- ---- no message of an inner direction

names_away : (net : Network) (blocks : ℕ) (x : Direction) (i j : ℕ) (m : Message) → is_border net blocks x ≡ false → IsAddressed net blocks i j m → names x m ≡ 0
names_away net blocks x i j (Parcel y a d) inner o = counts_not y x 1 (λ e. absurd (let h = sym inner ∙ (ap (is_border net blocks) (sym e) ∙ o.border) in let clash : false ≡ true = h in cc))
names_away net blocks x i j (Accepted y a) inner o = counts_not y x 1 (λ e. absurd (let h = sym inner ∙ (ap (is_border net blocks) (sym e) ∙ o.border) in let clash : false ≡ true = h in cc))
names_away net blocks x i j (Refused y a d told) inner o = counts_not y x 1 (λ e. absurd (let h = sym inner ∙ (ap (is_border net blocks) (sym e) ∙ o.border) in let clash : false ≡ true = h in cc))

pub inner_names : (old new : State) (ends : ℕ → State) → IsMet old new ends → (x : Direction) → is_border old.net old.blocks x ≡ false → over_messages (names x) new.ways ≡ 0
inner_names old new ends met x inner =
    over_none old.blocks (names x) new.ways met.square (λ i j li lj.
    sum_none (names x) (way_at new.ways i j) (λ k d l. names_away old.net old.blocks x i j (get_or (way_at new.ways i j) k d) inner (good_new old new ends met i j li lj k d l).0))

-- ---- named

names_parts : (x : Direction) (m : Message) → names x m ≡ parcels one x m + taken one x m + back one x m
names_parts x (Parcel y a d) = omega arith
names_parts x (Accepted y a) = omega arith
names_parts x (Refused y a d told) = omega arith

weight_one : (f : Option Flight) → weight_out one f ≡ out f
weight_one None = refl
weight_one (Some f) = refl

over_parts : (n : ℕ) (x : Direction) (ways : List (List (List Message))) → IsSquare n ways
    → over_messages (names x) ways ≡ over_messages (parcels one x) ways + over_messages (taken one x) ways + over_messages (back one x) ways
over_parts n x ways sq =
    let f = λ (m : Message). parcels one x m + taken one x m in
    let same = over_same n (names x) (λ m. f m + back one x m) ways sq (λ i j li lj. sum_same (names x) (λ m. f m + back one x m) (way_at ways i j) (λ k d l. names_parts x (get_or (way_at ways i j) k d))) in
    omega (arith, same, over_both n f (back one x) ways sq, over_both n (parcels one x) (taken one x) ways sq)

pub border_names : (old new : State) (ends : ℕ → State) → IsMet old new ends → (x : Direction) → IsDirection old.net x → is_border old.net old.blocks x ≡ true
    → over_messages (names x) new.ways ≡ out (flight_of new x)
border_names old new ends met x lx border =
    omega (arith, over_parts old.blocks x new.ways met.square, on_way old new ends met one x lx border, weight_one (flight_of new x))

-- ---- flights, and labels that are seen

pub flights_met : (old new : State) (ends : ℕ → State) → IsMet old new ends → (x : Direction) → IsDirection old.net x → (f : Flight) → flight_of new x ≡ Some f
    → (is_border old.net old.blocks x ≡ true) × (label_of new (near old.net x) ≡ known_of new x + 1) × (label_of new (near old.net x) ≡ f.label)
flights_met old new ends met x lx f h =
    let net = old.net in
    let b = near_block net old.blocks x in
    let lb = near_block_in old x met.sized lx in
    let lane = met.joined.lanes x lx in
    let at = (met.own b lb).fit.flights x lx f (sym (ap (λ (l : Lane). l.flight) lane) ∙ h) in
    let label = met.joined.labels (near net x) (near_in net x met.sized.net lx) in
    let known = ap (λ (l : Lane). l.known) lane in
    (at.0, omega (arith, label, at.1, known), omega (arith, label, at.2))

inner_idle : (old new : State) (ends : ℕ → State) → IsMet old new ends → (x : Direction) → IsDirection old.net x → is_border old.net old.blocks x ≡ false → (f : Option Flight) → flight_of new x ≡ f → out f ≡ 0
inner_idle old new ends met x lx inner None h = refl
inner_idle old new ends met x lx inner (Some f) h =
    absurd (let at = flights_met old new ends met x lx f h in let clash : false ≡ true = sym inner ∙ at.0 in cc)

pub named_met : (old new : State) (ends : ℕ → State) → IsMet old new ends → (x : Direction) → IsDirection old.net x → over_messages (names x) new.ways ≡ out (flight_of new x)
named_met old new ends met x lx = elim (cases_Bool (is_border old.net old.blocks x)) [
  | inl border ↦ border_names old new ends met x lx border
  | inr inner ↦ inner_names old new ends met x inner ∙ sym (inner_idle old new ends met x lx inner (flight_of new x) refl)
]

-- ---- labels

pub not_border : (a b : ℕ) → not (eqb a b) ≡ false → a ≡ b
not_border a b h = elim (cases_Bool (eqb a b)) [
  | inl yes' ↦ eqb-true a b yes'
  | inr no' ↦ absurd (let clash : true ≡ false = sym (ap not no') ∙ h in cc)
]

pub steep_met : (old new : State) (ends : ℕ → State) → IsMet old new ends → (x : Direction) → IsDirection old.net x → 0 < residual_of new x
    → label_of new (near old.net x) ≤ cond (is_border old.net old.blocks x) (known_of new x) (label_of new (far old.net x)) + 1
steep_met old new ends met x lx some =
    let net = old.net in
    let n = old.blocks in
    let b = near_block net n x in
    let lb = near_block_in old x met.sized lx in
    let lane = met.joined.lanes x lx in
    let residual = ap (λ (l : Lane). l.residual) lane in
    let known = ap (λ (l : Lane). l.known) lane in
    let at = (met.own b lb).fit.steep x lx (omega (arith, some, residual)) in
    let low = met.joined.labels (near net x) (near_in net x met.sized.net lx) in
    let high = met.joined.labels (far net x) (far_in net x met.sized.net lx) in
    elim (cases_Bool (is_border net n x)) [
      | inl border ↦ let at' = rw border at at in rw border (omega (arith, at', known, low))
      | inr inner ↦
          let at' = rw inner at at in
          let same : b ≡ far_block net n x = not_border b (far_block net n x) inner in
          let turn = ap (λ q. label_of (ends q) (far net x)) same in
          rw inner (omega (arith, at', low, high, turn))
    ]

tells_by : (net : Network) (labels : List ℕ) (x : Direction) (m : Message) → IsTold net labels m → Tells x (slice_index labels (far net x)) m
tells_by net labels x (Parcel y a d) told = λ e.
    let at = ap (λ u. slice_index labels u) (ap (near net) e ∙ near_opposite net x) in
    omega (arith, told, at)
tells_by net labels x (Accepted y a) told = tt
tells_by net labels x (Refused y a d told') told = λ e.
    let at = ap (λ u. slice_index labels u) (ap (far net) e) in
    omega (arith, told, at)

-- a label that is known of the far end was its label at some time, and labels only rise
pub known_met : (old new : State) (ends : ℕ → State) → IsMet old new ends → (x : Direction) → IsDirection old.net x → is_border old.net old.blocks x ≡ true
    → known_of new x ≤ label_of new (far old.net x)
known_met old new ends met x lx border =
    let net = old.net in
    let n = old.blocks in
    let b = near_block net n x in
    let c = far_block net n x in
    let lb = near_block_in old x met.sized lx in
    let lc = far_block_in old x met.sized lx in
    let o = ends_of net n x lx border in
    let w = far net x in
    let labels = (ends c).labels in
    let known = ap (λ (l : Lane). l.known) (met.joined.lanes x lx) in
    let high = met.joined.labels w (far_in net x met.sized.net lx) in
    let told = all_left (IsTold net labels) (way_at (ends b).ways c b) (way_at new.ways c b) (rw (met.ways c b lc lb) at ((met.own c lc).log.told b)) in
    let low : known_of old x ≤ slice_index labels w = omega (arith, met.known x lx border, (met.own c lc).log.rises w) in
    let at = (met.own b lb).log.known x lx c o (slice_index labels w) low (λ k d l. tells_by net labels x (get_or (way_at (ends b).ways c b) k d) (told k d l)) in
    omega (arith, at, known, high)
