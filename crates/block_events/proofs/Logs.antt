-- What a block's history, its lanes and its labels have to do with each other.
use Rattle.std.proofs.Common.{◌≡◌, ℕ, ◌+◌, ◌-◌, ◌<◌, ◌≤◌, Bool, true, false, cond, List, [], ◌∷◌, ◌++◌, length, set, get_or, slice_index, All, Some, None, Option, refl, sym, ◌∙◌, ap, inl, inr, arith, get_or-set_other}
use Rattle.std.specs.List.{AllPairs}
use Rattle.std.proofs.lemmas.List.Quantifiers.{all_pairs_push}
use Rattle.sums.specs.Sums.{count_if}
use Rattle.flow_network.specs.Cut.{Network, nodes}
use Rattle.block_events.specs.declared.direction.Direction.{Direction}
use Rattle.block_events.specs.declared.flight.Flight.{Flight}
use Rattle.block_events.specs.declared.message.Message.{Message}
use Rattle.block_events.specs.declared.message.Message.TheVariants.{Parcel, Accepted, Refused}
use Rattle.block_events.specs.Directions.{forward, backward, opposite, is_same, IsDirection, near, far}
use Rattle.block_events.specs.States.{State, Lane, Lanes, lane_at, put_lane, way_at, put_message, over_messages, label_of, room_of, flight_of, residual_of, known_of, near_block, far_block, block_of, is_border}
use Rattle.block_events.specs.Effects.{lane_after_accept}
use Rattle.block_events.specs.Events.{IsQuiet, after_push, after_sink_push, after_relabel, after_send, after_accept, after_refuse, after_settle}
use Rattle.block_events.specs.Soundness.{IsSound, IsSquare}
use Rattle.block_events.proofs.Lanes.{same_itself as same_is, not_same as not_same_is, long_put, lane_other, cases_direction, near_opposite, far_opposite, border_opposite, opposite_twice}
use Rattle.block_events.proofs.Ways.{EachWay, each_put, square_put, messages_more, all_more}
use Rattle.block_events.proofs.Local.{set_less, set_rises, each_lane, flights_put, arc_changed, long}
use Rattle.block_events.proofs.Raising.{quiet_none, quiet_idle}
use Rattle.block_events.specs.Workers.{IsBetween, IsAddressed, IsFair, taken_with}
use Rattle.block_events.proofs.Fit.{IsFit, learned_at}
use Rattle.block_events.proofs.Words.{apart, turned, in_range, parcels, taken, back, weight_out, self, counts_same, counts_not, last_of, parcel_of, answer_of, put_at, put_here, put_other, all_last, all_before, last_kept, last_here}

-- ---- facts on one message

abbrev pub IsGood : Network → ℕ → ℕ → ℕ → Message → Type 0
IsGood net blocks i j m = IsAddressed net blocks i j m × IsFair m

-- what a message tells of its putter's labels is at most these labels
abbrev pub IsTold : Network → List ℕ → Message → Type 0
IsTold net labels (Parcel x a d) = d ≤ slice_index labels (near net x)
IsTold net labels (Accepted x a) = Unit {0}
IsTold net labels (Refused x a d told) = told ≤ slice_index labels (far net x)

-- what a message tells the near end of a direction of its far end is at most k
abbrev pub Tells : Direction → ℕ → Message → Type 0
Tells x k (Parcel y a d) = y ≡ opposite x → d ≤ k
Tells x k (Accepted y a) = Unit {0}
Tells x k (Refused y a d told) = y ≡ x → told ≤ k

-- parcels of the opposite direction that stand before an answer that the direction's parcel was
-- taken lie below d
abbrev pub IsUnder : Direction → ℕ → Message → Message → Type 0
IsUnder x d (Parcel y a k) (Accepted z n) = y ≡ opposite x → z ≡ x → k < d
IsUnder x d (Parcel y a k) m = Unit {0}
IsUnder x d (Accepted y a) m = Unit {0}
IsUnder x d (Refused y a k told) m = Unit {0}

-- the answer m, put into the way, answers the parcel f of x
abbrev pub Answers : Direction → Flight → List Message → Message → Type 0
Answers x f way (Parcel y n d) = Unit {0}
Answers x f way (Accepted y n) = (n ≡ f.amount) × AllPairs (IsUnder x f.label) way
Answers x f way (Refused y n d told) = (n ≡ f.amount) × (d ≡ f.label) × (d ≤ told)

-- ---- facts on one lane of the block

abbrev pub Sent : Network → ℕ → List (List (List Message)) → ℕ → Direction → Lane → Type 0
Sent net blocks ways b x l = (c : ℕ) → IsBetween net blocks x b c → (w : ℕ → ℕ)
    → over_messages (parcels w x) ways ≡ over_messages (taken w x) ways + over_messages (back w x) ways + weight_out w l.flight

abbrev pub Residual : State → Network → ℕ → List (List (List Message)) → ℕ → Direction → Lane → Type 0
Residual old net blocks ways b x l = (c : ℕ) → IsBetween net blocks x b c
    → l.residual + over_messages (parcels self x) ways
    ≡ residual_of old x + over_messages (back self x) ways + over_messages (taken self (opposite x)) ways

abbrev pub Known : State → Network → ℕ → List (List (List Message)) → ℕ → Direction → Lane → Type 0
Known old net blocks ways b x l = (c : ℕ) → IsBetween net blocks x b c → (k : ℕ) → known_of old x ≤ k → All (Tells x k) (way_at ways c b) → l.known ≤ k

abbrev pub Last : Network → ℕ → List (List (List Message)) → ℕ → Direction → Lane → Type 0
Last net blocks ways b x l = (c : ℕ) → IsBetween net blocks x b c → (f : Flight) → l.flight ≡ Some f → last_of (parcel_of x) (way_at ways b c) ≡ Some f

abbrev pub Received : Network → ℕ → List (List (List Message)) → ℕ → Type 0
Received net blocks ways b = (x : Direction) (c : ℕ) → IsBetween net blocks x c b → (w : ℕ → ℕ)
    → over_messages (parcels w x) ways ≡ over_messages (taken w x) ways + over_messages (back w x) ways

abbrev pub Answered : Network → ℕ → List (List (List Message)) → ℕ → Type 0
Answered net blocks ways b = (x : Direction) (c : ℕ) → IsBetween net blocks x c b → (f : Flight) (m : Message)
    → last_of (parcel_of x) (way_at ways c b) ≡ Some f → last_of (answer_of x) (way_at ways b c) ≡ Some m → Answers x f (way_at ways b c) m

pub record IsLogged (b : ℕ) (old s : State) : Type 0 where
  pub good : EachWay (λ i j way. All (IsGood s.net s.blocks i j) way) s.ways
  pub told : (c : ℕ) → All (IsTold s.net s.labels) (way_at s.ways b c)
  pub rises : (v : ℕ) → label_of old v ≤ label_of s v
  pub known : (x : Direction) → IsDirection s.net x → Known old s.net s.blocks s.ways b x (lane_at s.lanes x)
  pub sent : (x : Direction) → IsDirection s.net x → Sent s.net s.blocks s.ways b x (lane_at s.lanes x)
  pub residual : (x : Direction) → IsDirection s.net x → Residual old s.net s.blocks s.ways b x (lane_at s.lanes x)
  pub last : (x : Direction) → IsDirection s.net x → Last s.net s.blocks s.ways b x (lane_at s.lanes x)
  pub received : Received s.net s.blocks s.ways b
  pub answered : Answered s.net s.blocks s.ways b
  pub inner : (k : ℕ) → k < length s.net.arcs → is_border s.net s.blocks (forward k) ≡ false
      → residual_of s (forward k) + residual_of s (backward k) ≡ residual_of old (forward k) + residual_of old (backward k)
  pub falls : (v : ℕ) → room_of s v ≤ room_of old v
  pub others : (v : ℕ) → (block_of s.net s.blocks v ≡ b → ⊥) → room_of s v ≡ room_of old v

-- ---- at the beginning

none_last : {A : Type 0} (g : Message → Option A) (way : List Message) (f : A) → way ≡ [] → last_of g way ≡ Some f → ⊥
none_last g way f e h = let clash : None ≡ Some f = sym (ap (last_of g) e) ∙ h in cc

all_none : (P : Message → Type 0) (way : List Message) → way ≡ [] → All P way
all_none P way e k d l = absurd (let len = ap length e in omega (arith, len, l))

pub begun : (b : ℕ) (s : State) → IsSound s → ((i j : ℕ) → way_at s.ways i j ≡ []) → IsQuiet s → IsLogged b s s
begun b s sound none quiet =
    let no = λ (f : Message → ℕ). quiet_none s f sound.sized.ways quiet in
    record {
      good = λ i j. all_none (IsGood s.net s.blocks i j) (way_at s.ways i j) (none i j);
      told = λ c. all_none (IsTold s.net s.labels) (way_at s.ways b c) (none b c);
      rises = λ v. omega arith;
      known = λ x lx c o k le all. le;
      sent = λ x lx c o w. let idle = ap (weight_out w) (quiet_idle s sound quiet x lx) in omega (arith, no (parcels w x), no (taken w x), no (back w x), idle);
      residual = λ x lx c o. omega (arith, no (parcels self x), no (taken self (opposite x)), no (back self x));
      last = λ x lx c o f h. let idle = quiet_idle s sound quiet x lx in absurd (let clash : None ≡ Some f = sym idle ∙ h in cc);
      received = λ x c o w. omega (arith, no (parcels w x), no (taken w x), no (back w x));
      answered = λ x c o f m h k. absurd (none_last (parcel_of x) (way_at s.ways c b) f (none c b) h);
      inner = λ k lk h. refl;
      falls = λ v. omega arith;
      others = λ v off. refl;
    }

-- ---- within the block

border_not : (net : Network) (blocks : ℕ) (x y : Direction) → is_border net blocks x ≡ true → is_border net blocks y ≡ false → x ≡ y → ⊥
border_not net blocks x y h k e = let same = ap (is_border net blocks) e in let clash : true ≡ false = sym h ∙ (same ∙ k) in cc

pub pushed_logged : (b : ℕ) (old s : State) (x : Direction) (a : ℕ) → IsFit s → IsLogged b old s → IsDirection s.net x → is_border s.net s.blocks x ≡ false
    → a ≤ residual_of s x → IsLogged b old (after_push s x a)
pushed_logged b old s x a fit log lx inner fits =
    let opp = opposite x in
    let arcs = length s.net.arcs in
    let lane : Lane = record (lane_at s.lanes x) { residual = residual_of s x - a } in
    let taken' = put_lane s.lanes x lane in
    let after : Lane = record (lane_at taken' opp) { residual = (lane_at taken' opp).residual + a } in
    let lng = long s fit.sized in
    let lng1 = long_put arcs s.lanes x lane lng in
    let inner' : is_border s.net s.blocks opp ≡ false = border_opposite s.net s.blocks x ∙ inner in
    let K : Direction → Lane → Type 0 = Known old s.net s.blocks s.ways b in
    let S : Direction → Lane → Type 0 = Sent s.net s.blocks s.ways b in
    let R : Direction → Lane → Type 0 = Residual old s.net s.blocks s.ways b in
    let L : Direction → Lane → Type 0 = Last s.net s.blocks s.ways b in
    let known = each_lane arcs s.lanes x lane K lng lx (λ y off ly. log.known y ly) (log.known x lx) in
    let sent = each_lane arcs s.lanes x lane S lng lx (λ y off ly. log.sent y ly) (log.sent x lx) in
    let last = each_lane arcs s.lanes x lane L lng lx (λ y off ly. log.last y ly) (log.last x lx) in
    let residual = each_lane arcs s.lanes x lane R lng lx (λ y off ly. log.residual y ly) (λ c o. absurd (border_not s.net s.blocks x x o.border inner refl)) in
    record {
      good = log.good;
      told = log.told;
      rises = log.rises;
      known = each_lane arcs taken' opp after K lng1 lx (λ y off ly. known y ly) (known opp lx);
      sent = each_lane arcs taken' opp after S lng1 lx (λ y off ly. sent y ly) (sent opp lx);
      residual = each_lane arcs taken' opp after R lng1 lx (λ y off ly. residual y ly) (λ c o. absurd (border_not s.net s.blocks opp opp o.border inner' refl));
      last = each_lane arcs taken' opp after L lng1 lx (λ y off ly. last y ly) (last opp lx);
      received = log.received;
      answered = log.answered;
      inner = λ k lk h. omega (arith, log.inner k lk h, arc_changed arcs s.lanes x lane a 0 k lng lx (omega arith), arc_changed arcs taken' opp after 0 a k lng1 lx (omega arith));
      falls = log.falls;
      others = log.others;
    }

pub given_logged : (b : ℕ) (old s : State) (v a : ℕ) → IsFit s → IsLogged b old s → v < nodes s.net → a ≤ room_of s v → block_of s.net s.blocks v ≡ b → IsLogged b old (after_sink_push s v a)
given_logged b old s v a fit log lv fits mine =
    let lr : v < length s.rooms = omega (arith, lv, fit.sized.rooms) in
    record {
      good = log.good;
      told = log.told;
      rises = log.rises;
      known = log.known;
      sent = log.sent;
      residual = log.residual;
      last = log.last;
      received = log.received;
      answered = log.answered;
      inner = log.inner;
      falls = λ u. omega (arith, log.falls u, set_less s.rooms v a u lr fits);
      others = λ u off. get_or-set_other s.rooms v u (room_of s v - a) 0 (λ e. off (ap (block_of s.net s.blocks) e ∙ mine)) ∙ log.others u off;
    }

told_kept : (net : Network) (labels labels' : List ℕ) (m : Message) → ((v : ℕ) → slice_index labels v ≤ slice_index labels' v) → IsTold net labels m → IsTold net labels' m
told_kept net labels labels' (Parcel x a d) up h = omega (arith, h, up (near net x))
told_kept net labels labels' (Accepted x a) up h = tt
told_kept net labels labels' (Refused x a d told) up h = omega (arith, h, up (far net x))

pub relabelled_logged : (b : ℕ) (old s : State) (v d : ℕ) → IsFit s → IsLogged b old s → v < nodes s.net → label_of s v < d → IsLogged b old (after_relabel s v d)
relabelled_logged b old s v d fit log lv higher =
    let l : v < length s.labels = omega (arith, lv, fit.sized.labels) in
    let up = λ (u : ℕ). set_rises s.labels v d u l (omega (arith, higher)) in
    record {
      good = log.good;
      told = λ c k e le. told_kept s.net s.labels (set s.labels v d) (get_or (way_at s.ways b c) k e) up (log.told c k e le);
      rises = λ u. omega (arith, log.rises u, up u);
      known = log.known;
      sent = log.sent;
      residual = log.residual;
      last = log.last;
      received = log.received;
      answered = log.answered;
      inner = log.inner;
      falls = log.falls;
      others = log.others;
    }

-- ---- a message that the block puts

-- what the block tells by its messages, after one more
told_put : (n : ℕ) (net : Network) (labels : List ℕ) (ways : List (List (List Message))) (b c' : ℕ) (m : Message) → IsSquare n ways → b < n → c' < n
    → ((c : ℕ) → All (IsTold net labels) (way_at ways b c)) → IsTold net labels m → (c : ℕ) → All (IsTold net labels) (way_at (put_message ways b c' m) b c)
told_put n net labels ways b c' m sq lb lc told here c = elim (put_at n ways b c' m b c sq lb lc) [
  | inl at ↦ rw at.2 (all_more (IsTold net labels) (way_at ways b c) m (told c) here)
  | inr off ↦ rw off.1 (told c)
]

-- and after it took one more
told_took : (n : ℕ) (net : Network) (labels : List ℕ) (ways : List (List (List Message))) (b c' : ℕ) (m : Message) → IsSquare n ways → c' < n → (b ≡ c' → ⊥)
    → ((c : ℕ) → All (IsTold net labels) (way_at ways b c)) → (c : ℕ) → All (IsTold net labels) (way_at (put_message ways c' b m) b c)
told_took n net labels ways b c' m sq lc off told c = rw (put_other n ways c' b m b c sq lc (λ e f. off e)) (told c)

good_put : (n : ℕ) (net : Network) (blocks : ℕ) (ways : List (List (List Message))) (i j : ℕ) (m : Message) → IsSquare n ways → i < n → j < n
    → EachWay (λ i j way. All (IsGood net blocks i j) way) ways → IsGood net blocks i j m
    → EachWay (λ i j way. All (IsGood net blocks i j) way) (put_message ways i j m)
good_put n net blocks ways i j m sq li lj good here =
    each_put n (λ i j way. All (IsGood net blocks i j) way) ways i j (way_at ways i j ++ m ∷ []) sq li lj good
    (all_more (IsGood net blocks i j) (way_at ways i j) m (good i j) here)

-- the lanes within a block do not change where that of a border direction is written
inner_put : (net : Network) (blocks : ℕ) (lanes : Lanes) (x : Direction) (lane : Lane) (k : ℕ) → is_border net blocks x ≡ true → is_border net blocks (forward k) ≡ false
    → (lane_at (put_lane lanes x lane) (forward k)).residual + (lane_at (put_lane lanes x lane) (backward k)).residual
    ≡ (lane_at lanes (forward k)).residual + (lane_at lanes (backward k)).residual
inner_put net blocks lanes x lane k border inner =
    let inner' : is_border net blocks (backward k) ≡ false = border_opposite net blocks (forward k) ∙ inner in
    let f = ap (λ (q : Lane). q.residual) (lane_other lanes x (forward k) lane (λ e. border_not net blocks x (forward k) border inner (sym e))) in
    let g = ap (λ (q : Lane). q.residual) (lane_other lanes x (backward k) lane (λ e. border_not net blocks x (backward k) border inner' (sym e))) in
    omega (arith, f, g)

under_parcel : (x : Direction) (d : ℕ) (k : Message) (y : Direction) (a e : ℕ) → IsUnder x d k (Parcel y a e)
under_parcel x d (Parcel z n f) y a e = tt
under_parcel x d (Accepted z n) y a e = tt
under_parcel x d (Refused z n f told) y a e = tt

under_refused : (x : Direction) (d : ℕ) (k : Message) (y : Direction) (a e told : ℕ) → IsUnder x d k (Refused y a e told)
under_refused x d (Parcel z n f) y a e told = tt
under_refused x d (Accepted z n) y a e told = tt
under_refused x d (Refused z n f t) y a e told = tt

under_other : (x : Direction) (d : ℕ) (k : Message) (y : Direction) (a : ℕ) → (y ≡ x → ⊥) → IsUnder x d k (Accepted y a)
under_other x d (Parcel z n f) y a off = λ h e. absurd (off e)
under_other x d (Accepted z n) y a off = tt
under_other x d (Refused z n f t) y a off = tt

-- an answer still answers after one more message of another kind
answers_more : (x : Direction) (f : Flight) (way : List Message) (m more : Message) → ((k : Message) → IsUnder x f.label k more) → Answers x f way m → Answers x f (way ++ more ∷ []) m
answers_more x f way (Parcel y n d) more under h = tt
answers_more x f way (Accepted y n) more under h = (h.0, all_pairs_push (IsUnder x f.label) way more h.1 (λ k d l. under _))
answers_more x f way (Refused y n d told) more under h = h

answers_put : (n : ℕ) (x : Direction) (f : Flight) (ways : List (List (List Message))) (i j : ℕ) (more : Message) (b c : ℕ) (m : Message) → IsSquare n ways → i < n → j < n
    → ((k : Message) → IsUnder x f.label k more) → Answers x f (way_at ways b c) m → Answers x f (way_at (put_message ways i j more) b c) m
answers_put n x f ways i j more b c m sq li lj under h = elim (put_at n ways i j more b c sq li lj) [
  | inl at ↦ rw at.2 (answers_more x f (way_at ways b c) m more under h)
  | inr off ↦ rw off.1 h
]

pub sent_logged : (b c' : ℕ) (old s : State) (x : Direction) (a : ℕ) → IsFit s → IsLogged b old s → IsBetween s.net s.blocks x b c'
    → 1 ≤ a → a ≤ residual_of s x → label_of s (near s.net x) ≡ known_of s x + 1 → flight_of s x ≡ None
    → IsLogged b old (after_send s x a)
sent_logged b c' old s x a fit log o some fits level idle =
    let n = s.blocks in
    let net = s.net in
    let sq = fit.sized.ways in
    let arcs = length s.net.arcs in
    let d = label_of s (near net x) in
    let m : Message = Parcel x a d in
    let lx = o.direction in
    let i = near_block net n x in
    let j = far_block net n x in
    let o' : IsBetween net n x i j = record { direction = lx; border = o.border; near = refl; far = refl } in
    let range = in_range s x i j fit.sized o' in
    let lng = long s fit.sized in
    let lane : Lane = record (lane_at s.lanes x) { residual = residual_of s x - a; flight = Some (record { amount = a; label = d }) } in
    let ways = put_message s.ways i j m in
    let more = λ (f : Message → ℕ). messages_more n f s.ways i j m sq range.0 range.1 in
    let not_mine = λ (y : Direction) (c : ℕ) (p : IsBetween net n y c b) (e : x ≡ y). apart net n y c b p (sym p.near ∙ (ap (near_block net n) (sym e) ∙ o.near)) in
    record {
      good = good_put n net n s.ways i j m sq range.0 range.1 log.good (o', (some, omega (arith, level)));
      told = rw (sym o.near) (told_put n net s.labels s.ways i j m sq range.0 range.1 (rw o.near log.told) (omega arith));
      rises = log.rises;
      known = each_lane arcs s.lanes x lane (Known old net n ways b) lng lx
          (λ y off ly c p k le all. log.known y ly c p k le (all_before n (Tells y k) s.ways i j m c b sq range.0 range.1 all))
          (λ c p k le all. log.known x lx c p k le (all_before n (Tells x k) s.ways i j m c b sq range.0 range.1 all));
      sent = each_lane arcs s.lanes x lane (Sent net n ways b) lng lx
          (λ y off ly c p w. omega (arith, log.sent y ly c p w, more (parcels w y), more (taken w y), more (back w y), counts_not x y (w a) (λ e. off (sym e))))
          (λ c p w. let was = ap (weight_out w) idle in omega (arith, log.sent x lx c p w, more (parcels w x), more (taken w x), more (back w x), counts_same x (w a), was));
      residual = each_lane arcs s.lanes x lane (Residual old net n ways b) lng lx
          (λ y off ly c p. omega (arith, log.residual y ly c p, more (parcels self y), more (taken self (opposite y)), more (back self y), counts_not x y a (λ e. off (sym e))))
          (λ c p. omega (arith, log.residual x lx c p, more (parcels self x), more (taken self (opposite x)), more (back self x), counts_same x a, fits));
      last = each_lane arcs s.lanes x lane (Last net n ways b) lng lx
          (λ y off ly c p f h.
          last_kept (parcel_of y) n s.ways i j m b c sq range.0 range.1 (ap (λ (t : Bool). cond t (Some (record { amount = a; label = d })) None) (not_same_is x y (λ e. off (sym e))))
          ∙ log.last y ly c p f h)
          (λ c p f h. rw (sym o.near, sym p.far) (
          last_here (parcel_of x) n s.ways i j m (record { amount = a; label = d }) sq range.0 range.1 (ap (λ (t : Bool). cond t (Some (record { amount = a; label = d })) None) (same_is x)) ∙ h));
      received = λ y c p w. omega (arith, log.received y c p w, more (parcels w y), more (taken w y), more (back w y), counts_not x y (w a) (not_mine y c p));
      answered = λ y c p f k h g.
          let h' = sym (last_kept (parcel_of y) n s.ways i j m c b sq range.0 range.1 (ap (λ (t : Bool). cond t (Some (record { amount = a; label = d })) None) (not_same_is x y (not_mine y c p)))) ∙ h in
          let g' = sym (last_kept (answer_of y) n s.ways i j m b c sq range.0 range.1 refl) ∙ g in
          answers_put n y f s.ways i j m b c k sq range.0 range.1 (λ z. under_parcel y f.label z x a d) (log.answered y c p f k h' g');
      inner = λ k lk h. inner_put net n s.lanes x lane k o.border h ∙ log.inner k lk h;
      falls = log.falls;
      others = log.others;
    }

-- ---- a parcel that the block takes, and its answer

-- the far end's block lies below what is told of it
told_under : (net : Network) (labels : List ℕ) (x : Direction) (d : ℕ) (m k : Message) → slice_index labels (far net x) < d → IsTold net labels m → IsUnder x d m k
told_under net labels x d (Parcel y a e) (Accepted z n) low told = λ h g.
    let at = ap (λ u. slice_index labels u) (ap (near net) h ∙ near_opposite net x) in
    omega (arith, told, at, low)
told_under net labels x d (Parcel y a e) (Parcel z n f) low told = tt
told_under net labels x d (Parcel y a e) (Refused z n f t) low told = tt
told_under net labels x d (Accepted y a) k low told = tt
told_under net labels x d (Refused y a e t) k low told = tt

pub same_flight : (f g : Flight) → Some f ≡ Some g → f ≡ g
same_flight f g h = cc

same_message : (m k : Message) → Some m ≡ Some k → m ≡ k
same_message m k h = cc

pub parcel_here : (x : Direction) (a d : ℕ) → parcel_of x (Parcel x a d) ≡ Some (record { amount = a; label = d })
parcel_here x a d = ap (λ (t : Bool). cond t (Some (record { amount = a; label = d })) None) (same_is x)

parcel_other : (x y : Direction) (a d : ℕ) → (x ≡ y → ⊥) → parcel_of y (Parcel x a d) ≡ None
parcel_other x y a d off = ap (λ (t : Bool). cond t (Some (record { amount = a; label = d })) None) (not_same_is x y off)

pub accepted_here : (x : Direction) (a : ℕ) → answer_of x (Accepted x a) ≡ Some (Accepted x a)
accepted_here x a = ap (λ (t : Bool). cond t (Some (Accepted x a)) None) (same_is x)

accepted_other : (x y : Direction) (a : ℕ) → (x ≡ y → ⊥) → answer_of y (Accepted x a) ≡ None
accepted_other x y a off = ap (λ (t : Bool). cond t (Some (Accepted x a)) None) (not_same_is x y off)

pub refused_here : (x : Direction) (a d told : ℕ) → answer_of x (Refused x a d told) ≡ Some (Refused x a d told)
refused_here x a d told = ap (λ (t : Bool). cond t (Some (Refused x a d told)) None) (same_is x)

refused_other : (x y : Direction) (a d told : ℕ) → (x ≡ y → ⊥) → answer_of y (Refused x a d told) ≡ None
refused_other x y a d told off = ap (λ (t : Bool). cond t (Some (Refused x a d told)) None) (not_same_is x y off)

pub accepted_logged : (b c' : ℕ) (old s : State) (x : Direction) (a d : ℕ) → IsFit s → IsLogged b old s → IsBetween s.net s.blocks x c' b
    → 1 ≤ a → 1 ≤ d → label_of s (far s.net x) + 1 ≡ d → IsLogged b old (after_accept s c' b (taken_with s b c' (Parcel x a d)))
accepted_logged b c' old s x a d fit log o some some_label level =
    let n = s.blocks in
    let net = s.net in
    let sq = fit.sized.ways in
    let arcs = length s.net.arcs in
    let m : Message = Parcel x a d in
    let reply : Message = Accepted x a in
    let lx = o.direction in
    let opp = opposite x in
    let range = in_range s x c' b fit.sized o in
    let lb = range.1 in
    let lc = range.0 in
    let off_b = apart net n x c' b o in
    let lng = long s fit.sized in
    let was = lane_at s.lanes opp in
    let lane = lane_after_accept was a d in
    let ways1 = put_message s.ways c' b m in
    let ways = put_message ways1 b c' reply in
    let sq1 = square_put n s.ways c' b (way_at s.ways c' b ++ m ∷ []) sq in
    let one = λ (f : Message → ℕ). messages_more n f s.ways c' b m sq lc lb in
    let two = λ (f : Message → ℕ). messages_more n f ways1 b c' reply sq1 lb lc in
    let before = λ (P : Message → Type 0) (p q : ℕ) (all : All P (way_at ways p q)). all_before n P s.ways c' b m p q sq lc lb (all_before n P ways1 b c' reply p q sq1 lb lc all) in
    -- a direction that leaves the block is not the parcel's
    let off_near = λ (y : Direction) (c : ℕ) (p : IsBetween net n y b c) (e : x ≡ y). off_b (sym o.near ∙ (ap (near_block net n) e ∙ p.near)) in
    let told = told_put n net s.labels ways1 b c' reply sq1 lb lc (told_took n net s.labels s.ways b c' m sq lc (λ e. off_b (sym e)) log.told) tt in
    let same = flights_put arcs s.lanes opp lane lng lx refl in
    let cases = learned_at was.flight was.known d in
    let border : is_border net n opp ≡ true = border_opposite net n x ∙ o.border in
    let fl = λ (y : Direction) (ly : IsDirection net y) (w : ℕ → ℕ). ap (weight_out w) (same y ly) in
    record {
      good = good_put n net n ways1 b c' reply sq1 lb lc (good_put n net n s.ways c' b m sq lc lb log.good (o, (some, some_label))) (o, some);
      told = told;
      rises = log.rises;
      known = each_lane arcs s.lanes opp lane (Known old net n ways b) lng lx
          (λ y off ly c p k le all. log.known y ly c p k le (before (Tells y k) c b all))
          (λ c p k le all.
          let c_is : c ≡ c' = sym p.far ∙ (ap (block_of net n) (far_opposite net x) ∙ o.near) in
          let all1 = all_before n (Tells opp k) ways1 b c' reply c b sq1 lb lc all in
          let tells = all_last (Tells opp k) (way_at s.ways c b) m (rw (ap (λ q. way_at ways1 q b) c_is ∙ (put_here n s.ways c' b m sq lc lb ∙ ap (λ q. way_at s.ways q b ++ m ∷ []) (sym c_is))) at all1) in
          let low = tells (sym (opposite_twice x)) in
          let kn = log.known opp lx c p k le (before (Tells opp k) c b all) in
          elim cases [
            | inl none ↦ omega (arith, none.1, kn, low)
            | inr (g, is, kept) ↦ omega (arith, kept, kn)
          ]);
      sent = λ y ly c p w.
          let off = off_near y c p in
          omega (
            arith,
            log.sent y ly c p w,
            one (parcels w y),
            two (parcels w y),
            one (taken w y),
            two (taken w y),
            one (back w y),
            two (back w y),
            counts_not x y (w a) off,
            fl y ly w,
          );
      residual = each_lane arcs s.lanes opp lane (Residual old net n ways b) lng lx
          (λ y off ly c p.
          omega (
            arith,
            log.residual y ly c p,
            one (parcels self y),
            two (parcels self y),
            one (taken self (opposite y)),
            two (taken self (opposite y)),
            one (back self y),
            two (back self y),
            counts_not x y a (off_near y c p),
            counts_not x (opposite y) a (λ e. off (sym (opposite_twice y) ∙ ap opposite (sym e))),
          ))
          (λ c p.
          let turn = ap (λ q. count_if (is_same x q) a) (opposite_twice x) in
          omega (
            arith,
            log.residual opp lx c p,
            one (parcels self opp),
            two (parcels self opp),
            one (taken self (opposite opp)),
            two (taken self (opposite opp)),
            one (back self opp),
            two (back self opp),
            counts_not x opp a (off_near opp c p),
            turn,
            counts_same x a,
          ));
      last = λ y ly c p f h.
          last_kept (parcel_of y) n ways1 b c' reply b c sq1 lb lc refl
          ∙ (last_kept (parcel_of y) n s.ways c' b m b c sq lc lb (parcel_other x y a d (off_near y c p))
          ∙ log.last y ly c p f (sym (same y ly) ∙ h));
      received = λ y c p w.
          omega (arith, log.received y c p w, one (parcels w y), two (parcels w y), one (taken w y), two (taken w y), one (back w y), two (back w y));
      answered = λ y c p f k h g. elim (cases_direction x y) [
        | inl e ↦
            let c_is : c ≡ c' = sym p.near ∙ (ap (near_block net n) (sym e) ∙ o.near) in
            let in_last : last_of (parcel_of y) (way_at ways c b) ≡ Some (record { amount = a; label = d }) =
            last_kept (parcel_of y) n ways1 b c' reply c b sq1 lb lc refl
            ∙ (ap (λ q. last_of (parcel_of y) (way_at ways1 q b)) c_is ∙ last_here (parcel_of y) n s.ways c' b m (record { amount = a; label = d }) sq lc lb (rw (sym e) (parcel_here x a d))) in
            let out_last : last_of (answer_of y) (way_at ways b c) ≡ Some (Accepted x a) =
            ap (λ q. last_of (answer_of y) (way_at ways b q)) c_is ∙ last_here (answer_of y) n ways1 b c' reply (Accepted x a) sq1 lb lc (rw (sym e) (accepted_here x a)) in
            let f_is = same_flight _ _ (sym in_last ∙ h) in
            let k_is = same_message _ _ (sym out_last ∙ g) in
            rw (sym k_is, sym f_is) (refl, λ i j z lij lj. rw (sym e) (told_under net s.labels x d _ _ (omega (arith, level)) (told c i z (omega (arith, lij, lj)))))
        | inr off ↦
            let h1 = sym (last_kept (parcel_of y) n s.ways c' b m c b sq lc lb (parcel_other x y a d off)) ∙ (sym (last_kept (parcel_of y) n ways1 b c' reply c b sq1 lb lc refl) ∙ h) in
            let g1 = sym (last_kept (answer_of y) n s.ways c' b m b c sq lc lb refl) ∙ (sym (last_kept (answer_of y) n ways1 b c' reply b c sq1 lb lc (accepted_other x y a off)) ∙ g) in
            answers_put n y f ways1 b c' reply b c k sq1 lb lc (λ z. under_other y f.label z x a off)
            (answers_put n y f s.ways c' b m b c k sq lc lb (λ z. under_parcel y f.label z x a d) (log.answered y c p f k h1 g1))
      ];
      inner = λ k lk h. inner_put net n s.lanes opp lane k border h ∙ log.inner k lk h;
      falls = log.falls;
      others = log.others;
    }

pub refused_logged : (b c' : ℕ) (old s : State) (x : Direction) (a d : ℕ) → IsFit s → IsLogged b old s → IsBetween s.net s.blocks x c' b
    → 1 ≤ a → 1 ≤ d → d ≤ label_of s (far s.net x) → IsLogged b old (after_refuse s c' b (taken_with s b c' (Parcel x a d)))
refused_logged b c' old s x a d fit log o some some_label high =
    let n = s.blocks in
    let net = s.net in
    let sq = fit.sized.ways in
    let m : Message = Parcel x a d in
    let told' = label_of s (far net x) in
    let reply : Message = Refused x a d told' in
    let range = in_range s x c' b fit.sized o in
    let lb = range.1 in
    let lc = range.0 in
    let off_b = apart net n x c' b o in
    let ways1 = put_message s.ways c' b m in
    let ways = put_message ways1 b c' reply in
    let sq1 = square_put n s.ways c' b (way_at s.ways c' b ++ m ∷ []) sq in
    let one = λ (f : Message → ℕ). messages_more n f s.ways c' b m sq lc lb in
    let two = λ (f : Message → ℕ). messages_more n f ways1 b c' reply sq1 lb lc in
    let before = λ (P : Message → Type 0) (p q : ℕ) (all : All P (way_at ways p q)). all_before n P s.ways c' b m p q sq lc lb (all_before n P ways1 b c' reply p q sq1 lb lc all) in
    let off_near = λ (y : Direction) (c : ℕ) (p : IsBetween net n y b c) (e : x ≡ y). off_b (sym o.near ∙ (ap (near_block net n) e ∙ p.near)) in
    let told = told_put n net s.labels ways1 b c' reply sq1 lb lc (told_took n net s.labels s.ways b c' m sq lc (λ e. off_b (sym e)) log.told) (omega arith) in
    record {
      good = good_put n net n ways1 b c' reply sq1 lb lc (good_put n net n s.ways c' b m sq lc lb log.good (o, (some, some_label))) (o, (some, some_label, high));
      told = told;
      rises = log.rises;
      known = λ y ly c p k le all. log.known y ly c p k le (before (Tells y k) c b all);
      sent = λ y ly c p w.
          omega (
            arith,
            log.sent y ly c p w,
            one (parcels w y),
            two (parcels w y),
            one (taken w y),
            two (taken w y),
            one (back w y),
            two (back w y),
            counts_not x y (w a) (off_near y c p),
          );
      residual = λ y ly c p.
          omega (
            arith,
            log.residual y ly c p,
            one (parcels self y),
            two (parcels self y),
            one (taken self (opposite y)),
            two (taken self (opposite y)),
            one (back self y),
            two (back self y),
            counts_not x y a (off_near y c p),
          );
      last = λ y ly c p f h.
          last_kept (parcel_of y) n ways1 b c' reply b c sq1 lb lc refl
          ∙ (last_kept (parcel_of y) n s.ways c' b m b c sq lc lb (parcel_other x y a d (off_near y c p)) ∙ log.last y ly c p f h);
      received = λ y c p w.
          omega (arith, log.received y c p w, one (parcels w y), two (parcels w y), one (taken w y), two (taken w y), one (back w y), two (back w y));
      answered = λ y c p f k h g. elim (cases_direction x y) [
        | inl e ↦
            let c_is : c ≡ c' = sym p.near ∙ (ap (near_block net n) (sym e) ∙ o.near) in
            let in_last : last_of (parcel_of y) (way_at ways c b) ≡ Some (record { amount = a; label = d }) =
            last_kept (parcel_of y) n ways1 b c' reply c b sq1 lb lc refl
            ∙ (ap (λ q. last_of (parcel_of y) (way_at ways1 q b)) c_is ∙ last_here (parcel_of y) n s.ways c' b m (record { amount = a; label = d }) sq lc lb (rw (sym e) (parcel_here x a d))) in
            let out_last : last_of (answer_of y) (way_at ways b c) ≡ Some reply =
            ap (λ q. last_of (answer_of y) (way_at ways b q)) c_is ∙ last_here (answer_of y) n ways1 b c' reply reply sq1 lb lc (rw (sym e) (refused_here x a d told')) in
            let f_is = same_flight _ _ (sym in_last ∙ h) in
            let k_is = same_message _ _ (sym out_last ∙ g) in
            rw (sym k_is, sym f_is) (refl, refl, high)
        | inr off ↦
            let h1 = sym (last_kept (parcel_of y) n s.ways c' b m c b sq lc lb (parcel_other x y a d off)) ∙ (sym (last_kept (parcel_of y) n ways1 b c' reply c b sq1 lb lc refl) ∙ h) in
            let g1 = sym (last_kept (answer_of y) n s.ways c' b m b c sq lc lb refl) ∙ (sym (last_kept (answer_of y) n ways1 b c' reply b c sq1 lb lc (refused_other x y a d told' off)) ∙ g) in
            answers_put n y f ways1 b c' reply b c k sq1 lb lc (λ z. under_refused y f.label z x a d told')
            (answers_put n y f s.ways c' b m b c k sq lc lb (λ z. under_parcel y f.label z x a d) (log.answered y c p f k h1 g1))
      ];
      inner = log.inner;
      falls = log.falls;
      others = log.others;
    }

-- ---- an answer that the block takes

pub taken_logged : (b c' : ℕ) (old s : State) (x : Direction) (a d : ℕ) → IsFit s → IsLogged b old s → IsBetween s.net s.blocks x b c'
    → 1 ≤ a → flight_of s x ≡ Some (record { amount = a; label = d }) → IsLogged b old (after_settle s c' b (taken_with s b c' (Accepted x a)))
taken_logged b c' old s x a d fit log o some fly =
    let n = s.blocks in
    let net = s.net in
    let sq = fit.sized.ways in
    let arcs = length s.net.arcs in
    let m : Message = Accepted x a in
    let lx = o.direction in
    let range = in_range s x b c' fit.sized o in
    let lb = range.0 in
    let lc = range.1 in
    let off_b = apart net n x b c' o in
    let lng = long s fit.sized in
    let lane : Lane = record (lane_at s.lanes x) { flight = None } in
    let ways = put_message s.ways c' b m in
    let more = λ (f : Message → ℕ). messages_more n f s.ways c' b m sq lc lb in
    let before = λ (P : Message → Type 0) (p q : ℕ) (all : All P (way_at ways p q)). all_before n P s.ways c' b m p q sq lc lb all in
    let off_far = λ (y : Direction) (c : ℕ) (p : IsBetween net n y c b) (e : x ≡ y). off_b (sym p.far ∙ (ap (far_block net n) (sym e) ∙ o.far)) in
    let off_turned = λ (y : Direction) (c : ℕ) (p : IsBetween net n y b c). off_far (opposite y) c (turned net n y b c p) in
    record {
      good = good_put n net n s.ways c' b m sq lc lb log.good (o, some);
      told = told_took n net s.labels s.ways b c' m sq lc off_b log.told;
      rises = log.rises;
      known = each_lane arcs s.lanes x lane (Known old net n ways b) lng lx
          (λ y off ly c p k le all. log.known y ly c p k le (before (Tells y k) c b all))
          (λ c p k le all. log.known x lx c p k le (before (Tells x k) c b all));
      sent = each_lane arcs s.lanes x lane (Sent net n ways b) lng lx
          (λ y off ly c p w. omega (arith, log.sent y ly c p w, more (parcels w y), more (taken w y), more (back w y), counts_not x y (w a) (λ e. off (sym e))))
          (λ c p w. let was = ap (weight_out w) fly in omega (arith, log.sent x lx c p w, more (parcels w x), more (taken w x), more (back w x), counts_same x (w a), was));
      residual = each_lane arcs s.lanes x lane (Residual old net n ways b) lng lx
          (λ y off ly c p. omega (arith, log.residual y ly c p, more (parcels self y), more (taken self (opposite y)), more (back self y), counts_not x (opposite y) a (off_turned y c p)))
          (λ c p. omega (arith, log.residual x lx c p, more (parcels self x), more (taken self (opposite x)), more (back self x), counts_not x (opposite x) a (off_turned x c p)));
      last = each_lane arcs s.lanes x lane (Last net n ways b) lng lx
          (λ y off ly c p f h. last_kept (parcel_of y) n s.ways c' b m b c sq lc lb refl ∙ log.last y ly c p f h)
          (λ c p f h. absurd (cc));
      received = λ y c p w. omega (arith, log.received y c p w, more (parcels w y), more (taken w y), more (back w y), counts_not x y (w a) (off_far y c p));
      answered = λ y c p f k h g.
          let h' = sym (last_kept (parcel_of y) n s.ways c' b m c b sq lc lb refl) ∙ h in
          let same = put_other n s.ways c' b m b c sq lc (λ e f. off_b e) in
          let g' = sym (ap (last_of (answer_of y)) same) ∙ g in
          rw same (log.answered y c p f k h' g');
      inner = λ k lk h. inner_put net n s.lanes x lane k o.border h ∙ log.inner k lk h;
      falls = log.falls;
      others = log.others;
    }

pub returned_logged : (b c' : ℕ) (old s : State) (x : Direction) (a d told : ℕ) → IsFit s → IsLogged b old s → IsBetween s.net s.blocks x b c'
    → 1 ≤ a → 1 ≤ d → d ≤ told → flight_of s x ≡ Some (record { amount = a; label = d }) → IsLogged b old (after_settle s c' b (taken_with s b c' (Refused x a d told)))
returned_logged b c' old s x a d told fit log o some some_label high fly =
    let n = s.blocks in
    let net = s.net in
    let sq = fit.sized.ways in
    let arcs = length s.net.arcs in
    let m : Message = Refused x a d told in
    let lx = o.direction in
    let range = in_range s x b c' fit.sized o in
    let lb = range.0 in
    let lc = range.1 in
    let off_b = apart net n x b c' o in
    let lng = long s fit.sized in
    let lane : Lane = record { residual = residual_of s x + a; known = told; flight = None } in
    let ways = put_message s.ways c' b m in
    let more = λ (f : Message → ℕ). messages_more n f s.ways c' b m sq lc lb in
    let before = λ (P : Message → Type 0) (p q : ℕ) (all : All P (way_at ways p q)). all_before n P s.ways c' b m p q sq lc lb all in
    let off_far = λ (y : Direction) (c : ℕ) (p : IsBetween net n y c b) (e : x ≡ y). off_b (sym p.far ∙ (ap (far_block net n) (sym e) ∙ o.far)) in
    record {
      good = good_put n net n s.ways c' b m sq lc lb log.good (o, (some, some_label, high));
      told = told_took n net s.labels s.ways b c' m sq lc off_b log.told;
      rises = log.rises;
      known = each_lane arcs s.lanes x lane (Known old net n ways b) lng lx
          (λ y off ly c p k le all. log.known y ly c p k le (before (Tells y k) c b all))
          (λ c p k le all.
          let c_is : c ≡ c' = sym p.far ∙ o.far in
          let tells = all_last (Tells x k) (way_at s.ways c b) m (rw (ap (λ q. way_at ways q b) c_is ∙ (put_here n s.ways c' b m sq lc lb ∙ ap (λ q. way_at s.ways q b ++ m ∷ []) (sym c_is))) at all) in
          tells refl);
      sent = each_lane arcs s.lanes x lane (Sent net n ways b) lng lx
          (λ y off ly c p w. omega (arith, log.sent y ly c p w, more (parcels w y), more (taken w y), more (back w y), counts_not x y (w a) (λ e. off (sym e))))
          (λ c p w. let was = ap (weight_out w) fly in omega (arith, log.sent x lx c p w, more (parcels w x), more (taken w x), more (back w x), counts_same x (w a), was));
      residual = each_lane arcs s.lanes x lane (Residual old net n ways b) lng lx
          (λ y off ly c p. omega (arith, log.residual y ly c p, more (parcels self y), more (taken self (opposite y)), more (back self y), counts_not x y a (λ e. off (sym e))))
          (λ c p. omega (arith, log.residual x lx c p, more (parcels self x), more (taken self (opposite x)), more (back self x), counts_same x a));
      last = each_lane arcs s.lanes x lane (Last net n ways b) lng lx
          (λ y off ly c p f h. last_kept (parcel_of y) n s.ways c' b m b c sq lc lb refl ∙ log.last y ly c p f h)
          (λ c p f h. absurd (cc));
      received = λ y c p w. omega (arith, log.received y c p w, more (parcels w y), more (taken w y), more (back w y), counts_not x y (w a) (off_far y c p));
      answered = λ y c p f k h g.
          let h' = sym (last_kept (parcel_of y) n s.ways c' b m c b sq lc lb refl) ∙ h in
          let same = put_other n s.ways c' b m b c sq lc (λ e f. off_b e) in
          let g' = sym (ap (last_of (answer_of y)) same) ∙ g in
          rw same (log.answered y c p f k h' g');
      inner = λ k lk h. inner_put net n s.lanes x lane k o.border h ∙ log.inner k lk h;
      falls = log.falls;
      others = log.others;
    }
