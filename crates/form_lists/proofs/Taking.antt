-- What is read of a move.
use Rattle.std.proofs.Common.{◌≡◌, ℕ, ◌*◌, ◌<◌, ◌≤◌, Bool, unsigned_abs, true, false, List, [], All, ℤ, pos, length, slice_index, sym, ap, ◌∙◌, subst, arith}
use Rattle.std.proofs.lemmas.List.Elements.{All-nil}
use Rattle.label_energies.specs.declared.change.Move.{Move}
use Rattle.label_energies.specs.declared.change.Move.TheVariants.{Expand, Swap}
use Rattle.label_energies.specs.Energies.{Instance}
use Rattle.label_energies.specs.Moves.{IsMoveOf, label_after}
use Rattle.cost_store.specs.declared.problem.Problem.{Problem}
use Rattle.cost_store.specs.Posed.{Closure, IsMeant, IsAsked}
use Rattle.move_energy.proofs.Values.{label_below}
use Rattle.move_energy.specs.declared.rises.EndRises.{EndRises}
use Rattle.form_lists.specs.declared.smooth_costs.AskedCosts.{AskedCosts}
use Rattle.site_forms.specs.Fields.{own_at, IsMadeLabel, AreRisesRead, HaveRowsOf, AreSymmetric, AreUnitRises, unit_rises_at, AreReadableLists}
use Rattle.move_energy.specs.declared.by_site.Neighbours.{Neighbours}
use Rattle.form_lists.specs.declared.lists.FormLists.{FormLists}
use Rattle.form_lists.specs.Lists.{was_asked, AreAskedCosts, AreMadeAsked, AreMoveLabels, AreCostsSmall, ArePairsRead, with_costs_at, IsReadNear}
use Rattle.site_forms.proofs.Entries.{site_label_within, label_within}

pub some_label : (k : ℕ) (move : Move) → IsMoveOf k move → 0 < k
some_label k (Expand a) of = omega (arith, of)
some_label k (Swap a b) of = omega (arith, of.0)

made_within : (k : ℕ) (move : Move) (at : List ℕ) (label : ℕ) → IsMoveOf k move → All (λ l. l < k) at → IsMadeLabel move at label → label < k
made_within k move at label of all made = label_below k move made.0 label made.1 of (site_label_within at k made.0 all made.2) made.3

made_was_asked : (move : Move) (at : List ℕ) (label : ℕ) (asked : AskedCosts) → AreMadeAsked move at asked → IsMadeLabel move at label → was_asked asked label ≡ true
made_was_asked move at label asked each made =
    ap (was_asked asked) (made.3 ∙ ap (λ old. label_after move old made.1) (sym made.2.2)) ∙ each made.2.0 made.1 made.2.1

pub read_of : {F V : Type 0} (f : Closure F) (v : Closure V) (problem : Problem F V) (ends : Neighbours) (at : List ℕ) (move : Move) (m : Instance) (lists : FormLists)
    → IsMeant f v problem m → IsAsked problem at move → AreAskedCosts f v problem lists.smooth → AreMoveLabels problem.data_cost.labels move lists
    → (lists.listed ≡ false → AreMadeAsked move at lists.smooth) → (lists.listed ≡ true → AreRisesRead m move ends at lists.rises.items)
    → ArePairsRead m move ends at lists
read_of {F} {V} f v problem ends at move m lists meant is known become made rises =
    let labels : problem.data_cost.labels ≡ m.labels = sym meant.labels_are in
    let L : ℕ → Type 0 = λ n. All (λ l. l < n) at in
    let M : ℕ → Type 0 = λ n. IsMoveOf n move in
    let within = subst L labels is.labels in
    let of = subst M labels is.move_of in
    record {
      sites = is.sites ∙ sym meant.sites_are;
      labels = within;
      after = λ old l. (let below : old < problem.data_cost.labels = omega (arith, l, labels) in (become.stays_are old below, become.turns_are old below));
      costs = λ weighted one other w a b.
          known.costs m meant one other (made_within m.labels move at one of within a) (made_within m.labels move at other of within b)
          (made_was_asked move at one lists.smooth (made weighted) a) (made_was_asked move at other lists.smooth (made weighted) b) w;
      rises = rises;
    }

-- lists of labels that stay as they were
pub become_still : (labels : ℕ) (move : Move) (old new : FormLists) → new.stays ≡ old.stays → new.turns ≡ old.turns → AreMoveLabels labels move old → AreMoveLabels labels move new
become_still labels move old new low high are = record {
  stays_len = ap (λ (v : _). length v.items) low ∙ are.stays_len;
  turns_len = ap (λ (v : _). length v.items) high ∙ are.turns_len;
  stays_are = λ l below. ap (λ (v : _). slice_index v.items l) low ∙ are.stays_are l below;
  turns_are = λ l below. ap (λ (v : _). slice_index v.items l) high ∙ are.turns_are l below;
  stays_below = λ l. (let e = ap (λ (v : _). slice_index v.items l) low in let b = are.stays_below l in omega (arith, e, b));
  turns_below = λ l. (let e = ap (λ (v : _). slice_index v.items l) high in let b = are.turns_below l in omega (arith, e, b));
}

-- lists of labels below k have rows in the costs of k labels
pub rows_within : (k : ℕ) (list smooth : List ℕ) → ((old : ℕ) → slice_index list old < k) → k * 256 ≤ length smooth → HaveRowsOf list smooth
rows_within k list smooth below room old = (let l = below old in omega (arith, l, room))

-- what the lists of a form hold, put together
pub lists_of : (labels : ℕ) (own : List ℤ) (at stays turns smooth : List ℕ) (symmetric few : Bool) (table : List EndRises) → All (λ l. l < labels) at → labels ≤ 256
    → length own ≡ length at → ((u : ℕ) → unsigned_abs (own_at own u) ≤ 10000000) → length stays ≡ 256 → length turns ≡ 256
    → ((old : ℕ) → slice_index stays old < labels) → ((old : ℕ) → slice_index turns old < labels) → labels * 256 ≤ length smooth
    → AreCostsSmall smooth → (symmetric ≡ true → AreSymmetric smooth) → (few ≡ true → labels ≤ 64) → (few ≡ true → length table ≡ 8192)
    → (few ≡ true → (first : Bool) (own other : ℕ) → own < labels → other < labels → AreUnitRises stays turns smooth first own other (unit_rises_at table first own other))
    → AreReadableLists own at stays turns smooth symmetric few table
lists_of labels own at stays turns smooth symmetric few table within most own_len own_small stays_len turns_len low high room small mirrored few_labels table_len rises = record {
  own_len = own_len;
  own_small = own_small;
  stays_len = stays_len;
  turns_len = turns_len;
  stays_below = λ old. (let l = low old in omega (arith, l, most));
  turns_below = λ old. (let l = high old in omega (arith, l, most));
  stays_rows = rows_within labels stays smooth low room;
  turns_rows = rows_within labels turns smooth high room;
  costs = small;
  mirrored = mirrored;
  table_len = table_len;
  few_labels = λ yes u inside. (let l = label_within at u labels inside within in let f = few_labels yes in omega (arith, l, f));
  rises = λ yes first one other a b. rises yes first one other (site_label_within at labels one within a) (site_label_within at labels other within b);
}

-- what was read of pairs does not hang on what labels cost sites
pub pairs_near : (m : Instance) (asked : ℕ → Bool) (move : Move) (ends : Neighbours) (at : List ℕ) (lists : FormLists) → ArePairsRead m move ends at lists
    → ArePairsRead (with_costs_at asked m) move ends at lists
pairs_near m asked move ends at lists read = record { sites = read.sites; labels = read.labels; after = read.after; costs = read.costs; rises = read.rises }

-- so of lists that have no own rise yet
pub begun_of : (m : Instance) (move : Move) (ends : Neighbours) (at : List ℕ) (lists : FormLists) → ArePairsRead m move ends at lists
    → ((u : ℕ) → own_at lists.own.rises.items u ≡ pos 0) → IsReadNear m move ends at lists []
begun_of m move ends at lists read zeros = record {
  asked = λ p. false;
  covers = All-nil _;
  read = record { pairs = pairs_near m (λ p. false) move ends at lists read; own_are = λ u l. zeros u };
}
